use Rattle.page_text.proofs.Readings.{chars-begun}
use Rattle.page_text.proofs.laws.none_waits.Goals as goal

pub returns : goal.returns
returns c = chars-begun
