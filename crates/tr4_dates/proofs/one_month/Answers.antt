use Rattle.tr4_dates.proofs.MonthKeys.{one_month as one_month_law}
use Rattle.tr4_dates.proofs.one_month.Goals as goal

pub returns : goal.returns
returns c = λ l text m n first second. one_month_law l text m n first second
