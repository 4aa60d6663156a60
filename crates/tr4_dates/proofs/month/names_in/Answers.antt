use Rattle.std.proofs.Common.{rules}
use Rattle.std.specs.Str.{chars}
use Rattle.tr4_dates.specs.Languages.{names}
use Rattle.tr4_dates.proofs.month.names_in.Goals as goal

pub returns-in-En : goal.returns-in-En
unfolding names chars
returns-in-En c = search rules

pub returns-in-Fr : goal.returns-in-Fr
unfolding names chars
returns-in-Fr c = search rules

pub returns-in-Es : goal.returns-in-Es
unfolding names chars
returns-in-Es c = search rules

pub returns-in-De : goal.returns-in-De
unfolding names chars
returns-in-De c = search rules

pub returns-in-It : goal.returns-in-It
unfolding names chars
returns-in-It c = search rules

pub returns-in-Nl : goal.returns-in-Nl
unfolding names chars
returns-in-Nl c = search rules
