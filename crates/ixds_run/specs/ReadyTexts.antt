-- What is ready of a command before anything of it is given.
use Rattle.std.specs.Prelude.{IfOk, Result}
use Rattle.page_session.specs.Sources.{Source}
use Rattle.page_verdicts.specs.SourceCalls.{AreGathered}
use Rattle.page_verdicts.specs.CommandBytes.{AreSome, bytes_told}
use Rattle.ixds_run.specs.DueTables.{IsDueFrom}
use Rattle.ixds_run.specs.ScriptRuns.{IsFollowed, IsSilent}
use Rattle.command_words.specs.declared.command.Command.{Command}
use Rattle.command_words.specs.declared.command.Command.TheVariants.{Session}
use Rattle.ixds_run.specs.declared.due.Due.{Due}
use Rattle.page_verdicts.specs.declared.read_pages.Stopped.{Stopped}

-- The pages of a command were read or made, and this is due of them; or why it isn't.
pub record IsPrepared (c : Command) (old new : Source) (Same : Type 0) (result : Result Due Stopped) : Type 0 where
  pub due : IfOk result (λ due. AreSome (bytes_told old.page c) (λ bs. IsDueFrom c bs due))
  pub silent : IfOk result IsSilent
  pub gathered : AreGathered c old new Same result

-- the same of any command: a session's script was followed
abbrev pub IsReady : Command → (old new : Source) → (Same : Type 0) → Result Due Stopped → Type 0
IsReady (Session base dir script) old new Same result = IsFollowed base script old new result
IsReady c old new Same result = IsPrepared c old new Same result
