-- How the program ends.
use Rattle.std.specs.Prelude.{◌≡◌}
use Rattle.std.specs.Process.{exit_status}
use Rattle.std.specs.declared.process.ExitCode.{ExitCode}
use Rattle.ixds_run.specs.ExitCodes.{code_of}
use Rattle.ixds_run.specs.declared.status.Status.{Status}

-- with the code of this status
abbrev pub EndsWith : ExitCode → Status → Type 0
EndsWith exit status = exit_status exit ≡ code_of status
