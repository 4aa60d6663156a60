-- What a run gives of what is due.
use Rattle.std.specs.Prelude.{◌≡◌, ℕ, List, Option}
use Rattle.ix_base.specs.Outside.{Begun, TextGainsFront}
use Rattle.page_verdicts.specs.Gains.{GainsAll, GainsPart, GainsText, Words}
use Rattle.command_words.specs.declared.command.Command.{Command}
use Rattle.ixds_run.specs.declared.status.Status.{Status}
use Rattle.ixds_run.specs.DueOutcomes.{DueOutcome, IsOutcome}

-- what is due with this status was given, all of it
abbrev pub Gives : Status → (targets targets' : Option (List Begun)) → (taken taken' : Option (List ℕ))
    → Command → List (List ℕ) → Type 0
Gives status targets targets' taken taken' c bs =
    (due : DueOutcome) × IsOutcome c bs due × (due.status ≡ status)
    × GainsAll due.targets targets targets' × GainsText due.text taken taken'

-- of the targets that are due a part was given
abbrev pub GivesPart : (targets targets' : Option (List Begun)) → (asked : Words) → Command → List (List ℕ) → Type 0
GivesPart targets targets' asked c bs =
    (due : DueOutcome) × IsOutcome c bs due × GainsPart due.targets targets targets' asked

-- the targets that are due were given, all of them, and of the text a front
abbrev pub GivesFront : (targets targets' : Option (List Begun)) → (taken taken' : Option (List ℕ))
    → Command → List (List ℕ) → Type 0
GivesFront targets targets' taken taken' c bs =
    (due : DueOutcome) × IsOutcome c bs due
    × GainsAll due.targets targets targets' × TextGainsFront due.text taken taken'
