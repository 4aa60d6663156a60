-- Asking a source for the pages of a command, and what it then tells.
use Rattle.std.specs.Prelude.{◌≡◌, ◌⊎◌, ◌++◌, ◌∷◌, [], ℕ, List, None, IfSome, Result, IfErr, OnOk, option_map}
use Rattle.ix_base.specs.Outside.{TellsAlso}
use Rattle.page_session.specs.Sources.{Source}
use Rattle.command_words.specs.Commands.{number_of, pages_of}
use Rattle.page_verdicts.specs.Gains.{GainsStarts}
use Rattle.page_verdicts.specs.PageReads.{IsAmong, StopsAt, StopsInTime, WhyStopped}
use Rattle.command_words.specs.declared.command.Command.{Command}
use Rattle.page_verdicts.specs.declared.read_pages.Stopped.{Stopped}

-- The page of this name was asked for and read, unless it can't be read or memory was wanted; want of memory may come before it is
-- asked for.
pub record IsTried {X : Type 0} (name : List ℕ) (old new : Source) (Same : Type 0) (result : Result X Stopped) : Type 0 where
  pub ok : OnOk result (new.faults ≡ old.faults)
  pub stopped : IfErr result (StopsAt name new.asked old.faults new.faults new.failed)
  pub named : OnOk result (IfSome new.asked (λ n. n ≡ name))
  pub asked : Same ⊎ IfSome new.asked (λ n. n ≡ name)
  pub started : OnOk result (new.starts ≡ option_map (λ names. names ++ name ∷ []) old.starts)
  pub starts : (new.starts ≡ old.starts) ⊎ (new.starts ≡ option_map (λ names. names ++ name ∷ []) old.starts)
  pub pages : new.page ≡ old.page
  pub numbers : new.numbers ≡ old.numbers
  pub told : OnOk result (TellsAlso old.page name)

-- Pages of these names were asked for and read, in this order: all of them, or up to one that can't be read, or to where memory
-- was wanted.
pub record AreAsked {X : Type 0} (names : List (List ℕ)) (old new : Source) (Same : Type 0) (result : Result X Stopped) : Type 0 where
  pub ok : OnOk result (new.faults ≡ old.faults)
  pub stopped : IfErr result (WhyStopped old.page names new.asked old.faults new.faults new.failed)
  pub asked : Same ⊎ ((name : List ℕ) × IsAmong old.page names new.asked name)
  pub starts : GainsStarts names old.starts new.starts
  pub pages : new.page ≡ old.page
  pub numbers : new.numbers ≡ old.numbers

-- The pages of a command were asked for so, and reading stopped in time. Those of a sample are made, and its source is the same.
pub record AreGathered {X : Type 0} (c : Command) (old new : Source) (Same : Type 0) (result : Result X Stopped) : Type 0 where
  pub asks : AreAsked (pages_of c) old new Same result
  pub stops : OnOk result (number_of c ≡ None → StopsInTime old.page (pages_of c) new.left new.asked)
  pub sample : IfSome (number_of c) (λ n. Same)
