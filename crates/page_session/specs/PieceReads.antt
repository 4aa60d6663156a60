-- Reading a page piece by piece.
use Rattle.std.specs.Prelude.{◌≡◌, ◌⊎◌, ℕ, ◌+◌, ◌^◌, ◌<◌, ◌≤◌, Bool, true, ◌&&◌, IsTrue, nat_le, List, [], ◌∷◌, ◌++◌, length, Option, Some, IfSome, option_map, Result, Ok, Err, OnOk}
use Rattle.ix_base.specs.Outside.{TellsAlso}
use Rattle.ix_base.specs.declared.limits.TheConstants.{PIECE}
use Rattle.targets.specs.Breaches.{tags_in}
use Rattle.page_session.specs.Sources.{Source}
use Rattle.page_session.specs.declared.reading.ReadError.{ReadError}
use Rattle.page_session.specs.declared.reading.ReadError.TheVariants as read_error
use Rattle.page_session.specs.declared.reading.Sums.{Sums}

-- a read that failed was the last call
abbrev pub IsLastCall : {X : Type 0} → (failed : Bool) → Result X ReadError → Type 0
IsLastCall failed (Ok x) = Unit {0}
IsLastCall failed (Err read_error.Failed) = IsTrue failed
IsLastCall failed (Err read_error.NoMemory) = Unit {0}

-- A read that failed raised the count of faults; any other answer left it.
abbrev pub HasReadCause : {X : Type 0} → (before now : ℕ) → Result X ReadError → Type 0
HasReadCause before now (Ok x) = now ≡ before
HasReadCause before now (Err read_error.Failed) = before < now
HasReadCause before now (Err read_error.NoMemory) = now ≡ before

-- neither sum is above its number
abbrev pub is_within : Sums → Sums → Bool
is_within sums most = nat_le sums.bytes most.bytes && nat_le sums.tags most.tags

-- Of a page a front was read, which was taken and by which the sums grew. Where the source tells the page, it is that page's
-- front, and the rest is left.
pub record HasFed (took : List ℕ → Type 0) (page left : Option (List ℕ)) (before now : Sums) : Type 0 where
  pub front : List ℕ
  pub taken : took front
  pub bytes : now.bytes ≡ before.bytes + length front
  pub tags : now.tags ≡ before.tags + tags_in front
  pub told : IfSome page (λ b. (rest : List ℕ) × (b ≡ front ++ rest) × (left ≡ Some rest))

-- That front is the whole page, unless a sum is above its number.
abbrev pub IsWhole : Option (List ℕ) → Option (List ℕ) → (sums most : Sums) → Type 0
IsWhole page left sums most = is_within sums most ≡ true → IfSome page (λ b. left ≡ Some [])

-- The sums can be read on with, to these numbers and a piece more: no more tags than bytes were counted.
pub record MayGrow (sums most : Sums) : Type 0 where
  pub bytes : sums.bytes ≤ most.bytes
  pub fits : most.bytes + PIECE < 2 ^ 64
  pub tags : sums.tags ≤ sums.bytes

-- the sums passed their numbers by a piece at most
pub record HaveGrown (sums most : Sums) : Type 0 where
  pub bytes : sums.bytes ≤ most.bytes + PIECE
  pub tags : sums.tags ≤ sums.bytes

-- What reading on in the started page leaves of a source.
pub record LeavesSource {X : Type 0} (old new : Source) (result : Result X ReadError) : Type 0 where
  pub cause : HasReadCause old.faults new.faults result
  pub failed : IsLastCall new.failed result
  pub asked : new.asked ≡ old.asked
  pub starts : new.starts ≡ old.starts
  pub pages : new.page ≡ old.page
  pub numbers : new.numbers ≡ old.numbers

-- What reading the page of this name leaves of a source: it was asked for.
pub record AsksFor {X : Type 0} (name : List ℕ) (old new : Source) (result : Result X ReadError) : Type 0 where
  pub cause : HasReadCause old.faults new.faults result
  pub failed : IsLastCall new.failed result
  pub named : IfSome new.asked (λ n. n ≡ name)
  pub starts : new.starts ≡ option_map (λ names. names ++ name ∷ []) old.starts
  pub pages : new.page ≡ old.page
  pub numbers : new.numbers ≡ old.numbers
  pub told : OnOk result (TellsAlso old.page name)

-- What trying to read the page of this name leaves of a source: it was asked for, unless memory was wanted before, and it was begun
-- where it was read.
pub record Tries {X : Type 0} (name : List ℕ) (old new : Source) (Same : Type 0) (result : Result X ReadError) : Type 0 where
  pub cause : HasReadCause old.faults new.faults result
  pub failed : IsLastCall new.failed result
  pub named : result ≡ Err read_error.Failed → IfSome new.asked (λ n. n ≡ name)
  pub asked : Same ⊎ IfSome new.asked (λ n. n ≡ name)
  pub starts : (new.starts ≡ old.starts) ⊎ (new.starts ≡ option_map (λ names. names ++ name ∷ []) old.starts)
  pub started : OnOk result (new.starts ≡ option_map (λ names. names ++ name ∷ []) old.starts)
  pub pages : new.page ≡ old.page
  pub numbers : new.numbers ≡ old.numbers
  pub told : OnOk result (TellsAlso old.page name)
