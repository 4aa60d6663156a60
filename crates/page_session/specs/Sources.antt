-- The bytes of pages that a source tells, and what else it tells.
use Rattle.std.specs.Prelude.{ℕ, Bool, IsTrue, is_some, List, [], ◌∷◌, Option, Some, None}
use Rattle.ix_base.specs.declared.outside.PageSource as source

abbrev pub told_both : Option (List ℕ) → Option (List (List ℕ)) → Option (List (List ℕ))
told_both None rest = None
told_both (Some b) None = None
told_both (Some b) (Some bs) = Some (b ∷ bs)

-- the bytes of the pages of these names, where the source tells them all
abbrev pub told : (List ℕ → Option (List ℕ)) → List (List ℕ) → Option (List (List ℕ))
told page [] = Some []
told page (n ∷ ns) = told_both (page n) (told page ns)

-- a source that tells the bytes of some page tells those of each of these
abbrev pub IsTelling : (List ℕ → Option (List ℕ)) → List (List ℕ) → Type 0
IsTelling page names = (n : List ℕ) → IsTrue (is_some (page n)) → IsTrue (is_some (told page names))

-- what a source of pages tells at one time: their bytes, what is left of the started one, the name asked for last, the names of all
-- starts, how often a call failed, whether the last one did, and the numbers by which the source was made
pub record Source : Type 0 where
  pub page : List ℕ → Option (List ℕ)
  pub left : Option (List ℕ)
  pub asked : Option (List ℕ)
  pub starts : Option (List (List ℕ))
  pub faults : ℕ
  pub failed : Bool
  pub numbers : List ℕ

abbrev pub source_told : {P : Type 0} → source.Ghosts P → P → Source
source_told source p = record {
  page = source.page p;
  left = source.left p;
  asked = source.asked p;
  starts = source.starts p;
  faults = source.faults p;
  failed = source.last_failed p;
  numbers = source.numbers p;
}
