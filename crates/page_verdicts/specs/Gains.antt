-- What a run adds to the starts of pages, to the targets and to the text.
use Rattle.std.specs.Prelude.{◌≡◌, ◌⊎◌, ℕ, ◌+◌, false, List, [], ◌∷◌, ◌++◌, length, take, Option, IfSome, option_map}
use Rattle.ix_base.specs.Outside.{Begun}
use Rattle.ix_base.specs.declared.outside.TargetSink as sink

-- all of these targets were added, and nothing else
abbrev pub GainsAll : List Begun → Option (List Begun) → Option (List Begun) → Type 0
GainsAll due old new = new ≡ option_map (λ ts. ts ++ due) old

-- nothing of a target, or a front of its bytes, unfinished
abbrev pub IsCut : Begun → List Begun → Type 0
IsCut t part = (part ≡ []) ⊎ ((n : ℕ) × (part ≡ record t { bytes = take n t.bytes; finished = false } ∷ []))

-- nothing of this target was added, or a front of it
abbrev pub GainsCut : Begun → Option (List Begun) → Option (List Begun) → Type 0
GainsCut t old new = (part : List Begun) × IsCut t part × GainsAll part old new

-- what the last begin asked for: its two words, where they are told, and how many bytes these have together
pub record Words : Type 0 where
  pub told : Option (List ℕ × List ℕ)
  pub len : ℕ

-- what the last begin of a sink asked for
abbrev pub words_asked : {S : Type 0} → sink.Ghosts S → S → Words
words_asked sink s = record { told = sink.asked s; len = sink.asked_len s }

-- Of these targets one isn't whole. Those before it were added, whole and finished, and of it nothing or a front. It was asked
-- for last: for its directory and its name.
pub record GainsPart (due : List Begun) (old new : Option (List Begun)) (asked : Words) : Type 0 where
  pub whole : List Begun
  pub target : Begun
  pub behind : List Begun
  pub splits : due ≡ whole ++ target ∷ behind
  pub part : List Begun
  pub cut : IsCut target part
  pub gained : GainsAll (whole ++ part) old new
  pub asked_is : IfSome asked.told (λ words. words ≡ (target.dir, target.name))
  pub asked_len : asked.len ≡ length target.dir + length target.name

-- a text was added, and nothing else
abbrev pub GainsText : List ℕ → Option (List ℕ) → Option (List ℕ) → Type 0
GainsText text old new = new ≡ option_map (λ t. t ++ text) old

-- the starts of a source gained the first of these names, in their order, each once
abbrev pub GainsStarts : List (List ℕ) → Option (List (List ℕ)) → Option (List (List ℕ)) → Type 0
GainsStarts names old new = (n : ℕ) × (new ≡ option_map (λ starts. starts ++ take n names) old)
