-- What a text or a list gains.
use Rattle.std.specs.Prelude.{◌≡◌, ℕ, List, ◌∷◌, ◌++◌}
use Rattle.ix_base.specs.WrittenMarkup.{Attribute, attrs_text}

-- what was there stays, and behind it stands what `f` puts in front of whatever follows
abbrev pub Gains : {X : Type 0} → List X → List X → (List X → List X) → Type 0
Gains {X} old new f = (more : List X) → new ++ more ≡ old ++ f more

-- what was there ends before the end quote of an attribute's value, and gains further attributes before that of the last one
abbrev pub GainsAttributes : List ℕ → List ℕ → List Attribute → Type 0
GainsAttributes old new attrs = (more : List ℕ) → new ++ 34 ∷ more ≡ old ++ 34 ∷ attrs_text attrs more

-- what was there gains the start tag of an element of this name with these attributes, before the end quote of the last one
abbrev pub GainsOpened : List ℕ → List ℕ → List ℕ → List Attribute → Type 0
GainsOpened old new name attrs = (more : List ℕ) → new ++ 34 ∷ more ≡ old ++ 60 ∷ (name ++ attrs_text attrs more)

-- what was there gains what `f` puts in front of whatever follows, before its last `>`
abbrev pub GainsUnclosed : List ℕ → List ℕ → (List ℕ → List ℕ) → Type 0
GainsUnclosed old new f = (more : List ℕ) → new ++ 62 ∷ more ≡ old ++ f more
