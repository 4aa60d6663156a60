-- What is done with the part of a target: the file in which it is written until it is whole.
use Rattle.std.specs.Prelude.{◌≡◌, ◌⊎◌, ℕ, List, [], ◌∷◌, Option, None, Some}
use Rattle.ixds_files.specs.Deeds.{Deed, looked, created, synced, entered, renamed, settled, removed, did}

-- a part that lies somewhere was removed
abbrev pub cleared : Option (List ℕ) → Option (List Deed) → Option (List Deed)
cleared None deeds = deeds
cleared (Some beside) deeds = did (removed beside ∷ []) deeds

-- a part was made beside a place, for those who may read and write what stands there
abbrev pub MakesPart : List ℕ → Option (List ℕ) → Option (List Deed) → Option (List Deed) → Type 0
MakesPart place None old new = ⊥
MakesPart place (Some beside) old new =
    (found : Option ℕ) × (new ≡ did (looked place found ∷ created beside found ∷ []) old)

-- nothing was made
abbrev pub LooksAtMost : List ℕ → Option (List Deed) → Option (List Deed) → Type 0
LooksAtMost place old new = (new ≡ old) ⊎ ((found : Option ℕ) × (new ≡ did (looked place found ∷ []) old))

-- what a part held stands on the disk, and then it took its place, whose folder stands on the disk, too
abbrev pub PlacesPart : Option (List ℕ) → Option (List ℕ) → List ℕ → List ℕ → Option (List Deed) → Option (List Deed) → Type 0
PlacesPart None held dir place old new = ⊥
PlacesPart (Some beside) held dir place old new =
    new ≡ did (synced held ∷ entered dir ∷ renamed beside place ∷ settled ∷ []) old

-- what a part holds stands on the disk, at most
abbrev pub SyncsAtMost : Option (List ℕ) → List ℕ → Option (List Deed) → Option (List Deed) → Type 0
SyncsAtMost held dir old new =
    (new ≡ old) ⊎ ((new ≡ did (synced held ∷ []) old) ⊎ (new ≡ did (synced held ∷ entered dir ∷ []) old))

-- nothing took another place, and a part was removed
abbrev pub LeavesPlace : Option (List ℕ) → Option (List ℕ) → List ℕ → Option (List Deed) → Option (List Deed) → Type 0
LeavesPlace lies held dir old new =
    (new ≡ cleared lies old)
    ⊎ ((new ≡ cleared lies (did (synced held ∷ []) old)) ⊎ (new ≡ cleared lies (did (synced held ∷ entered dir ∷ []) old)))

-- a part took its place, and no more is known of the folder
abbrev pub LeavesFolder : Option (List ℕ) → Option (List ℕ) → List ℕ → List ℕ → Option (List Deed) → Option (List Deed) → Type 0
LeavesFolder None held dir place old new = ⊥
LeavesFolder (Some beside) held dir place old new =
    new ≡ did (synced held ∷ entered dir ∷ renamed beside place ∷ []) old
