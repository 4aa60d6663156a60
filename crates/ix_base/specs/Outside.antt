-- What the objects of the outside tell, and what their calls do to it.
use Rattle.std.specs.Prelude.{◌≡◌, ℕ, ◌+◌, ◌<◌, ◌≤◌, Bool, true, false, not, List, [], ◌∷◌, ◌++◌, length, take, drop, Result, Option, OnOk, OnErr, IfSome, IsTrue, is_err, is_some, option_map, Some, None, if◌then◌else◌, bytes_eq}

-- A failure has a cause: the count rose in this call. Ok leaves it.
pub record HasCause {A E : Type 0} (before now : ℕ) (result : Result A E) : Type 0 where
  pub ok : OnOk result (now ≡ before)
  pub failed : OnErr result (before < now)

-- What a call did to an object's count of faults: a failure has its cause, the object tells whether its last call failed, and the
-- numbers by which it was made are as before.
pub record IsCounted {A E : Type 0} (before now : ℕ) (fails : Bool) (made makes : List ℕ) (result : Result A E) : Type 0 where
  pub cause : HasCause before now result
  pub failed : fails ≡ is_err result
  pub numbers : makes ≡ made

-- a source that tells the bytes of some page tells those of this one
abbrev pub TellsAlso : (List ℕ → Option (List ℕ)) → List ℕ → Type 0
TellsAlso page name = (n : List ℕ) → IsTrue (is_some (page n)) → IsTrue (is_some (page name))

-- a read of n bytes into a buffer, from what is left of the page: none exactly at its end
pub record ReadsFrom (rest buf : List ℕ) (n : ℕ) : Type 0 where
  pub within : n ≤ length rest
  pub bytes : take n buf ≡ take n rest
  pub end : n ≡ 0 → rest ≡ []

-- The page of a name was begun: what is left is all of it, and a source that tells the bytes of some page tells those of this one.
pub record Begins (page : List ℕ → Option (List ℕ)) (rest : Option (List ℕ)) (name : List ℕ) : Type 0 where
  pub told : TellsAlso page name
  pub left : rest ≡ page name

-- a read of n bytes, of what was left before and is left now, into a buffer with room for so many
pub record Gives (before now : Option (List ℕ)) (room : ℕ) (buf : List ℕ) (n : ℕ) : Type 0 where
  pub within : n ≤ room
  pub bytes : IfSome before (λ rest. ReadsFrom rest buf n)
  pub left : now ≡ option_map (drop n) before

-- a source tells the names that it was asked for as before: the last one, and all of them
pub record SameNames (asked asks : Option (List ℕ)) (starts begins : Option (List (List ℕ))) : Type 0 where
  pub last : asks ≡ asked
  pub all : begins ≡ starts

-- a target that was begun
pub record Begun : Type 0 where
  pub dir : List ℕ
  pub name : List ℕ
  pub bytes : List ℕ
  pub finished : Bool

-- a target as begin leaves it
abbrev pub begun : List ℕ → List ℕ → Begun
begun dir name = record { dir = dir; name = name; bytes = []; finished = false }

-- how many bytes targets take: of their directory words, of their names, and what they hold
abbrev pub room_of : List Begun → ℕ
room_of [] = 0
room_of (t ∷ ts) = length t.dir + (length t.name + length t.bytes) + room_of ts

-- the first target of this name
abbrev pub first_named : List ℕ → List Begun → Option Begun
first_named name [] = None
first_named name (t ∷ ts) = if bytes_eq t.name name then Some t else first_named name ts

-- the last target is there and unfinished
abbrev pub is_last_open : List Begun → Bool
is_last_open [] = false
is_last_open (t ∷ []) = not t.finished
is_last_open (t ∷ u ∷ ts) = is_last_open (u ∷ ts)

-- the last target has taken these bytes too, and the others are the same
abbrev pub last_grown : List ℕ → List Begun → List Begun
last_grown piece [] = []
last_grown piece (t ∷ []) = record t { bytes = t.bytes ++ piece } ∷ []
last_grown piece (t ∷ u ∷ ts) = t ∷ last_grown piece (u ∷ ts)

-- the last target is finished, and the others are the same
abbrev pub last_finished : List Begun → List Begun
last_finished [] = []
last_finished (t ∷ []) = record t { finished = true } ∷ []
last_finished (t ∷ u ∷ ts) = t ∷ last_finished (u ∷ ts)

-- the last target gained some front of these bytes
abbrev pub GainsFront : List ℕ → Option (List Begun) → Option (List Begun) → Type 0
GainsFront bytes old new = (n : ℕ) × (new ≡ option_map (last_grown (take n bytes)) old)

-- a text gained some front of these bytes
abbrev pub TextGainsFront : List ℕ → Option (List ℕ) → Option (List ℕ) → Type 0
TextGainsFront bytes old new = (n : ℕ) × (new ≡ option_map (λ t. t ++ take n bytes) old)
