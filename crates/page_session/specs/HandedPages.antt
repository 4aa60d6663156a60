-- Pages as they are handed over, and what putting and dropping them does to a list of them.
use Rattle.std.specs.Prelude.{ℕ, suc, ◌==◌, nat_lt, Bool, not, ◌&&◌, List, [], ◌∷◌, length, map, bytes_eq, if◌then◌else◌}
use Rattle.ix_base.specs.declared.limits.TheConstants.{MOST_PAGES}

-- a page as it is handed over: its name and its bytes
pub record Handed : Type 0 where
  pub name : List ℕ
  pub bytes : List ℕ

abbrev pub handed : List ℕ → List ℕ → Handed
handed name bytes = record { name = name; bytes = bytes }

abbrev pub names_of : List Handed → List (List ℕ)
names_of pages = map (λ p. p.name) pages

abbrev pub bytes_of : List Handed → List (List ℕ)
bytes_of pages = map (λ p. p.bytes) pages

-- a page put among pages: in place of the one of its name, or behind them all
abbrev pub put_in : Handed → List Handed → List Handed
put_in p [] = p ∷ []
put_in p (q ∷ qs) = if bytes_eq q.name p.name then p ∷ qs else q ∷ put_in p qs

-- pages without the one of this name
abbrev pub drop_in : List ℕ → List Handed → List Handed
drop_in name [] = []
drop_in name (q ∷ qs) = if bytes_eq q.name name then qs else q ∷ drop_in name qs

-- the index of the first of these names that is this one, or their number
abbrev pub place_of : List (List ℕ) → List ℕ → ℕ
place_of [] name = 0
place_of (n ∷ ns) name = if bytes_eq n name then 0 else suc (place_of ns name)

-- a page of this name is there, where these are the names of those that are
abbrev pub is_there : List (List ℕ) → List ℕ → Bool
is_there names name = nat_lt (place_of names name) (length names)

-- it isn't, and there are as many as may be
abbrev pub is_one_too_many : List (List ℕ) → List ℕ → Bool
is_one_too_many names name = not (is_there names name) && (length names == MOST_PAGES)
