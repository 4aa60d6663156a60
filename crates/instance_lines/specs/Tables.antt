-- An instance's own namespaces, as they are gathered and looked up.
use Rattle.std.specs.Prelude.{◌≡◌, ℕ, List, [], ◌∷◌, ◌++◌, map, if◌then◌else◌}
use Rattle.std.specs.Ordering.{nat_cmp}
use Rattle.std.specs.Cmp.Lexicographic.{slice_cmp}
use Rattle.std.specs.BTreeMap.{BTreeMap, get_by}
use Rattle.ix_base.specs.declared.content.OwnName.{OwnName}
use Rattle.ix_base.specs.Once.{in_order}
use Rattle.ix_base.specs.SortedLists.{text_cmp}
use Rattle.instance_lines.specs.Prefixes.{is_known, numbered}
use Rattle.instance_lines.specs.SpelledNames.{start_in}
use denote.Ref.{Bor}

-- what references point to
abbrev pub values_of : {X : Type 0} → List (Bor X) → List X
values_of xs = map (λ x. x.now) xs

-- the namespaces of names that need prefixes of their own, as often as they stand
abbrev pub own_spaces : List OwnName → List (List ℕ)
own_spaces [] = []
own_spaces (n ∷ ns) = if is_known n.ns then own_spaces ns else n.ns ∷ own_spaces ns

-- put in order, each once, the new namespaces are what the old ones are with those of the names that `f` puts in front of whatever
-- names follow
abbrev pub GainsSpaces : List (List ℕ) → List (List ℕ) → (List OwnName → List OwnName) → Type 0
GainsSpaces old new f = (more : List OwnName) → in_order text_cmp (new ++ own_spaces more) ≡ in_order text_cmp (old ++ own_spaces (f more))

-- the table has the prefixes of these namespaces with their colons, which are numbered from there on, and no others
abbrev pub Agrees : BTreeMap (Bor (List ℕ)) (List ℕ) → ℕ → List (Bor (List ℕ)) → Type 0
Agrees table first spaces = (q : List ℕ) → get_by (λ k. slice_cmp nat_cmp q k.now) table ≡ start_in (numbered first (values_of spaces)) q
