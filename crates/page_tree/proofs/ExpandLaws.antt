-- Attributes that are expanded one after another.
use Rattle.std.proofs.Common.{◌≡◌, ℕ, ◌<◌, ◌+◌, List, [], ◌∷◌, ◌++◌, length, drop, map, get_or, Option, option_to_list, Some, None, refl, sym, ap, ◌∙◌, append_assoc}
use Rattle.std.specs.List.{cons_option, filter_map}
use Rattle.std.proofs.lemmas.List.{drop_more, map-append}
use Rattle.std.proofs.lemmas.List.Elements.{All-push, All-same}
use Rattle.ix_base.specs.Bindings.{Bound}
use Rattle.ix_base.specs.Spaces.{Space, space_of}
use Rattle.page_tree.specs.Expansions.{Expansion, expansion_of}
use Rattle.page_tree.specs.Spaces.{AreFrom, HasNumber, IsFrom, spaces_expanded}
use Rattle.page_constructs.specs.Model.{attribute_of}
use Rattle.page_tree.specs.declared.names.Expanded.{Expanded}
use Rattle.page_constructs.specs.declared.token.Attribute.{Attribute}

listed : (o : Option Expansion) (es : List Expansion) → option_to_list o ++ es ≡ cons_option o es
listed None es = refl
listed (Some e) es = refl

-- what is due of the attributes from a place on
abbrev from : List Bound → ℕ → List Attribute → List Expansion
from bs i all = filter_map (expansion_of bs) (map attribute_of (drop i all))

module _ (bs : List Bound) (all : List Attribute) (i : ℕ) (a : Attribute) (r : List Expansion) (is : a ≡ get_or all i a) (l : i < length all) where
  first : from bs i all ≡ cons_option (expansion_of bs (attribute_of a)) (from bs (i + 1) all)
  first =
      ap (λ as'. filter_map (expansion_of bs) (map attribute_of as')) (drop_more all i a l)
      ∙ ap (λ (y : Attribute). cons_option (expansion_of bs (attribute_of y)) (from bs (i + 1) all)) (sym is)

  pub expanded-more : (old more : List Expansion) → more ≡ old ++ option_to_list (expansion_of bs (attribute_of a)) → old ++ from bs i all ≡ r
      → more ++ from bs (i + 1) all ≡ r
  expanded-more old more m so =
      let one = expansion_of bs (attribute_of a) in
      ap (λ xs. xs ++ from bs (i + 1) all) m ∙ append_assoc old (option_to_list one) (from bs (i + 1) all)
      ∙ ap (λ xs. old ++ xs) (listed one (from bs (i + 1) all) ∙ sym first) ∙ so

-- one more is from the scope
pub from-more : (around : List Space) (old more : List Expanded) (e : Expanded) → more ≡ old ++ e ∷ [] → IsFrom around (space_of e.name.now)
    → AreFrom around (spaces_expanded old) → AreFrom around (spaces_expanded more)
from-more around old more e m one h numbers all =
    All-same (HasNumber numbers) (spaces_expanded more) (spaces_expanded old ++ space_of e.name.now ∷ [])
    (ap spaces_expanded m ∙ map-append (λ (x : Expanded). space_of x.name.now) old (e ∷ []))
    (All-push (HasNumber numbers) (spaces_expanded old) (space_of e.name.now) (h numbers all) (one numbers all))
