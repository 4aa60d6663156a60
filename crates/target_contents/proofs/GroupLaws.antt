-- Elements by the targets for which they stand.
use Rattle.std.proofs.Common.{◌≡◌, ◌∙◌, ap, refl, ℕ, Bool, true, false, List, Option, Some, None}
use Rattle.std.specs.Borrow.{Bor}
use Rattle.std.specs.Global.{Global}
use Rattle.std.specs.List.{filter}
use Rattle.std.specs.Prelude.{◌&&◌, Vec, bytes_eq, if◌then◌else◌}
use Rattle.std.proofs.lemmas.List.Elements.{filter_agree}
use Rattle.text_map.specs.Texts.{Texts}
use Rattle.ix_base.specs.declared.kind.Kind.TheVariants as kind
use Rattle.ix_base.specs.declared.tree.Spot.{Spot}
use Rattle.ix_base.specs.LinkRules.{is_schema_for, target_above, target_of}
use Rattle.ix_base.specs.LocatedElements.{Located, is_fact, is_kind, is_text, located}
use Rattle.id_table.proofs.Asking.{map-filter}
use Rattle.id_table.specs.Tables.{HasEach, all_located, spots_at}
use Rattle.target_contents.specs.declared.groups.Group.TheVariants as group
use Rattle.target_contents.specs.Contents.{is_linkbase_for}
use Rattle.target_contents.specs.Groups.{is_fact_of, key_by}

keyed : (q t : List ℕ) (b : Bool) → is_text q (if b then Some t else None) ≡ (b && bytes_eq q t)
keyed q t true = refl
keyed q t false = refl

-- the elements that stand for a target are those whose key it is
each-located : (key : Located → Option (List ℕ)) (m : Texts (Vec (Bor Spot) Global)) (spots : List (Bor Spot)) (es : List Located)
    → all_located spots ≡ es → HasEach key m spots → (q : List ℕ) → all_located (spots_at m q) ≡ filter (λ e. is_text q (key e)) es
each-located key m spots es e h q =
    ap all_located (h q) ∙ map-filter (λ (s : Bor Spot). located s.now) (λ x. is_text q (key x)) spots ∙ ap (filter (λ x. is_text q (key x))) e

pub facts-at : (m : Texts (Vec (Bor Spot) Global)) (spots : List (Bor Spot)) (es : List Located)
    → all_located spots ≡ es → HasEach (key_by group.Facts) m spots → (q : List ℕ) → all_located (spots_at m q) ≡ filter (is_fact_of q) es
facts-at m spots es e h q =
    each-located (key_by group.Facts) m spots es e h q ∙ filter_agree _ (is_fact_of q) (λ x. keyed q (target_of x) (is_fact x)) es

pub schemas-at : (m : Texts (Vec (Bor Spot) Global)) (spots : List (Bor Spot)) (es : List Located)
    → all_located spots ≡ es → HasEach (key_by group.Schemas) m spots → (q : List ℕ) → all_located (spots_at m q) ≡ filter (is_schema_for q) es
schemas-at m spots es e h q =
    each-located (key_by group.Schemas) m spots es e h q
    ∙ filter_agree _ (is_schema_for q) (λ x. keyed q (target_above x.placed.above) (is_kind kind.SchemaRef x)) es

pub linkbases-at : (m : Texts (Vec (Bor Spot) Global)) (spots : List (Bor Spot)) (es : List Located)
    → all_located spots ≡ es → HasEach (key_by group.Linkbases) m spots → (q : List ℕ) → all_located (spots_at m q) ≡ filter (is_linkbase_for q) es
linkbases-at m spots es e h q =
    each-located (key_by group.Linkbases) m spots es e h q
    ∙ filter_agree _ (is_linkbase_for q) (λ x. keyed q (target_above x.placed.above) (is_kind kind.LinkbaseRef x)) es
