-- Texts that are gathered one behind another.
use Rattle.std.proofs.Common.{◌≡◌, ◌∙◌, ◌+◌, ◌<◌, ◌∷◌, ℕ, List, [], Option, ap, get_or, length, sym, take, append-nil}
use Rattle.std.proofs.lemmas.List.Elements.{filter-append, filter_map-append}
use Rattle.std.specs.Borrow.{Bor}
use Rattle.std.specs.List.{filter, filter_map}
use Rattle.ix_base.specs.declared.tree.Spot.{Spot}
use Rattle.ix_base.specs.LocatedElements.{Located, is_item, located}
use Rattle.ix_base.specs.Once.{in_order}
use Rattle.ix_base.specs.SortedLists.{text_cmp}
use Rattle.id_table.specs.Tables.{all_located}
use Rattle.id_table.specs.Gathered.{Gathers}
use Rattle.id_table.proofs.GatherLaws.{gathers-more}
use Rattle.target_contents.proofs.AmongLaws.{located-more}

-- all of them, put in order
pub gathers-all : (new all : List (List ℕ)) → Gathers [] new all → in_order text_cmp new ≡ in_order text_cmp all
gathers-all new all g = ap (in_order text_cmp) (sym (append-nil new)) ∙ g [] ∙ ap (in_order text_cmp) (append-nil all)

-- what one item more names
pub named-more : (spots : List (Bor Spot)) (i : ℕ) (s : Bor Spot) → i < length spots → s ≡ get_or spots i s → (form : Located → Option (List ℕ))
    → (old new : List (List ℕ)) → Gathers [] old (filter_map form (filter is_item (all_located (take i spots))))
    → Gathers old new (filter_map form (filter is_item (located s.now ∷ [])))
    → Gathers [] new (filter_map form (filter is_item (all_located (take (i + 1) spots))))
named-more spots i s l is form old new before here =
    let more = located s.now ∷ [] in
    let first = all_located (take i spots) in
    gathers-more [] old new (filter_map form (filter is_item first)) (filter_map form (filter is_item more)) _
    (ap (λ xs. filter_map form (filter is_item xs)) (located-more spots i s l is) ∙ ap (filter_map form) (filter-append is_item first more)
    ∙ filter_map-append form (filter is_item first) (filter is_item more))
    before here
