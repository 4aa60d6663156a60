use Rattle.std.proofs.Common.{◌≡◌, ◌∙◌, ◌++◌, ◌+◌, ◌<◌, ◌∷◌, ℕ, List, [], ap, append_assoc, drop, get_or, length, map, refl, sym}
use Rattle.std.proofs.lemmas.List.{drop_more, map-append}
use Rattle.ix_base.specs.Spaces.{space_of}
use Rattle.ix_base.specs.Trees.{valued}
use Rattle.ix_base.specs.declared.tree.Attr.{Attr}
use Rattle.page_tree.specs.Expansions.{Expansion, expansion}
use Rattle.page_tree.specs.Spaces.{spaces_expanded}
use Rattle.page_tree.specs.declared.names.Expanded.{Expanded}
use Rattle.page_tree.proofs.names.attributes_of.Goals as goal

-- one more is made of the next of some things
more-made : {B C : Type 0} (g : B → C) (F : List B → List C) (xs : List B) (i : ℕ) (x : B) (old new r : List C)
    → ((y : B) (ys : List B) → F (y ∷ ys) ≡ g y ∷ F ys) → i < length xs → x ≡ get_or xs i x → new ≡ old ++ g x ∷ []
    → old ++ F (drop i xs) ≡ r → new ++ F (drop (i + 1) xs) ≡ r
more-made g F xs i x old new r s h is e inv =
    ap (λ l. l ++ F (drop (i + 1) xs)) (e ∙ ap (λ y. old ++ g y ∷ []) is) ∙ append_assoc old (g (get_or xs i x) ∷ []) (F (drop (i + 1) xs))
    ∙ ap (λ l. old ++ l) (sym (ap F (drop_more xs i x h) ∙ s (get_or xs i x) (drop (i + 1) xs))) ∙ inv

pub loop-one-preserved : goal.loop-one-preserved
loop-one-preserved c =
    let xs = c.args.expanded.now in
    let i = c.loop-one.one-index in
    let pushed = ap (map valued) c.in_ok-push.ensures.items ∙ map-append valued _ (_ ∷ []) in
    let others = ap (map (λ (a : Attr). space_of a.name.now)) c.in_ok-push.ensures.items ∙ map-append (λ (a : Attr). space_of a.name.now) _ (_ ∷ []) in
    record {
      values = more-made (λ (e : Expanded). (expansion e).valued) (λ es. map (λ (y : Expansion). y.valued) (map expansion es)) xs i c.one-item.result _ _ _
          (λ x ys. refl) c.loop-one-test.true c.one-item.is pushed c.loop-one.invariant.values;
      spaces = more-made (λ (e : Expanded). space_of e.name.now) spaces_expanded xs i c.one-item.result _ _ _
          (λ x ys. refl) c.loop-one-test.true c.one-item.is others c.loop-one.invariant.spaces;
    }
