-- What looks at attributes, one by one, tell of an element.
use Rattle.std.proofs.Common.{◌≡◌, ◌∙◌, ap, sym, refl, rules, ℕ, suc, ◌+◌, ◌<◌, ◌≤◌, Bool, true, false, ◌&&◌, ◌||◌, List, [], ◌∷◌, Some, if◌then◌else◌, map, length, drop, get_or, drop-cons, add-one, bytes_eq, codes, is_none}
use Rattle.std.specs.List.{list_any}
use Rattle.std.proofs.lemmas.Bool.{false≢true}
use Rattle.std.proofs.lemmas.List.{drop_all}
use Rattle.std.proofs.lemmas.List.Folds.{list_any_at}
use Rattle.ix_base.specs.declared.kind.Kind.{Kind}
use Rattle.ix_base.specs.declared.tree.Attr.{Attr}
use Rattle.ix_base.specs.declared.tree.Element.{Element}
use Rattle.ix_base.specs.declared.tree.Node as node
use Rattle.ix_base.specs.Attributes.{is_named, value_of}
use Rattle.ix_base.specs.ElementRules.{misses}
use Rattle.ix_base.specs.Forms.{is_empty}
use Rattle.ix_base.specs.Trees.{Bound, tree_of, valued, bindings_in}
use Rattle.ix_grammar.specs.declared.sound.Seen.{Seen}
use Rattle.ix_grammar.specs.declared.sound.Seen.TheVariants as seen
use Rattle.ix_grammar.specs.SoundFacts.{is_odd, has_odd, IsSeen, IsThere}

attrs-is : (e : Element) → (tree_of e).head.attrs ≡ map valued e.attrs.written.now
attrs-is e = search (rules, node.the_lemmas)

pub scope-is : (e : Element) → (tree_of e).head.scope ≡ bindings_in e.scope
scope-is e = search (rules, node.the_lemmas)

no-space-is : (ns : List ℕ) → bytes_eq ns [] ≡ is_empty ns
no-space-is [] = refl
no-space-is (c ∷ ns) = refl

abbrev has_local : List ℕ → Attr → Bool
has_local local a = is_empty (valued a).name.ns && bytes_eq (valued a).name.local local

found-in : (attrs : List Attr) (local : List ℕ) → list_any (has_local local) attrs ≡ true → is_none (value_of (map valued attrs) [] local) ≡ false
found-in [] local e = absurd (false≢true e)
found-in (a ∷ more) local e =
    (elim (is_named (valued a) [] local) as (λ b. (b || list_any (has_local local) more) ≡ true → is_none (if b then Some (valued a).value else value_of (map valued more) [] local) ≡ false) [
      | true ↦ λ h. refl
      | false ↦ λ h. found-in more local h
    ]) (ap (λ b. (b && bytes_eq (valued a).name.local local) || list_any (has_local local) more) (no-space-is (valued a).name.ns) ∙ e)

there-named : (e : Element) (i : ℕ) (a : Attr) (local : List ℕ) → i < length e.attrs.written.now → a ≡ get_or e.attrs.written.now i a
    → has_local local a ≡ true → misses (tree_of e) local ≡ false
there-named e i a local h is n =
    ap (λ attrs. is_none (value_of attrs [] local)) (attrs-is e)
    ∙ found-in e.attrs.written.now local (list_any_at (has_local local) e.attrs.written.now i a h (ap (has_local local) (sym is) ∙ n))

pub there-at : (e : Element) (i : ℕ) (a : Attr) (s : Seen) → i < length e.attrs.written.now → a ≡ get_or e.attrs.written.now i a
    → IsSeen (valued a) s → IsThere (tree_of e) s
there-at e i a seen.Odd h is n = tt
there-at e i a seen.Name h is n = there-named e i a (codes "name") h is n
there-at e i a seen.Context h is n = there-named e i a (codes "contextRef") h is n
there-at e i a seen.Unit h is n = there-named e i a (codes "unitRef") h is n
there-at e i a seen.Decimals h is n = there-named e i a (codes "decimals") h is n
there-at e i a seen.Other h is n = tt

-- an attribute that isn't odd leaves it open whether one from here on is
pub none-odd-here : (k : Kind) (scope : List Bound) (attrs : List Attr) (i : ℕ) (a : Attr) (due : Bool) → i < length attrs → a ≡ get_or attrs i a
    → is_odd k scope (valued a) ≡ false → list_any (is_odd k scope) (map valued (drop i attrs)) ≡ due
    → list_any (is_odd k scope) (map valued (drop (i + 1) attrs)) ≡ due
none-odd-here k scope attrs i a due h is fit due-is =
    ap (λ n. list_any (is_odd k scope) (map valued (drop n attrs))) (add-one i)
    ∙ ap (λ b. b || list_any (is_odd k scope) (map valued (drop (suc i) attrs))) (sym fit)
    ∙ ap (λ xs. list_any (is_odd k scope) (map valued xs)) (ap (λ x. x ∷ drop (suc i) attrs) is ∙ sym (drop-cons attrs i a h))
    ∙ due-is

-- at the end there is none
pub none-odd : (k : Kind) (e : Element) (i : ℕ) → length e.attrs.written.now ≤ i
    → list_any (is_odd k (tree_of e).head.scope) (map valued (drop i e.attrs.written.now)) ≡ list_any (is_odd k (tree_of e).head.scope) (map valued e.attrs.written.now)
    → has_odd k (tree_of e) ≡ false
none-odd k e i h left =
    ap (λ attrs. list_any (is_odd k (tree_of e).head.scope) attrs) (attrs-is e) ∙ sym left
    ∙ ap (λ attrs. list_any (is_odd k (tree_of e).head.scope) (map valued attrs)) (drop_all i e.attrs.written.now h)
