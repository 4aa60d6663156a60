-- Arranging twice is arranging once.
use Rattle.std.proofs.Common.{◌≡◌, ◌∙◌, ap, sym, refl, Bool, true, false, cond, List, [], ◌∷◌, map}
use Rattle.std.specs.Prelude.{ℕ, bytes_eq, filter, not}
use Rattle.std.specs.Cmp.{IsTotalOrder}
use Rattle.std.specs.declared.cmp.Ordering.{Ordering}
use Rattle.std.specs.declared.cmp.Ordering.TheVariants.{Less, Equal, Greater}
use Rattle.std.specs.Ordering.{on, ordering_reverse}
use Rattle.std.proofs.lemmas.Cmp.{nat_list_cmp_total, on_total}
use Rattle.ix_base.specs.declared.content.Content.{Content}
use Rattle.ix_base.specs.declared.content.Context.{Context}
use Rattle.ix_base.specs.declared.content.Fact.{Fact}
use Rattle.ix_base.specs.declared.content.Footnote.{Footnote}
use Rattle.ix_base.specs.declared.content.NoteLink.{NoteLink}
use Rattle.ix_base.specs.declared.content.Unit.{Unit as UnitContent}
use Rattle.ix_base.specs.Facts.{facts_of}
use Rattle.ix_base.specs.Once.{in_order}
use Rattle.ix_base.specs.SortedLists.{sorted, text_cmp}
use Rattle.ix_base.specs.WrittenMarkup.{Markup}
use Rattle.instance_lines.specs.Arrangement.{arranged, arranged_link, by_line, firsts}
use Rattle.instance_lines.specs.Canonical.{Spaces, arcrole_markup, content_spaces, line, linkbase_markup, role_markup, schema_markup}
use Rattle.instance_lines.specs.Elements.{arc_text, fact_markup, footnote_text}
use Rattle.instance_lines.proofs.ArrangedLaws.{IsFront, Rises, in_order-in_order, sorted-rises, sorted-risen, sorted-sorted, spaces-arranged}
use Rattle.instance_lines.proofs.Sorting.{map-map, sorted-map}

-- Of things that rise some are left.
module _ {X : Type 0} {R : X → X → Ordering} (o : IsTotalOrder R) where
  -- x is above none of these
  abbrev IsLow : X → List X → Type 0
  IsLow x [] = Unit {0}
  IsLow x (y ∷ ys) = (R x y ≡ Greater → ⊥) × IsLow x ys

  chained : (x y z : X) (r : Ordering) → R x y ≡ r → (R x y ≡ Greater → ⊥) → (R y z ≡ Greater → ⊥) → R x z ≡ Greater → ⊥
  chained x y z Less e p q h =
      let back : R z x ≡ Less = o.antisymm z x ∙ ap ordering_reverse h in
      q (o.antisymm y z ∙ ap ordering_reverse (o.trans z x y back e))
  chained x y z Equal e p q h = q (sym (o.congr x y z e) ∙ h)
  chained x y z Greater e p q h = p e

  low_chain : (x y : X) (ys : List X) → (R x y ≡ Greater → ⊥) → IsLow y ys → IsLow x ys
  low_chain x y [] p h = tt
  low_chain x y (z ∷ zs) p h = (chained x y z (R x y) refl p h.0, low_chain x y zs p h.1)

  low_first : (x : X) (xs : List X) → Rises o (x ∷ xs) → IsLow x xs
  low_first x [] h = tt
  low_first x (y ∷ ys) h = (h.0, low_chain x y ys h.0 (low_first y ys h.1))

  front_low : (x : X) (xs : List X) → IsLow x xs → IsFront o x xs
  front_low x [] h = tt
  front_low x (y ∷ ys) h = h.0

  low_kept : (p : X → Bool) (x : X) (xs : List X) → IsLow x xs → IsLow x (filter p xs)
  low_kept p x [] h = tt
  low_kept p x (y ∷ ys) h = by (p y) (low_kept p x ys h.1)
    where
      by : (b : Bool) → IsLow x (filter p ys) → IsLow x (cond b (y ∷ filter p ys) (filter p ys))
      by true k = (h.0, k)
      by false k = k

  rises_kept : (p : X → Bool) (xs : List X) → Rises o xs → Rises o (filter p xs)
  rises_kept p [] h = tt
  rises_kept p (x ∷ xs) h = by (p x) (rises_kept p xs h.1)
    where
      by : (b : Bool) → Rises o (filter p xs) → Rises o (cond b (x ∷ filter p xs) (filter p xs))
      by true k = (front_low x (filter p xs) (low_kept p x xs (low_first x xs h)), k)
      by false k = k

  module _ (f : X → List ℕ) where
    low_firsts : (x : X) (xs : List X) → IsLow x xs → IsLow x (firsts f xs)
    low_firsts x [] h = tt
    low_firsts x (y ∷ ys) h = (h.0, low_kept (λ z. not (bytes_eq (f y) (f z))) x (firsts f ys) (low_firsts x ys h.1))

    pub firsts-rises : (xs : List X) → Rises o xs → Rises o (firsts f xs)
    firsts-rises [] h = tt
    firsts-rises (x ∷ xs) h =
        let p : X → Bool = λ y. not (bytes_eq (f x) (f y)) in (
          front_low x (filter p (firsts f xs)) (low_kept p x (firsts f xs) (low_firsts x xs (low_first x xs h))),
          rises_kept p
              (firsts f xs) (firsts-rises xs h.1),
        )

-- The first of those with one text, again.
module _ {X : Type 0} (f : X → List ℕ) where
  -- x has none of these texts
  abbrev IsOther : X → List X → Type 0
  IsOther x [] = Unit {0}
  IsOther x (y ∷ ys) = (bytes_eq (f x) (f y) ≡ false) × IsOther x ys

  abbrev AreOthers : List X → Type 0
  AreOthers [] = Unit {0}
  AreOthers (x ∷ xs) = IsOther x xs × AreOthers xs

  other_kept : (p : X → Bool) (x : X) (xs : List X) → IsOther x xs → IsOther x (filter p xs)
  other_kept p x [] h = tt
  other_kept p x (y ∷ ys) h = by (p y) (other_kept p x ys h.1)
    where
      by : (b : Bool) → IsOther x (filter p ys) → IsOther x (cond b (y ∷ filter p ys) (filter p ys))
      by true k = (h.0, k)
      by false k = k

  others_kept : (p : X → Bool) (xs : List X) → AreOthers xs → AreOthers (filter p xs)
  others_kept p [] h = tt
  others_kept p (x ∷ xs) h = by (p x) (others_kept p xs h.1)
    where
      by : (b : Bool) → AreOthers (filter p xs) → AreOthers (cond b (x ∷ filter p xs) (filter p xs))
      by true k = (other_kept p x xs h.0, k)
      by false k = k

  other_left : (x : X) (xs : List X) → IsOther x (filter (λ y. not (bytes_eq (f x) (f y))) xs)
  other_left x [] = tt
  other_left x (y ∷ ys) = by (bytes_eq (f x) (f y)) refl (other_left x ys)
    where
      p : X → Bool
      p z = not (bytes_eq (f x) (f z))

      by : (b : Bool) → bytes_eq (f x) (f y) ≡ b → IsOther x (filter (λ z. not (bytes_eq (f x) (f z))) ys)
          → IsOther x (cond (not b) (y ∷ filter (λ z. not (bytes_eq (f x) (f z))) ys) (filter (λ z. not (bytes_eq (f x) (f z))) ys))
      by true e k = k
      by false e k = (e, k)

  firsts-others : (xs : List X) → AreOthers (firsts f xs)
  firsts-others [] = tt
  firsts-others (x ∷ xs) = (other_left x (firsts f xs), others_kept (λ y. not (bytes_eq (f x) (f y))) (firsts f xs) (firsts-others xs))

  all_left : (x : X) (xs : List X) → IsOther x xs → filter (λ y. not (bytes_eq (f x) (f y))) xs ≡ xs
  all_left x [] h = refl
  all_left x (y ∷ ys) h =
      ap (λ b. cond (not b) (y ∷ filter (λ z. not (bytes_eq (f x) (f z))) ys) (filter (λ z. not (bytes_eq (f x) (f z))) ys)) h.0
      ∙ ap (λ l. y ∷ l) (all_left x ys h.1)

  others-firsts : (xs : List X) → AreOthers xs → firsts f xs ≡ xs
  others-firsts [] h = refl
  others-firsts (x ∷ xs) h = ap (λ l. x ∷ filter (λ y. not (bytes_eq (f x) (f y))) l) (others-firsts xs h.1)
      ∙ ap (λ l. x ∷ l) (all_left x xs h.0)

  pub firsts-firsts : (xs : List X) → firsts f (firsts f xs) ≡ firsts f xs
  firsts-firsts xs = others-firsts (firsts f xs) (firsts-others xs)

footnotes-twice : (fs : List Footnote)
    → firsts footnote_text (sorted (on (λ (f : Footnote). f.id) text_cmp) (firsts footnote_text (sorted (on (λ
    (f : Footnote). f.id) text_cmp) fs)))
    ≡ firsts footnote_text (sorted (on (λ (f : Footnote). f.id) text_cmp) fs)
footnotes-twice fs =
    let o = on_total (λ (f : Footnote). f.id) nat_list_cmp_total in
    let once = sorted (on (λ (f : Footnote). f.id) text_cmp) fs in
    ap (firsts footnote_text) (sorted-risen o (firsts footnote_text once) (firsts-rises o footnote_text once (sorted-rises o fs)))
    ∙ firsts-firsts footnote_text once

link-twice : (l : NoteLink) → arranged_link (arranged_link l) ≡ arranged_link l
unfolding arranged_link
link-twice l =
    let locs = in_order-in_order nat_list_cmp_total l.locs in
    let notes = footnotes-twice l.footnotes in
    let arcs = in_order-in_order (on_total arc_text nat_list_cmp_total) l.arcs in
    λ i. record { role = l.role; locs = locs i; footnotes = notes i; arcs = arcs i }

links-twice : (ls : List NoteLink)
    → map arranged_link (sorted (on (λ (l : NoteLink). l.role) text_cmp) (map arranged_link (sorted (on (λ
    (l : NoteLink). l.role) text_cmp) ls)))
    ≡ map arranged_link (sorted (on (λ (l : NoteLink). l.role) text_cmp) ls)
unfolding arranged_link
links-twice ls =
    let R = on (λ (l : NoteLink). l.role) text_cmp in
    ap (map arranged_link) (sorted-map arranged_link R (sorted R ls))
    ∙ ap (λ l. map arranged_link (map arranged_link l)) (sorted-sorted (on_total (λ (l : NoteLink). l.role) nat_list_cmp_total) ls)
    ∙ map-map arranged_link arranged_link (sorted R ls)
    ∙ (λ i. map (λ (l : NoteLink). link-twice l i) (sorted R ls))

facts-twice : (spaces : Spaces) (before : Spaces) (fs : List Fact) → spaces ≡ before
    → sorted (by_line (fact_markup spaces)) (sorted (by_line (fact_markup before)) fs) ≡ sorted (by_line (fact_markup before)) fs
facts-twice spaces before fs e =
    ap (λ s. sorted (by_line (fact_markup s)) (sorted (by_line (fact_markup before)) fs)) e
    ∙ sorted-sorted (on_total (fact_markup before) (on_total line nat_list_cmp_total)) fs

once : {X : Type 0} (f : X → Markup) (xs : List X) → in_order (by_line f) (in_order (by_line f) xs) ≡ in_order (by_line f) xs
once f xs = in_order-in_order (on_total f (on_total line nat_list_cmp_total)) xs

pub arranged-arranged : (c : Content) → arranged (arranged c) ≡ arranged c
unfolding arranged
arranged-arranged c =
    let schemas = once schema_markup c.schemas in
    let linkbases = once linkbase_markup c.linkbases in
    let roles = once role_markup c.roles in
    let arcroles = once arcrole_markup c.arcroles in
    let contexts = sorted-sorted (on_total (λ (x : Context). x.id) nat_list_cmp_total) c.contexts in
    let units = sorted-sorted (on_total (λ (u : UnitContent). u.id) nat_list_cmp_total) c.units in
    let facts = facts-twice (content_spaces (arranged c) (facts_of (arranged c).facts)) (content_spaces c (facts_of c.facts)) c.facts
    (spaces-arranged c) in
    let notes = links-twice c.notes in
    λ i. record {
      schemas = schemas i;
      linkbases = linkbases i;
      roles = roles i;
      arcroles = arcroles i;
      contexts = contexts i;
      units = units i;
      facts = facts i;
      notes = notes i;
    }
