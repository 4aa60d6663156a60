-- The footnotes of a content: each is that of the one element with its id.
use Rattle.std.proofs.Common.{◌≡◌, ◌∙◌, ap, sym, subst, refl, ℕ, zero, suc, ◌+◌, ◌≤◌, Bool, true, false, cond, List, [], ◌∷◌, map, Option, Some, None, arith, ⊎_elim}
use Rattle.std.specs.Prelude.{◌&&◌, bytes_eq, not, unwrap_or}
use Rattle.std.specs.List.{Contains, filter, filter_map, flat_map, list_any}
use Rattle.std.specs.Ordering.{on}
use Rattle.std.proofs.lemmas.Bool.{both_ways}
use Rattle.std.proofs.lemmas.Slice.Eq.{bytes_eq-Decides}
use Rattle.continuations.proofs.Walking.{some-inj}
use Rattle.ix_base.specs.declared.content.Footnote.{Footnote}
use Rattle.ix_base.specs.declared.content.NoteLink.{NoteLink}
use Rattle.ix_base.specs.Asks.{asks}
use Rattle.ix_base.specs.Ids.{holds_id, one_such}
use Rattle.ix_base.specs.LinkRules.{is_footnote}
use Rattle.ix_base.specs.LocatedElements.{Located}
use Rattle.ix_base.specs.Once.{in_order}
use Rattle.ix_base.specs.SortedLists.{sorted, text_cmp}
use Rattle.ix_base.proofs.OnceLemmas.{Contains-cases, Contains-first, Contains-from_filter, Contains-later}
use Rattle.footnotes.specs.FootnoteLinks.{Between, arcs_in, ends, footnote_of, label, link_of, notes}
use Rattle.instance_lines.specs.Arrangement.{arranged_link, firsts}
use Rattle.instance_lines.specs.Elements.{footnote_text}
use Rattle.instance_out.specs.Proper.{counted_once, same_note, same_option}
use Rattle.target_contents.proofs.DepthLaws.{sorted-from}
use Rattle.targets.proofs.FormLaws.{such-parts}
use Rattle.target_contents.proofs.MemberLaws.{any-passes, from-flat, from-given, from-map}
use Rattle.targets.proofs.PartLaws.{one-holds}
use Rattle.targets.proofs.TotalLaws.{total, total-has, when, when-has}

from-firsts : {X : Type 0} (f : X → List ℕ) (xs : List X) (y : X) → Contains (firsts f xs) y → Contains xs y
from-firsts f [] y h = h
from-firsts f (x ∷ xs) y h =
    let others = filter (λ z. not (bytes_eq (f x) (f z))) (firsts f xs) in
    ⊎_elim
    (λ (e : x ≡ y). subst (Contains (x ∷ xs)) e (Contains-first x xs))
    (λ k. Contains-later x xs y (from-firsts f xs y (Contains-from_filter (λ z. not (bytes_eq (f x) (f z))) (firsts f xs) y k).0))
    (Contains-cases x others y h)

pub from-counted : (fs : List Footnote) (f : Footnote) → Contains (counted_once fs) f → Contains fs f
from-counted [] f h = h
from-counted (g ∷ fs) f h = by (list_any (same_note g) fs) h (from-counted fs f)
  where
    by : (b : Bool) → Contains (cond b (counted_once fs) (g ∷ counted_once fs)) f → (Contains (counted_once fs) f → Contains fs f) → Contains (g ∷ fs) f
    by true k later = Contains-later g fs f (later k)
    by false k later =
        ⊎_elim (λ (e : g ≡ f). subst (Contains (g ∷ fs)) e (Contains-first g fs)) (λ l. Contains-later g fs f (later l)) (Contains-cases g (counted_once fs) f k)

option-self : (o : Option (List ℕ)) → same_option o o ≡ true
option-self None = refl
option-self (Some x) = (bytes_eq-Decides x x).1 refl

note-self : (f : Footnote) → same_note f f ≡ true
note-self f =
    let self : (x : List ℕ) → bytes_eq x x ≡ true = λ x. (bytes_eq-Decides x x).1 refl in
    λ i. self f.id i && self f.role i && option-self f.title i && self f.lang i && self f.body i

none-left : (n : ℕ) → (1 ≤ n → ⊥) → n ≡ 0
none-left zero h = refl
none-left (suc n) h = absurd (h (omega arith))

-- the footnote is that of the one element with its id
abbrev pub IsOfNote : (Located → List ℕ) → List Located → Footnote → Type 0
IsOfNote bases es f = (e : Located) × (one_such is_footnote (asks es) f.id ≡ Some e) × (f ≡ footnote_of bases (asks es) e)

module _ (bases : Located → List ℕ) (es : List Located) where
  link-notes : (role : List ℕ) (xs : List Between) (f : Footnote) → Contains (link_of bases (asks es) role xs).footnotes f → IsOfNote bases es f
  link-notes role xs f h =
      let ids = in_order text_cmp (map label (filter is_footnote (ends xs))) in
      let e = from-map (footnote_of bases (asks es)) (filter_map (one_such is_footnote (asks es)) ids) f h in
      let n = from-given (one_such is_footnote (asks es)) ids e.0 e.1 in
      let such = such-parts is_footnote es n.0 e.0 n.2 in
      let called : f.id ≡ n.0 = sym (ap (λ (g : Footnote). g.id) e.2) ∙ ap (λ o. unwrap_or o []) such.1 in
      (e.0, ap (one_such is_footnote (asks es)) called ∙ n.2, sym e.2)

  notes-of : (target : List ℕ) (l : NoteLink) → Contains (notes bases es target) l → (f : Footnote) → Contains l.footnotes f → IsOfNote bases es f
  notes-of target l h f k =
      let arcs : List ℕ → List Between = λ role. filter (λ (x : Between). bytes_eq role x.role) (arcs_in es target) in
      let role = from-map (λ role. link_of bases (asks es) role (arcs role)) (in_order text_cmp (map (λ (x : Between). x.role) (arcs_in es target))) l h in
      link-notes role.0 (arcs role.0) f (subst (λ (m : NoteLink). Contains m.footnotes f) (sym role.2) k)

  -- so are those of arranged links
  pub arranged-notes : (target : List ℕ) (links : List NoteLink) → links ≡ map arranged_link (sorted (on (λ l. l.role) text_cmp) (notes bases es target))
      → (f : Footnote) → Contains (flat_map (λ l. l.footnotes) links) f → IsOfNote bases es f
  unfolding arranged_link
  arranged-notes target links e f h =
      let ls = sorted (on (λ (l : NoteLink). l.role) text_cmp) (notes bases es target) in
      let m = from-flat (λ (l : NoteLink). l.footnotes) (map arranged_link ls) f (subst (λ (ks : List NoteLink). Contains (flat_map (λ l. l.footnotes) ks) f) e h) in
      let l = from-map arranged_link ls m.0 m.1 in
      let of : Contains (firsts footnote_text (sorted (on (λ (g : Footnote). g.id) text_cmp) l.0.footnotes)) f =
      subst (λ (k : NoteLink). Contains k.footnotes f) (sym l.2) m.2 in
      notes-of target l.0 (sorted-from (on (λ (k : NoteLink). k.role) text_cmp) (notes bases es target) l.0 l.1) f
      (sorted-from (on (λ (g : Footnote). g.id) text_cmp) l.0.footnotes f
      (from-firsts footnote_text (sorted (on (λ (g : Footnote). g.id) text_cmp) l.0.footnotes) f of))

  one-note : (f g : Footnote) → IsOfNote bases es f → IsOfNote bases es g → f.id ≡ g.id → f ≡ g
  one-note f g x y e =
      let same : x.0 ≡ y.0 = some-inj x.0 y.0 (sym x.1 ∙ ap (one_such is_footnote (asks es)) e ∙ y.1) in
      x.2 ∙ ap (footnote_of bases (asks es)) same ∙ sym y.2

  abbrev weight_of : List ℕ → Footnote → ℕ
  weight_of t f = when (bytes_eq t f.id) 1

  counted-most : (t : List ℕ) (n : ℕ) (fs : List Footnote) → ((f : Footnote) → Contains fs f → IsOfNote bases es f)
      → ((f : Footnote) → Contains fs f → bytes_eq t f.id ≡ true → 1 ≤ n) → total (weight_of t) (counted_once fs) ≤ n
  counted-most t n [] are some = omega arith
  counted-most t n (f ∷ fs) are some =
      by (list_any (same_note f) fs) refl
      (counted-most t n fs (λ g h. are g (Contains-later f fs g h)) (λ g h e. some g (Contains-later f fs g h) e))
    where
      again : (g : Footnote) → list_any (same_note f) fs ≡ false → bytes_eq t f.id ≡ true → Contains (counted_once fs) g → 1 ≤ when (bytes_eq t g.id) 1 → ⊥
      again g none e h one =
          let there = from-counted fs g h in
          let ids : f.id ≡ g.id = sym ((bytes_eq-Decides t f.id).0 e) ∙ (bytes_eq-Decides t g.id).0 (when-has (bytes_eq t g.id) 1 one).0 in
          let same : f ≡ g = one-note f g (are f (Contains-first f fs)) (are g (Contains-later f fs g there)) ids in
          both_ways _ none (any-passes (same_note f) fs g there (ap (same_note f) (sym same) ∙ note-self f))

      held : (b : Bool) → bytes_eq t f.id ≡ b → list_any (same_note f) fs ≡ false → total (λ g. when (bytes_eq t g.id) 1) (counted_once fs) ≤ n
          → when b 1 + total (λ g. when (bytes_eq t g.id) 1) (counted_once fs) ≤ n
      held true e none later =
          let rest : total (λ (g : Footnote). when (bytes_eq t g.id) 1) (counted_once fs) ≡ 0 =
          none-left (total (λ (g : Footnote). when (bytes_eq t g.id) 1) (counted_once fs))
          (λ k. let g = total-has (λ (g : Footnote). when (bytes_eq t g.id) 1) (counted_once fs) k in again g.0 none e g.1 g.2) in
          let one : 1 ≤ n = some f (Contains-first f fs) e in
          omega arith
      held false e none later = omega arith

      by : (b : Bool) → list_any (same_note f) fs ≡ b → total (λ g. when (bytes_eq t g.id) 1) (counted_once fs) ≤ n
          → total (λ g. when (bytes_eq t g.id) 1) (cond b (counted_once fs) (f ∷ counted_once fs)) ≤ n
      by true e later = later
      by false e later = held (bytes_eq t f.id) refl e later

  -- the ids of footnotes are those of elements, each once
  pub notes-once : (fs : List Footnote) → ((f : Footnote) → Contains fs f → IsOfNote bases es f) → (t : List ℕ)
      → total (λ f. when (bytes_eq t f.id) 1) (counted_once fs) ≤ total (λ e. when (is_footnote e) (when (holds_id t e) 1)) es
  notes-once fs are t =
      counted-most t (total (λ e. when (is_footnote e) (when (holds_id t e) 1)) es) fs are
      (λ f h e. let x = are f h in
      let same : t ≡ f.id = (bytes_eq-Decides t f.id).0 e in
      one-holds is_footnote es t x.0 (ap (one_such is_footnote (asks es)) same ∙ x.1))
