-- In a content the locators and footnotes of a link are what its arcs name, and its locators are ids of facts.
use Rattle.std.proofs.Common.{◌≡◌, ◌∙◌, ap, refl, subst, sym, ℕ, Bool, true, false, not, List, [], ◌∷◌, ◌++◌, map, Some, ⊎_elim, inl, inr, ◌⊎◌, length, arith}
use Rattle.std.specs.List.{Contains, filter, filter_map, list_any}
use Rattle.std.specs.Prelude.{bytes_eq, ◌&&◌, ◌||◌}
use Rattle.std.proofs.lemmas.Bool.{and_from, lt-ltb}
use Rattle.std.proofs.lemmas.List.Elements.{Contains-append_cases, Contains-append_left, Contains-append_right}
use Rattle.std.proofs.lemmas.Slice.Eq.{bytes_eq-Decides}
use Rattle.ix_base.specs.declared.content.Arc.{Arc}
use Rattle.ix_base.specs.declared.content.Content.{Content}
use Rattle.ix_base.specs.declared.content.Footnote.{Footnote}
use Rattle.ix_base.specs.declared.content.NoteLink.{NoteLink}
use Rattle.ix_base.specs.declared.rule.Rule.TheVariants as rule
use Rattle.ix_base.specs.Asks.{asks}
use Rattle.ix_base.specs.Forms.{is_empty}
use Rattle.ix_base.specs.Ids.{id_of, one_such}
use Rattle.ix_base.specs.LinkRules.{are_any, from_ids, is_end, is_footnote, is_relationship, named_by, same_target, target_of, to_ids}
use Rattle.ix_base.specs.LocatedElements.{Located, is_fact}
use Rattle.ix_base.specs.Once.{in_order}
use Rattle.ix_base.specs.SortedLists.{text_cmp}
use Rattle.ix_base.proofs.OnceLemmas.{Contains-cases, Contains-filter, Contains-first, Contains-from_filter, Contains-later, Contains-nil}
use Rattle.footnotes.specs.FootnoteLinks.{Between, ends, footnote_of, label}
use Rattle.instance_lines.specs.Arrangement.{arranged, arranged_link}
use Rattle.instance_lines.specs.Holdings.{fact_ids}
use Rattle.instance_lines.specs.Lists.{has, is_within}
use Rattle.instance_out.specs.Proper.{arc_ends, is_whole_link, links_fit, note_ids}
use Rattle.ix_base.specs.PlainContents.{said_of}
use Rattle.targets.specs.ValidSets.{IsClean}
use Rattle.target_contents.specs.Contents.{IsContent}
use Rattle.target_contents.specs.Groups.{is_fact_of}
use Rattle.target_contents.specs.PageSet.{PageSet, base_at, elements}
use Rattle.targets.proofs.ArcLaws.{IsBetween, IsLinkOf, all-between, arc-among, arc-in, arc-kept, arc-own, arcs_of, arranged-locs, called, from-links, link-arc, link-notes}
use Rattle.targets.proofs.UnbrokenLaws.{link-unbroken}
use Rattle.targets.proofs.HasLaws.{from-order, in-texts, none-any}
use Rattle.target_contents.proofs.MemberLaws.{all-pass, from-flat, from-given, from-map, in-flat, in-given, in-map, within-from}
use Rattle.targets.proofs.SuchLaws.{IsSuch, such-is, such-too}

with-true : (b c : Bool) → b ≡ true → (b && c) ≡ false → c ≡ false
with-true true c h e = e
with-true false c h e = absurd (cc)

not-not : (b : Bool) → not b ≡ false → b ≡ true
not-not true h = refl
not-not false h = absurd (cc)

not-empty : {X : Type 0} (xs : List X) (x : X) → Contains xs x → not (is_empty xs) ≡ true
not-empty [] x h = absurd (Contains-nil x h)
not-empty (y ∷ xs) x h = refl

some-any : (xs : List Located) (x : Located) → Contains xs x → are_any xs ≡ true
some-any [] x h = absurd (Contains-nil x h)
some-any (y ∷ xs) x h = lt-ltb 0 (length (y ∷ xs)) (omega arith)

-- one of the ends of some arcs
pub end-from : (xs : List Between) (e : Located) → Contains (ends xs) e → (x : Between) × Contains xs x × ((x.from ≡ e) ⊎ (x.to ≡ e))
end-from xs e h =
    let at = from-flat (λ (x : Between). x.from ∷ x.to ∷ []) xs e h in
    (at.0, at.1, ⊎_elim inl (λ k. ⊎_elim inr (λ c. absurd (Contains-nil e c)) (Contains-cases at.0.to [] e k)) (Contains-cases at.0.from (at.0.to ∷ []) e at.2))

from-end : (xs : List Between) (x : Between) → Contains xs x → Contains (ends xs) x.from
from-end xs x h = in-flat (λ (y : Between). y.from ∷ y.to ∷ []) xs x x.from h (Contains-first x.from (x.to ∷ []))

to-end : (xs : List Between) (x : Between) → Contains xs x → Contains (ends xs) x.to
to-end xs x h = in-flat (λ (y : Between). y.from ∷ y.to ∷ []) xs x x.to h (Contains-later x.from (x.to ∷ []) x.to (Contains-first x.to []))

-- the ends of an arc, as it names them
from-named : (es : List Located) (target : List ℕ) (x : Between) → IsBetween es target x → x.arc.from_id ≡ label x.from
from-named es target x b = ap (λ (y : Between). y.arc.from_id) b.is

to-named : (es : List Located) (target : List ℕ) (x : Between) → IsBetween es target x → x.arc.to_id ≡ label x.to
to-named es target x b = ap (λ (y : Between). y.arc.to_id) b.is

same-name : (x y : Located) (mid id : List ℕ) → label x ≡ mid → label y ≡ mid → label y ≡ id → label x ≡ id
same-name x y mid id a b c = a ∙ sym b ∙ c

module _ (bases : Located → List ℕ) (es : List Located) (target : List ℕ) (l : NoteLink) (k : IsLinkOf bases es target l) where
  abbrev xs : List Between
  xs = arcs_of es target k.role

  abbrev kept : NoteLink
  kept = arranged_link l

  between-of : (x : Between) → Contains xs x → IsBetween es target x
  between-of x h = all-between es target x (arc-among es target k.role x h)

  -- a fact at an end is a locator
  fact-loc : (e : Located) → Contains (ends xs) e → is_fact e ≡ true → Contains kept.locs (label e)
  fact-loc e h f =
      let own : Contains l.locs (label e) = subst (λ (m : NoteLink). Contains m.locs (label e)) (sym k.is)
      (in-texts (map label (filter is_fact (ends xs))) (label e) (in-map label (filter is_fact (ends xs)) e (Contains-filter is_fact (ends xs) e h f))) in
      subst (λ ts. Contains ts (label e)) (sym (arranged-locs l)) (in-texts l.locs (label e) own)

  -- and each locator is one
  pub loc-fact : (id : List ℕ) → Contains kept.locs id → (e : Located) × Contains (ends xs) e × (is_fact e ≡ true) × (label e ≡ id)
  loc-fact id h =
      let own = subst (λ (m : NoteLink). Contains m.locs id) k.is (from-order text_cmp l.locs id (subst (λ ts. Contains ts id) (arranged-locs l) h)) in
      let e = from-map label (filter is_fact (ends xs)) id (from-order text_cmp (map label (filter is_fact (ends xs))) id own) in
      let kind = Contains-from_filter is_fact (ends xs) e.0 e.1 in
      (e.0, kind.0, kind.1, e.2)

  -- a footnote at an end is a footnote of the link
  note-there : (x : Between) → Contains xs x → is_footnote x.to ≡ true → Contains (note_ids kept) (label x.to)
  note-there x h f =
      let b = between-of x h in
      let ids = in_order text_cmp (map label (filter is_footnote (ends xs))) in
      let id = in-texts (map label (filter is_footnote (ends xs))) (label x.to)
      (in-map label (filter is_footnote (ends xs)) x.to (Contains-filter is_footnote (ends xs) x.to (to-end xs x h) f)) in
      let such : one_such is_footnote (asks es) (label x.to) ≡ Some x.to =
      ap (one_such is_footnote (asks es)) (called es is_end b.end x.to b.end_such) ∙ such-too es is_end is_footnote b.end x.to b.end_such f in
      let foot = in-map (footnote_of bases (asks es)) (filter_map (one_such is_footnote (asks es)) ids) x.to
      (in-given (one_such is_footnote (asks es)) ids (label x.to) x.to id such) in
      let own : Contains kept.footnotes (footnote_of bases (asks es) x.to) = subst (λ fs. Contains fs (footnote_of bases (asks es) x.to)) (sym (link-notes bases es target l k))
      (subst (λ (m : NoteLink). Contains m.footnotes (footnote_of bases (asks es) x.to)) (sym k.is) foot) in
      in-map (λ (n : Footnote). n.id) kept.footnotes (footnote_of bases (asks es) x.to) own

  -- and each of these stands at an end
  note-end : (id : List ℕ) → Contains (note_ids kept) id → (e : Located) × Contains (ends xs) e × (label e ≡ id)
  note-end id h =
      let f = from-map (λ (n : Footnote). n.id) kept.footnotes id h in
      let ids = in_order text_cmp (map label (filter is_footnote (ends xs))) in
      let own = subst (λ (m : NoteLink). Contains m.footnotes f.0) k.is (subst (λ fs. Contains fs f.0) (link-notes bases es target l k) f.1) in
      let e = from-map (footnote_of bases (asks es)) (filter_map (one_such is_footnote (asks es)) ids) f.0 own in
      let at = from-given (one_such is_footnote (asks es)) ids e.0 e.1 in
      let name = called es is_footnote at.0 e.0 (such-is es is_footnote at.0 e.0 at.2) in
      let foot = from-map label (filter is_footnote (ends xs)) at.0 (from-order text_cmp (map label (filter is_footnote (ends xs))) at.0 at.1) in
      let last : label e.0 ≡ id = ap (λ (n : Footnote). n.id) e.2 ∙ f.2 in
      (foot.0, (Contains-from_filter is_footnote (ends xs) foot.0 foot.1).0, same-name foot.0 e.0 at.0 id foot.2 name last)

  either-end : (a b : Bool) → (a || b) ≡ true → (a ≡ true) ⊎ (b ≡ true)
  either-end true b h = inl refl
  either-end false b h = inr h

  -- an end is a locator or a footnote
  to-there : (x : Between) → Contains xs x → Contains (kept.locs ++ note_ids kept) (label x.to)
  to-there x h =
      ⊎_elim
      (λ f. Contains-append_left kept.locs (note_ids kept) (label x.to) (fact-loc x.to (to-end xs x h) f))
      (λ n. Contains-append_right kept.locs (note_ids kept) (label x.to) (note-there x h n))
      (either-end (is_fact x.to) (is_footnote x.to) (between-of x h).end_such.such)

  from-there : (x : Between) → Contains xs x → Contains kept.locs (label x.from)
  from-there x h = fact-loc x.from (from-end xs x h) (between-of x h).start_such.such

  -- an arc that stands in the link goes between elements
  arc-between : (a : Arc) → Contains kept.arcs a → (x : Between) × Contains xs x × (x.arc ≡ a)
  arc-between a h = link-arc bases es target l k a (arc-own l a h)

  -- an end of an arc is named in the link
  from-in : (x : Between) → Contains xs x → Contains (arc_ends kept) (label x.from)
  from-in x h =
      let a = arc-kept l x.arc (arc-in bases es target l k x h) in
      subst (Contains (arc_ends kept)) (sym a.2.from ∙ from-named es target x (between-of x h))
      (in-flat (λ (y : Arc). y.from_id ∷ y.to_id ∷ []) kept.arcs a.0 a.0.from_id a.1 (Contains-first a.0.from_id (a.0.to_id ∷ [])))

  to-in : (x : Between) → Contains xs x → Contains (arc_ends kept) (label x.to)
  to-in x h =
      let a = arc-kept l x.arc (arc-in bases es target l k x h) in
      subst (Contains (arc_ends kept)) (sym a.2.to ∙ to-named es target x (between-of x h))
      (in-flat (λ (y : Arc). y.from_id ∷ y.to_id ∷ []) kept.arcs a.0 a.0.to_id a.1
      (Contains-later a.0.from_id (a.0.to_id ∷ []) a.0.to_id (Contains-first a.0.to_id [])))

  end-in : (e : Located) → Contains (ends xs) e → Contains (arc_ends kept) (label e)
  end-in e h =
      let x = end-from xs e h in
      ⊎_elim
      (λ (q : x.0.from ≡ e). subst (λ y. Contains (arc_ends kept) (label y)) q (from-in x.0 x.1))
      (λ (q : x.0.to ≡ e). subst (λ y. Contains (arc_ends kept) (label y)) q (to-in x.0 x.1)) x.2

  -- The parts of the test.

  some-arcs : not (is_empty kept.arcs) ≡ true
  some-arcs = let a = arc-kept l k.some.arc (arc-in bases es target l k k.some k.some_there) in not-empty kept.arcs a.0 a.1

  ends-within : is_within (arc_ends kept) (kept.locs ++ note_ids kept) ≡ true
  ends-within = within-from (arc_ends kept) (kept.locs ++ note_ids kept) (λ id h.
      let all = kept.locs ++ note_ids kept in
      let a = from-flat (λ (y : Arc). y.from_id ∷ y.to_id ∷ []) kept.arcs id h in
      let x = arc-between a.0 a.1 in
      let b = between-of x.0 x.1 in
      ⊎_elim
      (λ (q : a.0.from_id ≡ id). subst (Contains all) (sym (from-named es target x.0 b) ∙ ap (λ (y : Arc). y.from_id) x.2 ∙ q)
      (Contains-append_left kept.locs (note_ids kept) (label x.0.from) (from-there x.0 x.1)))
      (λ c. ⊎_elim
      (λ (q : a.0.to_id ≡ id). subst (Contains all) (sym (to-named es target x.0 b) ∙ ap (λ (y : Arc). y.to_id) x.2 ∙ q) (to-there x.0 x.1))
      (λ n. absurd (Contains-nil id n)) (Contains-cases a.0.to_id [] id c))
      (Contains-cases a.0.from_id (a.0.to_id ∷ []) id a.2))

  all-ends : is_within (kept.locs ++ note_ids kept) (arc_ends kept) ≡ true
  all-ends = within-from (kept.locs ++ note_ids kept) (arc_ends kept) (λ id h. ⊎_elim
      (λ c. let e = loc-fact id c in subst (Contains (arc_ends kept)) e.3 (end-in e.0 e.1))
      (λ c. let e = note-end id c in subst (Contains (arc_ends kept)) e.2 (end-in e.0 e.1))
      (Contains-append_cases kept.locs (note_ids kept) id h))

-- Locators are ids of facts of the target.

-- each fact of the target that has an id gives it to the facts
abbrev pub HaveIds : List Located → List ℕ → Content → Type 0
HaveIds es target c =
    (e : Located) → Contains (filter (is_fact_of target) es) e → (id : List ℕ) → id_of e ≡ Some id → has (fact_ids (said_of c).facts) id ≡ true

-- where a relationship goes to a fact, all its facts are of one target
goes-within : (s : PageSet) → IsClean s → (target : List ℕ) (x : Between) → IsBetween (elements s) target x → is_fact x.to ≡ true
    → bytes_eq target (target_of x.to) ≡ true
goes-within s clean target x b f =
    let es = elements s in
    let r = b.relation in
    let a = asks es in
    let ids = from_ids r ++ to_ids r in
    let facts = named_by is_fact a ids in
    let to_fact : one_such is_fact a b.end ≡ Some x.to = such-too es is_end is_fact b.end x.to b.end_such f in
    let from_fact : one_such is_fact a b.start ≡ Some x.from = such-too es is_fact is_fact b.start x.from b.start_such b.start_such.such in
    let any : are_any (named_by is_fact a (to_ids r)) ≡ true =
    some-any (named_by is_fact a (to_ids r)) x.to (in-given (one_such is_fact a) (to_ids r) b.end x.to b.end_named to_fact) in
    let whole = link-unbroken s clean rule.L16 (15, omega arith, refl) r b.there in
    let apart = with-true (is_relationship r && are_any (named_by is_fact a (to_ids r)))
    (list_any (λ y. list_any (λ z. not (same_target y z)) facts) facts)
    (and_from (is_relationship r) (are_any (named_by is_fact a (to_ids r))) b.relates any) whole in
    let from_in = in-given (one_such is_fact a) ids b.start x.from (Contains-append_left (from_ids r) (to_ids r) b.start b.start_named) from_fact in
    let to_in = in-given (one_such is_fact a) ids b.end x.to (Contains-append_right (from_ids r) (to_ids r) b.end b.end_named) to_fact in
    let one = none-any (λ y. list_any (λ z. not (same_target y z)) facts) facts apart x.from from_in in
    let two = none-any (λ z. not (same_target x.from z)) facts one x.to to_in in
    let same : target_of x.from ≡ target_of x.to = (bytes_eq-Decides (target_of x.from) (target_of x.to)).0 (not-not (same_target x.from x.to) two) in
    ap (bytes_eq target) (sym same) ∙ b.targets

such-id : (es : List Located) (p : Located → Bool) (id name : List ℕ) (x : Located) → IsSuch es p id x → label x ≡ name → id_of x ≡ Some name
such-id es p id name x such e = such.called ∙ ap Some (sym (called es p id x such) ∙ e)

locs-within : (s : PageSet) → IsClean s → (target : List ℕ) (c : Content) → HaveIds (elements s) target c → (l : NoteLink)
    → IsLinkOf (base_at s) (elements s) target l → is_within (arranged_link l).locs (fact_ids (said_of c).facts) ≡ true
locs-within s clean target c have l k =
    let es = elements s in
    let kept = arranged_link l in
    all-pass (has (fact_ids (said_of c).facts)) kept.locs (λ id h.
    let e = loc-fact (base_at s) es target l k id h in
    let x = end-from (arcs_of es target k.role) e.0 e.1 in
    let b = all-between es target x.0 (arc-among es target k.role x.0 x.1) in
    let is_in : (y : Located) → Contains es y → is_fact y ≡ true → bytes_eq target (target_of y) ≡ true → Contains (filter (is_fact_of target) es) y =
    λ y at f t. Contains-filter (is_fact_of target) es y at (and_from (is_fact y) (bytes_eq target (target_of y)) f t) in
    ⊎_elim
    (λ (q : x.0.from ≡ e.0).
    have x.0.from (is_in x.0.from b.start_such.there b.start_such.such b.targets) id
    (such-id es is_fact b.start id x.0.from b.start_such (ap label q ∙ e.3)))
    (λ (q : x.0.to ≡ e.0).
    let f : is_fact x.0.to ≡ true = ap is_fact q ∙ e.2 in
    have x.0.to (is_in x.0.to b.end_such.there f (goes-within s clean target x.0 b f)) id
    (such-id es is_end b.end id x.0.to b.end_such (ap label q ∙ e.3)))
    x.2)

whole-link : (s : PageSet) → IsClean s → (target : List ℕ) (c : Content) → HaveIds (elements s) target c → (l : NoteLink)
    → IsLinkOf (base_at s) (elements s) target l → is_whole_link (fact_ids (said_of c).facts) (arranged_link l) ≡ true
whole-link s clean target c have l k =
    let bases = base_at s in
    let es = elements s in
    and_from _ _ (and_from _ _ (and_from _ _
    (some-arcs bases es target l k)
    (ends-within bases es target l k))
    (all-ends bases es target l k))
    (locs-within s clean target c have l k)

fits-of : (s : PageSet) → IsClean s → (target : List ℕ) (g : Content) → HaveIds (elements s) target (arranged g)
    → ((l : NoteLink) → Contains (arranged g).notes l → (m : NoteLink) × IsLinkOf (base_at s) (elements s) target m × (arranged_link m ≡ l))
    → links_fit (said_of (arranged g)) ≡ true
unfolding links_fit
fits-of s clean target g have from =
    all-pass (is_whole_link (fact_ids (said_of (arranged g)).facts)) (arranged g).notes (λ l h.
    let m = from l h in
    subst (λ k. is_whole_link (fact_ids (said_of (arranged g)).facts) k ≡ true) m.2 (whole-link s clean target (arranged g) have m.0 m.1))

pub links-fit : (s : PageSet) → IsClean s → (target : List ℕ) (c : Content) → IsContent (base_at s) (elements s) target c
    → HaveIds (elements s) target c → links_fit (said_of c) ≡ true
links-fit s clean target c content have =
    subst (λ x. links_fit (said_of x) ≡ true) (sym content.2)
    (fits-of s clean target content.0 (subst (HaveIds (elements s) target) content.2 have)
    (λ l h. from-links (base_at s) (elements s) target content.0 content.1 l h))
