-- The footnote links of a target, arc by arc, and what arranging leaves of them.
use Rattle.std.proofs.Common.{◌≡◌, ◌∙◌, ap, refl, subst, sym, ℕ, Bool, true, false, cond, not, List, [], ◌∷◌, map, Option, Some, None, unwrap_or}
use Rattle.std.specs.List.{AllByRecursion, Contains, cons_option, filter, filter_map}
use Rattle.std.specs.List.Sorted.{IsStrictlySortedBy}
use Rattle.std.specs.Ordering.{on}
use Rattle.std.specs.Prelude.{bytes_eq}
use Rattle.std.specs.declared.cmp.Ordering.{Ordering}
use Rattle.std.specs.declared.cmp.Ordering.TheVariants.{Less, Equal}
use Rattle.std.proofs.lemmas.Cmp.{nat_list_cmp_total, on_total, tied_itself}
use Rattle.std.proofs.lemmas.Slice.Eq.{bytes_eq-Decides}
use Rattle.ix_base.specs.declared.content.Arc.{Arc}
use Rattle.ix_base.specs.declared.content.Content.{Content}
use Rattle.ix_base.specs.declared.content.Footnote.{Footnote}
use Rattle.ix_base.specs.declared.content.NoteLink.{NoteLink}
use Rattle.ix_base.specs.Asks.{asks}
use Rattle.ix_base.specs.Ids.{one_such}
use Rattle.ix_base.specs.LinkRules.{from_ids, is_end, is_footnote, is_relationship, named_by, target_of, to_ids}
use Rattle.ix_base.specs.LocatedElements.{Located, is_fact}
use Rattle.ix_base.specs.Once.{in_order}
use Rattle.ix_base.specs.SortedLists.{sorted, text_cmp}
use Rattle.ix_base.proofs.OnceLemmas.{Contains-filter, Contains-from_filter, Contains-nil, in_order-members, in_order-sorted}
use Rattle.ix_base.proofs.OnceOrdered.{same_text}
use Rattle.footnotes.specs.FootnoteLinks.{arc_texts_cmp as by_parts}
use Rattle.footnotes.specs.FootnoteLinks.{Between, arcs_by, arcs_in, between, ends, footnote_of, label, link_of, notes, sources}
use Rattle.instance_lines.specs.Arrangement.{arranged, arranged_link, firsts}
use Rattle.instance_lines.specs.Canonical.{arc_line_cmp}
use Rattle.footnotes.proofs.OnceLaws.{same_arc}
use Rattle.instance_lines.specs.Elements.{arc_text, footnote_text}
use Rattle.instance_lines.specs.Holdings.{all_arcs, all_notes}
use Rattle.ix_base.specs.PlainContents.{said_of}
use Rattle.instance_lines.proofs.ArrangedLaws.{sorted-risen}
use Rattle.target_contents.specs.Contents.{IsGathered}
use Rattle.targets.proofs.HasLaws.{from-order, from-sorted, in-order, strict-rises}
use Rattle.target_contents.proofs.MemberLaws.{from-flat, from-given, from-map, in-map, in-sorted}
use Rattle.targets.proofs.SpelledLaws.{AreAlike, same-arc, same-id}
use Rattle.targets.proofs.SuchLaws.{IsSuch, such-is}

-- Arcs.

-- an arc goes from a fact of the target to a fact or a footnote, both named by a relationship
pub record IsBetween (es : List Located) (target : List ℕ) (x : Between) : Type 0 where
  pub relation : Located
  pub there : Contains es relation
  pub relates : is_relationship relation ≡ true
  pub start : List ℕ
  pub start_named : Contains (from_ids relation) start
  pub start_such : IsSuch es is_fact start x.from
  pub targets : bytes_eq target (target_of x.from) ≡ true
  pub end : List ℕ
  pub end_named : Contains (to_ids relation) end
  pub end_such : IsSuch es is_end end x.to
  pub is : x ≡ between relation x.from x.to

named-from : (es : List Located) (p : Located → Bool) (ids : List (List ℕ)) (x : Located) → Contains (named_by p (asks es) ids) x
    → (id : List ℕ) × Contains ids id × IsSuch es p id x
named-from es p ids x h = let at = from-given (one_such p (asks es)) ids x h in (at.0, at.1, such-is es p at.0 x at.2)

pub all-between : (es : List Located) (target : List ℕ) (x : Between) → Contains (arcs_in es target) x → IsBetween es target x
all-between es target x h =
    let at = from-flat (λ r. arcs_by (is_relationship r) (asks es) target r) es x h in
    by at.0 at.1 (is_relationship at.0) refl at.2
  where
    by : (r : Located) → Contains es r → (b : Bool) → is_relationship r ≡ b → Contains (arcs_by b (asks es) target r) x → IsBetween es target x
    by r there false e k = absurd (Contains-nil x k)
    by r there true e k =
        let f = from-flat (λ f. map (between r f) (named_by is_end (asks es) (to_ids r))) (sources (asks es) target r) x k in
        let y = from-map (between r f.0) (named_by is_end (asks es) (to_ids r)) x f.2 in
        let source = Contains-from_filter (λ z. bytes_eq target (target_of z)) (named_by is_fact (asks es) (from_ids r)) f.0 f.1 in
        let start = named-from es is_fact (from_ids r) f.0 source.0 in
        let end = named-from es is_end (to_ids r) y.0 y.1 in
        subst (IsBetween es target) y.2 (record {
          relation = r;
          there = there;
          relates = e;
          start = start.0;
          start_named = start.1;
          start_such = start.2;
          targets = source.1;
          end = end.0;
          end_named = end.1;
          end_such = end.2;
          is = refl;
        })

-- what an element with an id is called
pub called : (es : List Located) (p : Located → Bool) (id : List ℕ) (x : Located) → IsSuch es p id x → label x ≡ id
called es p id x s = ap (λ o. unwrap_or o []) s.called

-- Links.

abbrev pub arcs_of : List Located → List ℕ → List ℕ → List Between
arcs_of es target role = filter (λ x. bytes_eq role x.role) (arcs_in es target)

-- a link of a target: that of the arcs of a role, of which there are some
pub record IsLinkOf (bases : Located → List ℕ) (es : List Located) (target : List ℕ) (l : NoteLink) : Type 0 where
  pub role : List ℕ
  pub some : Between
  pub some_there : Contains (arcs_of es target role) some
  pub some_role : some.role ≡ role
  pub is : l ≡ link_of bases (asks es) role (arcs_of es target role)

pub all-links : (bases : Located → List ℕ) (es : List Located) (target : List ℕ) (l : NoteLink) → Contains (notes bases es target) l
    → IsLinkOf bases es target l
all-links bases es target l h =
    let all = arcs_in es target in
    let at = from-map (λ role. link_of bases (asks es) role (arcs_of es target role)) (in_order text_cmp (map (λ (x : Between). x.role) all)) l h in
    let arc = from-map (λ (x : Between). x.role) all at.0 (from-order text_cmp (map (λ (x : Between). x.role) all) at.0 at.1) in
    record {
      role = at.0;
      some = arc.0;
      some_there = Contains-filter (λ (x : Between). bytes_eq at.0 x.role) all arc.0 arc.1 ((bytes_eq-Decides at.0 arc.0.role).1 (sym arc.2));
      some_role = arc.2;
      is = sym at.2;
    }

pub arc-among : (es : List Located) (target role : List ℕ) (x : Between) → Contains (arcs_of es target role) x → Contains (arcs_in es target) x
arc-among es target role x h = (Contains-from_filter (λ (y : Between). bytes_eq role y.role) (arcs_in es target) x h).0

-- Footnotes stand by their ids, each once.

abbrev pub by_note : Footnote → Footnote → Ordering
by_note = on (λ (f : Footnote). f.id) text_cmp

module _ (bases : Located → List ℕ) (es : List Located) where
  notes-behind : (n : List ℕ) (ids : List (List ℕ)) → AllByRecursion (λ y. text_cmp n y ≡ Less) ids
      → AllByRecursion (λ f. text_cmp n f.id ≡ Less) (map (footnote_of bases (asks es)) (filter_map (one_such is_footnote (asks es)) ids))
  notes-behind n [] h = tt
  notes-behind n (id ∷ ids) h = put (one_such is_footnote (asks es) id) refl (notes-behind n ids h.1)
    where
      put : (o : Option Located) → one_such is_footnote (asks es) id ≡ o
          → AllByRecursion (λ f. text_cmp n f.id ≡ Less) (map (footnote_of bases (asks es)) (filter_map (one_such is_footnote (asks es)) ids))
          → AllByRecursion (λ f. text_cmp n f.id ≡ Less) (map (footnote_of bases (asks es)) (cons_option o (filter_map (one_such is_footnote (asks es)) ids)))
      put None e k = k
      put (Some x) e k = (ap (text_cmp n) (called es is_footnote id x (such-is es is_footnote id x e)) ∙ h.0, k)

  notes-strict : (ids : List (List ℕ)) → IsStrictlySortedBy text_cmp ids
      → IsStrictlySortedBy by_note (map (footnote_of bases (asks es)) (filter_map (one_such is_footnote (asks es)) ids))
  unfolding IsStrictlySortedBy
  notes-strict [] h = tt
  notes-strict (id ∷ ids) h = put (one_such is_footnote (asks es) id) refl (notes-strict ids h.1)
    where
      put : (o : Option Located) → one_such is_footnote (asks es) id ≡ o
          → IsStrictlySortedBy by_note (map (footnote_of bases (asks es)) (filter_map (one_such is_footnote (asks es)) ids))
          → IsStrictlySortedBy by_note (map (footnote_of bases (asks es)) (cons_option o (filter_map (one_such is_footnote (asks es)) ids)))
      put None e k = k
      put (Some x) e k =
          let same : id ≡ label x = sym (called es is_footnote id x (such-is es is_footnote id x e)) in
          (notes-behind (label x) ids (subst (λ n. AllByRecursion (λ y. text_cmp n y ≡ Less) ids) same h.0), k)

  pub link-strict : (role : List ℕ) (xs : List Between) → IsStrictlySortedBy by_note (link_of bases (asks es) role xs).footnotes
  link-strict role xs =
      notes-strict (in_order text_cmp (map label (filter is_footnote (ends xs)))) (in_order-sorted nat_list_cmp_total (map label (filter is_footnote (ends xs))))

-- those that rise strictly by a name are told apart by a text that tells the name
module _ {X : Type 0} (name text : X → List ℕ) (tells : (x y : X) → text x ≡ text y → name x ≡ name y) where
  kept-behind : (x : X) (ys : List X) → AllByRecursion (λ y. text_cmp (name x) (name y) ≡ Less) ys → filter (λ y. not (bytes_eq (text x) (text y))) ys ≡ ys
  kept-behind x [] h = refl
  kept-behind x (y ∷ ys) h = by (bytes_eq (text x) (text y)) refl (kept-behind x ys h.1)
    where
      by : (b : Bool) → bytes_eq (text x) (text y) ≡ b → filter (λ z. not (bytes_eq (text x) (text z))) ys ≡ ys
          → cond (not b) (y ∷ filter (λ z. not (bytes_eq (text x) (text z))) ys) (filter (λ z. not (bytes_eq (text x) (text z))) ys) ≡ y ∷ ys
      by false e k = ap (λ l. y ∷ l) k
      by true e k =
          let same : name x ≡ name y = tells x y ((bytes_eq-Decides (text x) (text y)).0 e) in
          let tie : text_cmp (name x) (name y) ≡ Equal = ap (text_cmp (name x)) (sym same) ∙ tied_itself nat_list_cmp_total (name x) in
          let less : text_cmp (name x) (name y) ≡ Less = h.0 in
          absurd (let f : Less ≡ Equal = sym less ∙ tie in cc)

  firsts-all : (xs : List X) → IsStrictlySortedBy (on name text_cmp) xs → firsts text xs ≡ xs
  unfolding IsStrictlySortedBy
  firsts-all [] h = refl
  firsts-all (x ∷ xs) h = ap (λ l. x ∷ filter (λ y. not (bytes_eq (text x) (text y))) l) (firsts-all xs h.1) ∙ ap (λ l. x ∷ l) (kept-behind x xs h.0)

-- What arranging leaves of a link.

pub arranged-role : (l : NoteLink) → (arranged_link l).role ≡ l.role
unfolding arranged_link
arranged-role l = refl

pub arranged-locs : (l : NoteLink) → (arranged_link l).locs ≡ in_order text_cmp l.locs
unfolding arranged_link
arranged-locs l = refl

pub arranged-arcs : (l : NoteLink) → (arranged_link l).arcs ≡ in_order arc_line_cmp l.arcs
unfolding arranged_link
arranged-arcs l = refl

pub arranged-notes : (l : NoteLink) → IsStrictlySortedBy by_note l.footnotes → (arranged_link l).footnotes ≡ l.footnotes
unfolding arranged_link
arranged-notes l h =
    ap (firsts footnote_text) (sorted-risen (on_total (λ (f : Footnote). f.id) nat_list_cmp_total) l.footnotes
    (strict-rises by_note (on_total (λ (f : Footnote). f.id) nat_list_cmp_total) l.footnotes h))
    ∙ firsts-all (λ (f : Footnote). f.id) footnote_text same-id l.footnotes h

pub arranged-links : (c : Content) → (arranged c).notes ≡ map arranged_link (sorted (on (λ (l : NoteLink). l.role) text_cmp) c.notes)
unfolding arranged
arranged-links c = refl

-- the links of an arranged content are links of the target, arranged
pub from-links : (bases : Located → List ℕ) (es : List Located) (target : List ℕ) (c : Content) → IsGathered bases es target c → (l : NoteLink)
    → Contains (arranged c).notes l → (m : NoteLink) × IsLinkOf bases es target m × (arranged_link m ≡ l)
from-links bases es target c g l h =
    let R = on (λ (k : NoteLink). k.role) text_cmp in
    let at = from-map arranged_link (sorted R c.notes) l (subst (λ ls. Contains ls l) (arranged-links c) h) in
    let there = subst (λ ls. Contains ls at.0) g.notes (from-sorted R c.notes at.0 at.1) in
    (at.0, all-links bases es target at.0 there, at.2)

-- and each of these is one of them
pub in-links : (bases : Located → List ℕ) (es : List Located) (target : List ℕ) (c : Content) → IsGathered bases es target c → (l : NoteLink)
    → Contains (notes bases es target) l → Contains (arranged c).notes (arranged_link l)
in-links bases es target c g l h =
    let R = on (λ (k : NoteLink). k.role) text_cmp in
    subst (λ ls. Contains ls (arranged_link l)) (sym (arranged-links c))
    (in-map arranged_link (sorted R c.notes) l (in-sorted R c.notes l (subst (λ ls. Contains ls l) (sym g.notes) h)))

-- the footnotes of such a link
pub link-notes : (bases : Located → List ℕ) (es : List Located) (target : List ℕ) (l : NoteLink) → IsLinkOf bases es target l
    → (arranged_link l).footnotes ≡ l.footnotes
link-notes bases es target l k =
    arranged-notes l (subst (λ (m : NoteLink). IsStrictlySortedBy by_note m.footnotes) (sym k.is) (link-strict bases es k.role (arcs_of es target k.role)))

-- the arcs of a link are those between elements
pub link-arc : (bases : Located → List ℕ) (es : List Located) (target : List ℕ) (l : NoteLink) (k : IsLinkOf bases es target l) (a : Arc) → Contains l.arcs a
    → (x : Between) × Contains (arcs_of es target k.role) x × (x.arc ≡ a)
link-arc bases es target l k a h =
    let xs = arcs_of es target k.role in
    from-map (λ (x : Between). x.arc) xs a
    (from-order by_parts (map (λ (x : Between). x.arc) xs) a (subst (λ (m : NoteLink). Contains m.arcs a) k.is h))

-- an arc of an arranged content goes between elements
pub arc-from : (bases : Located → List ℕ) (es : List Located) (target : List ℕ) (c : Content) → IsGathered bases es target c → (a : Arc)
    → Contains (all_arcs (said_of (arranged c))) a → (x : Between) × IsBetween es target x × (x.arc ≡ a)
arc-from bases es target c g a h =
    let l = from-flat (λ (l : NoteLink). l.arcs) (arranged c).notes a h in
    let m = from-links bases es target c g l.0 l.1 in
    let in_link = subst (λ (k : NoteLink). Contains k.arcs a) (sym m.2) l.2 in
    let in_own = from-order arc_line_cmp m.0.arcs a (subst (λ as'. Contains as' a) (arranged-arcs m.0) in_link) in
    let x = link-arc bases es target m.0 m.1 a in_own in
    (x.0, all-between es target x.0 (arc-among es target m.1.role x.0 x.1), x.2)

-- a footnote of an arranged content is one of a link
pub note-from : (bases : Located → List ℕ) (es : List Located) (target : List ℕ) (c : Content) → IsGathered bases es target c → (f : Footnote)
    → Contains (all_notes (said_of (arranged c))) f → (e : Located) × Contains es e × (is_footnote e ≡ true) × (footnote_of bases (asks es) e ≡ f)
note-from bases es target c g f h =
    let l = from-flat (λ (l : NoteLink). l.footnotes) (arranged c).notes f h in
    let m = from-links bases es target c g l.0 l.1 in
    let in_link = subst (λ (k : NoteLink). Contains k.footnotes f) (sym m.2) l.2 in
    let in_own = subst (λ fs. Contains fs f) (link-notes bases es target m.0 m.1) in_link in
    let ids = in_order text_cmp (map label (filter is_footnote (ends (arcs_of es target m.1.role)))) in
    let e = from-map (footnote_of bases (asks es)) (filter_map (one_such is_footnote (asks es)) ids) f (subst (λ (k : NoteLink). Contains k.footnotes f) m.1.is in_own) in
    let id = from-given (one_such is_footnote (asks es)) ids e.0 e.1 in
    let such = such-is es is_footnote id.0 e.0 id.2 in
    (e.0, such.there, such.such, e.2)

-- an arc of a link stands in it as it is arranged, or one that is written alike
pub arc-kept : (l : NoteLink) (a : Arc) → Contains l.arcs a → (b : Arc) × Contains (arranged_link l).arcs b × AreAlike a b
arc-kept l a h =
    let tie = in-order arc_line_cmp (tied_itself (on_total arc_text nat_list_cmp_total)) l.arcs a h in
    (tie.0, subst (λ as'. Contains as' tie.0) (sym (arranged-arcs l)) tie.1, same-arc a tie.0 (same_text (arc_text a) (arc_text tie.0) tie.2))

-- and each that stands there is one of the link
pub arc-own : (l : NoteLink) (a : Arc) → Contains (arranged_link l).arcs a → Contains l.arcs a
arc-own l a h = from-order arc_line_cmp l.arcs a (subst (λ as'. Contains as' a) (arranged-arcs l) h)

-- the arcs between elements are those of their link
pub arc-in : (bases : Located → List ℕ) (es : List Located) (target : List ℕ) (l : NoteLink) (k : IsLinkOf bases es target l) (x : Between)
    → Contains (arcs_of es target k.role) x → Contains l.arcs x.arc
arc-in bases es target l k x h =
    let xs = arcs_of es target k.role in
    subst (λ (m : NoteLink). Contains m.arcs x.arc) (sym k.is)
    ((in_order-members same_arc (map (λ (y : Between). y.arc) xs)).there x.arc (in-map (λ (y : Between). y.arc) xs x h))
