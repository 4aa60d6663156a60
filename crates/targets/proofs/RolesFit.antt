-- In a content the references for roles and arcroles are used, and stand once for each.
use Rattle.std.proofs.Common.{◌≡◌, ◌∙◌, ap, refl, subst, sym, ℕ, Bool, true, false, not, List, [], ◌∷◌, ◌++◌, map, Option, Some, None, option_map, ⊎_elim}
use Rattle.std.specs.List.{AllByRecursion, Contains, cons_option, filter, flat_map, list_any}
use Rattle.std.specs.List.Sorted.{IsStrictlySortedBy}
use Rattle.std.specs.Prelude.{bytes_eq}
use Rattle.std.specs.declared.cmp.Ordering.{Ordering}
use Rattle.std.specs.declared.cmp.Ordering.TheVariants.{Less, Equal, Greater}
use Rattle.std.proofs.lemmas.Bool.{and_from}
use Rattle.std.proofs.lemmas.Cmp.{nat_list_cmp_total, tied_itself}
use Rattle.std.proofs.lemmas.List.Elements.{Contains-append_left, Contains-append_right}
use Rattle.std.proofs.lemmas.Slice.Eq.{bytes_eq-Decides}
use Rattle.ix_base.specs.declared.content.Arc.{Arc}
use Rattle.ix_base.specs.declared.content.Content.{Content}
use Rattle.ix_base.specs.declared.content.Footnote.{Footnote}
use Rattle.ix_base.specs.declared.content.NoteLink.{NoteLink}
use Rattle.ix_base.specs.declared.content.RoleRef.{RoleRef}
use Rattle.ix_base.specs.declared.kind.Kind.{Kind}
use Rattle.ix_base.specs.declared.kind.Kind.TheVariants as kind
use Rattle.ix_base.specs.LocatedElements.{Located}
use Rattle.ix_base.specs.LinkRules.{address_of}
use Rattle.ix_base.specs.Once.{in_order, put as put_once, put_by as put_once_by}
use Rattle.ix_base.specs.SortedLists.{text_cmp}
use Rattle.ix_base.proofs.OnceLemmas.{Contains-cases, Contains-first, Contains-later, Contains-nil, in_order-sorted}
use Rattle.footnotes.specs.FootnoteLinks.{notes}
use Rattle.instance_lines.specs.Arrangement.{arranged, arranged_link, by_line}
use Rattle.instance_lines.specs.Canonical.{arcrole_markup, role_markup}
use Rattle.instance_lines.specs.Holdings.{all_arcs, all_notes}
use Rattle.instance_lines.specs.Lists.{are_apart}
use Rattle.instance_out.specs.Proper.{roles_fit}
use Rattle.ix_base.specs.PlainContents.{said_of}
use Rattle.targets.specs.ValidSets.{IsClean}
use Rattle.ix_base.specs.Asks.{first_of}
use Rattle.target_contents.specs.Contents.{IsContent, IsGathered, arcroles_in, role_at, role_to, roles_for, roles_in, uris_in}
use Rattle.target_contents.specs.PageSet.{PageSet, base_at, elements}
use Rattle.target_contents.specs.RoleAddresses.{refers_to}
use Rattle.targets.proofs.ArcLaws.{all-links, arc-kept, arranged-role, in-links, link-notes}
use Rattle.targets.proofs.HasLaws.{any-none, from-order, once-from}
use Rattle.target_contents.proofs.MemberLaws.{from-flat, from-given, from-map, in-flat, in-map, within-from}

-- no two of these have one text
module _ {X : Type 0} (f : X → List ℕ) where
  abbrev IsOther : X → List X → Type 0
  IsOther x ys = (y : X) → Contains ys y → bytes_eq (f x) (f y) ≡ false

  abbrev AreOthers : List X → Type 0
  AreOthers [] = Unit {0}
  AreOthers (x ∷ xs) = IsOther x xs × AreOthers xs

  turned : (x y : X) → bytes_eq (f x) (f y) ≡ false → (b : Bool) → bytes_eq (f y) (f x) ≡ b → b ≡ false
  turned x y e false h = refl
  turned x y e true h =
      let back : bytes_eq (f x) (f y) ≡ true = (bytes_eq-Decides (f x) (f y)).1 (sym ((bytes_eq-Decides (f y) (f x)).0 h)) in
      absurd (let g : true ≡ false = sym back ∙ e in cc)

  module _ (R : X → X → Ordering) where
    once_by-others : (r : Ordering) (x y : X) (ys behind : List X) → IsOther x (y ∷ ys) → AreOthers (y ∷ ys) → IsOther y behind → AreOthers behind
        → AreOthers (put_once_by r x y ys behind)
    once_by-others Less x y ys behind h are k rest = (h, are)
    once_by-others Equal x y ys behind h are k rest = are
    once_by-others Greater x y ys behind h are k rest = (k, rest)

    once-others : (x : X) (ys : List X) → IsOther x ys → AreOthers ys → AreOthers (put_once R x ys)
    once-others x [] h are = ((λ y k. absurd (Contains-nil y k)), tt)
    once-others x (y ∷ ys) h are =
        once_by-others (R x y) x y ys (put_once R x ys) h are
        (λ z k. ⊎_elim
        (λ (e : x ≡ z). subst (λ w. bytes_eq (f y) (f w) ≡ false) e (turned x y (h y (Contains-first y ys)) (bytes_eq (f y) (f x)) refl))
        (λ c. are.0 z c) (once-from R x ys z k))
        (once-others x ys (λ z k. h z (Contains-later y ys z k)) are.1)

    order-others : (xs : List X) → AreOthers xs → AreOthers (in_order R xs)
    unfolding in_order
    order-others [] h = tt
    order-others (x ∷ xs) h = once-others x (in_order R xs) (λ y k. h.0 y (from-order R xs y k)) (order-others xs h.1)

  others-apart : (xs : List X) → AreOthers xs → are_apart (map f xs) ≡ true
  others-apart [] h = refl
  others-apart (x ∷ xs) h =
      and_from (not (list_any (bytes_eq (f x)) (map f xs))) (are_apart (map f xs))
      (ap not (any-none (bytes_eq (f x)) (map f xs) (λ t k. let y = from-map f xs t k in ap (bytes_eq (f x)) (sym y.2) ∙ h.0 y.0 y.1)))
      (others-apart xs h.1)

-- References for roles.

ref-uri : (uri : List ℕ) (o : Option (List ℕ)) (r : RoleRef) → option_map (role_to uri) o ≡ Some r → r.uri ≡ uri
ref-uri uri None r e = absurd (cc)
ref-uri uri (Some x) r e = let same : role_to uri x ≡ r = cc in ap (λ (q : RoleRef). q.uri) (sym same)

module _ (bases : Located → List ℕ) (es : List Located) (k : Kind) where
  ref-from : (uris : List (List ℕ)) (r : RoleRef) → Contains (roles_for bases es k uris) r → Contains uris r.uri
  ref-from uris r h =
      let at = from-given (role_at bases es k) uris r h in
      let same = ref-uri at.0 (first_of (map (address_of bases) (filter (refers_to k at.0) es))) r at.2 in
      subst (Contains uris) (sym same) at.1

  behind : (n : List ℕ) (ns : List (List ℕ)) → AllByRecursion (λ m. text_cmp n m ≡ Less) ns → (m : List ℕ) → Contains ns m → bytes_eq n m ≡ false
  behind n [] h m c = absurd (Contains-nil m c)
  behind n (x ∷ ns) h m c = ⊎_elim
      (λ (e : x ≡ m). differ (subst (λ z. text_cmp n z ≡ Less) e h.0) (bytes_eq n m) refl)
      (λ later. behind n ns h.1 m later) (Contains-cases x ns m c)
    where
      differ : text_cmp n m ≡ Less → (b : Bool) → bytes_eq n m ≡ b → b ≡ false
      differ less false e = refl
      differ less true e =
          let same : n ≡ m = (bytes_eq-Decides n m).0 e in
          let tie : text_cmp n m ≡ Equal = ap (text_cmp n) (sym same) ∙ tied_itself nat_list_cmp_total n in
          absurd (let g : Less ≡ Equal = sym less ∙ tie in cc)

  refs-others : (uris : List (List ℕ)) → IsStrictlySortedBy text_cmp uris → AreOthers (λ (r : RoleRef). r.uri) (roles_for bases es k uris)
  unfolding IsStrictlySortedBy
  refs-others [] h = tt
  refs-others (n ∷ ns) h = put (role_at bases es k n) refl (refs-others ns h.1)
    where
      put : (o : Option RoleRef) → role_at bases es k n ≡ o → AreOthers (λ (r : RoleRef). r.uri) (roles_for bases es k ns)
          → AreOthers (λ (r : RoleRef). r.uri) (cons_option o (roles_for bases es k ns))
      put None e are = are
      put (Some r) e are =
          let same : r.uri ≡ n = ref-uri n (first_of (map (address_of bases) (filter (refers_to k n) es))) r e in
          ((λ q c. ap (λ u. bytes_eq u q.uri) same ∙ behind n ns h.0 q.uri (ref-from ns q c)), are)

-- What links use.

module _ (bases : Located → List ℕ) (es : List Located) (target : List ℕ) (c : Content) (g : IsGathered bases es target c) where
  role-used : (r : RoleRef) → Contains (arranged c).roles r
      → Contains (map (λ (l : NoteLink). l.role) (arranged c).notes ++ map (λ (f : Footnote). f.role) (all_notes (said_of (arranged c)))) r.uri
  unfolding arranged
  role-used r h =
      let ns = notes bases es target in
      let own = subst (λ rs. Contains rs r) g.roles (from-order (by_line role_markup) c.roles r h) in
      let uri = from-order text_cmp (flat_map roles_in ns) r.uri (ref-from bases es kind.RoleRef (uris_in roles_in ns) r own) in
      let l = from-flat roles_in ns r.uri uri in
      let there = in-links bases es target c g l.0 l.1 in
      let links = map (λ (k : NoteLink). k.role) (arranged c).notes in
      let feet = map (λ (f : Footnote). f.role) (all_notes (said_of (arranged c))) in
      ⊎_elim
      (λ (e : l.0.role ≡ r.uri). Contains-append_left links feet r.uri
      (subst (Contains links) (arranged-role l.0 ∙ e) (in-map (λ (k : NoteLink). k.role) (arranged c).notes (arranged_link l.0) there)))
      (λ later.
      let f = from-map (λ (f : Footnote). f.role) l.0.footnotes r.uri later in
      let kept = subst (λ fs. Contains fs f.0) (sym (link-notes bases es target l.0 (all-links bases es target l.0 l.1))) f.1 in
      Contains-append_right links feet r.uri
      (subst (Contains feet) f.2 (in-map (λ (x : Footnote). x.role) (all_notes (said_of (arranged c))) f.0
      (in-flat (λ (k : NoteLink). k.footnotes) (arranged c).notes (arranged_link l.0) f.0 there kept))))
      (Contains-cases l.0.role (map (λ (f : Footnote). f.role) l.0.footnotes) r.uri l.2)

  arcrole-used : (r : RoleRef) → Contains (arranged c).arcroles r → Contains (map (λ (a : Arc). a.arcrole) (all_arcs (said_of (arranged c)))) r.uri
  unfolding arranged
  arcrole-used r h =
      let ns = notes bases es target in
      let own = subst (λ rs. Contains rs r) g.arcroles (from-order (by_line arcrole_markup) c.arcroles r h) in
      let uri = from-order text_cmp (flat_map arcroles_in ns) r.uri (ref-from bases es kind.ArcroleRef (uris_in arcroles_in ns) r own) in
      let l = from-flat arcroles_in ns r.uri uri in
      let there = in-links bases es target c g l.0 l.1 in
      let a = from-map (λ (a : Arc). a.arcrole) l.0.arcs r.uri l.2 in
      let kept = arc-kept l.0 a.0 a.1 in
      subst (Contains (map (λ (b : Arc). b.arcrole) (all_arcs (said_of (arranged c))))) (sym kept.2.arcrole ∙ a.2)
      (in-map (λ (b : Arc). b.arcrole) (all_arcs (said_of (arranged c))) kept.0
      (in-flat (λ (k : NoteLink). k.arcs) (arranged c).notes (arranged_link l.0) kept.0 there kept.1))

  uris-strict : (uris : NoteLink → List (List ℕ)) (ns : List NoteLink) → IsStrictlySortedBy text_cmp (uris_in uris ns)
  uris-strict uris ns = in_order-sorted nat_list_cmp_total (flat_map uris ns)

  refs-apart : (k : Kind) (uris : NoteLink → List (List ℕ)) (R : RoleRef → RoleRef → Ordering) (rs : List RoleRef)
      → rs ≡ roles_for bases es k (uris_in uris (notes bases es target)) → are_apart (map (λ (r : RoleRef). r.uri) (in_order R rs)) ≡ true
  refs-apart k uris R rs e =
      let f = λ (r : RoleRef). r.uri in
      others-apart f (in_order R rs) (order-others f R rs
      (subst (AreOthers f) (sym e) (refs-others bases es k (uris_in uris (notes bases es target)) (uris-strict uris (notes bases es target)))))

  fits-of : roles_fit (said_of (arranged c)) ≡ true
  unfolding roles_fit arranged
  fits-of =
      and_from _ _ (and_from _ _ (and_from _ _
      (within-from (map (λ (r : RoleRef). r.uri) (arranged c).roles)
      (map (λ (l : NoteLink). l.role) (arranged c).notes ++ map (λ (f : Footnote). f.role) (all_notes (said_of (arranged c))))
      (λ t h. let r = from-map (λ (r : RoleRef). r.uri) (arranged c).roles t h in
      subst (Contains (map (λ (l : NoteLink). l.role) (arranged c).notes ++ map (λ (f : Footnote). f.role) (all_notes (said_of (arranged c))))) r.2
      (role-used r.0 r.1)))
      (within-from (map (λ (r : RoleRef). r.uri) (arranged c).arcroles) (map (λ (a : Arc). a.arcrole) (all_arcs (said_of (arranged c))))
      (λ t h. let r = from-map (λ (r : RoleRef). r.uri) (arranged c).arcroles t h in
      subst (Contains (map (λ (a : Arc). a.arcrole) (all_arcs (said_of (arranged c))))) r.2 (arcrole-used r.0 r.1))))
      (refs-apart kind.RoleRef roles_in (by_line role_markup) c.roles g.roles))
      (refs-apart kind.ArcroleRef arcroles_in (by_line arcrole_markup) c.arcroles g.arcroles)

pub roles-fit : (s : PageSet) → IsClean s → (target : List ℕ) (c : Content) → IsContent (base_at s) (elements s) target c
    → roles_fit (said_of c) ≡ true
roles-fit s clean target c content =
    subst (λ x. roles_fit (said_of x) ≡ true) (sym content.2) (fits-of (base_at s) (elements s) target content.0 content.1)
