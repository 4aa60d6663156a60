-- Lines in the root, footnote links whose bodies are fine, and the namespaces of names.
use Rattle.std.proofs.Common.{◌≡◌, ◌∙◌, refl, ap, sym, ℕ, suc, zero, Bool, true, false, ◌&&◌, not, if◌then◌else◌, List, [], ◌∷◌, ◌++◌, map, Option, Some, None, bytes_eq, codes}
use Rattle.std.specs.List.{list_all}
use Rattle.std.specs.Ordering.{nat_cmp, is_lt}
use Rattle.std.specs.declared.cmp.Ordering.{Ordering}
use Rattle.std.specs.declared.cmp.Ordering.TheVariants.{Less, Equal, Greater}
use Rattle.std.specs.Cmp.Lexicographic.{slice_cmp}
use Rattle.std.proofs.lemmas.Bool.{and_parts}
use Rattle.ix_base.specs.NcName.{is_allowed, are_allowed}
use Rattle.ix_base.specs.Once.{in_order}
use Rattle.ix_base.specs.Namespaces.{xml_namespace, xmlns_namespace}
use Rattle.ix_base.specs.SortedLists.{sorted, text_cmp}
use Rattle.ix_base.specs.WrittenMarkup.{Attribute, Markup, nothing, words, node, leaf, verbatim}
use Rattle.ix_base.specs.declared.content.Arc.{Arc}
use Rattle.ix_base.specs.declared.content.Footnote.{Footnote}
use Rattle.ix_base.specs.declared.content.NoteLink.{NoteLink}
use Rattle.ix_base.specs.declared.content.OwnName.{OwnName}
use Rattle.instance_lines.specs.Prefixes.{xml, is_known, with_space, spaces_of}
use Rattle.page_tree.specs.FineMarkup.{is_fine, is_fine_tag, scope_in, IsFine, HasValues, begins_dark, is_simple_name, are_simple_names, names_of, IsPlainTag}
use Rattle.page_constructs.proofs.AllowedText.{is_low, low-allowed, allowed-append}
use Rattle.page_tree.proofs.FineLaws.{nothing-fine, node-fine, leaf-fine, no-values, more-values}
use Rattle.page_tree.proofs.FineTags.{simple-tag}
use Rattle.page_constructs.proofs.SpanLaws.{and_both, bytes-one, clash}
use Rattle.instance_lines.specs.Canonical.{Spaces, attr_if, each_markup, locator_markup, footnote_markup, arc_markup, link_markup, arc_line_cmp}
use Rattle.ix_base.specs.FilledMarkup.{then as joins, filled}
use Rattle.instance_out.specs.GoodMarkup.{allowed_if, is_spaced, good_footnote, good_arc, good_link, declared_scope, is_space, is_element}
use Rattle.instance_out.specs.Instance.{lines_of}
use Rattle.instance_out.proofs.LinesFine.{is_fine_line}
use Rattle.instance_out.proofs.RootFine.{known, known-bound}
use Rattle.instance_out.proofs.BodyLaws.{each-sorted}
use Rattle.instance_out.proofs.ProperLaws.{each-of, all-of}
use Rattle.instance_out.proofs.TheoremLaws.{then-nothing}
use Rattle.ix_base.specs.Once as once
use Rattle.ix_base.specs.Trees as trees

-- Lists.

pub all-append : {X : Type 0} (f : X → Bool) (xs ys : List X) → list_all f xs ≡ true → list_all f ys ≡ true → list_all f (xs ++ ys) ≡ true
all-append f [] ys h k = k
all-append f (x ∷ xs) ys h k = let z = and_parts (f x) (list_all f xs) h in and_both (f x) (list_all f (xs ++ ys)) z.0 (all-append f xs ys z.1 k)

pub all-map : {X Y : Type 0} (f : Y → Bool) (g : X → Y) (p : X → Bool) → ((x : X) → p x ≡ true → f (g x) ≡ true) → (xs : List X) → list_all p xs ≡ true → list_all f (map g xs) ≡ true
all-map f g p h [] k = refl
all-map f g p h (x ∷ xs) k = let z = and_parts (p x) (list_all p xs) k in and_both (f (g x)) (list_all f (map g xs)) (h x z.0) (all-map f g p h xs z.1)

all-sorted : {X : Type 0} (f : X → Bool) (R : X → X → Ordering) (xs : List X) → list_all f xs ≡ true → list_all f (sorted R xs) ≡ true
all-sorted f R xs h = all-of f (sorted R xs) (each-sorted (λ x. f x ≡ true) R xs (each-of f xs h))

once-put : {X : Type 0} (f : X → Bool) (R : X → X → Ordering) (x : X) (ys : List X) → f x ≡ true → list_all f ys ≡ true → list_all f (once.put R x ys) ≡ true
once-put f R x [] h k = rw h refl
once-put f R x (y ∷ ys) h k = let z = and_parts (f y) (list_all f ys) k in by_order (R x y) (once-put f R x ys h z.1) where
  by_order : (o : Ordering) → list_all f (once.put R x ys) ≡ true → list_all f (once.put_by o x y ys (once.put R x ys)) ≡ true
  by_order Less r = and_both (f x) (list_all f (y ∷ ys)) h k
  by_order Equal r = k
  by_order Greater r = and_both (f y) (list_all f (once.put R x ys)) (and_parts (f y) (list_all f ys) k).0 r

all-once : {X : Type 0} (f : X → Bool) (R : X → X → Ordering) (xs : List X) → list_all f xs ≡ true → list_all f (in_order R xs) ≡ true
unfolding in_order
all-once f R [] h = refl
all-once f R (x ∷ xs) h = let z = and_parts (f x) (list_all f xs) h in once-put f R x (in_order R xs) z.0 (all-once f R xs z.1)

-- each passes the test
pub record Pass {X : Type 0} (f : X → Bool) (xs : List X) : Type 0 where
  pub is : list_all f xs ≡ true

pub pass-append : {X : Type 0} (f : X → Bool) (xs ys : List X) → Pass f xs → Pass f ys → Pass f (xs ++ ys)
pass-append f xs ys p q = record { is = all-append f xs ys p.is q.is }

pub pass-map : {X Y : Type 0} (f : Y → Bool) (g : X → Y) (p : X → Bool) (xs : List X) → ((x : X) → p x ≡ true → f (g x) ≡ true) → Pass p xs → Pass f (map g xs)
pass-map f g p xs h q = record { is = all-map f g p h xs q.is }

-- Lines in the root.

element-then : (m r : Markup) (depth : ℕ) (scope : List trees.Bound) → is_element m ≡ true → is_fine m depth scope ≡ true → is_fine r depth scope ≡ true
    → (is_fine (joins m r) depth scope ≡ true) × (begins_dark (joins m r) ≡ false)
element-then nothing r depth scope e f g = absurd (cc)
element-then (words text rest) r depth scope e f g = absurd (cc)
element-then (node name attrs kids nothing) r zero scope e f g = absurd (cc)
element-then (node name attrs kids nothing) r (suc below) scope e f g =
    let z = and_parts (is_fine_tag scope name attrs) (is_fine kids below (scope_in scope name attrs) && true) f in
    let y = and_parts (is_fine kids below (scope_in scope name attrs)) true z.1 in
    (and_both _ _ z.0 (and_both _ _ y.0 g), refl)
element-then (node name attrs kids (words text rest)) r depth scope e f g = absurd (cc)
element-then (node name attrs kids (node name' attrs' kids' rest)) r depth scope e f g = absurd (cc)
element-then (node name attrs kids (leaf name' attrs' rest)) r depth scope e f g = absurd (cc)
element-then (node name attrs kids (verbatim bytes rest)) r depth scope e f g = absurd (cc)
element-then (leaf name attrs nothing) r zero scope e f g = absurd (cc)
element-then (leaf name attrs nothing) r (suc below) scope e f g =
    let z = and_parts (is_fine_tag scope name attrs) true f in (and_both _ _ z.0 g, refl)
element-then (leaf name attrs (words text rest)) r depth scope e f g = absurd (cc)
element-then (leaf name attrs (node name' attrs' kids' rest)) r depth scope e f g = absurd (cc)
element-then (leaf name attrs (leaf name' attrs' rest)) r depth scope e f g = absurd (cc)
element-then (leaf name attrs (verbatim bytes rest)) r depth scope e f g = absurd (cc)
element-then (verbatim bytes rest) r depth scope e f g = absurd (cc)

pub feed : are_allowed (10 ∷ []) ≡ true
unfolding is_allowed
feed = low-allowed (10 ∷ []) refl refl

pub lines-fine : (ss : Spaces) (ms : List Markup) (depth : ℕ) → list_all (is_fine_line ss depth) ms ≡ true
    → (is_fine (lines_of ms) depth (declared_scope ss) ≡ true) × (begins_dark (lines_of ms) ≡ false)
lines-fine ss [] depth h = (refl, refl)
lines-fine ss (m ∷ ms) depth h =
    let z = and_parts (is_fine_line ss depth m) (list_all (is_fine_line ss depth) ms) h in
    let y = and_parts (is_element m) (is_fine m depth (declared_scope ss)) z.0 in
    let r = lines-fine ss ms depth z.1 in
    let behind : is_fine (words (10 ∷ []) (lines_of ms)) depth (declared_scope ss) ≡ true = rw (feed, r.1) r.0 in
    element-then m (words (10 ∷ []) (lines_of ms)) depth (declared_scope ss) y.0 y.1 behind

-- Footnote links, with markup for each body.

module _ (f : List ℕ → Markup) where
  module _ (ss : Spaces) where
    tag : {name : List ℕ} {attrs : List Attribute} → is_simple_name known name ≡ true → are_simple_names known (names_of attrs) ≡ true → HasValues attrs → IsPlainTag (declared_scope ss) name attrs
    tag n h v = simple-tag (declared_scope ss) known _ _ (known-bound ss) n h v.are

    literal : (t : List ℕ) → list_all is_low t ≡ true → list_all is_allowed t ≡ true → are_allowed t ≡ true
    literal t a b = low-allowed t a b

    locs-fine : (ids : List (List ℕ)) (rest : Markup) (below : ℕ) → list_all are_allowed ids ≡ true → IsFine (filled f rest) (suc below) (declared_scope ss)
        → IsFine (filled f (each_markup locator_markup ids rest)) (suc below) (declared_scope ss)
    unfolding is_allowed
    locs-fine [] rest below h r = r
    locs-fine (i ∷ ids) rest below h r = let z = and_parts (are_allowed i) (list_all are_allowed ids) h in
        leaf-fine (tag refl refl (more-values (literal (codes "locator") refl refl) (more-values (allowed-append (35 ∷ []) i (literal (35 ∷ []) refl refl) z.0) (more-values z.0 no-values)))) (locs-fine ids rest below z.1 r)

    footnote-tag : (id role : List ℕ) (title : Option (List ℕ)) (lang : List ℕ) → are_allowed id ≡ true → are_allowed role ≡ true → allowed_if title ≡ true → are_allowed lang ≡ true
        → IsPlainTag (declared_scope ss) (codes "link:footnote") (record { name = codes "xlink:type"; value = codes "resource" } ∷ record { name = codes "xlink:label"; value = id } ∷ record { name = codes "xlink:role"; value = role } ∷ (attr_if (codes "xlink:title") title ++ record { name = codes "xml:lang"; value = lang } ∷ []))
    unfolding is_allowed
    footnote-tag id role None lang a b c d = tag refl refl (more-values (literal (codes "resource") refl refl) (more-values a (more-values b (more-values d no-values))))
    footnote-tag id role (Some t) lang a b c d = tag refl refl (more-values (literal (codes "resource") refl refl) (more-values a (more-values b (more-values c (more-values d no-values)))))

    footnotes-fine : (fns : List Footnote) (rest : Markup) (below : ℕ) → list_all (good_footnote f below (declared_scope ss)) fns ≡ true → IsFine (filled f rest) (suc below) (declared_scope ss)
        → IsFine (filled f (each_markup footnote_markup fns rest)) (suc below) (declared_scope ss)
    footnotes-fine [] rest below h r = r
    footnotes-fine (n ∷ fns) rest below h r =
        let z = and_parts (good_footnote f below (declared_scope ss) n) (list_all (good_footnote f below (declared_scope ss)) fns) h in
        let y = and_parts (are_allowed n.id) _ z.0 in
        let x = and_parts (are_allowed n.role) _ y.1 in
        let v = and_parts (allowed_if n.title) _ x.1 in
        let u = and_parts (are_allowed n.lang) (is_fine (f n.body) below (declared_scope ss)) v.1 in
        node-fine (footnote-tag n.id n.role n.title n.lang y.0 x.0 v.0 u.0) (record { is = ap (λ m. is_fine m below (declared_scope ss)) (then-nothing (f n.body)) ∙ u.1 }) (footnotes-fine fns rest below z.1 r)

    arcs-fine : (arcs : List Arc) (below : ℕ) → list_all good_arc arcs ≡ true → IsFine (filled f (each_markup arc_markup arcs nothing)) (suc below) (declared_scope ss)
    unfolding is_allowed
    arcs-fine [] below h = nothing-fine
    arcs-fine (a ∷ arcs) below h =
        let z = and_parts (good_arc a) (list_all good_arc arcs) h in
        let y = and_parts (are_allowed a.arcrole) _ z.0 in
        let x = and_parts (are_allowed a.from_id) _ y.1 in
        let v = and_parts (are_allowed a.to_id) (are_allowed a.order) x.1 in
        leaf-fine (tag refl refl (more-values (literal (codes "arc") refl refl) (more-values y.0 (more-values x.0 (more-values v.0 (more-values v.1 no-values)))))) (arcs-fine arcs below z.1)

    pub link-fine : (l : NoteLink) (below : ℕ) → good_link f below (declared_scope ss) l ≡ true → IsFine (filled f (link_markup l)) (suc (suc below)) (declared_scope ss)
    unfolding is_allowed
    link-fine l below h =
        let z = and_parts (are_allowed l.role) _ h in
        let y = and_parts (list_all are_allowed l.locs) _ z.1 in
        let x = and_parts (list_all (good_footnote f below (declared_scope ss)) l.footnotes) (list_all good_arc l.arcs) y.1 in
        node-fine (tag refl refl (more-values (literal (codes "extended") refl refl) (more-values z.0 no-values)))
        (locs-fine (in_order text_cmp l.locs) _ below (all-once are_allowed text_cmp l.locs y.0)
        (footnotes-fine (sorted _ l.footnotes) _ below (all-sorted (good_footnote f below (declared_scope ss)) _ l.footnotes x.0)
        (arcs-fine (sorted arc_line_cmp l.arcs) below (all-sorted good_arc arc_line_cmp l.arcs x.1))))
        nothing-fine

-- Namespaces.

unknown-other : (s k : List ℕ) → is_known k ≡ true → is_known s ≡ false → not (bytes_eq s k) ≡ true
unknown-other s k h n = (elim (bytes_eq s k) as (λ b. bytes_eq s k ≡ b → not b ≡ true) [
  | true ↦ λ e. clash (is_known k) h (ap is_known (sym (bytes-one s k e)) ∙ n)
  | false ↦ λ e. refl
]) refl

new-space : (n : OwnName) → is_spaced n ≡ true → is_known n.ns ≡ false → is_space n.ns ≡ true
unfolding xml xml_namespace
new-space n h k =
    let z = and_parts (are_allowed n.ns) (not (bytes_eq n.ns xmlns_namespace)) h in
    and_both _ _ z.0 (and_both _ _ z.1 (and_both _ _ (unknown-other n.ns [] refl k) (unknown-other n.ns xml_namespace refl k)))

with-space : (s : List ℕ) (ss : Spaces) → is_space s ≡ true → list_all is_space ss ≡ true → list_all is_space (with_space s ss) ≡ true
with-space s [] h k = rw h refl
with-space s (x ∷ ss) h k = let z = and_parts (is_space x) (list_all is_space ss) k in by_tests (bytes_eq s x) (is_lt (slice_cmp nat_cmp s x)) z.0 (with-space s ss h z.1) where
  by_tests : (e l : Bool) → is_space x ≡ true → list_all is_space (with_space s ss) ≡ true → list_all is_space (if e then x ∷ ss else (if l then s ∷ x ∷ ss else x ∷ with_space s ss)) ≡ true
  by_tests true l a r = k
  by_tests false true a r = and_both (is_space s) (list_all is_space (x ∷ ss)) h k
  by_tests false false a r = and_both (is_space x) (list_all is_space (with_space s ss)) a r

pub spaces-good : (ns : List OwnName) → list_all is_spaced ns ≡ true → list_all is_space (spaces_of ns) ≡ true
spaces-good [] h = refl
spaces-good (n ∷ ns) h = let z = and_parts (is_spaced n) (list_all is_spaced ns) h in by_known (is_known n.ns) refl (spaces-good ns z.1) where
  by_known : (b : Bool) → is_known n.ns ≡ b → list_all is_space (spaces_of ns) ≡ true → list_all is_space (if b then spaces_of ns else with_space n.ns (spaces_of ns)) ≡ true
  by_known true e r = r
  by_known false e r = with-space n.ns (spaces_of ns) (new-space n (and_parts (is_spaced n) (list_all is_spaced ns) h).0 e) r
