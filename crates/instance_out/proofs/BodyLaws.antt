-- The markup of the nodes that a body means is the body.
use Rattle.std.proofs.Common.{◌≡◌, ◌≢◌, ◌∙◌, ℕ, suc, ◌+◌, ◌==◌, Bool, true, false, not, ◌&&◌, ◌||◌, cond, if◌then◌else◌, List, [], ◌∷◌, ◌++◌, length, map, filter, All, Option, Some, None, unwrap_or, refl, sym, ap, subst, bytes_eq, codes, arith, ◌⊎◌, inl, inr}
use Rattle.std.specs.List.{filter_map}
use Rattle.std.specs.Ordering.{is_gt, ordering_reverse}
use Rattle.std.specs.Cmp.Lexicographic.{on_texts}
use Rattle.std.proofs.lemmas.Bool.Decides.{nat_tests}
use Rattle.std.proofs.lemmas.Bool.{and_parts}
use Rattle.std.specs.declared.cmp.Ordering.{Ordering}
use Rattle.std.specs.declared.cmp.Ordering.TheVariants.{Less, Equal, Greater}
use Rattle.ix_base.specs.NcName.{is_ncname}
use Rattle.ix_base.specs.Namespaces.{xml_namespace, ix_namespace}
use Rattle.ix_base.specs.Scope.{namespace_of, bound_over, declared_over, scope_under, element_name}
use Rattle.ix_base.specs.SortedLists.{sorted, put, put_by}
use Rattle.ix_base.specs.Sound.{IsSoundAttribute, IsSoundHead, AreSound}
use Rattle.ix_base.specs.Trees.{Named, Valued, Bound, Head, Nodes, none, chars, elem}
use Rattle.ix_base.specs.WrittenMarkup.{Attribute, Markup, nothing, words, node, leaf, verbatim, start_text, leaf_text, close_text}
use Rattle.page_tree.specs.Tags.{binding_of, valued}
use Rattle.page_constructs.proofs.SpanLaws.{bytes-one, bytes-apart, and_both, one_number}
use Rattle.ix_base.specs.Markup.{Manner, LeftOut, Opened, Kept, manner, is_silent, silent_by, ends_short, is_written, attribute_of, value_by, is_link_of, attribute_cmp, own_attributes, declaration, put_words, element_by, body}
use Rattle.page_tree.specs.Spellings.{read as meant}
use Rattle.page_tree.specs.FineMarkup.{head_at, nodes_at, past}
use Rattle.instance_lines.specs.Lists.{rises}
use Rattle.page_tree.proofs.FineNames.{ncname-colon}
use Rattle.instance_out.proofs.RunLaws.{Each}
use Rattle.std.proofs.lemmas.List.{nil_from_length}
use Rattle.instance_out.proofs.ApartLaws.{not-is}
use Rattle.instance_out.proofs.ProperLaws.{sorted-rises}
use Rattle.instance_out.proofs.PrefixReading.{over-same, over-kept}

-- Own attributes: without a prefix, or of xml.

abbrev IsOwn : Attribute → Type 0
IsOwn a =
    ((is_ncname a.name ≡ true) × (bytes_eq a.name (codes "xmlns") ≡ false))
    ⊎ ((l : List ℕ) × (a.name ≡ codes "xml:" ++ l) × (bytes_eq l (codes "base") ≡ false))

-- what an own attribute means
record IsBack (scope : List Bound) (a : Attribute) : Type 0 where
  v : Valued
  binds : binding_of (meant a) ≡ None
  means : valued scope (meant a) ≡ Some v
  stays : is_written v ≡ true
  back : (n : Named) → attribute_of None n v ≡ a

pub as_is : (b : Bool) (text : List ℕ) → value_by b None text ≡ text
as_is true text = refl
as_is false text = refl

own-back : (scope : List Bound) → namespace_of scope (codes "xml") ≡ Some xml_namespace → (a : Attribute) → IsOwn a → IsBack scope a
unfolding xml_namespace
own-back scope x a (inl (n, d)) =
    let p = ncname-colon a.name n in
    record {
      v = record { name = record { ns = []; local = a.name }; value = a.value };
      binds = rw (d, p) refl;
      means = rw (d, p) refl;
      stays = refl;
      back = λ n. ap (λ v. record { name = a.name; value = v }) (as_is (is_link_of n (record { ns = []; local = a.name })) a.value);
    }
own-back scope x a (inr (l, e, d)) = subst (λ n. IsBack scope (record { name = n; value = a.value })) (sym e) (record {
  v = record { name = record { ns = xml_namespace; local = l }; value = a.value };
  binds = refl;
  means = rw x refl;
  stays = rw d refl;
  back = λ n. ap (λ v. record { name = codes "xml:" ++ l; value = v }) (as_is (is_link_of n (record { ns = xml_namespace; local = l })) a.value);
})

own-binds : (scope : List Bound) → namespace_of scope (codes "xml") ≡ Some xml_namespace → (as' : List Attribute) → Each IsOwn as' → filter_map binding_of (map meant as') ≡ []
own-binds scope x [] h = refl
own-binds scope x (a ∷ as') (h, hs) = rw (own-back scope x a h).binds (own-binds scope x as' hs)

own-means : (scope : List Bound) → namespace_of scope (codes "xml") ≡ Some xml_namespace → (n : Named) (as' : List Attribute) → Each IsOwn as'
    → map (attribute_of None n) (filter is_written (filter_map (valued scope) (map meant as'))) ≡ as'
own-means scope x n [] h = refl
own-means scope x n (a ∷ as') (h, hs) =
    let b = own-back scope x a h in
    ap (λ o. map (attribute_of None n) (filter is_written (cons_some o (filter_map (valued scope) (map meant as'))))) b.means
    ∙ ap (λ t. map (attribute_of None n) (cond t (b.v ∷ filter is_written (filter_map (valued scope) (map meant as'))) (filter is_written (filter_map (valued scope) (map meant as'))))) b.stays
    ∙ ap (λ y. y ∷ map (attribute_of None n) (filter is_written (filter_map (valued scope) (map meant as')))) (b.back n)
    ∙ ap (λ ys. a ∷ ys) (own-means scope x n as' hs)
  where
    cons_some : Option Valued → List Valued → List Valued
    cons_some None vs = vs
    cons_some (Some v) vs = v ∷ vs

-- Scopes within a namespace.

abbrev default_in : List Bound → List ℕ
default_in scope = unwrap_or (namespace_of scope []) []

pub record IsWithin (n : List ℕ) (scope : List Bound) : Type 0 where
  pub default : default_in scope ≡ n
  pub xml : namespace_of scope (codes "xml") ≡ Some xml_namespace

taken : (scope : List Bound) → namespace_of (filter (λ x. not (bytes_eq x.prefix [])) scope) [] ≡ None
taken [] = refl
taken (x ∷ scope) = by (bytes_eq x.prefix []) refl (taken scope)
  where
    by : (b : Bool) → bytes_eq x.prefix [] ≡ b → namespace_of (filter (λ x. not (bytes_eq x.prefix [])) scope) [] ≡ None
        → namespace_of (cond (not b) (x ∷ filter (λ x. not (bytes_eq x.prefix [])) scope) (filter (λ x. not (bytes_eq x.prefix [])) scope)) [] ≡ None
    by true e ih = ih
    by false e ih = rw e ih

left : (scope : List Bound) (c : ℕ) (p : List ℕ) → namespace_of (filter (λ x. not (bytes_eq x.prefix [])) scope) (c ∷ p) ≡ namespace_of scope (c ∷ p)
left [] c p = refl
left (x ∷ scope) c p = by (bytes_eq x.prefix []) refl (left scope c p)
  where
    by : (b : Bool) → bytes_eq x.prefix [] ≡ b → namespace_of (filter (λ x. not (bytes_eq x.prefix [])) scope) (c ∷ p) ≡ namespace_of scope (c ∷ p)
        → namespace_of (cond (not b) (x ∷ filter (λ x. not (bytes_eq x.prefix [])) scope) (filter (λ x. not (bytes_eq x.prefix [])) scope)) (c ∷ p) ≡ namespace_of (x ∷ scope) (c ∷ p)
    by true e ih = let o : bytes_eq x.prefix (c ∷ p) ≡ false = ap (λ q. bytes_eq q (c ∷ p)) (bytes-one x.prefix [] e) in rw o ih
    by false e ih = ap (λ o. cond (bytes_eq x.prefix (c ∷ p)) (Some x.ns) o) ih

abbrev defaulted : List Bound → List ℕ → List Bound
defaulted scope m = declared_over scope (record { prefix = []; ns = m })

default-within : (n m : List ℕ) (scope : List Bound) → IsWithin n scope → IsWithin m (defaulted scope m)
default-within n m scope w = by (bytes_eq m []) refl
  where
    by : (b : Bool) → bytes_eq m [] ≡ b → IsWithin m (cond (true && b) (filter (λ x. not (bytes_eq x.prefix [])) scope) (bound_over scope (record { prefix = []; ns = m })))
    by true e = record { default = ap (λ o. unwrap_or o []) (taken scope) ∙ sym (bytes-one m [] e); xml = left scope 120 (109 ∷ 108 ∷ []) ∙ w.xml }
    by false e = record {
      default = ap (λ o. unwrap_or o []) (over-same scope (record { prefix = []; ns = m }));
      xml = over-kept scope (record { prefix = []; ns = m }) (codes "xml") refl ∙ w.xml;
    }

-- Lists in order, again.

pub each-put : {X : Type 0} (P : X → Type 0) (R : X → X → Ordering) (x : X) (ys : List X) → P x → Each P ys → Each P (put R x ys)
each-put P R x [] p h = (p, tt)
each-put P R x (y ∷ ys) p (h, hs) = by (R x y) (each-put P R x ys p hs)
  where
    by : (o : Ordering) → Each P (put R x ys) → Each P (put_by o x y ys (put R x ys))
    by Less ih = (p, (h, hs))
    by Equal ih = (p, (h, hs))
    by Greater ih = (h, ih)

pub each-sorted : {X : Type 0} (P : X → Type 0) (R : X → X → Ordering) (xs : List X) → Each P xs → Each P (sorted R xs)
unfolding sorted
each-sorted P R [] h = tt
each-sorted P R (x ∷ xs) (h, hs) = each-put P R x (sorted R xs) h (each-sorted P R xs hs)

-- what isn't greater one way may be it the other way
abbrev Flips : {X : Type 0} → (X → X → Ordering) → Type 0
Flips {X} R = (x y : X) → R x y ≡ Greater → is_gt (R y x) ≡ false

ahead : {X : Type 0} (R : X → X → Ordering) (y x : X) (ys : List X) → is_gt (R y x) ≡ false → rises R (y ∷ ys) ≡ true → rises R (put R x ys) ≡ true → rises R (y ∷ put R x ys) ≡ true
ahead R y x [] g h r = rw g refl
ahead R y x (z ∷ zs) g h r = by (R x z) r
  where
    by : (o : Ordering) → rises R (put_by o x z zs (put R x zs)) ≡ true → rises R (y ∷ put_by o x z zs (put R x zs)) ≡ true
    by Less r = rw g r
    by Equal r = rw g r
    by Greater r = and_both (not (is_gt (R y z))) (rises R (z ∷ put R x zs)) (and_parts (not (is_gt (R y z))) (rises R (z ∷ zs)) h).0 r

rest-rises : {X : Type 0} (R : X → X → Ordering) (y : X) (ys : List X) → rises R (y ∷ ys) ≡ true → rises R ys ≡ true
rest-rises R y [] h = refl
rest-rises R y (z ∷ zs) h = (and_parts (not (is_gt (R y z))) (rises R (z ∷ zs)) h).1

rises-put : {X : Type 0} (R : X → X → Ordering) → Flips R → (x : X) (ys : List X) → rises R ys ≡ true → rises R (put R x ys) ≡ true
rises-put R f x [] h = refl
rises-put R f x (y ∷ ys) h = by (R x y) refl (rises-put R f x ys (rest-rises R y ys h))
  where
    by : (o : Ordering) → R x y ≡ o → rises R (put R x ys) ≡ true → rises R (put_by o x y ys (put R x ys)) ≡ true
    by Less e ih = rw e h
    by Equal e ih = rw e h
    by Greater e ih = ahead R y x ys (f x y e) h ih

rises-sorted : {X : Type 0} (R : X → X → Ordering) → Flips R → (xs : List X) → rises R (sorted R xs) ≡ true
unfolding sorted
rises-sorted R f [] = refl
rises-sorted R f (x ∷ xs) = rises-put R f x (sorted R xs) (rises-sorted R f xs)

attributes-flip : Flips attribute_cmp
attributes-flip x y e = ap is_gt ((on_texts (λ (a : Attribute). a.name)).antisymm y x ∙ ap ordering_reverse e)

sorted-twice : (xs : List Attribute) → sorted attribute_cmp (sorted attribute_cmp xs) ≡ sorted attribute_cmp xs
sorted-twice xs = sorted-rises attribute_cmp (sorted attribute_cmp xs) (rises-sorted attribute_cmp attributes-flip xs)

-- What a tag of a body is, within a namespace.

pub record IsPart (n name : List ℕ) (attrs : List Attribute) (m : List ℕ) : Type 0 where
  pub own : List Attribute
  pub are : attrs ≡ declaration n m ++ own
  pub fit : Each IsOwn own
  pub in_order : sorted attribute_cmp own ≡ own
  pub named : is_ncname name ≡ true
  pub kept : bytes_eq m ix_namespace ≡ false

pub record Says (n name : List ℕ) (attrs : List Attribute) (m : List ℕ) (h : Head) : Type 0 where
  pub names : h.name ≡ record { ns = m; local = name }
  pub inner : IsWithin m h.scope
  pub back : declaration n h.name.ns ++ own_attributes None h ≡ attrs

own-again : (s S : List Bound) → s ≡ S → namespace_of S (codes "xml") ≡ Some xml_namespace → (n : Named) (own : List Attribute) → Each IsOwn own → sorted attribute_cmp own ≡ own
    → sorted attribute_cmp (map (attribute_of None n) (filter is_written (filter_map (valued s) (map meant own)))) ≡ own
own-again s S e x n own f o =
    ap (λ z. sorted attribute_cmp (map (attribute_of None n) (filter is_written (filter_map (valued z) (map meant own))))) e
    ∙ ap (sorted attribute_cmp) (own-means S x n own f) ∙ o

says : (at : ℕ) (scope : List Bound) (n name : List ℕ) (attrs : List Attribute) (m : List ℕ) → IsPart n name attrs m → IsWithin n scope → Says n name attrs m (head_at at scope name attrs)
says at scope n name attrs m p w = subst (λ x. Says n name x m (head_at at scope name x)) (sym p.are) (by (bytes_eq m n) refl)
  where
    plain : (s S : List Bound) → s ≡ S → default_in S ≡ m → element_name s name ≡ record { ns = m; local = name }
    plain s S e d = ap (λ z. element_name z name) e ∙ (let q = ncname-colon name p.named in rw q (ap (λ x. record { ns = x; local = name }) d))

    by : (b : Bool) → bytes_eq m n ≡ b → Says n name ((if b then [] else record { name = codes "xmlns"; value = m } ∷ []) ++ p.own) m (head_at at scope name ((if b then [] else record { name = codes "xmlns"; value = m } ∷ []) ++ p.own))
    by true e =
        let under : scope_under scope (filter_map binding_of (map meant p.own)) ≡ scope = ap (scope_under scope) (own-binds scope w.xml p.own p.fit) in
        let same : default_in scope ≡ m = w.default ∙ sym (bytes-one m n e) in
        let names = plain (scope_under scope (filter_map binding_of (map meant p.own))) scope under same in
        record {
          names = names;
          inner = subst (IsWithin m) (sym under) (record { default = same; xml = w.xml });
          back = ap (λ x. declaration n x.ns ++ own_attributes None (head_at at scope name p.own)) names
              ∙ ap (λ b. (if b then [] else record { name = codes "xmlns"; value = m } ∷ []) ++ own_attributes None (head_at at scope name p.own)) e
              ∙ own-again (scope_under scope (filter_map binding_of (map meant p.own))) scope under w.xml (head_at at scope name p.own).name p.own p.fit p.in_order;
        }
    by false e =
        let S = defaulted scope m in
        let v = default-within n m scope w in
        let xs : List Attribute = record { name = codes "xmlns"; value = m } ∷ p.own in
        let under : scope_under S (filter_map binding_of (map meant p.own)) ≡ S = ap (scope_under S) (own-binds S v.xml p.own p.fit) in
        let names = plain (scope_under S (filter_map binding_of (map meant p.own))) S under v.default in
        record {
          names = names;
          inner = subst (IsWithin m) (sym under) v;
          back = ap (λ x. declaration n x.ns ++ own_attributes None (head_at at scope name xs)) names
              ∙ ap (λ b. (if b then [] else record { name = codes "xmlns"; value = m } ∷ []) ++ own_attributes None (head_at at scope name xs)) e
              ∙ ap (λ y. record { name = codes "xmlns"; value = m } ∷ y) (own-again (scope_under S (filter_map binding_of (map meant p.own))) S under v.xml (head_at at scope name xs).name p.own p.fit p.in_order);
        }

-- Bodies.

abbrev pub is_nothing : Markup → Bool
is_nothing nothing = true
is_nothing (words text rest) = false
is_nothing (node name attrs kids rest) = false
is_nothing (leaf name attrs rest) = false
is_nothing (verbatim bytes rest) = false

abbrev Apart : Markup → Type 0
Apart nothing = Unit {0}
Apart (words text rest) = ⊥
Apart (node name attrs kids rest) = Unit {0}
Apart (leaf name attrs rest) = Unit {0}
Apart (verbatim bytes rest) = ⊥

-- what the markup of some nodes within a namespace is
abbrev pub IsShaped : Markup → List ℕ → Type 0
IsShaped nothing n = Unit {0}
IsShaped (words text rest) n = (text ≢ []) × Apart rest × IsShaped rest n
IsShaped (node name attrs kids rest) n =
    (m : List ℕ) × IsPart n name attrs m × (ends_short (record { ns = m; local = name }) ≡ true → is_nothing kids ≡ false) × IsShaped kids m × IsShaped rest n
IsShaped (leaf name attrs rest) n = (m : List ℕ) × IsPart n name attrs m × (ends_short (record { ns = m; local = name }) ≡ true) × IsShaped rest n
IsShaped (verbatim bytes rest) n = ⊥

kept-manner : (n : Named) → bytes_eq n.ns ix_namespace ≡ false → manner n ≡ Kept
kept-manner n e = rw e refl

put-apart : (t : List ℕ) (r : Markup) → t ≢ [] → Apart r → put_words t r ≡ words t r
put-apart [] r h a = absurd (h refl)
put-apart (c ∷ t) nothing h a = refl
put-apart (c ∷ t) (words u r) h a = absurd a
put-apart (c ∷ t) (node name attrs kids r) h a = refl
put-apart (c ∷ t) (leaf name attrs r) h a = refl
put-apart (c ∷ t) (verbatim bytes r) h a = absurd a

pub kept-body : (h : Head) (kids more : Nodes) (n : List ℕ) (rest : Markup) → manner h.name ≡ Kept
    → body None n (elem h kids more) rest ≡ element_by (ends_short h.name && is_silent kids) h.name.local (declaration n h.name.ns ++ own_attributes None h) (body None h.name.ns kids nothing) (body None n more rest)
kept-body h kids more n rest e = rw (e, body) refl

kept-loud : (h : Head) (kids more : Nodes) → manner h.name ≡ Kept → is_silent (elem h kids more) ≡ false
kept-loud h kids more e = rw e refl

some-length : (t : List ℕ) → t ≢ [] → (length t == 0) ≡ false
some-length [] h = absurd (h refl)
some-length (c ∷ t) h = grind (arith, nat_tests)

loud : (M : Markup) (n : List ℕ) (at : ℕ) (scope : List Bound) → IsShaped M n → IsWithin n scope → is_nothing M ≡ false → is_silent (nodes_at M at scope) ≡ false
loud nothing n at scope b w e = absurd (cc)
loud (words t rest) n at scope b w e = rw (some-length t b.0) refl
loud (node name attrs kids rest) n at scope b w e =
    let h = head_at at scope name attrs in
    let own = at + length (start_text name attrs) in
    kept-loud h (nodes_at kids own h.scope) (nodes_at rest (past kids own + length (close_text name)) scope)
    (kept-manner h.name (ap (λ x. bytes_eq x.ns ix_namespace) (says at scope n name attrs b.0 b.1 w).names ∙ b.1.kept))
loud (leaf name attrs rest) n at scope b w e =
    let h = head_at at scope name attrs in
    kept-loud h none (nodes_at rest (at + length (leaf_text name attrs)) scope)
    (kept-manner h.name (ap (λ x. bytes_eq x.ns ix_namespace) (says at scope n name attrs b.0 b.1 w).names ∙ b.1.kept))
loud (verbatim bytes rest) n at scope b w e = absurd b

as-node : (s q : Bool) (name : List ℕ) (attrs : List Attribute) (kids rest : Markup) → (s ≡ true → q ≡ false) → element_by (s && q) name attrs kids rest ≡ node name attrs kids rest
as-node true q name attrs kids rest h = ap (λ b. element_by b name attrs kids rest) (h refl)
as-node false q name attrs kids rest h = refl

pub again : (M : Markup) (n : List ℕ) (at : ℕ) (scope : List Bound) → IsShaped M n → IsWithin n scope → body None n (nodes_at M at scope) nothing ≡ M
again nothing n at scope b w = refl
again (words t rest) n at scope b w = ap (put_words t) (again rest n _ scope b.2 w) ∙ put-apart t rest b.0 b.1
again (node name attrs kids rest) n at scope b w =
    let m = b.0 in
    let h = head_at at scope name attrs in
    let s = says at scope n name attrs m b.1 w in
    let own = at + length (start_text name attrs) in
    let far = past kids own + length (close_text name) in
    let K = nodes_at kids own h.scope in
    let R = nodes_at rest far scope in
    let kept = kept-manner h.name (ap (λ x. bytes_eq x.ns ix_namespace) s.names ∙ b.1.kept) in
    let inner : body None m K nothing ≡ kids = again kids m own h.scope b.3 s.inner in
    let others : body None n R nothing ≡ rest = again rest n far scope b.4 w in
    kept-body h K R n nothing kept
    ∙ ap (λ x. element_by (ends_short x && is_silent K) x.local (declaration n h.name.ns ++ own_attributes None h) (body None x.ns K nothing) (body None n R nothing)) s.names
    ∙ ap (λ x. element_by (ends_short (record { ns = m; local = name }) && is_silent K) name x (body None m K nothing) (body None n R nothing)) s.back
    ∙ ap (λ x. element_by (ends_short (record { ns = m; local = name }) && is_silent K) name attrs x (body None n R nothing)) inner
    ∙ ap (λ x. element_by (ends_short (record { ns = m; local = name }) && is_silent K) name attrs kids x) others
    ∙ as-node (ends_short (record { ns = m; local = name })) (is_silent K) name attrs kids rest (λ e. loud kids m own h.scope b.3 s.inner (b.2 e))
again (leaf name attrs rest) n at scope b w =
    let m = b.0 in
    let h = head_at at scope name attrs in
    let s = says at scope n name attrs m b.1 w in
    let far = at + length (leaf_text name attrs) in
    let R = nodes_at rest far scope in
    let kept = kept-manner h.name (ap (λ x. bytes_eq x.ns ix_namespace) s.names ∙ b.1.kept) in
    let others : body None n R nothing ≡ rest = again rest n far scope b.3 w in
    kept-body h none R n nothing kept
    ∙ ap (λ x. element_by (ends_short x && true) x.local (declaration n h.name.ns ++ own_attributes None h) nothing (body None n R nothing)) s.names
    ∙ ap (λ x. element_by (ends_short (record { ns = m; local = name }) && true) name x nothing (body None n R nothing)) s.back
    ∙ ap (λ x. element_by (ends_short (record { ns = m; local = name }) && true) name attrs nothing x) others
    ∙ ap (λ x. element_by (x && true) name attrs nothing rest) b.2
again (verbatim bytes rest) n at scope b w = absurd b

-- The markup of sound nodes is so shaped.

pub all-each : {X : Type 0} (P : X → Type 0) (xs : List X) → All P xs → Each P xs
all-each P [] h = tt
all-each P (x ∷ xs) h = (h 0 x (omega arith), all-each P xs (λ k d l. h (suc k) d (omega arith)))

own-sound : (n : Named) (as' : List Valued) → Each IsSoundAttribute as' → Each IsOwn (map (attribute_of None n) (filter is_written as'))
own-sound n [] h = tt
own-sound n (a ∷ as') (h, hs) = by (is_written a) refl (own-sound n as' hs)
  where
    named : (b : Bool) → (length a.name.ns == 0) ≡ b → (b || (bytes_eq a.name.ns xml_namespace && not (bytes_eq a.name.local (codes "base")))) ≡ true → IsOwn (attribute_of None n a)
    named true e t =
        let none : a.name.ns ≡ [] = nil_from_length a.name.ns (one_number (length a.name.ns) 0 e) in
        inl (rw e h.name.local, rw e (bytes-apart a.name.local (codes "xmlns") (h.undeclaring none)))
    named false e t =
        let q = and_parts (bytes_eq a.name.ns xml_namespace) (not (bytes_eq a.name.local (codes "base"))) t in
        inr (a.name.local, rw e refl, not-is (bytes_eq a.name.local (codes "base")) q.1)

    by : (b : Bool) → is_written a ≡ b → Each IsOwn (map (attribute_of None n) (filter is_written as')) → Each IsOwn (map (attribute_of None n) (cond b (a ∷ filter is_written as') (filter is_written as')))
    by true e ih = (named (length a.name.ns == 0) refl e, ih)
    by false e ih = ih

put-shaped : (t : List ℕ) (M : Markup) (n : List ℕ) → t ≢ [] → IsShaped M n → IsShaped (put_words t M) n
put-shaped [] M n h b = absurd (h refl)
put-shaped (c ∷ t) nothing n h b = (h, tt, tt)
put-shaped (c ∷ t) (words u rest) n h b = (λ e. cc, b.1, b.2)
put-shaped (c ∷ t) (node name attrs kids rest) n h b = (h, tt, b)
put-shaped (c ∷ t) (leaf name attrs rest) n h b = (h, tt, b)
put-shaped (c ∷ t) (verbatim bytes rest) n h b = absurd b

put-some : (t : List ℕ) (M : Markup) → t ≢ [] → is_nothing (put_words t M) ≡ false
put-some [] M h = absurd (h refl)
put-some (c ∷ t) nothing h = refl
put-some (c ∷ t) (words u rest) h = refl
put-some (c ∷ t) (node name attrs kids rest) h = refl
put-some (c ∷ t) (leaf name attrs rest) h = refl
put-some (c ∷ t) (verbatim bytes rest) h = refl

put-kept : (t : List ℕ) (M : Markup) → is_nothing M ≡ false → is_nothing (put_words t M) ≡ false
put-kept [] M h = h
put-kept (c ∷ t) nothing h = absurd (cc)
put-kept (c ∷ t) (words u rest) h = refl
put-kept (c ∷ t) (node name attrs kids rest) h = refl
put-kept (c ∷ t) (leaf name attrs rest) h = refl
put-kept (c ∷ t) (verbatim bytes rest) h = refl

element-some : (s : Bool) (name : List ℕ) (attrs : List Attribute) (kids rest : Markup) → is_nothing (element_by s name attrs kids rest) ≡ false
element-some true name attrs kids rest = refl
element-some false name attrs kids rest = refl

pub left-body : (h : Head) (kids more : Nodes) (n : List ℕ) (rest : Markup) → manner h.name ≡ LeftOut → body None n (elem h kids more) rest ≡ body None n more rest
left-body h kids more n rest e = rw (e, body) refl

pub opened-body : (h : Head) (kids more : Nodes) (n : List ℕ) (rest : Markup) → manner h.name ≡ Opened → body None n (elem h kids more) rest ≡ body None n kids (body None n more rest)
opened-body h kids more n rest e = rw (e, body) refl

silent-is : (h : Head) (kids more : Nodes) (m : Manner) → manner h.name ≡ m → is_silent (elem h kids more) ≡ (silent_by m (is_silent kids) && is_silent more)
silent-is h kids more m e = ap (λ x. silent_by x (is_silent kids) && is_silent more) e

-- one of the three manners
pub manner-cases : (m : Manner) → (m ≡ LeftOut) ⊎ ((m ≡ Opened) ⊎ (m ≡ Kept))
manner-cases LeftOut = inl refl
manner-cases Opened = inr (inl refl)
manner-cases Kept = inr (inr refl)

kept-ns : (n : Named) → manner n ≡ Kept → bytes_eq n.ns ix_namespace ≡ false
kept-ns n e = by (bytes_eq n.ns ix_namespace) (bytes_eq n.local (codes "exclude")) e
  where
    by : (b x : Bool) → (if b then (if x then LeftOut else Opened) else Kept) ≡ Kept → b ≡ false
    by true true e = absurd (cc)
    by true false e = absurd (cc)
    by false x e = refl

more-some : (ns : Nodes) (n : List ℕ) (rest : Markup) → is_nothing rest ≡ false → is_nothing (body None n ns rest) ≡ false
more-some none n rest e = e
more-some (chars t more) n rest e = put-kept t (body None n more rest) (more-some more n rest e)
more-some (elem h kids more) n rest e = elim (manner-cases (manner h.name)) as (λ x. is_nothing (body None n (elem h kids more) rest) ≡ false) [
  | inl m ↦ ap is_nothing (left-body h kids more n rest m) ∙ more-some more n rest e
  | inr y ↦ elim y as (λ x. is_nothing (body None n (elem h kids more) rest) ≡ false) [
    | inl m ↦ ap is_nothing (opened-body h kids more n rest m) ∙ more-some kids n (body None n more rest) (more-some more n rest e)
    | inr m ↦ ap is_nothing (kept-body h kids more n rest m) ∙ element-some _ _ _ _ _
  ]
]

and-false : (a b : Bool) → (a && b) ≡ false → (a ≡ false) ⊎ (b ≡ false)
and-false true b e = inr e
and-false false b e = inl refl

loud-some : (depth : ℕ) (ns : Nodes) (n : List ℕ) (rest : Markup) → AreSound depth ns → is_silent ns ≡ false → is_nothing (body None n ns rest) ≡ false
loud-some depth none n rest s e = absurd (cc)
loud-some depth (chars t more) n rest s e = put-some t (body None n more rest) s.0
loud-some depth (elem h kids more) n rest s e = elim (manner-cases (manner h.name)) as (λ x. is_nothing (body None n (elem h kids more) rest) ≡ false) [
  | inl m ↦ ap is_nothing (left-body h kids more n rest m) ∙ loud-some depth more n rest s.4 (sym (silent-is h kids more LeftOut m) ∙ e)
  | inr y ↦ elim y as (λ x. is_nothing (body None n (elem h kids more) rest) ≡ false) [
    | inl m ↦ ap is_nothing (opened-body h kids more n rest m) ∙ (elim (and-false (is_silent kids) (is_silent more) (sym (silent-is h kids more Opened m) ∙ e)) as (λ x. is_nothing (body None n kids (body None n more rest)) ≡ false) [
      | inl k ↦ loud-some s.0 kids n (body None n more rest) s.3 k
      | inr k ↦ more-some kids n (body None n more rest) (loud-some depth more n rest s.4 k)
    ])
    | inr m ↦ ap is_nothing (kept-body h kids more n rest m) ∙ element-some _ _ _ _ _
  ]
]

element-shaped : (ends quiet : Bool) (name : List ℕ) (attrs : List Attribute) (kids rest : Markup) (n m : List ℕ) → ends_short (record { ns = m; local = name }) ≡ ends → IsPart n name attrs m
    → (quiet ≡ false → is_nothing kids ≡ false) → IsShaped kids m → IsShaped rest n → IsShaped (element_by (ends && quiet) name attrs kids rest) n
element-shaped true true name attrs kids rest n m e p q k r = (m, p, e, r)
element-shaped true false name attrs kids rest n m e p q k r = (m, p, λ z. q refl, k, r)
element-shaped false quiet name attrs kids rest n m e p q k r = (m, p, λ z. absurd (let f : true ≡ false = sym z ∙ e in cc), k, r)

part-of : (n : List ℕ) (h : Head) → IsSoundHead h → manner h.name ≡ Kept → IsPart n h.name.local (declaration n h.name.ns ++ own_attributes None h) h.name.ns
part-of n h s m = record {
  own = own_attributes None h;
  are = refl;
  fit = each-sorted IsOwn attribute_cmp (map (attribute_of None h.name) (filter is_written h.attrs)) (own-sound h.name h.attrs (all-each IsSoundAttribute h.attrs s.attributes));
  in_order = sorted-twice (map (attribute_of None h.name) (filter is_written h.attrs));
  named = s.name.local;
  kept = kept-ns h.name m;
}

pub body-shaped : (depth : ℕ) (ns : Nodes) (n : List ℕ) (rest : Markup) → AreSound depth ns → IsShaped rest n → IsShaped (body None n ns rest) n
body-shaped depth none n rest s b = b
body-shaped depth (chars t more) n rest s b = put-shaped t (body None n more rest) n s.0 (body-shaped depth more n rest s.3 b)
body-shaped depth (elem h kids more) n rest s b = elim (manner-cases (manner h.name)) as (λ x. IsShaped (body None n (elem h kids more) rest) n) [
  | inl m ↦ subst (λ x. IsShaped x n) (sym (left-body h kids more n rest m)) (body-shaped depth more n rest s.4 b)
  | inr y ↦ elim y as (λ x. IsShaped (body None n (elem h kids more) rest) n) [
    | inl m ↦ subst (λ x. IsShaped x n) (sym (opened-body h kids more n rest m)) (body-shaped s.0 kids n (body None n more rest) s.3 (body-shaped depth more n rest s.4 b))
    | inr m ↦ subst (λ x. IsShaped x n) (sym (kept-body h kids more n rest m))
        (element-shaped (ends_short h.name) (is_silent kids) h.name.local (declaration n h.name.ns ++ own_attributes None h) (body None h.name.ns kids nothing) (body None n more rest) n h.name.ns refl
        (part-of n h s.2 m) (loud-some s.0 kids h.name.ns nothing s.3) (body-shaped s.0 kids h.name.ns nothing s.3 tt) (body-shaped depth more n rest s.4 b))
  ]
]
