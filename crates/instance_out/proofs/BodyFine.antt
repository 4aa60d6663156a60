-- The markup of the nodes of a sound body is fine.
use Rattle.std.proofs.Common.{◌≡◌, ◌≢◌, ◌∙◌, ℕ, zero, suc, ◌≤◌, ◌==◌, Bool, true, false, not, ◌&&◌, ◌||◌, cond, if◌then◌else◌, List, [], ◌∷◌, ◌++◌, length, map, filter, None, is_some, refl, sym, ap, subst, bytes_eq, codes, arith, ◌⊎◌, inl, inr}
use Rattle.std.specs.List.{list_any}
use Rattle.std.specs.declared.cmp.Ordering.{Ordering}
use Rattle.std.specs.declared.cmp.Ordering.TheVariants.{Less, Equal, Greater}
use Rattle.std.proofs.lemmas.Bool.{and_parts}
use Rattle.std.proofs.lemmas.List.{nil_from_length}
use Rattle.ix_base.specs.NcName.{is_ncname, are_allowed}
use Rattle.ix_base.specs.Namespaces.{xml_namespace, xmlns_namespace}
use Rattle.ix_base.specs.Scope.{namespace_of, has_prefix}
use Rattle.ix_base.specs.SortedLists.{sorted, put, put_by}
use Rattle.ix_base.specs.Sound.{IsSoundAttribute, IsSoundHead, AreSound, AreDistinct}
use Rattle.ix_base.specs.Trees.{Named, Valued, Bound, Head, Nodes, none, chars, elem}
use Rattle.ix_base.specs.WrittenMarkup.{Attribute, Markup, nothing, words, node, leaf, verbatim}
use Rattle.page_tree.specs.FineMarkup.{is_fine, is_fine_text, is_fine_tag, scope_in, begins_dark, default_of, IsBodyName, AreBodyAttributes}
use Rattle.page_constructs.proofs.AllowedText.{allowed-append}
use Rattle.page_tree.proofs.FineBodies.{body-tag, default-tag, body-scope, default-scope, default-kept}
use Rattle.page_constructs.proofs.SpanLaws.{bytes-one, bytes-same, bytes-apart, one_number}
use Rattle.ix_base.specs.Markup.{manner, is_silent, ends_short, is_written, written_name, attribute_of, is_link_of, attribute_cmp, own_attributes, declaration, put_words, element_by, body}
use Rattle.page_tree.proofs.FineNames.{ncname-colon}
use Rattle.instance_out.proofs.RunLaws.{Each}
use Rattle.instance_out.proofs.BodyLaws.{as_is, each-put, each-sorted, all-each, manner-cases, kept-body, left-body, opened-body}

-- Own attributes, each once.

abbrev IsMeet : Attribute → Type 0
IsMeet a = IsBodyName a.name × (are_allowed a.value ≡ true)

abbrev Differs : Attribute → Attribute → Type 0
Differs a b = bytes_eq a.name b.name ≡ false

abbrev AreApart : List Attribute → Type 0
AreApart [] = Unit {0}
AreApart (a ∷ more) = Each (Differs a) more × AreApart more

flip : (a b : Attribute) → Differs a b → Differs b a
flip a b d = bytes-apart b.name a.name (λ e. (let s : bytes_eq a.name a.name ≡ false = ap (bytes_eq a.name) (sym e) ∙ d in let t : bytes_eq a.name a.name ≡ true = bytes-same a.name in cc))

put-differs : (R : Attribute → Attribute → Ordering) (x : Attribute) (ys : List Attribute) → Each (Differs x) ys → AreApart ys → AreApart (put R x ys)
put-differs R x [] h a = (tt, tt)
put-differs R x (y ∷ ys) (h, hs) (a, as') = by (R x y) (put-differs R x ys hs as')
  where
    by : (o : Ordering) → AreApart (put R x ys) → AreApart (put_by o x y ys (put R x ys))
    by Less ih = ((h, hs), (a, as'))
    by Equal ih = ((h, hs), (a, as'))
    by Greater ih = (each-put (Differs y) R x ys (flip x y h) a, ih)

sorted-differ : (R : Attribute → Attribute → Ordering) (xs : List Attribute) → AreApart xs → AreApart (sorted R xs)
unfolding sorted
sorted-differ R [] a = tt
sorted-differ R (x ∷ xs) (a, as') = put-differs R x (sorted R xs) (each-sorted (Differs x) R xs a) (sorted-differ R xs as')

none-same : (a : Attribute) (xs : List Attribute) → Each (Differs a) xs → list_any (λ b. bytes_eq a.name b.name) xs ≡ false
none-same a [] h = refl
none-same a (x ∷ xs) (h, hs) = rw h (none-same a xs hs)

are-body : (xs : List Attribute) → Each IsMeet xs → AreApart xs → AreBodyAttributes xs
are-body [] h a = tt
are-body (x ∷ xs) (h, hs) (a, as') = (h.0, h.1, none-same x xs a, are-body xs hs as')

-- Written names.

abbrev IsSaid : Named → Type 0
IsSaid n = ((n.ns ≡ []) × (written_name n ≡ n.local)) ⊎ ((n.ns ≡ xml_namespace) × (written_name n ≡ codes "xml:" ++ n.local))

said : (a : Valued) → is_written a ≡ true → IsSaid a.name
said a t = by (length a.name.ns == 0) refl t
  where
    by : (b : Bool) → (length a.name.ns == 0) ≡ b → (b || (bytes_eq a.name.ns xml_namespace && not (bytes_eq a.name.local (codes "base")))) ≡ true → IsSaid a.name
    by true e t = inl (nil_from_length a.name.ns (one_number (length a.name.ns) 0 e), rw e refl)
    by false e t =
        let q = and_parts (bytes_eq a.name.ns xml_namespace) (not (bytes_eq a.name.local (codes "base"))) t in
        inr (bytes-one a.name.ns xml_namespace q.0, rw e refl)

one-named : (m n : Named) → m.ns ≡ n.ns → m.local ≡ n.local → m ≡ n
one-named m n e f = ap (λ x. record { ns = x; local = m.local }) e ∙ ap (λ x. record { ns = n.ns; local = x }) f

behind-xml : (a b : List ℕ) → codes "xml:" ++ a ≡ codes "xml:" ++ b → a ≡ b
behind-xml a b e = cc

mixed : (a b : List ℕ) → is_ncname a ≡ true → a ≡ codes "xml:" ++ b → ⊥
mixed a b n e = (let f : has_prefix a ≡ false = ncname-colon a n in let g : has_prefix a ≡ true = ap has_prefix e in cc)

names-differ : (m n : Named) → IsSaid m → IsSaid n → is_ncname m.local ≡ true → is_ncname n.local ≡ true → m ≢ n → written_name m ≢ written_name n
names-differ m n (inl p) (inl q) c d h = λ e. h (one-named m n (p.0 ∙ sym q.0) (sym p.1 ∙ e ∙ q.1))
names-differ m n (inl p) (inr q) c d h = λ e. mixed m.local n.local c (sym p.1 ∙ e ∙ q.1)
names-differ m n (inr p) (inl q) c d h = λ e. mixed n.local m.local d (sym q.1 ∙ sym e ∙ p.1)
names-differ m n (inr p) (inr q) c d h = λ e. h (one-named m n (p.0 ∙ sym q.0) (behind-xml m.local n.local (sym p.1 ∙ e ∙ q.1)))

body-name : (a : Valued) → IsSoundAttribute a → IsSaid a.name → IsBodyName (written_name a.name)
body-name a s (inl p) = subst IsBodyName (sym p.1) (inl (s.name.local, bytes-apart a.name.local (codes "xmlns") (s.undeclaring p.0)))
body-name a s (inr p) = inr (a.name.local, p.1, s.name.local)

meet : (n : Named) (a : Valued) → IsSoundAttribute a → is_written a ≡ true → IsMeet (attribute_of None n a)
meet n a s w = (body-name a s (said a w), ap are_allowed (as_is (is_link_of n a.name) a.value) ∙ s.allowed)

all-meet : (n : Named) (as' : List Valued) → Each IsSoundAttribute as' → Each IsMeet (map (attribute_of None n) (filter is_written as'))
all-meet n [] h = tt
all-meet n (a ∷ as') (h, hs) = by (is_written a) refl (all-meet n as' hs)
  where
    by : (b : Bool) → is_written a ≡ b → Each IsMeet (map (attribute_of None n) (filter is_written as')) → Each IsMeet (map (attribute_of None n) (cond b (a ∷ filter is_written as') (filter is_written as')))
    by true e ih = (meet n a h e, ih)
    by false e ih = ih

others : (n : Named) (a : Valued) → IsSoundAttribute a → is_written a ≡ true → (as' : List Valued) → Each IsSoundAttribute as' → Each (λ m. a.name ≢ m) (map (λ b. b.name) as')
    → Each (Differs (attribute_of None n a)) (map (attribute_of None n) (filter is_written as'))
others n a s w [] h d = tt
others n a s w (b ∷ as') (h, hs) (d, ds) = by (is_written b) refl (others n a s w as' hs ds)
  where
    by : (x : Bool) → is_written b ≡ x → Each (Differs (attribute_of None n a)) (map (attribute_of None n) (filter is_written as'))
        → Each (Differs (attribute_of None n a)) (map (attribute_of None n) (cond x (b ∷ filter is_written as') (filter is_written as')))
    by true e ih = (bytes-apart (written_name a.name) (written_name b.name) (names-differ a.name b.name (said a w) (said b e) s.name.local h.name.local d), ih)
    by false e ih = ih

all-apart : (n : Named) (as' : List Valued) → Each IsSoundAttribute as' → AreDistinct (map (λ a. a.name) as') → AreApart (map (attribute_of None n) (filter is_written as'))
all-apart n [] h d = tt
all-apart n (a ∷ as') (h, hs) d = by (is_written a) refl (all-apart n as' hs d.1)
  where
    by : (b : Bool) → is_written a ≡ b → AreApart (map (attribute_of None n) (filter is_written as')) → AreApart (map (attribute_of None n) (cond b (a ∷ filter is_written as') (filter is_written as')))
    by true e ih = (others n a h e as' hs (all-each (λ m. a.name ≢ m) (map (λ b. b.name) as') d.0), ih)
    by false e ih = ih

own-body : (h : Head) → IsSoundHead h → AreBodyAttributes (own_attributes None h)
own-body h s =
    let given = map (attribute_of None h.name) (filter is_written h.attrs) in
    let sound = all-each IsSoundAttribute h.attrs s.attributes in
    are-body (sorted attribute_cmp given) (each-sorted IsMeet attribute_cmp given (all-meet h.name h.attrs sound)) (sorted-differ attribute_cmp given (all-apart h.name h.attrs sound s.distinct))

-- Tags.

abbrev pub HasXml : List Bound → Type 0
HasXml scope = is_some (namespace_of scope (codes "xml")) ≡ true

tag-fine : (scope : List Bound) (n : List ℕ) (h : Head) → IsSoundHead h → HasXml scope
    → (is_fine_tag scope h.name.local (declaration n h.name.ns ++ own_attributes None h) ≡ true) × HasXml (scope_in scope h.name.local (declaration n h.name.ns ++ own_attributes None h))
tag-fine scope n h s x = by (bytes_eq h.name.ns n)
  where
    own : AreBodyAttributes (own_attributes None h)
    own = own-body h s

    by : (b : Bool) → (is_fine_tag scope h.name.local ((if b then [] else default_of h.name.ns ∷ []) ++ own_attributes None h) ≡ true) × HasXml (scope_in scope h.name.local ((if b then [] else default_of h.name.ns ∷ []) ++ own_attributes None h))
    by true = (body-tag scope h.name.local (own_attributes None h) s.name.local x own, ap (λ z. is_some (namespace_of z (codes "xml"))) (body-scope scope h.name.local (own_attributes None h) own) ∙ x)
    by false = (
      default-tag scope h.name.local h.name.ns (own_attributes None h) s.name.local s.name.allowed (bytes-apart h.name.ns xmlns_namespace s.name.plain) x own,
      ap (λ z. is_some (namespace_of z (codes "xml"))) (default-scope scope h.name.local h.name.ns (own_attributes None h) own) ∙ ap is_some (default-kept scope h.name.ns 120 (codes "ml")) ∙ x,
    )

-- Bodies.

fine-text : (t : List ℕ) → is_fine_text t ≡ true → are_allowed t ≡ true
fine-text [] h = absurd (cc)
fine-text (c ∷ t) h = h

put-fine : (t : List ℕ) (m : Markup) (depth : ℕ) (scope : List Bound) → t ≢ [] → are_allowed t ≡ true → is_fine m depth scope ≡ true → is_fine (put_words t m) depth scope ≡ true
put-fine [] m depth scope h a f = absurd (h refl)
put-fine (c ∷ t) nothing depth scope h a f = rw a refl
put-fine (c ∷ t) (words u rest) depth scope h a f =
    let z = and_parts (is_fine_text u) (not (begins_dark rest) && is_fine rest depth scope) f in
    let b : are_allowed ((c ∷ t) ++ u) ≡ true = allowed-append (c ∷ t) u a (fine-text u z.0) in
    rw b z.1
put-fine (c ∷ t) (node name attrs kids rest) depth scope h a f = rw a f
put-fine (c ∷ t) (leaf name attrs rest) depth scope h a f = rw a f
put-fine (c ∷ t) (verbatim bytes rest) depth scope h a f = absurd (cc)

element-fine : (short : Bool) (name : List ℕ) (attrs : List Attribute) (kids rest : Markup) (d depth : ℕ) (scope : List Bound) → suc d ≤ depth → is_fine_tag scope name attrs ≡ true
    → ((below : ℕ) → d ≤ below → is_fine kids below (scope_in scope name attrs) ≡ true) → is_fine rest depth scope ≡ true → is_fine (element_by short name attrs kids rest) depth scope ≡ true
element-fine short name attrs kids rest d zero scope l t k r = absurd (omega arith)
element-fine true name attrs kids rest d (suc below) scope l t k r = rw t r
element-fine false name attrs kids rest d (suc below) scope l t k r = rw (t, k below (omega arith)) r

pub body-fine : (d : ℕ) (ns : Nodes) (n : List ℕ) (rest : Markup) (depth : ℕ) (scope : List Bound) → d ≤ depth → AreSound d ns → HasXml scope → is_fine rest depth scope ≡ true
    → is_fine (body None n ns rest) depth scope ≡ true
body-fine d none n rest depth scope l s x f = f
body-fine d (chars t more) n rest depth scope l s x f = put-fine t (body None n more rest) depth scope s.0 s.1 (body-fine d more n rest depth scope l s.3 x f)
body-fine d (elem h kids more) n rest depth scope l s x f = elim (manner-cases (manner h.name)) as (λ z. is_fine (body None n (elem h kids more) rest) depth scope ≡ true) [
  | inl m ↦ subst (λ z. is_fine z depth scope ≡ true) (sym (left-body h kids more n rest m)) (body-fine d more n rest depth scope l s.4 x f)
  | inr y ↦ elim y as (λ z. is_fine (body None n (elem h kids more) rest) depth scope ≡ true) [
    | inl m ↦ subst (λ z. is_fine z depth scope ≡ true) (sym (opened-body h kids more n rest m))
        (let deep : s.0 ≤ depth = omega (arith, s.1) in body-fine s.0 kids n (body None n more rest) depth scope deep s.3 x (body-fine d more n rest depth scope l s.4 x f))
    | inr m ↦ subst (λ z. is_fine z depth scope ≡ true) (sym (kept-body h kids more n rest m))
        (let deep : suc s.0 ≤ depth = omega (arith, s.1) in
        let t = tag-fine scope n h s.2 x in
        element-fine (ends_short h.name && is_silent kids) h.name.local (declaration n h.name.ns ++ own_attributes None h) (body None h.name.ns kids nothing) (body None n more rest) s.0 depth scope deep t.0
        (λ below k. body-fine s.0 kids h.name.ns nothing below (scope_in scope h.name.local (declaration n h.name.ns ++ own_attributes None h)) k s.3 t.1 refl) (body-fine d more n rest depth scope l s.4 x f))
  ]
]
