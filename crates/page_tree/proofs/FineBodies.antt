-- Tags of copied markup: names without prefixes, a default namespace, and attributes without a prefix or with that of xml.
use Rattle.std.proofs.Common.{◌≡◌, ℕ, inl, inr, Bool, true, false, ◌&&◌, ◌||◌, not, if◌then◌else◌, List, [], ◌∷◌, ◌++◌, map, filter, is_some, refl, sym, ap, ◌∙◌, bytes_eq, codes}
use Rattle.std.specs.List.{list_all, list_any}
use Rattle.std.proofs.lemmas.Bool.{and_right}
use Rattle.ix_base.specs.NcName.{are_allowed, is_ncname, is_name_start, is_name_char}
use Rattle.ix_base.specs.Scope.{is_qname, prefix_of, local_of, namespace_of, bound_over, declared_over, scope_under, attribute_name}
use Rattle.ix_base.specs.Namespaces.{xmlns_namespace}
use Rattle.ix_base.specs.Trees.{Bound}
use Rattle.ix_base.specs.WrittenMarkup as written
use Rattle.page_tree.specs.FineMarkup.{scope_in, is_fine_attribute, is_fine_tag, default_of, IsBodyName, AreBodyAttributes}
use Rattle.page_tree.specs.Spellings.{read, tag_at}
use Rattle.page_tree.specs.Tags.{declares, bindings, scope_of, is_expanded, is_same, same_name, repeats, is_unbound, misnames, is_bad}
use Rattle.page_constructs.proofs.AllowedText.{low-ncname}
use Rattle.page_tree.proofs.FineLaws.{bytes-swapped, bound-here, good-values}
use Rattle.page_tree.proofs.FineNames.{ncname-colon, prefixed-qname, local-qname}
use Rattle.page_constructs.proofs.SpanLaws.{either, or_left, or_right, bytes-one}

xml_prefix : is_ncname (codes "xml") ≡ true
unfolding is_name_start is_name_char
xml_prefix = low-ncname (codes "xml") refl refl

xmlns_name : is_qname (codes "xmlns") ≡ true
unfolding is_name_start is_name_char
xmlns_name = local-qname (codes "xmlns") (low-ncname (codes "xmlns") refl refl)

body-qname : (n : List ℕ) → IsBodyName n → is_qname n ≡ true
body-qname n (inl h) = local-qname n h.0
body-qname n (inr h) = ap is_qname h.1 ∙ prefixed-qname (codes "xml") h.0 xml_prefix h.2

body-silent : (n : List ℕ) → IsBodyName n → (bytes_eq n (codes "xmlns") || bytes_eq (prefix_of n) (codes "xmlns")) ≡ false
body-silent n (inl h) = rw (h.1, ncname-colon n h.0) refl
body-silent n (inr h) = ap (λ x. bytes_eq x (codes "xmlns") || bytes_eq (prefix_of x) (codes "xmlns")) h.1

body-bound : (scope : List Bound) (n : List ℕ) → is_some (namespace_of scope (codes "xml")) ≡ true → IsBodyName n → is_unbound scope n ≡ false
body-bound scope n b (inl h) = rw (ncname-colon n h.0) refl
body-bound scope n b (inr h) = ap (is_unbound scope) h.1 ∙ rw b refl

-- attributes with other names
body-same : (scope : List Bound) (a b : written.Attribute) → IsBodyName a.name → IsBodyName b.name → bytes_eq a.name b.name ≡ false → is_same scope (read a) (read b) ≡ false
body-same scope a b (inl h) k e = rw (e, ncname-colon a.name h.0) refl
body-same scope a b (inr h) (inl k) e =
    let off : is_expanded scope (read b) ≡ false = rw (ncname-colon b.name k.0) refl in
    rw e (ap (λ x. (is_expanded scope (read a) && x) && same_name (attribute_name scope a.name) (attribute_name scope b.name)) off ∙ both_off (is_expanded scope (read a)) _) where
      both_off : (x y : Bool) → ((x && false) && y) ≡ false
      both_off true y = refl
      both_off false y = refl
body-same scope a b (inr h) (inr k) e =
    let locals : bytes_eq h.0 k.0 ≡ false = ap (bytes_eq (codes "xml:" ++ h.0)) (sym k.1) ∙ ap (λ x. bytes_eq x b.name) (sym h.1) ∙ e in
    rw e (and_right (is_expanded scope (read a) && is_expanded scope (read b)) (same_name (attribute_name scope a.name) (attribute_name scope b.name))
    (and_right (bytes_eq (attribute_name scope a.name).ns (attribute_name scope b.name).ns) (bytes_eq (local_of a.name) (local_of b.name))
    (ap (λ x. bytes_eq (local_of x) (local_of b.name)) h.1 ∙ ap (λ x. bytes_eq h.0 (local_of x)) k.1 ∙ locals)))

any-body : (scope : List Bound) (a : written.Attribute) (more : List written.Attribute) → IsBodyName a.name → AreBodyAttributes more → list_any (λ b. bytes_eq a.name b.name) more ≡ false
    → list_any (is_same scope (read a)) (map read more) ≡ false
any-body scope a [] h m e = refl
any-body scope a (b ∷ more) h m e =
    rw (body-same scope a b h m.0 (or_left (bytes_eq a.name b.name) (list_any (λ b. bytes_eq a.name b.name) more) e))
    (any-body scope a more h m.3 (or_right (bytes_eq a.name b.name) (list_any (λ b. bytes_eq a.name b.name) more) e))

unrepeated : (scope : List Bound) (attrs : List written.Attribute) → AreBodyAttributes attrs → repeats scope (map read attrs) ≡ false
unrepeated scope [] m = refl
unrepeated scope (a ∷ more) m = rw (any-body scope a more m.0 m.3 m.2) (unrepeated scope more m.3)

-- the declaration is other than they
default-apart : (scope : List Bound) (ns : List ℕ) (attrs : List written.Attribute) → AreBodyAttributes attrs → list_any (is_same scope (read (default_of ns))) (map read attrs) ≡ false
default-apart scope ns [] m = refl
default-apart scope ns (a ∷ more) m = rw (other a.name m.0) (default-apart scope ns more m.3) where
  other : (n : List ℕ) → IsBodyName n → bytes_eq (codes "xmlns") n ≡ false
  other n (inl h) = bytes-swapped n (codes "xmlns") h.1
  other n (inr h) = ap (bytes_eq (codes "xmlns")) h.1

unbinding : (at : ℕ) (name : List ℕ) (attrs : List written.Attribute) → AreBodyAttributes attrs → bindings (tag_at at name attrs) ≡ []
unbinding at name [] m = refl
unbinding at name (a ∷ more) m = rw (body-silent a.name m.0) (unbinding at name more m.3)

all-bound : (scope : List Bound) (attrs : List written.Attribute) → is_some (namespace_of scope (codes "xml")) ≡ true → AreBodyAttributes attrs
    → list_any (λ a. not (declares a) && is_unbound scope a.name) (map read attrs) ≡ false
all-bound scope [] b m = refl
all-bound scope (a ∷ more) b m = rw (and_right (not (declares (read a))) (is_unbound scope a.name) (body-bound scope a.name b m.0)) (all-bound scope more b m.3)

fine-attributes : (attrs : List written.Attribute) → AreBodyAttributes attrs → list_all is_fine_attribute attrs ≡ true
fine-attributes [] m = refl
fine-attributes (a ∷ more) m = rw (body-qname a.name m.0, m.1) (fine-attributes more m.3)

-- a tag without a declaration
pub body-scope : (scope : List Bound) (name : List ℕ) (attrs : List written.Attribute) → AreBodyAttributes attrs → scope_in scope name attrs ≡ scope
body-scope scope name attrs m = ap (scope_under scope) (unbinding 0 name attrs m)

pub body-tag : (scope : List Bound) (name : List ℕ) (attrs : List written.Attribute) → is_ncname name ≡ true → is_some (namespace_of scope (codes "xml")) ≡ true → AreBodyAttributes attrs
    → is_fine_tag scope name attrs ≡ true
body-tag scope name attrs n b m =
    let tag = tag_at 0 name attrs in
    let r : repeats (scope_of scope tag) tag.attrs ≡ false = unrepeated (scope_of scope tag) attrs m in
    let u : is_unbound scope name ≡ false = rw (ncname-colon name n) refl in
    let k : misnames (scope_of scope tag) tag ≡ false = ap (λ s. misnames s tag) (body-scope scope name attrs m) ∙ rw (u, all-bound scope attrs b m, unbinding 0 name attrs m) refl in
    rw (local-qname name n, fine-attributes attrs m, r, good-values attrs, k) refl

-- look-up of a prefix under a default declaration
abbrev default : List ℕ → Bound
default ns = record { prefix = []; ns = ns }

filtered : (scope : List Bound) (c : ℕ) (p : List ℕ) → namespace_of (filter (λ x. not (bytes_eq x.prefix [])) scope) (c ∷ p) ≡ namespace_of scope (c ∷ p)
filtered [] c p = refl
filtered (x ∷ scope) c p = elim (either (bytes_eq x.prefix [])) as (λ z. namespace_of (filter (λ x. not (bytes_eq x.prefix [])) (x ∷ scope)) (c ∷ p) ≡ namespace_of (x ∷ scope) (c ∷ p)) [
  | inl y ↦ rw (y, ap (λ q. bytes_eq q (c ∷ p)) (bytes-one x.prefix [] y)) (filtered scope c p)
  | inr n ↦ rw (n, filtered scope c p) refl
]

pub default-kept : (scope : List Bound) (ns : List ℕ) (c : ℕ) (p : List ℕ) → namespace_of (declared_over scope (default ns)) (c ∷ p) ≡ namespace_of scope (c ∷ p)
default-kept scope ns c p = by_empty (bytes_eq ns []) where
  by_empty : (e : Bool) → namespace_of (if e then filter (λ x. not (bytes_eq x.prefix [])) scope else bound_over scope (default ns)) (c ∷ p) ≡ namespace_of scope (c ∷ p)
  by_empty true = filtered scope c p
  by_empty false = bound-here scope (default ns) (c ∷ p)

-- a tag with one
pub default-scope : (scope : List Bound) (name ns : List ℕ) (attrs : List written.Attribute) → AreBodyAttributes attrs → scope_in scope name (default_of ns ∷ attrs) ≡ declared_over scope (default ns)
default-scope scope name ns attrs m = ap (λ bs. scope_under scope (default ns ∷ bs)) (unbinding 0 name attrs m)

pub default-tag : (scope : List Bound) (name ns : List ℕ) (attrs : List written.Attribute) → is_ncname name ≡ true → are_allowed ns ≡ true → bytes_eq ns xmlns_namespace ≡ false
    → is_some (namespace_of scope (codes "xml")) ≡ true → AreBodyAttributes attrs → is_fine_tag scope name (default_of ns ∷ attrs) ≡ true
default-tag scope name ns attrs n a e b m =
    let tag = tag_at 0 name (default_of ns ∷ attrs) in
    let under = declared_over scope (default ns) in
    let r : repeats (scope_of scope tag) tag.attrs ≡ false = rw (default-apart (scope_of scope tag) ns attrs m) (unrepeated (scope_of scope tag) attrs m) in
    let u : is_unbound under name ≡ false = rw (ncname-colon name n) refl in
    let x : is_some (namespace_of under (codes "xml")) ≡ true = ap is_some (default-kept scope ns 120 (codes "ml")) ∙ b in
    let bad : list_any is_bad (bindings tag) ≡ false = ap (λ bs. list_any is_bad (default ns ∷ bs)) (unbinding 0 name attrs m) ∙ rw e refl in
    let k : misnames (scope_of scope tag) tag ≡ false = ap (λ s. misnames s tag) (default-scope scope name ns attrs m) ∙ rw (u, all-bound under attrs x m) bad in
    let f : list_all is_fine_attribute (default_of ns ∷ attrs) ≡ true = rw (xmlns_name, a) (fine-attributes attrs m) in
    rw (local-qname name n, f, r, good-values attrs, k) refl
