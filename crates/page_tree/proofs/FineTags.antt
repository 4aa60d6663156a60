-- Tags whose names stand in a program's text.
use Rattle.std.proofs.Common.{◌≡◌, ℕ, inl, inr, Bool, true, false, ◌&&◌, ◌||◌, not, if◌then◌else◌, List, [], ◌∷◌, is_some, refl, sym, subst, arith, bytes_eq}
use Rattle.std.specs.List.{list_all, list_any}
use Rattle.std.proofs.lemmas.Bool.{and_parts}
use Rattle.std.proofs.lemmas.Bool.Decides.{nat_tests}
use Rattle.ix_base.specs.NcName.{lies, are_allowed, is_name_start, is_name_char, is_ncname}
use Rattle.ix_base.specs.Scope.{is_qname, has_prefix, prefix_of, local_of, namespace_of}
use Rattle.ix_base.specs.Trees.{Bound}
use Rattle.ix_base.specs.WrittenMarkup as written
use Rattle.page_tree.specs.FineMarkup.{is_fine_attribute, are_plain, names_of, IsPlainTag, is_letter, is_simple, is_simple_name, are_bound, are_simple_names, are_allowed_values}
use Rattle.page_tree.specs.Tags.{is_unbound}
use Rattle.page_constructs.proofs.AllowedText.{is_low, low-ncname}
use Rattle.page_constructs.proofs.NameBytes.{cond-then, cond-else}
use Rattle.page_constructs.proofs.SpanLaws.{either, bytes-one}

letter-start : (c : ℕ) → is_letter c ≡ true → (is_low c ≡ true) × (is_name_start c ≡ true)
unfolding is_name_start
letter-start c h = (grind (arith, nat_tests), grind (arith, nat_tests))

plain-char : (c : ℕ) → (is_letter c || lies 48 57 c) ≡ true → (is_low c ≡ true) × (is_name_char c ≡ true)
unfolding is_name_char is_name_start
plain-char c h = (grind (arith, nat_tests), grind (arith, nat_tests))

plain-chars : (cs : List ℕ) → list_all (λ x. is_letter x || lies 48 57 x) cs ≡ true → (list_all is_low cs ≡ true) × (list_all is_name_char cs ≡ true)
plain-chars [] h = (refl, refl)
plain-chars (c ∷ cs) h =
    let z = and_parts (is_letter c || lies 48 57 c) (list_all (λ x. is_letter x || lies 48 57 x) cs) h in
    let y = plain-char c z.0 in let x = plain-chars cs z.1 in (rw (y.0) x.0, rw (y.1) x.1)

pub simple-ncname : (t : List ℕ) → is_simple t ≡ true → is_ncname t ≡ true
simple-ncname [] h = absurd (cc)
simple-ncname (c ∷ cs) h =
    let z = and_parts (is_letter c) (list_all (λ x. is_letter x || lies 48 57 x) cs) h in
    let y = letter-start c z.0 in let x = plain-chars cs z.1 in
    low-ncname (c ∷ cs) (rw (y.0) x.0) (rw (y.1) x.1)

bound-prefix : (scope : List Bound) (prefixes : List (List ℕ)) (p : List ℕ) → are_bound scope prefixes ≡ true → list_any (bytes_eq p) prefixes ≡ true → is_some (namespace_of scope p) ≡ true
bound-prefix scope [] p b h = absurd (cc)
bound-prefix scope (q ∷ prefixes) p b h =
    let z = and_parts (is_some (namespace_of scope q)) (are_bound scope prefixes) b in
    elim (either (bytes_eq p q)) as (λ x. is_some (namespace_of scope p) ≡ true) [
      | inl y ↦ subst (λ x. is_some (namespace_of scope x) ≡ true) (sym (bytes-one p q y)) z.0
      | inr n ↦ bound-prefix scope prefixes p z.1 (rw n at h)
    ]

pub simple-name : (scope : List Bound) (prefixes : List (List ℕ)) (n : List ℕ) → are_bound scope prefixes ≡ true → is_simple_name prefixes n ≡ true
    → (is_qname n ≡ true) × (is_unbound scope n ≡ false)
simple-name scope prefixes n b h = by_prefix (has_prefix n) refl where
  by_prefix : (e : Bool) → has_prefix n ≡ e → (is_qname n ≡ true) × (is_unbound scope n ≡ false)
  by_prefix true e =
      let k : (is_simple (prefix_of n) && (is_simple (local_of n) && list_any (bytes_eq (prefix_of n)) prefixes)) ≡ true = cond-then (has_prefix n) _ _ e h in
      let z = and_parts (is_simple (prefix_of n)) (is_simple (local_of n) && list_any (bytes_eq (prefix_of n)) prefixes) k in
      let y = and_parts (is_simple (local_of n)) (list_any (bytes_eq (prefix_of n)) prefixes) z.1 in
      let front = simple-ncname (prefix_of n) z.0 in let back = simple-ncname (local_of n) y.0 in
      let found = bound-prefix scope prefixes (prefix_of n) b y.1 in
      (qualified (has_prefix n) (is_ncname (prefix_of n)) (is_ncname (local_of n)) (is_ncname n) e front back, unbound_not (has_prefix n) (is_some (namespace_of scope (prefix_of n))) found) where
        qualified : (e p l t : Bool) → e ≡ true → p ≡ true → l ≡ true → (if e then p && l else t) ≡ true
        qualified e p l t x y z = rw (x, y, z) refl

        unbound_not : (e b : Bool) → b ≡ true → (e && not b) ≡ false
        unbound_not true b y = rw y refl
        unbound_not false b y = refl
  by_prefix false e =
      let k : is_simple n ≡ true = cond-else (has_prefix n) _ _ e h in
      (local_only (has_prefix n) (is_ncname (prefix_of n) && is_ncname (local_of n)) (is_ncname n) e (simple-ncname n k), none (has_prefix n) (not (is_some (namespace_of scope (prefix_of n)))) e) where
        local_only : (e p t : Bool) → e ≡ false → t ≡ true → (if e then p else t) ≡ true
        local_only e p t x y = rw (x, y) refl

        none : (e b : Bool) → e ≡ false → (e && b) ≡ false
        none e b x = rw x refl

-- attributes with such names
simple-attributes : (scope : List Bound) (prefixes : List (List ℕ)) (attrs : List written.Attribute) → are_bound scope prefixes ≡ true → list_all (is_simple_name prefixes) (names_of attrs) ≡ true
    → are_allowed_values attrs ≡ true → (list_all is_fine_attribute attrs ≡ true) × (list_any (is_unbound scope) (names_of attrs) ≡ false)
simple-attributes scope prefixes [] b h v = (refl, refl)
simple-attributes scope prefixes (a ∷ more) b h v =
    let z = and_parts (is_simple_name prefixes a.name) (list_all (is_simple_name prefixes) (names_of more)) h in
    let y = and_parts (are_allowed a.value) (are_allowed_values more) v in
    let n = simple-name scope prefixes a.name b z.0 in
    let r = simple-attributes scope prefixes more b z.1 y.1 in
    (rw (n.0, y.0) r.0, rw (n.1) r.1)

-- a tag of any name, with such attributes
pub named-tag : (scope : List Bound) (prefixes : List (List ℕ)) (name : List ℕ) (attrs : List written.Attribute) → are_bound scope prefixes ≡ true → is_qname name ≡ true → is_unbound scope name ≡ false
    → are_simple_names prefixes (names_of attrs) ≡ true → are_allowed_values attrs ≡ true → IsPlainTag scope name attrs
named-tag scope prefixes name attrs b n u h v =
    let z = and_parts (list_all (is_simple_name prefixes) (names_of attrs)) (are_plain (names_of attrs)) h in
    let r = simple-attributes scope prefixes attrs b z.0 v in
    record { named = n; attributes = r.0; plain = z.1; bound = rw u r.1 }

-- a tag with such a name too
pub simple-tag : (scope : List Bound) (prefixes : List (List ℕ)) (name : List ℕ) (attrs : List written.Attribute) → are_bound scope prefixes ≡ true → is_simple_name prefixes name ≡ true
    → are_simple_names prefixes (names_of attrs) ≡ true → are_allowed_values attrs ≡ true → IsPlainTag scope name attrs
simple-tag scope prefixes name attrs b n h v = let k = simple-name scope prefixes name b n in named-tag scope prefixes name attrs b k.0 k.1 h v
