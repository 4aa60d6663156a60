-- What elements keep to that break no rule on links.
use Rattle.std.proofs.Common.{◌≡◌, ◌∙◌, ap, refl, subst, sym, ℕ, Bool, true, false, List, [], ◌∷◌, length, map, Option, Some, None, arith}
use Rattle.std.specs.Prelude.{◌&&◌, bytes_eq, is_some, nat_lt}
use Rattle.std.specs.List.{Contains, filter, flat_map}
use Rattle.std.proofs.lemmas.Bool.{and_parts}
use Rattle.std.proofs.lemmas.Bool.Decides.{nat_tests}
use Rattle.std.proofs.lemmas.Slice.Eq.{bytes_eq-Decides}
use Rattle.ix_base.specs.declared.kind.Kind.{Kind}
use Rattle.ix_base.specs.declared.kind.Kind.TheVariants as kind
use Rattle.ix_base.specs.declared.rule.Rule.{Rule}
use Rattle.ix_base.specs.declared.rule.Rule.TheVariants as rule
use Rattle.ix_base.specs.Asks.{asks}
use Rattle.ix_base.specs.Kinds.{kind_of, same_kind}
use Rattle.ix_base.specs.LinkRules.{address_of, breaks, broken, found_at, lacks_order, link_rules, redirects, repeats_order, uri_of}
use Rattle.ix_base.specs.LocatedElements.{Located, is_kind, is_text}
use Rattle.ix_base.specs.Rows.{row}
use Rattle.ix_base.proofs.OnceLemmas.{Contains-filter, Contains-from_filter, Contains-nil}
use Rattle.target_contents.specs.RoleAddresses.{refers_to}
use Rattle.target_contents.proofs.FitLaws.{flat-none, row-none}
use Rattle.target_contents.proofs.MemberLaws.{from-map}

is-role : (k : Kind) → same_kind k kind.RoleRef ≡ true → k ≡ kind.RoleRef
is-role kind.RoleRef h = refl
is-role k h = absurd (cc)

is-arcrole : (k : Kind) → same_kind k kind.ArcroleRef ≡ true → k ≡ kind.ArcroleRef
is-arcrole kind.ArcroleRef h = refl
is-arcrole k h = absurd (cc)

-- none of a list is there where none is counted
none-counted : {X : Type 0} (xs : List X) (x : X) → nat_lt 0 (length xs) ≡ false → Contains xs x → ⊥
none-counted [] x h at = Contains-nil x at
none-counted (y ∷ xs) x h at = grind (arith, nat_tests)

-- the URI, where it is this text
the-uri : (o : Option (List ℕ)) (uri : List ℕ) → is_text uri o ≡ true → o ≡ Some uri
the-uri None uri h = absurd (cc)
the-uri (Some u) uri h = ap Some (sym ((bytes_eq-Decides uri u).0 h))

module _ (bases : Located → List ℕ) (es : List Located) (unbroken : broken bases es ≡ []) where
  -- no rule on links is broken
  pub link-kept : (r : Rule) → Contains link_rules r → (e : Located) → Contains es e → breaks bases (asks es) e r ≡ false
  link-kept r which e at =
      row-none (breaks bases (asks es) e r) (found_at e r)
      (flat-none (λ x. row (breaks bases (asks es) x r) (found_at x r)) es
      (flat-none (λ k. flat_map (λ x. row (breaks bases (asks es) x k) (found_at x k)) es) link_rules unbroken r which) e at)

  pub order-once : (e : Located) → Contains es e → repeats_order (asks es) e ≡ false
  order-once e at = link-kept rule.L12 (11, omega arith, refl) e at

  pub order-there : (e : Located) → Contains es e → lacks_order (asks es) e ≡ false
  order-there e at = link-kept rule.L13 (12, omega arith, refl) e at

  apart : (b : Bool) → (b ≡ false → ⊥) → b ≡ true
  apart true h = refl
  apart false h = absurd (h refl)

  one-at : (k : Kind) → ((l : Kind) → same_kind l k ≡ true → l ≡ k) → same_kind k k ≡ true → (uri : List ℕ) (e f : Located)
      → Contains (filter (refers_to k uri) es) e → Contains (filter (refers_to k uri) es) f → address_of bases e ≡ address_of bases f
  one-at k the self uri e f p q =
      let at = Contains-from_filter (refers_to k uri) es e p in
      let to = Contains-from_filter (refers_to k uri) es f q in
      let mine = and_parts (is_kind k e) (is_text uri (uri_of e)) at.1 in
      let other = and_parts (is_kind k f) (is_text uri (uri_of f)) to.1 in
      let own : uri_of e ≡ Some uri = the-uri (uri_of e) uri mine.1 in
      let kept : (is_some (uri_of e) && nat_lt 0 ((asks es).count (redirects bases e))) ≡ false = link-kept rule.L17 (16, omega arith, refl) e at.0 in
      let few : nat_lt 0 (length (filter (redirects bases e) es)) ≡ false = subst (λ o. (is_some o && nat_lt 0 ((asks es).count (redirects bases e))) ≡ false) own kept in
      (bytes_eq-Decides (address_of bases e) (address_of bases f)).0
      (apart (bytes_eq (address_of bases e) (address_of bases f)) (λ differ.
      let same : same_kind (kind_of e.placed) (kind_of f.placed) ≡ true = rw (the (kind_of e.placed) mine.0, the (kind_of f.placed) other.0) self in
      let redirected : redirects bases e f ≡ true = rw (same, own, other.1, differ) refl in
      none-counted (filter (redirects bases e) es) f few (Contains-filter (redirects bases e) es f to.0 redirected)))

  one-of : (k : Kind) → ((l : Kind) → same_kind l k ≡ true → l ≡ k) → same_kind k k ≡ true → (uri : List ℕ) (x y : List ℕ)
      → Contains (map (address_of bases) (filter (refers_to k uri) es)) x → Contains (map (address_of bases) (filter (refers_to k uri) es)) y → x ≡ y
  one-of k the self uri x y p q =
      let a = from-map (address_of bases) (filter (refers_to k uri) es) x p in
      let b = from-map (address_of bases) (filter (refers_to k uri) es) y q in
      sym a.2 ∙ one-at k the self uri a.0 b.0 a.1 b.1 ∙ b.2

  pub one-role : (uri : List ℕ) (x y : List ℕ)
      → Contains (map (address_of bases) (filter (refers_to kind.RoleRef uri) es)) x → Contains (map (address_of bases) (filter (refers_to kind.RoleRef uri) es)) y → x ≡ y
  one-role = one-of kind.RoleRef is-role refl

  pub one-arcrole : (uri : List ℕ) (x y : List ℕ)
      → Contains (map (address_of bases) (filter (refers_to kind.ArcroleRef uri) es)) x → Contains (map (address_of bases) (filter (refers_to kind.ArcroleRef uri) es)) y → x ≡ y
  one-arcrole = one-of kind.ArcroleRef is-arcrole refl
