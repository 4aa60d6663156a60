-- Names with the prefixes of their namespaces are read back.
use Rattle.std.proofs.Common.{◌≡◌, ◌∙◌, ℕ, Bool, true, false, ◌&&◌, List, [], ◌∷◌, ◌++◌, Option, Some, None, is_some, refl, ap, codes}
use Rattle.std.proofs.lemmas.Bool.{and_parts}
use Rattle.ix_base.specs.declared.content.OwnName.{OwnName}
use Rattle.ix_base.specs.ValueNames.{name_of, is_unbound}
use Rattle.ix_base.specs.NcName.{is_ncname}
use Rattle.ix_base.specs.Namespaces.{xml_namespace, iso4217_namespace, link_namespace, xbrldi_namespace, xbrli_namespace, xlink_namespace, xsi_namespace}
use Rattle.ix_base.specs.Scope.{is_qname, namespace_of, element_name}
use Rattle.ix_base.specs.Token.{token_of}
use Rattle.ix_base.specs.Trees.{Bound, Named}
use Rattle.instance_lines.specs.Prefixes.{fixed, xml, declared_for, prefix_in, name_text}
use Rattle.page_tree.proofs.FineNames.{ncname-colon, colon-splits, prefixed-qname, local-qname}
use Rattle.instance_lines.specs.Canonical.{Spaces}
use Rattle.instance_out.proofs.TokenLaws.{qname-token}

-- The scope knows the prefixes of an instance that has these further namespaces: each prefix is a name and is bound to its
-- namespace, and there is no default namespace.
pub record Knows (scope : List Bound) (spaces : Spaces) : Type 0 where
  pub bound : (ns p : List ℕ) → prefix_in (xml ∷ declared_for spaces) ns ≡ Some p → namespace_of scope p ≡ Some ns
  pub fits : (ns p : List ℕ) → prefix_in (xml ∷ declared_for spaces) ns ≡ Some p → is_ncname p ≡ true
  pub bare : prefix_in (xml ∷ declared_for spaces) [] ≡ None
  pub plain : namespace_of scope [] ≡ None

-- Such a scope knows the prefixes of the standards.

pub knows-xbrli : (scope : List Bound) (spaces : Spaces) → Knows scope spaces → namespace_of scope (codes "xbrli") ≡ Some xbrli_namespace
unfolding fixed xml xml_namespace iso4217_namespace link_namespace xbrldi_namespace xbrli_namespace xlink_namespace xsi_namespace
knows-xbrli scope spaces k = k.bound xbrli_namespace (codes "xbrli") refl

pub knows-xbrldi : (scope : List Bound) (spaces : Spaces) → Knows scope spaces → namespace_of scope (codes "xbrldi") ≡ Some xbrldi_namespace
unfolding fixed xml xml_namespace iso4217_namespace link_namespace xbrldi_namespace xbrli_namespace xlink_namespace xsi_namespace
knows-xbrldi scope spaces k = k.bound xbrldi_namespace (codes "xbrldi") refl

pub knows-xsi : (scope : List Bound) (spaces : Spaces) → Knows scope spaces → namespace_of scope (codes "xsi") ≡ Some xsi_namespace
unfolding fixed xml xml_namespace iso4217_namespace link_namespace xbrldi_namespace xbrli_namespace xlink_namespace xsi_namespace
knows-xsi scope spaces k = k.bound xsi_namespace (codes "xsi") refl

pub knows-link : (scope : List Bound) (spaces : Spaces) → Knows scope spaces → namespace_of scope (codes "link") ≡ Some link_namespace
unfolding fixed xml xml_namespace iso4217_namespace link_namespace xbrldi_namespace xbrli_namespace xlink_namespace xsi_namespace
knows-link scope spaces k = k.bound link_namespace (codes "link") refl

pub knows-xlink : (scope : List Bound) (spaces : Spaces) → Knows scope spaces → namespace_of scope (codes "xlink") ≡ Some xlink_namespace
unfolding fixed xml xml_namespace iso4217_namespace link_namespace xbrldi_namespace xbrli_namespace xlink_namespace xsi_namespace
knows-xlink scope spaces k = k.bound xlink_namespace (codes "xlink") refl

pub knows-xml : (scope : List Bound) (spaces : Spaces) → Knows scope spaces → namespace_of scope (codes "xml") ≡ Some xml_namespace
unfolding fixed xml xml_namespace iso4217_namespace link_namespace xbrldi_namespace xbrli_namespace xlink_namespace xsi_namespace
knows-xml scope spaces k = k.bound xml_namespace (codes "xml") refl

abbrev pub is_listed : Spaces → List ℕ → Bool
is_listed spaces [] = true
is_listed spaces (c ∷ ns) = is_some (prefix_in (xml ∷ declared_for spaces) (c ∷ ns))

-- a name that can be written in such an instance
abbrev pub is_fit : Spaces → OwnName → Bool
is_fit spaces n = is_ncname n.local && is_listed spaces n.ns

abbrev pub given : OwnName → Named
given n = record { ns = n.ns; local = n.local }

-- the name as it is written stands for it
pub record IsRead (scope : List Bound) (spaces : Spaces) (n : OwnName) : Type 0 where
  pub named : element_name scope (name_text spaces n) ≡ given n
  pub held : name_of scope (token_of (name_text spaces n)) ≡ Some (given n)

of_qname : (scope : List Bound) (t : List ℕ) (n : Named) → is_qname t ≡ true → is_unbound scope t ≡ false → element_name scope t ≡ n → name_of scope (token_of t) ≡ Some n
of_qname scope t n q b e = ap (name_of scope) (qname-token t q) ∙ rw (q, b, e) refl

read_plain : (scope : List Bound) (local : List ℕ) → namespace_of scope [] ≡ None → is_ncname local ≡ true
    → (element_name scope local ≡ record { ns = []; local = local }) × (name_of scope (token_of local) ≡ Some (record { ns = []; local = local }))
read_plain scope local k h =
    let p = ncname-colon local h in
    let e : element_name scope local ≡ record { ns = []; local = local } = rw (p, k) refl in
    (e, of_qname scope local _ (local-qname local h) (rw p refl) e)

read_joined : (scope : List Bound) (ns p local : List ℕ) → namespace_of scope p ≡ Some ns → is_ncname p ≡ true → is_ncname local ≡ true
    → (element_name scope (p ++ 58 ∷ local) ≡ record { ns = ns; local = local }) × (name_of scope (token_of (p ++ 58 ∷ local)) ≡ Some (record { ns = ns; local = local }))
read_joined scope ns p local k f h =
    let s = colon-splits p local (ncname-colon p f) in
    let e : element_name scope (p ++ 58 ∷ local) ≡ record { ns = ns; local = local } = rw (s.has, s.front, s.back, k) refl in
    (e, of_qname scope (p ++ 58 ∷ local) _ (prefixed-qname p local f h) (rw (s.has, s.front, k) refl) e)

some_is : (o : Option (List ℕ)) → is_some o ≡ true → (x : List ℕ) × (o ≡ Some x)
some_is None h = absurd (cc)
some_is (Some x) h = (x, refl)

pub name-read : (scope : List Bound) (spaces : Spaces) → Knows scope spaces → (ns local : List ℕ) → is_fit spaces (record { ns = ns; local = local }) ≡ true → IsRead scope spaces (record { ns = ns; local = local })
name-read scope spaces k [] local h =
    let q = and_parts (is_ncname local) true h in
    let r = read_plain scope local k.plain q.0 in
    record { named = rw k.bare r.0; held = rw k.bare r.1 }
name-read scope spaces k (c ∷ ns) local h =
    let q = and_parts (is_ncname local) (is_listed spaces (c ∷ ns)) h in
    let p = some_is (prefix_in (xml ∷ declared_for spaces) (c ∷ ns)) q.1 in
    let r = read_joined scope (c ∷ ns) p.0 local (k.bound (c ∷ ns) p.0 p.1) (k.fits (c ∷ ns) p.0 p.1) q.0 in
    record { named = rw p.1 r.0; held = rw p.1 r.1 }
