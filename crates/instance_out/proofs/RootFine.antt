-- The prefixes that a root declares are bound, and its tag is fine.
use Rattle.std.proofs.Common.{◌≡◌, ◌∙◌, refl, ap, ℕ, suc, true, false, ◌&&◌, not, List, [], ◌∷◌, map, Option, Some, None, is_some, bytes_eq, codes}
use Rattle.std.specs.List.{list_all, list_any}
use Rattle.std.proofs.lemmas.Bool.{and_parts}
use Rattle.ix_base.specs.NcName.{is_allowed, are_allowed, is_ncname}
use Rattle.ix_base.specs.Namespaces.{xml_namespace, xmlns_namespace, iso4217_namespace, link_namespace, xbrldi_namespace, xbrli_namespace, xlink_namespace, xsi_namespace}
use Rattle.ix_base.specs.Scope.{namespace_of, outermost, is_qname}
use Rattle.ix_base.specs.Trees.{Bound}
use Rattle.instance_lines.specs.Prefixes.{xml, fixed, numbered, declared_for, declaration, prefix_in, qualified, name_text}
use Rattle.ix_base.specs.declared.content.OwnName.{OwnName}
use Rattle.page_tree.specs.FineMarkup.{declaring, is_fine_binding, are_apart, is_simple, are_bound, is_fine_tag}
use Rattle.page_tree.specs.Tags.{is_unbound, is_bad}
use Rattle.page_constructs.proofs.AllowedText.{low-allowed}
use Rattle.page_tree.proofs.FineNames.{ncname-colon, prefixed-qname, local-qname, prefix-bound, declaring-fine}
use Rattle.page_tree.proofs.FineLaws.{bytes-swapped}
use Rattle.page_tree.proofs.FineTags.{simple-ncname}
use Rattle.page_constructs.proofs.SpanLaws.{and_both}
use Rattle.instance_lines.specs.Canonical.{Spaces, root}
use Rattle.instance_out.specs.GoodMarkup.{declared_scope, is_space}
use Rattle.instance_out.proofs.ApartLaws.{not-is}
use Rattle.instance_out.proofs.PrefixReading.{AreOther, AreFresh, declared-fresh, declared-names, numbered-name, prefix-name, bound-prefix}

-- Each prefix once.

other-apart : (p : List ℕ) (ds : List Bound) → AreOther p ds → list_any (λ x. bytes_eq p x.prefix) ds ≡ false
other-apart p [] h = refl
other-apart p (d ∷ ds) (h, hs) = rw (bytes-swapped d.prefix p h.0) (other-apart p ds hs)

fresh-apart : (ds : List Bound) → AreFresh ds → are_apart ds ≡ true
fresh-apart [] h = refl
fresh-apart (d ∷ ds) (some, other, rest) = rw (other-apart d.prefix ds other) (fresh-apart ds rest)

-- What they are bound to.

numbered-fine : (k : ℕ) (ss : Spaces) → list_all is_space ss ≡ true → list_all is_fine_binding (numbered k ss) ≡ true
numbered-fine k [] h = refl
numbered-fine k (s ∷ ss) h =
    let z = and_parts (is_space s) (list_all is_space ss) h in
    let y = and_parts (are_allowed s) (not (bytes_eq s xmlns_namespace) && (not (bytes_eq s []) && not (bytes_eq s xml_namespace))) z.0 in
    let x = and_parts (not (bytes_eq s xmlns_namespace)) (not (bytes_eq s []) && not (bytes_eq s xml_namespace)) y.1 in
    let v = and_parts (not (bytes_eq s [])) (not (bytes_eq s xml_namespace)) x.1 in
    rw (numbered-name k, y.0, not-is (bytes_eq s xmlns_namespace) x.0, not-is (bytes_eq s []) v.0, not-is (bytes_eq s xml_namespace) v.1)
    (numbered-fine (suc k) ss z.1)

fixed-binding : (p ns : List ℕ) → is_simple p ≡ true → are_allowed ns ≡ true → is_bad (record { prefix = p; ns = ns }) ≡ false → is_fine_binding (record { prefix = p; ns = ns }) ≡ true
fixed-binding p ns a b c = rw (simple-ncname p a, b, c) refl

declared-fine : (ss : Spaces) → list_all is_space ss ≡ true → list_all is_fine_binding (declared_for ss) ≡ true
unfolding fixed is_allowed xml_namespace xmlns_namespace iso4217_namespace link_namespace xbrldi_namespace xbrli_namespace xlink_namespace xsi_namespace
declared-fine ss h =
    and_both _ _ (fixed-binding (codes "iso4217") (codes "http://www.xbrl.org/2003/iso4217") refl (low-allowed (codes "http://www.xbrl.org/2003/iso4217") refl refl) refl)
    (and_both _ _ (fixed-binding (codes "link") (codes "http://www.xbrl.org/2003/linkbase") refl (low-allowed (codes "http://www.xbrl.org/2003/linkbase") refl refl) refl)
    (and_both _ _ (fixed-binding (codes "xbrldi") (codes "http://xbrl.org/2006/xbrldi") refl (low-allowed (codes "http://xbrl.org/2006/xbrldi") refl refl) refl)
    (and_both _ _ (fixed-binding (codes "xbrli") (codes "http://www.xbrl.org/2003/instance") refl (low-allowed (codes "http://www.xbrl.org/2003/instance") refl refl) refl)
    (and_both _ _ (fixed-binding (codes "xlink") (codes "http://www.w3.org/1999/xlink") refl (low-allowed (codes "http://www.w3.org/1999/xlink") refl refl) refl)
    (and_both _ _ (fixed-binding (codes "xsi") (codes "http://www.w3.org/2001/XMLSchema-instance") refl (low-allowed (codes "http://www.w3.org/2001/XMLSchema-instance") refl refl) refl)
    (numbered-fine 1 ss h))))))

-- The prefixes are bound.

abbrev pub known : List (List ℕ)
known = codes "xml" ∷ codes "link" ∷ codes "xbrldi" ∷ codes "xbrli" ∷ codes "xlink" ∷ codes "xsi" ∷ codes "iso4217" ∷ []

some-bound : (ss : Spaces) (ns p : List ℕ) → prefix_in (xml ∷ declared_for ss) ns ≡ Some p → is_some (namespace_of (declared_scope ss) p) ≡ true
some-bound ss ns p e = ap is_some (bound-prefix ss ns p e)

pub known-bound : (ss : Spaces) → are_bound (declared_scope ss) known ≡ true
unfolding fixed xml xml_namespace iso4217_namespace link_namespace xbrldi_namespace xbrli_namespace xlink_namespace xsi_namespace
known-bound ss =
    rw (
      some-bound ss xml_namespace (codes "xml") refl,
      some-bound ss link_namespace (codes "link") refl,
      some-bound ss xbrldi_namespace (codes "xbrldi") refl,
      some-bound ss xbrli_namespace (codes "xbrli") refl,
      some-bound ss xlink_namespace (codes "xlink") refl,
      some-bound ss xsi_namespace (codes "xsi") refl,
      some-bound ss iso4217_namespace (codes "iso4217") refl,
    ) refl

-- The names of a content.

pub own-name : (ss : Spaces) (n : OwnName) → is_ncname n.local ≡ true → (is_qname (name_text ss n) ≡ true) × (is_unbound (declared_scope ss) (name_text ss n) ≡ false)
own-name ss n h = by (prefix_in (xml ∷ declared_for ss) n.ns) refl
  where
    by : (o : Option (List ℕ)) → prefix_in (xml ∷ declared_for ss) n.ns ≡ o → (is_qname (qualified o n.local) ≡ true) × (is_unbound (declared_scope ss) (qualified o n.local) ≡ false)
    by None e = (local-qname n.local h, rw (ncname-colon n.local h) refl)
    by (Some p) e =
        let name = prefix-name (xml ∷ declared_for ss) n.ns p (declared-names ss) e in
        (prefixed-qname p n.local name h, prefix-bound (declared_scope ss) p n.local name (some-bound ss n.ns p e))

-- The root's tag.

declared-as : (bs : List Bound) → map declaration bs ≡ map declaring bs
declared-as [] = refl
declared-as (b ∷ bs) = ap (λ x. declaration b ∷ x) (declared-as bs)

pub root-fine : (ss : Spaces) → list_all is_space ss ≡ true → is_fine_tag outermost root (map declaration (declared_for ss)) ≡ true
unfolding fixed xml xml_namespace iso4217_namespace link_namespace xbrldi_namespace xbrli_namespace declared_scope
root-fine ss h =
    ap (is_fine_tag outermost root) (declared-as (declared_for ss))
    ∙ declaring-fine outermost root (declared_for ss) (prefixed-qname (codes "xbrli") (codes "xbrl") (simple-ncname (codes "xbrli") refl) (simple-ncname (codes "xbrl") refl))
    (declared-fine ss h) (fresh-apart (declared_for ss) (declared-fresh ss))
    (prefix-bound (declared_scope ss) (codes "xbrli") (codes "xbrl") (simple-ncname (codes "xbrli") refl) (some-bound ss xbrli_namespace (codes "xbrli") refl))
