-- The root's start tag.
use Rattle.std.proofs.Common.{◌≡◌, ◌∙◌, ap, ℕ, ◌+◌, List, [], ◌∷◌, ◌++◌, map, append_assoc, add-one}
use Rattle.ix_base.specs.Namespaces.{iso4217_namespace, link_namespace, xbrldi_namespace, xbrli_namespace, xlink_namespace, xsi_namespace}
use Rattle.ix_base.specs.WrittenMarkup.{Attribute, attrs_text}
use Rattle.instance_lines.specs.declared.prefix.TheConstants.{ROOT}
use Rattle.instance_lines.specs.Canonical.{root_line}
use Rattle.instance_lines.specs.Prefixes.{declaration, fixed, numbered, numeral}

pub attrs_text-append : (list : List Attribute) (xs ys : List ℕ) → attrs_text list (xs ++ ys) ≡ attrs_text list xs ++ ys
attrs_text-append [] xs ys = ap (λ l. l) (λ i. xs ++ ys)
attrs_text-append (a ∷ list) xs ys = rw (attrs_text-append list xs ys) (simp append_assoc)

pub root_line-is : (ss : List (List ℕ)) → ROOT.now ++ attrs_text (map declaration (numbered 1 ss)) (62 ∷ 10 ∷ []) ≡ root_line ss
unfolding root_line fixed iso4217_namespace link_namespace xbrldi_namespace xbrli_namespace xlink_namespace xsi_namespace
root_line-is ss = ap (λ x. ROOT.now ++ x) (attrs_text-append (map declaration (numbered 1 ss)) (62 ∷ []) (10 ∷ []))

-- one more declaration
pub root_step : (spaces : List (List ℕ)) (k : ℕ) (s old new all more : List ℕ)
    → ((m : List ℕ) → new ++ m ≡ old ++ attrs_text (declaration (record { prefix = 110 ∷ numeral k; ns = s }) ∷ []) m)
    → old ++ attrs_text (map declaration (numbered k (s ∷ spaces))) more ≡ all
    → new ++ attrs_text (map declaration (numbered (k + 1) spaces)) more ≡ all
root_step spaces k s old new all more h inv = rw add-one (h _ ∙ inv)
