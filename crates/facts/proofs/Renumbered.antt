-- Where the pages have other numbers, each element says what it said.
use Rattle.std.proofs.Common.{◌≡◌, ◌∙◌, ap, sym, refl, subst, ℕ, Bool, true, false, List, [], ◌∷◌, ◌++◌, map, Some, Result}
use Rattle.ix_base.specs.declared.content.Item.{Item}
use Rattle.ix_base.specs.declared.rule.Rule.{Rule}
use Rattle.ix_base.specs.Asks.{asks}
use Rattle.ix_base.specs.Chain.{chain}
use Rattle.ix_base.specs.LocatedElements.{Located}
use Rattle.ix_base.specs.Markup.{body, body_along, plain, plain_along}
use Rattle.ix_base.specs.Namespaces.{xhtml_namespace}
use Rattle.ix_base.specs.Readers.{escapes}
use Rattle.ix_base.specs.WrittenMarkup.{Markup, written}
use Rattle.id_table.proofs.Renumbered.{chain-moved}
use Rattle.id_table.specs.Renumbering.{moved, KeepsApart}
use Rattle.facts.specs.ChainTexts.{raw_along, text_along}
use Rattle.facts.specs.ItemValue.{ItemText, IsItem, IsItemOf}
use Rattle.facts.proofs.OneItem.{text-along}

module _ (bases new_bases : Located → List ℕ) (numbers : ℕ → ℕ) (same : (e : Located) → new_bases (moved numbers e) ≡ bases e) where
  plain-moved : (es : List Located) → plain_along (map (moved numbers) es) ≡ plain_along es
  plain-moved [] = refl
  plain-moved (e ∷ es) = ap (λ (rest : List ℕ). plain e.placed.tree.children ++ rest) (plain-moved es)

  body-moved : (around : List ℕ) (es : List Located)
      → body_along (λ x. Some (new_bases x)) around (map (moved numbers) es) ≡ body_along (λ x. Some (bases x)) around es
  body-moved around [] = refl
  body-moved around (e ∷ es) =
      let rest = body_along (λ x. Some (new_bases x)) around (map (moved numbers) es) in
      ap (λ (base : List ℕ). body (Some base) around e.placed.tree.children rest) (same e)
      ∙ ap (λ (rest : Markup). body (Some (bases e)) around e.placed.tree.children rest) (body-moved around es)

  raw-moved : (escape : Bool) (es : List Located) → raw_along new_bases escape (map (moved numbers) es) ≡ raw_along bases escape es
  raw-moved true es = ap (λ (m : Markup). written m []) (body-moved xhtml_namespace es)
  raw-moved false es = plain-moved es

  text-moved : (escape : Bool) (es : List Located) → text_along new_bases escape (map (moved numbers) es) ≡ text_along bases escape es
  text-moved escape es =
      ap (λ (p : List ℕ). record { plain = p; raw = raw_along new_bases escape (map (moved numbers) es) }) (plain-moved es)
      ∙ ap (λ (r : List ℕ). record { plain = plain_along es; raw = r }) (raw-moved escape es)

pub item-moved : (bases new_bases : Located → List ℕ) (numbers : ℕ → ℕ) → KeepsApart numbers
    → ((e : Located) → new_bases (moved numbers e) ≡ bases e) → (es : List Located) (e : Located) (r : Result Item Rule)
    → IsItem bases (asks es) e r → IsItem new_bases (asks (map (moved numbers) es)) (moved numbers e) r
item-moved bases new_bases numbers apart same es e r i =
    let escape = escapes e.placed.tree in
    let old = sym (text-along bases (asks es) e) in
    let moved_text = sym (text-moved bases new_bases numbers same escape (chain (asks es) e)) in
    let moved_chain = ap (text_along new_bases escape) (sym (chain-moved numbers apart es e)) in
    let new = text-along new_bases (asks (map (moved numbers) es)) (moved numbers e) in
    subst (λ (text : ItemText). IsItemOf text e.placed r) (old ∙ moved_text ∙ moved_chain ∙ new) i
