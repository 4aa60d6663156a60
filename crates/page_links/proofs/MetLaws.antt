-- What is known of an id that one more link names.
use Rattle.std.proofs.Common.{◌≡◌, ◌∙◌, ℕ, Bool, true, false, List, Some, ap, refl, sym}
use Rattle.std.specs.Prelude.{bytes_eq, if◌then◌else◌}
use Rattle.std.specs.Option.{option_map_or}
use Rattle.std.proofs.lemmas.Slice.Eq.{bytes_eq-Decides}
use Rattle.text_map.specs.Texts.{IsSet, Texts}
use Rattle.page_links.specs.declared.met_ids.Named.{Named}
use Rattle.page_links.specs.LinkTables.{found_in, named_in, named_of, named_once_more, nothing}

pub once-more : (old new : Texts Named) (id : List ℕ) (before after : Named) → named_of before ≡ named_in old id → named_of after ≡ named_once_more (named_of before)
    → IsSet old new id (Some after) → (q : List ℕ) → named_in new q ≡ (if bytes_eq q id then named_once_more (named_in old q) else named_in old q)
once-more old new id before after was more set q = ap (λ o. option_map_or named_of o nothing) (set q) ∙ by (bytes_eq q id) refl
  where
    by : (b : Bool) → bytes_eq q id ≡ b
        → option_map_or named_of (if b then Some after else found_in old q) nothing ≡ (if b then named_once_more (named_in old q) else named_in old q)
    by true u = more ∙ ap named_once_more (was ∙ ap (named_in old) (sym ((bytes_eq-Decides q id).0 u)))
    by false u = refl
