-- The language of the nearest element that has one.
use Rattle.std.proofs.Common.{◌≡◌, List, ◌∷◌, ℕ, ap, Some, None}
use Rattle.std.specs.Prelude.{codes}
use Rattle.std.specs.Option.{option_or}
use Rattle.ix_base.specs.Attributes.{value_of}
use Rattle.ix_base.specs.Namespaces.{xml_namespace}
use Rattle.ix_base.specs.Readers.{lang_along}
use Rattle.ix_base.specs.Trees.{Tree}

pub lang_none : (t : Tree) (above : List Tree) → value_of t.head.attrs xml_namespace (codes "lang") ≡ None → lang_along (t ∷ above) ≡ lang_along above
lang_none t above e = ap (λ o. option_or o (lang_along above)) e

pub lang_some : (t : Tree) (above : List Tree) (lang : List ℕ) → value_of t.head.attrs xml_namespace (codes "lang") ≡ Some lang → lang_along (t ∷ above) ≡ Some lang
lang_some t above lang e = ap (λ o. option_or o (lang_along above)) e
