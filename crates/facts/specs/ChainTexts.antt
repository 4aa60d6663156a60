-- The text of a chain that is given, plain and as it stands.
use Rattle.std.specs.Prelude.{ℕ, Bool, true, false, List, Some}
use Rattle.ix_base.specs.LocatedElements.{Located}
use Rattle.ix_base.specs.Markup.{markup_along, plain_along}
use Rattle.ix_base.specs.Namespaces.{xhtml_namespace}
use Rattle.facts.specs.ItemValue.{ItemText}

-- as markup, links resolved, or else plain
abbrev pub raw_along : (Located → List ℕ) → Bool → List Located → List ℕ
raw_along bases true es = markup_along (λ x. Some (bases x)) xhtml_namespace es
raw_along bases false es = plain_along es

abbrev pub text_along : (Located → List ℕ) → Bool → List Located → ItemText
text_along bases escape es = record { plain = plain_along es; raw = raw_along bases escape es }
