-- The first `href` of an xhtml `base` element, level by level.
use Rattle.std.specs.Prelude.{ℕ, List, Option, None}
use Rattle.std.specs.Option.{option_or}
use Rattle.ix_base.specs.Address.{base_href}
use Rattle.ix_base.specs.Trees.{Nodes, none, chars, elem, Tree}

abbrev pub href_in : Nodes → Option (List ℕ)
href_in none = None
href_in (chars text rest) = href_in rest
href_in (elem head children rest) = option_or (option_or (base_href head) (href_in children)) (href_in rest)

abbrev pub href_at : Tree → Option (List ℕ)
href_at t = option_or (base_href t.head) (href_in t.children)
