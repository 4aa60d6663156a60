-- Where links stand.
use Rattle.std.specs.Prelude.{Bool, false, not, ◌&&◌, ◌||◌}
use Rattle.std.specs.List.{list_any}
use Rattle.ix_base.specs.Markup.{is_link_of, manner}
use Rattle.ix_base.specs.Trees.{Head, Nodes, none, chars, elem, Tree}
use Rattle.escape_text.specs.Manners.{is_left_out}

-- an attribute of the element is a link
abbrev pub has_link : Head → Bool
has_link h = list_any (λ a. is_link_of h.name a.name) h.attrs

-- a link stands in the nodes, outside elements that are left out
abbrev pub has_links : Nodes → Bool
has_links none = false
has_links (chars text rest) = has_links rest
has_links (elem head children rest) =
    (not (is_left_out (manner head.name)) && (has_link head || has_links children)) || has_links rest

-- a link stands at the element, or in what it holds
abbrev pub is_linked : Tree → Bool
is_linked t = has_link t.head || has_links t.children
