use Rattle.std.proofs.Common.{◌≡◌, drop, map}
use Rattle.std.specs.List.{list_any}
use Rattle.ix_base.specs.Markup.{is_link_of}
use Rattle.ix_base.specs.Trees.{named, valued, Valued}
use Rattle.escape_text.proofs.links.has_link.Given as goal

-- none of the attributes before here is a link
abbrev pub invariant-loop-attr : goal.invariant-loop-attr
invariant-loop-attr l =
    list_any (λ (a : Valued). is_link_of (named l.element.name.now) a.name) (map valued (drop l.attr-index l.attr-items))
    ≡ list_any (λ (a : Valued). is_link_of (named l.element.name.now) a.name) (map valued l.attr-items)
