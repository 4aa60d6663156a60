use Rattle.std.proofs.Common.{◌≡◌, take}
use Rattle.footnotes.specs.ArcLinks.{roles_along, texts_of}
use Rattle.footnotes.proofs.footnote_links.roles_of.Given as goal

-- the roles of the groups before here are added
abbrev pub invariant-loop-group : goal.invariant-loop-group
invariant-loop-group l = texts_of l.roles.items ≡ roles_along (take l.group-index l.groups)
