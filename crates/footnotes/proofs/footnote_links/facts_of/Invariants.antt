use Rattle.std.proofs.Common.{◌≡◌, take}
use Rattle.footnotes.specs.ArcLinks.{texts_of}
use Rattle.footnotes.proofs.LinkLaws.{facts_along}
use Rattle.footnotes.proofs.footnote_links.facts_of.Given as goal

-- the ids of facts at the arcs of the groups before here are added
abbrev pub invariant-loop-group : goal.invariant-loop-group
invariant-loop-group l = texts_of l.ids.items ≡ facts_along (take l.group-index l.groups)
