use Rattle.std.proofs.Common.{◌≡◌, map, take}
use Rattle.ix_base.specs.LocatedElements.{base_in}
use Rattle.footnotes.specs.ArcGroups.{arcs_along, groups_at}
use Rattle.footnotes.specs.ArcLinks.{link_by, note_in, texts_of}
use Rattle.footnotes.proofs.footnote_links.links_in.Given as goal

-- the links of the roles before here are added
abbrev pub invariant-loop-role : goal.invariant-loop-role
invariant-loop-role l = l.links ≡ map (λ role. link_by (note_in (base_in l.bases.pages) l.chains) role (arcs_along (groups_at l.table role)))
    (texts_of (take l.role-index l.roles))
