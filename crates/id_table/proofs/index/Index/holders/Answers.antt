use Rattle.std.proofs.Common.{◌≡◌, ◌∙◌, All, ap, map, sym, subst}
use Rattle.ix_base.specs.Elements.{placed}
use Rattle.ix_base.specs.Ids.{holders}
use Rattle.ix_base.specs.Kinds.{kind_of}
use Rattle.ix_base.specs.LocatedElements.{located}
use Rattle.ix_base.specs.Spots.{IsOnOnePage}
use Rattle.id_table.specs.Model.{Held}
use Rattle.id_table.specs.declared.entries.Entry.{Entry}
use Rattle.id_table.proofs.HeldLaws.{held-holders, held-kinds, held-pages}
use Rattle.id_table.proofs.index.Index.holders.Goals as goal

pub returns-clause-elements : goal.returns-clause-elements
returns-clause-elements c =
    ap (map (λ (e : Entry). located e.spot.now)) c.entries_in.ensures
    ∙ held-holders c.self.inside.kept.tables.ids c.self.inside.kept.tables.spots.items c.self.invariant.whole.by_id c.args.id.now
    ∙ ap (λ (h : Held). holders h.spots c.args.id.now) c.self.view_is

pub returns-clause-kinds : goal.returns-clause-kinds
returns-clause-kinds c =
    subst (All (λ (e : Entry). e.kind ≡ kind_of (placed e.spot.now))) (sym c.entries_in.ensures)
    (held-kinds c.self.inside.kept.tables.ids c.self.inside.kept.tables.spots.items c.self.invariant.whole.by_id c.args.id.now)

pub returns-clause-pages : goal.returns-clause-pages
returns-clause-pages c =
    subst (All (λ (e : Entry). IsOnOnePage e.spot.now)) (sym c.entries_in.ensures)
    (held-pages c.self.inside.kept.tables.ids c.self.inside.kept.tables.spots.items c.self.invariant.whole.by_id c.args.id.now c.self.invariant.whole.on_pages)
