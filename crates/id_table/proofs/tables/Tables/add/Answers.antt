use Rattle.std.proofs.Common.{◌∙◌, subst, sym, ⊎_elim}
use Rattle.std.proofs.lemmas.Bool.{or_cases, or_parts}
use Rattle.std.proofs.lemmas.List.Elements.{All-push}
use Rattle.std.specs.Borrow.{Bor}
use Rattle.ix_base.specs.declared.tree.Spot.{Spot}
use Rattle.ix_base.specs.Ids.{id_of, tuple_id_of}
use Rattle.ix_base.specs.LocatedElements.{located}
use Rattle.ix_base.specs.Spots.{IsOnOnePage}
use Rattle.id_table.specs.Tables.{AreOnOwnPages, entries_at, spots_at}
use Rattle.id_table.proofs.Entering.{alone-before, each-alone, each-entered, entries-alone, entries-entered, shared-met}
use Rattle.id_table.proofs.Sorting.{sorted-more}
use Rattle.id_table.proofs.tables.Tables.add.Goals as goal

pub returns-clause-whole : goal.returns-clause-whole
returns-clause-whole c =
    let spots = c.args.self.now.spots.items in
    let now = c.push.new.self.items in
    let more = c.in_ok-push.ensures.items in record {
      by_id = entries-entered spots now c.args.spot more c.args.self.now.ids c.enter_entry.new.entries c.requires.whole.by_id c.in_ok-shares_id.ensures.entered;
      by_tuple_id = each-entered spots now c.args.spot more tuple_id_of c.args.self.now.tuples c.enter_tuple.new.tuples c.requires.whole.by_tuple_id
          c.in_ok-shares_tuple_id.ensures.entered;
      by_sort = sorted-more c.args.self.now.lists c.add.new.self spots now c.args.spot more c.requires.whole.by_sort c.in_ok-add.ensures.facts
          c.in_ok-add.ensures.checked c.in_ok-add.ensures.starts c.in_ok-add.ensures.continuations c.in_ok-add.ensures.others
          c.in_ok-add.ensures.contexts c.in_ok-add.ensures.units c.in_ok-add.ensures.tuples c.in_ok-add.ensures.targets;
      apart = λ none.
          let parts = or_parts c.args.self.now.repeats _ none in
          let shared = or_parts c.in_ok-shares_id.shares_id c.in_ok-shares_tuple_id.shares_tuple_id parts.1 in
          let before = c.requires.whole.apart parts.0 in record {
            by_id = entries-alone c.args.self.now.ids c.enter_entry.new.entries (id_of (located c.args.spot.now)) c.args.spot
                c.in_ok-shares_id.ensures.entered (sym c.in_ok-shares_id.ensures.shared ∙ shared.0) before.by_id;
            by_tuple_id = each-alone c.args.self.now.tuples c.enter_tuple.new.tuples (tuple_id_of (located c.args.spot.now)) c.args.spot
                c.in_ok-shares_tuple_id.ensures.entered (sym c.in_ok-shares_tuple_id.ensures.shared ∙ shared.1) before.by_tuple_id;
          };
      met = λ some apart.
          let ids = alone-before (entries_at c.args.self.now.ids) (entries_at c.enter_entry.new.entries) _ c.in_ok-shares_id.ensures.entered apart.by_id in
          let tuples = alone-before (spots_at c.args.self.now.tuples) (spots_at c.enter_tuple.new.tuples) _ c.in_ok-shares_tuple_id.ensures.entered
          apart.by_tuple_id in
          ⊎_elim (λ before. c.requires.whole.met before (record { by_id = ids; by_tuple_id = tuples }))
          (λ here. ⊎_elim (λ h. shared-met (entries_at c.enter_entry.new.entries) (id_of (located c.args.spot.now)) (sym c.in_ok-shares_id.ensures.shared ∙ h) apart.by_id)
          (λ h. shared-met (spots_at c.enter_tuple.new.tuples) (tuple_id_of (located c.args.spot.now)) (sym c.in_ok-shares_tuple_id.ensures.shared ∙ h)
          apart.by_tuple_id)
          (or_cases c.in_ok-shares_id.shares_id c.in_ok-shares_tuple_id.shares_tuple_id here))
          (or_cases c.args.self.now.repeats _ some);
      on_pages = subst AreOnOwnPages (sym more) (All-push (λ (s : Bor Spot). IsOnOnePage s.now) spots c.args.spot c.requires.whole.on_pages c.requires.page);
    }
