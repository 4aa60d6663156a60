use Rattle.std.proofs.Common.{◌≡◌, ◌∙◌, cond, ap, sym, subst, true, Option, Some, None, option_map, bytes_eq}
use Rattle.std.proofs.lemmas.Slice.Eq.{bytes_eq-Decides}
use Rattle.std.specs.Borrow.{Bor}
use Rattle.std.specs.Option.{IfSome}
use Rattle.ix_base.specs.declared.tree.Spot.{Spot}
use Rattle.ix_base.specs.Ids.{holds_id}
use Rattle.ix_base.specs.LocatedElements.{located}
use Rattle.id_table.specs.Model.{Held, IsHolder, chosen}
use Rattle.id_table.specs.Tables.{all_located}
use Rattle.id_table.proofs.HeldLaws.{chosen-set, holders-set, pages-set}
use Rattle.id_table.proofs.index.Index.choose.Goals as goal

pub set_choice-requires : goal.set_choice-requires
set_choice-requires c = by c.args.choice c.requires.holder
  where
    by : (o : Option (Bor Spot)) → IfSome o (λ s. IsHolder c.args.self.now.spots c.args.id.now (located s.now)) → IfSome o (λ s. holds_id c.args.id.now (located s.now) ≡ true)
    by None h = tt
    by (Some s) h = h.holds

pub invariant_of-self-in-Ok : goal.invariant_of-self-in-Ok
invariant_of-self-in-Ok c =
    let t = c.self.inside in
    let id = c.args.id.now in record {
      whole = c.self.invariant.whole;
      holders = holders-set t.kept.choices c.set_choice.new.choices (all_located t.kept.tables.spots.items) id c.args.choice c.self.invariant.holders
          (subst (λ (h : Held). IfSome c.args.choice (λ s. IsHolder h.spots id (located s.now))) (sym c.self.view_is) c.requires.holder)
          c.in-Ok.ensures (λ q p e. sym ((bytes_eq-Decides q p).0 e));
      on_pages = pages-set t.kept.choices c.set_choice.new.choices id c.args.choice c.self.invariant.on_pages c.requires.page c.in-Ok.ensures;
      closed = c.self.invariant.closed;
      empty = c.self.invariant.empty;
    }

pub returns-in-Ok-clause-choices : goal.returns-in-Ok-clause-choices
returns-in-Ok-clause-choices c = λ q.
    let id = c.args.id.now in
    chosen-set c.self.inside.kept.choices c.set_choice.new.choices id c.args.choice c.in-Ok.ensures q
    ∙ ap (λ (h : Held). cond (bytes_eq q id) (option_map (λ (s : Bor Spot). located s.now) c.args.choice) (chosen h q)) c.self.view_is
