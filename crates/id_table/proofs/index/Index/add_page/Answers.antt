use Rattle.std.proofs.Common.{◌≡◌, ◌∙◌, sym, false, Result, Ok, Err}
use Rattle.std.specs.Result.{OnOk, is_err}
use Rattle.ix_base.specs.LocatedElements.{page_marked}
use Rattle.ix_base.specs.Trees.{tree_of}
use Rattle.id_table.specs.Tables.{all_located}
use Rattle.id_table.proofs.HeldLaws.{holders-more}
use Rattle.id_table.proofs.NoTuples.{closed-more}
use Rattle.id_table.proofs.index.Index.add_page.Goals as goal

-- what holds of a call that gave a result
came : {T E P : Type 0} (r : Result T E) → OnOk r P → is_err r ≡ false → P
came (Ok x) h e = h
came (Err x) h e = cc

pub invariant_of-self : goal.invariant_of-self
invariant_of-self c =
    let t = c.self.inside in
    let fine = sym c.is_err.ensures.value ∙ c.if-is_err.false in record {
      whole = came c.add_page.result c.add_page.ensures.whole fine;
      holders = holders-more t.kept.choices (all_located t.kept.tables.spots.items) (page_marked c.args.root.now.place.page (tree_of c.args.root.now))
          (all_located c.add_page.new.self.spots.items) (came c.add_page.result c.add_page.ensures.spots fine) c.self.invariant.holders;
      on_pages = c.self.invariant.on_pages;
      closed = closed-more (all_located t.kept.tables.spots.items) (all_located c.add_page.new.self.spots.items) c.args.root.now.place.page
          (tree_of c.args.root.now) (came c.add_page.result c.add_page.ensures.spots fine) c.self.invariant.closed;
      empty = c.self.invariant.empty;
    }
