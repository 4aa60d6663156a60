use Rattle.std.proofs.Common.{◌≡◌, length, rules}
use Rattle.ix_base.proofs.SlotLemmas.{each_grown, last_grown_within, grown_as, filled-grown}
use Rattle.ix_base.proofs.memory.shelf.Shelf.grow.Goals as goal

pub invariant_of-self : goal.invariant_of-self
invariant_of-self c =
    let end : c.len-self.result ≡ length c.append.new.held.items = search rules in
    record {
      none = c.args.self.now.none;
      each_within = each_grown c.args.self.now.held.items c.append.new.held.items c.args.piece.now c.args.self.now.earlier.items c.append.ensures.items c.args.self.now.each_within;
      last_within = last_grown_within c.args.self.now.held.items c.append.new.held.items c.args.piece.now c.args.self.now.last c.len-self.result c.append.ensures.items end c.args.self.now.last_within;
      last_end = end;
      filled = filled-grown c.args.self.now.held.items c.append.new.held.items c.args.piece.now c.args.self.now.earlier.items c.args.self.now.any c.args.self.now.last c.len-self.result c.append.ensures.items end
          c.requires.any c.args.self.now.each_within c.args.self.now.last_within c.args.self.now.last_end c.args.self.now.filled;
    }

pub returns-clause-targets : goal.returns-clause-targets
returns-clause-targets c =
    let end : c.len-self.result ≡ length c.append.new.held.items = search rules in
    grown_as c.args.self.now.held.items c.append.new.held.items c.args.piece.now c.args.self.now.earlier.items c.args.self.now.any c.args.self.now.last c.len-self.result c.append.ensures.items end
    c.requires.any c.args.self.now.each_within c.args.self.now.last_within c.args.self.now.last_end
