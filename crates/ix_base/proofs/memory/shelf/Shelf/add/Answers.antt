use Rattle.std.proofs.Common.{◌≡◌, ◌∙◌, ap, length, rules, append_assoc, ◌++◌}
use Rattle.ix_base.proofs.SlotLemmas.{added_each, added_within, added_as, filled-added}
use Rattle.ix_base.proofs.memory.shelf.Shelf.add.Goals as goal

pub invariant_of-self : goal.invariant_of-self
invariant_of-self c =
    let held = c.args.self.now.held.items in
    let one : c.append.new.held.items ≡ held ++ c.args.dir.now = search rules in
    let two : c.append-2.new.held.items ≡ c.append.new.held.items ++ c.args.name.now = search rules in
    let start : c.len-start.result ≡ length held = search rules in
    let middle : c.len-end_of_dir.result ≡ length c.append.new.held.items = search rules in
    let end : c.len-end.result ≡ length c.append-2.new.held.items = search rules in
    let both : c.append-2.new.held.items ≡ held ++ (c.args.dir.now ++ c.args.name.now) = two ∙ ap (λ x. x ++ c.args.name.now) one ∙ append_assoc held c.args.dir.now c.args.name.now in
    record {
      none = λ e. cc;
      each_within = added_each held c.append-2.new.held.items (c.args.dir.now ++ c.args.name.now) c.args.self.now.earlier.items c.set_aside.new.earlier.items c.args.self.now.any c.args.self.now.last
          both c.set_aside.ensures.items c.args.self.now.each_within c.args.self.now.last_within;
      last_within = added_within held c.append.new.held.items c.append-2.new.held.items c.args.dir.now c.args.name.now c.len-start.result c.len-end_of_dir.result c.len-end.result one two start middle end;
      last_end = end;
      filled = filled-added held c.append.new.held.items c.append-2.new.held.items c.args.dir.now c.args.name.now c.args.self.now.earlier.items c.set_aside.new.earlier.items c.args.self.now.any c.args.self.now.last
          c.len-start.result c.len-end_of_dir.result c.len-end.result one two c.set_aside.ensures.items c.args.self.now.none c.args.self.now.each_within c.args.self.now.last_within start middle end c.args.self.now.filled;
    }

pub returns-clause-targets : goal.returns-clause-targets
returns-clause-targets c =
    let held = c.args.self.now.held.items in
    let one : c.append.new.held.items ≡ held ++ c.args.dir.now = search rules in
    let two : c.append-2.new.held.items ≡ c.append.new.held.items ++ c.args.name.now = search rules in
    let start : c.len-start.result ≡ length held = search rules in
    let middle : c.len-end_of_dir.result ≡ length c.append.new.held.items = search rules in
    let end : c.len-end.result ≡ length c.append-2.new.held.items = search rules in
    added_as held c.append.new.held.items c.append-2.new.held.items c.args.dir.now c.args.name.now c.args.self.now.earlier.items c.set_aside.new.earlier.items c.args.self.now.any c.args.self.now.last
    c.len-start.result c.len-end_of_dir.result c.len-end.result one two c.set_aside.ensures.items c.args.self.now.none c.args.self.now.each_within c.args.self.now.last_within start middle end
