use Rattle.std.proofs.Common.{Some, sym, ap, ◌∙◌, string_bytes, arith}
use Rattle.page_tree.proofs.PlacingLaws.{first-at, first-none}
use Rattle.page_tree.proofs.ending.rest_offset.Goals as goal

pub returns-then-at-len : goal.returns-then-at-len
returns-then-at-len c = λ us h.
    let p = c.args.pending.now in
    first-at (string_bytes p.text) p.places us c.args.at c.requires.behind (let less = c.if-at-len.true in let l = c.len.ensures in omega arith) h ∙ ap Some (sym c.offset.ensures)

pub returns-else-at-len : goal.returns-else-at-len
returns-else-at-len c = λ us h.
    let p = c.args.pending.now in
    first-none (string_bytes p.text) p.places us c.args.at (let most = c.if-at-len.false in let l = c.len.ensures in omega arith) h
