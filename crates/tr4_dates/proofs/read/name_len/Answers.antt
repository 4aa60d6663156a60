use Rattle.std.proofs.Common.{sym, ◌∙◌, arith}
use Rattle.tr4_dates.proofs.CodeLemmas.{name_closed, name_more, name_done}
use Rattle.tr4_dates.proofs.read.name_len.Goals as goal

pub returns-then-ends_name : goal.returns-then-ends_name
returns-then-ends_name c =
    let test = rw c.split_at.ensures.back at c.ends_name.ensures in
    let here = name_closed c.args.language c.args.text.now c.loop-len.len c.loop-len-test.true (sym test ∙ c.if-ends_name.true) in
    omega arith

pub loop-len-preserved : goal.loop-len-preserved
loop-len-preserved c =
    let test = rw c.split_at.ensures.back at c.ends_name.ensures in
    let here = name_more c.args.language c.args.text.now c.loop-len.len c.loop-len-test.true (sym test ∙ c.if-ends_name.false) in
    (omega arith, omega arith)

pub returns : goal.returns
returns c =
    let here = name_done c.args.language c.args.text.now c.loop-len.len c.loop-len-test.false in
    omega arith
