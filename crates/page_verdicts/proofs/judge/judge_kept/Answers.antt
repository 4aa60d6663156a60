use Rattle.std.proofs.Common.{◌≡◌, ◌∙◌, ◌==◌, true, length, sym}
use Rattle.page_verdicts.proofs.JudgeLaws.{found_below, sound_roots, trees_made}
use Rattle.page_verdicts.proofs.judge.judge_kept.Goals as goal

pub made-requires : goal.made-requires
made-requires c =
    let read = c.requires.read in
    let empty : (length c.args.forest.found == 0) ≡ true = sym c.is_empty.ensures ∙ c.if-is_empty.true in
    rw (c.as_slice.ensures.value) (sound_roots c.sound_tree.ensures.root read.0 c.args.forest read.1 empty)

pub returns-then-is_empty-clause-made : goal.returns-then-is_empty-clause-made
returns-then-is_empty-clause-made c bs read none =
    trees_made c.args.base.now c.args.names.now bs c.args.forest c.as_slice.result.now c.made.result c.as_slice.ensures.value read none c.made.ensures.made

pub broken-requires : goal.broken-requires
broken-requires c =
    let read = c.requires.read in
    found_below read.0 c.args.forest (length c.args.names.now) read.1 read.2
