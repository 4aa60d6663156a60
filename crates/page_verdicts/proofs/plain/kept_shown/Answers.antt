use Rattle.std.proofs.Common.{◌≡◌, ◌∙◌, ◌==◌, ap, sym, length, true, false, refl, arith}
use Rattle.page_verdicts.proofs.JudgeLaws.{found_below}
use Rattle.page_verdicts.proofs.PlainLaws.{alone_of, break_says, first_is, root_says, sound_first}
use Rattle.page_verdicts.proofs.plain.kept_shown.Goals as goal

pub reported-requires : goal.reported-requires
reported-requires c =
    let read = c.requires.read in
    found_below read.0 c.args.forest (length c.args.names.now) read.1 (read.2 ∙ sym c.requires.one)

pub returns-then-not-is_empty-clause-shown : goal.returns-then-not-is_empty-clause-shown
returns-then-not-is_empty-clause-shown c =
    let some : (length c.args.forest.found == 0) ≡ false = sym c.is_empty.ensures ∙ c.if-not-is_empty.true in
    break_says c.args.names.now c.args.forest c.args.forest.found c.reported.result c.requires.kept refl some c.reported.ensures.reports

pub index-requires : goal.index-requires
index-requires c =
    let read = c.requires.read in
    let empty : (length c.args.forest.found == 0) ≡ true = sym c.is_empty.ensures ∙ c.if-not-is_empty.false in
    let one = alone_of read.0 c.args.forest read.1 read.2 empty in
    let count = ap length one.root_is in
    let len = c.args.forest.roots.ok.0 in
    omega arith

pub root_shown-requires-clause-sound : goal.root_shown-requires-clause-sound
root_shown-requires-clause-sound c =
    let read = c.requires.read in
    let empty : (length c.args.forest.found == 0) ≡ true = sym c.is_empty.ensures ∙ c.if-not-is_empty.false in
    sound_first c.sound_tree.ensures.root read.0 c.args.forest c.index.result.now (alone_of read.0 c.args.forest read.1 read.2 empty) c.index.ensures

pub returns-clause-shown : goal.returns-clause-shown
returns-clause-shown c =
    let read = c.requires.read in
    let empty : (length c.args.forest.found == 0) ≡ true = sym c.is_empty.ensures ∙ c.if-not-is_empty.false in
    let one = alone_of read.0 c.args.forest read.1 read.2 empty in
    root_says c.args.names.now c.args.forest c.index.result.now c.root_shown.result c.requires.kept empty
    (first_is read.0 c.args.forest c.index.result.now one c.index.ensures) c.root_shown.ensures.shown
