use Rattle.fact_trace.proofs.MoveLaws.{closes, is-tag, passes, says}
use Rattle.std.proofs.Common.{◌∙◌}
use Rattle.fact_trace.proofs.moves.move_of.Goals as goal

pub tag_move-requires-clause-low : goal.tag_move-requires-clause-low
tag_move-requires-clause-low c = (is-tag c.args.bytes.now c.args.construct c.requires c.in-StartTag.is).low

pub tag_move-requires-clause-high : goal.tag_move-requires-clause-high
tag_move-requires-clause-high c = (is-tag c.args.bytes.now c.args.construct c.requires c.in-StartTag.is).high

pub returns-in-StartTag : goal.returns-in-StartTag
returns-in-StartTag c = c.tag_move.ensures ∙ (is-tag c.args.bytes.now c.args.construct c.requires c.in-StartTag.is).does

pub returns-in-EndTag : goal.returns-in-EndTag
returns-in-EndTag c = closes c.args.bytes.now c.args.construct c.requires c.in-EndTag.is

pub returns-in-Text : goal.returns-in-Text
returns-in-Text c = says c.args.bytes.now c.args.construct c.requires c.in-Text.is

pub returns-in_default : goal.returns-in_default
returns-in_default c =
    passes c.args.bytes.now c.args.construct c.requires c.in_default.not-StartTag c.in_default.not-EndTag c.in_default.not-Text c.in_default.not-Reference c.in_default.not-Cdata
