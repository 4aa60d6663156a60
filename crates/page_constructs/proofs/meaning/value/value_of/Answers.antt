use Rattle.std.proofs.Common.{[], Some, sym, ap, ◌∙◌}
use Rattle.page_constructs.specs.Values.{value_of}
use Rattle.page_constructs.proofs.Parting.{is-empty}
use Rattle.page_constructs.proofs.ValueLaws.{after-end, with-none}
use Rattle.page_constructs.proofs.meaning.value.value_of.Goals as goal

pub returns-then-is_empty : goal.returns-then-is_empty
returns-then-is_empty c =
    let raw = c.args.raw.now in
    ap Some (c.in_ok-try_alloc_str.ensures ∙ c.split.ensures.before) ∙ after-end [] raw (sym c.split.ensures.from ∙ is-empty c.split.result.1.now (sym c.if-is_empty.ensures)) ∙ with-none (value_of raw)
