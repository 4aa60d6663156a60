use Rattle.std.proofs.Common.{ap, ◌∙◌}
use Rattle.std.specs.List.{list_all}
use Rattle.std.specs.Str.Lossy.{utf8_valid_len}
use Rattle.page_text.specs.Plain.{is_clear}
use Rattle.page_text.proofs.PlainRuns.{text-plain, all-front}
use Rattle.page_text.proofs.fronts.plain_front.Goals as goal

pub returns-clause-plain : goal.returns-clause-plain
returns-clause-plain c =
    text-plain c.utf8_front.result.now c.utf8_front.utf8
    (ap (list_all is_clear) c.utf8_front.ensures ∙ all-front (utf8_valid_len _) _ c.clear_size.ensures.clear)
