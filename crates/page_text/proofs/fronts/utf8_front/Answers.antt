use Rattle.std.proofs.Common.{sym, ap, ◌∙◌, take}
use Rattle.std.proofs.Math.Seq.{take-length}
use Rattle.std.proofs.lemmas.Str.{utf8_valid_len-IsUtf8}
use Rattle.page_text.proofs.fronts.utf8_front.Goals as goal

pub returns-in-Ok : goal.returns-in-Ok
returns-in-Ok c =
    let bytes = c.args.bytes.now in
    let whole = c.in-Ok.ensures.cases in
    whole.0 ∙ sym (take-length bytes) ∙ ap (λ n. take n bytes) (sym (utf8_valid_len-IsUtf8 bytes whole.1))
