use Rattle.std.proofs.Common.{◌∙◌, sym, codes}
use Rattle.std.proofs.lemmas.Result.{IfOk-weaker}
use Rattle.clap.specs.Matches.{found_of}
use Rattle.clap.proofs.WalkLemmas.{first_value-rows, raw_values-rows}
use Rattle.command_words.proofs.Named.{no_base_of_pages, no_pages_of_base, pages_named}
use Rattle.command_words.proofs.command.pages_in.Goals as goal

pub returns-in_default : goal.returns-in_default
returns-in_default c =
    let f = found_of c.args.matches.now in
    no_base_of_pages _ _ (sym (first_value-rows f (codes "base")) ∙ sym c.in_default.ensures)

pub returns-in_default-get_strs : goal.returns-in_default-get_strs
returns-in_default-get_strs c =
    let f = found_of c.args.matches.now in
    no_pages_of_base _ _ _ (sym (first_value-rows f (codes "base")) ∙ sym c.in-Some.ensures)
    (sym (raw_values-rows f (codes "PAGE")) ∙ sym c.in_default-get_strs.ensures)

pub returns : goal.returns
returns c =
    let f = found_of c.args.matches.now in
    IfOk-weaker c.pages_from.result _ _ (λ r e. pages_named _ _ _ _ r
    (sym (first_value-rows f (codes "base")) ∙ sym c.in-Some.ensures)
    (sym (raw_values-rows f (codes "PAGE")) ∙ sym c.in-Some-get_strs.ensures) e) c.pages_from.ensures
