use lib.Utf8.{encode}
use Rattle.std.proofs.Common.{◌∙◌, arith}
use Rattle.std.proofs.lemmas.Str.{IsCharBoundary-after_ascii}
use Rattle.std.proofs.lemmas.Str.Pattern.{strip_prefix_char}
use Rattle.page_constructs.proofs.ValueLaws.{special-blank, special-low, special-open}
use Rattle.page_constructs.proofs.meaning.value.special_at.Goals as goal

pub split_at-requires : goal.split_at-requires
split_at-requires c =
    let low = special-low c.args.text.now c.requires in
    IsCharBoundary-after_ascii c.args.text.now 0 c.utf8.text low.0 low.1

pub returns-in-Some-clause-value : goal.returns-in-Some-clause-value
returns-in-Some-clause-value c =
    let stripped = strip_prefix_char 38 c.args.text.now _ c.strip_prefix.ensures.cases (omega arith) in
    c.referred_at.ensures.value ∙ special-open c.args.text.now c.in-Some.reference.now (rw c.in-Some.is at stripped)

pub returns-in-None-clause-value : goal.returns-in-None-clause-value
unfolding encode
returns-in-None-clause-value c =
    let stripped = strip_prefix_char 38 c.args.text.now _ c.strip_prefix.ensures.cases (omega arith) in
    special-blank c.args.text.now c.split_at.result.1.now c.requires (rw c.in-None.is at stripped) c.split_at.ensures.back
