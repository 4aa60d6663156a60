use Rattle.std.proofs.Common.{◌++◌, ◌∷◌, [], option_to_list, encode_utf8, sym, ap, ◌∙◌, append-nil}
use Rattle.page_text.specs.Characters.{begun}
use Rattle.page_constructs.specs.Constructs.{counted, spread}
use Rattle.page_tree.proofs.LedLaws.{led-same}
use Rattle.page_tree.proofs.PlacingLaws.{spread-append}
use Rattle.page_tree.proofs.StandingLaws.{on-ok}
use Rattle.page_tree.proofs.builder.TreeBuilder.take_mark.Goals as goal

pub returns-in_default-clause-led : goal.returns-in_default-clause-led
returns-in_default-clause-led c = λ b d e h.
    let t = c.args.self.now in
    led-same t.setting t.building t.pending t.broken b d (ap spread (e ∙ ap (λ o. begun b ++ option_to_list o) c.in_default.is ∙ append-nil (begun b))) h

pub returns-clause-led : goal.returns-clause-led
returns-clause-led c = on-ok c.take_text.result (λ f b d e h.
    let m = c.in-Some.mark in
    f b d (ap spread (e ∙ ap (λ o. begun b ++ option_to_list o) c.in-Some.is) ∙ spread-append (begun b) (m ∷ []) ∙ ap (λ x. spread (begun b) ++ x) (append-nil (counted m.offset (encode_utf8 m.ch)) ∙ ap (counted m.offset) (sym c.encode_utf8.ensures.value))) h) c.take_text.ensures.led
