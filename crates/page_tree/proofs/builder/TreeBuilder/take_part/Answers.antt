use Rattle.std.proofs.Common.{◌≡◌, ◌++◌, [], sym, ap, ◌∙◌, subst, option_to_list, length, take}
use Rattle.page_text.specs.Model.{Stands}
use Rattle.page_constructs.specs.Constructs.{counted, spread}
use Rattle.page_text.specs.Characters.{begun}
use Rattle.page_tree.proofs.FeedLaws.{run-stands, run-begun, byte-stands, byte-begun, one-taken}
use Rattle.page_tree.proofs.SettleLaws.{no-bytes}
use Rattle.page_tree.proofs.builder.TreeBuilder.take_part.Goals as goal

pub returns-then-is_empty-clause-read : goal.returns-then-is_empty-clause-read
returns-then-is_empty-clause-read c = λ b h.
    let t = c.args.self.now in
    let text = c.take_plain-run.result.text.now in
    let piece = c.args.piece.now in
    let run = c.take_plain-run.ensures in
    let byte = c.step-mark.ensures in
    let s = h.reads c.requires.whole in
    let none : text ≡ [] = no-bytes text (sym c.is_empty.ensures ∙ c.if-is_empty.true) in
    let cut = one-taken piece 0 c.requires.some in
    record {
      reads = λ n. subst (λ x. Stands x (b ++ take 1 piece)) (sym c.in_ok-take_mark.ensures.feed)
          (byte-stands t.feed c.take_plain-run.new.self b text piece s run.state run.shown none _ c.step-mark.new.self (option_to_list c.step-mark.result) byte.state byte.given cut);
      led = c.in_ok-take_mark.ensures.led b (b ++ take 1 piece)
          (byte-begun t.feed c.take_plain-run.new.self b text piece s run.state run.shown none _ c.step-mark.new.self (option_to_list c.step-mark.result) byte.state byte.given cut) h.led;
    }

pub returns-clause-read : goal.returns-clause-read
returns-clause-read c = λ b h.
    let t = c.args.self.now in
    let text = c.take_plain-run.result.text.now in
    let piece = c.args.piece.now in
    let run = c.take_plain-run.ensures in
    let s = h.reads c.requires.whole in
    record {
      reads = λ n. subst (λ x. Stands x (b ++ take (length text) piece)) (sym c.in_ok-take_text.ensures.feed)
          (run-stands t.feed c.take_plain-run.new.self b text piece s run.state run.shown run.plain run.front);
      led = c.in_ok-take_text.ensures.led b (b ++ take (length text) piece)
          (run-begun t.feed c.take_plain-run.new.self b text piece s run.state run.shown run.plain run.front ∙ ap (λ n. spread (begun b) ++ counted n text) (sym run.offset)) h.led;
    }
