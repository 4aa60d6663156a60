use Rattle.std.proofs.Common.{is_some, sym, ap, ◌+◌, ◌∙◌, length, length-append}
use Rattle.page_tree.proofs.LedLaws.{led-behind}
use Rattle.page_tree.proofs.StandingLaws.{on-ok}
use Rattle.page_tree.proofs.builder.TreeBuilder.feed.Goals as goal

pub returns-then-is_some-clause-stands : goal.returns-then-is_some-clause-stands
returns-then-is_some-clause-stands c = λ b h.
    let t = c.args.self.now in
    let e = c.if-is_some.ensures in
    let some = sym c.is_some.ensures ∙ c.if-is_some.true in
    record {
      counted = ap (λ n. n + length c.args.piece.now) h.counted ∙ sym (length-append b c.args.piece.now);
      built = record {
        read = record {
          reads = λ n. absurd (let q = ap is_some n in cc);
          led = led-behind t.setting t.building t.pending t.broken b c.args.piece.now some h.built.read.led;
        };
        waits = λ n. absurd (let q = ap is_some n in cc);
      };
    }

pub returns-clause-stands : goal.returns-clause-stands
returns-clause-stands c = λ b h.
    let r = h.built.read in
    on-ok c.take_piece-taken.result (λ f. record {
      counted = c.take_piece-taken.ensures.same.fed ∙ ap (λ n. n + length c.args.piece.now) h.counted ∙ sym (length-append b c.args.piece.now);
      built = let x = f b (record { read = record { reads = r.reads; led = r.led }; waits = h.built.waits }) in record {
        read = record { reads = x.read.reads; led = x.read.led };
        waits = x.waits;
      };
    }) c.take_piece-taken.ensures.built
