use Rattle.std.proofs.Common.{◌≡◌, ◌≤◌, ◌+◌, ◌++◌, is_some, sym, ap, ◌∙◌, subst, arith, take, drop, length, length-drop}
use Rattle.std.proofs.Math.Seq.{take-length}
use Rattle.page_text.specs.Model.{Stands}
use Rattle.page_tree.specs.Model.{HasRead, HasLedTo}
use Rattle.page_tree.proofs.FeedLaws.{taken-slice, slice-rest, taken-all, on-both}
use Rattle.page_tree.proofs.LedLaws.{led-behind}
use Rattle.page_tree.proofs.WaitingLaws.{is-none}
use Rattle.page_tree.proofs.builder.TreeBuilder.take_piece.Goals as goal

pub returns-then-is_some-clause-built : goal.returns-then-is_some-clause-built
returns-then-is_some-clause-built c = λ b h.
    let piece = c.args.piece.now in
    let at = c.parts.at in
    let n = c.in_ok-at.field-0 in
    let t = c.take_part.new.self in
    let some = sym c.is_some.ensures ∙ c.if-is_some.true in
    let read = subst (HasRead t) (taken-slice b piece at n c.parts.invariant.within) (c.in_ok-at.ensures.read (b ++ take at piece) (c.parts.invariant.read b h.read)) in
    record {
      read = record {
        reads = λ z. absurd (let q = ap is_some z in cc);
        led = subst (HasLedTo t.setting t.building t.pending t.broken) (taken-all b piece (at + n)) (led-behind t.setting t.building t.pending t.broken (b ++ take (at + n) piece) (drop (at + n) piece) some read.led);
      };
      waits = λ z. absurd (let q = ap is_some z in cc);
    }

pub parts-preserved : goal.parts-preserved
parts-preserved c =
    let piece = c.args.piece.now in
    let at = c.parts.at in
    let n = c.in_ok-at.field-0 in
    let i = c.parts.invariant in
    let e = c.in_ok-at.ensures in
    record {
      within = (let m : n ≤ length (drop at piece) = subst (λ x. n ≤ length x) (slice-rest piece at) e.bounds.1 in let w = i.within in let l = length-drop at piece in omega arith);
      whole = is-none c.take_part.new.self.broken (sym c.is_some.ensures ∙ c.if-is_some.false);
      counts = (let x = e.counts in let y = i.counts in omega arith);
      same = record { setting = e.same.setting ∙ i.same.setting; fed = e.same.fed ∙ i.same.fed; spent = e.same.spent ∙ i.same.spent };
      read = λ b h. subst (HasRead c.take_part.new.self) (taken-slice b piece at n i.within) (e.read (b ++ take at piece) (i.read b h));
    }

pub returns-clause-built : goal.returns-clause-built
returns-clause-built c = on-both c.work_off.result (λ led waits b h.
    let piece = c.args.piece.now in
    let i = c.parts.invariant in
    let all : c.parts.at ≡ length piece = (let f = c.parts-test.false in let w = i.within in omega arith) in
    let r = subst (HasRead c.parts.self) (ap (λ n. b ++ take n piece) all ∙ ap (λ x. b ++ x) (take-length piece)) (i.read b h.read) in
    record {
      read = record { reads = λ n. subst (λ x. Stands x (b ++ piece)) (sym c.work_off.ensures.feed) (r.reads i.whole); led = led (b ++ piece) r.led };
      waits = waits;
    }) c.work_off.ensures.led c.work_off.ensures.waits
