use Rattle.std.proofs.Common.{ℕ, ◌≤◌, List, length, take, sym, ap, ◌∙◌, arith, refl, []}
use Rattle.std.proofs.lemmas.Iterator.{YieldsList-from_chars}
use Rattle.std.proofs.lemmas.List.{length_push}
use Rattle.std.proofs.lemmas.Str.{length-le-encodes, encodes-chars}
use Rattle.std.proofs.lemmas.Iterator.Consumers.{YieldsList-turn, YieldsList-end}
use Rattle.std.specs.Str.{chars, IsUtf8}
use Rattle.tr4_numbers.specs.Readers.{held}
use Rattle.tr4_numbers.proofs.Steps.{fits-next, fits-last, held-first, begun, turned, refused, accepted, unended}
use Rattle.tr4_numbers.proofs.apply.Goals as goal

-- a text has at least as many bytes as characters
fewer_chars : (bs : List ℕ) → IsUtf8 bs → length (chars bs) ≤ length bs
fewer_chars bs u = let e = encodes-chars bs u in omega (arith, length-le-encodes (chars bs), ap length e)

pub loop-c-init : goal.loop-c-init
loop-c-init c =
    let h = held-first c.args.format in
    (omega (arith, h, ap held c.first-phase.ensures), begun c.args.format (chars c.args.text.now) [] c.first-phase.result refl c.first-phase.ensures)

pub returns-in-None-next-clause-none : goal.returns-in-None-next-clause-none
returns-in-None-next-clause-none c =
    let t = YieldsList-turn (YieldsList-from_chars c.args.text.now c.utf8.text cc) c.loop-c.yielded _ c.loop-c.yielded_by _ _ c.in-Some.c c.in-Some.is c.next.ensures.steps in
    λ v w. refused c.args.format (chars c.args.text.now) (take c.loop-c.end c.loop-c.out) _ c.in-Some.c c.loop-c.phase c.sort_of-sort.result v t c.sort_of-sort.ensures.sort c.in-None-next.ensures c.loop-c.invariant.1 w

pub write_added-end-requires-clause-room : goal.write_added-end-requires-clause-room
write_added-end-requires-clause-room c =
    let t = YieldsList-turn (YieldsList-from_chars c.args.text.now c.utf8.text cc) c.loop-c.yielded _ c.loop-c.yielded_by _ _ c.in-Some.c c.in-Some.is c.next.ensures.steps in
    let n = sym c.next-in-loop-c.ensures ∙ c.in-Some-next.is in
    let f = fits-next c.loop-c.phase c.sort_of-sort.result c.in-Some.c c.in-Some-next.after n in
    omega (arith, f, t.0, c.loop-c.invariant.0, fewer_chars c.args.text.now c.utf8.text, c.loop-c.auto.out, c.requires)

pub loop-c-preserved : goal.loop-c-preserved
loop-c-preserved c =
    let t = YieldsList-turn (YieldsList-from_chars c.args.text.now c.utf8.text cc) c.loop-c.yielded _ c.loop-c.yielded_by _ _ c.in-Some.c c.in-Some.is c.next.ensures.steps in
    let n = sym c.next-in-loop-c.ensures ∙ c.in-Some-next.is in
    let f = fits-next c.loop-c.phase c.sort_of-sort.result c.in-Some.c c.in-Some-next.after n in
    let l = length_push c.loop-c.yielded c.in-Some.c in (
      omega (arith, f, c.loop-c.invariant.0, l, c.write_added-end.ensures.count),
      rw l (turned c.args.format (chars c.args.text.now) (take c.loop-c.end c.loop-c.out) _ _ c.in-Some.c c.loop-c.phase c.in-Some-next.after c.sort_of-sort.result t c.sort_of-sort.ensures.sort n c.loop-c.invariant.1 c.write_added-end.ensures.wrote),
    )

pub write_last-requires : goal.write_last-requires
write_last-requires c =
    let t = YieldsList-end (YieldsList-from_chars c.args.text.now c.utf8.text cc) c.loop-c.yielded _ c.loop-c.yielded_by _ _ c.in-None.is c.next.ensures.steps in
    omega (arith, t.1, c.loop-c.invariant.0, fits-last c.loop-c.phase, fewer_chars c.args.text.now c.utf8.text, c.loop-c.auto.out, c.requires)

pub returns-then-may_end-clause-value : goal.returns-then-may_end-clause-value
returns-then-may_end-clause-value c =
    let t = YieldsList-end (YieldsList-from_chars c.args.text.now c.utf8.text cc) c.loop-c.yielded _ c.loop-c.yielded_by _ _ c.in-None.is c.next.ensures.steps in
    accepted c.args.format (chars c.args.text.now) (take c.loop-c.end c.loop-c.out) _ (length c.loop-c.yielded) c.loop-c.phase (omega (arith, t.1)) c.if-may_end.ensures c.write_last.ensures.wrote c.loop-c.invariant.1

pub returns-then-may_end-clause-bound : goal.returns-then-may_end-clause-bound
returns-then-may_end-clause-bound c =
    let t = YieldsList-end (YieldsList-from_chars c.args.text.now c.utf8.text cc) c.loop-c.yielded _ c.loop-c.yielded_by _ _ c.in-None.is c.next.ensures.steps in
    omega (arith, t.1, c.loop-c.invariant.0, fits-last c.loop-c.phase, fewer_chars c.args.text.now c.utf8.text, c.write_last.ensures.count)

pub returns-else-may_end-clause-none : goal.returns-else-may_end-clause-none
returns-else-may_end-clause-none c =
    let t = YieldsList-end (YieldsList-from_chars c.args.text.now c.utf8.text cc) c.loop-c.yielded _ c.loop-c.yielded_by _ _ c.in-None.is c.next.ensures.steps in
    λ v w. unended c.args.format (chars c.args.text.now) (take c.loop-c.end c.loop-c.out) (length c.loop-c.yielded) c.loop-c.phase v (omega (arith, t.1)) c.if-may_end.ensures c.loop-c.invariant.1 w
