use Rattle.std.proofs.Common.{◌≡◌, ◌||◌, not, true, length, sym, ◌∙◌, refl, subst, arith}
use Rattle.std.proofs.lemmas.Iterator.{YieldsList-from_chars}
use Rattle.std.proofs.lemmas.Iterator.Consumers.{YieldsList-turn, YieldsList-end}
use Rattle.std.proofs.lemmas.List.{length_push}
use Rattle.std.specs.Str.{chars}
use Rattle.tr4_numbers.specs.Transformation.{is_dash}
use Rattle.tr4_numbers.proofs.DashLaws.{ReadsOn, over-dropped, over-dash, second, at-end}
use Rattle.tr4_numbers.proofs.is_one_dash.Goals as goal
use Rattle.tr4_numbers.proofs.is_one_dash.Goals.{then-was_read-via-then-was_read, then-was_read-via-else-was_read+then-not-is_dash}

pub loop-c-preserved-then-is_dropped : goal.loop-c-preserved-then-is_dropped
loop-c-preserved-then-is_dropped c =
    let t = YieldsList-turn (YieldsList-from_chars c.args.text.now c.utf8.text cc) c.loop-c.yielded _ c.loop-c.yielded_by _ _ c.in-Some.c c.in-Some.is c.next.ensures.steps in
    rw (length_push c.loop-c.yielded c.in-Some.c)
    (over-dropped (chars c.args.text.now) (length c.loop-c.yielded) c.in-Some.c t c.loop-c.was_read (sym c.if-is_dropped.ensures) c.loop-c.invariant)

pub returns-then-was_read : goal.returns-then-was_read
returns-then-was_read c =
    let t = YieldsList-turn (YieldsList-from_chars c.args.text.now c.utf8.text cc) c.loop-c.yielded _ c.loop-c.yielded_by _ _ c.in-Some.c c.in-Some.is c.next.ensures.steps in
    let e : (c.loop-c.was_read || not (is_dash c.in-Some.c)) ≡ true = elim c.then-was_read.branch [
      | then-was_read-via-then-was_read w ↦ rw w.if-was_read.true refl
      | then-was_read-via-else-was_read+then-not-is_dash w ↦ rw (w.if-was_read.false, sym w.is_dash.ensures ∙ w.if-not-is_dash.true) refl
    ] in
    second (chars c.args.text.now) (length c.loop-c.yielded) c.in-Some.c t c.loop-c.was_read (sym c.if-is_dropped.ensures) e c.loop-c.invariant

pub loop-c-preserved : goal.loop-c-preserved
loop-c-preserved c =
    let t = YieldsList-turn (YieldsList-from_chars c.args.text.now c.utf8.text cc) c.loop-c.yielded _ c.loop-c.yielded_by _ _ c.in-Some.c c.in-Some.is c.next.ensures.steps in
    rw (length_push c.loop-c.yielded c.in-Some.c)
    (over-dash (chars c.args.text.now) (length c.loop-c.yielded) c.in-Some.c t (sym c.if-is_dropped.ensures) (sym c.if-not-is_dash.ensures)
    (subst (ReadsOn (chars c.args.text.now) (length c.loop-c.yielded)) c.if-was_read.false c.loop-c.invariant))

pub returns : goal.returns
returns c =
    let t = YieldsList-end (YieldsList-from_chars c.args.text.now c.utf8.text cc) c.loop-c.yielded _ c.loop-c.yielded_by _ _ c.in-None.is c.next.ensures.steps in
    at-end (chars c.args.text.now) (length c.loop-c.yielded) c.loop-c.was_read (omega (arith, t.1)) c.loop-c.invariant
