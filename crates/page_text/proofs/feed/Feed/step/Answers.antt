use Rattle.std.proofs.Common.{◌∷◌, [], ◌∙◌, ap, arith, subst, sym}
use Rattle.page_text.proofs.InOrder.{byte-within}
use Rattle.page_text.proofs.Readings.{IsSound, after-stuck, due-stuck, held-sound, pushed-after}
use Rattle.page_text.proofs.feed.Feed.step.Goals as goal

pub returns-then-is_some-clause-state : goal.returns-then-is_some-clause-state
returns-then-is_some-clause-state c =
    let f = c.self.inside in
    rw (← c.self.view_is) (sym (after-stuck _ (c.args.byte ∷ []) (sym c.is_some.ensures ∙ c.if-is_some.true)))

pub returns-then-is_some-clause-given : goal.returns-then-is_some-clause-given
returns-then-is_some-clause-given c =
    rw (← c.self.view_is) (sym (due-stuck _ (c.args.byte ∷ []) (sym c.is_some.ensures ∙ c.if-is_some.true)))

pub returns-then-byte-lt128-clause-counts : goal.returns-then-byte-lt128-clause-counts
returns-then-byte-lt128-clause-counts c = ap (λ r. r.pushed) c.step_ascii.ensures.state ∙ pushed-after c.args.self.now (c.args.byte ∷ [])

pub returns-else-self-eq0-clause-counts : goal.returns-else-self-eq0-clause-counts
returns-else-self-eq0-clause-counts c = ap (λ r. r.pushed) c.step_behind_part.ensures.state ∙ pushed-after c.args.self.now (c.args.byte ∷ [])

pub returns-then-byte-lt128-clause-within : goal.returns-then-byte-lt128-clause-within
returns-then-byte-lt128-clause-within c =
    let f = c.self.inside in
    let sound = subst IsSound c.self.view_is (held-sound f.pushed f.held f.part f.after_cr f.fault (omega arith) c.self.invariant.1 c.self.invariant.2) in
    byte-within c.args.self.now c.step_ascii.new.self c.args.byte c.step_ascii.result sound c.step_ascii.ensures.state c.step_ascii.ensures.given

pub returns-else-self-eq0-clause-within : goal.returns-else-self-eq0-clause-within
returns-else-self-eq0-clause-within c =
    let f = c.self.inside in
    let sound = subst IsSound c.self.view_is (held-sound f.pushed f.held f.part f.after_cr f.fault (omega arith) c.self.invariant.1 c.self.invariant.2) in
    byte-within c.args.self.now c.step_behind_part.new.self c.args.byte c.step_behind_part.result sound c.step_behind_part.ensures.state c.step_behind_part.ensures.given
