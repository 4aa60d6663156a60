use Rattle.std.proofs.Common.{ap, sym, ◌∙◌}
use Rattle.page_text.proofs.Readings.{after-allowed, after-banned, due-allowed, due-banned}
use Rattle.page_text.proofs.feed.Feed.step_ascii.Goals as goal

pub returns-then-not-is_allowed-clause-state : goal.returns-then-not-is_allowed-clause-state
returns-then-not-is_allowed-clause-state c =
    let part = ap (λ r. r.part) c.self.view_is ∙ c.requires.part in
    let sound = ap (λ r. r.fault) c.self.view_is ∙ c.requires.sound in
    rw (← c.self.view_is) (after-banned _ c.args.byte sound part c.requires.ascii (sym c.is_allowed.ensures ∙ c.if-not-is_allowed.true))

pub returns-then-not-is_allowed-clause-given : goal.returns-then-not-is_allowed-clause-given
returns-then-not-is_allowed-clause-given c =
    let part = ap (λ r. r.part) c.self.view_is ∙ c.requires.part in
    let sound = ap (λ r. r.fault) c.self.view_is ∙ c.requires.sound in
    rw (← c.self.view_is) (due-banned _ c.args.byte sound part c.requires.ascii (sym c.is_allowed.ensures ∙ c.if-not-is_allowed.true))

pub returns-clause-state : goal.returns-clause-state
returns-clause-state c =
    let part = ap (λ r. r.part) c.self.view_is ∙ c.requires.part in
    let sound = ap (λ r. r.fault) c.self.view_is ∙ c.requires.sound in
    rw (← c.self.view_is) (after-allowed _ c.args.byte sound part c.requires.ascii (sym c.is_allowed.ensures ∙ c.if-not-is_allowed.false))

pub returns-clause-given : goal.returns-clause-given
returns-clause-given c =
    let part = ap (λ r. r.part) c.self.view_is ∙ c.requires.part in
    let sound = ap (λ r. r.fault) c.self.view_is ∙ c.requires.sound in
    rw (← c.self.view_is) (c.shown_mark.ensures ∙ due-allowed _ c.args.byte sound part c.requires.ascii (sym c.is_allowed.ensures ∙ c.if-not-is_allowed.false))
