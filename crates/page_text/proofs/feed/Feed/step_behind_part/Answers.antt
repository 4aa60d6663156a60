use Rattle.std.proofs.Common.{sym, arith, rules, ◌∙◌}
use Rattle.page_text.specs.declared.fronts.Front.TheVariants.{Allowed, Banned, Part, Ill}
use Rattle.page_text.proofs.Readings.{after-held, due-held}
use Rattle.page_text.proofs.feed.Feed.step_behind_part.Goals as goal

pub returns-in-Allowed-clause-state : goal.returns-in-Allowed-clause-state
returns-in-Allowed-clause-state c =
    let f = c.self.inside in
    rw (← c.self.view_is) (sym (after-held f.pushed f.held c.args.byte f.part f.after_cr f.fault (omega arith) (search rules) (c.self.invariant.1, c.self.invariant.2) (Allowed c.in-Allowed.ch) (sym c.in-Allowed.is ∙ c.front_of.ensures.exact)))

pub returns-in-Allowed-clause-given : goal.returns-in-Allowed-clause-given
returns-in-Allowed-clause-given c =
    let f = c.self.inside in
    rw (← c.self.view_is) (c.shown_mark.ensures ∙ sym (due-held f.pushed f.held c.args.byte f.part f.after_cr f.fault (omega arith) (search rules) (c.self.invariant.1, c.self.invariant.2) (Allowed c.in-Allowed.ch) (sym c.in-Allowed.is ∙ c.front_of.ensures.exact)))

pub returns-in-Banned-clause-state : goal.returns-in-Banned-clause-state
returns-in-Banned-clause-state c =
    let f = c.self.inside in
    rw (← c.self.view_is) (sym (after-held f.pushed f.held c.args.byte f.part f.after_cr f.fault (omega arith) (search rules) (c.self.invariant.1, c.self.invariant.2) (Banned) (sym c.in-Banned.is ∙ c.front_of.ensures.exact)))

pub returns-in-Banned-clause-given : goal.returns-in-Banned-clause-given
returns-in-Banned-clause-given c =
    let f = c.self.inside in
    rw (← c.self.view_is) (sym (due-held f.pushed f.held c.args.byte f.part f.after_cr f.fault (omega arith) (search rules) (c.self.invariant.1, c.self.invariant.2) (Banned) (sym c.in-Banned.is ∙ c.front_of.ensures.exact)))

pub returns-in-Part-clause-state : goal.returns-in-Part-clause-state
returns-in-Part-clause-state c =
    let f = c.self.inside in
    rw (← c.self.view_is) (sym (after-held f.pushed f.held c.args.byte f.part f.after_cr f.fault (omega arith) (search rules) (c.self.invariant.1, c.self.invariant.2) (Part) (sym c.in-Part.is ∙ c.front_of.ensures.exact)))

pub returns-in-Part-clause-given : goal.returns-in-Part-clause-given
returns-in-Part-clause-given c =
    let f = c.self.inside in
    rw (← c.self.view_is) (sym (due-held f.pushed f.held c.args.byte f.part f.after_cr f.fault (omega arith) (search rules) (c.self.invariant.1, c.self.invariant.2) (Part) (sym c.in-Part.is ∙ c.front_of.ensures.exact)))

pub returns-in-Ill-clause-state : goal.returns-in-Ill-clause-state
returns-in-Ill-clause-state c =
    let f = c.self.inside in
    rw (← c.self.view_is) (sym (after-held f.pushed f.held c.args.byte f.part f.after_cr f.fault (omega arith) (search rules) (c.self.invariant.1, c.self.invariant.2) (Ill) (sym c.in-Ill.is ∙ c.front_of.ensures.exact)))

pub returns-in-Ill-clause-given : goal.returns-in-Ill-clause-given
returns-in-Ill-clause-given c =
    let f = c.self.inside in
    rw (← c.self.view_is) (sym (due-held f.pushed f.held c.args.byte f.part f.after_cr f.fault (omega arith) (search rules) (c.self.invariant.1, c.self.invariant.2) (Ill) (sym c.in-Ill.is ∙ c.front_of.ensures.exact)))
