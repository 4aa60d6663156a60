use Rattle.std.proofs.Common.{◌≡◌, ◌∙◌, sym, ap, subst, arith, take, refl, [], None}
use Rattle.std.proofs.lemmas.Str.{IsUtf8-nil, chars-nil}
use Rattle.page_text.specs.Plain.{marks_from}
use Rattle.page_text.proofs.PlainRuns.{text-plain}
use Rattle.page_text.proofs.Readings.{IsSound, held-sound, after-nil, due-nil}
use Rattle.page_text.proofs.Plain.{plain-after, plain-due, no-fault}
use Rattle.page_text.proofs.feed.Feed.take_plain.Goals as goal

pub returns-then-is_some-clause-state : goal.returns-then-is_some-clause-state
returns-then-is_some-clause-state c =
    let f = c.self.inside in
    let sound = subst IsSound c.self.view_is (held-sound f.pushed f.held f.part f.after_cr f.fault (omega arith) c.self.invariant.1 c.self.invariant.2) in
    sym (after-nil c.args.self.now [] refl sound)

pub returns-then-is_some-clause-shown : goal.returns-then-is_some-clause-shown
returns-then-is_some-clause-shown c =
    let f = c.self.inside in
    let sound = subst IsSound c.self.view_is (held-sound f.pushed f.held f.part f.after_cr f.fault (omega arith) c.self.invariant.1 c.self.invariant.2) in
    due-nil c.args.self.now [] refl sound ∙ ap (marks_from c.args.self.now.pushed) (sym chars-nil)

pub returns-then-is_some-clause-plain : goal.returns-then-is_some-clause-plain
returns-then-is_some-clause-plain c = text-plain [] IsUtf8-nil refl

pub returns-clause-state : goal.returns-clause-state
returns-clause-state c =
    let f = c.self.inside in
    let none : f.fault ≡ None = no-fault f.fault (sym c.is_some.ensures ∙ c.if-is_some.false) in
    let empty : take f.held f.part ≡ [] = let z : f.held ≡ 0 = (let h = c.if-self-gt0.false in omega arith) in ap (λ n. take n f.part) z in
    rw (← c.self.view_is) (plain-after _ c.plain_front-text.result.now none empty c.if-self.false c.plain_front-text.ensures.plain)

pub returns-clause-shown : goal.returns-clause-shown
returns-clause-shown c =
    let f = c.self.inside in
    let none : f.fault ≡ None = no-fault f.fault (sym c.is_some.ensures ∙ c.if-is_some.false) in
    let empty : take f.held f.part ≡ [] = let z : f.held ≡ 0 = (let h = c.if-self-gt0.false in omega arith) in ap (λ n. take n f.part) z in
    rw (← c.self.view_is) (plain-due _ c.plain_front-text.result.now none empty c.if-self.false c.plain_front-text.ensures.plain)
