use Rattle.std.proofs.Common.{sym, ap, ◌≡◌, ◌∙◌, subst, take, length, length-take, arith, []}
use Rattle.page_text.specs.Model.{Stands}
use Rattle.page_text.proofs.Readings.{end-fault, end-whole, end-part, gains-none}
use Rattle.page_text.proofs.feed.Feed.end.Goals as goal

pub returns-in-Some-clause-exact : goal.returns-in-Some-clause-exact
returns-in-Some-clause-exact c b e = end-fault _ b c.in-Some.fault e (ap (λ r. r.fault) (sym c.self.view_is) ∙ c.in-Some.is)

pub returns-in-Some-clause-marks : goal.returns-in-Some-clause-marks
returns-in-Some-clause-marks c b e = gains-none b c.args.marks.now.items

pub returns-in-None-clause-exact : goal.returns-in-None-clause-exact
returns-in-None-clause-exact c b e =
    let part : c.args.self.part ≡ [] = ap (λ r. r.part) (sym c.self.view_is) ∙ ap (λ n. take n c.self.inside.part) c.if-self-eq0.true in
    end-whole _ b e (ap (λ r. r.fault) (sym c.self.view_is) ∙ c.in-None.is) part

pub returns-in-None-clause-marks : goal.returns-in-None-clause-marks
returns-in-None-clause-marks c b e = gains-none b c.args.marks.now.items

pub returns-in-None-2-clause-exact : goal.returns-in-None-2-clause-exact
returns-in-None-2-clause-exact c b e =
    let f = c.self.inside in
    let size : length (take f.held f.part) ≡ f.held = rw length-take (omega arith) in
    end-part _ b f.held (subst (λ r. Stands r b) (sym c.self.view_is) e) c.in-None.is size (omega arith)

pub returns-in-None-2-clause-marks : goal.returns-in-None-2-clause-marks
returns-in-None-2-clause-marks c b e = gains-none b c.args.marks.now.items
