use Rattle.std.proofs.Common.{◌≡◌, true, false, rules}
use Rattle.page_session.specs.Limits.{may_hold}
use Rattle.page_session.proofs.ReadLaws.{page_held, page_over}
use Rattle.page_session.proofs.put.read_held.Goals as goal

pub returns-then-not-is_within-clause-spent : goal.returns-then-not-is_within-clause-spent
returns-then-not-is_within-clause-spent g c e =
    let over : may_hold c.read_page.new.sums.bytes c.read_page.new.sums.tags ≡ false = search rules in
    page_over _ _ _ c.args.sums.now c.read_page.new.sums c.in_ok-read_page.ensures.reads over

pub returns-in-Ok-held_of-clause-held : goal.returns-in-Ok-held_of-clause-held
returns-in-Ok-held_of-clause-held g c =
    let within : may_hold c.read_page.new.sums.bytes c.read_page.new.sums.tags ≡ true = search rules in
    page_held _ _ _ c.args.sums.now c.read_page.new.sums _ c.in-Ok-held_of.held c.in_ok-read_page.ensures.reads
    c.in_ok-read_page.ensures.whole within (λ b h. c.in-Ok-held_of.ensures b h.built)
