use Rattle.std.proofs.Common.{◌≡◌, ◌+◌, ◌==◌, ◌&&◌, drop, length, Ok, refl, sym, ap, subst, arith}
use Rattle.std.proofs.lemmas.Str.{IsCharBoundary-start}
use Rattle.page_tree.specs.MachineSteps.{Leads, Breaks}
use Rattle.page_tree.specs.Break.{fault}
use Rattle.page_tree.specs.Buildings.{state_of}
use Rattle.page_constructs.specs.Searches.{IsSought}
use Rattle.page_tree.proofs.ActingLaws.{leads-stay, leads-on, breaks-on}
use Rattle.page_tree.proofs.LateLaws.{behind-step}
use Rattle.page_tree.proofs.SettleLaws.{same-front, not-front, behind-whole}
use Rattle.page_constructs.proofs.SizeLaws.{sought-none}
use Rattle.page_tree.proofs.settle.settle.Goals as goal

pub constructs-init : goal.constructs-init
constructs-init c = record {
  boundary = IsCharBoundary-start c.args.text.now c.utf8.text;
  behind = λ n. absurd (n refl);
  on_page = λ h. h;
  sought = subst (λ x. IsSought x c.args.text.now c.args.sought) (sym (same-front c.args.first)) c.requires.sought;
  leads = λ us h. subst (λ x. Leads c.args.ended c.args.setting.now.depth (state_of c.args.building.now) c.args.first us (state_of c.args.building.now) x us) (sym (same-front c.args.first))
      (leads-stay c.args.ended c.args.setting.now.depth (state_of c.args.building.now) c.args.first us);
}

pub step_at-requires-clause-within : goal.step_at-requires-clause-within
step_at-requires-clause-within c =
    let same : length c.as_bytes-bytes.result.now ≡ length c.args.text.now = ap length c.as_bytes-bytes.ensures.value in
    let less = c.constructs-test.true in
    omega arith

pub step_at-requires-clause-behind : goal.step_at-requires-clause-behind
step_at-requires-clause-behind c = c.constructs.invariant.behind

pub step_at-requires-clause-sought : goal.step_at-requires-clause-sought
step_at-requires-clause-sought c = c.constructs.invariant.sought

pub returns-in-Waits-clause-leads : goal.returns-in-Waits-clause-leads
returns-in-Waits-clause-leads c = λ q us h.
    subst (λ b. Leads c.args.ended c.args.setting.now.depth (state_of c.args.building.now) c.args.first us (state_of b) (c.args.first && (c.constructs.at == 0)) (drop c.constructs.at us))
    (sym (c.in_ok-sought.ensures.waits c.in-Waits.sought (ap Ok c.in-Waits.is)).1) (c.constructs.invariant.leads us h)

pub returns-in-Waits-clause-waits : goal.returns-in-Waits-clause-waits
returns-in-Waits-clause-waits c = λ q. let w = c.in_ok-sought.ensures.waits c.in-Waits.sought (ap Ok c.in-Waits.is) in (w.0, w.2)

pub returns-in-Breaks-clause-breaks : goal.returns-in-Breaks-clause-breaks
returns-in-Breaks-clause-breaks c = λ b q us h.
    let is : c.in-Breaks.broken ≡ b = cc in
    let here = c.in_ok-sought.ensures.breaks c.in-Breaks.broken (ap Ok c.in-Breaks.is) us h in
    subst (λ x. Breaks c.args.ended c.args.setting.now.depth (state_of c.args.building.now) c.args.first us (fault x.offset x.rule)) is
    (breaks-on c.args.ended c.args.setting.now.depth (state_of c.args.building.now) (state_of c.constructs.building) c.args.first (c.args.first && (c.constructs.at == 0)) us (drop c.constructs.at us)
    (fault c.in-Breaks.broken.offset c.in-Breaks.broken.rule) (c.constructs.invariant.leads us h)
    here)

pub constructs-smaller : goal.constructs-smaller
constructs-smaller c = let t = c.in_ok-sought.ensures.takes c.in-Takes.size (ap Ok c.in-Takes.is) in let p = t.0 in let b = t.1 in omega arith

pub constructs-preserved : goal.constructs-preserved
constructs-preserved c =
    let t = c.in_ok-sought.ensures.takes c.in-Takes.size (ap Ok c.in-Takes.is) in
    let d = c.args.setting.now.depth in
    let at = c.constructs.at in
    let next = c.constructs.at + c.in-Takes.size in
    record {
      boundary = t.1;
      behind = λ z. behind-step c.args.ended c.args.first c.args.text.now c.args.places.even at c.in-Takes.size c.requires.even c.requires.unsettled c.constructs.invariant.behind t.2;
      on_page = λ h. c.in_ok-sought.ensures.on_page (c.constructs.invariant.on_page h);
      sought = sought-none (c.args.first && (next == 0)) (drop next c.args.text.now) c.unsought-sought.result c.unsought-sought.ensures;
      leads = λ us h. leads-on c.args.ended d (state_of c.args.building.now) (state_of c.constructs.building) (state_of c.step_at.new.building) c.args.first (c.args.first && (at == 0)) (c.args.first && (next == 0))
          us (drop at us) (drop next us) (c.constructs.invariant.leads us h)
          (subst (λ x. Leads c.args.ended d (state_of c.constructs.building) (c.args.first && (at == 0)) (drop at us) (state_of c.step_at.new.building) x (drop next us))
          (sym (not-front c.args.first next (let p = t.0 in omega arith)))
          (t.3 us h));
    }

pub overflow_add-at : goal.overflow_add-at
overflow_add-at c =
    let t = c.in_ok-sought.ensures.takes c.in-Takes.size (ap Ok c.in-Takes.is) in
    let b = t.1.0 in
    let same : length c.as_bytes-bytes.result.now ≡ length c.args.text.now = ap length c.as_bytes-bytes.ensures.value in
    let top = c.as_bytes-bytes.type_inv.0 in
    omega arith

pub returns-clause-waits : goal.returns-clause-waits
returns-clause-waits c = λ q.
    let same : length c.as_bytes-bytes.result.now ≡ length c.args.text.now = ap length c.as_bytes-bytes.ensures.value in (
      behind-whole c.args.ended (c.args.first && (c.constructs.at == 0)) c.args.text.now c.constructs.at (let e = c.constructs-test.false in omega arith),
      sought-none (c.args.first && (c.constructs.at == 0)) (drop c.constructs.at c.args.text.now) c.unsought-2.result c.unsought-2.ensures,
    )
