use Rattle.std.proofs.Common.{◌≡◌, ◌∙◌, ◌+◌, ◌-◌, ◌++◌, map, ap, sym, append_assoc, append-nil, refl, arith}
use Rattle.fact_trace.specs.Spans.{heard, is_among, muted_in, span_of}
use Rattle.fact_trace.specs.Walks.{heard_at_step}
use Rattle.fact_trace.proofs.WayLaws.{ahead, further, is-off, is-on, muted-less, nearer, stands-room, way-closes, way-ends, way-opens, way-passes, way-says}
use Rattle.fact_trace.proofs.walk.push_way.Goals as goal

pub way-init : goal.way-init
way-init c = record {
  spans = refl;
  stands = c.requires.stands;
  room = stands-room c.args.page.now.bytes.now c.args.from c.requires.whole c.requires.stands;
  opened = omega arith;
  mutes = omega arith;
  passed = λ x h. refl;
}

pub is_next-is_left_out-requires-clause-passed : goal.is_next-is_left_out-requires-clause-passed
is_next-is_left_out-requires-clause-passed c =
    let o = is-on c.args.page.now.bytes.now c.way.at c.in-Some.step c.requires.whole c.in-Some.ensures in
    let at = o.opens c.in-Opens.start c.in-Opens.is in
    further c.args.left_out.now c.way.next c.way.at c.in-Opens.start (omega arith) c.way.invariant.passed

pub way-smaller-in-Opens : goal.way-smaller-in-Opens
way-smaller-in-Opens c = nearer c.args.page.now.bytes.now c.way.at c.in-Some.step c.requires.whole c.in-Some.ensures

pub way-preserved-in-Opens : goal.way-preserved-in-Opens
way-preserved-in-Opens c =
    let name = c.args.page.now.name in
    let b = c.args.page.now.bytes.now in
    let offsets = c.args.left_out.now in
    let i = c.way.invariant in
    let o = is-on b c.way.at c.in-Some.step c.requires.whole c.in-Some.ensures in
    let above = o.above in
    let opened = i.opened in
    let mutes = i.mutes in
    let less = muted-less (is_among offsets c.in-Opens.start) c.way.muted in
    let muted : c.muted_in-muted.result ≡ muted_in (is_among offsets c.in-Opens.start) c.way.muted =
    c.muted_in-muted.ensures ∙ ap (λ x. muted_in x c.way.muted) c.is_next-is_left_out.ensures.there in
    let at = o.opens c.in-Opens.start c.in-Opens.is in
    record {
      spans = ap (λ l. c.way.spans ++ l)
          (ap (λ m. ahead name b offsets (c.way.open + 1) m c.in-Some.step.end) muted
          ∙ sym (way-opens name b offsets c.way.open c.way.muted c.way.at c.in-Some.step o c.in-Opens.start c.in-Opens.is)) ∙ i.spans;
      stands = o.stands;
      room = o.fits;
      opened = omega arith;
      mutes = omega arith;
      passed = further offsets c.is_next-is_left_out.new.next c.in-Opens.start c.in-Some.step.end (omega arith) c.is_next-is_left_out.ensures.passed;
    }

pub returns-then-open-eq0 : goal.returns-then-open-eq0
returns-then-open-eq0 c =
    let name = c.args.page.now.name in
    let b = c.args.page.now.bytes.now in
    let offsets = c.args.left_out.now in
    let o = is-on b c.way.at c.in-Some.step c.requires.whole c.in-Some.ensures in
    sym (append-nil c.way.spans)
    ∙ ap (λ l. c.way.spans ++ l) (sym (way-ends name b offsets c.way.open c.way.muted c.way.at c.in-Some.step o c.in-Closes.is c.if-open-eq0.true)) ∙ c.way.invariant.spans

pub way-smaller-else-open-eq0 : goal.way-smaller-else-open-eq0
way-smaller-else-open-eq0 c = nearer c.args.page.now.bytes.now c.way.at c.in-Some.step c.requires.whole c.in-Some.ensures

pub way-preserved-else-open-eq0 : goal.way-preserved-else-open-eq0
way-preserved-else-open-eq0 c =
    let name = c.args.page.now.name in
    let b = c.args.page.now.bytes.now in
    let offsets = c.args.left_out.now in
    let i = c.way.invariant in
    let o = is-on b c.way.at c.in-Some.step c.requires.whole c.in-Some.ensures in
    let above = o.above in
    let opened = i.opened in
    let mutes = i.mutes in
    let less = c.saturating_sub-muted.ensures in
    record {
      spans = ap (λ l. c.way.spans ++ l)
          (ap (λ m. ahead name b offsets (c.way.open - 1) m c.in-Some.step.end) less
          ∙ sym (way-closes name b offsets c.way.open c.way.muted c.way.at c.in-Some.step o c.in-Closes.is (omega arith))) ∙ i.spans;
      stands = o.stands;
      room = o.fits;
      opened = omega arith;
      mutes = omega arith;
      passed = further offsets c.way.next c.way.at c.in-Some.step.end (omega arith) i.passed;
    }

pub way-smaller-in_ok-push_heard-in-Says : goal.way-smaller-in_ok-push_heard-in-Says
way-smaller-in_ok-push_heard-in-Says c = nearer c.args.page.now.bytes.now c.way.at c.in-Some.step c.requires.whole c.in-Some.ensures

pub way-preserved-in_ok-push_heard-in-Says : goal.way-preserved-in_ok-push_heard-in-Says
way-preserved-in_ok-push_heard-in-Says c =
    let name = c.args.page.now.name in
    let b = c.args.page.now.bytes.now in
    let offsets = c.args.left_out.now in
    let i = c.way.invariant in
    let o = is-on b c.way.at c.in-Some.step c.requires.whole c.in-Some.ensures in
    let above = o.above in
    let opened = i.opened in
    let more = ahead name b offsets c.way.open c.way.muted c.in-Some.step.end in
    record {
      spans = ap (λ l. l ++ more) c.in_ok-push_heard-in-Says.ensures ∙ append_assoc c.way.spans (heard_at_step name c.in-Some.step c.way.muted) more
          ∙ ap (λ l. c.way.spans ++ l) (sym (way-says name b offsets c.way.open c.way.muted c.way.at c.in-Some.step o c.in-Says.is)) ∙ i.spans;
      stands = o.stands;
      room = o.fits;
      opened = omega arith;
      mutes = i.mutes;
      passed = further offsets c.way.next c.way.at c.in-Some.step.end (omega arith) i.passed;
    }

pub way-smaller : goal.way-smaller
way-smaller c = nearer c.args.page.now.bytes.now c.way.at c.in-Some.step c.requires.whole c.in-Some.ensures

pub way-preserved : goal.way-preserved
way-preserved c =
    let name = c.args.page.now.name in
    let b = c.args.page.now.bytes.now in
    let offsets = c.args.left_out.now in
    let i = c.way.invariant in
    let o = is-on b c.way.at c.in-Some.step c.requires.whole c.in-Some.ensures in
    let above = o.above in
    let opened = i.opened in
    record {
      spans = ap (λ l. c.way.spans ++ l) (sym (way-passes name b offsets c.way.open c.way.muted c.way.at c.in-Some.step o c.in-Passes.is)) ∙ i.spans;
      stands = o.stands;
      room = o.fits;
      opened = omega arith;
      mutes = i.mutes;
      passed = further offsets c.way.next c.way.at c.in-Some.step.end (omega arith) i.passed;
    }

pub returns : goal.returns
returns c =
    sym (append-nil c.way.spans)
    ∙ ap (λ l. c.way.spans ++ l)
    (sym (ap (λ rs. map (span_of c.args.page.now.name) (heard (is_among c.args.left_out.now) c.way.open c.way.muted rs)) (is-off c.args.page.now.bytes.now c.way.at c.in_default.ensures)))
    ∙ c.way.invariant.spans
