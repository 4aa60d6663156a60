use Rattle.std.proofs.Common.{refl, is_some, option_to_list, ◌≡◌, ◌+◌, ◌++◌, ◌∷◌, [], true, take, length, length-take, get_or, sym, ap, subst, ◌∙◌, arith, rules, append_assoc, append-nil}
use Rattle.std.proofs.lemmas.List.{take_all}
use Rattle.page_text.specs.Model.{answer, after, due}
use Rattle.page_text.proofs.Readings.{IsSound, held-sound, after-stuck, due-stuck, after-nil, due-nil, after-next, due-next, pushed-after, stands-after, stops, gains, gains-front, appended}
use Rattle.page_text.proofs.feed.Feed.push.Goals as goal

-- ---- a feed that has a fault

pub returns-in-Some-clause-state : goal.returns-in-Some-clause-state
returns-in-Some-clause-state c ok = rw (← c.self.view_is) (sym (after-stuck _ c.args.piece.now (ap is_some c.in-Some.is)))

pub returns-in-Some-clause-stands : goal.returns-in-Some-clause-stands
returns-in-Some-clause-stands c b e ok = returns-in-Some-clause-state c ok ∙ stands-after c.args.self.now b c.args.piece.now e

pub returns-in-Some-clause-exact : goal.returns-in-Some-clause-exact
returns-in-Some-clause-exact c b e ok =
    ap answer (sym c.in-Some.is ∙ stops _ (b ++ c.args.piece.now) (returns-in-Some-clause-stands c b e ok))

pub returns-in-Some-clause-gained : goal.returns-in-Some-clause-gained
returns-in-Some-clause-gained c ok =
    let known : is_some c.args.self.now.fault ≡ true = ap (λ r. is_some r.fault) (sym c.self.view_is) ∙ ap is_some c.in-Some.is in
    sym (ap (λ t. c.args.marks.now.items ++ t) (due-stuck c.args.self.now c.args.piece.now known) ∙ append-nil c.args.marks.now.items)

pub returns-in-Some-clause-marks : goal.returns-in-Some-clause-marks
returns-in-Some-clause-marks c b e ok = gains c.args.self.now b c.args.piece.now _ _ e (returns-in-Some-clause-gained c ok)

pub returns-in-Some-clause-marks_front : goal.returns-in-Some-clause-marks_front
returns-in-Some-clause-marks_front c b e full = gains-front c.args.self.now b c.args.piece.now _ _ 0 e (sym (append-nil c.args.marks.now.items))

-- ---- the loop

pub loop-byte-init : goal.loop-byte-init
loop-byte-init c =
    let f = c.self.inside in
    let sound : IsSound c.args.self.now =
    subst IsSound c.self.view_is (held-sound f.pushed f.held f.part f.after_cr f.fault (omega arith) c.self.invariant.1 c.self.invariant.2) in (
      sound,
      sym (after-nil c.args.self.now (take 0 c.args.piece.now) refl sound),
      sym (ap (λ t. c.args.marks.now.items ++ t) (due-nil c.args.self.now (take 0 c.args.piece.now) refl sound) ∙ append-nil c.args.marks.now.items),
    )

pub step-mark-requires : goal.step-mark-requires
step-mark-requires c =
    let i = c.loop-byte.byte-index in
    let counted : c.loop-byte.self.pushed ≡ c.args.self.now.pushed + length (take i c.args.piece.now) =
    ap (λ r. r.pushed) c.loop-byte.invariant.1 ∙ pushed-after c.args.self.now (take i c.args.piece.now) in
    omega (arith, counted, length-take i c.args.piece.now)

pub loop-byte-preserved : goal.loop-byte-preserved
loop-byte-preserved c =
    let i = c.loop-byte.byte-index in
    let r = c.args.self.now in
    let xs = c.args.piece.now in
    let old = c.args.marks.now.items in
    let sound = c.loop-byte.invariant.0 in
    let kept : c.keep.new.marks.items ≡ c.loop-byte.marks.items ++ option_to_list c.step-mark.result = search rules in (
      sound,
      c.step-mark.ensures.state ∙ after-next r c.loop-byte.self xs i sound.0 (omega arith) c.loop-byte.invariant.1,
      kept ∙ ap (λ t. c.loop-byte.marks.items ++ t) c.step-mark.ensures.given
          ∙ ap (λ t. t ++ due c.loop-byte.self (get_or xs i 0 ∷ [])) c.loop-byte.invariant.2
          ∙ append_assoc old (due r (take i xs)) (due c.loop-byte.self (get_or xs i 0 ∷ []))
          ∙ ap (λ t. old ++ t) (due-next r c.loop-byte.self xs i sound.0 (omega arith) c.loop-byte.invariant.1),
    )

-- ---- no memory

pub returns-then-is_err-clause-front : goal.returns-then-is_err-clause-front
returns-then-is_err-clause-front c full =
    let r = c.args.self.now in
    let done = take c.loop-byte.byte-index c.args.piece.now in
    let same : c.keep.new.marks.items ≡ c.loop-byte.marks.items = search rules in
    (length (due r done), appended r c.args.piece.now c.loop-byte.byte-index _ _ c.loop-byte.invariant.0.0 (same ∙ c.loop-byte.invariant.2))

pub returns-then-is_err-clause-marks_front : goal.returns-then-is_err-clause-marks_front
returns-then-is_err-clause-marks_front c b e full =
    let front = returns-then-is_err-clause-front c full in
    gains-front c.args.self.now b c.args.piece.now _ _ front.0 e front.1

pub returns-then-is_err-clause-counts : goal.returns-then-is_err-clause-counts
returns-then-is_err-clause-counts c =
    let i = c.loop-byte.byte-index in
    let r = c.args.self.now in
    let xs = c.args.piece.now in
    let next = after-next r c.loop-byte.self xs i c.loop-byte.invariant.0.0 (omega arith) c.loop-byte.invariant.1 in
    let counted : c.self-in-loop-byte.inside.pushed ≡ r.pushed + length (take (i + 1) xs) =
    ap (λ q. q.pushed) c.self-in-loop-byte.view_is ∙ ap (λ q. q.pushed) (c.step-mark.ensures.state ∙ next) ∙ pushed-after r (take (i + 1) xs) in
    (omega (arith, counted), omega (arith, counted, length-take (i + 1) xs))

-- ---- the whole piece

pub returns-clause-state : goal.returns-clause-state
returns-clause-state c ok = c.loop-byte.invariant.1 ∙ ap (λ t. after c.args.self.now t) (take_all c.loop-byte.byte-index c.args.piece.now (omega arith))

pub returns-clause-stands : goal.returns-clause-stands
returns-clause-stands c b e ok = returns-clause-state c ok ∙ stands-after c.args.self.now b c.args.piece.now e

pub returns-clause-exact : goal.returns-clause-exact
returns-clause-exact c b e ok =
    let known : c.match-self-2.result ≡ answer c.loop-byte.self.fault = search rules in
    known ∙ ap answer (stops c.loop-byte.self (b ++ c.args.piece.now) (returns-clause-stands c b e ok))

pub returns-clause-gained : goal.returns-clause-gained
returns-clause-gained c ok =
    c.loop-byte.invariant.2 ∙ ap (λ t. c.args.marks.now.items ++ due c.args.self.now t) (take_all c.loop-byte.byte-index c.args.piece.now (omega arith))

pub returns-clause-marks : goal.returns-clause-marks
returns-clause-marks c b e ok = gains c.args.self.now b c.args.piece.now _ _ e (returns-clause-gained c ok)

pub returns-clause-front : goal.returns-clause-front
returns-clause-front c full =
    let r = c.args.self.now in
    let done = take c.loop-byte.byte-index c.args.piece.now in
    (length (due r done), appended r c.args.piece.now c.loop-byte.byte-index _ _ c.loop-byte.invariant.0.0 c.loop-byte.invariant.2)

pub returns-clause-marks_front : goal.returns-clause-marks_front
returns-clause-marks_front c b e full =
    let front = returns-clause-front c full in
    gains-front c.args.self.now b c.args.piece.now _ _ front.0 e front.1

pub returns-clause-counts : goal.returns-clause-counts
returns-clause-counts c =
    let r = c.args.self.now in
    let done = take c.loop-byte.byte-index c.args.piece.now in
    let counted : c.loop-byte.self.pushed ≡ r.pushed + length done = ap (λ q. q.pushed) c.loop-byte.invariant.1 ∙ pushed-after r done in
    (omega (arith, counted), omega (arith, counted, length-take c.loop-byte.byte-index c.args.piece.now))

-- ---- what waits was pushed

pub returns-in-Some-clause-waits : goal.returns-in-Some-clause-waits
returns-in-Some-clause-waits c =
    let f = c.self.inside in
    (subst IsSound c.self.view_is (held-sound f.pushed f.held f.part f.after_cr f.fault (omega arith) c.self.invariant.1 c.self.invariant.2)).0

pub returns-then-is_err-clause-waits : goal.returns-then-is_err-clause-waits
returns-then-is_err-clause-waits c = c.loop-byte.invariant.0.0

pub returns-clause-waits : goal.returns-clause-waits
returns-clause-waits c = c.loop-byte.invariant.0.0
