use Rattle.std.proofs.Common.{◌≡◌, ◌&&◌, ◌==◌, Some, None, Err, drop, refl, sym, ap, ◌∙◌, subst}
use Rattle.std.specs.Result.{is_ok}
use Rattle.page_tree.specs.Break.{behind_constructs}
use Rattle.page_tree.specs.Buildings.{state_of}
use Rattle.page_constructs.specs.Constructs.{first_offset}
use Rattle.page_tree.specs.Machine.{outline_of}
use Rattle.page_tree.specs.TextPlaces.{IsPlaced}
use Rattle.page_tree.specs.Model.{verdict_of}
use Rattle.page_tree.specs.PendingText.{fault_at}
use Rattle.page_tree.proofs.EndingLaws.{end-breaks, judged-end, root-end, answer-none, answer-good, answer-fault}
use Rattle.page_tree.proofs.ending.end.Goals as goal

pub returns-in-Some-clause-verdict : goal.returns-in-Some-clause-verdict
returns-in-Some-clause-verdict c = λ us z h e n.
    let p = c.args.pending.now in
    let placed = subst (λ x. IsPlaced x p.places us) (sym c.as_str.ensures.value) h in
    ap (λ f. verdict_of (Err f)) c.fault_of.ensures
    ∙ end-breaks z c.is_ok.result c.args.setting.now.depth (state_of c.args.building.now) p.is_first us c.args.size (c.is_ok.ensures.value ∙ ap is_ok e ∙ answer-none z) (fault_at c.in-Some.broken)
    (c.in-Ok.ensures.breaks c.in-Some.broken c.in-Some.is us placed)

pub returns-in-Err-clause-verdict : goal.returns-in-Err-clause-verdict
returns-in-Err-clause-verdict c = λ us z h e n.
    let p = c.args.pending.now in
    let xs = c.as_str.result.now in
    let k = c.in-Ok.settled.taken in
    let t = state_of c.settle.new.building in
    let placed = subst (λ x. IsPlaced x p.places us) (sym c.as_str.ensures.value) h in
    let bad : z ≡ Some c.in-Err.fault = answer-fault z c.in-Err.fault (sym e ∙ c.in-Err.is) in
    judged-end z c.is_ok.result c.args.setting.now.depth (state_of c.args.building.now) p.is_first c.args.size (c.is_ok.ensures.value ∙ ap is_ok e ∙ answer-none z) xs p.places us placed
    k t (p.is_first && (k == 0)) (c.in-Ok.ensures.leads c.in_default-broken.is us placed) (c.in-Ok.ensures.waits c.in_default-broken.is).0
    (first_offset (drop k us)) refl (verdict_of (Err c.fault_in_text.result))
    (λ w m. c.fault_in_text.ensures.told (λ q. n (ap Err q)) c.args.size w (outline_of t) ∙ ap (λ x. behind_constructs c.args.size x w (outline_of t)) (sym bad))

pub returns-in-Ok-root_behind-clause-verdict : goal.returns-in-Ok-root_behind-clause-verdict
returns-in-Ok-root_behind-clause-verdict c = λ us z h e n.
    let p = c.args.pending.now in
    let xs = c.as_str.result.now in
    let k = c.in-Ok.settled.taken in
    let t = state_of c.settle.new.building in
    let placed = subst (λ x. IsPlaced x p.places us) (sym c.as_str.ensures.value) h in
    let good : z ≡ None = answer-good z c.in_default-stop.field-0 (sym e ∙ c.in_default-stop.is) in
    judged-end z c.is_ok.result c.args.setting.now.depth (state_of c.args.building.now) p.is_first c.args.size (c.is_ok.ensures.value ∙ ap is_ok e ∙ answer-none z) xs p.places us placed
    k t (p.is_first && (k == 0)) (c.in-Ok.ensures.leads c.in_default-broken.is us placed) (c.in-Ok.ensures.waits c.in_default-broken.is).0
    c.rest_offset-rest.result (c.rest_offset-rest.ensures us h) None
    (λ w m. c.in-Ok-root_behind.ensures.told w m ∙ ap (λ x. behind_constructs c.args.size x w (outline_of t)) (sym good))

pub returns-in-Ok-root_behind-clause-root : goal.returns-in-Ok-root_behind-clause-root
returns-in-Ok-root_behind-clause-root c = λ us z h e.
    let p = c.args.pending.now in
    let xs = c.as_str.result.now in
    let k = c.in-Ok.settled.taken in
    let t = state_of c.settle.new.building in
    let placed = subst (λ x. IsPlaced x p.places us) (sym c.as_str.ensures.value) h in
    let good : z ≡ None = answer-good z c.in_default-stop.field-0 (sym e ∙ c.in_default-stop.is) in
    let r = root-end z c.is_ok.result c.args.setting.now.depth (state_of c.args.building.now) p.is_first c.args.size (c.is_ok.ensures.value ∙ ap is_ok e ∙ answer-none z) xs p.places us placed
    k t (p.is_first && (k == 0)) (c.in-Ok.ensures.leads c.in_default-broken.is us placed) (c.in-Ok.ensures.waits c.in_default-broken.is).0
    c.rest_offset-rest.result (c.rest_offset-rest.ensures us h)
    (λ w m. c.in-Ok-root_behind.ensures.told w m ∙ ap (λ x. behind_constructs c.args.size x w (outline_of t)) (sym good)) in
    (t, r.0, r.1, r.2, r.3 ∙ sym c.in-Ok-root_behind.ensures.root)

pub returns-in-Err-root_behind-clause-verdict : goal.returns-in-Err-root_behind-clause-verdict
returns-in-Err-root_behind-clause-verdict c = λ us z h e n.
    let p = c.args.pending.now in
    let xs = c.as_str.result.now in
    let k = c.in-Ok.settled.taken in
    let t = state_of c.settle.new.building in
    let placed = subst (λ x. IsPlaced x p.places us) (sym c.as_str.ensures.value) h in
    let good : z ≡ None = answer-good z c.in_default-stop.field-0 (sym e ∙ c.in_default-stop.is) in
    ap (λ f. verdict_of (Err f)) c.fault_of-in-Err-root_behind.ensures
    ∙ judged-end z c.is_ok.result c.args.setting.now.depth (state_of c.args.building.now) p.is_first c.args.size (c.is_ok.ensures.value ∙ ap is_ok e ∙ answer-none z) xs p.places us placed
    k t (p.is_first && (k == 0)) (c.in-Ok.ensures.leads c.in_default-broken.is us placed) (c.in-Ok.ensures.waits c.in_default-broken.is).0
    c.rest_offset-rest.result (c.rest_offset-rest.ensures us h) (Some (fault_at c.in-Err-root_behind.broken))
    (λ w m. c.in-Err-root_behind.ensures.told w m ∙ ap (λ x. behind_constructs c.args.size x w (outline_of t)) (sym good))

pub returns-in-Ok-root_behind-clause-page : goal.returns-in-Ok-root_behind-clause-page
returns-in-Ok-root_behind-clause-page c = λ h. c.in-Ok-root_behind.ensures.page c.args.setting.now.page (c.in-Ok.ensures.on_page h)

pub returns-in-Ok-root_behind-clause-spaces : goal.returns-in-Ok-root_behind-clause-spaces
returns-in-Ok-root_behind-clause-spaces c = λ h. c.in-Ok-root_behind.ensures.spaces c.args.setting.now.page (c.in-Ok.ensures.on_page h)
