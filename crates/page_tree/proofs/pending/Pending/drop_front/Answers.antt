use Rattle.std.proofs.Common.{◌≡◌, ℕ, Bool, ◌+◌, ◌-◌, if◌then◌else◌, ◌&&◌, ◌==◌, true, false, sym, ap, ◌∙◌, subst, drop, string_bytes, refl}
use Rattle.page_tree.specs.TextPlaces.{IsPlaced}
use Rattle.page_constructs.specs.Searches.{IsSought}
use Rattle.page_tree.specs.declared.pending.Places.{Places}
use Rattle.page_tree.proofs.LateLaws.{none-size}
use Rattle.page_tree.proofs.PlacingLaws.{placed-drop}
use Rattle.page_constructs.proofs.SizeLaws.{other-number}
use Rattle.page_tree.proofs.SettleLaws.{same-front}
use Rattle.page_tree.proofs.pending.Pending.drop_front.Goals as goal

by_first : (b : Bool) (n : ℕ) → (n == 0) ≡ false → (b && (n == 0)) ≡ false
by_first true n e = e
by_first false n e = refl

pub invariant_of-self-clause-searched : goal.invariant_of-self-clause-searched
invariant_of-self-clause-searched c =
    let p = c.args.self.now in
    let none = c.if-count-eq0.true in
    subst (λ x. IsSought x (string_bytes p.text) c.args.sought) (same-front p.is_first)
    (subst (λ n. IsSought (p.is_first && (n == 0)) (drop n (string_bytes p.text)) c.args.sought) none c.requires.sought)

pub invariant_of-self-2-clause-unsettled : goal.invariant_of-self-2-clause-unsettled
invariant_of-self-2-clause-unsettled c = none-size false

pub invariant_of-self-2-clause-searched : goal.invariant_of-self-2-clause-searched
invariant_of-self-2-clause-searched c =
    let p = c.args.self.now in
    let front : (p.is_first && (c.args.count == 0)) ≡ false = by_first p.is_first c.args.count (other-number c.args.count 0 c.if-count-eq0.false) in
    subst (λ x. IsSought false x c.args.sought) (sym c.in_ok-rest.ensures.tail) (subst (λ x. IsSought x (drop c.args.count (string_bytes p.text)) c.args.sought) front c.requires.sought)

pub returns-clause-bytes : goal.returns-clause-bytes
returns-clause-bytes c = λ us h.
    let p = c.args.self.now in
    let q : Places = record { start = c.offset-start.result; even = 0; base = c.offset-start.result } in
    subst (λ x. IsPlaced x q (drop c.args.count us)) (sym c.in_ok-rest.ensures.tail)
    (placed-drop (string_bytes p.text) p.places q us c.args.count (c.requires.behind c.if-count-eq0.false) (c.offset-start.ensures ∙ ap (λ t. if t then p.places.start else p.places.base + (c.args.count - p.places.even)) (other-number c.args.count 0 c.if-count-eq0.false)) refl
    (c.offset-start.ensures ∙ ap (λ t. if t then p.places.start else p.places.base + (c.args.count - p.places.even)) (other-number c.args.count 0 c.if-count-eq0.false)) h)
