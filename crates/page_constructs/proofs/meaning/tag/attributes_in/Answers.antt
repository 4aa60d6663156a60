use Rattle.std.proofs.Common.{◌≡◌, ◌==◌, ℕ, Bool, List, [], rules, true, false, arith, sym, ap, ◌∙◌, subst, map, length, bytes_eq}
use Rattle.page_constructs.specs.Meanings.{attribute_at, behind_white, is_white_text, slash}
use Rattle.page_constructs.specs.Model.{attribute_of}
use Rattle.page_constructs.proofs.Parting.{white-none}
use Rattle.page_constructs.proofs.TagReading.{SoFar, so-far-none, so-far-more, end-white, end-slash, end-joined, end-bad, apart, joined, map-push}
use Rattle.page_constructs.proofs.meaning.tag.attributes_in.Goals as goal

pub loop-rest-init : goal.loop-rest-init
loop-rest-init c =
    let cleared : c.clear.new.self.items ≡ [] = search rules in
    (c.utf8.text, λ n l. subst (λ x. SoFar (map attribute_of x) c.args.text.now c.args.text.now n) (sym cleared) (so-far-none c.args.text.now n l))

-- white space is what has nothing behind it
is-white : (dark rest : List ℕ) (b : Bool) → dark ≡ behind_white rest → b ≡ (length dark == 0) → is_white_text rest ≡ b
is-white dark rest b d e = sym (e ∙ ap (λ t. length t == 0) d ∙ white-none rest)

pub returns-then-is_empty : goal.returns-then-is_empty
returns-then-is_empty c = λ n l.
    end-white (map attribute_of c.loop-rest.attrs.items) c.loop-rest.rest.now c.args.text.now n (c.loop-rest.invariant.1 n l)
    (is-white c.behind_white-dark.result.now c.loop-rest.rest.now true c.behind_white-dark.ensures c.if-is_empty.ensures)

pub returns-then-eq : goal.returns-then-eq
returns-then-eq c = λ n l.
    let ends : bytes_eq (behind_white c.loop-rest.rest.now) slash ≡ true = ap (λ x. bytes_eq x slash) (sym c.behind_white-dark.ensures) ∙ sym c.if-eq.ensures in
    end-slash (map attribute_of c.loop-rest.attrs.items) c.loop-rest.rest.now c.args.text.now n (c.loop-rest.invariant.1 n l) (is-white c.behind_white-dark.result.now c.loop-rest.rest.now false c.behind_white-dark.ensures c.if-is_empty.ensures) ends

pub returns-then-dark-rest : goal.returns-then-dark-rest
returns-then-dark-rest c = λ n l.
    let goes : bytes_eq (behind_white c.loop-rest.rest.now) slash ≡ false = ap (λ x. bytes_eq x slash) (sym c.behind_white-dark.ensures) ∙ sym c.if-eq.ensures in
    end-joined (map attribute_of c.loop-rest.attrs.items) c.loop-rest.rest.now c.args.text.now n (c.loop-rest.invariant.1 n l) (is-white c.behind_white-dark.result.now c.loop-rest.rest.now false c.behind_white-dark.ensures c.if-is_empty.ensures) goes
    (joined c.loop-rest.rest.now (ap length (sym c.behind_white-dark.ensures) ∙ c.if-dark-rest.true))

pub loop-rest-smaller : goal.loop-rest-smaller
loop-rest-smaller c =
    let less = rw c.in-Some.is at c.in_ok-attribute.ensures.shorter in
    let apart_ = Rattle.std.proofs.lemmas.Bool.ltb-true _ _ (apart c.loop-rest.rest.now (λ e. c.if-dark-rest.false (ap length c.behind_white-dark.ensures ∙ e))) in
    omega (arith, ap length c.behind_white-dark.ensures)

pub loop-rest-preserved : goal.loop-rest-preserved
loop-rest-preserved c =
    let less = rw c.in-Some.is at c.in_ok-attribute.ensures.shorter in
    let read = rw c.in-Some.is at c.in_ok-attribute.ensures.value in
    let goes : bytes_eq (behind_white c.loop-rest.rest.now) slash ≡ false = ap (λ x. bytes_eq x slash) (sym c.behind_white-dark.ensures) ∙ sym c.if-eq.ensures in
    let behind = apart c.loop-rest.rest.now (λ e. c.if-dark-rest.false (ap length c.behind_white-dark.ensures ∙ e)) in
    let apart_ = Rattle.std.proofs.lemmas.Bool.ltb-true _ _ behind in (
      rw c.in-Some.is at c.in_ok-attribute.ensures.text,
      λ n l. subst (λ x. SoFar x c.in-Some.more.now c.args.text.now n) (sym (ap (map attribute_of) c.in_ok-push-in-Some.ensures.items ∙ map-push attribute_of c.loop-rest.attrs.items c.in-Some.attribute))
          (so-far-more (map attribute_of c.loop-rest.attrs.items) c.loop-rest.rest.now c.args.text.now n (c.loop-rest.invariant.1 n l) (attribute_of c.in-Some.attribute) c.in-Some.more.now
          (is-white c.behind_white-dark.result.now c.loop-rest.rest.now false c.behind_white-dark.ensures c.if-is_empty.ensures) goes behind (ap attribute_at (sym c.behind_white-dark.ensures) ∙ sym read) (omega (arith, ap length c.behind_white-dark.ensures))),
    )

pub returns-in-None : goal.returns-in-None
returns-in-None c = λ n l.
    let read = rw c.in-None.is at c.in_ok-attribute.ensures.value in
    let goes : bytes_eq (behind_white c.loop-rest.rest.now) slash ≡ false = ap (λ x. bytes_eq x slash) (sym c.behind_white-dark.ensures) ∙ sym c.if-eq.ensures in
    end-bad (map attribute_of c.loop-rest.attrs.items) c.loop-rest.rest.now c.args.text.now n (c.loop-rest.invariant.1 n l) (is-white c.behind_white-dark.result.now c.loop-rest.rest.now false c.behind_white-dark.ensures c.if-is_empty.ensures) goes
    (apart c.loop-rest.rest.now (λ e. c.if-dark-rest.false (ap length c.behind_white-dark.ensures ∙ e))) (ap attribute_at (sym c.behind_white-dark.ensures) ∙ sym read)
