use Rattle.std.proofs.Common.{◌≡◌, ◌∙◌, ap, refl, subst, sym, false}
use Rattle.std.proofs.lemmas.Result.{on_ok_weaker}
use Rattle.link_ids.specs.declared.attributes.LinkAttribute.{LinkAttribute}
use Rattle.link_ids.specs.declared.attributes.LinkAttribute.TheVariants as attribute
use Rattle.page_links.specs.declared.standing.Links.{Links}
use Rattle.page_links.specs.LinkStates.{is_tuple_ref}
use Rattle.link_ids.specs.Links.{Link}
use Rattle.page_links.specs.LinkTables.{AreFirstOnPages, named_in, named_of, with_link, counts_of}
use Rattle.page_links.proofs.StandingLaws.{id-linked, tuple-linked}
use Rattle.page_links.proofs.standing.Links.link.Goals as goal
use Rattle.page_links.proofs.standing.Links.link.Goals.{in-TupleRef+in_ok-before-in-TupleRef, in_default+in_ok-before-in_default}

no-tuple_ref : (a : LinkAttribute) → (a ≡ attribute.TupleRef → ⊥) → is_tuple_ref a ≡ false
no-tuple_ref attribute.TupleRef h = absurd (h refl)
no-tuple_ref a h = refl

pub returns : goal.returns
returns c names es ts ls e are =
    let kept = c.args.self.now in
    let new = c.count_link.new.self in
    let id = c.args.id.now in
    let l : Link = record { attribute = c.args.attribute; id = id; element = e } in
    let same = c.count_link.ensures.same in
    elim c.match-attribute.branch [
      | in-TupleRef+in_ok-before-in-TupleRef w ↦
          on_ok_weaker c.count_link.result
          (λ h. tuple-linked names es ts ls kept are l new (ap is_tuple_ref w.in-TupleRef.is) (same.0 ∙ ap (λ (s : Links). s.ids) w.self-is)
          (λ q. ap (λ (s : Links). named_in s.tuple_ids q) (λ i. record new { tuple_ids = (same.1 ∙ ap (λ (s : Links). s.tuple_ids) w.self-is) i }) ∙ w.in_ok-before-in-TupleRef.ensures.kept q)
          (h ∙ (λ i. with_link (named_of (w.before-is i)) (counts_of (w.self-is i))) ∙ ap (λ n. with_link n (counts_of kept)) w.in_ok-before-in-TupleRef.ensures.before))
          c.count_link.ensures.counts
      | in_default+in_ok-before-in_default w ↦
          on_ok_weaker c.count_link.result
          (λ h. id-linked names es ts ls kept are l new (no-tuple_ref c.args.attribute w.in_default.not-TupleRef) (same.1 ∙ ap (λ (s : Links). s.tuple_ids) w.self-is)
          (λ q. ap (λ (s : Links). named_in s.ids q) (λ i. record new { ids = (same.0 ∙ ap (λ (s : Links). s.ids) w.self-is) i }) ∙ w.in_ok-before-in_default.ensures.kept q)
          (subst AreFirstOnPages (sym (same.0 ∙ ap (λ (s : Links). s.ids) w.self-is)) (w.in_ok-before-in_default.ensures.pages are.pages))
          (h ∙ (λ i. with_link (named_of (w.before-is i)) (counts_of (w.self-is i))) ∙ ap (λ n. with_link n (counts_of kept)) w.in_ok-before-in_default.ensures.before))
          c.count_link.ensures.counts
    ]
