use Rattle.std.proofs.Common.{◌≡◌, ◌∙◌, ap, sym, subst, Some, None, ℕ, List, option_map}
use Rattle.std.specs.Borrow.{Bor}
use Rattle.std.specs.Prelude.{IfSome}
use Rattle.ix_base.specs.Spots.{IsOnOnePage}
use Rattle.ix_base.specs.LocatedElements.{Located, located}
use Rattle.ix_base.specs.Membership.{tuple_ref_of}
use Rattle.ix_base.specs.declared.tree.Spot.{Spot}
use Rattle.id_table.proofs.OnPages.{only-All}
use Rattle.tuples.specs.Model.{owner_by, tuple_at}
use Rattle.id_table.specs.Slices.{lists_in}
use Rattle.tuples.proofs.KeptLaws.{placed-map, tuple-is}
use Rattle.tuples.proofs.members.Members.owner.Goals as goal

pub returns-in-Some : goal.returns-in-Some
returns-in-Some c =
    let e = located c.args.fact.now in
    let id : tuple_ref_of e ≡ Some c.in-Some.id.now = sym c.tuple_ref.ensures ∙ ap (option_map (λ (s : Bor (List ℕ)). s.now)) c.in-Some.is in
    let found
    = ap (option_map (λ (s : Bor Spot). located s.now)) c.one_in.ensures
    ∙ sym (tuple-is c.self.inside.tuples (lists_in c.self.inside.slices) c.in-Some.id.now)
    ∙ ap (λ k. tuple_at k c.in-Some.id.now) c.self.view_is
    ∙ sym (ap (owner_by c.args.self.now e) id) in
    record {
      placed = placed-map c.one_in.result ∙ ap (option_map (λ (o : Located). o.placed)) found;
      located = λ on. found;
      page = λ on. subst (λ o. IfSome o (λ (s : Bor Spot). IsOnOnePage s.now)) (sym c.one_in.ensures)
          (only-All (λ (s : Bor Spot). IsOnOnePage s.now) _ (c.self.invariant c.in-Some.id.now));
    }

pub returns-in-None : goal.returns-in-None
returns-in-None c =
    let e = located c.args.fact.now in
    let none : tuple_ref_of e ≡ None = sym c.tuple_ref.ensures ∙ ap (option_map (λ (s : Bor (List ℕ)). s.now)) c.in-None.is in
    record {
      placed = c.tuple_around.ensures.placed ∙ sym (ap (λ o. option_map (λ (x : Located). x.placed) (owner_by c.args.self.now e o)) none);
      located = λ on. c.tuple_around.ensures.located on ∙ sym (ap (owner_by c.args.self.now e) none);
      page = c.tuple_around.ensures.page;
    }
