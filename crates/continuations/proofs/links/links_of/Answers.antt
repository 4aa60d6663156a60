use Rattle.std.proofs.Common.{◌≡◌, ◌∙◌, ◌↔◌, ◌++◌, ℕ, ◌<◌, ap, sym, subst, length, List, Some, true}
use Rattle.std.proofs.lemmas.List.Elements.{All-append}
use Rattle.std.specs.Borrow.{Bor}
use Rattle.std.specs.List.{list_any}
use Rattle.ix_base.specs.declared.tree.Spot.{Spot}
use Rattle.ix_base.specs.LinkRules.{lacks_continuation}
use Rattle.ix_base.specs.Spots.{IsOnOnePage}
use Rattle.id_table.specs.Model.{asked}
use Rattle.id_table.specs.Tables.{AreOnOwnPages, all_located, chain_spots}
use Rattle.continuations.specs.Numbers.{nexts_of}
use Rattle.continuations.specs.Walks.{Joined, next_at}
use Rattle.continuations.proofs.LinkLaws.{any-kinds, both-located, lacking-kind}
use Rattle.continuations.proofs.Numbering.{count-elements, links-are}
use Rattle.continuations.proofs.links.links_of.Goals as goal

pub any_joined-requires : goal.any_joined-requires
any_joined-requires c =
    let a = asked c.args.index.now in
    let conts = c.continuations-elements.result.now in
    let starts = c.starts.result.now in
    let both = both-located c.args.index.now.spots conts starts c.continuations-elements.ensures.elements c.starts.ensures.elements in
    let nexts = links-are a _ _ _ _ _ (ap all_located c.in_ok-spots.ensures.spots ∙ both)
    (sym (count-elements conts) ∙ ap length c.continuations-elements.ensures.elements)
    (c.in_ok-spots.ensures.nexts ∙ ap (λ (ss : List (Bor Spot)). nexts_of a (all_located ss)) (sym c.in_ok-spots.ensures.spots)) in
    subst (λ ns. (k j : ℕ) → next_at ns k ≡ Some j → j < length conts) (sym c.as_slice.ensures.value) nexts.below

pub returns : goal.returns
returns c =
    let a = asked c.args.index.now in
    let conts = c.continuations-elements.result.now in
    let starts = c.starts.result.now in
    let counted = sym (count-elements conts) ∙ ap length c.continuations-elements.ensures.elements in
    let both = both-located c.args.index.now.spots conts starts c.continuations-elements.ensures.elements c.starts.ensures.elements in record {
      spots = ap all_located c.in_ok-spots.ensures.spots ∙ both;
      counted = counted;
      nexts = links-are a _ _ _ _ _ (ap all_located c.in_ok-spots.ensures.spots ∙ both) counted
          (c.in_ok-spots.ensures.nexts ∙ ap (λ (ss : List (Bor Spot)). nexts_of a (all_located ss)) (sym c.in_ok-spots.ensures.spots));
      on_pages = subst AreOnOwnPages (sym c.in_ok-spots.ensures.spots)
          (All-append (λ (s : Bor Spot). IsOnOnePage s.now) (chain_spots conts) (chain_spots starts) c.continuations-elements.ensures.pages c.starts.ensures.pages);
      lacks = c.in_ok-spots.ensures.lacks ∙ ap (list_any (lacks_continuation a)) both ∙ any-kinds (lacks_continuation a) (lacking-kind a) c.args.index.now.spots;
      joins = subst (λ ns. (c.in_ok-joins.joins ≡ true) ↔ Joined ns) c.as_slice.ensures.value c.in_ok-joins.ensures;
    }
