use Rattle.std.proofs.Common.{◌∙◌, ap, sym, length, option_map}
use Rattle.std.specs.Prelude.{◌&&◌, nat_lt}
use Rattle.std.specs.List.{filter}
use Rattle.ix_base.specs.LinkRules.{are_many, same_order, ties}
use Rattle.ix_base.specs.LocatedElements.{offset_of}
use Rattle.id_table.specs.Model.{asked}
use Rattle.tuples.specs.FactGroups.{group_at}
use Rattle.tuples.specs.OwnedFacts.{all_seen, owner_seen, seen}
use Rattle.tuples.proofs.MemberLaws.{repeated-among, none-repeated}
use Rattle.tuples.proofs.equal_orders.repeats_order.Goals as goal

pub returns-in-Some : goal.returns-in-Some
returns-in-Some c =
    let e = seen c.args.fact.now in
    let o = owner_seen c.in-Some.owner in
    let a = asked c.args.index.now in
    c.is_order_repeated_at.ensures
    ∙ (λ i. nat_lt 1 (length (filter (same_order e) (all_seen (group_at c.args.groups.now (c.place_of.ensures.page i) (c.place_of.ensures.offset i))))))
    ∙ ap (λ l. nat_lt 1 (length (filter (same_order e) l))) (c.requires.groups.members o.page (offset_of o))
    ∙ repeated-among c.args.index.now.spots e o (sym c.requires.known ∙ ap (option_map owner_seen) c.in-Some.is)
    ∙ sym (ap (λ b. b && are_many a (ties a e)) c.args.fact.now.is_fact)

pub returns-in-None : goal.returns-in-None
returns-in-None c =
    let e = seen c.args.fact.now in
    let a = asked c.args.index.now in
    none-repeated c.args.index.now.spots e (sym c.requires.known ∙ ap (option_map owner_seen) c.in-None.is)
    ∙ sym (ap (λ b. b && are_many a (ties a e)) c.args.fact.now.is_fact)
