use Rattle.std.proofs.Common.{sym}
use Rattle.std.proofs.lemmas.List.Elements.{All-push, All-same}
use Rattle.id_table.specs.Model.{asked}
use Rattle.footnotes.specs.NamedEnds.{IsKnown}
use Rattle.footnotes.proofs.LinkLaws.{kept-seen, left-out}
use Rattle.footnotes.proofs.relationships.push_if_relationship.Goals as goal

pub returns-in_ok-push-clause-seen : goal.returns-in_ok-push-clause-seen
returns-in_ok-push-clause-seen c =
    kept-seen c.args.relationships.now.items c.in_ok-relationship.relationship _ c.push.new.self.items c.in_ok-relationship.ensures.seen
    (sym c.if-is_relationship.ensures) c.in_ok-push.ensures.items

pub returns-in_ok-push-clause-known : goal.returns-in_ok-push-clause-known
returns-in_ok-push-clause-known c =
    let P = IsKnown (asked c.args.index.now) in
    All-same P c.push.new.self.items _ c.in_ok-push.ensures.items
    (All-push P c.args.relationships.now.items c.in_ok-relationship.relationship c.requires c.in_ok-relationship.ensures.known)

pub returns-else-is_relationship-clause-seen : goal.returns-else-is_relationship-clause-seen
returns-else-is_relationship-clause-seen c = left-out c.args.relationships.now.items _ (sym c.if-is_relationship.ensures)
