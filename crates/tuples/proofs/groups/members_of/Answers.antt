use Rattle.std.proofs.Common.{◌∙◌, ap}
use Rattle.std.proofs.lemmas.Result.{IfOk-weaker}
use Rattle.tuples.specs.OwnedFacts.{all_seen}
use Rattle.tuples.proofs.MemberLaws.{members-are}
use Rattle.tuples.proofs.groups.members_of.Goals as goal

pub returns : goal.returns
returns c = IfOk-weaker c.groups_of.result _ _ (λ g h. record {
  members = λ page offset. ap all_seen (h.members page offset) ∙ members-are c.args.index.now.spots c.args.facts.now page offset c.requires.seen c.requires.known;
  rising = h.rising;
}) c.groups_of.ensures
