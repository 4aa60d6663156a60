use Rattle.std.proofs.Common.{◌∙◌}
use Rattle.ix_base.specs.LocatedElements.{offset_of}
use Rattle.ix_base.specs.Membership.{tuple_ref_of}
use Rattle.id_table.specs.Model.{asked}
use Rattle.tuples.specs.Model.{tuples_in}
use Rattle.id_table.specs.Slices.{lists_in}
use Rattle.tuples.proofs.KeptLaws.{listed-is, owner-same, tuple-is}
use Rattle.tuples.proofs.members.kept.Goals as goal

pub returns : goal.returns
returns c =
    let ls = lists_in c.args.slices in
    let ts = tuples_in c.in_ok-tuples.tuples in
    record {
      members = λ t. listed-is c.args.slices ts t.page (offset_of t) ∙ c.requires t.page (offset_of t);
      owners = λ e. owner-same (record { lists = ls; tuples = ts }) (asked c.args.index.now) (λ id. tuple-is c.in_ok-tuples.tuples ls id ∙ c.in_ok-tuples.ensures.tuples id) e (tuple_ref_of e);
    }
