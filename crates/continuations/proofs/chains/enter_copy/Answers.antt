use Rattle.std.proofs.Common.{◌∙◌, ap, List}
use Rattle.std.proofs.lemmas.Result.{on_ok_weaker}
use Rattle.std.specs.Borrow.{Bor}
use Rattle.ix_base.specs.declared.tree.Spot.{Spot}
use Rattle.ix_base.specs.LinkRules.{is_at}
use Rattle.ix_base.specs.LocatedElements.{located}
use Rattle.id_table.specs.Slices.{put_first}
use Rattle.id_table.specs.Tables.{all_located}
use Rattle.continuations.specs.Model.{chain_at}
use Rattle.continuations.proofs.chains.enter_copy.Goals as goal

pub returns : goal.returns
returns c =
    on_ok_weaker c.enter_at_head.result
    (λ h page offset.
    h page offset
    ∙ ap (λ (xs : List (Bor Spot)). put_first (chain_at c.args.kept.now page offset) (is_at page offset (located c.args.head.now)) (all_located xs)) c.in_ok-slice.ensures)
    c.enter_at_head.ensures
