use Rattle.std.proofs.Common.{◌∙◌, ap, sym}
use Rattle.std.proofs.lemmas.Result.{on_ok_weaker}
use Rattle.ix_base.specs.LinkRules.{is_at}
use Rattle.ix_base.specs.LocatedElements.{Located, located}
use Rattle.id_table.specs.Slices.{put_first}
use Rattle.id_table.specs.Tables.{all_located}
use Rattle.continuations.specs.Model.{chain_at}
use Rattle.continuations.proofs.Numbering.{located-at}
use Rattle.continuations.proofs.Walking.{some-inj}
use Rattle.continuations.proofs.chains.enter_chain.Goals as goal

pub returns-in-Ok : goal.returns-in-Ok
returns-in-Ok c =
    let l = c.args.links.now in
    let s = c.index.result in
    let got = c.as_slice.result.now in
    on_ok_weaker c.enter_copy.result
    (λ h e at page offset.
    h page offset
    ∙ ap (λ (x : Located). put_first (chain_at c.args.kept.now page offset) (is_at page offset x) (all_located got))
    (some-inj (located s.now.now) e (sym (located-at l.spots.items c.args.number s.now c.requires.number c.index.ensures) ∙ at))
    ∙ ap (put_first (chain_at c.args.kept.now page offset) (is_at page offset e)) (ap all_located c.as_slice.ensures.value ∙ c.in-Ok.ensures.chain e at))
    c.enter_copy.ensures
