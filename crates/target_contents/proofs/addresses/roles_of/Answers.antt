use Rattle.std.proofs.Common.{◌∙◌, ap, sym, map}
use Rattle.std.specs.List.{filter}
use Rattle.ix_base.specs.LinkRules.{address_of}
use Rattle.ix_base.specs.LocatedElements.{Located, base_in, located}
use Rattle.id_table.specs.Tables.{all_located}
use Rattle.std.proofs.Common.{◌∷◌, [], None, List, take}
use Rattle.target_contents.specs.RoleAddresses.{refers_to, seen_from}
use Rattle.target_contents.proofs.AmongLaws.{located-more}
use Rattle.target_contents.proofs.RedirectLaws.{seen-more}
use Rattle.target_contents.proofs.addresses.roles_of.Goals as goal

pub loop-spot-preserved : goal.loop-spot-preserved
loop-spot-preserved c =
    let bases = base_in c.args.bases.now.pages in
    let spots = c.args.spots.now in
    let i = c.loop-spot.spot-index in
    let s = c.spot-item.result in λ q.
    c.in_ok-note_at.ensures q
    ∙ ap (λ o. seen_from o (map (address_of bases) (filter (refers_to c.args.kind q) (located s.now ∷ [])))) (c.loop-spot.invariant q)
    ∙ seen-more bases c.args.kind q (all_located (take i spots)) (located s.now ∷ [])
    ∙ ap (λ (es : List Located). seen_from None (map (address_of bases) (filter (refers_to c.args.kind q) es)))
    (sym (located-more spots i s c.loop-spot-test.true c.spot-item.is))
