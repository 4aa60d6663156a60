use Rattle.std.proofs.Common.{◌≡◌, ◌∙◌, ◌++◌, ◌∷◌, ◌+◌, [], ap, append_assoc, sym, take, List}
use Rattle.std.proofs.lemmas.List.{take_all, take_more}
use Rattle.std.specs.Borrow.{Bor}
use Rattle.std.specs.List.{filter}
use Rattle.ix_base.specs.declared.tree.Spot.{Spot}
use Rattle.ix_base.specs.LinkRules.{is_footnote}
use Rattle.ix_base.specs.LocatedElements.{located}
use Rattle.id_table.specs.Tables.{all_located}
use Rattle.footnotes.proofs.LinkLaws.{notes_to, notes_to-joins}
use Rattle.footnotes.proofs.footnotes.push_notes.Goals as goal

pub loop-to-preserved : goal.loop-to-preserved
loop-to-preserved c =
    let g = c.args.group.now in
    let ends = g.ends.now in
    let i = c.loop-to.to-index in
    let x = c.to-item.result in
    let old = all_located c.args.notes.now.items in
    let more : take (i + 1) ends ≡ take i ends ++ x ∷ [] =
    take_more ends i x c.loop-to-test.true ∙ ap (λ (t : Bor Spot). take i ends ++ t ∷ []) (sym c.to-item.is) in
    c.in_ok-push_if_footnote.ensures ∙ ap (λ l. l ++ filter is_footnote (located x.now ∷ [])) c.loop-to.invariant
    ∙ append_assoc old (notes_to g (take i ends)) (filter is_footnote (located x.now ∷ []))
    ∙ ap (λ l. old ++ l) (sym (ap (notes_to g) more ∙ notes_to-joins g (take i ends) (x ∷ [])))

pub returns : goal.returns
returns c =
    let g = c.args.group.now in
    c.loop-to.invariant ∙ ap (λ (ss : List (Bor Spot)). all_located c.args.notes.now.items ++ notes_to g ss) (take_all c.loop-to.to-index g.ends.now c.loop-to-test.false)
