use Rattle.std.proofs.Common.{◌≡◌, ◌∙◌, ◌||◌, ap, sym, Some, None, option_map}
use Rattle.std.specs.Borrow.{Bor}
use Rattle.std.specs.List.{find, list_any}
use Rattle.std.specs.Prelude.{◌&&◌}
use Rattle.ix_base.specs.declared.tree.Spot.{Spot}
use Rattle.ix_base.specs.LinkRules.{are_any, from_ids, named_by, same_target, to_ids}
use Rattle.ix_base.specs.LocatedElements.{is_fact, located}
use Rattle.std.specs.Prelude.{not, ◌++◌}
use Rattle.id_table.specs.Model.{asked}
use Rattle.id_table.specs.Tables.{all_located}
use Rattle.footnotes.specs.NamedEnds.{seen}
use Rattle.footnotes.proofs.EndLaws.{differs, targets-differ, targets-none}
use Rattle.footnotes.proofs.rules.crosses_targets.Goals as goal

pub returns-in-Some : goal.returns-in-Some
returns-in-Some c =
    let r = c.args.relationship.now in
    let a = asked c.args.index.now in
    let fs = named_by is_fact a (from_ids (seen r) ++ to_ids (seen r)) in
    let there : find is_fact (all_located r.ends.spots.now) ≡ Some (located c.in-Some.first.now) =
    sym c.first_fact.ensures ∙ ap (option_map (λ (s : Bor Spot). located s.now)) c.in-Some.is in
    c.ends_differ_in_target.ensures
    ∙ ap (λ t. list_any (λ y. is_fact y && differs t y) (all_located r.sources.spots.now) || list_any (λ y. is_fact y && differs t y) (all_located r.ends.spots.now)) c.target_at.ensures
    ∙ targets-differ a (from_ids (seen r)) (to_ids (seen r)) (all_located r.sources.spots.now) (all_located r.ends.spots.now) (located c.in-Some.first.now)
    c.requires.known.sources c.requires.known.ends there
    ∙ sym (ap (λ b. b && are_any (named_by is_fact a (to_ids (seen r))) && list_any (λ x. list_any (λ y. not (same_target x y)) fs) fs) c.requires.is)

pub returns-in-None : goal.returns-in-None
returns-in-None c =
    let r = c.args.relationship.now in
    let a = asked c.args.index.now in
    let fs = named_by is_fact a (from_ids (seen r) ++ to_ids (seen r)) in
    let none : find is_fact (all_located r.ends.spots.now) ≡ None =
    sym c.first_fact.ensures ∙ ap (option_map (λ (s : Bor Spot). located s.now)) c.in-None.is in
    targets-none a (to_ids (seen r)) (all_located r.ends.spots.now) (list_any (λ x. list_any (λ y. not (same_target x y)) fs) fs) c.requires.known.ends none
    ∙ sym (ap (λ b. b && are_any (named_by is_fact a (to_ids (seen r))) && list_any (λ x. list_any (λ y. not (same_target x y)) fs) fs) c.requires.is)
