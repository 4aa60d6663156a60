use Rattle.std.proofs.Common.{◌∙◌, ◌∷◌, [], Bool, List, ℕ, Option, ap, cond, subst, sym}
use Rattle.std.specs.List.{cons_option, filter_map}
use Rattle.std.specs.Prelude.{OnOk}
use Rattle.ix_base.specs.LocatedElements.{located}
use Rattle.link_ids.specs.Links.{unit_named}
use Rattle.id_table.specs.Gathered.{Gathers, texts_of}
use Rattle.id_table.proofs.named.NamedIds.add.Goals as goal

pub returns-clause-units : goal.returns-clause-units
returns-clause-units c =
    let e = located c.args.spot.now in
    let item = sym c.is_item.ensures ∙ c.if-not-is_item.false in
    subst (λ (xs : List (List ℕ)). OnOk c.push_id-2.result (Gathers (texts_of c.args.self.now.units.items) (texts_of c.push_id-2.new.ids.items) xs))
    (ap (λ (o : Option (List ℕ)). cons_option o []) c.unit_id.ensures ∙ ap (λ (b : Bool). filter_map unit_named (cond b (e ∷ []) [])) (sym item)) c.push_id-2.ensures
