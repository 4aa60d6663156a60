use Rattle.std.proofs.Common.{◌≡◌, ◌∙◌, ◌++◌, ap, arith, refl, sym, true, List, [], ◌∷◌, length, rules}
use Rattle.std.specs.Prelude.{◌==◌}
use Rattle.std.specs.List.{flat_map}
use Rattle.std.proofs.lemmas.Bool.{eqb-true}
use Rattle.ix_base.specs.declared.breach.Found.{Found}
use Rattle.id_table.specs.Model.{Held, doubled_at}
use Rattle.page_rows.proofs.ApartRows.{apart_chosen}
use Rattle.page_rows.proofs.items.ensure_apart.Goals as goal

empty : (fs : List Found) → (length fs == 0) ≡ true → fs ≡ []
empty [] h = refl
empty (f ∷ fs) h = absurd (let z : length (f ∷ fs) ≡ 0 = eqb-true (length (f ∷ fs)) 0 h in omega arith)

pub returns-2 : goal.returns-2
returns-2 c =
    let h : Held = c.args.index.now in
    let found : c.doubled.new.breaches ≡ flat_map (doubled_at h) h.spots = c.in_ok-doubled.ensures.ok ∙ ap (λ (b : List Found). b ++ flat_map (doubled_at h) h.spots) c.new-twice.ensures in
    let is : c.is_empty.result ≡ true = search rules in
    apart_chosen h c.requires (sym found ∙ empty c.doubled.new.breaches (sym c.is_empty.ensures ∙ is))
