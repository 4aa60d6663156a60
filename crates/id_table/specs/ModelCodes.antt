-- Codes by which proofs tell indices apart.
use Rattle.std.specs.Prelude.{ℕ, List, Bool, refl}
use Rattle.std.specs.Coded.{Coded, code_by, coded×, coded_ℕ, coded_list, coded_bool}
use Rattle.ix_base.specs.Elements.{Placed}
use Rattle.ix_base.specs.LocatedElements.{Located}
use Rattle.ix_base.specs.TreeCodes.{tree_code}
use Rattle.ix_base.specs.Trees.{Tree}
use Rattle.id_table.specs.Model.{Choice, Held}

abbrev pub placed_code : Coded Placed
placed_code = code_by (Tree × List Tree) (coded× tree_code (coded_list tree_code)) (λ p. (p.tree, p.above)) (λ p. record { tree = p.0; above = p.1 }) (λ _. refl)

abbrev pub located_code : Coded Located
located_code = code_by (ℕ × Placed) (coded× coded_ℕ placed_code) (λ n. (n.page, n.placed)) (λ p. record { page = p.0; placed = p.1 }) (λ _. refl)

abbrev pub choice_code : Coded Choice
choice_code = code_by (List ℕ × Located) (coded× (coded_list coded_ℕ) located_code) (λ c. (c.id, c.element)) (λ p. record { id = p.0; element = p.1 }) (λ _. refl)

abbrev pub held_code : Coded Held
held_code = code_by (List Located × (List Choice × Bool)) (coded× (coded_list located_code) (coded× (coded_list choice_code) coded_bool))
    (λ h. (h.spots, (h.choices, h.is_spent))) (λ p. record { spots = p.0; choices = p.1.0; is_spent = p.1.1 }) (λ _. refl)
