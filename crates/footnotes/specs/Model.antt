-- What is to be known of the relations of a set: its arcs, with their targets.
use Rattle.std.specs.Prelude.{ℕ, ◌≡◌, true, List, [], map, bytes_eq, Vec, Contains, IfSome, All, ◌<◌, refl}
use Rattle.std.specs.Coded.{Coded, code_by, coded×, coded_ℕ, coded_list}
use Rattle.std.specs.Global.{Global}
use Rattle.std.specs.Map.{lookup}
use Rattle.std.specs.Option.{option_map_or}
use Rattle.text_map.specs.Texts.{Texts}
use Rattle.ix_base.specs.declared.content.Arc.{Arc}
use Rattle.ix_base.specs.LocatedElements.{Located, is_start}
use Rattle.id_table.specs.ModelCodes.{located_code}
use Rattle.continuations.specs.Model.{chain_at, StartsAlone}
use Rattle.footnotes.specs.declared.arcs.ArcGroup.{ArcGroup}
use Rattle.footnotes.specs.ArcGroups.{arcs_along}
use Rattle.footnotes.specs.FootnoteLinks.{Between, arcs_in}

-- the arcs in a target
abbrev pub arcs_at : List (List ℕ × List Between) → List ℕ → List Between
arcs_at r target = option_map_or (λ xs. xs) (lookup (bytes_eq target) r) []

-- in each target the arcs that these elements have there
abbrev pub AreRelationsOf : List (List ℕ × List Between) → List Located → Type 0
AreRelationsOf r es = (target : List ℕ) → arcs_at r target ≡ arcs_in es target

-- no two of these elements with which chains begin are at one place
abbrev pub StandApart : List Located → Type 0
StandApart es = (e : Located) → Contains es e → is_start e ≡ true → StartsAlone es e

-- the elements of these chains are of the first so many pages
abbrev pub AreOnPages : List ((ℕ × ℕ) × List Located) → ℕ → Type 0
AreOnPages chains pages = (page offset : ℕ) → IfSome (chain_at chains page offset) (All (λ e. e.page < pages))

-- what a table from targets to groups of arcs says
abbrev pub arcs_kept : Texts (Vec ArcGroup Global) → List (List ℕ × List Between)
arcs_kept m = map (λ e. (e.0, arcs_along e.1.items)) m

-- codes by which proofs tell relations apart
abbrev pub arc_code : Coded Arc
arc_code = code_by ((List ℕ × List ℕ) × (List ℕ × List ℕ))
    (coded× (coded× (coded_list coded_ℕ) (coded_list coded_ℕ)) (coded× (coded_list coded_ℕ) (coded_list coded_ℕ)))
    (λ a. ((a.arcrole, a.from_id), (a.to_id, a.order)))
    (λ p. record { arcrole = p.0.0; from_id = p.0.1; to_id = p.1.0; order = p.1.1 }) (λ _. refl)

abbrev pub between_code : Coded Between
between_code = code_by ((List ℕ × Arc) × (Located × Located))
    (coded× (coded× (coded_list coded_ℕ) arc_code) (coded× located_code located_code))
    (λ x. ((x.role, x.arc), (x.from, x.to)))
    (λ p. record { role = p.0.0; arc = p.0.1; from = p.1.0; to = p.1.1 }) (λ _. refl)

abbrev pub kept_code : Coded (List (List ℕ × List Between))
kept_code = coded_list (coded× (coded_list coded_ℕ) (coded_list between_code))
