use Rattle.std.proofs.Common.{◌∙◌, ap, sym, List, ℕ, Option, option_map}
use Rattle.std.specs.Map.{lookup}
use Rattle.std.specs.Option.{option_or}
use Rattle.id_table.specs.declared.slice.Slice.{Slice}
use Rattle.id_table.specs.Slices.{is_key, slice_at, spots_in}
use Rattle.continuations.specs.Model.{chain_at}
use Rattle.continuations.proofs.PlaceLaws.{chain-is}
use Rattle.continuations.proofs.by_place.ByPlace.find.Goals as goal

pub returns-in-Some : goal.returns-in-Some
returns-in-Some c =
    let page = c.args.place.0 in
    let offset = c.args.place.1 in
    let rest = c.self.inside.rest in
    ap (λ (o : Option Slice). option_or (option_map spots_in o) (slice_at rest page offset)) (sym c.in-Some.is ∙ c.find_in.ensures)
    ∙ ap (λ (es : List ((ℕ × ℕ) × Slice)). option_or (option_map spots_in (lookup (is_key page offset) es)) (slice_at rest page offset)) c.as_slice.ensures.value
    ∙ sym (chain-is c.self.inside.front.items rest page offset) ∙ ap (λ cs. chain_at cs page offset) c.self.view_is

pub returns-in-None : goal.returns-in-None
returns-in-None c =
    let page = c.args.place.0 in
    let offset = c.args.place.1 in
    let rest = c.self.inside.rest in
    c.slice_in.ensures
    ∙ ap (λ (o : Option Slice). option_or (option_map spots_in o) (slice_at rest page offset)) (sym c.in-None.is ∙ c.find_in.ensures)
    ∙ ap (λ (es : List ((ℕ × ℕ) × Slice)). option_or (option_map spots_in (lookup (is_key page offset) es)) (slice_at rest page offset)) c.as_slice.ensures.value
    ∙ sym (chain-is c.self.inside.front.items rest page offset) ∙ ap (λ cs. chain_at cs page offset) c.self.view_is
