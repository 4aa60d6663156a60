use Rattle.std.proofs.Common.{◌∙◌, ap, List, ℕ}
use Rattle.std.proofs.lemmas.Result.{on_ok_weaker}
use Rattle.std.specs.List.{slice_get}
use Rattle.std.specs.Prelude.{◌&&◌, ◌==◌}
use Rattle.id_table.specs.declared.slice.Slice.{Slice}
use Rattle.id_table.specs.Slices.{put_first, spots_in}
use Rattle.continuations.specs.Model.{chain_at}
use Rattle.continuations.proofs.PlaceLaws.{entered-front, entered-rest, rising-more}
use Rattle.continuations.proofs.by_place.ByPlace.enter.Goals as goal

pub invariant_of-self-then-is_next : goal.invariant_of-self-then-is_next
invariant_of-self-then-is_next c =
    rising-more c.self.inside.front.items c.push.new.self.items (c.args.place, c.args.chain) c.self.invariant c.in_ok-push.ensures.items
    (λ i x s. c.is_next.ensures.behind c.if-is_next.true i x (ap (λ (es : List ((ℕ × ℕ) × Slice)). slice_get es i) c.as_slice.ensures.value ∙ s))

pub returns-then-is_next : goal.returns-then-is_next
returns-then-is_next c = λ page offset.
    entered-front c.self.inside.front.items c.push.new.self.items c.self.inside.rest c.args.place c.args.chain page offset
    (c.is_next.ensures.rest c.if-is_next.true) c.in_ok-push.ensures.items
    ∙ ap (λ cs. put_first (chain_at cs page offset) ((c.args.place.0 == page) && (c.args.place.1 == offset)) (spots_in c.args.chain)) c.self.view_is

pub returns : goal.returns
returns c =
    on_ok_weaker c.enter_slice.result
    (λ h page offset.
    entered-rest c.self.inside.front.items c.self.inside.rest c.enter_slice.new.slices ((c.args.place.0 == page) && (c.args.place.1 == offset)) c.args.chain page offset (h page offset)
    ∙ ap (λ cs. put_first (chain_at cs page offset) ((c.args.place.0 == page) && (c.args.place.1 == offset)) (spots_in c.args.chain)) c.self.view_is)
    c.enter_slice.ensures
