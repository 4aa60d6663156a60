use Rattle.std.proofs.Common.{◌∙◌, ap, sym, option_map}
use Rattle.std.specs.Prelude.{◌&&◌, ◌==◌}
use Rattle.indexmap.specs.IndexMap.{get_by}
use Rattle.id_table.specs.Slices.{is_key, slice_at, spots_in}
use Rattle.id_table.proofs.SliceLaws.{none-of, same-key, slice-entered}
use Rattle.id_table.proofs.slices.enter_slice.Goals as goal

pub returns : goal.returns
returns c = λ page offset. slice-entered (get_by (is_key page offset) c.args.slices.now) (get_by (is_key page offset) c.insert.new.self)
    ((c.args.key.0 == page) && (c.args.key.1 == offset)) c.args.slice
    (λ e. sym (same-key (slice_at c.args.slices.now) c.args.key.0 c.args.key.1 page offset e)
    ∙ ap (option_map spots_in) (none-of _ (sym c.contains_key.ensures ∙ c.if-contains_key.false)))
    (c.in_ok-insert.ensures.updates.0 (page, offset))
