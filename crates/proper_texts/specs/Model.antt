-- What was gathered of a content.
use Rattle.std.specs.Prelude.{◌≡◌}
use Rattle.ix_base.specs.PlainContents.{Said}
use Rattle.proper_texts.specs.declared.held.Held.{Held}
use Rattle.instance_lines.specs.Canonical.{fact_names}
use Rattle.instance_lines.specs.Holdings.{all_arcs, all_names, all_notes, fact_ids, items_in}
use Rattle.instance_lines.specs.Tables.{values_of}

-- its items, the ids and names of its facts, its names, footnotes and arcs
pub record IsHeld (c : Said) (h : Held) : Type 0 where
  pub items : values_of h.items.items ≡ items_in c.facts
  pub ids : values_of h.ids.items ≡ fact_ids c.facts
  pub fact_names : values_of h.fact_names.items ≡ fact_names c.facts
  pub names : values_of h.names.items ≡ all_names c
  pub notes : values_of h.notes.items ≡ all_notes c
  pub arcs : values_of h.arcs.items ≡ all_arcs c
