-- A view, as the definitions have it.
use Rattle.std.specs.Prelude.{option_map}
use Rattle.ix_base.specs.Trees.{named}
use Rattle.ix_base.specs.FactViews.{View}
use Rattle.fact_view.specs.declared.facts.FactView.{FactView}

abbrev pub seen : FactView → View
seen v = record {
  name = named v.name;
  target = v.target.now;
  nil = v.nil;
  scale = v.scale;
  negative = v.negative;
  escape = v.escape;
  format = option_map named v.format;
}
