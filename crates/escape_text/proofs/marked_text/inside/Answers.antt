use Rattle.ix_base.specs.Spaces.{space_of}
use Rattle.escape_text.proofs.WithinLaws.{numbered-rest}
use Rattle.escape_text.proofs.marked_text.inside.Goals as goal

pub returns-clause-within : goal.returns-clause-within
returns-clause-within c = λ spaces h. record {
  inner = λ by. numbered-rest (space_of c.args.name) spaces (h.inner by);
  outer = c.outer_of.ensures.within spaces h.inner;
}
