use Rattle.std.proofs.Common.{refl, sym}
use Rattle.ix_base.specs.Trees.{tree_of}
use Rattle.xbrl_parts.proofs.WhomLaws.{context_parts}
use Rattle.xbrl_parts.proofs.contexts.read_context.Goals as goal

pub returns-then-not-is_whole : goal.returns-then-not-is_whole
returns-then-not-is_whole c = rw (context_parts (tree_of c.args.e.now), sym c.if-not-is_whole.ensures) refl

pub returns-in_default : goal.returns-in_default
returns-in_default c =
    rw (context_parts (tree_of c.args.e.now), sym c.if-not-is_whole.ensures, sym c.id_of.ensures, c.in_default.is) refl

pub returns-in_default-period_in : goal.returns-in_default-period_in
returns-in_default-period_in c =
    rw (context_parts (tree_of c.args.e.now), sym c.if-not-is_whole.ensures, sym c.id_of.ensures, c.in-Some.is, sym c.period_in.ensures, c.in_default-period_in.is)
    refl

pub returns : goal.returns
returns c =
    rw (context_parts (tree_of c.args.e.now), sym c.if-not-is_whole.ensures, sym c.id_of.ensures, c.in-Some.is, sym c.period_in.ensures, c.in-Some-period_in.is)
    c.context_with.ensures
