use Rattle.std.proofs.Common.{refl}
use Rattle.instance_out.specs.Denotation.{footnote_in}
use Rattle.ix_base.specs.Namespaces.{xml_namespace}
use Rattle.instance_tree.proofs.notes.footnote_of.Goals as goal

pub returns : goal.returns
unfolding footnote_in xml_namespace
returns c =
    rw (← c.is_typed.ensures, c.if-not-is_typed.false, ← c.in-Some.ensures, ← c.in-Some-xlink_of.ensures, ← c.in-Some-attr_of.ensures, ← c.xlink_of-3.ensures)
    (rw (c.in_ok-of.ensures, c.in_ok-of-2.ensures, c.in_ok-of_some.ensures, c.in_ok-of-3.ensures, c.in_ok-body_of.ensures) refl)
