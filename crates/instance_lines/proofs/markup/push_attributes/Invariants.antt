use Rattle.std.proofs.Common.{◌≡◌, ◌++◌, List, ℕ, drop}
use Rattle.ix_base.specs.WrittenMarkup.{attrs_text}
use Rattle.instance_lines.specs.Tags.{attrs_of}
use Rattle.instance_lines.proofs.markup.push_attributes.Given as goal

abbrev pub invariant-loop-attribute : goal.invariant-loop-attribute
invariant-loop-attribute l =
    (more : List ℕ) → l.out ++ attrs_text (attrs_of (drop l.attribute-index l.attributes)) more ≡ l.initial.out ++ attrs_text (attrs_of l.attributes) more
