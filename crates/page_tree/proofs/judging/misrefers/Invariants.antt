use Rattle.std.proofs.Common.{◌≡◌, drop, map}
use Rattle.page_constructs.specs.Model.{attribute_of}
use Rattle.page_tree.specs.Tags.{misrefers}
use Rattle.page_tree.proofs.judging.misrefers.Given as goal

abbrev pub invariant-loop-attr : goal.invariant-loop-attr
invariant-loop-attr l = misrefers (map attribute_of (drop l.attr-index l.attrs)) ≡ misrefers (map attribute_of l.attrs)
