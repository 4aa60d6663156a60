use Rattle.std.proofs.Common.{◌≡◌, ◌+◌, ◌++◌, List, ℕ, drop, map}
use Rattle.ix_base.specs.WrittenMarkup.{attrs_text}
use Rattle.instance_lines.specs.Prefixes.{declaration, numbered}
use Rattle.instance_lines.specs.Tables.{values_of}
use Rattle.instance_lines.proofs.prefix.root_of.Given as goal

abbrev pub invariant-loop-space : goal.invariant-loop-space
invariant-loop-space l = record {
  number : l.number ≡ l.space-index + 1;
  text : (more : List ℕ) → l.out ++ attrs_text (map declaration (numbered (l.space-index + 1) (values_of (drop l.space-index l.spaces)))) more ≡ l.initial.out ++ attrs_text (map declaration (numbered 1 (values_of l.spaces))) more;
}
