use Rattle.std.proofs.Common.{◌≡◌, ◌++◌, ◌+◌, [], drop, map}
use Rattle.ix_base.specs.WrittenMarkup.{attrs_text}
use Rattle.page_tree.specs.FineMarkup.{declaring}
use Rattle.page_plain.specs.Bare.{numbered}
use Rattle.page_plain.proofs.attrs.push_declarations.Given as goal

-- what is appended and what is left are what is due
abbrev pub invariant-loop-space : goal.invariant-loop-space
invariant-loop-space l = record {
  number : l.number ≡ l.space-index + 1;
  text : l.out ++ attrs_text (map declaring (numbered (l.space-index + 1) (map (λ s. s.now) (drop l.space-index l.spaces)))) []
      ≡ l.initial.out ++ attrs_text (map declaring (numbered 1 (map (λ s. s.now) l.spaces))) [];
}
