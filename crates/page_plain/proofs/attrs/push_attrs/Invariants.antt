use Rattle.std.proofs.Common.{◌≡◌, ◌++◌, [], drop, map}
use Rattle.ix_base.specs.Trees.{valued}
use Rattle.ix_base.specs.WrittenMarkup.{attrs_text}
use Rattle.page_plain.specs.Bare.{attr_in, kept_attrs, numbered}
use Rattle.page_plain.proofs.attrs.push_attrs.Given as goal

-- what is appended and what is left are what is due
abbrev pub invariant-loop-attr : goal.invariant-loop-attr
invariant-loop-attr l = l.out ++ attrs_text (map (attr_in (numbered 1 l.prefixes.texts)) (kept_attrs (map valued (drop l.attr-index l.attrs)))) []
    ≡ l.initial.out ++ attrs_text (map (attr_in (numbered 1 l.prefixes.texts)) (kept_attrs (map valued l.attrs))) []
