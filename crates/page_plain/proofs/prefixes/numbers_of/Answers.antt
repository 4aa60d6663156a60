use Rattle.std.proofs.Common.{map, subst, sym}
use Rattle.std.specs.List.Sorted.{IsStrictlySortedBy}
use Rattle.ix_base.specs.SortedLists.{text_cmp}
use Rattle.ix_base.proofs.OnceLemmas.{in_order-sorted}
use Rattle.ix_base.proofs.OrderLemmas.{text_total}
use Rattle.page_plain.specs.SpaceNumbers.{spaces_met, texts_of}
use Rattle.page_plain.proofs.ListedLaws.{next-numbered, next-there, there-put}
use Rattle.page_plain.proofs.prefixes.numbers_of.Goals as goal

pub number_in-requires-clause-ordered : goal.number_in-requires-clause-ordered
number_in-requires-clause-ordered c =
    subst (IsStrictlySortedBy text_cmp) (sym c.requires.spaces) (in_order-sorted text_total (texts_of (spaces_met c.args.met.now)))

pub number_in-requires-clause-there : goal.number_in-requires-clause-there
number_in-requires-clause-there c = next-there (map (λ s. s.now) c.args.spaces.now) c.args.met.now c.loop-number.numbers c.in-Some.number.now c.in-Some.space.now
    c.loop-number.number-iterator c.next.new.self c.in-Some.ensures.steps c.loop-number.invariant.spaces c.requires.spaces

pub loop-number-preserved : goal.loop-number-preserved
loop-number-preserved c = record {
  spaces = next-numbered (map (λ s. s.now) c.args.spaces.now) c.args.met.now c.loop-number.numbers c.in-Some.number.now c.in-Some.space.now
      c.loop-number.number-iterator c.next.new.self c.in-Some.ensures.steps c.loop-number.invariant.spaces c.insert.new.self c.number_in.result
      c.requires.numbered c.in_ok-insert.ensures.entries c.number_in.ensures.is;
  there = there-put (map (λ s. s.now) c.args.spaces.now) c.loop-number.numbers c.insert.new.self c.in-Some.number.now c.number_in.result
      c.in_ok-insert.ensures.entries c.number_in.ensures.there c.loop-number.invariant.there;
}
