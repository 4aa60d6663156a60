use Rattle.std.proofs.Common.{◌∙◌, arith}
use Rattle.page_verdicts.proofs.ForestLaws.{over_is_sound, read_none}
use Rattle.page_verdicts.proofs.HeldLaws.{built_all, built_more, built_over, built_sound}
use Rattle.page_verdicts.proofs.made_pages.build_all.Goals as goal

pub loop-number-init : goal.loop-number-init
loop-number-init c =
    let none = c.no_pages-forest.ensures in
    record {
      most = omega (arith, none.bytes);
      tags = omega (arith, none.bytes, none.tags);
      keeps = none.keeps;
      read = read_none _ _ _ none.bytes none.tags none.found none.roots none.texts;
    }

pub loop-number-preserved : goal.loop-number-preserved
loop-number-preserved c = record {
  most = c.if-forest-gt-MOST_BYTES.false;
  keeps = c.in_ok-build_page.ensures.keeps ∙ c.loop-number.invariant.keeps;
  tags = c.in_ok-build_page.ensures.tags;
  read = built_more c.args.pages.now c.loop-number.number c.index-pages-number.result c.loop-number.forest c.build_page.new.forest
      (omega arith) c.index-pages-number.is c.in_ok-build_page.ensures.reads c.loop-number.invariant.read c.if-forest-gt-MOST_BYTES.false;
}

pub returns-then-forest-gt-MOST_BYTES-clause-reads : goal.returns-then-forest-gt-MOST_BYTES-clause-reads
returns-then-forest-gt-MOST_BYTES-clause-reads c =
    built_over c.args.pages.now c.loop-number.number c.index-pages-number.result c.loop-number.forest c.build_page.new.forest
    (omega arith) c.index-pages-number.is c.in_ok-build_page.ensures.reads c.loop-number.invariant.read c.if-forest-gt-MOST_BYTES.true

pub returns-then-forest-gt-MOST_BYTES-clause-sound : goal.returns-then-forest-gt-MOST_BYTES-clause-sound
returns-then-forest-gt-MOST_BYTES-clause-sound c = over_is_sound _ _ c.if-forest-gt-MOST_BYTES.true

pub returns-clause-reads : goal.returns-clause-reads
returns-clause-reads c = built_all c.args.pages.now c.loop-number.number c.loop-number.forest (omega arith) c.loop-number.invariant.read

pub returns-clause-sound : goal.returns-clause-sound
returns-clause-sound c = built_sound c.args.pages.now c.loop-number.number c.loop-number.forest (omega arith) c.loop-number.invariant.read
