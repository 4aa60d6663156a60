use Rattle.targets.proofs.ClosingLaws.{faults-more, sound-behind}
use Rattle.targets.proofs.closing.element_faults_of.Goals as goal

pub loop-page-preserved : goal.loop-page-preserved
loop-page-preserved c = record {
  found = faults-more c.args.pages.now.pages.now c.loop-page.page-index c.page-item.result c.loop-page.found c.check_page.new.breaches c.loop-page-test.true
      c.page-item.is c.loop-page.invariant.sound c.in_ok-check_page.ensures.ok c.loop-page.invariant.found;
  sound = sound-behind c.args.pages.now.pages.now c.loop-page.page-index c.loop-page-test.true c.loop-page.invariant.sound;
}
