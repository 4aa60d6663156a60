use Rattle.page_verdicts.proofs.ForestLaws.{reads_on, whole_read}
use Rattle.page_verdicts.proofs.read_pages.read_on.Goals as goal

pub returns-in-Ok-clause-reads : goal.returns-in-Ok-clause-reads
returns-in-Ok-clause-reads g c =
    let read = c.in_ok-read_page.ensures in
    reads_on _ _ _ c.args.number c.read_page.new.taker c.read_page.new.sums _ _ (λ b h. h.holds) read.reads
    (whole_read _ _ c.read_page.new.sums read.sums.tags read.whole) c.end_page.ensures.sums c.in-Ok.ensures.gained
