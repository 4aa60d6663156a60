use Rattle.std.proofs.Common.{◌≡◌, rules}
use Rattle.page_session.specs.Script.{script_of}
use Rattle.page_session.proofs.TakenLaws.{script_told}
use Rattle.page_session.proofs.script_reading.read_script.Goals as goal

pub returns-in-Ok-parse-clause-says : goal.returns-in-Ok-parse-clause-says
returns-in-Ok-parse-clause-says g c =
    let read = c.in_ok-read_page.ensures in
    let is : c.in-Ok-parse.script ≡ script_of c.read_page.new.taker.items = search rules in
    script_told _ _ c.read_page.new.taker.items c.read_page.new.sums _ read.reads read.sums.tags read.whole is
