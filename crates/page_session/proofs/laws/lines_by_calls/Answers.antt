use Rattle.page_session.proofs.CourseLaws.{drops_line, fills_line, misses_line, passes_line, puts_line, still_stands}
use Rattle.page_session.proofs.laws.lines_by_calls.Goals as goal

pub returns-clause-begins : goal.returns-clause-begins
returns-clause-begins c s stands bytes tags = record { stands = stands; bytes = bytes; tags = tags }

pub returns-clause-refuses : goal.returns-clause-refuses
returns-clause-refuses c = still_stands

pub returns-clause-puts : goal.returns-clause-puts
returns-clause-puts c = puts_line

pub returns-clause-passes : goal.returns-clause-passes
returns-clause-passes c = passes_line

pub returns-clause-fills : goal.returns-clause-fills
returns-clause-fills c = fills_line

pub returns-clause-drops : goal.returns-clause-drops
returns-clause-drops c = drops_line

pub returns-clause-misses : goal.returns-clause-misses
returns-clause-misses c = misses_line
