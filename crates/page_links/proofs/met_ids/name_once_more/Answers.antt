use Rattle.std.proofs.Common.{rules}
use Rattle.page_links.proofs.MetLaws.{once-more}
use Rattle.page_links.proofs.StandingLaws.{pages-kept}
use Rattle.page_links.proofs.met_ids.name_once_more.Goals as goal

pub returns-clause-kept : goal.returns-clause-kept
returns-clause-kept c = λ q. once-more c.args.names.now c.insert.new.self c.args.id.now c.known-before.result _ c.known-before.ensures.named (search rules) c.in_ok-insert.ensures.ok q

pub returns-clause-pages : goal.returns-clause-pages
returns-clause-pages c = λ h. pages-kept c.args.names.now c.insert.new.self c.args.id.now _ c.in_ok-insert.ensures.ok (c.known-before.ensures.page h) h
