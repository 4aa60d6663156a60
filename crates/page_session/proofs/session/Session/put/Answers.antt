use Rattle.std.proofs.Common.{◌≡◌, ◌≤◌, refl, length, rules}
use Rattle.page_session.specs.HandedPages.{place_of}
use Rattle.page_session.specs.Sessions.{names_in}
use Rattle.page_session.proofs.SessionLaws.{of_page, put_session}
use Rattle.page_session.proofs.session.Session.put.Goals as goal

pub returns-clause-ok : goal.returns-clause-ok
returns-clause-ok g c =
    let old = c.args.self.now in
    let at : c.place_in-at.result ≡ place_of (names_in old) c.args.name.now = search rules in
    let within : c.place_in-at.result ≤ length old.kept.items = search rules in
    of_page _ _ _ (λ b h. put_session old _ (record { name = c.args.name.now; held = c.in-Ok-Some.held }) c.place_in-at.result at within
    c.in-Ok.ensures.replaced c.in-Ok.ensures.added refl b h) (rw c.in-Ok-Some.field-0-is at c.in-Ok-Some.ensures.held)
