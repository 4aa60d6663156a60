use Rattle.std.proofs.Common.{◌≡◌, ◌∙◌, ap, sym, subst, ℕ, List, ◌≤◌, Some, true, option_map}
use Rattle.std.specs.Prelude.{bytes_eq, if◌then◌else◌}
use Rattle.std.proofs.lemmas.Result.{on_ok_weaker}
use Rattle.ix_base.specs.Alike.{alike}
use Rattle.ix_base.specs.Ids.{id_of}
use Rattle.ix_base.specs.LocatedElements.{Located, located}
use Rattle.page_links.specs.declared.met_ids.Named.{Named}
use Rattle.page_links.specs.Model.{names_of}
use Rattle.page_links.specs.LinkTables.{Known, found_in, is_none, kept_in, kept_with, named_in, named_of, with_holder, counts_of}
use Rattle.page_links.proofs.StandingLaws.{id-kept, id-none, id-waits}
use Rattle.page_links.proofs.standing.Links.hold.Goals as goal

pub returns-in_default : goal.returns-in_default
returns-in_default c es ts ls are =
    id-none (names_of c.args.names.now) es ts ls c.args.self.now are (located c.args.spot.now) (sym c.id_at.ensures ∙ ap (option_map (λ s. s.now)) c.in_default.is)

pub count_holder-requires : goal.count_holder-requires
count_holder-requires c p =
    let r = c.requires.some in
    let kept = c.args.self.now in
    let id = c.in-Some.id.now in
    let same : named_of c.known-before.result ≡ named_in kept.ids id = c.known-before.ensures.named in
    let own : id_of (located c.args.spot.now) ≡ Some id = sym c.id_at.ensures ∙ ap (option_map (λ s. s.now)) c.in-Some.is in
    subst (λ (k : Known). k.links ≤ kept.pending) (sym same)
    (id-waits r.0 r.1 r.2 r.3 kept r.4 (located c.args.spot.now) id own (subst (λ (k : Known). is_none k.kept ≡ true) same p))

pub returns : goal.returns
returns c es ts ls are =
    let names = names_of c.args.names.now in
    let e : Located = located c.args.spot.now in
    let kept = c.args.self.now in
    let id = c.in-Some.id.now in
    let same : named_of c.known-before.result ≡ named_in kept.ids id = c.known-before.ensures.named in
    let own : id_of (located c.args.spot.now) ≡ Some id = sym c.id_at.ensures ∙ ap (option_map (λ s. s.now)) c.in-Some.is in
    let now : Named = record { standing = c.in_ok-standing.standing; links = c.known-before.result.links } in
    let after : kept_in now.standing ≡ kept_with alike names (named_in kept.ids id).kept e =
    c.in_ok-standing.ensures.kept ∙ ap (λ (k : Known). kept_with alike names k.kept e) same in
    let set : (q : List ℕ) → found_in c.count_holder.new.self.ids q ≡ (if bytes_eq q id then Some now else found_in kept.ids q) =
    λ q. ap (λ m. found_in m q) c.count_holder.ensures.same.0 ∙ c.in_ok-insert.ensures.ok q in
    let first = c.known-before.ensures.page are.pages in
    on_ok_weaker c.count_holder.result
    (λ h. id-kept names es ts ls kept are e id c.count_holder.new.self now own c.count_holder.ensures.same.1 set
    (c.in_ok-standing.ensures.page first c.requires.page) (λ i. record { kept = after i; links = (same i).links })
    (h ∙ (λ i. with_holder (same i) (after i) (counts_of kept))))
    c.count_holder.ensures.counts
