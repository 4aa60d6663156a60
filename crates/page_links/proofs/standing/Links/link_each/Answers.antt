use Rattle.std.proofs.Common.{◌≡◌, ◌∙◌, ◌<◌, ap, sym, subst, ℕ, List, [], ◌∷◌, ◌++◌, length, map, take, get_or, append_assoc, append-nil, arith}
use Rattle.std.specs.Borrow.{Bor}
use Rattle.std.proofs.lemmas.List.{map_more, take_all}
use Rattle.id_table.proofs.Renumbered.{map-twice}
use Rattle.page_links.specs.LinkTables.{AreLinked}
use Rattle.link_ids.specs.Links.{Link}
use Rattle.page_links.proofs.standing.Links.link_each.Goals as goal

pub loop-id-init : goal.loop-id-init
loop-id-init c names es ts ls e are = subst (λ (l : List Link). AreLinked names es ts l c.args.self.now) (sym (append-nil ls)) are

pub loop-id-preserved : goal.loop-id-preserved
loop-id-preserved c names es ts ls e are =
    let ids = c.as_slice-id-items.result.now in
    let i = c.loop-id.id-index in
    let to : Bor (List ℕ) → Link = λ s. record { attribute = c.args.attribute; id = s.now; element = e } in
    let below : i < length ids = omega arith in
    let d : Bor (List ℕ) = record { ref_ptr = (0, 0); now = [] } in
    let next = c.in_ok-link.ensures names es ts (ls ++ map to (take i ids)) e (c.loop-id.invariant names es ts ls e are) in
    subst (λ (l : List Link). AreLinked names es ts l c.link.new.self)
    (append_assoc ls (map to (take i ids)) (to (get_or ids i d) ∷ []) ∙ ap (λ l. ls ++ l) (sym (map_more to ids i d below))) next

pub returns : goal.returns
returns c names es ts ls e are =
    let ids = c.as_slice-id-items.result.now in
    let to : List ℕ → Link = λ id. record { attribute = c.args.attribute; id = id; element = e } in
    let whole : take c.loop-id.id-index ids ≡ ids = take_all c.loop-id.id-index ids c.loop-id-test.false in
    let one = ap (map (λ s. s.now)) c.as_slice-id-items.ensures.value ∙ c.in_ok-ids.ensures in
    subst (λ (l : List Link). AreLinked names es ts (ls ++ l) c.loop-id.self)
    (ap (map (λ s. to s.now)) whole ∙ sym (map-twice to (λ s. s.now) ids) ∙ ap (map to) one) (c.loop-id.invariant names es ts ls e are)
