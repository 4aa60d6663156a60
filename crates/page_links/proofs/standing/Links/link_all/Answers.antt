use Rattle.std.proofs.Common.{◌≡◌, ◌∙◌, ◌<◌, ap, sym, subst, List, ◌++◌, length, take, get_or, append-nil, arith}
use Rattle.std.specs.List.{flat_map}
use Rattle.std.proofs.lemmas.List.{flat_map_more, take_all, take_more}
use Rattle.ix_base.specs.LocatedElements.{Located, located}
use Rattle.link_ids.specs.declared.attributes.LinkAttribute.{LinkAttribute}
use Rattle.link_ids.specs.declared.attributes.LinkAttribute.TheVariants as attribute
use Rattle.link_ids.specs.LinkAttributes.{links_in}
use Rattle.page_links.specs.LinkTables.{AreLinked}
use Rattle.link_ids.specs.Links.{Link}
use Rattle.page_links.proofs.standing.Links.link_all.Goals as goal

pub loop-attribute-init : goal.loop-attribute-init
loop-attribute-init c names es ts ls are = subst (λ (l : List Link). AreLinked names es ts l c.args.self.now) (sym (append-nil ls)) are

pub loop-attribute-preserved : goal.loop-attribute-preserved
loop-attribute-preserved c names es ts ls are =
    let attributes = c.attributes_of-attribute-items.result.now in
    let i = c.loop-attribute.attribute-index in
    let by : LinkAttribute → List Link = λ a. links_in a (located c.args.spot.now) in
    let below : i < length attributes = omega arith in
    let next = c.in_ok-link_by.ensures names es ts (ls ++ flat_map by (take i attributes)) (c.loop-attribute.invariant names es ts ls are) in
    subst (λ (l : List Link). AreLinked names es ts l c.link_by.new.self)
    (flat_map_more by ls (take i attributes) (get_or attributes i attribute.ContinuedAt)
    ∙ ap (λ l. ls ++ flat_map by l) (sym (take_more attributes i attribute.ContinuedAt below))) next

pub returns : goal.returns
returns c names es ts ls are =
    let e : Located = located c.args.spot.now in
    let attributes = c.attributes_of-attribute-items.result.now in
    let whole : take c.loop-attribute.attribute-index attributes ≡ attributes = take_all c.loop-attribute.attribute-index attributes c.loop-attribute-test.false in
    subst (λ (l : List Link). AreLinked names es ts (ls ++ l) c.loop-attribute.self)
    (ap (flat_map (λ a. links_in a e)) whole ∙ c.attributes_of-attribute-items.ensures e (sym c.requires)) (c.loop-attribute.invariant names es ts ls are)
