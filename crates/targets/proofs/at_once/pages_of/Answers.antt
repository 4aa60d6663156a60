use Rattle.ix_base.specs.declared.limits.TheConstants.{DEEPEST_ELEMENT}
use Rattle.std.proofs.Common.{◌≡◌, ◌∙◌, ℕ, ◌+◌, ◌++◌, ◌∷◌, [], ap, arith, drop, length, length-append, map, min, sym, subst}
use Rattle.std.proofs.lemmas.List.{map-append}
use Rattle.std.proofs.lemmas.Slice.Zip.{zip_turn, zip_end}
use Rattle.ix_base.specs.Sound.{IsSoundRoot}
use Rattle.page_links.specs.declared.pages.Page.{Page}
use Rattle.targets.specs.Forest.{AreSoundRoots, paged, trees_of}
use Rattle.page_links.specs.Model.{AreSoundFrom, as_paged}
use Rattle.targets.proofs.ClosingLaws.{sound-push}
use Rattle.targets.proofs.MadeLaws.{paged_all, paged_more, sound_behind, sound_next}
use Rattle.targets.proofs.at_once.pages_of.Goals as goal

pub loop-name-preserved : goal.loop-name-preserved
loop-name-preserved c =
    let from = c.into_iter-name-iterator.ensures.into_iter_gives in
    let t = zip_turn c.args.names.now c.args.roots.now c.loop-name.yielded c.into_iter-name-iterator.result c.loop-name.name-iterator c.next.new.self c.next.result
    (ap (λ z. z.a.rest.now) from ∙ ap (λ i. i.rest.now) c.zip-name-items.ensures.first ∙ c.iter.ensures.rest) (ap (λ z. z.b.rest.now) from ∙ c.zip-name-items.ensures.second.0)
    c.loop-name.yielded_by (c.in-Some.name, c.in-Some.root) c.in-Some.is c.next.ensures.steps in
    let name = c.in-Some.name.now in
    let root = c.in-Some.root.now in
    let n = length c.loop-name.yielded in
    let made = c.loop-name.pages.items in
    let page : Page = record { name = name; root = root } in
    let more : length (c.loop-name.yielded ++ (c.in-Some.name, c.in-Some.root) ∷ []) ≡ n + 1 = length-append c.loop-name.yielded ((c.in-Some.name, c.in-Some.root) ∷ []) in
    let now : c.push.new.self.items ≡ made ++ page ∷ [] =
    c.in_ok-push.ensures.items ∙ ap (λ x. made ++ record { name = x; root = root } ∷ []) (c.in_ok-name.ensures ∙ c.as_str.ensures) in
    let all : map as_paged c.push.new.self.items ≡ map as_paged made ++ as_paged page ∷ [] = ap (map as_paged) now ∙ map-append as_paged made (page ∷ []) in
    let pages = paged_more c.args.names.now c.args.roots.now n name root (map as_paged made) (paged c.args.names.now (trees_of c.args.roots.now))
    t.0 t.1 (t.2 name) (t.3 root) c.loop-name.invariant.pages in
    let next = sound_next c.args.roots.now n root t.1 (t.3 root) c.loop-name.invariant.left in
    let same : n ≡ 0 + length made = sym c.loop-name.invariant.count ∙ (let z : length made ≡ 0 + length made = omega arith in z) in
    record {
      count = ap length now ∙ length-append made (page ∷ []) ∙ ap (λ k. k + 1) c.loop-name.invariant.count ∙ sym more;
      pages = (λ i. all i ++ paged (drop (more i) c.args.names.now) (trees_of (drop (more i) c.args.roots.now))) ∙ pages;
      sound = subst (AreSoundFrom 0) (sym now) (sound-push 0 made page c.loop-name.invariant.sound (subst (λ k. IsSoundRoot root.now k DEEPEST_ELEMENT) same next));
      left = subst (λ (k : ℕ). AreSoundRoots k (drop k c.args.roots.now)) (sym more) (sound_behind c.args.roots.now n root t.1 (t.3 root) c.loop-name.invariant.left);
    }

pub returns-clause-pages : goal.returns-clause-pages
returns-clause-pages c =
    let from = c.into_iter-name-iterator.ensures.into_iter_gives in
    let n = length c.loop-name.yielded in
    let end : n ≡ min (length c.args.names.now) (length c.args.roots.now) =
    zip_end c.args.names.now c.args.roots.now c.loop-name.yielded c.into_iter-name-iterator.result c.loop-name.name-iterator c.next.new.self c.next.result
    (ap (λ z. z.a.rest.now) from ∙ ap (λ i. i.rest.now) c.zip-name-items.ensures.first ∙ c.iter.ensures.rest) (ap (λ z. z.b.rest.now) from ∙ c.zip-name-items.ensures.second.0)
    c.loop-name.yielded_by c.in-None.is c.next.ensures.steps in
    paged_all c.args.names.now c.args.roots.now n (map as_paged c.loop-name.pages.items) (paged c.args.names.now (trees_of c.args.roots.now)) end
    c.loop-name.invariant.pages
