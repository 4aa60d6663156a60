-- From what was found and made to what a set comes to.
use Rattle.std.proofs.Common.{◌≡◌, ◌≢◌, ◌∙◌, ◌<◌, ℕ, Bool, true, false, List, [], ◌∷◌, ap, arith, length, map, refl, subst, suc, sym}
use Rattle.std.specs.List.{All, Contains, filter, flat_map}
use Rattle.std.specs.Prelude.{◌==◌, Ok, Err}
use Rattle.std.proofs.lemmas.Bool.{both_ways, eq-eqb, eqb-true}
use Rattle.std.proofs.lemmas.List.{length-map}
use Rattle.ix_base.proofs.OnceLemmas.{Contains-filter, Contains-first, Contains-nil}
use Rattle.ix_base.proofs.ReportLemmas.{report-same}
use Rattle.ix_base.specs.declared.breach.Found.{Found}
use Rattle.ix_base.specs.declared.content.Item.{Item}
use Rattle.ix_base.specs.declared.rule.Rule.{Rule}
use Rattle.ix_base.specs.declared.rule.Rule.TheVariants as rule
use Rattle.ix_base.specs.Asks.{asks}
use Rattle.ix_base.specs.Breaches.{named}
use Rattle.ix_base.specs.LinkRules.{breaking, breaks, broken, found_at, link_rules}
use Rattle.ix_base.specs.LocatedElements.{Located, base_in, is_item, marked}
use Rattle.ix_base.specs.Once.{SameMembers}
use Rattle.ix_base.specs.Rows.{row}
use Rattle.continuations.specs.Model.{AreChainsOf}
use Rattle.facts.proofs.OneItem.{one_item}
use Rattle.facts.specs.ItemValue.{IsItem, item_text}
use Rattle.footnotes.specs.Model.{AreRelationsOf}
use Rattle.id_table.specs.Model.{AreChosen, Held}
use Rattle.scopes.specs.Model.{Kept}
use Rattle.tuples.specs.Model.{AreMembersOf}
use Rattle.page_links.specs.declared.pages.Page.{Page}
use Rattle.target_contents.specs.declared.links.Linked.{Linked}
use Rattle.target_contents.specs.declared.outcome.Outcome.{Outcome}
use Rattle.target_contents.specs.declared.outcome.Outcome.TheVariants.{Broken, Whole}
use Rattle.target_contents.specs.Faults.{AreOfItems, link_faults}
use Rattle.page_links.specs.Model.{Keeps, as_paged}
use Rattle.target_contents.specs.LinkedSets.{AreApart, AreOwned, IsLinked, bases_of}
use Rattle.target_contents.specs.Named.{AreNamed}
use Rattle.target_contents.specs.SetOutcomes.{IsReport}
use Rattle.target_contents.specs.PageSet.{PageSet, names, page_bases}
use Rattle.target_contents.specs.RoleAddresses.{SeesAll}
use Rattle.targets.proofs.AboveLaws.{owner_marked}
use Rattle.targets.proofs.ClosingLaws.{sound-trees}
use Rattle.target_contents.proofs.FitLaws.{flat-none}
use Rattle.target_contents.proofs.MemberLaws.{from-map, in-map}
use Rattle.targets.proofs.PlaceLaws.{apart, on_pages}
use Rattle.target_contents.proofs.ValueLaws.{all-say}

pub none-is : (xs : List Found) (b : Bool) → b ≡ (length xs == 0) → b ≡ true → xs ≡ []
none-is [] b e h = refl
none-is (x ∷ xs) b e h = absurd (let f : suc (length xs) ≡ 0 = eqb-true (suc (length xs)) 0 (sym e ∙ h) in omega arith)

pub some-is : (xs : List Found) (b : Bool) → b ≡ (length xs == 0) → b ≡ false → xs ≢ []
some-is [] b e h n = both_ways b h (e ∙ eq-eqb 0 0 refl)
some-is (x ∷ xs) b e h n = let f : suc (length xs) ≡ 0 = ap length n in absurd (omega arith)

ok-err : (i : Item) (r : Rule) → Ok i ≡ Err r → ⊥
ok-err i r e = cc

-- where no item breaks a rule, none that says something breaks one
pub no-faults : (bases : Located → List ℕ) (es : List Located) (found : List Found) → AreOfItems (IsItem bases (asks es)) (filter is_item es) found → found ≡ []
    → (e : Located) → Contains es e → is_item e ≡ true → (r : Rule) → IsItem bases (asks es) e (Err r) → ⊥
no-faults bases es found are none e at item r says =
    let i = all-say (IsItem bases (asks es)) (filter is_item es) found are none e (Contains-filter is_item es e at item) in
    ok-err i.0 r (one_item (item_text bases (asks es) e) e.placed (Ok i.0) (Err r) i.1 says)

-- as many names as bases
pub same-count : (s : PageSet) (ns bs : List (List ℕ)) → ns ≡ names s → bs ≡ page_bases s → length ns ≡ length bs
same-count s ns bs n b = ap length n ∙ length-map s.pages (λ p. p.name) ∙ sym (ap length b ∙ length-map s.pages _)

pub on-names : (s : PageSet) (es : List Located) (ns bs : List (List ℕ)) → ns ≡ names s → bs ≡ page_bases s → All (λ e. e.page < length bs) es
    → All (λ e. e.page < length ns) es
on-names s es ns bs n b h = subst (λ k. All (λ e. e.page < k) es) (sym (same-count s ns bs n b)) h

-- the elements of a set are on pages that have bases
pub keeps-on : (base : List ℕ) (pages : List Page) (index : Held) (bases : Kept) → Keeps base pages index bases
    → All (λ e. e.page < length bases.pages) index.spots
keeps-on base pages index bases k =
    let s : PageSet = record { base = base; pages = map as_paged pages } in
    let count : length bases.pages ≡ length (map as_paged pages) = ap (λ (x : Kept). length x.pages) k.bases ∙ length-map (map as_paged pages) _ in
    subst (λ (es : List Located). All (λ e. e.page < length bases.pages) es) (sym k.spots)
    (subst (λ n. All (λ (e : Located). e.page < n) (marked (map as_paged pages))) (sym count) (on_pages (map as_paged pages)))

-- what was made of the links of a set
pub is-linked : (l : Linked) (base : List ℕ) (pages : List Page) (index : Held) (bases : Kept) → Keeps base pages index bases → l.index.now ≡ index
    → l.bases.now ≡ bases → AreChainsOf l.chains index.spots → AreMembersOf l.members index.spots → AreRelationsOf l.relations index.spots
    → SeesAll (base_in bases.pages) index.spots l.seen_roles → AreNamed index.spots l.named → IsLinked l
is-linked l base pages index bases k i b chains members relations seen_roles named = record {
  chains = subst (λ (h : Held). AreChainsOf l.chains h.spots) (sym i) chains;
  members = subst (λ (h : Held). AreMembersOf l.members h.spots) (sym i) members;
  relations = subst (λ (h : Held). AreRelationsOf l.relations h.spots) (sym i) relations;
  seen_roles = subst (λ (h : Held). SeesAll (base_in (bases_of l)) h.spots l.seen_roles) (sym i)
      (subst (λ (x : Kept). SeesAll (base_in x.pages) index.spots l.seen_roles) (sym b) seen_roles);
  apart = subst (λ (es : List Located). AreApart es) (sym (ap (λ (h : Held). h.spots) i ∙ k.spots)) (apart (map as_paged pages) (sound-trees 0 pages k.sound));
  owned = subst (λ (es : List Located). AreOwned es) (sym (ap (λ (h : Held). h.spots) i ∙ k.spots)) (owner_marked (map as_paged pages));
  chosen = subst AreChosen (sym i) k.chosen;
  named = subst (λ (h : Held). AreNamed h.spots l.named) (sym i) named;
  pages = subst (λ (h : Held). All (λ e. e.page < length (bases_of l)) h.spots) (sym i)
      (subst (λ (x : Kept). All (λ e. e.page < length x.pages) index.spots) (sym b) (keeps-on base pages index bases k));
}

-- the rules on links that are found are those of the set
pub faults-are : (base : List ℕ) (pages : List Page) (index : Held) (bases : Kept) (found : List Found) → Keeps base pages index bases
    → SameMembers found (broken (base_in bases.pages) index.spots) → SameMembers found (link_faults (record { base = base; pages = map as_paged pages }))
faults-are base pages index bases found k same =
    subst (λ (es : List Located). SameMembers found (broken (base_in (page_bases (record { base = base; pages = map as_paged pages }))) es)) k.spots
    (subst (λ (x : Kept). SameMembers found (broken (base_in x.pages) index.spots)) k.bases same)

pub none-same : (xs ys : List Found) → SameMembers xs ys → xs ≡ [] → ys ≡ []
none-same xs [] same h = refl
none-same xs (y ∷ ys) same h = absurd (Contains-nil y (subst (λ l. Contains l y) h (same.back y (Contains-first y ys))))

pub some-same : (xs ys : List Found) → SameMembers xs ys → xs ≢ [] → ys ≢ []
some-same xs ys same h n = h (none-same ys xs (record { there = same.back; back = same.there }) n)

-- where no rule on links is broken, no tuple has too many owners
pub none-deep : (bases : Located → List ℕ) (es : List Located) → broken bases es ≡ [] → breaking rule.L9 es ≡ []
none-deep bases es h = flat-none (λ r. flat_map (λ e. row (breaks bases (asks es) e r) (found_at e r)) es) link_rules h rule.L9 (8, omega arith, refl)

map-there : {X Y : Type 0} (f : X → Y) (xs ys : List X) → ((x : X) → Contains xs x → Contains ys x) → (y : Y) → Contains (map f xs) y → Contains (map f ys) y
map-there f xs ys h y at = let from = from-map f xs y at in subst (Contains (map f ys)) from.2 (in-map f ys from.0 (h from.0 from.1))

-- the same breaches are reported alike
pub report-alike : (ns : List (List ℕ)) (xs ys : List Found) → SameMembers xs ys → (o : Outcome) → IsReport ns xs o → IsReport ns ys o
report-alike ns xs ys same (Broken r) h =
    h ∙ report-same (map (named ns) xs) (map (named ns) ys)
    (record { there = map-there (named ns) xs ys same.there; back = map-there (named ns) ys xs same.back })
report-alike ns xs ys same (Whole ts) h = h

pub names-are : (pages : List Page) → map (λ p. p.name) pages ≡ map (λ p. p.name) (map as_paged pages)
names-are [] = refl
names-are (p ∷ pages) = ap (λ ns. p.name ∷ ns) (names-are pages)
