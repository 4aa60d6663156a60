-- Pages in another order come to the same.
use Rattle.std.proofs.Common.{◌≡◌, ◌∙◌, ◌++◌, ap, refl, subst, sym, ℕ, suc, List, [], ◌∷◌, All, length, map}
use Rattle.std.specs.Prelude.{◌==◌, slice_index_or}
use Rattle.ix_base.specs.declared.limits.TheConstants.{DEEPEST_ELEMENT}
use Rattle.std.specs.List.{Contains, filter, flat_map}
use Rattle.std.specs.List.Sorted.{IsPermutation}
use Rattle.std.proofs.lemmas.List.Elements.{All-contains, All-contains_itself, All-weaker}
use Rattle.std.proofs.lemmas.List.Sorted.{Contains-permutation, IsPermutation-append_right, IsPermutation-append, IsPermutation-append_comm, IsPermutation-refl}
use Rattle.ix_base.specs.declared.breach.Found.{Found}
use Rattle.ix_base.specs.declared.content.Content.{Content}
use Rattle.ix_base.specs.Address.{base_of, page_base}
use Rattle.ix_base.specs.Asks.{asks}
use Rattle.ix_base.specs.ElementRules.{found_on}
use Rattle.ix_base.specs.Elements.{elements_of}
use Rattle.ix_base.specs.LinkRules.{broken}
use Rattle.ix_base.specs.LocatedElements.{Located, Paged, is_item, is_marked, marked_from, on_page, page_marked}
use Rattle.ix_base.specs.Sound.{IsSoundTree}
use Rattle.ix_base.proofs.ExchangeLemmas.{by_exchanges}
use Rattle.facts.specs.ItemValue.{IsItem}
use Rattle.facts.proofs.Renumbered.{item-moved}
use Rattle.footnotes.proofs.NotesSame.{IsPermutation-flat_map, filter-moved, texts-same}
use Rattle.id_table.specs.Renumbering.{moved}
use Rattle.id_table.proofs.Asking.{map-filter}
use Rattle.id_table.proofs.Rearranged.{asks-same}
use Rattle.id_table.proofs.Renumbered.{map-twice}
use Rattle.instance_lines.specs.Arrangement.{arranged}
use Rattle.instance_lines.specs.Canonical.{canon}
use Rattle.instance_out.proofs.BackLaws.{one-text}
use Rattle.target_contents.specs.declared.outcome.Outcome.{Outcome}
use Rattle.target_contents.specs.declared.outcome.Outcome.TheVariants.{Broken, Whole}
use Rattle.target_contents.specs.declared.outcome.Target.{Target}
use Rattle.targets.specs.ValidSets.{IsClean}
use Rattle.target_contents.specs.Contents.{IsContent, target_names, targets_at}
use Rattle.target_contents.specs.Faults.{AreOfItems, AreValueFaults, element_faults, faults_from, link_faults}
use Rattle.target_contents.specs.SetOutcomes.{ComesOfValues, ComesTo, FirstOf, ComesToTargets}
use Rattle.target_contents.specs.PageSet.{PageSet, asked, base_at, elements, names}
use Rattle.targets.proofs.ContentsMoved.{gathered-moved}
use Rattle.targets.proofs.ContentsShuffled.{gathered-shuffled}
use Rattle.targets.proofs.Exchanged.{exchanged, numbered, said_at, stay_apart, swap_at}
use Rattle.targets.proofs.FaultsMoved.{broken-moved, broken-rearranged, found_moved, on-page-moved}
use Rattle.targets.proofs.LinksKept.{one-arcrole, one-role, order-once, order-there}
use Rattle.targets.proofs.MembersSame.{members-same}
use Rattle.targets.proofs.ProperLaws.{proper-content}
use Rattle.targets.proofs.ReportsMoved.{first-moved}
use Rattle.targets.proofs.Shuffled.{same-canon}
use Rattle.targets.proofs.ValuesMoved.{values-moved, values-shuffled}

-- Two sets of the same pages under other numbers.
pub record IsRenumbered (s t : PageSet) : Type 0 where
  pub numbers : ℕ → ℕ
  pub apart : (x y : ℕ) → (numbers x == numbers y) ≡ (x == y)
  pub names : (n : ℕ) → slice_index_or (names t) (numbers n) [] ≡ slice_index_or (names s) n []
  pub bases : (e : Located) → base_at t (moved numbers e) ≡ base_at s e
  pub elements : IsPermutation (map (moved numbers) (elements s)) (elements t)
  pub faults : IsPermutation (map (found_moved numbers) (element_faults s)) (element_faults t)

module _ (s t : PageSet) (is : IsRenumbered s t) where
  first : (found more : List Found) → IsPermutation (map (found_moved is.numbers) found) more → (Else Other : Outcome → Type 0) (o : Outcome)
      → (found ≡ [] → more ≡ [] → Else o → Other o) → FirstOf (names s) found Else o → FirstOf (names t) more Other o
  first = first-moved is.numbers (names s) (names t) is.names

  renumbered : List Located
  renumbered = map (moved is.numbers) (elements s)

  -- Rules on links.

  links-moved : IsPermutation (map (found_moved is.numbers) (link_faults s)) (link_faults t)
  unfolding renumbered
  links-moved =
      subst (λ l. IsPermutation l (link_faults t)) (broken-moved is.numbers is.apart (base_at s) (base_at t) is.bases (elements s))
      (broken-rearranged (base_at t) renumbered (elements t) is.elements)

  -- Rules of values.

  values-of : (found : List Found) → AreValueFaults s found → (more : List Found) × AreValueFaults t more × IsPermutation (map (found_moved is.numbers) found) more
  unfolding renumbered
  values-of found h =
      let says = IsItem (base_at t) (asks renumbered) in
      let here = filter is_item (elements s) in
      let there = values-moved is.numbers (IsItem (base_at s) (asked s)) says
      (λ e v k. item-moved (base_at s) (base_at t) is.numbers is.apart is.bases (elements s) e v k) here found h in
      let same : map (moved is.numbers) here ≡ filter is_item renumbered = map-filter (moved is.numbers) is_item (elements s) in
      let next = values-shuffled says (map (moved is.numbers) here) (filter is_item (elements t))
      (subst (λ l. IsPermutation l (filter is_item (elements t))) (sym same) (filter-moved is_item renumbered (elements t) is.elements))
      (map (found_moved is.numbers) found) there in
      (next.0, subst (λ a. AreOfItems (IsItem (base_at t) a) (filter is_item (elements t)) next.0) (asks-same renumbered (elements t) is.elements) next.1, next.2)

  -- Targets.

  names-same : target_names (elements s) ≡ target_names (elements t)
  unfolding renumbered
  names-same =
      texts-same (flat_map targets_at (elements s)) (flat_map targets_at (elements t))
      (subst (λ l. IsPermutation l (flat_map targets_at (elements t))) (each (elements s))
      (IsPermutation-flat_map targets_at renumbered (elements t) is.elements))
    where
      each : (es : List Located) → flat_map targets_at (map (moved is.numbers) es) ≡ flat_map targets_at es
      each [] = refl
      each (e ∷ es) = ap (λ l. targets_at e ++ l) (each es)

  module _ (here : IsClean s) (there : IsClean t) where
    -- the elements under their new numbers break no rule on links
    unbroken : broken (base_at t) renumbered ≡ []
    unfolding renumbered
    unbroken = broken-moved is.numbers is.apart (base_at s) (base_at t) is.bases (elements s) ∙ ap (map (found_moved is.numbers)) here.links

    content-moved : (target : List ℕ) (c : Content) → IsContent (base_at s) (elements s) target c → IsContent (base_at t) (elements t) target c
    unfolding renumbered
    content-moved target c h =
        let g = gathered-moved is.numbers is.apart (base_at s) (base_at t) is.bases (elements s) target h.0 h.1 in
        let same = members-same renumbered (order-once (base_at t) renumbered unbroken) (order-there (base_at t) renumbered unbroken) (elements t) is.elements in
        let next = gathered-shuffled (base_at t) renumbered (elements t) is.elements target
        (one-role (base_at t) renumbered unbroken) (one-arcrole (base_at t) renumbered unbroken) same h.0 g in
        let d : Content = arranged next.0 in
        let that : IsContent (base_at t) (elements t) target d = (next.0, next.1, refl) in
        let one : c ≡ d = one-text c d (proper-content s here target c h) (proper-content t there target d that) (ap canon h.2 ∙ same-canon h.0 next.0 next.2) in
        (next.0, next.1, one)

    whole-moved : (o : Outcome) → ComesToTargets s o → ComesToTargets t o
    whole-moved (Broken report) h = absurd h
    whole-moved (Whole targets) h = record {
      names = h.names ∙ names-same;
      contents = All-weaker (λ (x : Target). IsContent (base_at s) (elements s) x.name x.content) (λ (x : Target). IsContent (base_at t) (elements t) x.name x.content)
          (λ x k. content-moved x.name x.content k) targets h.contents;
    }

  -- What it comes to.

  module _ (here : All (λ p. IsSoundTree p.tree DEEPEST_ELEMENT) s.pages) (there : All (λ p. IsSoundTree p.tree DEEPEST_ELEMENT) t.pages) where
    pub comes-moved : (o : Outcome) → ComesTo s o → ComesTo t o
    comes-moved o h =
        first (element_faults s) (element_faults t) is.faults (FirstOf (names s) (link_faults s) (ComesOfValues s)) (FirstOf (names t) (link_faults t) (ComesOfValues t)) o
        (λ e f. first (link_faults s) (link_faults t) links-moved (ComesOfValues s) (ComesOfValues t) o
        (λ l k v.
        let more = values-of v.0 v.1 in (
          more.0,
          more.1,
          first v.0 more.0 more.2 (ComesToTargets s) (ComesToTargets t) o
              (λ n m w. whole-moved (record { sound = here; elements = e; links = l }) (record { sound = there; elements = f; links = k }) o w) v.2,
        ))) h

-- An exchange of two neighbours.

page-moved : (r : ℕ → ℕ) (n : ℕ) (p : Paged) → map (moved r) (page_marked n p.tree) ≡ page_marked (r n) p.tree
page-moved r n p =
    map-filter (moved r) is_marked (map (on_page n) (elements_of p.tree))
    ∙ ap (filter is_marked) (map-twice (moved r) (on_page n) (elements_of p.tree))

marked-numbered : (n : ℕ) (pages : List Paged) → marked_from n pages ≡ numbered (λ k p. page_marked k p.tree) n pages
marked-numbered n [] = refl
marked-numbered n (p ∷ pages) = ap (λ l. page_marked n p.tree ++ l) (marked-numbered (suc n) pages)

faults-numbered : (n : ℕ) (pages : List Paged) → faults_from n pages ≡ numbered (λ k p. found_on k p.tree) n pages
faults-numbered n [] = refl
faults-numbered n (p ∷ pages) = ap (λ l. found_on n p.tree ++ l) (faults-numbered (suc n) pages)

module _ (base : List ℕ) where
  abbrev pub set_of : List Paged → PageSet
  set_of pages = record { base = base; pages = pages }

  neighbours : (front back : List Paged) (a b : Paged) → IsRenumbered (set_of (front ++ a ∷ b ∷ back)) (set_of (front ++ b ∷ a ∷ back))
  neighbours front back a b =
      let r = swap_at (length front) in
      let P = front ++ a ∷ b ∷ back in
      let Q = front ++ b ∷ a ∷ back in
      record {
        numbers = r;
        apart = stay_apart (length front);
        names = said_at (λ (p : Paged). p.name) front back a b;
        bases = λ e. ap (λ x. base_of x e.placed) (said_at (λ (p : Paged). page_base base p.name p.tree) front back a b e.page);
        elements = subst (λ l. IsPermutation (map (moved r) l) (elements (set_of Q))) (sym (marked-numbered 0 P))
            (subst (IsPermutation (map (moved r) (numbered (λ k (p : Paged). page_marked k p.tree) 0 P))) (sym (marked-numbered 0 Q))
            (exchanged (λ k (p : Paged). page_marked k p.tree) moved page-moved front back a b));
        faults = subst (λ l. IsPermutation (map (found_moved r) l) (element_faults (set_of Q))) (sym (faults-numbered 0 P))
            (subst (IsPermutation (map (found_moved r) (numbered (λ k (p : Paged). found_on k p.tree) 0 P))) (sym (faults-numbered 0 Q))
            (exchanged (λ k (p : Paged). found_on k p.tree) found_moved (λ n k p. on-page-moved n k p.tree) front back a b));
      }

  abbrev Come : Outcome → List Paged → Type 0
  Come o pages = All (λ p. IsSoundTree p.tree DEEPEST_ELEMENT) pages × ComesTo (set_of pages) o

  exchange : (o : Outcome) (front back : List Paged) (a b : Paged) → Come o (front ++ a ∷ b ∷ back) → Come o (front ++ b ∷ a ∷ back)
  exchange o front back a b h =
      let P = front ++ a ∷ b ∷ back in
      let Q = front ++ b ∷ a ∷ back in
      let m : IsPermutation Q P = IsPermutation-append_right front (b ∷ a ∷ back) (a ∷ b ∷ back)
      (IsPermutation-append (b ∷ a ∷ []) (a ∷ b ∷ []) back back (IsPermutation-append_comm (b ∷ []) (a ∷ [])) (IsPermutation-refl back)) in
      let sound : All (λ p. IsSoundTree p.tree DEEPEST_ELEMENT) Q = All-weaker (Contains Q) (λ p. IsSoundTree p.tree DEEPEST_ELEMENT)
      (λ p at. All-contains (λ p. IsSoundTree p.tree DEEPEST_ELEMENT) P p h.0 (Contains-permutation Q P p m at)) Q (All-contains_itself Q) in
      (sound, comes-moved (set_of P) (set_of Q) (neighbours front back a b) h.0 sound o h.1)

  -- sound pages in another order come to the same
  pub rearranged : (pages others : List Paged) → IsPermutation pages others → All (λ p. IsSoundTree p.tree DEEPEST_ELEMENT) pages
      → (o : Outcome) → ComesTo (set_of pages) o → ComesTo (set_of others) o
  rearranged pages others m sound o h = (by_exchanges (Come o) (exchange o) pages others m (sound, h)).1
