-- Pages in another order give the same items with the same spans.
use Rattle.std.proofs.Common.{◌≡◌, ◌∙◌, ⊎_elim, ℕ, zero, suc, ◌<◌, ◌==◌, arith, true, ◌&&◌, if◌then◌else◌, List, [], ◌∷◌, ◌++◌, length, map, filter, Option, Some, None, refl, sym, ap, subst}
use Rattle.std.specs.List.{Contains, flat_map}
use Rattle.std.specs.List.Sorted.{IsPermutation}
use Rattle.std.specs.Ordering.{nat_cmp, ordering_then}
use Rattle.std.specs.Prelude.{codes}
use Rattle.std.specs.declared.cmp.Ordering.{Ordering}
use Rattle.std.specs.declared.cmp.Ordering.TheVariants.{Less, Equal, Greater}
use Rattle.std.proofs.lemmas.Cmp.{ranked}
use Rattle.std.proofs.lemmas.List.{map-append}
use Rattle.std.proofs.lemmas.List.Sorted.{Contains-permutation, IsPermutation-append, IsPermutation-append_comm, IsPermutation-map, IsPermutation-refl, IsPermutation-sym}
use Rattle.ix_base.specs.declared.kind.Kind.{Kind}
use Rattle.ix_base.specs.declared.kind.Kind.TheVariants as kind
use Rattle.ix_base.specs.Asks.{Asks, asks}
use Rattle.ix_base.specs.Chain.{chain}
use Rattle.ix_base.specs.Elements.{elements_of}
use Rattle.ix_base.specs.Kinds.{kind_of}
use Rattle.ix_base.specs.LocatedElements.{Located, is_item, is_marked, is_nil, marked_from, offset_of, on_page, page_marked, same_place}
use Rattle.ix_base.specs.OwnNames.{own}
use Rattle.ix_base.specs.Readers.{fact_name}
use Rattle.ix_base.specs.SortedLists.{text_cmp}
use Rattle.ix_base.specs.Trees.{Tree}
use Rattle.ix_base.proofs.ExchangeLemmas.{by_exchanges}
use Rattle.ix_base.proofs.OnceLemmas.{Contains-cases, Contains-first, Contains-from_filter, Contains-later, Contains-nil}
use Rattle.ix_base.proofs.OnceOrdered.{same_text}
use Rattle.ix_base.proofs.SortedLemmas.{sorted-same}
use Rattle.facts.specs.FractionValue.{part_in}
use Rattle.footnotes.proofs.NotesSame.{filter-moved}
use Rattle.id_table.specs.Renumbering.{moved}
use Rattle.id_table.proofs.Asking.{map-filter}
use Rattle.id_table.proofs.Rearranged.{asks-same}
use Rattle.id_table.proofs.Renumbered.{chain-moved, map-same, map-twice}
use Rattle.page_constructs.proofs.SizeLaws.{same-number}
use Rattle.target_contents.specs.LinkedSets.{AreApart}
use Rattle.targets.proofs.Exchanged.{exchanged, numbered, stay_apart, swap_at}
use Rattle.fact_trace.specs.Model.{AreNew}
use Rattle.fact_trace.specs.Spans.{Lying, Source, element_spans, elements, lying_at, paged, part_of, source_at, span_of, spans, spans_in, text_elements, text_elements_as, there, traced_cmp, traced_of, traces}
use Rattle.fact_trace.specs.declared.span.Traced.{Traced}
use Rattle.fact_trace.proofs.OrderLaws.{traced-total}
use Rattle.fact_trace.proofs.TextLaws.{element-stands}

-- A page under its new number.

source-swapped : (front back : List Source) (a b : Source) (n : ℕ) → source_at (front ++ b ∷ a ∷ back) (swap_at (length front) n) ≡ source_at (front ++ a ∷ b ∷ back) n
unfolding swap_at
source-swapped [] back a b zero = refl
source-swapped [] back a b (suc zero) = refl
source-swapped [] back a b (suc (suc n)) = refl
source-swapped (p ∷ front) back a b zero = refl
source-swapped (p ∷ front) back a b (suc n) = source-swapped front back a b n

page-moved : (r : ℕ → ℕ) (n : ℕ) (p : Source) → map (moved r) (page_marked n p.tree) ≡ page_marked (r n) p.tree
page-moved r n p =
    map-filter (moved r) is_marked (map (on_page n) (elements_of p.tree))
    ∙ ap (filter is_marked) (map-twice (moved r) (on_page n) (elements_of p.tree))

elements-numbered : (n : ℕ) (ps : List Source) → marked_from n (map paged ps) ≡ numbered (λ k p. page_marked k p.tree) n ps
elements-numbered n [] = refl
elements-numbered n (p ∷ ps) = ap (λ l. page_marked n p.tree ++ l) (elements-numbered (suc n) ps)

-- The same pages under other numbers.
record IsRenumbered (P Q : List Source) : Type 0 where
  numbers : ℕ → ℕ
  apart : (x y : ℕ) → (numbers x == numbers y) ≡ (x == y)
  sources : (n : ℕ) → source_at Q (numbers n) ≡ source_at P n
  same : IsPermutation (map (moved numbers) (elements P)) (elements Q)

neighbours : (front back : List Source) (a b : Source) → IsRenumbered (front ++ a ∷ b ∷ back) (front ++ b ∷ a ∷ back)
neighbours front back a b =
    let P = front ++ a ∷ b ∷ back in
    let Q = front ++ b ∷ a ∷ back in
    let r = swap_at (length front) in
    record {
      numbers = r;
      apart = stay_apart (length front);
      sources = source-swapped front back a b;
      same = subst (λ l. IsPermutation (map (moved r) l) (elements Q)) (sym (elements-numbered 0 P))
          (subst (IsPermutation (map (moved r) (numbered (λ k (p : Source). page_marked k p.tree) 0 P))) (sym (elements-numbered 0 Q))
          (exchanged (λ k (p : Source). page_marked k p.tree) moved page-moved front back a b));
    }

from-map : {X Y : Type 0} (f : X → Y) (xs : List X) (y : Y) → Contains (map f xs) y → (x : X) × Contains xs x × (f x ≡ y)
from-map f [] y h = absurd (Contains-nil y h)
from-map f (x ∷ xs) y h = ⊎_elim
    (λ e. (x, Contains-first x xs, e))
    (λ m. (let z = from-map f xs y m in (z.0, Contains-later x xs z.0 z.1, z.2)))
    (Contains-cases (f x) (map f xs) y h)

module _ (P Q : List Source) (is : IsRenumbered P Q) where
  abbrev lying_moved : Lying → Lying
  lying_moved l = record { page = is.numbers l.page; tree = l.tree }

  spans_in-moved : (l : Lying) → spans_in Q (lying_moved l) ≡ spans_in P l
  spans_in-moved l = ap (λ (s : Source). map (span_of s.name) (element_spans s.bytes l.tree)) (is.sources l.page)

  flat-moved : (ls : List Lying) → flat_map (spans_in Q) (map lying_moved ls) ≡ flat_map (spans_in P) ls
  flat-moved [] = refl
  flat-moved (l ∷ ls) = λ i. spans_in-moved l i ++ flat-moved ls i

  there-moved : (n : ℕ) (o : Option Tree) → there (is.numbers n) o ≡ map lying_moved (there n o)
  there-moved n None = refl
  there-moved n (Some t) = refl

  as-moved : (k : Kind) (e : Located) → text_elements_as k (asks (map (moved is.numbers) (elements P))) (moved is.numbers e) ≡ map lying_moved (text_elements_as k (asks (elements P)) e)
  as-moved kind.NonNumeric e =
      ap (map lying_at) (chain-moved is.numbers is.apart (elements P) e)
      ∙ map-twice lying_at (moved is.numbers) (chain (asks (elements P)) e) ∙ sym (map-twice lying_moved lying_at (chain (asks (elements P)) e))
  as-moved kind.Fraction e =
      (λ i. there-moved e.page (part_in (codes "numerator") e.placed.tree.children) i ++ there-moved e.page (part_in (codes "denominator") e.placed.tree.children) i)
      ∙ sym (map-append lying_moved (part_of (codes "numerator") e) (part_of (codes "denominator") e))
  as-moved k e = refl

  texts-moved : (e : Located) → text_elements (asks (elements Q)) (moved is.numbers e) ≡ map lying_moved (text_elements (asks (elements P)) e)
  texts-moved e =
      ap (λ (a : Asks Located). text_elements a (moved is.numbers e)) (sym (asks-same (map (moved is.numbers) (elements P)) (elements Q) is.same)) ∙ as-moved (kind_of e.placed) e

  spans-moved : (e : Located) → spans Q (moved is.numbers e) ≡ spans P e
  spans-moved e = ap (λ l. if is_nil e then [] else l) (ap (flat_map (spans_in Q)) (texts-moved e) ∙ flat-moved (text_elements (asks (elements P)) e))

  traced-moved : (e : Located) → traced_of Q (moved is.numbers e) ≡ traced_of P e
  traced-moved e = λ i. record {
    page = (is.sources e.page i).name;
    offset = offset_of e;
    name = own (fact_name e.placed.tree);
    nil = is_nil e;
    spans = spans-moved e i;
  }

  items-moved : IsPermutation (map (traced_of P) (filter is_item (elements P))) (map (traced_of Q) (filter is_item (elements Q)))
  items-moved =
      let r = is.numbers in
      let here = filter is_item (elements P) in
      let m = IsPermutation-map (traced_of Q) (filter is_item (map (moved r) (elements P))) (filter is_item (elements Q)) (filter-moved is_item (map (moved r) (elements P)) (elements Q) is.same) in
      subst (λ l. IsPermutation l (map (traced_of Q) (filter is_item (elements Q))))
      (ap (map (traced_of Q)) (sym (map-filter (moved r) is_item (elements P))) ∙ map-twice (traced_of Q) (moved r) here ∙ map-same (λ e. traced_of Q (moved r e)) (traced_of P) traced-moved here) m

  -- and no two elements stand at one place
  apart-moved : AreApart (elements P) → AreApart (elements Q)
  apart-moved a x y h k e =
      let r = is.numbers in
      let back = IsPermutation-sym (map (moved r) (elements P)) (elements Q) is.same in
      let f = from-map (moved r) (elements P) x (Contains-permutation (elements Q) (map (moved r) (elements P)) x back h) in
      let g = from-map (moved r) (elements P) y (Contains-permutation (elements Q) (map (moved r) (elements P)) y back k) in
      let old : same_place f.0 g.0 ≡ true =
      ap (λ b. b && (offset_of f.0 == offset_of g.0)) (sym (is.apart f.0.page g.0.page)) ∙ (λ i. same_place (f.2 i) (g.2 i)) ∙ e in
      sym f.2 ∙ ap (moved r) (a f.0 g.0 f.1 g.1 old) ∙ g.2

-- Two items at one place are one.

then-equal : (o p : Ordering) → ordering_then o p ≡ Equal → (o ≡ Equal) × (p ≡ Equal)
then-equal Less p e = absurd (cc)
then-equal Equal p e = (refl, e)
then-equal Greater p e = absurd (cc)

pub name-there : (ps : List Source) (n : ℕ) → n < length ps → Contains (map (λ p. p.name) ps) (source_at ps n).name
name-there [] n l = absurd (omega arith)
name-there (p ∷ ps) zero l = Contains-first p.name (map (λ p. p.name) ps)
name-there (p ∷ ps) (suc n) l = Contains-later p.name (map (λ p. p.name) ps) (source_at ps n).name (name-there ps n (omega arith))

name-once : (ps : List Source) (m n : ℕ) → AreNew (map (λ p. p.name) ps) → m < length ps → n < length ps → (source_at ps m).name ≡ (source_at ps n).name → m ≡ n
name-once [] m n h k l e = absurd (omega arith)
name-once (p ∷ ps) zero zero h k l e = refl
name-once (p ∷ ps) zero (suc n) h k l e = absurd (h.0 (subst (Contains (map (λ p. p.name) ps)) (sym e) (name-there ps n (omega arith))))
name-once (p ∷ ps) (suc m) zero h k l e = absurd (h.0 (subst (Contains (map (λ p. p.name) ps)) e (name-there ps m (omega arith))))
name-once (p ∷ ps) (suc m) (suc n) h k l e = ap suc (name-once ps m n h.1 (omega arith) (omega arith) e)

tied : (P : List Source) → AreNew (map (λ p. p.name) P) → AreApart (elements P) → (x y : Traced) → Contains (map (traced_of P) (filter is_item (elements P))) x
    → Contains (map (traced_of P) (filter is_item (elements P))) y → traced_cmp x y ≡ Equal → x ≡ y
tied P new apart x y h k e =
    let f = from-map (traced_of P) (filter is_item (elements P)) x h in
    let g = from-map (traced_of P) (filter is_item (elements P)) y k in
    let a = (Contains-from_filter is_item (elements P) f.0 f.1).0 in
    let b = (Contains-from_filter is_item (elements P) g.0 g.1).0 in
    let c : traced_cmp (traced_of P f.0) (traced_of P g.0) ≡ Equal = (λ i. traced_cmp (f.2 i) (g.2 i)) ∙ e in
    let d = then-equal (text_cmp (source_at P f.0.page).name (source_at P g.0.page).name) (nat_cmp (offset_of f.0) (offset_of g.0)) c in
    let names : (source_at P f.0.page).name ≡ (source_at P g.0.page).name = same_text (source_at P f.0.page).name (source_at P g.0.page).name d.0 in
    let offsets : offset_of f.0 ≡ offset_of g.0 = ranked (offset_of f.0) (offset_of g.0) Equal (sym d.1) in
    let pages : f.0.page ≡ g.0.page = name-once P f.0.page g.0.page new (element-stands P f.0 a).within (element-stands P g.0 b).within names in
    let place : same_place f.0 g.0 ≡ true = rw (same-number f.0.page g.0.page pages, same-number (offset_of f.0) (offset_of g.0) offsets) refl in
    sym f.2 ∙ ap (traced_of P) (apart f.0 g.0 a b place) ∙ g.2

-- An exchange of two neighbours.

new-exchanged : (front back : List (List ℕ)) (a b : List ℕ) → AreNew (front ++ a ∷ b ∷ back) → AreNew (front ++ b ∷ a ∷ back)
new-exchanged [] back a b h =
    (λ k. ⊎_elim (λ e. h.0 (subst (λ x. Contains (b ∷ back) x) (sym e) (Contains-first b back))) h.1.0 (Contains-cases a back b k), (λ k. h.0 (Contains-later b back a k), h.1.1))
new-exchanged (n ∷ front) back a b h =
    (λ k. h.0 (Contains-permutation (front ++ b ∷ a ∷ back) (front ++ a ∷ b ∷ back) n (swapped front back b a) k), new-exchanged front back a b h.1)
  where
    swapped : (front back : List (List ℕ)) (a b : List ℕ) → IsPermutation (front ++ a ∷ b ∷ back) (front ++ b ∷ a ∷ back)
    swapped front back a b =
        IsPermutation-append front front (a ∷ b ∷ back) (b ∷ a ∷ back) (IsPermutation-refl front)
        (IsPermutation-append (a ∷ b ∷ []) (b ∷ a ∷ []) back back (IsPermutation-append_comm (a ∷ []) (b ∷ [])) (IsPermutation-refl back))

record Stays (ps l : List Source) : Type 0 where
  new : AreNew (map (λ p. p.name) l)
  apart : AreApart (elements l)
  same : traces ps ≡ traces l

exchange : (ps front back : List Source) (a b : Source) → Stays ps (front ++ a ∷ b ∷ back) → Stays ps (front ++ b ∷ a ∷ back)
exchange ps front back a b h =
    let P = front ++ a ∷ b ∷ back in
    let Q = front ++ b ∷ a ∷ back in
    let is = neighbours front back a b in
    let name = λ (p : Source). p.name in
    record {
      new = subst AreNew (sym (map-append name front (b ∷ a ∷ back))) (new-exchanged (map name front) (map name back) a.name b.name (subst AreNew (map-append name front (a ∷ b ∷ back)) h.new));
      apart = apart-moved P Q is h.apart;
      same = h.same ∙ sorted-same traced-total (map (traced_of P) (filter is_item (elements P))) (map (traced_of Q) (filter is_item (elements Q))) (tied P h.new h.apart) (items-moved P Q is);
    }

pub rearranged : (ps qs : List Source) → AreNew (map (λ p. p.name) ps) → AreApart (elements ps) → IsPermutation ps qs → traces ps ≡ traces qs
rearranged ps qs n a m = (by_exchanges (Stays ps) (exchange ps) ps qs m (record { new = n; apart = a; same = refl })).same
