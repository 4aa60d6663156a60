-- The construct that starts at an offset of a page, from the page's bytes.
use Rattle.ix_base.specs.declared.limits.TheConstants.{DEEPEST_ELEMENT}
use Rattle.std.proofs.Common.{◌≡◌, ◌∙◌, ⊎_elim, ℕ, ◌+◌, ◌≤◌, ◌==◌, Bool, true, false, ◌&&◌, ◌||◌, if◌then◌else◌, List, [], ◌∷◌, map, option_map, length, drop, Contains, Option, Some, None, is_none, refl, sym, ap, subst, arith}
use Rattle.std.proofs.lemmas.List.{length-drop}
use Rattle.ix_base.proofs.OnceLemmas.{Contains-later, Contains-same}
use Rattle.page_tree.specs.Break.{w}
use Rattle.page_constructs.specs.Constructs.{Construct, kind_of, whole_size, text_of, cut, cut_from, starts}
use Rattle.page_tree.proofs.PageLaws.{found}
use Rattle.page_tree.proofs.PlacingLaws.{drop-behind}
use Rattle.page_constructs.proofs.SizeLaws.{same-number}
use Rattle.page_constructs.proofs.SpanLaws.{clash, one_number, starts-front}
use Rattle.std.proofs.lemmas.Bool.Decides.{nat_tests}
use Rattle.page_tree.specs.Raw.{raw, mark_bytes, mark_size, is_front}
use Rattle.page_tree.specs.Reaches.{Reach, reaches_to, reaches, reach_at, told, StandsAt}
use Rattle.page_constructs.specs.declared.kind.Kind.{Kind}
use Rattle.page_tree.proofs.ReachLaws.{IsAt, walk}
use Rattle.page_tree.proofs.TextRaw.{text-raw}

mark-fits : (b : List ℕ) → mark_size b + length (drop (mark_size b) b) ≡ length b
mark-fits b = by (starts mark_bytes b) refl where
  by : (m : Bool) → starts mark_bytes b ≡ m → (if m then 3 else 0) + length (drop (if m then 3 else 0) b) ≡ length b
  by true e = (let k = ap length (starts-front mark_bytes b e) in omega arith)
  by false e = omega arith

-- a page without a break
pub record IsCut (b : List ℕ) : Type 0 where
  pub is : cut b ≡ cut_from (length (text_of b)) true true (raw false (mark_size b) (drop (mark_size b) b))
  pub rest : (cut b).rest ≡ []

pub whole-cut : (b : List ℕ) → w b DEEPEST_ELEMENT ≡ None → IsCut b
whole-cut b u =
    let p = (found b DEEPEST_ELEMENT u).1 in
    let t = text-raw b p.good in
    record {
      is = ap (λ o. cut_from (length (text_of b)) (is_none o) true (text_of b)) p.good ∙ ap (cut_from (length (text_of b)) true true) t;
      rest = p.whole;
    }

pub starts-there : (b : List ℕ) (from : ℕ) → w b DEEPEST_ELEMENT ≡ None → Contains (map (λ c. c.start) (cut b).constructs) from → IsAt true (mark_size b) (drop (mark_size b) b) (reaches b) from
starts-there b from u h =
    let c = whole-cut b u in
    let at = mark_size b in
    let i = walk (length (text_of b)) true at (drop at b) from (sym (ap (λ x. x.rest) c.is) ∙ c.rest) (subst (λ x. Contains (map (λ y. y.start) x.constructs) from) c.is h) in
    subst (λ l. IsAt true at (drop at b) l from) (ap (λ n. reaches_to n (cut_from (length (text_of b)) true true (raw false at (drop at b))).constructs) (mark-fits b) ∙ ap (λ x. reaches_to (length b) x.constructs) (sym c.is)) i

-- where none starts
listed : (rs : List Reach) (from : ℕ) (r : Reach) → reach_at rs from ≡ Some r → Contains (map (λ x. x.what.start) rs) from
listed [] from r e = absurd (cc)
listed (x ∷ rs) from r e = by (x.what.start == from) refl e (listed rs from r) where
  by : (b : Bool) → (x.what.start == from) ≡ b → (if b then Some x else reach_at rs from) ≡ Some r → (reach_at rs from ≡ Some r → Contains (map (λ y. y.what.start) rs) from)
      → Contains (map (λ y. y.what.start) (x ∷ rs)) from
  by true t e ih = Contains-same x.what.start (map (λ y. y.what.start) rs) from (one_number x.what.start from t)
  by false t e ih = Contains-later x.what.start (map (λ y. y.what.start) rs) from (ih e)

same-starts : (end : ℕ) (cs : List Construct) → map (λ r. r.what.start) (reaches_to end cs) ≡ map (λ c. c.start) cs
same-starts end [] = refl
same-starts end (c ∷ []) = refl
same-starts end (c ∷ d ∷ cs) = ap (λ l. c.start ∷ l) (same-starts end (d ∷ cs))

pub none-there : (b : List ℕ) (from : ℕ) → w b DEEPEST_ELEMENT ≡ None → length b ≤ from → reach_at (reaches b) from ≡ None
none-there b from u l = by (reach_at (reaches b) from) refl where
  by : (o : Option Reach) → reach_at (reaches b) from ≡ o → reach_at (reaches b) from ≡ None
  by None e = e
  by (Some r) e =
      let h = subst (λ x. Contains x from) (same-starts (length b) (cut b).constructs) (listed (reaches b) from r e) in
      let i = starts-there b from u h in
      let f = mark-fits b in
      let z = i.is in
      let y = i.within in
      absurd (omega arith)

-- whether a construct that starts there is the first of its page
pub is-front : (b : List ℕ) (from front : ℕ) → from ≡ mark_size b + front → is_front b from ≡ (true && (front == 0))
is-front b from front e = by (starts mark_bytes b) e where
  by : (m : Bool) → from ≡ (if m then 3 else 0) + front → (from == 0 || (from == 3 && m)) ≡ (true && (front == 0))
  by true e = ap (λ n. n == 0 || (n == 3 && true)) e ∙ grind (arith, nat_tests)
  by false e = ap (λ n. n == 0 || (n == 3 && false)) e ∙ grind (arith, nat_tests)

-- what stands there
pub behind-there : (b : List ℕ) (from front : ℕ) → from ≡ mark_size b + front → drop from b ≡ drop front (drop (mark_size b) b)
behind-there b from front e = ap (λ n. drop n b) e ∙ sym (drop-behind front (mark_size b) b)

-- what is found of a page from an offset on
pub record IsLooked (b : List ℕ) (from : ℕ) (rest : List ℕ) (first : Bool) : Type 0 where
  pub unbroken : w b DEEPEST_ELEMENT ≡ None
  pub stands : StandsAt b from
  pub rest_is : rest ≡ drop from b
  pub first_is : first ≡ is_front b from

pub at-end : (b : List ℕ) (from : ℕ) (rest : List ℕ) → w b DEEPEST_ELEMENT ≡ None → rest ≡ drop from b → (length rest == 0) ≡ true → None ≡ option_map told (reach_at (reaches b) from)
at-end b from rest u r e =
    let gone : length rest ≡ 0 = one_number (length rest) 0 e in
    let left = length-drop from b in
    let same = ap length r in
    sym (ap (option_map told) (none-there b from u (omega arith)))

here : (b : List ℕ) (from : ℕ) (rest : List ℕ) (first : Bool) → IsLooked b from rest first → (length rest == 0) ≡ false → IsAt true (mark_size b) (drop (mark_size b) b) (reaches b) from
here b from rest first k n = ⊎_elim (λ h. starts-there b from k.unbroken h) (λ e. absurd (gone e)) k.stands where
  gone : from ≡ length b → ⊥
  gone e =
      let left = length-drop from b in
      let same = ap length k.rest_is in
      let none : length rest ≡ 0 = omega arith in
      clash (length rest == 0) (same-number (length rest) 0 none) n

-- and so the construct there
pub at-found : (b : List ℕ) (from : ℕ) (rest : List ℕ) (first : Bool) (size : ℕ) (kind : Kind) → IsLooked b from rest first → (length rest == 0) ≡ false → Some size ≡ whole_size true first rest → kind ≡ kind_of first rest
    → Some (record { kind = kind; start = from; end = from + size }) ≡ option_map told (reach_at (reaches b) from)
at-found b from rest first size kind k n s q =
    let i = here b from rest first k n in
    let f : first ≡ (true && (i.front == 0)) = k.first_is ∙ is-front b from i.front i.is in
    let r : rest ≡ drop i.front (drop (mark_size b) b) = k.rest_is ∙ behind-there b from i.front i.is in
    let same : Some size ≡ Some i.bytes = s ∙ ap (λ x. whole_size true x rest) f ∙ ap (whole_size true (true && (i.front == 0))) r ∙ i.whole in
    let count : size ≡ i.bytes = cc in
    let what : kind ≡ i.reach.what.kind = q ∙ ap (λ x. kind_of x rest) f ∙ ap (kind_of (true && (i.front == 0))) r ∙ sym i.kind in
    ap (λ x. Some (record { kind = x; start = from; end = from + size })) what
    ∙ ap (λ x. Some (record { kind = i.reach.what.kind; start = x; end = from + size })) (sym i.start)
    ∙ ap (λ x. Some (record { kind = i.reach.what.kind; start = i.reach.what.start; end = x })) (ap (λ x. from + x) count ∙ sym i.end)
    ∙ sym (ap (option_map told) i.found)

pub at-nowhere : {A : Type 0} (b : List ℕ) (from : ℕ) (rest : List ℕ) (first : Bool) → IsLooked b from rest first → (length rest == 0) ≡ false → None ≡ whole_size true first rest → A
at-nowhere b from rest first k n s =
    let i = here b from rest first k n in
    let f : first ≡ (true && (i.front == 0)) = k.first_is ∙ is-front b from i.front i.is in
    let r : rest ≡ drop i.front (drop (mark_size b) b) = k.rest_is ∙ behind-there b from i.front i.is in
    let same : None ≡ Some i.bytes = s ∙ ap (λ x. whole_size true x rest) f ∙ ap (whole_size true (true && (i.front == 0))) r ∙ i.whole in
    absurd (cc)
