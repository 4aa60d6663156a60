-- What stands in a report, and that it is the same for breaches with the same members.
use Rattle.std.proofs.Common.{◌≡◌, ℕ, List, [], ◌∷◌, refl, sym, ap, ◌∙◌, subst, arith, rules, ◌≤◌, ◌<◌, suc, ⊎_elim, All, ◌↔◌, slice_index_or}
use Rattle.std.specs.List.{Contains}
use Rattle.std.specs.List.Sorted.{IsStrictlySortedBy}
use Rattle.std.proofs.Math.Nat.{eq-or-lt_of_le}
use Rattle.std.proofs.lemmas.List.Elements.{All-contains, All-contains_itself, All-weaker, All-nil, All-cons}
use Rattle.std.proofs.lemmas.Bool.{cases_lt}
use denote.Enum.Bare.{same_true, true_same}
use Rattle.ix_base.specs.declared.breach.Breach.{Breach}
use Rattle.ix_base.specs.declared.breach.Class.{Class}
use Rattle.ix_base.specs.declared.breach.Class.TheVariants as class
use Rattle.ix_base.specs.contracts.breach.Class.{the_type}
use Rattle.ix_base.specs.Once.{SameMembers, in_order}
use Rattle.ix_base.specs.Breaches.{class_of, class_rank, all_classes, first_any, first_class, of_class, is_of, report_of, breach_cmp, IsOfFirstClass}
use Rattle.ix_base.proofs.OnceLemmas.{Contains-nil, Contains-first, Contains-later, Contains-filter, Contains-from_filter, SameMembers-sym, in_order-same, in_order-members, in_order-sorted}
use Rattle.ix_base.proofs.LineLemmas.{same_breach, breach_total}

abbrev rank : Breach → ℕ
rank b = class_rank (class_of b.rule)

-- the class of a rank
abbrev class_at : ℕ → Class
class_at n = slice_index_or all_classes n class.V

class_at-rank : (c : Class) → class_at (class_rank c) ≡ c
class_at-rank class.S = refl
class_at-rank class.W = refl
class_at-rank class.N = refl
class_at-rank class.L = refl
class_at-rank class.V = refl
class_at-rank class.P = refl
class_at-rank class.X = refl

class_rank-below : (c : Class) → class_rank c < 7
class_rank-below class.S = omega arith
class_rank-below class.W = omega arith
class_rank-below class.N = omega arith
class_rank-below class.L = omega arith
class_rank-below class.V = omega arith
class_rank-below class.P = omega arith
class_rank-below class.X = omega arith

same_rank : (c d : Class) → class_rank c ≡ class_rank d → c ≡ d
same_rank c d e = sym (class_at-rank c) ∙ ap class_at e ∙ class_at-rank d

module _ (bs : List Breach) where
  -- nothing is of a class below k
  abbrev NoneBelow : ℕ → Type 0
  NoneBelow k = (b : Breach) → Contains bs b → k ≤ rank b

  abbrev IsLine : Breach → Type 0
  IsLine b = Contains bs b × IsOfFirstClass bs b

  into_class : (c : Class) (b : Breach) → Contains bs b → rank b ≡ class_rank c → Contains (of_class bs c) b
  into_class c b h e = Contains-filter (is_of c) bs b h (true_same the_type (class_of b.rule) c (same_rank (class_of b.rule) c e))

  from_class : (c : Class) (b : Breach) → Contains (of_class bs c) b → Contains bs b × (rank b ≡ class_rank c)
  from_class c b h =
      let r = Contains-from_filter (is_of c) bs b h in
      (r.0, ap class_rank (same_true the_type (search rules) (class_of b.rule) c r.1))

  none_below_next : (c : Class) → of_class bs c ≡ [] → NoneBelow (class_rank c) → NoneBelow (suc (class_rank c))
  none_below_next c e none b h = ⊎_elim
      (λ q. absurd (Contains-nil b (subst (λ ys. Contains ys b) e (into_class c b h (sym q)))))
      (λ less. less) (eq-or-lt_of_le (none b h))

  line_of : (c : Class) (b : Breach) → NoneBelow (class_rank c) → Contains (of_class bs c) b → IsLine b
  line_of c b none h =
      let r = from_class c b h in
      (r.0, All-weaker (Contains bs) (λ other. rank b ≤ rank other) (λ other k. subst (λ n. n ≤ rank other) (sym r.1) (none other k)) bs (All-contains_itself bs))

  line_into : (c : Class) (b x : Breach) → NoneBelow (class_rank c) → Contains (of_class bs c) x → IsLine b → Contains (of_class bs c) b
  line_into c b x none h line =
      let r = from_class c x h in
      let low : rank b ≤ rank x = All-contains (λ other. rank b ≤ rank other) bs x line.1 r.0 in
      let high = none b line.0 in
      into_class c b line.0 (omega (arith, r.1))

  -- what stands in the first of the classes from here on
  Stands : ℕ → List (List Breach) → Type 0
  Stands k rest = (b : Breach) → NoneBelow k → (Contains (first_any rest) b → IsLine b) × (IsLine b → Contains (first_any rest) b)

  stands_first : (c : Class) (xs : List Breach) (rest : List (List Breach)) → of_class bs c ≡ xs → Stands (suc (class_rank c)) rest → Stands (class_rank c) (xs ∷ rest)
  unfolding Stands
  stands_first c [] rest e more b none = more b (none_below_next c e none)
  stands_first c (x ∷ xs) rest e more b none = (
    λ h. line_of c b none (subst (λ ys. Contains ys b) (sym e) h),
    λ line. subst (λ ys. Contains ys b) e (line_into c b x none (subst (λ ys. Contains ys x) (sym e) (Contains-first x xs)) line),
  )

  stands_none : Stands 7 []
  unfolding Stands
  stands_none b none = (
    λ h. absurd (Contains-nil b h),
    λ line. let low = none b line.0 in let high = class_rank-below (class_of b.rule) in absurd (omega arith),
  )

  pub first_class-lines : (b : Breach) → Contains (first_class bs) b ↔ IsLine b
  unfolding Stands
  first_class-lines b =
      let first = stands_first class.S _ _ refl (stands_first class.W _ _ refl (stands_first class.N _ _ refl
      (stands_first class.L _ _ refl (stands_first class.V _ _ refl (stands_first class.P _ _ refl
      (stands_first class.X _ _ refl stands_none)))))) in
      first b (λ other h. omega arith)

  pub report-lines : (b : Breach) → Contains (report_of bs) b ↔ IsLine b
  report-lines b =
      let m = in_order-members same_breach (first_class bs) in
      let f = first_class-lines b in
      (λ h. f.0 (m.back b h), λ line. m.there b (f.1 line))

pub report-rises : (bs : List Breach) → IsStrictlySortedBy breach_cmp (report_of bs)
report-rises bs = in_order-sorted breach_total (first_class bs)

same_lines : (xs ys : List Breach) → SameMembers xs ys → (b : Breach) → Contains (first_class xs) b → Contains (first_class ys) b
same_lines xs ys m b h =
    let line = (first_class-lines xs b).0 h in
    (first_class-lines ys b).1 (
      m.there b line.0,
      All-weaker (Contains ys) (λ other. rank b ≤ rank other)
          (λ other k. All-contains (λ z. rank b ≤ rank z) xs other line.1 (m.back other k)) ys (All-contains_itself ys),
    )

pub report-same : (xs ys : List Breach) → SameMembers xs ys → report_of xs ≡ report_of ys
report-same xs ys m = in_order-same same_breach breach_total (first_class xs) (first_class ys)
    (record { there = same_lines xs ys m; back = same_lines ys xs (SameMembers-sym xs ys m) })

-- among breaches one is of the first class
some_line : (b : Breach) (bs : List Breach) → (m : Breach) × IsLine (b ∷ bs) m
some_line b [] = (b, (Contains-first b [], All-cons (λ other. rank b ≤ rank other) b [] (omega arith) (All-nil (λ other. rank b ≤ rank other))))
some_line b (c ∷ bs) =
    let r = some_line c bs in
    let m : Breach = r.0 in
    let low : All (λ other. rank m ≤ rank other) (c ∷ bs) = r.1.1 in
    ⊎_elim
    (λ less. (
      b,
      (
        Contains-first b (c ∷ bs),
        All-cons (λ other. rank b ≤ rank other) b (c ∷ bs) (omega arith)
            (All-weaker (λ other. rank m ≤ rank other) (λ other. rank b ≤ rank other) (λ other h. omega arith) (c ∷ bs) low),
      ),
    ))
    (λ more. (m, (Contains-later b (c ∷ bs) m r.1.0, All-cons (λ other. rank m ≤ rank other) b (c ∷ bs) more low)))
    (cases_lt (rank b) (rank m))

none_reported : (bs : List Breach) → report_of bs ≡ [] → bs ≡ []
none_reported [] e = refl
none_reported (b ∷ bs) e =
    let r = some_line b bs in
    absurd (Contains-nil r.0 (subst (λ ys. Contains ys r.0) e ((report-lines (b ∷ bs) r.0).1 r.1)))

report-nil : report_of [] ≡ []
unfolding in_order
report-nil = refl

pub report-is_nil : (bs : List Breach) → (report_of bs ≡ []) ↔ (bs ≡ [])
report-is_nil bs = (none_reported bs, λ e. ap report_of e ∙ report-nil)
