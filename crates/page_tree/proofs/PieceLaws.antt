-- It doesn't matter in which pieces constructs are cut.
use Rattle.std.proofs.Common.{if◌then◌else◌, ◌&&◌, ◌≡◌, ℕ, suc, zero, ◌<◌, ◌≤◌, Bool, true, false, List, [], ◌∷◌, ◌++◌, length, take, drop, Option, Some, None, refl, ap, ◌∙◌, arith, length-drop}
use Rattle.std.proofs.lemmas.List.{take-append-le, drop-append-le, map-append}
use Rattle.page_constructs.specs.Constructs.{Byte, values, size, is_run, settled_or, whole_size, Construct, construct, offset_of, kind_of, cut_at, cut_from, settled, finished, is_first, continued}
use Rattle.page_tree.specs.Spellings.{put_first}
use Rattle.page_constructs.proofs.CutLaws.{size_by-takes, size-append, kind_of-append}

pub length-values : (us : List Byte) → length (values us) ≡ length us
length-values [] = refl
length-values (u ∷ us) = let l = length-values us in omega arith

pub whole-takes : (ended first : Bool) (cs : List ℕ) (k : ℕ) → whole_size ended first cs ≡ Some k → (0 < k) × (k ≤ length cs)
whole-takes ended first cs k e = by_size (size first cs) refl e where
  by_run : (b : Bool) (ds : List ℕ) → cs ≡ ds → (b ≡ true → is_run ds ≡ true) → (if b then Some (length cs) else None) ≡ Some k → (0 < k) × (k ≤ length cs)
  by_run false ds s h q = absurd (cc)
  by_run true [] s h q = absurd (let z = h refl in cc)
  by_run true (d ∷ ds) s h q = let l : length cs ≡ suc (length ds) = ap length s in let m : length cs ≡ k = cc in (omega arith, omega arith)

  by_size : (o : Option ℕ) → size first cs ≡ o → settled_or o (ended && is_run cs) (length cs) ≡ Some k → (0 < k) × (k ≤ length cs)
  by_size (Some j) s q = size_by-takes (kind_of first cs) cs k (s ∙ q)
  by_size None s q = by_run (ended && is_run cs) cs refl (λ t. (Rattle.std.proofs.lemmas.Bool.and_parts ended (is_run cs) t).1) q

-- more fuel than bytes changes nothing
fuel : (n m : ℕ) (ended first : Bool) (us : List Byte) → length us ≤ n → length us ≤ m → cut_from n ended first us ≡ cut_from m ended first us
unfolding cut_from
fuel zero zero ended first us a b = refl
fuel zero (suc m) ended first [] a b = (elim (whole_size ended first []) as (λ o. whole_size ended first [] ≡ o → record { constructs = []; rest = [] } ≡ cut_at o first [] (cut_from m ended false)) [
  | None ↦ λ e. refl
  | Some k ↦ λ e. absurd (let t = whole-takes ended first [] k e in omega arith)
]) refl
fuel zero (suc m) ended first (u ∷ us) a b = absurd (omega arith)
fuel (suc n) zero ended first [] a b = (elim (whole_size ended first []) as (λ o. whole_size ended first [] ≡ o → cut_at o first [] (cut_from n ended false) ≡ record { constructs = []; rest = [] }) [
  | None ↦ λ e. refl
  | Some k ↦ λ e. absurd (let t = whole-takes ended first [] k e in omega arith)
]) refl
fuel (suc n) zero ended first (u ∷ us) a b = absurd (omega arith)
fuel (suc n) (suc m) ended first us a b = (elim (whole_size ended first (values us)) as (λ o. whole_size ended first (values us) ≡ o → cut_at o first us (cut_from n ended false) ≡ cut_at o first us (cut_from m ended false)) [
  | None ↦ λ e. refl
  | Some k ↦ λ e.
      let t = whole-takes ended first (values us) k e in
      let l = length-values us in
      ap (λ c. record { constructs = construct first k us ∷ c.constructs; rest = c.rest }) (fuel n m ended false (drop k us) (omega (arith, length-drop k us)) (omega (arith, length-drop k us)))
]) refl

-- a construct that ends in the first piece is the same with what follows
pub same-construct : (first : Bool) (k : ℕ) (a b : List Byte) → size first (values a) ≡ Some k → construct first k (a ++ b) ≡ construct first k a
same-construct first k a b e = λ i. record { kind = kind i; start = start i; text = text i } where
  t : (0 < k) × (k ≤ length (values a))
  t = size_by-takes (kind_of first (values a)) (values a) k e

  kind : kind_of first (values (a ++ b)) ≡ kind_of first (values a)
  kind = ap (kind_of first) (map-append (λ u. u.value) a b) ∙ kind_of-append first (values a) (values b) k e

  start : offset_of (a ++ b) ≡ offset_of a
  start = by_first a (let l = length-values a in let p = t.0 in let q = t.1 in omega arith) where
    by_first : (x : List Byte) → 0 < length x → offset_of (x ++ b) ≡ offset_of x
    by_first [] h = absurd (omega arith)
    by_first (u ∷ x) h = refl

  text : values (take k (a ++ b)) ≡ values (take k a)
  text = ap values (take-append-le k a b (let l = length-values a in let q = t.1 in omega arith))

pub finished-step : (ended first : Bool) (us : List Byte) (k : ℕ) → whole_size ended first (values us) ≡ Some k → finished ended first us ≡ put_first (construct first k us) (finished ended false (drop k us))
unfolding cut_from
finished-step ended first [] k e = absurd (let t = whole-takes ended first [] k e in omega arith)
finished-step ended first (u ∷ us) k e =
    let t = whole-takes ended first (values (u ∷ us)) k e in
    let l = length-values (u ∷ us) in
    ap (λ o. cut_at o first (u ∷ us) (cut_from (length us) ended false)) e
    ∙ ap (put_first (construct first k (u ∷ us))) (fuel (length us) (length (drop k (u ∷ us))) ended false (drop k (u ∷ us)) (omega (arith, length-drop k (u ∷ us))) (omega arith))

never-first : (cs : List Construct) → is_first false cs ≡ false
never-first [] = refl
never-first (c ∷ cs) = refl

pieces-from : (n : ℕ) (ended first : Bool) (a b : List Byte) → length a ≤ n → finished ended first (a ++ b) ≡ continued ended first (cut_from n false first a) b
unfolding cut_from
pieces-from zero ended first [] b h = refl
pieces-from zero ended first (u ∷ a) b h = absurd (omega arith)
pieces-from (suc n) ended first a b h = by_size (λ k. pieces-from n ended false (drop k a) b) (size first (values a)) refl where
  by_size : ((k : ℕ) → length (drop k a) ≤ n → finished ended false (drop k a ++ b) ≡ continued ended false (cut_from n false false (drop k a)) b)
      → (o : Option ℕ) → size first (values a) ≡ o → finished ended first (a ++ b) ≡ continued ended first (cut_at (settled_or o false (length (values a))) first a (cut_from n false false)) b
  by_size ih None e = refl
  by_size ih (Some k) e =
      let t = size_by-takes (kind_of first (values a)) (values a) k e in
      let l = length-values a in
      let whole : whole_size ended first (values (a ++ b)) ≡ Some k =
      ap (λ o. settled_or o (ended && is_run (values (a ++ b))) (length (values (a ++ b)))) (ap (size first) (map-append (λ u. u.value) a b) ∙ size-append first (values a) (values b) k e) in
      let r = cut_from n false false (drop k a) in
      finished-step ended first (a ++ b) k whole
      ∙ ap (λ c. put_first c (finished ended false (drop k (a ++ b)))) (same-construct first k a b e)
      ∙ ap (λ x. put_first (construct first k a) (finished ended false x)) (drop-append-le k a b (omega arith))
      ∙ ap (put_first (construct first k a)) (ih k (omega (arith, length-drop k a)))
      ∙ ap (λ f. record { constructs = construct first k a ∷ (r.constructs ++ (finished ended f (r.rest ++ b)).constructs); rest = (finished ended f (r.rest ++ b)).rest }) (never-first r.constructs)

pub pieces : (ended first : Bool) (a b : List Byte) → finished ended first (a ++ b) ≡ continued ended first (settled first a) b
pieces ended first a b = pieces-from (length a) ended first a b (omega arith)
