-- Constructs that end stay as they are, whatever follows.
use Rattle.std.proofs.Common.{◌≡◌, ℕ, suc, ◌+◌, ◌<◌, ◌≤◌, ◌==◌, Bool, true, false, ◌&&◌, ◌||◌, if◌then◌else◌, ◌⊎◌, inl, inr, List, [], ◌∷◌, ◌++◌, length, drop, map, Option, Some, None, option_map, is_none, refl, sym, ap, ◌∙◌, arith, subst, append-nil, length-drop, codes}
use Rattle.std.specs.List.{list_all}
use Rattle.std.proofs.lemmas.List.{drop-append-le}
use Rattle.std.proofs.lemmas.Bool.{and_parts}
use Rattle.ix_base.specs.NcName.{is_white}
use Rattle.page_constructs.specs.Constructs.{starts, after, after_tag, text_size, reference_size, starts_white, kind_of, with_front, size_by, size}
use Rattle.page_constructs.specs.declared.kind.Kind.{Kind}
use Rattle.page_constructs.specs.declared.kind.Kind.TheVariants.{Declaration, Instruction, Comment, Cdata, Doctype, Unknown, EndTag, StartTag, Reference, Text}
use Rattle.page_constructs.proofs.SpanLaws.{clash, one_number, starts-front}

-- a length that is found stays found
abbrev pub Stays : Option ℕ → Option ℕ → Type 0
Stays o p = (k : ℕ) → o ≡ Some k → p ≡ Some k

stays-if : (b : Bool) (x y x' y' : Option ℕ) → Stays x x' → Stays y y' → Stays (if b then x else y) (if b then x' else y')
stays-if true x y x' y' s t = s
stays-if false x y x' y' s t = t

stays-map : (f : ℕ → ℕ) (o p : Option ℕ) → Stays o p → Stays (option_map f o) (option_map f p)
stays-map f None p s k e = absurd (cc)
stays-map f (Some j) p s k e = ap (option_map f) (s j refl) ∙ e

pub starts-append : (p cs more : List ℕ) → length p ≤ length cs → starts p (cs ++ more) ≡ starts p cs
starts-append [] cs more h = refl
starts-append (p ∷ ps) [] more h = absurd (omega arith)
starts-append (p ∷ ps) (c ∷ cs) more h = ap (λ b. c == p && b) (starts-append ps cs more (omega arith))

pub starts-length : (p cs : List ℕ) → starts p cs ≡ true → length p ≤ length cs
starts-length [] cs h = omega arith
starts-length (p ∷ ps) [] h = absurd (cc)
starts-length (p ∷ ps) (c ∷ cs) h = let l = starts-length ps cs (and_parts (c == p) (starts ps cs) h).1 in omega arith

pub after-length : (ends cs : List ℕ) (k : ℕ) → after ends cs ≡ Some k → (length ends ≤ k) × (k ≤ length cs)
after-length ends [] k e = absurd (cc)
after-length ends (c ∷ cs) k e =
    elim (starts ends (c ∷ cs)) as (λ b. starts ends (c ∷ cs) ≡ b → (if b then Some (length ends) else option_map suc (after ends cs)) ≡ Some k → (length ends ≤ k) × (k ≤ suc (length cs))) [
      | true ↦ λ t. λ q. let l = starts-length ends (c ∷ cs) t in let n : length ends ≡ k = cc in (omega arith, omega arith)
      | false ↦ λ t. λ q. (elim (after ends cs) as (λ o. ((j : ℕ) → o ≡ Some j → (length ends ≤ j) × (j ≤ length cs)) → option_map suc o ≡ Some k → (length ends ≤ k) × (k ≤ suc (length cs))) [
        | None ↦ λ ih. λ z. absurd (cc)
        | Some j ↦ λ ih. λ z. let n : suc j ≡ k = cc in let l = ih j refl in (omega arith, omega arith)
      ]) (after-length ends cs) q
    ] refl e

after-append : (ends cs more : List ℕ) → Stays (after ends cs) (after ends (cs ++ more))
after-append ends [] more k e = absurd (cc)
after-append ends (c ∷ cs) more k e =
    let l = after-length ends (c ∷ cs) k e in
    let same = starts-append ends (c ∷ cs) more (omega arith) in
    rw same (stays-if (starts ends (c ∷ cs)) (Some (length ends)) (option_map suc (after ends cs)) (Some (length ends)) (option_map suc (after ends (cs ++ more)))
    (λ j q. q) (stays-map suc _ _ (after-append ends cs more)) k e)

after_tag-append : (q : Option ℕ) (cs more : List ℕ) → Stays (after_tag q cs) (after_tag q (cs ++ more))
after_tag-append q [] more = λ k e. absurd (cc)
after_tag-append (Some q) (c ∷ cs) more =
    stays-map suc _ _ (stays-if (c == q) _ _ _ _ (after_tag-append None cs more) (after_tag-append (Some q) cs more))
after_tag-append None (c ∷ cs) more =
    stays-if (c == 62) _ _ _ _ (λ k e. e) (stays-map suc _ _ (stays-if (c == 34 || c == 39) _ _ _ _ (after_tag-append (Some c) cs more) (after_tag-append None cs more)))

text_size-append : (cs more : List ℕ) → Stays (text_size cs) (text_size (cs ++ more))
text_size-append [] more = λ k e. absurd (cc)
text_size-append (c ∷ cs) more = stays-if (c == 60 || c == 38) _ _ _ _ (λ k e. e) (stays-map suc _ _ (text_size-append cs more))

reference_size-append : (cs more : List ℕ) → Stays (reference_size cs) (reference_size (cs ++ more))
reference_size-append [] more = λ k e. absurd (cc)
reference_size-append (c ∷ cs) more =
    stays-if (c == 59) _ _ _ _ (λ k e. e) (stays-if (is_white c || c == 60 || c == 38) _ _ _ _ (λ k e. e) (stays-map suc _ _ (reference_size-append cs more)))

-- what is found behind some bytes stays found there
stays-behind : (f : List ℕ → Option ℕ) → f [] ≡ None → ((cs more : List ℕ) → Stays (f cs) (f (cs ++ more)))
    → (n : ℕ) (cs more : List ℕ) → Stays (with_front n (f (drop n cs))) (with_front n (f (drop n (cs ++ more))))
stays-behind f nothing stays n cs more k e = long (drop n cs) refl k e where
  long : (r : List ℕ) → drop n cs ≡ r → (k : ℕ) → with_front n (f r) ≡ Some k → with_front n (f (drop n (cs ++ more))) ≡ Some k
  long [] d k q = absurd (let z : with_front n (f []) ≡ None = ap (with_front n) nothing in cc)
  long (c ∷ r) d k q =
      let l : length (drop n cs) ≡ suc (length r) = ap length d in
      let room : n ≤ length cs = omega (arith, length-drop n cs) in
      ap (λ x. with_front n (f x)) (drop-append-le n cs more room ∙ ap (λ x. x ++ more) d)
      ∙ stays-map (λ j. j + n) _ _ (stays (c ∷ r) more) k q

pub size_by-append : (kind : Kind) (cs more : List ℕ) → Stays (size_by kind cs) (size_by kind (cs ++ more))
unfolding size_by
size_by-append Declaration cs more = stays-behind (after (codes "?>")) refl (after-append (codes "?>")) 1 cs more
size_by-append Instruction cs more = stays-behind (after (codes "?>")) refl (after-append (codes "?>")) 1 cs more
size_by-append Comment cs more = stays-behind (after (codes "-->")) refl (after-append (codes "-->")) 4 cs more
size_by-append Cdata cs more = stays-behind (after (codes "]]>")) refl (after-append (codes "]]>")) 9 cs more
size_by-append Doctype cs more = stays-behind (after_tag None) refl (after_tag-append None) 9 cs more
size_by-append Unknown cs more = stays-behind (after (codes ">")) refl (after-append (codes ">")) 2 cs more
size_by-append EndTag cs more = stays-behind (after (codes ">")) refl (after-append (codes ">")) 2 cs more
size_by-append StartTag cs more = stays-behind (after_tag None) refl (after_tag-append None) 1 cs more
size_by-append Reference cs more = stays-behind reference_size refl reference_size-append 1 cs more
size_by-append Text cs more = stays-behind text_size refl text_size-append 1 cs more

-- the fronts of a text that lack something of it
abbrev prefixes : List ℕ → List (List ℕ)
prefixes [] = []
prefixes (p ∷ ps) = [] ∷ map (λ x. p ∷ x) (prefixes ps)

all-map : (f : List ℕ → Bool) (g : List ℕ → List ℕ) (xs : List (List ℕ)) → list_all f (map g xs) ≡ list_all (λ x. f (g x)) xs
all-map f g [] = refl
all-map f g (x ∷ xs) = ap (λ b. f (g x) && b) (all-map f g xs)

deeper : (f : List ℕ → Bool) (p : ℕ) (ps : List ℕ) → list_all f (prefixes (p ∷ ps)) ≡ true → list_all (λ x. f (p ∷ x)) (prefixes ps) ≡ true
deeper f p ps h = sym (all-map f (λ x. p ∷ x) (prefixes ps)) ∙ (and_parts (f []) _ h).1

-- either what follows doesn't matter to this test, or the bytes are such a front
starts-or : (p : List ℕ) (f : List ℕ → Bool) (cs more : List ℕ) → list_all f (prefixes p) ≡ true → (starts p (cs ++ more) ≡ starts p cs) ⊎ (f cs ≡ true)
starts-or [] f cs more h = inl refl
starts-or (p ∷ ps) f [] more h = inr (and_parts (f []) _ h).0
starts-or (p ∷ ps) f (c ∷ cs) more h = by_first (starts-or ps (λ x. f (p ∷ x)) cs more (deeper f p ps h)) (c == p) refl where
  by_first : (starts ps (cs ++ more) ≡ starts ps cs) ⊎ (f (p ∷ cs) ≡ true) → (b : Bool) → (c == p) ≡ b → ((b && starts ps (cs ++ more)) ≡ (b && starts ps cs)) ⊎ (f (c ∷ cs) ≡ true)
  by_first (inl e) true t = inl e
  by_first (inr e) true t = inr (subst (λ x. f (x ∷ cs) ≡ true) (sym (one_number c p t)) e)
  by_first r false t = inl refl

-- no construct ends in these bytes alone
abbrev pub is_unended : Bool → List ℕ → Bool
is_unended first cs = is_none (size first cs)

fronts-instruction : (first : Bool) → list_all (is_unended first) (prefixes (codes "<?xml")) ≡ true
unfolding kind_of size_by
fronts-instruction true = refl
fronts-instruction false = refl

fronts-comment : (first : Bool) → list_all (is_unended first) (prefixes (codes "<!--")) ≡ true
unfolding kind_of size_by
fronts-comment first = refl

fronts-cdata : (first : Bool) → list_all (is_unended first) (prefixes (codes "<![CDATA[")) ≡ true
unfolding kind_of size_by
fronts-cdata first = refl

fronts-doctype : (first : Bool) → list_all (is_unended first) (prefixes (codes "<!DOCTYPE")) ≡ true
unfolding kind_of size_by
fronts-doctype first = refl

fronts-two : (first : Bool) (c : ℕ) → list_all (is_unended first) (prefixes (60 ∷ c ∷ [])) ≡ true
unfolding kind_of size_by
fronts-two first c = refl

fronts-one : (first : Bool) (c : ℕ) → list_all (is_unended first) (prefixes (c ∷ [])) ≡ true
unfolding kind_of size_by
fronts-one first c = refl

declared-unended : (first : Bool) → size first (codes "<?xml") ≡ None
unfolding kind_of size_by
declared-unended true = refl
declared-unended false = refl

module _ (first : Bool) (cs more : List ℕ) (k : ℕ) (e : size first cs ≡ Some k) where
  same-start : (p : List ℕ) → list_all (is_unended first) (prefixes p) ≡ true → starts p (cs ++ more) ≡ starts p cs
  same-start p h = settle (starts-or p (is_unended first) cs more h) where
    settle : (starts p (cs ++ more) ≡ starts p cs) ⊎ (is_unended first cs ≡ true) → starts p (cs ++ more) ≡ starts p cs
    settle (inl q) = q
    settle (inr q) = clash (is_none (size first cs)) q (ap is_none e)

  same-white : (starts (codes "<?xml") (cs ++ more) && starts_white (drop 5 (cs ++ more))) ≡ (starts (codes "<?xml") cs && starts_white (drop 5 cs))
  same-white = by_start (starts (codes "<?xml") cs) refl where
    same : starts (codes "<?xml") (cs ++ more) ≡ starts (codes "<?xml") cs
    same = same-start (codes "<?xml") (fronts-instruction first)

    behind_front : (r : List ℕ) → cs ≡ codes "<?xml" ++ r → starts_white (drop 5 (cs ++ more)) ≡ starts_white (drop 5 cs)
    behind_front [] q = absurd (let z : size first cs ≡ None = ap (size first) (q ∙ append-nil (codes "<?xml")) ∙ declared-unended first in cc)
    behind_front (c ∷ r) q = ap (λ x. starts_white (drop 5 (x ++ more))) q ∙ sym (ap (λ x. starts_white (drop 5 x)) q)

    by_start : (b : Bool) → starts (codes "<?xml") cs ≡ b → (starts (codes "<?xml") (cs ++ more) && starts_white (drop 5 (cs ++ more))) ≡ (starts (codes "<?xml") cs && starts_white (drop 5 cs))
    by_start true t = rw (same, t) (behind_front (drop 5 cs) (starts-front (codes "<?xml") cs t))
    by_start false t = rw (same, t) refl

  same-declared : (first && starts (codes "<?xml") (cs ++ more) && starts_white (drop 5 (cs ++ more))) ≡ (first && starts (codes "<?xml") cs && starts_white (drop 5 cs))
  same-declared = by_first first where
    by_first : (b : Bool) → (b && starts (codes "<?xml") (cs ++ more) && starts_white (drop 5 (cs ++ more))) ≡ (b && starts (codes "<?xml") cs && starts_white (drop 5 cs))
    by_first true = same-white
    by_first false = refl

  pub kind_of-append : kind_of first (cs ++ more) ≡ kind_of first cs
  unfolding kind_of
  kind_of-append =
      rw (
        same-declared,
        same-start (codes "<?") (fronts-two first 63),
        same-start (codes "<!--") (fronts-comment first),
        same-start (codes "<![CDATA[") (fronts-cdata first),
        same-start (codes "<!DOCTYPE") (fronts-doctype first),
        same-start (codes "<!") (fronts-two first 33),
        same-start (codes "</") (fronts-two first 47),
        same-start (codes "<") (fronts-one first 60),
        same-start (codes "&") (fronts-one first 38),
      ) refl

  pub size-append : size first (cs ++ more) ≡ Some k
  size-append = ap (λ x. size_by x (cs ++ more)) kind_of-append ∙ size_by-append (kind_of first cs) cs more k e

-- a construct has a byte, and no more than there are
after-takes : (p : ℕ) (ps : List ℕ) (cs : List ℕ) (k : ℕ) → after (p ∷ ps) cs ≡ Some k → k ≤ length cs
after-takes p ps cs k e = (after-length (p ∷ ps) cs k e).1

abbrev Within : Option ℕ → ℕ → Type 0
Within o n = (k : ℕ) → o ≡ Some k → k ≤ n

within-suc : (o : Option ℕ) (n : ℕ) → Within o n → Within (option_map suc o) (suc n)
within-suc None n w k e = absurd (cc)
within-suc (Some j) n w k e = let l = w j refl in let s : suc j ≡ k = cc in omega arith

within-if : (b : Bool) (x y : Option ℕ) (n : ℕ) → Within x n → Within y n → Within (if b then x else y) n
within-if true x y n v w = v
within-if false x y n v w = w

within-some : (j n : ℕ) → j ≤ n → Within (Some j) n
within-some j n h k e = let s : j ≡ k = cc in omega arith

after_tag-within : (q : Option ℕ) (cs : List ℕ) → Within (after_tag q cs) (length cs)
after_tag-within q [] = λ k e. absurd (cc)
after_tag-within (Some q) (c ∷ cs) = within-suc _ _ (within-if (c == q) _ _ _ (after_tag-within None cs) (after_tag-within (Some q) cs))
after_tag-within None (c ∷ cs) = within-if (c == 62) _ _ _ (within-some 1 (suc (length cs)) (omega arith))
    (within-suc _ _ (within-if (c == 34 || c == 39) _ _ _ (after_tag-within (Some c) cs) (after_tag-within None cs)))

text_size-within : (cs : List ℕ) → Within (text_size cs) (length cs)
text_size-within [] = λ k e. absurd (cc)
text_size-within (c ∷ cs) = within-if (c == 60 || c == 38) _ _ _ (within-some 0 (suc (length cs)) (omega arith)) (within-suc _ _ (text_size-within cs))

reference_size-within : (cs : List ℕ) → Within (reference_size cs) (length cs)
reference_size-within [] = λ k e. absurd (cc)
reference_size-within (c ∷ cs) = within-if (c == 59) _ _ _ (within-some 1 (suc (length cs)) (omega arith))
    (within-if (is_white c || c == 60 || c == 38) _ _ _ (within-some 0 (suc (length cs)) (omega arith)) (within-suc _ _ (reference_size-within cs)))

takes-behind : (f : List ℕ → Option ℕ) → f [] ≡ None → ((cs : List ℕ) → Within (f cs) (length cs)) → (n : ℕ) (cs : List ℕ) (k : ℕ) → with_front (suc n) (f (drop (suc n) cs)) ≡ Some k → (0 < k) × (k ≤ length cs)
takes-behind f nothing w n cs k e = long (drop (suc n) cs) refl k e where
  found : (o : Option ℕ) (m : ℕ) → suc n + m ≤ length cs → Within o m → (k : ℕ) → with_front (suc n) o ≡ Some k → (0 < k) × (k ≤ length cs)
  found None m l v k q = absurd (cc)
  found (Some j) m l v k q = let s : j + suc n ≡ k = cc in let b = v j refl in (omega arith, omega arith)

  long : (r : List ℕ) → drop (suc n) cs ≡ r → (k : ℕ) → with_front (suc n) (f r) ≡ Some k → (0 < k) × (k ≤ length cs)
  long [] d k q = absurd (let z : with_front (suc n) (f []) ≡ None = ap (with_front (suc n)) nothing in cc)
  long (c ∷ r) d k q =
      let l : length (drop (suc n) cs) ≡ suc (length r) = ap length d in
      found (f (c ∷ r)) (suc (length r)) (omega (arith, length-drop (suc n) cs)) (w (c ∷ r)) k q

pub size_by-takes : (kind : Kind) (cs : List ℕ) (k : ℕ) → size_by kind cs ≡ Some k → (0 < k) × (k ≤ length cs)
unfolding size_by
size_by-takes Declaration cs k e = takes-behind (after (codes "?>")) refl (λ c. after-takes 63 (62 ∷ []) c) 0 cs k e
size_by-takes Instruction cs k e = takes-behind (after (codes "?>")) refl (λ c. after-takes 63 (62 ∷ []) c) 0 cs k e
size_by-takes Comment cs k e = takes-behind (after (codes "-->")) refl (λ c. after-takes 45 (45 ∷ 62 ∷ []) c) 3 cs k e
size_by-takes Cdata cs k e = takes-behind (after (codes "]]>")) refl (λ c. after-takes 93 (93 ∷ 62 ∷ []) c) 8 cs k e
size_by-takes Doctype cs k e = takes-behind (after_tag None) refl (after_tag-within None) 8 cs k e
size_by-takes Unknown cs k e = takes-behind (after (codes ">")) refl (λ c. after-takes 62 [] c) 1 cs k e
size_by-takes EndTag cs k e = takes-behind (after (codes ">")) refl (λ c. after-takes 62 [] c) 1 cs k e
size_by-takes StartTag cs k e = takes-behind (after_tag None) refl (after_tag-within None) 0 cs k e
size_by-takes Reference cs k e = takes-behind reference_size refl reference_size-within 0 cs k e
size_by-takes Text cs k e = takes-behind text_size refl text_size-within 0 cs k e
