-- A construct that doesn't end in some bytes ends behind them.
use Rattle.std.proofs.Common.{◌≡◌, ◌≢◌, ℕ, zero, suc, ◌+◌, ◌<◌, ◌≤◌, ◌==◌, Bool, true, false, ◌&&◌, ◌||◌, if◌then◌else◌, List, [], ◌∷◌, ◌++◌, length, take, drop, Option, Some, None, option_map, refl, sym, ap, ◌∙◌, arith, length-drop, take-append-drop, codes, ⊎_elim}
use Rattle.std.proofs.lemmas.Bool.{cases_lt}
use Rattle.std.proofs.lemmas.List.{drop-append-le, length-take-le}
use Rattle.ix_base.specs.NcName.{is_white}
use Rattle.page_constructs.specs.Constructs.{starts, after, after_tag, text_size, reference_size, starts_white, kind_else, kind_of, with_front, size_by, size, settled_or, is_run, whole_size}
use Rattle.page_constructs.specs.declared.kind.Kind.{Kind}
use Rattle.page_constructs.specs.declared.kind.Kind.TheVariants.{Declaration, Instruction, Comment, Cdata, Doctype, Unknown, EndTag, StartTag, Reference, Text}
use Rattle.page_constructs.proofs.CutLaws.{starts-append, starts-length, size_by-takes}
use Rattle.page_constructs.proofs.SpanLaws.{clash, starts-front}

-- a length that is found in more bytes, and ends within the first n, is found in these
abbrev Near : Option ℕ → Option ℕ → ℕ → Type 0
Near o p n = (k : ℕ) → o ≡ Some k → k < n → p ≡ Some k

near-if : (b : Bool) (x y x' y' : Option ℕ) (n : ℕ) → Near x x' n → Near y y' n → Near (if b then x else y) (if b then x' else y') n
near-if true x y x' y' n s t = s
near-if false x y x' y' n s t = t

near-suc : (o p : Option ℕ) (n : ℕ) → Near o p n → Near (option_map suc o) (option_map suc p) (suc n)
near-suc None p n s k e l = absurd (cc)
near-suc (Some j) p n s k e l = let is : suc j ≡ k = cc in ap (option_map suc) (s j refl (omega arith)) ∙ e

starts-same : (ends cs more : List ℕ) → length ends ≤ length cs → (b : Bool) → starts ends (cs ++ more) ≡ b → starts ends cs ≡ b
starts-same ends cs more h b e = sym (starts-append ends cs more h) ∙ e

-- what begins so goes on beginning so
starts-stays : (ends cs more : List ℕ) → starts ends (cs ++ more) ≡ false → starts ends cs ≡ false
starts-stays ends cs more e = (elim (starts ends cs) as (λ b. starts ends cs ≡ b → b ≡ false) [
  | true ↦ λ t. clash (starts ends cs) t (starts-same ends cs more (starts-length ends cs t) false e)
  | false ↦ λ t. refl
]) refl

near-after : (ends cs more : List ℕ) → Near (after ends (cs ++ more)) (after ends cs) (length cs)
near-after ends [] more = λ k e l. absurd (omega arith)
near-after ends (c ∷ cs) more = by_start (near-after ends cs more) (starts ends ((c ∷ cs) ++ more)) refl where
  by_start : Near (after ends (cs ++ more)) (after ends cs) (length cs) → (b : Bool) → starts ends ((c ∷ cs) ++ more) ≡ b
      → Near (if b then Some (length ends) else option_map suc (after ends (cs ++ more))) (after ends (c ∷ cs)) (suc (length cs))
  by_start ih true t k e l =
      let is : length ends ≡ k = cc in
      ap (λ b. if b then Some (length ends) else option_map suc (after ends cs)) (starts-same ends (c ∷ cs) more (omega arith) true t) ∙ e
  by_start ih false t k e l =
      ap (λ b. if b then Some (length ends) else option_map suc (after ends cs)) (starts-stays ends (c ∷ cs) more t)
      ∙ near-suc (after ends (cs ++ more)) (after ends cs) (length cs) ih k e l

near-tag : (q : Option ℕ) (cs more : List ℕ) → Near (after_tag q (cs ++ more)) (after_tag q cs) (length cs)
near-tag q [] more = λ k e l. absurd (omega arith)
near-tag (Some q) (c ∷ cs) more =
    near-suc _ _ (length cs) (near-if (c == q) _ _ _ _ (length cs) (near-tag None cs more) (near-tag (Some q) cs more))
near-tag None (c ∷ cs) more =
    near-if (c == 62) _ _ _ _ (suc (length cs)) (λ k e l. e)
    (near-suc _ _ (length cs) (near-if (c == 34 || c == 39) _ _ _ _ (length cs) (near-tag (Some c) cs more) (near-tag None cs more)))

near-text : (cs more : List ℕ) → Near (text_size (cs ++ more)) (text_size cs) (length cs)
near-text [] more = λ k e l. absurd (omega arith)
near-text (c ∷ cs) more = near-if (c == 60 || c == 38) _ _ _ _ (suc (length cs)) (λ k e l. e) (near-suc _ _ (length cs) (near-text cs more))

near-reference : (cs more : List ℕ) → Near (reference_size (cs ++ more)) (reference_size cs) (length cs)
near-reference [] more = λ k e l. absurd (omega arith)
near-reference (c ∷ cs) more =
    near-if (c == 59) _ _ _ _ (suc (length cs)) (λ k e l. e)
    (near-if (is_white c || c == 60 || c == 38) _ _ _ _ (suc (length cs)) (λ k e l. e) (near-suc _ _ (length cs) (near-reference cs more)))

least-behind : (n : ℕ) (o : Option ℕ) (k : ℕ) → with_front n o ≡ Some k → n ≤ k
least-behind n None k e = absurd (cc)
least-behind n (Some j) k e = let is : j + n ≡ k = cc in omega arith

near-behind : (f : List ℕ → Option ℕ) → ((cs more : List ℕ) → Near (f (cs ++ more)) (f cs) (length cs)) → (n : ℕ) (cs more : List ℕ)
    → Near (with_front n (f (drop n (cs ++ more)))) (with_front n (f (drop n cs))) (length cs)
near-behind f near n cs more k e l =
    let room = least-behind n (f (drop n (cs ++ more))) k e in
    let cut = drop-append-le n cs more (omega arith) in
    found (f (drop n cs ++ more)) refl (ap (λ x. with_front n (f x)) (sym cut) ∙ e) where
      found : (o : Option ℕ) → f (drop n cs ++ more) ≡ o → with_front n o ≡ Some k → with_front n (f (drop n cs)) ≡ Some k
      found None s q = absurd (cc)
      found (Some j) s q = let is : j + n ≡ k = cc in ap (with_front n) (near (drop n cs) more j s (omega (arith, length-drop n cs))) ∙ q

near-size : (kind : Kind) (cs more : List ℕ) → Near (size_by kind (cs ++ more)) (size_by kind cs) (length cs)
unfolding size_by
near-size Declaration cs more = near-behind (after (codes "?>")) (near-after (codes "?>")) 1 cs more
near-size Instruction cs more = near-behind (after (codes "?>")) (near-after (codes "?>")) 1 cs more
near-size Comment cs more = near-behind (after (codes "-->")) (near-after (codes "-->")) 4 cs more
near-size Cdata cs more = near-behind (after (codes "]]>")) (near-after (codes "]]>")) 9 cs more
near-size Doctype cs more = near-behind (after_tag None) (near-tag None) 9 cs more
near-size Unknown cs more = near-behind (after (codes ">")) (near-after (codes ">")) 2 cs more
near-size EndTag cs more = near-behind (after (codes ">")) (near-after (codes ">")) 2 cs more
near-size StartTag cs more = near-behind (after_tag None) (near-tag None) 1 cs more
near-size Reference cs more = near-behind reference_size near-reference 1 cs more
near-size Text cs more = near-behind text_size near-text 1 cs more

-- a long front leaves no end within it
least-comment : (first : Bool) (r : List ℕ) (k : ℕ) → size first (codes "<!--" ++ r) ≡ Some k → 4 ≤ k
unfolding kind_of size_by
least-comment first r k e = least-behind 4 (after (codes "-->") r) k e

least-cdata : (first : Bool) (r : List ℕ) (k : ℕ) → size first (codes "<![CDATA[" ++ r) ≡ Some k → 9 ≤ k
unfolding kind_of size_by
least-cdata first r k e = least-behind 9 (after (codes "]]>") r) k e

least-doctype : (first : Bool) (r : List ℕ) (k : ℕ) → size first (codes "<!DOCTYPE" ++ r) ≡ Some k → 9 ≤ k
unfolding kind_of size_by
least-doctype first r k e = least-behind 9 (after_tag None r) k e

-- a declaration and an instruction end alike
alike : (a d e : Bool) (rest : Kind) (x : List ℕ) → size_by (if a then (if d then Declaration else Instruction) else rest) x ≡ size_by (if a then (if e then Declaration else Instruction) else rest) x
unfolding size_by
alike true true true rest x = refl
alike true true false rest x = refl
alike true false true rest x = refl
alike true false false rest x = refl
alike false d e rest x = refl

module _ (first : Bool) (cs more : List ℕ) (k : ℕ) (found : size first (cs ++ more) ≡ Some k) (near : k < length cs) where
  some : 0 < k
  some = (size_by-takes (kind_of first (cs ++ more)) (cs ++ more) k found).0

  same-front : (p : List ℕ) → ((r : List ℕ) → size first (p ++ r) ≡ Some k → length p ≤ k) → starts p (cs ++ more) ≡ starts p cs
  same-front p least = (elim (starts p (cs ++ more)) as (λ b. starts p (cs ++ more) ≡ b → b ≡ starts p cs) [
    | true ↦ λ t. (let room = least (drop (length p) (cs ++ more)) (ap (size first) (sym (starts-front p (cs ++ more) t)) ∙ found) in sym (starts-same p cs more (omega arith) true t))
    | false ↦ λ t. sym (starts-stays p cs more t)
  ]) refl

  same-kind : (x : List ℕ) → size_by (kind_of first (cs ++ more)) x ≡ size_by (kind_of first cs) x
  unfolding kind_of
  same-kind x =
      let s = some in
      rw (
        starts-append (codes "<?") cs more (omega arith),
        same-front (codes "<!--") (λ r e. least-comment first r k e),
        same-front (codes "<![CDATA[") (λ r e. least-cdata first r k e),
        same-front (codes "<!DOCTYPE") (λ r e. least-doctype first r k e),
        starts-append (codes "<!") cs more (omega arith),
        starts-append (codes "</") cs more (omega arith),
        starts-append (codes "<") cs more (omega arith),
        starts-append (codes "&") cs more (omega arith),
      ) (alike (starts (codes "<?") cs) (first && starts (codes "<?xml") (cs ++ more) && starts_white (drop 5 (cs ++ more))) (first && starts (codes "<?xml") cs && starts_white (drop 5 cs)) (kind_else cs) x)

  pub near-found : size first cs ≡ Some k
  near-found = sym (same-kind cs) ∙ near-size (kind_of first (cs ++ more)) cs more k found near

pub late : (first : Bool) (cs more : List ℕ) (k : ℕ) → size first cs ≡ None → size first (cs ++ more) ≡ Some k → length cs ≤ k
late first cs more k none found =
    ⊎_elim (λ near. absurd (let e = near-found first cs more k found near in let z : None ≡ Some k = sym none ∙ e in cc)) (λ far. far) (cases_lt k (length cs))

pub none-size : (first : Bool) → size first [] ≡ None
unfolding kind_of size_by
none-size first = refl

pub size-none : (first : Bool) (cs : List ℕ) → whole_size false first cs ≡ None → size first cs ≡ None
size-none first cs e = by_size (size first cs) e where
  by_size : (o : Option ℕ) → settled_or o false (length cs) ≡ None → o ≡ None
  by_size None q = refl
  by_size (Some k) q = absurd (cc)

-- the first construct ends behind a front in which it doesn't
late-whole : (ended first : Bool) (text : List ℕ) (n k : ℕ) → n ≤ length text → size first (take n text) ≡ None → whole_size ended first text ≡ Some k → n ≤ k
late-whole ended first text n k room none e = by_size (size first text) refl e where
  by_run : (b : Bool) → (if b then Some (length text) else None) ≡ Some k → n ≤ k
  by_run true q = let is : length text ≡ k = cc in omega arith
  by_run false q = absurd (cc)

  by_size : (o : Option ℕ) → size first text ≡ o → settled_or o (ended && is_run text) (length text) ≡ Some k → n ≤ k
  by_size None s q = by_run (ended && is_run text) q
  by_size (Some j) s q =
      let is : j ≡ k = cc in
      let l = late first (take n text) (drop n text) j none (ap (size first) (take-append-drop n text) ∙ s) in
      let m = length-take-le n text room in
      omega arith

pub behind-step : (ended first : Bool) (text : List ℕ) (n at k : ℕ) → n ≤ length text → size first (take n text) ≡ None → (at ≢ 0 → n ≤ at) → whole_size ended (first && (at == 0)) (drop at text) ≡ Some k → n ≤ at + k
behind-step ended first text n zero k room none behind e =
    let front : (first && (0 == 0)) ≡ first = (elim first as (λ b. (b && (0 == 0)) ≡ b) [ true ↦ refl | false ↦ refl ]) in
    let l = late-whole ended first text n k room none (ap (λ b. whole_size ended b text) (sym front) ∙ e) in
    omega arith
behind-step ended first text n (suc at) k room none behind e = let l = behind (λ z. absurd (omega arith)) in omega arith
