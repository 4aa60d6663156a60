-- A construct that is cut begins and ends as its kind says.
use Rattle.std.proofs.Common.{◌≡◌, ℕ, suc, ◌+◌, ◌==◌, Bool, true, false, ◌&&◌, ◌||◌, if◌then◌else◌, inl, inr, List, [], ◌∷◌, ◌++◌, length, take, drop, Option, Some, None, option_map, refl, sym, ap, ◌∙◌, arith, subst, append_assoc, length-append, codes}
use Rattle.std.proofs.lemmas.Bool.Decides.{Decides-eqb}
use Rattle.std.proofs.lemmas.Bool.{and_parts}
use Rattle.page_constructs.specs.Constructs.{starts, after, after_tag, starts_white, kind_of, with_front, size_by, size, is_run, settled_or, whole_size}
use Rattle.page_constructs.specs.Forms.{between}
use Rattle.page_constructs.specs.declared.kind.Kind.{Kind}
use Rattle.page_constructs.specs.declared.kind.Kind.TheVariants.{Declaration, Instruction, Comment, Cdata, Doctype, Unknown, EndTag, StartTag, Reference, Text}
use Rattle.page_constructs.proofs.SpanLaws.{clash, one_number, starts-front, take-front}
use Rattle.page_constructs.specs.Ends.{HasEnds}

-- where the first end is found
pub record Found (ends cs : List ℕ) (k : ℕ) : Type 0 where
  pub front : List ℕ
  pub rest : List ℕ
  pub splits : cs ≡ front ++ (ends ++ rest)
  pub size : k ≡ length front + length ends

found-next : (ends : List ℕ) (c : ℕ) (cs : List ℕ) (k : ℕ) → Found ends cs k → Found ends (c ∷ cs) (suc k)
found-next ends c cs k f = record { front = c ∷ f.front; rest = f.rest; splits = ap (λ x. c ∷ x) f.splits; size = let s = f.size in omega arith }

pub map-suc : (o : Option ℕ) (k : ℕ) → option_map suc o ≡ Some k → (j : ℕ) × (o ≡ Some j) × (suc j ≡ k)
map-suc None k e = absurd (cc)
map-suc (Some j) k e = (j, refl, cc)

pub after-found : (ends cs : List ℕ) (k : ℕ) → after ends cs ≡ Some k → Found ends cs k
after-found ends [] k e = absurd (cc)
after-found ends (c ∷ cs) k e = by_start (λ j. after-found ends cs j) (starts ends (c ∷ cs)) refl e where
  by_start : ((j : ℕ) → after ends cs ≡ Some j → Found ends cs j) → (b : Bool) → starts ends (c ∷ cs) ≡ b → (if b then Some (length ends) else option_map suc (after ends cs)) ≡ Some k → Found ends (c ∷ cs) k
  by_start ih true t q = record { front = []; rest = drop (length ends) (c ∷ cs); splits = starts-front ends (c ∷ cs) t; size = let z : length ends ≡ k = cc in omega arith }
  by_start ih false t q =
      let m = map-suc (after ends cs) k q in
      subst (λ x. Found ends (c ∷ cs) x) m.2 (found-next ends c cs m.0 (ih m.0 m.1))

pub tag-found : (q : Option ℕ) (cs : List ℕ) (k : ℕ) → after_tag q cs ≡ Some k → Found (62 ∷ []) cs k
tag-found q [] k e = absurd (cc)
tag-found (Some q) (c ∷ cs) k e = by_quote (λ o j. tag-found o cs j) (c == q) (map-suc _ k e) where
  by_quote : ((o : Option ℕ) (j : ℕ) → after_tag o cs ≡ Some j → Found (62 ∷ []) cs j) → (b : Bool) → (j : ℕ) × ((if b then after_tag None cs else after_tag (Some q) cs) ≡ Some j) × (suc j ≡ k) → Found (62 ∷ []) (c ∷ cs) k
  by_quote ih true m = subst (λ x. Found (62 ∷ []) (c ∷ cs) x) m.2 (found-next (62 ∷ []) c cs m.0 (ih None m.0 m.1))
  by_quote ih false m = subst (λ x. Found (62 ∷ []) (c ∷ cs) x) m.2 (found-next (62 ∷ []) c cs m.0 (ih (Some q) m.0 m.1))
tag-found None (c ∷ cs) k e = by_end (λ o j. tag-found o cs j) (c == 62) refl e where
  by_quote : ((o : Option ℕ) (j : ℕ) → after_tag o cs ≡ Some j → Found (62 ∷ []) cs j) → (b : Bool) → (j : ℕ) × ((if b then after_tag (Some c) cs else after_tag None cs) ≡ Some j) × (suc j ≡ k) → Found (62 ∷ []) (c ∷ cs) k
  by_quote ih true m = subst (λ x. Found (62 ∷ []) (c ∷ cs) x) m.2 (found-next (62 ∷ []) c cs m.0 (ih (Some c) m.0 m.1))
  by_quote ih false m = subst (λ x. Found (62 ∷ []) (c ∷ cs) x) m.2 (found-next (62 ∷ []) c cs m.0 (ih None m.0 m.1))

  by_end : ((o : Option ℕ) (j : ℕ) → after_tag o cs ≡ Some j → Found (62 ∷ []) cs j) → (b : Bool) → (c == 62) ≡ b → (if b then Some 1 else option_map suc (if c == 34 || c == 39 then after_tag (Some c) cs else after_tag None cs)) ≡ Some k → Found (62 ∷ []) (c ∷ cs) k
  by_end ih true t q = record { front = []; rest = cs; splits = ap (λ x. x ∷ cs) (one_number c 62 t); size = let z : 1 ≡ k = cc in omega arith }
  by_end ih false t q = by_quote ih (c == 34 || c == 39) (map-suc _ k q)

-- the bytes up to the end, behind a front
pub taken : (front ends cs rest : List ℕ) (k : ℕ) → cs ≡ front ++ rest → (f : Found ends rest k) → take (k + length front) cs ≡ between front f.front ends
taken front ends cs rest k s f =
    let whole : cs ≡ (front ++ (f.front ++ ends)) ++ f.rest = s ∙ ap (λ x. front ++ x) (f.splits ∙ sym (append_assoc f.front ends f.rest)) ∙ sym (append_assoc front (f.front ++ ends) f.rest) in
    let size : k + length front ≡ length (front ++ (f.front ++ ends)) = let z = f.size in omega (arith, length-append front (f.front ++ ends), length-append f.front ends) in
    ap (λ m. take m cs) size ∙ ap (take (length (front ++ (f.front ++ ends)))) whole ∙ take-front (front ++ (f.front ++ ends)) f.rest

-- what a kind's constructs begin with
abbrev pub front_of : Kind → List ℕ
front_of Declaration = codes "<?xml"
front_of Instruction = codes "<?"
front_of Comment = codes "<!--"
front_of Cdata = codes "<![CDATA["
front_of Doctype = codes "<!DOCTYPE"
front_of Unknown = codes "<!"
front_of EndTag = codes "</"
front_of StartTag = codes "<"
front_of Reference = codes "&"
front_of Text = []

pub kind-starts : (first : Bool) (cs : List ℕ) → starts (front_of (kind_of first cs)) cs ≡ true
unfolding kind_of
kind-starts first cs = by1 (starts (codes "<?") cs) refl where
  Goal : Kind → Type 0
  Goal k = starts (front_of k) cs ≡ true

  by0 : (b : Bool) → (first && starts (codes "<?xml") cs && starts_white (drop 5 cs)) ≡ b → starts (codes "<?") cs ≡ true → Goal (if b then Declaration else Instruction)
  by0 true t s = (and_parts first (starts (codes "<?xml") cs) (and_parts (first && starts (codes "<?xml") cs) (starts_white (drop 5 cs)) t).0).1
  by0 false t s = s

  by9 : (b : Bool) → starts (codes "&") cs ≡ b → Goal (if b then Reference else Text)
  by9 true t = t
  by9 false t = refl

  by8 : (b : Bool) → starts (codes "<") cs ≡ b → Goal (if b then StartTag else (if starts (codes "&") cs then Reference else Text))
  by8 true t = t
  by8 false t = by9 (starts (codes "&") cs) refl

  by7 : (b : Bool) → starts (codes "</") cs ≡ b → Goal (if b then EndTag else (if starts (codes "<") cs then StartTag else (if starts (codes "&") cs then Reference else Text)))
  by7 true t = t
  by7 false t = by8 (starts (codes "<") cs) refl

  by6 : (b : Bool) → starts (codes "<!") cs ≡ b → Goal (if b then Unknown else (if starts (codes "</") cs then EndTag else (if starts (codes "<") cs then StartTag else (if starts (codes "&") cs then Reference else Text))))
  by6 true t = t
  by6 false t = by7 (starts (codes "</") cs) refl

  by5 : (b : Bool) → starts (codes "<!DOCTYPE") cs ≡ b → Goal (if b then Doctype else (if starts (codes "<!") cs then Unknown else (if starts (codes "</") cs then EndTag else (if starts (codes "<") cs then StartTag else (if starts (codes "&") cs then Reference else Text)))))
  by5 true t = t
  by5 false t = by6 (starts (codes "<!") cs) refl

  by4 : (b : Bool) → starts (codes "<![CDATA[") cs ≡ b → Goal (if b then Cdata else (if starts (codes "<!DOCTYPE") cs then Doctype else (if starts (codes "<!") cs then Unknown else (if starts (codes "</") cs then EndTag else (if starts (codes "<") cs then StartTag else (if starts (codes "&") cs then Reference else Text))))))
  by4 true t = t
  by4 false t = by5 (starts (codes "<!DOCTYPE") cs) refl

  by3 : (b : Bool) → starts (codes "<!--") cs ≡ b → Goal (if b then Comment else (if starts (codes "<![CDATA[") cs then Cdata else (if starts (codes "<!DOCTYPE") cs then Doctype else (if starts (codes "<!") cs then Unknown else (if starts (codes "</") cs then EndTag else (if starts (codes "<") cs then StartTag else (if starts (codes "&") cs then Reference else Text)))))))
  by3 true t = t
  by3 false t = by4 (starts (codes "<![CDATA[") cs) refl

  by1 : (b : Bool) → starts (codes "<?") cs ≡ b → Goal (if b then (if first && starts (codes "<?xml") cs && starts_white (drop 5 cs) then Declaration else Instruction) else (if starts (codes "<!--") cs then Comment else (if starts (codes "<![CDATA[") cs then Cdata else (if starts (codes "<!DOCTYPE") cs then Doctype else (if starts (codes "<!") cs then Unknown else (if starts (codes "</") cs then EndTag else (if starts (codes "<") cs then StartTag else (if starts (codes "&") cs then Reference else Text))))))))
  by1 true t = by0 (first && starts (codes "<?xml") cs && starts_white (drop 5 cs)) refl t
  by1 false t = by3 (starts (codes "<!--") cs) refl

-- lists that begin with two numbers
apart : {A : Type 0} (a b : ℕ) (x y : List ℕ) → (a == b) ≡ false → a ∷ x ≡ b ∷ y → A
apart a b x y h e = let z : a ≡ b = cc in clash (a == b) ((Decides-eqb a b).1 z) h

tails : (a b : ℕ) (x y : List ℕ) → a ∷ x ≡ b ∷ y → x ≡ y
tails a b x y e = cc

firsts : (a b : ℕ) (x y : List ℕ) → a ∷ x ≡ b ∷ y → a ≡ b
firsts a b x y e = cc

-- the end of a declaration stands behind its front
declared : (u v r : List ℕ) → u ++ (63 ∷ 62 ∷ v) ≡ 63 ∷ 120 ∷ 109 ∷ 108 ∷ r → (w : List ℕ) × (u ≡ 63 ∷ 120 ∷ 109 ∷ 108 ∷ w)
declared [] v r e = apart 62 120 v (109 ∷ 108 ∷ r) refl (tails 63 63 (62 ∷ v) (120 ∷ 109 ∷ 108 ∷ r) e)
declared (a ∷ []) v r e = apart 63 120 (62 ∷ v) (109 ∷ 108 ∷ r) refl (tails a 63 (63 ∷ 62 ∷ v) (120 ∷ 109 ∷ 108 ∷ r) e)
declared (a ∷ b ∷ []) v r e = apart 63 109 (62 ∷ v) (108 ∷ r) refl (tails b 120 (63 ∷ 62 ∷ v) (109 ∷ 108 ∷ r) (tails a 63 (b ∷ 63 ∷ 62 ∷ v) (120 ∷ 109 ∷ 108 ∷ r) e))
declared (a ∷ b ∷ c ∷ []) v r e = apart 63 108 (62 ∷ v) r refl (tails c 109 (63 ∷ 62 ∷ v) (108 ∷ r) (tails b 120 (c ∷ 63 ∷ 62 ∷ v) (109 ∷ 108 ∷ r) (tails a 63 (b ∷ c ∷ 63 ∷ 62 ∷ v) (120 ∷ 109 ∷ 108 ∷ r) e)))
declared (a ∷ b ∷ c ∷ d ∷ w) v r e =
    let e1 = tails a 63 (b ∷ c ∷ d ∷ (w ++ (63 ∷ 62 ∷ v))) (120 ∷ 109 ∷ 108 ∷ r) e in
    let e2 = tails b 120 (c ∷ d ∷ (w ++ (63 ∷ 62 ∷ v))) (109 ∷ 108 ∷ r) e1 in
    let e3 = tails c 109 (d ∷ (w ++ (63 ∷ 62 ∷ v))) (108 ∷ r) e2 in
    let h0 = firsts a 63 (b ∷ c ∷ d ∷ (w ++ (63 ∷ 62 ∷ v))) (120 ∷ 109 ∷ 108 ∷ r) e in
    let h1 = firsts b 120 (c ∷ d ∷ (w ++ (63 ∷ 62 ∷ v))) (109 ∷ 108 ∷ r) e1 in
    let h2 = firsts c 109 (d ∷ (w ++ (63 ∷ 62 ∷ v))) (108 ∷ r) e2 in
    let h3 = firsts d 108 (w ++ (63 ∷ 62 ∷ v)) r e3 in
    (w, rw (h0, h1, h2, h3) refl)

pub map-behind : (n : ℕ) (o : Option ℕ) (k : ℕ) → with_front n o ≡ Some k → (j : ℕ) × (o ≡ Some j) × (k ≡ j + n)
map-behind n None k e = absurd (cc)
map-behind n (Some j) k e = (j, refl, let z : j + n ≡ k = cc in sym z)

-- an end that is found behind the whole front
pub ends-behind : (front ends cs : List ℕ) (k : ℕ) → starts front cs ≡ true → (j : ℕ) × (Found ends (drop (length front) cs) j) × (k ≡ j + length front) → (inner : List ℕ) × (take k cs ≡ between front inner ends)
ends-behind front ends cs k s f = (f.1.front, ap (λ m. take m cs) f.2 ∙ taken front ends cs (drop (length front) cs) f.0 (starts-front front cs s) f.1)

pub found-behind : (ends : List ℕ) (n : ℕ) (cs : List ℕ) (k : ℕ) → with_front n (after ends (drop n cs)) ≡ Some k → (j : ℕ) × (Found ends (drop n cs) j) × (k ≡ j + n)
found-behind ends n cs k e = let m = map-behind n (after ends (drop n cs)) k e in (m.0, after-found ends (drop n cs) m.0 m.1, m.2)

tag-behind : (n : ℕ) (cs : List ℕ) (k : ℕ) → with_front n (after_tag None (drop n cs)) ≡ Some k → (j : ℕ) × (Found (62 ∷ []) (drop n cs) j) × (k ≡ j + n)
tag-behind n cs k e = let m = map-behind n (after_tag None (drop n cs)) k e in (m.0, tag-found None (drop n cs) m.0 m.1, m.2)

-- an instruction or a declaration, whose end is looked for from its `?` on
record Marked (cs : List ℕ) (k : ℕ) : Type 0 where
  front : List ℕ
  rest : List ℕ
  splits : drop 1 cs ≡ front ++ (63 ∷ 62 ∷ rest)
  piece : take k cs ≡ 60 ∷ (front ++ codes "?>")

marked : (cs : List ℕ) (k : ℕ) → starts (codes "<") cs ≡ true → with_front 1 (after (codes "?>") (drop 1 cs)) ≡ Some k → Marked cs k
unfolding found-behind ends-behind
marked cs k s e =
    let f = found-behind (codes "?>") 1 cs k e in
    record { front = f.1.front; rest = f.1.rest; splits = f.1.splits; piece = (ends-behind (codes "<") (codes "?>") cs k s f).1 }

module _ (cs : List ℕ) (k : ℕ) where
  instruction-ends : starts (codes "<?") cs ≡ true → with_front 1 (after (codes "?>") (drop 1 cs)) ≡ Some k → HasEnds Instruction (take k cs)
  instruction-ends s e = by_front m.front m.splits m.piece where
    tail_of : cs ≡ 60 ∷ 63 ∷ drop 2 cs
    tail_of = starts-front (codes "<?") cs s

    m : Marked cs k
    m = marked cs k (ap (starts (codes "<")) tail_of) e

    by_front : (u : List ℕ) → drop 1 cs ≡ u ++ (63 ∷ 62 ∷ m.rest) → take k cs ≡ 60 ∷ (u ++ codes "?>") → HasEnds Instruction (take k cs)
    by_front [] q p = inr p
    by_front (c ∷ u) q p =
        let same : c ≡ 63 = firsts c 63 (u ++ (63 ∷ 62 ∷ m.rest)) (drop 2 cs) (sym q ∙ ap (drop 1) tail_of) in
        inl (u, p ∙ ap (λ x. 60 ∷ x ∷ (u ++ codes "?>")) same)

  declaration-ends : starts (codes "<?xml") cs ≡ true → with_front 1 (after (codes "?>") (drop 1 cs)) ≡ Some k → HasEnds Declaration (take k cs)
  declaration-ends s e =
      let w = declared m.front m.rest (drop 5 cs) (sym m.splits ∙ ap (drop 1) tail_of) in
      (w.0, m.piece ∙ ap (λ x. 60 ∷ (x ++ codes "?>")) w.1)
    where
      tail_of : cs ≡ 60 ∷ 63 ∷ 120 ∷ 109 ∷ 108 ∷ drop 5 cs
      tail_of = starts-front (codes "<?xml") cs s

      m : Marked cs k
      m = marked cs k (ap (starts (codes "<")) tail_of) e

  pub kind-ends : (kind : Kind) → starts (front_of kind) cs ≡ true → size_by kind cs ≡ Some k → HasEnds kind (take k cs)
  unfolding size_by
  kind-ends Declaration s e = declaration-ends s e
  kind-ends Instruction s e = instruction-ends s e
  kind-ends Comment s e = ends-behind (codes "<!--") (codes "-->") cs k s (found-behind (codes "-->") 4 cs k e)
  kind-ends Cdata s e = ends-behind (codes "<![CDATA[") (codes "]]>") cs k s (found-behind (codes "]]>") 9 cs k e)
  kind-ends Doctype s e = ends-behind (codes "<!DOCTYPE") (codes ">") cs k s (tag-behind 9 cs k e)
  kind-ends Unknown s e = tt
  kind-ends EndTag s e = ends-behind (codes "</") (codes ">") cs k s (found-behind (codes ">") 2 cs k e)
  kind-ends StartTag s e = ends-behind (codes "<") (codes ">") cs k s (tag-behind 1 cs k e)
  kind-ends Reference s e = tt
  kind-ends Text s e = tt

-- what begins with no `<` is a text or a reference, which need no ends
pub run-ends : (first : Bool) (cs piece : List ℕ) → is_run cs ≡ true → HasEnds (kind_of first cs) piece
unfolding kind_of
run-ends first [] piece h = absurd (cc)
run-ends first (c ∷ cs) piece h = rw (not_less) (by_and (c == 38)) where
  not_less : (c == 60) ≡ false
  not_less = Rattle.page_constructs.proofs.BoolLaws.not_true (c == 60) h

  by_and : (b : Bool) → HasEnds (if b && true then Reference else Text) piece
  by_and true = tt
  by_and false = tt

pub whole-ends : (ended first : Bool) (cs : List ℕ) (k : ℕ) → whole_size ended first cs ≡ Some k → HasEnds (kind_of first cs) (take k cs)
whole-ends ended first cs k e = by_size (size first cs) refl e where
  by_run : (b : Bool) → (ended && is_run cs) ≡ b → (if b then Some (length cs) else None) ≡ Some k → HasEnds (kind_of first cs) (take k cs)
  by_run true t q = run-ends first cs (take k cs) (and_parts ended (is_run cs) t).1
  by_run false t q = absurd (cc)

  by_size : (o : Option ℕ) → size first cs ≡ o → settled_or o (ended && is_run cs) (length cs) ≡ Some k → HasEnds (kind_of first cs) (take k cs)
  by_size (Some j) s q = let same : j ≡ k = cc in kind-ends cs k (kind_of first cs) (kind-starts first cs) (s ∙ ap Some same)
  by_size None s q = by_run (ended && is_run cs) refl q
