-- Where the text of each construct stands among the bytes of its page.
use Rattle.ix_base.specs.declared.limits.TheConstants.{DEEPEST_ELEMENT}
use Rattle.std.proofs.Common.{◌≡◌, ◌∙◌, ℕ, zero, suc, ◌+◌, ◌-◌, ◌<◌, ◌≤◌, ◌==◌, Bool, true, false, ◌&&◌, if◌then◌else◌, List, [], ◌∷◌, ◌++◌, Contains, length, take, drop, get_or, map, Option, Some, None, refl, sym, ap, subst, append_assoc, length-append, arith}
use Rattle.std.proofs.lemmas.List.{length-drop, length-take, get_or-drop, take-append-drop}
use Rattle.page_tree.specs.Break.{w}
use Rattle.page_constructs.specs.Constructs.{Construct, values, offset_of, kind_of, size_by, whole_size, construct, cut_at, cut_from, cut, text_of}
use Rattle.page_tree.specs.Raw.{raw, mark_size}
use Rattle.page_tree.specs.Reaches.{Reach, reaches_to, reaches, reach_at}
use Rattle.page_constructs.specs.declared.kind.Kind.TheVariants.{StartTag}
use Rattle.page_constructs.specs.Ends.{HasEnds}
use Rattle.page_tree.proofs.AtLaws.{whole-cut, starts-there}
use Rattle.page_tree.proofs.EndLaws.{whole-ends}
use Rattle.page_tree.proofs.PieceLaws.{whole-takes}
use Rattle.page_tree.proofs.PlacingLaws.{drop-behind}
use Rattle.page_tree.proofs.RawLaws.{IsPast, whole-past, kind-raw, same-length}
use Rattle.ix_base.proofs.OnceLemmas.{Contains-later, Contains-same}
use Rattle.page_constructs.proofs.SpanLaws.{one_number}
use Rattle.page_constructs.proofs.SizeLaws.{other-number}
use Rattle.fact_trace.proofs.AgreeLaws.{Each, each-mapped}
use Rattle.fact_trace.proofs.SlashLaws.{last_or, slashes, slashes-raw}

-- A construct among these bytes: how many stand in front of it, how many it has, and how many of the unified text.
pub record IsSpelt (first : Bool) (at : ℕ) (bs : List ℕ) (c : Construct) : Type 0 where
  pub front : ℕ
  pub is : c.start ≡ at + front
  pub bytes : ℕ
  pub whole : whole_size true (first && (front == 0)) (drop front bs) ≡ Some bytes
  pub kind : c.kind ≡ kind_of (first && (front == 0)) (drop front bs)
  pub size : ℕ
  pub text : c.text ≡ values (take size (raw false c.start (drop front bs)))
  pub fits : size ≤ length (raw false c.start (drop front bs))
  pub past : drop size (raw false c.start (drop front bs)) ≡ raw false (c.start + bytes) (drop bytes (drop front bs))

starts-at : (c at : ℕ) (bs : List ℕ) → offset_of (raw false at (c ∷ bs)) ≡ at
starts-at c at bs = by (c == 13) refl where
  by : (x : Bool) → (c == 13) ≡ x → offset_of (raw false at (c ∷ bs)) ≡ at
  by true e = rw e refl
  by false e = rw e refl

none-whole : (first : Bool) (j : ℕ) → whole_size true first [] ≡ Some j → ⊥
unfolding kind_of size_by
none-whole first j e = (let f : None ≡ Some j = e in cc)

and-true : (b : Bool) → (b && true) ≡ b
and-true true = refl
and-true false = refl

and-false : (b c : Bool) → c ≡ false → (b && c) ≡ false
and-false true c e = e
and-false false c e = refl

own-spelt : (first : Bool) (at c : ℕ) (rest : List ℕ) (k j : ℕ) → whole_size true first (values (raw false at (c ∷ rest))) ≡ Some k → whole_size true first (c ∷ rest) ≡ Some j
    → drop k (raw false at (c ∷ rest)) ≡ raw false (at + j) (drop j (c ∷ rest)) → IsSpelt first at (c ∷ rest) (construct first k (raw false at (c ∷ rest)))
own-spelt first at c rest k j e f h =
    let bs = c ∷ rest in
    let us = raw false at bs in
    let s : at ≡ offset_of us = sym (starts-at c at rest) in
    let t = whole-takes true first (values us) k e in
    record {
      front = 0;
      is = starts-at c at rest ∙ (let z : at ≡ at + 0 = omega arith in z);
      bytes = j;
      whole = ap (λ b. whole_size true b bs) (and-true first) ∙ f;
      kind = kind-raw first bs at ∙ sym (ap (λ b. kind_of b bs) (and-true first));
      size = k;
      text = ap (λ n. values (take k (raw false n bs))) s;
      fits = subst (λ n. k ≤ length (raw false n bs)) s (omega (arith, t.1, same-length us));
      past = subst (λ n. drop k (raw false n bs) ≡ raw false (n + j) (drop j bs)) s h;
    }

later-spelt : (first : Bool) (at j : ℕ) (bs : List ℕ) → 0 < j → (c : Construct) → IsSpelt false (at + j) (drop j bs) c → IsSpelt first at bs c
later-spelt first at j bs l c x =
    let there : drop x.front (drop j bs) ≡ drop (j + x.front) bs = drop-behind x.front j bs in
    let off : (first && (j + x.front == 0)) ≡ false = and-false first (j + x.front == 0) (other-number (j + x.front) 0 (λ e. (omega arith))) in
    record {
      front = j + x.front;
      is = x.is ∙ (let z : at + j + x.front ≡ at + (j + x.front) = omega arith in z);
      bytes = x.bytes;
      whole = ap (λ b. whole_size true b (drop (j + x.front) bs)) off ∙ ap (whole_size true false) (sym there) ∙ x.whole;
      kind = x.kind ∙ ap (kind_of false) there ∙ sym (ap (λ b. kind_of b (drop (j + x.front) bs)) off);
      size = x.size;
      text = x.text ∙ ap (λ l. values (take x.size (raw false c.start l))) there;
      fits = subst (λ l. x.size ≤ length (raw false c.start l)) there x.fits;
      past = subst (λ l. drop x.size (raw false c.start l) ≡ raw false (c.start + x.bytes) (drop x.bytes l)) there x.past;
    }

both-spelt : (n : ℕ) (first : Bool) (at c : ℕ) (rest : List ℕ) (o p : Option ℕ) → whole_size true first (values (raw false at (c ∷ rest))) ≡ o → whole_size true first (c ∷ rest) ≡ p
    → IsPast at (raw false at (c ∷ rest)) (c ∷ rest) o p
    → ((b : ℕ) (bs : List ℕ) → Each (IsSpelt false b bs) (cut_from n true false (raw false b bs)).constructs)
    → Each (IsSpelt first at (c ∷ rest)) (cut_at o first (raw false at (c ∷ rest)) (cut_from n true false)).constructs
both-spelt n first at c rest None p e f h ih = tt
both-spelt n first at c rest (Some k) None e f h ih = absurd h
both-spelt n first at c rest (Some k) (Some j) e f h ih =
    let bs = c ∷ rest in (
      own-spelt first at c rest k j e f h,
      each-mapped (IsSpelt false (at + j) (drop j bs)) (IsSpelt first at bs) (later-spelt first at j bs (whole-takes true first bs j f).0) (cut_from n true false (drop k (raw false at bs))).constructs
          (subst (λ l. Each (IsSpelt false (at + j) (drop j bs)) (cut_from n true false l).constructs) (sym h) (ih (at + j) (drop j bs))),
    )

cut-spelt : (n : ℕ) (first : Bool) (at : ℕ) (bs : List ℕ) → Each (IsSpelt first at bs) (cut_from n true first (raw false at bs)).constructs
unfolding cut_from
cut-spelt zero first at bs = tt
cut-spelt (suc n) first at [] = by (whole_size true first []) refl where
  by : (o : Option ℕ) → whole_size true first [] ≡ o → Each (IsSpelt first at []) (cut_at o first [] (cut_from n true false)).constructs
  by None e = tt
  by (Some k) e = absurd (none-whole first k e)
cut-spelt (suc n) first at (c ∷ rest) =
    both-spelt n first at c rest (whole_size true first (values (raw false at (c ∷ rest)))) (whole_size true first (c ∷ rest)) refl refl (whole-past first (c ∷ rest) at) (λ b bs. cut-spelt n false b bs)

pub all-spelt : (b : List ℕ) → w b DEEPEST_ELEMENT ≡ None → Each (IsSpelt true (mark_size b) (drop (mark_size b) b)) (cut b).constructs
all-spelt b u =
    let c = whole-cut b u in
    let at = mark_size b in
    subst (λ x. Each (IsSpelt true at (drop at b)) x.constructs) (sym c.is) (cut-spelt (length (text_of b)) true at (drop at b))

-- what holds of each construct holds of one that is found
pub each-reach : (P : Construct → Type 0) (end : ℕ) (cs : List Construct) (from : ℕ) (r : Reach) → Each P cs → reach_at (reaches_to end cs) from ≡ Some r → P r.what
each-reach P end [] from r h e = absurd (cc)
each-reach P end (c ∷ []) from r (h, hs) e = by (c.start == from) e where
  by : (b : Bool) → (if b then Some (record { what = c; end = end }) else None) ≡ Some r → P r.what
  by true f = (let g : record { what = c; end = end } ≡ r = cc in subst P (ap (λ x. x.what) g) h)
  by false f = absurd (cc)
each-reach P end (c ∷ d ∷ cs) from r (h, hs) e = by (c.start == from) e (each-reach P end (d ∷ cs) from r hs) where
  by : (b : Bool) → (if b then Some (record { what = c; end = d.start }) else reach_at (reaches_to end (d ∷ cs)) from) ≡ Some r → (reach_at (reaches_to end (d ∷ cs)) from ≡ Some r → P r.what) → P r.what
  by true f ih = (let g : record { what = c; end = d.start } ≡ r = cc in subst P (ap (λ x. x.what) g) h)
  by false f ih = ih f

get-last : (c : ℕ) (xs ys : List ℕ) → get_or (c ∷ (xs ++ ys)) (length xs) 0 ≡ last_or c xs
get-last c [] ys = refl
get-last c (x ∷ xs) ys = get-last x xs ys

one-some : {X : Type 0} (x y : X) (o : Option X) → o ≡ Some x → o ≡ Some y → x ≡ y
one-some x y o e f = (cc)

-- one that is found is listed
pub listed : (end : ℕ) (cs : List Construct) (from : ℕ) (r : Reach) → reach_at (reaches_to end cs) from ≡ Some r
    → Contains (map (λ c. c.start) cs) from × (r.what.start ≡ from)
listed end [] from r e = absurd (cc)
listed end (c ∷ []) from r e = by (c.start == from) refl e where
  by : (b : Bool) → (c.start == from) ≡ b → (if b then Some (record { what = c; end = end }) else None) ≡ Some r → Contains (c.start ∷ []) from × (r.what.start ≡ from)
  by true t f = (
      let g : record { what = c; end = end } ≡ r = cc in
      let s = one_number c.start from t in
      (Contains-same c.start [] from s, sym (ap (λ x. x.what.start) g) ∙ s))
  by false t f = absurd (cc)
listed end (c ∷ d ∷ cs) from r e = by (c.start == from) refl e (listed end (d ∷ cs) from r) where
  by : (b : Bool) → (c.start == from) ≡ b → (if b then Some (record { what = c; end = d.start }) else reach_at (reaches_to end (d ∷ cs)) from) ≡ Some r
      → (reach_at (reaches_to end (d ∷ cs)) from ≡ Some r → Contains (map (λ c. c.start) (d ∷ cs)) from × (r.what.start ≡ from))
      → Contains (map (λ c. c.start) (c ∷ d ∷ cs)) from × (r.what.start ≡ from)
  by true t f ih = (
      let g : record { what = c; end = d.start } ≡ r = cc in
      let s = one_number c.start from t in
      (Contains-same c.start (map (λ c. c.start) (d ∷ cs)) from s, sym (ap (λ x. x.what.start) g) ∙ s))
  by false t f ih = let z = ih f in (Contains-later c.start (map (λ c. c.start) (d ∷ cs)) from z.0, z.1)

-- how many bytes a construct has that is found, and what stands there
pub record IsThere (b : List ℕ) (from : ℕ) (r : Reach) : Type 0 where
  pub bytes : ℕ
  pub some : 0 < bytes
  pub end : r.end ≡ from + bytes
  pub fits : from + bytes ≤ length b
  pub first : Bool
  pub whole : whole_size true first (drop from b) ≡ Some bytes
  pub kind : r.what.kind ≡ kind_of first (drop from b)
  pub size : ℕ
  pub text : r.what.text ≡ values (take size (raw false from (drop from b)))
  pub size_fits : size ≤ length (raw false from (drop from b))
  pub past : drop size (raw false from (drop from b)) ≡ raw false (from + bytes) (drop bytes (drop from b))

pub is-there : (b : List ℕ) (from : ℕ) (r : Reach) → w b DEEPEST_ELEMENT ≡ None → reach_at (reaches b) from ≡ Some r → IsThere b from r
is-there b from r u e =
    let m = mark_size b in
    let D = drop m b in
    let l = listed (length b) (cut b).constructs from r e in
    let i = starts-there b from u l.0 in
    let same : i.reach ≡ r = one-some i.reach r (reach_at (reaches b) from) i.found e in
    let x = each-reach (IsSpelt true m D) (length b) (cut b).constructs from r (all-spelt b u) e in
    let at : from ≡ m + x.front = sym l.1 ∙ x.is in
    let one : i.front ≡ x.front = (let p = i.is in omega arith) in
    let cs = drop x.front D in
    let here : cs ≡ drop from b = drop-behind x.front m b ∙ ap (λ n. drop n b) (sym at) in
    let f : Some i.bytes ≡ Some x.bytes = sym i.whole ∙ ap (λ n. whole_size true (true && (n == 0)) (drop n D)) one ∙ x.whole in
    let count : i.bytes ≡ x.bytes = cc in
    let t = whole-takes true (true && (x.front == 0)) cs x.bytes x.whole in
    let room : x.bytes ≤ length (drop from b) = subst (λ c. x.bytes ≤ length c) here t.1 in
    let some = t.0 in
    record {
      bytes = x.bytes;
      some = some;
      end = ap (λ y. y.end) (sym same) ∙ i.end ∙ ap (λ n. from + n) count;
      fits = omega (arith, length-drop from b);
      first = true && (x.front == 0);
      whole = ap (whole_size true (true && (x.front == 0))) (sym here) ∙ x.whole;
      kind = x.kind ∙ ap (kind_of (true && (x.front == 0))) here;
      size = x.size;
      text = x.text ∙ (λ j. values (take x.size (raw false (l.1 j) (here j))));
      size_fits = subst (λ c. x.size ≤ length (raw false from c)) here (subst (λ n. x.size ≤ length (raw false n cs)) l.1 x.fits);
      past = subst (λ c. drop x.size (raw false from c) ≡ raw false (from + x.bytes) (drop x.bytes c)) here
          (subst (λ n. drop x.size (raw false n cs) ≡ raw false (n + x.bytes) (drop x.bytes cs)) l.1 x.past);
    }

-- the byte in front of the last of a tag
pub record IsTagAt (b : List ℕ) (from : ℕ) (r : Reach) : Type 0 where
  pub low : from + 2 ≤ r.end
  pub high : r.end ≤ length b
  pub slash : slashes r.what.text ≡ (get_or b (r.end - 2) 0 == 47)

pub tag-slashes : (b : List ℕ) (from : ℕ) (r : Reach) → w b DEEPEST_ELEMENT ≡ None → reach_at (reaches b) from ≡ Some r → r.what.kind ≡ StartTag → IsTagAt b from r
tag-slashes b from r u e k =
    let x = is-there b from r u e in
    let cs = drop from b in
    let j = x.bytes in
    let h : HasEnds StartTag (take j cs) = subst (λ y. HasEnds y (take j cs)) (sym x.kind ∙ k) (whole-ends true x.first cs j x.whole) in
    let inner = h.0 in
    let ys = drop j cs in
    let t = whole-takes true x.first cs j x.whole in
    let whole : cs ≡ (60 ∷ inner) ++ 62 ∷ ys = sym (take-append-drop j cs) ∙ ap (λ l. l ++ ys) h.1 ∙ append_assoc (60 ∷ inner) (62 ∷ []) ys in
    let room = t.1 in
    let long : length (take j cs) ≡ length (60 ∷ (inner ++ 62 ∷ [])) = ap length h.1 in
    let count : j ≡ suc (length (60 ∷ inner)) = omega (arith, length-take j cs, length-append inner (62 ∷ [])) in
    let end = x.end in
    let fits = x.fits in
    let near : r.end - 2 ≡ from + length inner = omega arith in
    let own : get_or b (r.end - 2) 0 ≡ last_or 60 inner =
    ap (λ n. get_or b n 0) near ∙ sym (get_or-drop from b (length inner) 0) ∙ ap (λ l. get_or l (length inner) 0) whole ∙ get-last 60 inner (62 ∷ ys) in
    record {
      low = omega arith;
      high = omega arith;
      slash = slashes-raw from x.size j cs (60 ∷ inner) ys r.what.text whole count x.text x.size_fits x.past ∙ ap (λ n. n == 47) (sym own);
    }
