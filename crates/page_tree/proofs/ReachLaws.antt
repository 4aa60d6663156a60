-- A page's constructs are found from its bytes as they stand.
use Rattle.std.proofs.Common.{◌≡◌, ◌≢◌, ◌∙◌, ⊎_elim, ℕ, zero, suc, ◌+◌, ◌<◌, ◌≤◌, ◌==◌, Bool, true, false, ◌&&◌, List, [], ◌∷◌, map, length, drop, Contains, Option, Some, None, refl, sym, ap, subst, arith}
use Rattle.std.proofs.lemmas.List.{length-drop}
use Rattle.ix_base.proofs.OnceLemmas.{Contains-nil, Contains-cases}
use Rattle.page_constructs.specs.Constructs.{Byte, Construct, values, offset_of, kind_of, size_by, whole_size, construct, cut_at, cut_from}
use Rattle.page_tree.specs.Raw.{raw}
use Rattle.page_tree.specs.Reaches.{Reach, reaches_to, reach_at}
use Rattle.page_tree.proofs.PieceLaws.{whole-takes}
use Rattle.page_tree.proofs.PlacingLaws.{drop-behind}
use Rattle.page_constructs.proofs.SizeLaws.{same-number, other-number}
use Rattle.page_tree.proofs.RawLaws.{IsPast, whole-past, kind-raw}

-- bytes begin at their offset
starts-at : (c at : ℕ) (bs : List ℕ) → offset_of (raw false at (c ∷ bs)) ≡ at
starts-at c at bs = by (c == 13) refl where
  by : (x : Bool) → (c == 13) ≡ x → offset_of (raw false at (c ∷ bs)) ≡ at
  by true e = rw e refl
  by false e = rw e refl

none-raw : (at : ℕ) (bs : List ℕ) → raw false at bs ≡ [] → bs ≡ []
none-raw at [] e = refl
none-raw at (c ∷ bs) e = absurd (by (c == 13) refl e) where
  by : (x : Bool) → (c == 13) ≡ x → raw false at (c ∷ bs) ≡ [] → ⊥
  by true f e = (let g = rw f at e in cc)
  by false f e = (let g = rw f at e in cc)

none-whole : (first : Bool) (j : ℕ) → whole_size true first [] ≡ Some j → ⊥
unfolding kind_of size_by
none-whole first j e = (let f : None ≡ Some j = e in cc)

-- where no construct is cut from bytes that leave no rest, there are none
none-cut : (n : ℕ) (first : Bool) (us : List Byte) → (cut_from n true first us).constructs ≡ [] → (cut_from n true first us).rest ≡ [] → us ≡ []
unfolding cut_from
none-cut zero first us e r = r
none-cut (suc n) first us e r = by (whole_size true first (values us)) e r where
  by : (o : Option ℕ) → (cut_at o first us (cut_from n true false)).constructs ≡ [] → (cut_at o first us (cut_from n true false)).rest ≡ [] → us ≡ []
  by None e r = r
  by (Some k) e r = absurd (cc)

-- the first construct begins where its bytes do
first-start : (n : ℕ) (first : Bool) (us : List Byte) (d : Construct) (ds : List Construct) → (cut_from n true first us).constructs ≡ d ∷ ds → d.start ≡ offset_of us
unfolding cut_from
first-start zero first us d ds e = absurd (cc)
first-start (suc n) first us d ds e = by (whole_size true first (values us)) e where
  by : (o : Option ℕ) → (cut_at o first us (cut_from n true false)).constructs ≡ d ∷ ds → d.start ≡ offset_of us
  by None e = absurd (cc)
  by (Some k) e = (let f : construct first k us ≡ d = cc in sym (ap (λ c. c.start) f))

-- The construct that starts at an offset, so many bytes behind the front of these: what it is, and how many bytes it has.
pub record IsAt (first : Bool) (at : ℕ) (bs : List ℕ) (rs : List Reach) (from : ℕ) : Type 0 where
  pub front : ℕ
  pub is : from ≡ at + front
  pub within : front < length bs
  pub bytes : ℕ
  pub whole : whole_size true (first && (front == 0)) (drop front bs) ≡ Some bytes
  pub reach : Reach
  pub found : reach_at rs from ≡ Some reach
  pub kind : reach.what.kind ≡ kind_of (first && (front == 0)) (drop front bs)
  pub start : reach.what.start ≡ from
  pub end : reach.end ≡ from + bytes

here-end : (at j : ℕ) (bs : List ℕ) (c : Construct) (cs : List Construct) → c.start ≡ at → j ≤ length bs → (cs ≡ [] → drop j bs ≡ [])
    → ((d : Construct) (ds : List Construct) → cs ≡ d ∷ ds → d.start ≡ at + j)
    → (r : Reach) × (reach_at (reaches_to (at + length bs) (c ∷ cs)) at ≡ Some r) × (r.what ≡ c) × (r.end ≡ at + j)
here-end at j bs c [] s l n m =
    let gone : length (drop j bs) ≡ 0 = ap length (n refl) in
    (record { what = c; end = at + length bs }, rw (same-number c.start at s) refl, refl, omega (arith, length-drop j bs))
here-end at j bs c (d ∷ ds) s l n m = (record { what = c; end = d.start }, rw (same-number c.start at s) refl, refl, m d ds refl)

reach-later : (end from : ℕ) (c : Construct) (cs : List Construct) → c.start ≢ from → reach_at (reaches_to end (c ∷ cs)) from ≡ reach_at (reaches_to end cs) from
reach-later end from c [] h = rw (other-number c.start from h) refl
reach-later end from c (d ∷ ds) h = rw (other-number c.start from h) refl

offset-raw : (n at : ℕ) (bs : List ℕ) (d : Construct) (ds : List Construct) → (cut_from n true false (raw false at bs)).constructs ≡ d ∷ ds → offset_of (raw false at bs) ≡ at
unfolding cut_from
offset-raw n at (c ∷ bs) d ds e = starts-at c at bs
offset-raw zero at [] d ds e = absurd (cc)
offset-raw (suc n) at [] d ds e = absurd (by (whole_size true false []) refl e) where
  by : (o : Option ℕ) → whole_size true false [] ≡ o → (cut_at o false [] (cut_from n true false)).constructs ≡ d ∷ ds → ⊥
  by None f e = (cc)
  by (Some k) f e = none-whole false k f

and-true : (b : Bool) → (b && true) ≡ b
and-true true = refl
and-true false = refl

and-false : (b c : Bool) → c ≡ false → (b && c) ≡ false
and-false true c e = e
and-false false c e = refl

-- what is cut first, and then the others
abbrev cut-behind : ℕ → Bool → ℕ → List Byte → List Construct
cut-behind n first k us = construct first k us ∷ (cut_from n true false (drop k us)).constructs

at-first : (n : ℕ) (first : Bool) (at c : ℕ) (rest : List ℕ) (k j : ℕ) → whole_size true first (c ∷ rest) ≡ Some j → drop k (raw false at (c ∷ rest)) ≡ raw false (at + j) (drop j (c ∷ rest))
    → (cut_from n true false (drop k (raw false at (c ∷ rest)))).rest ≡ []
    → IsAt first at (c ∷ rest) (reaches_to (at + length (c ∷ rest)) (cut-behind n first k (raw false at (c ∷ rest)))) at
at-first n first at c rest k j f h r =
    let bs = c ∷ rest in
    let us = raw false at bs in
    let vs = drop k us in
    let own = construct first k us in
    let cs = (cut_from n true false vs).constructs in
    let t = whole-takes true first bs j f in
    let e = here-end at j bs own cs (starts-at c at rest) t.1
    (λ x. none-raw (at + j) (drop j bs) (sym h ∙ none-cut n false vs x r))
    (λ d ds x. first-start n false vs d ds x ∙ ap offset_of h ∙ offset-raw n (at + j) (drop j bs) d ds (ap (λ l. (cut_from n true false l).constructs) (sym h) ∙ x)) in
    record {
      front = 0;
      is = omega arith;
      within = omega arith;
      bytes = j;
      whole = ap (λ b. whole_size true b bs) (and-true first) ∙ f;
      reach = e.0;
      found = e.1;
      kind = ap (λ x. x.kind) e.2 ∙ kind-raw first bs at ∙ sym (ap (λ b. kind_of b bs) (and-true first));
      start = ap (λ x. x.start) e.2 ∙ starts-at c at rest;
      end = e.3;
    }

at-later : (n : ℕ) (first : Bool) (at c : ℕ) (rest : List ℕ) (k j from : ℕ) → whole_size true first (c ∷ rest) ≡ Some j
    → IsAt false (at + j) (drop j (c ∷ rest)) (reaches_to (at + j + length (drop j (c ∷ rest))) (cut_from n true false (drop k (raw false at (c ∷ rest)))).constructs) from
    → IsAt first at (c ∷ rest) (reaches_to (at + length (c ∷ rest)) (cut-behind n first k (raw false at (c ∷ rest)))) from
at-later n first at c rest k j from f i =
    let bs = c ∷ rest in
    let us = raw false at bs in
    let own = construct first k us in
    let cs = (cut_from n true false (drop k us)).constructs in
    let t = whole-takes true first bs j f in
    let left = length-drop j bs in
    let more : 0 < j + i.front = (let z = t.0 in omega arith) in
    let not-here : own.start ≢ from = (λ e. (let z = starts-at c at rest in let y = i.is in omega arith)) in
    let off : (first && (j + i.front == 0)) ≡ false = and-false first (j + i.front == 0) (other-number (j + i.front) 0 (λ e. (omega arith))) in
    let there : drop i.front (drop j bs) ≡ drop (j + i.front) bs = drop-behind i.front j bs in
    let far : at + length bs ≡ at + j + length (drop j bs) = omega (arith, t.1) in
    record {
      front = j + i.front;
      is = i.is ∙ (omega arith);
      within = (let z = i.within in omega (arith, t.1));
      bytes = i.bytes;
      whole = ap (λ b. whole_size true b (drop (j + i.front) bs)) off ∙ ap (whole_size true false) (sym there) ∙ i.whole;
      reach = i.reach;
      found = reach-later (at + length bs) from own cs not-here ∙ ap (λ e. reach_at (reaches_to e cs) from) far ∙ i.found;
      kind = i.kind ∙ ap (kind_of false) there ∙ sym (ap (λ b. kind_of b (drop (j + i.front) bs)) off);
      start = i.start;
      end = i.end;
    }

-- one step of the walk
walked : (n : ℕ) (first : Bool) (at c : ℕ) (rest : List ℕ) (o p : Option ℕ) (from : ℕ) → whole_size true first (c ∷ rest) ≡ p → IsPast at (raw false at (c ∷ rest)) (c ∷ rest) o p
    → (cut_at o first (raw false at (c ∷ rest)) (cut_from n true false)).rest ≡ []
    → Contains (map (λ x. x.start) (cut_at o first (raw false at (c ∷ rest)) (cut_from n true false)).constructs) from
    → ((b : ℕ) (bs : List ℕ) → (cut_from n true false (raw false b bs)).rest ≡ [] → Contains (map (λ x. x.start) (cut_from n true false (raw false b bs)).constructs) from
    → IsAt false b bs (reaches_to (b + length bs) (cut_from n true false (raw false b bs)).constructs) from)
    → IsAt first at (c ∷ rest) (reaches_to (at + length (c ∷ rest)) (cut_at o first (raw false at (c ∷ rest)) (cut_from n true false)).constructs) from
walked n first at c rest None p from f h r g ih = absurd (Contains-nil from g)
walked n first at c rest (Some k) None from f h r g ih = absurd h
walked n first at c rest (Some k) (Some j) from f h r g ih =
    let bs = c ∷ rest in
    let us = raw false at bs in
    let cs = (cut_from n true false (drop k us)).constructs in
    ⊎_elim
    (λ e. subst (IsAt first at bs (reaches_to (at + length bs) (cut-behind n first k us))) (sym (starts-at c at rest) ∙ e) (at-first n first at c rest k j f h r))
    (λ more. at-later n first at c rest k j from f
    (subst (λ l. IsAt false (at + j) (drop j bs) (reaches_to (at + j + length (drop j bs)) (cut_from n true false l).constructs) from) (sym h)
    (ih (at + j) (drop j bs) (subst (λ l. (cut_from n true false l).rest ≡ []) h r) (subst (λ l. Contains (map (λ x. x.start) (cut_from n true false l).constructs) from) h more))))
    (Contains-cases (construct first k us).start (map (λ x. x.start) cs) from g)

pub walk : (n : ℕ) (first : Bool) (at : ℕ) (bs : List ℕ) (from : ℕ) → (cut_from n true first (raw false at bs)).rest ≡ []
    → Contains (map (λ c. c.start) (cut_from n true first (raw false at bs)).constructs) from
    → IsAt first at bs (reaches_to (at + length bs) (cut_from n true first (raw false at bs)).constructs) from
unfolding cut_from
walk zero first at bs from r h = absurd (Contains-nil from h)
walk (suc n) first at [] from r h = absurd (by (whole_size true first []) refl h) where
  by : (o : Option ℕ) → whole_size true first [] ≡ o → Contains (map (λ x. x.start) (cut_at o first [] (cut_from n true false)).constructs) from → ⊥
  by None e h = Contains-nil from h
  by (Some k) e h = none-whole first k e
walk (suc n) first at (c ∷ rest) from r h =
    walked n first at c rest (whole_size true first (values (raw false at (c ∷ rest)))) (whole_size true first (c ∷ rest)) from refl (whole-past first (c ∷ rest) at) r h
    (λ b bs s g. walk n false b bs from s g)
