-- How many links pass a test, with one more element and with one more link.
use Rattle.std.proofs.Common.{◌≡◌, ◌∙◌, ap, refl, sym, ℕ, suc, ◌+◌, ◌-◌, ◌≤◌, Bool, true, false, cond, List, [], ◌∷◌, ◌++◌, length, arith, length-append}
use Rattle.std.specs.Prelude.{◌&&◌, ◌||◌, not, if◌then◌else◌}
use Rattle.std.specs.List.{filter}
use Rattle.std.proofs.lemmas.List.Elements.{filter-append}
use Rattle.ix_base.specs.LocatedElements.{Located}
use Rattle.link_ids.specs.Links.{Link}
use Rattle.page_links.specs.LinkTables.{Counts, Kept, none, some, parted, is_none, is_parted, holder_by, kept_with, link_by, sooner}

-- those that pass no longer are those that are named
pub count-less : (p q n : Link → Bool) → ((l : Link) → q l ≡ (p l && not (n l))) → ((l : Link) → n l ≡ true → p l ≡ true) → (ls : List Link)
    → length (filter p ls) ≡ length (filter q ls) + length (filter n ls)
count-less p q n is within [] = refl
count-less p q n is within (l ∷ ls) = by (p l) (n l) (q l) (is l) (within l) (count-less p q n is within ls)
  where
    by : (b c d : Bool) → d ≡ (b && not c) → (c ≡ true → b ≡ true) → length (filter p ls) ≡ length (filter q ls) + length (filter n ls)
        → length (cond b (l ∷ filter p ls) (filter p ls)) ≡ length (cond d (l ∷ filter q ls) (filter q ls)) + length (cond c (l ∷ filter n ls) (filter n ls))
    by true true true h k e = absurd (cc)
    by true true false h k e = omega arith
    by true false true h k e = omega arith
    by true false false h k e = absurd (cc)
    by false true d h k e = absurd (let z : false ≡ true = k refl in cc)
    by false false true h k e = absurd (cc)
    by false false false h k e = e

-- those that pass newly are those that are named
pub count-more : (p q n : Link → Bool) → ((l : Link) → q l ≡ (p l || n l)) → ((l : Link) → n l ≡ true → p l ≡ false) → (ls : List Link)
    → length (filter q ls) ≡ length (filter p ls) + length (filter n ls)
count-more p q n is apart [] = refl
count-more p q n is apart (l ∷ ls) = by (p l) (n l) (q l) (is l) (apart l) (count-more p q n is apart ls)
  where
    by : (b c d : Bool) → d ≡ (b || c) → (c ≡ true → b ≡ false) → length (filter q ls) ≡ length (filter p ls) + length (filter n ls)
        → length (cond d (l ∷ filter q ls) (filter q ls)) ≡ length (cond b (l ∷ filter p ls) (filter p ls)) + length (cond c (l ∷ filter n ls) (filter n ls))
    by true true d h k e = absurd (let z : true ≡ false = k refl in cc)
    by true false true h k e = omega arith
    by true false false h k e = absurd (cc)
    by false true true h k e = omega arith
    by false true false h k e = absurd (cc)
    by false false true h k e = absurd (cc)
    by false false false h k e = e

pub count-same : (p q : Link → Bool) → ((l : Link) → q l ≡ p l) → (ls : List Link) → length (filter q ls) ≡ length (filter p ls)
count-same p q is [] = refl
count-same p q is (l ∷ ls) = (λ i. length (cond (is l i) (l ∷ filter q ls) (filter q ls))) ∙ by (p l) (count-same p q is ls)
  where
    by : (b : Bool) → length (filter q ls) ≡ length (filter p ls) → length (cond b (l ∷ filter q ls) (filter q ls)) ≡ length (cond b (l ∷ filter p ls) (filter p ls))
    by true e = ap suc e
    by false e = e

-- those that are named are no more than those that pass
pub count-within : (p n : Link → Bool) → ((l : Link) → n l ≡ true → p l ≡ true) → (ls : List Link) → length (filter n ls) ≤ length (filter p ls)
count-within p n within [] = omega arith
count-within p n within (l ∷ ls) = by (p l) (n l) (within l) (count-within p n within ls)
  where
    by : (b c : Bool) → (c ≡ true → b ≡ true) → length (filter n ls) ≤ length (filter p ls)
        → length (cond c (l ∷ filter n ls) (filter n ls)) ≤ length (cond b (l ∷ filter p ls) (filter p ls))
    by true true h e = omega arith
    by true false h e = omega arith
    by false true h e = absurd (let z : false ≡ true = h refl in cc)
    by false false h e = e

-- One more element with an id.

and-true : (b : Bool) → b ≡ (b && true)
and-true true = refl
and-true false = refl

and-false : (b : Bool) → false ≡ (b && false)
and-false true = refl
and-false false = refl

or-true : (b : Bool) → true ≡ (b || true)
or-true true = refl
or-true false = refl

or-false : (b : Bool) → b ≡ (b || false)
or-false true = refl
or-false false = refl

-- What is kept of links' ids, and then what is kept: of those that name the id with one more element this, of all others as before.
pub record IsHeld (before after : Link → Kept) (names : Link → Bool) (s t : Kept) : Type 0 where
  pub was : (l : Link) → names l ≡ true → before l ≡ s
  pub now : (l : Link) → names l ≡ true → after l ≡ t
  pub others : (l : Link) → names l ≡ false → after l ≡ before l

-- what is kept may become this with one more element
abbrev pub Leads : Kept → Kept → Type 0
Leads none (some x l) = Unit {0}
Leads (some x l) (some y m) = Unit {0}
Leads (some x l) parted = Unit {0}
Leads parted parted = Unit {0}
Leads s t = ⊥

pub leads-with : (same : Located → Located → Bool) (names : ℕ → List ℕ) (s : Kept) (e : Located) → Leads s (kept_with same names s e)
leads-with same names none e = tt
leads-with same names (some x l) e = by (same l e)
  where
    by : (b : Bool) → Leads (some x l) (cond b (some (sooner names x e) e) parted)
    by true = tt
    by false = tt
leads-with same names parted e = tt

module _ (before after : Link → Kept) (n : Link → Bool) (s t : Kept) (h : IsHeld before after n s t) where
  -- a test that the named ones pass no longer, that they pass newly, and that they pass as before
  pass-less : (f : Kept → Bool) → f t ≡ false → (l : Link) → f (after l) ≡ (f (before l) && not (n l))
  pass-less f fails l = by (n l) refl
    where
      by : (b : Bool) → n l ≡ b → f (after l) ≡ (f (before l) && not b)
      by true k = ap f (h.now l k) ∙ fails ∙ and-false (f (before l))
      by false k = ap f (h.others l k) ∙ and-true (f (before l))

  pass-more : (f : Kept → Bool) → f t ≡ true → (l : Link) → f (after l) ≡ (f (before l) || n l)
  pass-more f passes l = by (n l) refl
    where
      by : (b : Bool) → n l ≡ b → f (after l) ≡ (f (before l) || b)
      by true k = ap f (h.now l k) ∙ passes ∙ or-true (f (before l))
      by false k = ap f (h.others l k) ∙ or-false (f (before l))

  pass-same : (f : Kept → Bool) → f t ≡ f s → (l : Link) → f (after l) ≡ f (before l)
  pass-same f same l = by (n l) refl
    where
      by : (b : Bool) → n l ≡ b → f (after l) ≡ f (before l)
      by true k = ap f (h.now l k) ∙ same ∙ sym (ap f (h.was l k))
      by false k = ap f (h.others l k)

  -- those that wait for the id are no more than all that wait
  pub wait-within : is_none s ≡ true → (ls : List Link) → length (filter n ls) ≤ length (filter (λ l. is_none (before l)) ls)
  wait-within p ls = count-within (λ l. is_none (before l)) n (λ l k. ap is_none (h.was l k) ∙ p) ls

-- how many links wait, and how many are parted
abbrev pub counted : (Link → Kept) → List Link → Counts
counted kept ls = record { pending = length (filter (λ l. is_none (kept l)) ls); doubled = length (filter (λ l. is_parted (kept l)) ls) }

module _ (before after : Link → Kept) (n : Link → Bool) where
  pub counts-held : (s t : Kept) → Leads s t → IsHeld before after n s t → (ls : List Link)
      → counted after ls ≡ holder_by s t (length (filter n ls)) (counted before ls)
  counts-held none (some y m) to h ls =
      let less : length (filter (λ l. is_none (before l)) ls) ≡ length (filter (λ l. is_none (after l)) ls) + length (filter n ls) =
      count-less (λ l. is_none (before l)) (λ l. is_none (after l)) n (pass-less before after n none (some y m) h is_none refl) (λ l k. ap is_none (h.was l k)) ls in
      let left : length (filter (λ l. is_none (after l)) ls) ≡ length (filter (λ l. is_none (before l)) ls) - length (filter n ls) = omega arith in
      let same = count-same (λ l. is_parted (before l)) (λ l. is_parted (after l)) (pass-same before after n none (some y m) h is_parted refl) ls in
      λ i. record { pending = left i; doubled = same i }
  counts-held (some x k) parted to h ls =
      let same = count-same (λ l. is_none (before l)) (λ l. is_none (after l)) (pass-same before after n (some x k) parted h is_none refl) ls in
      let more = count-more (λ l. is_parted (before l)) (λ l. is_parted (after l)) n (pass-more before after n (some x k) parted h is_parted refl) (λ l u. ap is_parted (h.was l u)) ls in
      λ i. record { pending = same i; doubled = more i }
  counts-held (some x k) (some y m) to h ls =
      let one = count-same (λ l. is_none (before l)) (λ l. is_none (after l)) (pass-same before after n (some x k) (some y m) h is_none refl) ls in
      let two = count-same (λ l. is_parted (before l)) (λ l. is_parted (after l)) (pass-same before after n (some x k) (some y m) h is_parted refl) ls in
      λ i. record { pending = one i; doubled = two i }
  counts-held parted parted to h ls =
      let one = count-same (λ l. is_none (before l)) (λ l. is_none (after l)) (pass-same before after n parted parted h is_none refl) ls in
      let two = count-same (λ l. is_parted (before l)) (λ l. is_parted (after l)) (pass-same before after n parted parted h is_parted refl) ls in
      λ i. record { pending = one i; doubled = two i }
  counts-held none none to h ls = absurd to
  counts-held none parted to h ls = absurd to
  counts-held (some x k) none to h ls = absurd to
  counts-held parted none to h ls = absurd to
  counts-held parted (some y m) to h ls = absurd to

-- One more link.

pub link-ends : (p : Link → Bool) (ls : List Link) (l : Link) → length (filter p (ls ++ l ∷ [])) ≡ length (filter p ls) + (if p l then 1 else 0)
link-ends p ls l = ap length (filter-append p ls (l ∷ [])) ∙ length-append (filter p ls) (filter p (l ∷ [])) ∙ by (p l)
  where
    by : (b : Bool) → length (filter p ls) + length (cond b (l ∷ []) []) ≡ length (filter p ls) + (if b then 1 else 0)
    by true = refl
    by false = refl

pub counts-linked : (s : Kept) (c : Counts) (p d : ℕ) → c ≡ record { pending = p; doubled = d }
    → link_by s c ≡ record { pending = p + (if is_none s then 1 else 0); doubled = d + (if is_parted s then 1 else 0) }
counts-linked none c p d h = (λ i. record { pending = (h i).pending + 1; doubled = (h i).doubled }) ∙ (λ i. record { pending = p + 1; doubled = zero-more d i })
  where
    zero-more : (n : ℕ) → n ≡ n + 0
    zero-more n = omega arith
counts-linked (some x l) c p d h = h ∙ (λ i. record { pending = zero-more p i; doubled = zero-more d i })
  where
    zero-more : (n : ℕ) → n ≡ n + 0
    zero-more n = omega arith
counts-linked parted c p d h = (λ i. record { pending = (h i).pending; doubled = (h i).doubled + 1 }) ∙ (λ i. record { pending = zero-more p i; doubled = d + 1 })
  where
    zero-more : (n : ℕ) → n ≡ n + 0
    zero-more n = omega arith
