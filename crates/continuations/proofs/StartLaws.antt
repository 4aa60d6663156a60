-- The first elements at places with which chains begin.
use Rattle.std.proofs.Common.{◌≡◌, ◌∙◌, ◌++◌, ◌+◌, ◌≤◌, ℕ, zero, suc, Bool, true, false, cond, List, [], ◌∷◌, refl, ap, sym, Option, Some, None, option_map, length, take, get_or, subst, rules, arith, ⊎_elim, inl, inr, ◌⊎◌, append-nil}
use Rattle.std.proofs.Math.Seq.{take-append_seam}
use Rattle.std.proofs.lemmas.Option.{slice_get_within}
use Rattle.std.specs.Prelude.{◌&&◌, ◌||◌, ◌==◌}
use Rattle.std.specs.List.{filter, slice_get}
use Rattle.ix_base.specs.declared.kind.Kind.{Kind}
use Rattle.ix_base.specs.declared.kind.Kind.TheVariants as kind
use Rattle.ix_base.specs.Kinds.{kind_of, same_kind}
use Rattle.ix_base.specs.LinkRules.{is_at}
use Rattle.std.proofs.lemmas.List.{take_more}
use Rattle.std.specs.Option.{option_or}
use Rattle.ix_base.specs.LocatedElements.{Located, is_continuation, is_start, offset_of}
use Rattle.id_table.specs.Slices.{put_first}
use Rattle.continuations.specs.ChainStarts.{first_start, starts_at}
use Rattle.continuations.proofs.Numbering.{got-behind, in-filter}
use Rattle.continuations.proofs.Walking.{some-inj}

first-by : (b : Bool) (page offset : ℕ) (x y : Located) (xs : List Located)
    → first_start page offset (xs ++ y ∷ []) ≡ option_or (first_start page offset xs) (first_start page offset (y ∷ []))
    → cond b (Some x) (first_start page offset (xs ++ y ∷ [])) ≡ option_or (cond b (Some x) (first_start page offset xs)) (first_start page offset (y ∷ []))
first-by true page offset x y xs h = refl
first-by false page offset x y xs h = h

first-append : (page offset : ℕ) (xs : List Located) (y : Located)
    → first_start page offset (xs ++ y ∷ []) ≡ option_or (first_start page offset xs) (first_start page offset (y ∷ []))
first-append page offset [] y = refl
first-append page offset (x ∷ xs) y = first-by (starts_at page offset x) page offset x y xs (first-append page offset xs y)

put-by : (f : Located → List Located) (o : Option Located) (b : Bool) (y : Located)
    → put_first (option_map f o) b (f y) ≡ option_map f (option_or o (cond b (Some y) None))
put-by f None true y = refl
put-by f None false y = refl
put-by f (Some x) b y = refl

pub kept-more : (f : Located → List Located) (page offset : ℕ) (old new : Option (List Located)) (xs ys : List Located) (y : Located)
    → ys ≡ xs ++ y ∷ [] → old ≡ option_map f (first_start page offset xs) → new ≡ put_first old (starts_at page offset y) (f y)
    → new ≡ option_map f (first_start page offset ys)
kept-more f page offset old new xs ys y e h n =
    n ∙ ap (λ o. put_first o (starts_at page offset y) (f y)) h ∙ put-by f (first_start page offset xs) (starts_at page offset y) y
    ∙ ap (option_map f) (sym (first-append page offset xs y) ∙ sym (ap (first_start page offset) e))

-- the element is in the list
abbrev pub IsAmong : List Located → Located → Type 0
IsAmong [] e = ⊥
IsAmong (x ∷ xs) e = (x ≡ e) ⊎ IsAmong xs e

differ : (b : Bool) → b ≡ false → b ≡ true → ⊥
differ true h k = cc
differ false h k = cc

self : (n : ℕ) → (n == n) ≡ true
self n = first_of (search rules, grind arith)

at-self : (e : Located) → is_start e ≡ true → starts_at e.page (offset_of e) e ≡ true
at-self e s = λ i. s i && (self e.page i && self (offset_of e) i)

first-kept : (b : Bool) (page offset : ℕ) (x e : Located) (xs : List Located) → (b ≡ true → x ≡ e) → (b ≡ false → first_start page offset xs ≡ Some e)
    → cond b (Some x) (first_start page offset xs) ≡ Some e
first-kept true page offset x e xs h k = ap Some (h refl)
first-kept false page offset x e xs h k = k refl

-- a head of some elements of which no two are at one place is the first at its place
pub first-is : (xs : List Located) (e : Located) → IsAmong xs e → is_start e ≡ true
    → ((x : Located) → IsAmong xs x → starts_at e.page (offset_of e) x ≡ true → x ≡ e) → first_start e.page (offset_of e) xs ≡ Some e
first-is [] e m s one = absurd m
first-is (x ∷ xs) e m s one = first-kept (starts_at e.page (offset_of e) x) e.page (offset_of e) x e xs (λ h. one x (inl refl) h)
    (λ h. ⊎_elim (λ same. absurd (differ (starts_at e.page (offset_of e) x) h (ap (starts_at e.page (offset_of e)) same ∙ at-self e s)))
    (λ later. first-is xs e later s (λ y k. one y (inr k))) m)

-- The elements of chains, of which those with which chains begin stand last.

not-start-by : (k : Kind) → same_kind k kind.Continuation ≡ true → (same_kind k kind.NonNumeric || same_kind k kind.Footnote) ≡ false
not-start-by kind.Continuation h = refl
not-start-by k h = absurd (let z : false ≡ true = h in cc)

not-start : (x : Located) → is_continuation x ≡ true → is_start x ≡ false
not-start x h = not-start-by (kind_of x.placed) h

first-behind : (page offset : ℕ) (es ys : List Located) → first_start page offset (filter is_continuation es ++ ys) ≡ first_start page offset ys
first-behind page offset [] ys = refl
first-behind page offset (x ∷ es) ys = by (is_continuation x) refl (first-behind page offset es ys) where
  by : (b : Bool) → is_continuation x ≡ b → first_start page offset (filter is_continuation es ++ ys) ≡ first_start page offset ys
      → first_start page offset (cond b (x ∷ filter is_continuation es) (filter is_continuation es) ++ ys) ≡ first_start page offset ys
  by true t h = ap (λ b. cond (b && is_at page offset x) (Some x) (first_start page offset (filter is_continuation es ++ ys))) (not-start x t) ∙ h
  by false t h = h

first-among : (page offset : ℕ) (es : List Located) → first_start page offset (filter is_start es) ≡ first_start page offset es
first-among page offset [] = refl
first-among page offset (x ∷ es) = by (is_start x) refl (first-among page offset es) where
  by : (b : Bool) → is_start x ≡ b → first_start page offset (filter is_start es) ≡ first_start page offset es
      → first_start page offset (cond b (x ∷ filter is_start es) (filter is_start es)) ≡ cond (b && is_at page offset x) (Some x) (first_start page offset es)
  by true t h = ap (λ b. cond (b && is_at page offset x) (Some x) (first_start page offset (filter is_start es))) t ∙ ap (cond (is_at page offset x) (Some x)) h
  by false t h = h

pub first-of-both : (page offset : ℕ) (es xs : List Located) → xs ≡ filter is_continuation es ++ filter is_start es → first_start page offset xs ≡ first_start page offset es
first-of-both page offset es xs e = ap (first_start page offset) e ∙ first-behind page offset es (filter is_start es) ∙ first-among page offset es

-- with none of the continuations a chain begins
pub first-of-none : (page offset : ℕ) (es xs : List Located) (count : ℕ) → xs ≡ filter is_continuation es ++ filter is_start es → count ≡ length (filter is_continuation es)
    → first_start page offset (take count xs) ≡ None
first-of-none page offset es xs count e n =
    (λ i. first_start page offset (take (n i) (e i)))
    ∙ ap (first_start page offset) (take-append_seam (filter is_continuation es) (filter is_start es) ∙ sym (append-nil (filter is_continuation es)))
    ∙ first-behind page offset es []

take-got : (xs : List Located) (i : ℕ) (x : Located) → slice_get xs i ≡ Some x → take (i + 1) xs ≡ take i xs ++ x ∷ []
take-got xs i x h = take_more xs i x (slice_get_within xs i x h) ∙ ap (λ (y : Located). take i xs ++ y ∷ []) (got xs i h) where
  got : (xs : List Located) (i : ℕ) → slice_get xs i ≡ Some x → get_or xs i x ≡ x
  got [] i h = refl
  got (y ∷ ys) zero h = some-inj y x h
  got (y ∷ ys) (suc i) h = got ys i h

-- the chain of one more element with which one begins
pub start-more : (f : Located → List Located) (page offset : ℕ) (old new : Option (List Located)) (es xs : List Located) (count i : ℕ) (e : Located)
    → xs ≡ filter is_continuation es ++ filter is_start es → count ≡ length (filter is_continuation es) → count ≤ i → slice_get xs i ≡ Some e
    → old ≡ option_map f (first_start page offset (take i xs)) → new ≡ put_first old (is_at page offset e) (f e) → new ≡ option_map f (first_start page offset (take (i + 1) xs))
start-more f page offset old new es xs count i e is n low at h put =
    let starts : is_start e ≡ true
    = (in-filter is_start es e (got-behind (filter is_continuation es) (filter is_start es) i e (subst (λ m. m ≤ i) n low) (ap (λ ys. slice_get ys i) (sym is) ∙ at))).1 in
    kept-more f page offset old new (take i xs) (take (i + 1) xs) e (take-got xs i e at) h
    (put ∙ sym (ap (λ b. put_first old (b && is_at page offset e) (f e)) starts))
