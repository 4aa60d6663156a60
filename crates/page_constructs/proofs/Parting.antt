-- How the code that parts texts meets its definitions.
use Rattle.std.proofs.Common.{◌≡◌, ◌≢◌, ℕ, suc, zero, ◌+◌, ◌<◌, ◌≤◌, ◌==◌, Bool, true, false, ◌||◌, ◌⊎◌, inl, inr, List, [], ◌∷◌, ◌++◌, length, take, drop, get_or, Option, Some, None, option_map, refl, sym, ap, ◌∙◌, arith, subst, Bor}
use Rattle.std.specs.List.{list_all}
use Rattle.std.specs.Option.{MatchOption}
use Rattle.std.specs.Str.{IsUtf8, IsCharBoundary}
use Rattle.std.specs.Str.Pattern.{FindsTextPrefix, StripsPrefix}
use Rattle.std.proofs.lemmas.Bool.Decides.{nat_tests}
use Rattle.std.proofs.lemmas.Str.{IsCharBoundary-start, IsCharBoundary-end, IsCharBoundary-before_ascii, IsCharBoundary-after_ascii}
use Rattle.ix_base.specs.NcName.{is_white}
use Rattle.page_constructs.specs.Constructs.{starts}
use Rattle.page_constructs.specs.Forms.{has, is_quote}
use Rattle.page_constructs.specs.Meanings.{before, from, is_dark, behind_front, behind_white, is_white_text, ends_name, ends_tag_name, quoted}
use Rattle.page_constructs.specs.Stops.{stops, is_special, is_odd}
use Rattle.page_constructs.specs.declared.meaning.span.Stop.{Stop}
use Rattle.page_constructs.specs.declared.meaning.span.Stop.TheVariants.{White, Dark, Name, TagName, Special, Odd, Double, Single}
use Rattle.page_constructs.proofs.SpanLaws.{one_number, either, same_or, is_same, NoneStops, before-from, starts-front, starts-append, drop-front, take-front}

-- what stands before the first byte that stops, and from it on
pub take-before : (f : ℕ → Bool) (t : List ℕ) → take (length (before f t)) t ≡ before f t
take-before f t = ap (take (length (before f t))) (before-from f t) ∙ take-front (before f t) (from f t)

pub drop-before : (f : ℕ → Bool) (t : List ℕ) → drop (length (before f t)) t ≡ from f t
drop-before f t = ap (drop (length (before f t))) (before-from f t) ∙ drop-front (before f t) (from f t)

pub before-short : (f : ℕ → Bool) (t : List ℕ) → length (before f t) ≤ length t
before-short f [] = omega arith
before-short f (c ∷ t) = elim (either (f c)) as (λ x. length (before f (c ∷ t)) ≤ length (c ∷ t)) [
  | inl y ↦ rw y (omega arith)
  | inr n ↦ rw n (let h = before-short f t in omega arith)
]

pub from-short : (f : ℕ → Bool) (t : List ℕ) → length (from f t) ≤ length t
from-short f [] = omega arith
from-short f (c ∷ t) = elim (either (f c)) as (λ x. length (from f (c ∷ t)) ≤ length (c ∷ t)) [
  | inl y ↦ rw y (omega arith)
  | inr n ↦ rw n (let h = from-short f t in omega arith)
]

pub is-empty : (x : List ℕ) → (length x == 0) ≡ true → x ≡ []
is-empty [] h = refl
is-empty (c ∷ x) h = absurd (let z : suc (length x) ≡ 0 = one_number (suc (length x)) 0 h in omega arith)

-- the first byte that stops
first-stop : (f : ℕ → Bool) (t : List ℕ) → length (before f t) < length t → f (get_or t (length (before f t)) 0) ≡ true
first-stop f [] h = absurd (omega arith)
first-stop f (c ∷ t) h = elim (either (f c)) as (λ x. f (get_or (c ∷ t) (length (before f (c ∷ t))) 0) ≡ true) [
  | inl y ↦ rw y y
  | inr n ↦ let k : suc (length (before f t)) < suc (length t) = rw n at h in rw n (first-stop f t (omega arith))
]

-- the bytes before it
none-before : (f : ℕ → Bool) (t : List ℕ) (k : ℕ) → k < length (before f t) → f (get_or t k 0) ≡ false
none-before f [] k h = absurd (omega arith)
none-before f (c ∷ t) zero h = elim (either (f c)) as (λ x. f c ≡ false) [
  | inl y ↦ let z : 0 < 0 = rw y at h in absurd (omega arith)
  | inr n ↦ n
]
none-before f (c ∷ t) (suc k) h = elim (either (f c)) as (λ x. f (get_or t k 0) ≡ false) [
  | inl y ↦ let z : suc k < 0 = rw y at h in absurd (omega arith)
  | inr n ↦ let z : suc k < suc (length (before f t)) = rw n at h in none-before f t k (omega arith)
]

white-low : (c : ℕ) → is_white c ≡ true → c < 128
white-low c h = grind (arith, nat_tests)

-- a text may be cut before an ASCII byte
cut-low : (f : ℕ → Bool) → ((c : ℕ) → f c ≡ true → c < 128) → (t : List ℕ) → IsCharBoundary t (length (before f t))
cut-low f low t = by_end (either (Rattle.std.specs.Prelude.nat_lt (length (before f t)) (length t))) where
  by_end : (Rattle.std.specs.Prelude.nat_lt (length (before f t)) (length t) ≡ true) ⊎ (Rattle.std.specs.Prelude.nat_lt (length (before f t)) (length t) ≡ false) → IsCharBoundary t (length (before f t))
  by_end (inl l) = let h : length (before f t) < length t = grind (arith, nat_tests) in IsCharBoundary-before_ascii t (length (before f t)) h (low (get_or t (length (before f t)) 0) (first-stop f t h))
  by_end (inr g) = let h = before-short f t in let e : length (before f t) ≡ length t = grind (arith, nat_tests) in subst (IsCharBoundary t) (sym e) (IsCharBoundary-end t)

-- and behind one
cut-behind : (f : ℕ → Bool) → ((c : ℕ) → f c ≡ false → c < 128) → (t : List ℕ) → IsUtf8 t → IsCharBoundary t (length (before f t))
cut-behind f low t u = by_size (length (before f t)) refl where
  by_size : (n : ℕ) → length (before f t) ≡ n → IsCharBoundary t n
  by_size zero e = IsCharBoundary-start t u
  by_size (suc k) e =
      let s = before-short f t in
      let one : k + 1 ≡ suc k = omega arith in
      subst (IsCharBoundary t) one (IsCharBoundary-after_ascii t k u (omega arith) (low (get_or t k 0) (none-before f t k (omega arith))))

name-low : (c : ℕ) → ends_name c ≡ true → c < 128
name-low c h = grind (arith, nat_tests)

tag-name-low : (c : ℕ) → ends_tag_name c ≡ true → c < 128
tag-name-low c h = grind (arith, nat_tests)

pub special-low : (c : ℕ) → is_special c ≡ true → c < 128
special-low c h = grind (arith, nat_tests)

odd-low : (c : ℕ) → is_odd c ≡ true → c < 128
odd-low c h = grind (arith, nat_tests)

dark-low : (c : ℕ) → is_dark c ≡ false → c < 128
dark-low c h = white-low c (Rattle.page_constructs.proofs.BoolLaws.not_false (is_white c) h)

pub cut-stop : (stop : Stop) (t : List ℕ) → IsUtf8 t → IsCharBoundary t (length (before (stops stop) t))
cut-stop White t u = cut-low is_white white-low t
cut-stop Dark t u = cut-behind is_dark dark-low t u
cut-stop Name t u = cut-low ends_name name-low t
cut-stop TagName t u = cut-low ends_tag_name tag-name-low t
cut-stop Special t u = cut-low is_special special-low t
cut-stop Odd t u = cut-low is_odd odd-low t
cut-stop Double t u = cut-low (λ c. c == 34) (λ c h. grind (arith, nat_tests)) t
cut-stop Single t u = cut-low (λ c. c == 39) (λ c h. grind (arith, nat_tests)) t

pub white-none : (t : List ℕ) → (length (behind_white t) == 0) ≡ is_white_text t
white-none [] = refl
white-none (c ∷ t) = elim (either (is_white c)) as (λ x. (length (behind_white (c ∷ t)) == 0) ≡ is_white_text (c ∷ t)) [
  | inl y ↦ rw y (white-none t)
  | inr n ↦ rw n (let z : (suc (length t) == 0) ≡ false = grind (arith, nat_tests) in z)
]

-- a text at the front
pub strip-behind : (front text : List ℕ) (r : Option (Bor (List ℕ))) → MatchOption r (FindsTextPrefix front text None) (λ x. StripsPrefix (FindsTextPrefix front) text x.now) → option_map (λ x. x.now) r ≡ behind_front front text
strip-behind front text None h = elim (either (starts front text)) as (λ x. None ≡ behind_front front text) [
  | inl y ↦ absurd (h (drop (length front) text) (starts-front front text y))
  | inr n ↦ rw n refl
]
strip-behind front text (Some x) h =
    let size : h.0 ≡ length front = h.1.0 in
    let splits : text ≡ front ++ drop h.0 text = h.1.1 in
    let s : starts front text ≡ true = ap (starts front) splits ∙ starts-append front (drop h.0 text) in
    rw s (ap Some (h.2 ∙ ap (λ n. drop n text) size))

-- a value in quotes
pub index-none : (q : ℕ) (t : List ℕ) → ((i : ℕ) → i < length t → get_or t i 0 ≢ q) → NoneStops (λ c. c == q) t
index-none q [] h = tt
index-none q (c ∷ t) h = (elim (same_or c q) as (λ x. (c == q) ≡ false) [ inl e ↦ absurd (h 0 (omega arith) e) | inr n ↦ n ], index-none q t (λ i l. h (suc i) (omega arith)))

pub none-has : (q : ℕ) (t : List ℕ) → NoneStops (λ c. c == q) t → has q t ≡ false
none-has q [] h = refl
none-has q (c ∷ t) h = rw (h.0) (none-has q t h.1)

has-within : (q : ℕ) (t u : List ℕ) → has q (t ++ q ∷ u) ≡ true
has-within q [] u = rw (is_same q) refl
has-within q (c ∷ t) u = elim (c == q) as (λ b. (b || has q (t ++ q ∷ u)) ≡ true) [ true ↦ refl | false ↦ has-within q t u ]

-- a value up to the quote that closes it
pub closed-some : (q : ℕ) (text value raw behind more : List ℕ) → is_quote q ≡ true → text ≡ q ∷ value → raw ≡ before (λ c. c == q) value
    → behind ≡ from (λ c. c == q) value → behind ≡ q ∷ more → Some (raw, more) ≡ quoted text
closed-some q text value raw behind more k t b f e =
    let there : has q value ≡ true = ap (has q) (before-from (λ c. c == q) value ∙ ap (λ l. before (λ c. c == q) value ++ l) (sym f ∙ e)) ∙ has-within q (before (λ c. c == q) value) more in
    let is : Some (raw, more) ≡ quoted (q ∷ value) = rw (k, there) (λ i. Some (b i, ap (drop 1) (sym e ∙ f) i)) in
    is ∙ ap quoted (sym t)

no-has : (q : ℕ) (t : List ℕ) → ((more : List ℕ) → from (λ c. c == q) t ≢ q ∷ more) → has q t ≡ false
no-has q [] h = refl
no-has q (c ∷ t) h = elim (same_or c q) as (λ x. has q (c ∷ t) ≡ false) [
  | inl e ↦ absurd (let here : from (λ y. y == q) (q ∷ t) ≡ q ∷ t = rw (is_same q) refl in h t (ap (λ x. from (λ y. y == q) (x ∷ t)) e ∙ here))
  | inr n ↦ rw n (no-has q t (λ more e. h more (let on : from (λ y. y == q) (c ∷ t) ≡ from (λ y. y == q) t = rw n refl in on ∙ e)))
]

pub closed-none : (q : ℕ) (text value behind : List ℕ) → text ≡ q ∷ value → behind ≡ from (λ c. c == q) value → ((more : List ℕ) → behind ≢ q ∷ more) → None ≡ quoted text
closed-none q text value behind t f h =
    let gone : has q value ≡ false = no-has q value (λ more e. h more (f ∙ e)) in
    let is : None ≡ quoted (q ∷ value) = rw (gone, Rattle.std.proofs.lemmas.Bool.and_right (is_quote q) false refl) refl in
    is ∙ ap quoted (sym t)

pub quoted-none : (text : List ℕ) → ((rest : List ℕ) → text ≢ 34 ∷ rest) → ((rest : List ℕ) → text ≢ 39 ∷ rest) → None ≡ quoted text
quoted-none [] d s = refl
quoted-none (c ∷ text) d s =
    let a : (c == 34) ≡ false = elim (same_or c 34) as (λ x. (c == 34) ≡ false) [ inl e ↦ absurd (d text (ap (λ x. x ∷ text) e)) | inr n ↦ n ] in
    let b : (c == 39) ≡ false = elim (same_or c 39) as (λ x. (c == 39) ≡ false) [ inl e ↦ absurd (s text (ap (λ x. x ∷ text) e)) | inr n ↦ n ] in
    rw (a, b) refl
