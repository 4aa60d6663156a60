-- How the code that reads references and values meets its definitions.
use Rattle.std.proofs.Common.{◌≡◌, ◌≢◌, ℕ, suc, zero, ◌+◌, ◌-◌, ◌*◌, ◌<◌, ◌≤◌, ◌==◌, nat_lt, nat_le, min, Bool, true, false, ◌&&◌, ◌||◌, not, if◌then◌else◌, ◌⊎◌, inl, inr, List, [], ◌∷◌, ◌++◌, length, take, drop, get_or, Option, Some, None, option_map, refl, sym, ap, ◌∙◌, arith, subst, Bor, append_assoc, append-nil, bytes_eq}
use Rattle.std.specs.Char.{OutOfScalarRange, encode_utf8}
use Rattle.std.specs.Option.{MatchOption, option_and_then}
use Rattle.std.proofs.lemmas.Bool.Decides.{nat_tests}
use Rattle.std.proofs.lemmas.Bool.{ltb-true}
use Rattle.std.proofs.lemmas.Str.Pattern.{IsSplitOnceResult, split_parts}
use Rattle.ix_base.specs.NcName.{is_allowed}
use Rattle.page_constructs.specs.Meanings.{before, from}
use Rattle.page_constructs.specs.Spans.{up_to_beyond}
use Rattle.page_constructs.specs.Stops.{is_special, begins_special}
use Rattle.page_constructs.specs.Values.{digit, below, number_behind, allowed, referred, spelled, meant_in}
use Rattle.page_constructs.proofs.SizeLaws.{drop-next}
use Rattle.page_constructs.proofs.SpanLaws.{clash, either, same_or, is_same, or_left, or_right, NoneStops, before-from}
use Rattle.page_constructs.proofs.Parting.{index-none}

-- numbers that grow no further
up-above : (n : ℕ) → 0x110000 ≤ n → up_to_beyond n ≡ 0x110000
up-above n h = grind (arith, nat_tests)

pub min-up : (n : ℕ) → min n 0x110000 ≡ up_to_beyond n
min-up n = elim (either (nat_lt n 0x110000)) as (λ x. min n 0x110000 ≡ up_to_beyond n) [
  | inl y ↦ rw y (let h = ltb-true n 0x110000 y in omega arith)
  | inr k ↦ rw k (let h : 0x110000 ≤ n = grind (arith, nat_tests) in omega arith)
]

times-more : (b m : ℕ) → 0 < b → m ≤ m * b
times-more zero m h = absurd (omega arith)
times-more (suc b) m h = grind arith

up-step : (b m d : ℕ) → 0 < b → up_to_beyond (up_to_beyond m * b + d) ≡ up_to_beyond (m * b + d)
up-step b m d h = elim (either (nat_lt m 0x110000)) as (λ x. up_to_beyond (up_to_beyond m * b + d) ≡ up_to_beyond (m * b + d)) [
  | inl y ↦ ap (λ n. up_to_beyond (n * b + d)) (let z : up_to_beyond m ≡ m = rw y refl in z)
  | inr n ↦
      let large : 0x110000 ≤ m = grind (arith, nat_tests) in
      let one : up_to_beyond (m * b + d) ≡ 0x110000 = up-above (m * b + d) (let t = times-more b m h in omega arith) in
      let two : up_to_beyond (0x110000 * b + d) ≡ 0x110000 = up-above (0x110000 * b + d) (let t = times-more b 0x110000 h in omega arith) in
      ap (λ n. up_to_beyond (n * b + d)) (up-above m large) ∙ two ∙ sym one
]

up-twice : (m : ℕ) → up_to_beyond (up_to_beyond m) ≡ up_to_beyond m
up-twice m = elim (either (nat_lt m 0x110000)) as (λ x. up_to_beyond (up_to_beyond m) ≡ up_to_beyond m) [
  | inl y ↦ ap up_to_beyond (let z : up_to_beyond m ≡ m = rw y refl in z)
  | inr n ↦ rw n refl
]

-- digits behind a number that grows no further
up-behind : (b : ℕ) → 0 < b → (m : ℕ) (ds : List ℕ) → option_map up_to_beyond (number_behind b (up_to_beyond m) ds) ≡ option_map up_to_beyond (number_behind b m ds)
up-behind b h m [] = ap Some (up-twice m)
up-behind b h m (c ∷ ds) = by_digit (λ n. up-behind b h n ds) (below b (digit c)) where
  by_digit : ((n : ℕ) → option_map up_to_beyond (number_behind b (up_to_beyond n) ds) ≡ option_map up_to_beyond (number_behind b n ds)) → (o : Option ℕ)
      → option_map up_to_beyond (option_and_then (λ d. number_behind b (up_to_beyond m * b + d) ds) o) ≡ option_map up_to_beyond (option_and_then (λ d. number_behind b (m * b + d) ds) o)
  by_digit ih None = refl
  by_digit ih (Some d) =
      sym (ih (up_to_beyond m * b + d)) ∙ ap (λ n. option_map up_to_beyond (number_behind b n ds)) (up-step b m d h) ∙ ih (m * b + d)

pub number-next : (b n d : ℕ) (ds : List ℕ) (i : ℕ) → 0 < b → i < length ds → Some d ≡ below b (digit (get_or ds i 0))
    → option_map up_to_beyond (number_behind b (min (n * b + d) 0x110000) (drop (i + 1) ds)) ≡ option_map up_to_beyond (number_behind b n (drop i ds))
number-next b n d ds i h l e =
    ap (λ m. option_map up_to_beyond (number_behind b m (drop (i + 1) ds))) (min-up (n * b + d))
    ∙ up-behind b h (n * b + d) (drop (i + 1) ds)
    ∙ ap (λ o. option_map up_to_beyond (option_and_then (λ d. number_behind b (n * b + d) (drop (i + 1) ds)) o)) e
    ∙ ap (λ x. option_map up_to_beyond (number_behind b n x)) (sym (drop-next ds i l))

-- no character that a page may have is outside the scalar values
out-allowed : (c : ℕ) → OutOfScalarRange c → is_allowed c ≡ false
unfolding is_allowed
out-allowed c (inl h) = grind (arith, nat_tests)
out-allowed c (inr h) = grind (arith, nat_tests)

pub out-none : (c : ℕ) → OutOfScalarRange c → None ≡ allowed c
out-none c h = rw (out-allowed c h) refl

pub allowed-up : (o : Option ℕ) (n : ℕ) → Some n ≡ option_map up_to_beyond o → allowed n ≡ option_and_then allowed o
allowed-up None n e = absurd (cc)
allowed-up (Some m) n e = ap allowed (let z : n ≡ up_to_beyond m = cc in z) ∙ same (either (nat_lt m 0x110000)) where
  same : (nat_lt m 0x110000 ≡ true) ⊎ (nat_lt m 0x110000 ≡ false) → allowed (up_to_beyond m) ≡ allowed m
  same (inl y) = ap allowed (let z : up_to_beyond m ≡ m = rw y refl in z)
  same (inr k) =
      let large : 0x110000 ≤ m = grind (arith, nat_tests) in
      ap allowed (up-above m large) ∙ sym (out-none 0x110000 (inr (omega arith))) ∙ out-none m (inr large)

-- an open reference that isn't closed
open-none : (inner t : List ℕ) → NoneStops (λ c. c == 59) t → meant_in (Some inner) t ≡ None
unfolding meant_in
open-none inner [] h = refl
open-none inner (c ∷ t) h = rw (h.0) (open-none (inner ++ c ∷ []) t h.1)

-- what a closed reference means, before what follows it
abbrev pub Put : Option ℕ → List ℕ → Option (List ℕ)
Put o t = option_and_then (λ char. option_map (λ more. char ++ more) (meant_in None t)) (spelled o)

abbrev pub Closed : List ℕ → List ℕ → Option (List ℕ)
Closed inner t = Put (referred inner) t

open-split : (inner p t : List ℕ) → NoneStops (λ c. c == 59) p → meant_in (Some inner) (p ++ 59 ∷ t) ≡ Closed (inner ++ p) t
unfolding meant_in
open-split inner [] t h = ap (λ x. Closed x t) (sym (append-nil inner))
open-split inner (c ∷ p) t h = rw (h.0) (open-split (inner ++ c ∷ []) p t h.1 ∙ ap (λ x. Closed x t) (append_assoc inner (c ∷ []) p))

pub closed-at : (text : List ℕ) (r : Option (Bor (List ℕ) × Bor (List ℕ))) → IsSplitOnceResult 59 text r
    → MatchOption r (None ≡ meant_in (Some []) text) (λ x. (Closed x.0.now x.1.now ≡ meant_in (Some []) text) × (length x.1.now < length text))
closed-at text r h = by_parts r (split_parts 59 text r h (omega arith)) where
  by_parts : (r : Option (Bor (List ℕ) × Bor (List ℕ))) → MatchOption r ((i : ℕ) → i < length text → get_or text i 0 ≢ 59) (λ x. (text ≡ x.0.now ++ (59 ∷ x.1.now)) × ((i : ℕ) → i < length x.0.now → get_or x.0.now i 0 ≢ 59))
      → MatchOption r (None ≡ meant_in (Some []) text) (λ x. (Closed x.0.now x.1.now ≡ meant_in (Some []) text) × (length x.1.now < length text))
  by_parts None k = sym (open-none [] text (index-none 59 text k))
  by_parts (Some x) k = (
    sym (ap (meant_in (Some [])) k.0 ∙ open-split [] x.0.now x.1.now (index-none 59 x.0.now k.1)),
    let l = ap length k.0 in omega (arith, Rattle.std.proofs.Common.length-append x.0.now (59 ∷ x.1.now)),
  )

-- values
joined : (p q : List ℕ) (o : Option (List ℕ)) → option_map (λ more. p ++ more) (option_map (λ more. q ++ more) o) ≡ option_map (λ more. (p ++ q) ++ more) o
joined p q None = refl
joined p q (Some x) = ap Some (sym (append_assoc p q x))

plain-byte : (c : ℕ) (t : List ℕ) → is_special c ≡ false → meant_in None (c ∷ t) ≡ option_map (λ more. c ∷ more) (meant_in None t)
unfolding meant_in
plain-byte c t h =
    let two = or_left (c == 38 || c == 9) (c == 10) h in
    let a = or_left (c == 38) (c == 9) two in
    let b = or_right (c == 38) (c == 9) two in
    let d = or_right (c == 38 || c == 9) (c == 10) h in
    rw (a, b, d) refl

meant-plain : (t : List ℕ) → option_map (λ more. before is_special t ++ more) (meant_in None (from is_special t)) ≡ meant_in None t
unfolding meant_in
meant-plain [] = refl
meant-plain (c ∷ t) = elim (either (is_special c)) as (λ x. option_map (λ more. before is_special (c ∷ t) ++ more) (meant_in None (from is_special (c ∷ t))) ≡ meant_in None (c ∷ t)) [
  | inl y ↦ rw y (bare (meant_in None (c ∷ t)))
  | inr n ↦ rw n (sym (joined (c ∷ []) (before is_special t) (meant_in None (from is_special t))) ∙ ap (option_map (λ more. c ∷ more)) (meant-plain t) ∙ sym (plain-byte c t n))
]
  where
    bare : (o : Option (List ℕ)) → option_map (λ more. more) o ≡ o
    bare None = refl
    bare (Some x) = refl

meant-blank : (c : ℕ) (t : List ℕ) → is_special c ≡ true → (c == 38) ≡ false → meant_in None (c ∷ t) ≡ option_map (λ more. 32 ∷ more) (meant_in None t)
unfolding meant_in
meant-blank c t s n = let b : (c == 9 || c == 10) ≡ true = rw n at s in rw (n, b) refl

meant-open : (t : List ℕ) → meant_in None (38 ∷ t) ≡ meant_in (Some []) t
unfolding meant_in
meant-open t = refl

-- what a value means so far, and what is left of it
abbrev pub After : List ℕ → List ℕ → Option (List ℕ)
After v rest = option_map (λ more. v ++ more) (meant_in None rest)

after-plain : (v rest : List ℕ) → After (v ++ before is_special rest) (from is_special rest) ≡ After v rest
after-plain v rest = sym (joined v (before is_special rest) (meant_in None (from is_special rest))) ∙ ap (option_map (λ more. v ++ more)) (meant-plain rest)

pub with-none : (o : Option (List ℕ)) → option_map (λ more. [] ++ more) o ≡ o
with-none None = refl
with-none (Some x) = refl

pub after-end : (v rest : List ℕ) → from is_special rest ≡ [] → Some (v ++ before is_special rest) ≡ After v rest
unfolding meant_in
after-end v rest e = ap Some (sym (append-nil (v ++ before is_special rest))) ∙ ap (After (v ++ before is_special rest)) (sym e) ∙ after-plain v rest

-- a special byte, and what is behind it
pub special-blank : (text behind : List ℕ) → begins_special text ≡ true → ((rest : List ℕ) → text ≢ 38 ∷ rest) → behind ≡ drop 1 text → option_map (λ more. 32 ∷ more) (meant_in None behind) ≡ meant_in None text
special-blank [] behind s n e = absurd (cc)
special-blank (c ∷ text) behind s n e = ap (λ x. option_map (λ more. 32 ∷ more) (meant_in None x)) e ∙ sym (meant-blank c text s (elim (same_or c 38) as (λ x. (c == 38) ≡ false) [ inl y ↦ absurd (n text (ap (λ x. x ∷ text) y)) | inr k ↦ k ]))

pub special-low : (text : List ℕ) → begins_special text ≡ true → (0 < length text) × (get_or text 0 0 < 128)
special-low [] s = absurd (cc)
special-low (c ∷ text) s = (omega arith, Rattle.page_constructs.proofs.Parting.special-low c s)

pub special-open : (text rest : List ℕ) → text ≡ 38 ∷ rest → meant_in (Some []) rest ≡ meant_in None text
special-open text rest e = sym (ap (meant_in None) e ∙ meant-open rest)

-- the rest of a value begins with a special byte, or is empty
pub begins-from : (t : List ℕ) → (length (from is_special t) == 0) ≡ false → begins_special (from is_special t) ≡ true
begins-from t h = by_front (from is_special t) (Rattle.page_constructs.proofs.SpanLaws.from-stops is_special t) h where
  by_front : (x : List ℕ) → Rattle.page_constructs.proofs.SpanLaws.Stops is_special x → (length x == 0) ≡ false → begins_special x ≡ true
  by_front [] s h = clash (0 == 0) refl h
  by_front (c ∷ x) s h = s

pub after-more : (v rest : List ℕ) (ch : ℕ) (more : List ℕ) → option_map (λ x. encode_utf8 ch ++ x) (meant_in None more) ≡ meant_in None (from is_special rest) → After ((v ++ before is_special rest) ++ encode_utf8 ch) more ≡ After v rest
after-more v rest ch more e = sym (joined (v ++ before is_special rest) (encode_utf8 ch) (meant_in None more)) ∙ ap (option_map (λ x. (v ++ before is_special rest) ++ x)) e ∙ after-plain v rest

pub after-none : (v rest : List ℕ) → None ≡ meant_in None (from is_special rest) → None ≡ After v rest
after-none v rest e = ap (option_map (λ x. (v ++ before is_special rest) ++ x)) e ∙ after-plain v rest
