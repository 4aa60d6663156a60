-- Texts of allowed characters, put together and parted.
use Rattle.std.proofs.Common.{◌≡◌, ℕ, ◌<◌, ◌≤◌, Bool, true, false, ◌&&◌, ◌⊎◌, inl, inr, List, [], ◌∷◌, ◌++◌, length, get_or, refl, sym, ap, ◌∙◌, arith, subst, if◌then◌else◌, length-append, append-nil, nat_lt, encode_utf8}
use Rattle.std.specs.Char.{IsScalar}
use Rattle.std.proofs.Math.Dec.{ltb, leb}
use Rattle.std.proofs.lemmas.Bool.{lt-ltb, le-leb}
use Rattle.std.specs.List.{list_all}
use Rattle.std.specs.Str.{IsUtf8, is_utf8, chars, IsAscii}
use Rattle.std.proofs.lemmas.Str.{IsUtf8-append, IsUtf8-from_is_utf8, is_utf8-from_IsUtf8, chars-append, chars-IsAscii, chars-nil, IsCharBoundary-before_ascii, IsUtf8-take, IsUtf8-drop, IsUtf8-nil, IsUtf8-from_ascii, IsUtf8-encode, IsCharBoundary-after_ascii, chars-encodes}
use Rattle.std.proofs.lemmas.Str.Ascii.{IsAscii-nil, IsAscii-cons}
use Rattle.std.proofs.lemmas.Bool.Decides.{nat_tests}
use Rattle.std.proofs.lemmas.Bool.{and_parts}
use Rattle.ix_base.specs.NcName.{is_allowed, are_allowed, is_name_of, is_ncname}
use Rattle.page_constructs.proofs.SpanLaws.{and_both, take-front, drop-front}

pub all-append : (f : ℕ → Bool) (a b : List ℕ) → list_all f a ≡ true → list_all f b ≡ true → list_all f (a ++ b) ≡ true
all-append f [] b p q = q
all-append f (c ∷ a) b p q = let z = and_parts (f c) (list_all f a) p in and_both (f c) (list_all f (a ++ b)) z.0 (all-append f a b z.1 q)

all-parts : (f : ℕ → Bool) (a b : List ℕ) → list_all f (a ++ b) ≡ true → (list_all f a ≡ true) × (list_all f b ≡ true)
all-parts f [] b p = (refl, p)
all-parts f (c ∷ a) b p =
    let z = and_parts (f c) (list_all f (a ++ b)) p in let y = all-parts f a b z.1 in (and_both (f c) (list_all f a) z.0 y.0, y.1)

-- a text's bytes, and its characters
pub allowed-from : (t : List ℕ) → IsUtf8 t → list_all is_allowed (chars t) ≡ true → are_allowed t ≡ true
unfolding are_allowed
allowed-from t u a = and_both (is_utf8 t) (list_all is_allowed (chars t)) (is_utf8-from_IsUtf8 t u) a

pub allowed-to : (t : List ℕ) → are_allowed t ≡ true → IsUtf8 t × (list_all is_allowed (chars t) ≡ true)
unfolding are_allowed
allowed-to t h = let z = and_parts (is_utf8 t) (list_all is_allowed (chars t)) h in (IsUtf8-from_is_utf8 t z.0, z.1)

pub allowed-nil : are_allowed [] ≡ true
allowed-nil = allowed-from [] IsUtf8-nil (ap (list_all is_allowed) chars-nil)

pub allowed-append : (a b : List ℕ) → are_allowed a ≡ true → are_allowed b ≡ true → are_allowed (a ++ b) ≡ true
allowed-append a b p q =
    let x = allowed-to a p in
    let y = allowed-to b q in
    allowed-from (a ++ b) (IsUtf8-append a b x.0 y.0) (ap (list_all is_allowed) (chars-append a b x.0) ∙ all-append is_allowed (chars a) (chars b) x.1 y.1)

pub at-seam : (a : List ℕ) (c : ℕ) (b : List ℕ) → get_or (a ++ c ∷ b) (length a) 0 ≡ c
at-seam [] c b = refl
at-seam (x ∷ a) c b = at-seam a c b

-- before an ASCII byte
pub allowed-before : (a : List ℕ) (c : ℕ) (b : List ℕ) → c < 128 → are_allowed (a ++ c ∷ b) ≡ true → (are_allowed a ≡ true) × (are_allowed (c ∷ b) ≡ true)
allowed-before a c b l p =
    let x = allowed-to (a ++ c ∷ b) p in
    let cut = IsCharBoundary-before_ascii (a ++ c ∷ b) (length a) (omega (arith, length-append a (c ∷ b))) (subst (λ n. n < 128) (sym (at-seam a c b)) l) in
    let ua = subst IsUtf8 (take-front a (c ∷ b)) (IsUtf8-take (a ++ c ∷ b) (length a) x.0 cut) in
    let ub = subst IsUtf8 (drop-front a (c ∷ b)) (IsUtf8-drop (a ++ c ∷ b) (length a) x.0 cut) in
    let y = all-parts is_allowed (chars a) (chars (c ∷ b)) (ap (list_all is_allowed) (sym (chars-append a (c ∷ b) ua)) ∙ x.1) in
    (allowed-from a ua y.0, allowed-from (c ∷ b) ub y.1)

-- behind an ASCII byte
pub allowed-tail : (c : ℕ) (t : List ℕ) → c < 128 → are_allowed (c ∷ t) ≡ true → are_allowed t ≡ true
allowed-tail c t l p =
    let x = allowed-to (c ∷ t) p in
    let first : IsAscii (c ∷ []) = IsAscii-cons c [] l IsAscii-nil in
    let ut : IsUtf8 t = IsUtf8-drop (c ∷ t) 1 x.0 (IsCharBoundary-after_ascii (c ∷ t) 0 x.0 (omega arith) l) in
    let y = all-parts is_allowed (chars (c ∷ [])) (chars t) (ap (list_all is_allowed) (sym (chars-append (c ∷ []) t (IsUtf8-from_ascii (c ∷ []) first))) ∙ x.1) in
    allowed-from t ut y.1

-- between two ASCII bytes
pub allowed-behind : (a : List ℕ) (c : ℕ) (b : List ℕ) → c < 128 → are_allowed (a ++ c ∷ b) ≡ true → are_allowed b ≡ true
allowed-behind a c b l p = allowed-tail c b l (allowed-before a c b l p).1

-- through an ASCII byte
pub allowed-through : (a : List ℕ) (c : ℕ) (b : List ℕ) → c < 128 → are_allowed (a ++ c ∷ b) ≡ true → are_allowed (a ++ c ∷ []) ≡ true
allowed-through a c b l p =
    let z = allowed-before a c b l p in
    allowed-append a (c ∷ []) z.0 (allowed-one c b l z.1) where
      allowed-one : (c : ℕ) (b : List ℕ) → c < 128 → are_allowed (c ∷ b) ≡ true → are_allowed (c ∷ []) ≡ true
      allowed-one c b l p =
          let x = allowed-to (c ∷ b) p in
          let first : IsAscii (c ∷ []) = IsAscii-cons c [] l IsAscii-nil in
          let y = all-parts is_allowed (chars (c ∷ [])) (chars b) (ap (list_all is_allowed) (sym (chars-append (c ∷ []) b (IsUtf8-from_ascii (c ∷ []) first))) ∙ x.1) in
          allowed-from (c ∷ []) (IsUtf8-from_ascii (c ∷ []) first) y.0

-- a character
pub allowed-scalar : (c : ℕ) → is_allowed c ≡ true → IsScalar c
unfolding is_allowed
allowed-scalar c h = elim (parted c h) as (λ x. IsScalar c) [
  | inl l ↦ rw (lt-ltb c 55296 l) refl
  | inr l ↦ by_low (ltb c 55296) (lt-ltb c 1114112 l.1) (le-leb 57344 c l.0)
] where
  parted : (c : ℕ) → is_allowed c ≡ true → (c < 55296) ⊎ ((57344 ≤ c) × (c < 1114112))
  parted c h = grind (arith, nat_tests)

  by_low : (b : Bool) → ltb c 1114112 ≡ true → leb 57344 c ≡ true → (if b then true else (leb 57344 c && ltb c 1114112)) ≡ true
  by_low true x y = refl
  by_low false x y = and_both (leb 57344 c) (ltb c 1114112) y x

pub allowed-char : (c : ℕ) → is_allowed c ≡ true → are_allowed (encode_utf8 c) ≡ true
allowed-char c h =
    let k = allowed-scalar c h in
    let e : chars (encode_utf8 c) ≡ c ∷ [] = ap chars (sym (append-nil (encode_utf8 c))) ∙ chars-encodes (c ∷ []) (ap (λ b. b && true) k) in
    allowed-from (encode_utf8 c) (IsUtf8-encode c k) (ap (list_all is_allowed) e ∙ ap (λ b. b && true) h)

-- texts in ASCII, whose characters are their bytes
abbrev pub is_low : ℕ → Bool
is_low c = nat_lt c 128

low-ascii : (t : List ℕ) → list_all is_low t ≡ true → IsAscii t
low-ascii [] h = IsAscii-nil
low-ascii (c ∷ t) h =
    let z = and_parts (is_low c) (list_all is_low t) h in
    let y = z.0 in
    IsAscii-cons c t (grind (arith, nat_tests)) (low-ascii t z.1)

pub low-allowed : (t : List ℕ) → list_all is_low t ≡ true → list_all is_allowed t ≡ true → are_allowed t ≡ true
low-allowed t l h = let a = low-ascii t l in allowed-from t (IsUtf8-from_ascii t a) (ap (list_all is_allowed) (chars-IsAscii t a) ∙ h)

pub low-ncname : (t : List ℕ) → list_all is_low t ≡ true → is_name_of t ≡ true → is_ncname t ≡ true
unfolding is_ncname
low-ncname t l h =
    let a = low-ascii t l in
    and_both (is_utf8 t) (is_name_of (chars t)) (is_utf8-from_IsUtf8 t (IsUtf8-from_ascii t a)) (ap is_name_of (chars-IsAscii t a) ∙ h)
