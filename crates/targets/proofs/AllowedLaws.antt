-- Texts of allowed characters: put together, parted, and without the white space at their ends. And tokens.
use Rattle.std.proofs.Common.{◌≡◌, ◌∙◌, ap, sym, subst, refl, ℕ, ◌<◌, ◌≤◌, Bool, true, false, cond, List, [], ◌∷◌, ◌++◌, append-nil, append_assoc, get_or, length, length-append, reverse, take, arith}
use Rattle.std.specs.List.{list_all}
use Rattle.std.specs.Str.{IsAscii, IsUtf8, chars, is_utf8}
use Rattle.std.proofs.lemmas.Bool.{and_from, and_parts}
use Rattle.std.proofs.lemmas.Bool.Decides.{nat_tests}
use Rattle.std.proofs.lemmas.List.{reverse-append, reverse-reverse}
use Rattle.std.proofs.lemmas.Grind.{common_steps}
use Rattle.std.proofs.lemmas.List.Folds.{list_all-append}
use Rattle.std.proofs.lemmas.Slice.Eq.{bytes_eq-Decides}
use Rattle.std.proofs.lemmas.Str.{IsCharBoundary-after_ascii, IsCharBoundary-before_ascii, IsUtf8-append, IsUtf8-drop, IsUtf8-from_ascii, IsUtf8-from_is_utf8, IsUtf8-nil, IsUtf8-take, chars-append, chars-nil, is_utf8-from_IsUtf8}
use Rattle.std.proofs.lemmas.Str.Ascii.{IsAscii-cons, IsAscii-nil}
use Rattle.ix_base.specs.NcName.{are_allowed, is_allowed, is_name_char, is_name_of, is_name_start, is_ncname, is_white}
use Rattle.ix_base.specs.Token.{is_token, token_of, without_front}

all-parts : (p : ℕ → Bool) (a b : List ℕ) → list_all p (a ++ b) ≡ true → (list_all p a ≡ true) × (list_all p b ≡ true)
all-parts p a b h = and_parts (list_all p a) (list_all p b) (sym (list_all-append p a b) ∙ h)

white-low : (c : ℕ) → is_white c ≡ true → c < 128
white-low c e = grind (arith, common_steps)

front-taken : (a b : List ℕ) → take (length a) (a ++ b) ≡ a
front-taken [] b = refl
front-taken (c ∷ a) b = ap (λ x. c ∷ x) (front-taken a b)

-- a text's bytes, and its characters
pub allowed-from : (t : List ℕ) → IsUtf8 t → list_all is_allowed (chars t) ≡ true → are_allowed t ≡ true
unfolding are_allowed
allowed-from t u a = and_from (is_utf8 t) (list_all is_allowed (chars t)) (is_utf8-from_IsUtf8 t u) a

pub allowed-to : (t : List ℕ) → are_allowed t ≡ true → IsUtf8 t × (list_all is_allowed (chars t) ≡ true)
unfolding are_allowed
allowed-to t h = let z = and_parts (is_utf8 t) (list_all is_allowed (chars t)) h in (IsUtf8-from_is_utf8 t z.0, z.1)

pub allowed-nil : are_allowed [] ≡ true
allowed-nil = allowed-from [] IsUtf8-nil (ap (list_all is_allowed) chars-nil)

pub allowed-append : (a b : List ℕ) → are_allowed a ≡ true → are_allowed b ≡ true → are_allowed (a ++ b) ≡ true
allowed-append a b p q =
    let x = allowed-to a p in
    let y = allowed-to b q in
    allowed-from (a ++ b) (IsUtf8-append a b x.0 y.0)
    (ap (list_all is_allowed) (chars-append a b x.0) ∙ list_all-append is_allowed (chars a) (chars b) ∙ and_from _ _ x.1 y.1)

at-seam : (a : List ℕ) (c : ℕ) (b : List ℕ) → get_or (a ++ c ∷ b) (length a) 0 ≡ c
at-seam [] c b = refl
at-seam (x ∷ a) c b = at-seam a c b

-- before an ASCII byte
allowed-before : (a : List ℕ) (c : ℕ) (b : List ℕ) → c < 128 → are_allowed (a ++ c ∷ b) ≡ true → are_allowed a ≡ true
allowed-before a c b l p =
    let x = allowed-to (a ++ c ∷ b) p in
    let cut = IsCharBoundary-before_ascii (a ++ c ∷ b) (length a) (omega (arith, length-append a (c ∷ b))) (subst (λ n. n < 128) (sym (at-seam a c b)) l) in
    let ua = subst IsUtf8 (front-taken a (c ∷ b)) (IsUtf8-take (a ++ c ∷ b) (length a) x.0 cut) in
    let y = all-parts is_allowed (chars a) (chars (c ∷ b)) (ap (list_all is_allowed) (sym (chars-append a (c ∷ b) ua)) ∙ x.1) in
    allowed-from a ua y.0

-- behind an ASCII byte
allowed-tail : (c : ℕ) (t : List ℕ) → c < 128 → are_allowed (c ∷ t) ≡ true → are_allowed t ≡ true
allowed-tail c t l p =
    let x = allowed-to (c ∷ t) p in
    let first : IsAscii (c ∷ []) = IsAscii-cons c [] l IsAscii-nil in
    let ut : IsUtf8 t = IsUtf8-drop (c ∷ t) 1 x.0 (IsCharBoundary-after_ascii (c ∷ t) 0 x.0 (omega arith) l) in
    let y = all-parts is_allowed (chars (c ∷ [])) (chars t) (ap (list_all is_allowed) (sym (chars-append (c ∷ []) t (IsUtf8-from_ascii (c ∷ []) first))) ∙ x.1) in
    allowed-from t ut y.1

-- Names.

name-allowed : (c : ℕ) → is_name_char c ≡ true → is_allowed c ≡ true
unfolding is_name_char is_name_start is_allowed
name-allowed c h = grind (arith, nat_tests)

start-allowed : (c : ℕ) → is_name_start c ≡ true → is_allowed c ≡ true
unfolding is_name_start is_allowed
start-allowed c h = grind (arith, nat_tests)

names-allowed : (cs : List ℕ) → list_all is_name_char cs ≡ true → list_all is_allowed cs ≡ true
names-allowed [] h = refl
names-allowed (c ∷ cs) h =
    let p = and_parts (is_name_char c) (list_all is_name_char cs) h in
    and_from _ _ (name-allowed c p.0) (names-allowed cs p.1)

name-chars : (cs : List ℕ) → is_name_of cs ≡ true → list_all is_allowed cs ≡ true
name-chars [] h = absurd (cc)
name-chars (c ∷ cs) h =
    let p = and_parts (is_name_start c) (list_all is_name_char cs) h in
    and_from _ _ (start-allowed c p.0) (names-allowed cs p.1)

-- the characters of a name are allowed ones
pub ncname-allowed : (t : List ℕ) → is_ncname t ≡ true → are_allowed t ≡ true
unfolding is_ncname
ncname-allowed t h =
    let p = and_parts (is_utf8 t) (is_name_of (chars t)) h in
    allowed-from t (IsUtf8-from_is_utf8 t p.0) (name-chars (chars t) p.1)

-- Tokens.

front-allowed : (t : List ℕ) → are_allowed t ≡ true → are_allowed (without_front t) ≡ true
front-allowed [] h = h
front-allowed (c ∷ t) h = by (is_white c) refl (front-allowed t) where
  by : (b : Bool) → is_white c ≡ b → (are_allowed t ≡ true → are_allowed (without_front t) ≡ true) → are_allowed (cond b (without_front t) (c ∷ t)) ≡ true
  by true w k = k (allowed-tail c t (white-low c w) h)
  by false w k = h

last-first : (c : ℕ) (t : List ℕ) → reverse (c ∷ t) ≡ reverse t ++ c ∷ []
last-first c t = reverse-append (c ∷ []) t

back-allowed : (r : List ℕ) → are_allowed (reverse r) ≡ true → are_allowed (reverse (without_front r)) ≡ true
back-allowed [] h = h
back-allowed (c ∷ r) h = by (is_white c) refl (back-allowed r) where
  by : (b : Bool) → is_white c ≡ b → (are_allowed (reverse r) ≡ true → are_allowed (reverse (without_front r)) ≡ true)
      → are_allowed (reverse (cond b (without_front r) (c ∷ r))) ≡ true
  by true w k = k (allowed-before (reverse r) c [] (white-low c w) (subst (λ x. are_allowed x ≡ true) (last-first c r) h))
  by false w k = h

-- a token has the characters of its text
pub token-allowed : (t : List ℕ) → are_allowed t ≡ true → are_allowed (token_of t) ≡ true
unfolding token_of
token-allowed t h =
    back-allowed (reverse (without_front t)) (subst (λ x. are_allowed x ≡ true) (sym (reverse-reverse (without_front t))) (front-allowed t h))

front-twice : (t : List ℕ) → without_front (without_front t) ≡ without_front t
front-twice [] = refl
front-twice (c ∷ t) = by (is_white c) refl (front-twice t) where
  by : (b : Bool) → is_white c ≡ b → without_front (without_front t) ≡ without_front t → without_front (cond b (without_front t) (c ∷ t)) ≡ cond b (without_front t) (c ∷ t)
  by true w k = k
  by false w k = ap (λ (x : Bool). cond x (without_front t) (c ∷ t)) w

front-short : (t : List ℕ) → length (without_front t) ≤ length t
front-short [] = omega arith
front-short (c ∷ t) = by (is_white c) (front-short t) where
  by : (b : Bool) → length (without_front t) ≤ length t → length (cond b (without_front t) (c ∷ t)) ≤ length (c ∷ t)
  by true k = omega arith
  by false k = omega arith

-- what begins a text without white space at its front has none at its front
front-part : (a b : List ℕ) → without_front (a ++ b) ≡ a ++ b → without_front a ≡ a
front-part [] b h = refl
front-part (c ∷ a) b h = by (is_white c) refl where
  by : (x : Bool) → is_white c ≡ x → without_front (c ∷ a) ≡ c ∷ a
  by true w =
      let gone : without_front (a ++ b) ≡ c ∷ (a ++ b) = sym (ap (λ (x : Bool). cond x (without_front (a ++ b)) (c ∷ (a ++ b))) w) ∙ h in
      let same = ap length gone in
      let short = front-short (a ++ b) in
      absurd (omega arith)
  by false w = ap (λ (x : Bool). cond x (without_front a) (c ∷ a)) w

-- what was in front of what is left
back-split : (r : List ℕ) → (ws : List ℕ) × (reverse r ≡ reverse (without_front r) ++ ws)
back-split [] = ([], refl)
back-split (c ∷ r) = by (is_white c) (back-split r) where
  by : (b : Bool) → (ws : List ℕ) × (reverse r ≡ reverse (without_front r) ++ ws)
      → (ws : List ℕ) × (reverse (c ∷ r) ≡ reverse (cond b (without_front r) (c ∷ r)) ++ ws)
  by true k = (
    k.0 ++ c ∷ [],
    last-first c r ∙ ap (λ x. x ++ c ∷ []) k.1 ∙ append_assoc (reverse (without_front r)) k.0 (c ∷ []),
  )
  by false k = ([], sym (append-nil (reverse (c ∷ r))))

token-twice : (t : List ℕ) → token_of (token_of t) ≡ token_of t
unfolding token_of
token-twice t =
    let f = without_front t in
    let g = without_front (reverse f) in
    let split = back-split (reverse f) in
    let whole : f ≡ reverse g ++ split.0 = sym (reverse-reverse f) ∙ split.1 in
    let front : without_front (reverse g) ≡ reverse g =
    front-part (reverse g) split.0 (ap without_front (sym whole) ∙ front-twice t ∙ whole) in
    ap (λ x. reverse (without_front (reverse x))) front
    ∙ ap (λ x. reverse (without_front x)) (reverse-reverse g)
    ∙ ap reverse (front-twice (reverse f))

-- a token is one
pub token-is : (t : List ℕ) → is_token (token_of t) ≡ true
unfolding is_token
token-is t = (bytes_eq-Decides (token_of (token_of t)) (token_of t)).1 (token-twice t)
