-- Plain characters are read as they are.
use Rattle.std.proofs.Common.{◌≡◌, ℕ, ◌+◌, ◌-◌, ◌<◌, ◌≤◌, ◌⊎◌, inl, inr, if◌then◌else◌, ◌==◌, ◌&&◌, ◌||◌, not, Bool, true, false, List, [], ◌∷◌, ◌++◌, length, drop, Option, Some, None, is_some, refl, sym, ap, ◌∙◌, arith, length-append, encode_utf8}
use Rattle.std.proofs.lemmas.Bool.{and_parts, lt-ltb, le-leb}
use Rattle.std.proofs.lemmas.Bool.Decides.{nat_tests}
use Rattle.std.proofs.lemmas.Str.{length-encode, len_utf8_bounds, encodes-chars, IsUtf8-from_is_utf8}
use Rattle.std.proofs.Math.Seq.{drop-append_seam}
use Rattle.std.proofs.Math.Dec.{ltb, leb}
use Rattle.std.specs.Char.{IsScalar, len_utf8}
use Rattle.std.specs.List.{list_all}
use Rattle.std.specs.Str as str
use Rattle.std.specs.Str.{encode_utf8_all}
use Rattle.bstr.specs.Utf8.{decoded, good}
use Rattle.bstr.proofs.lemmas.EncodeLemmas.{decoded-encode}
use Rattle.page_text.specs.Characters.{scan_on, scan, unified}
use Rattle.ix_base.specs.NcName.{is_allowed}
use Rattle.page_text.specs.Fronts.{front_on}
use Rattle.page_text.specs.Plain.{is_plain, are_plain, marks_from}
use Rattle.page_text.specs.Model.{Reading, ends_in_cr, after_on, after, due}
use Rattle.page_text.specs.declared.TextFault.{TextFault}
use Rattle.page_text.proofs.Scans.{scan-nil, scan-step}

-- ---- allowed characters

allowed-scalar : (c : ℕ) → is_allowed c ≡ true → IsScalar c
unfolding is_allowed
allowed-scalar c h = elim (parted c h) as (λ x. IsScalar c) [
  | inl l ↦ rw (lt-ltb c 0xD800 l) refl
  | inr l ↦ by_low (ltb c 0xD800) (lt-ltb c 0x110000 l.1) (le-leb 0xE000 c l.0)
] where
  parted : (c : ℕ) → is_allowed c ≡ true → (c < 0xD800) ⊎ ((0xE000 ≤ c) × (c < 0x110000))
  parted c h = grind (arith, nat_tests)

  by_low : (b : Bool) → ltb c 0x110000 ≡ true → leb 0xE000 c ≡ true → (if b then true else (leb 0xE000 c && ltb c 0x110000)) ≡ true
  by_low true x y = refl
  by_low false x y = rw (x, y) refl

-- the scan of a text of allowed characters
pub scan-allowed : (w : Bool) (cs : List ℕ) (at : ℕ) → list_all is_allowed cs ≡ true → scan w at (encode_utf8_all cs) ≡ record { marks = marks_from at cs; stop = None; part = [] }
scan-allowed w [] at h = scan-nil w at
scan-allowed w (c ∷ cs) at h =
    let z = and_parts (is_allowed c) (list_all is_allowed cs) h in
    let bs = encode_utf8 c ++ encode_utf8_all cs in
    let d : decoded bs ≡ good c (length (encode_utf8 c)) = decoded-encode c (encode_utf8_all cs) (allowed-scalar c z.0) in
    let long : 0 < length bs = omega (arith, length-append (encode_utf8 c) (encode_utf8_all cs), length-encode c, len_utf8_bounds c) in
    scan-step w at bs long
    ∙ ap (λ p. scan_on w at bs (front_on p.char bs) (scan w (at + p.size) (drop p.size bs))) d
    ∙ ap (λ rest. scan_on w at bs (front_on (Some c) bs) rest)
    (ap (scan w (at + length (encode_utf8 c))) (drop-append_seam (encode_utf8 c) (encode_utf8_all cs))
    ∙ ap (λ n. scan w (at + n) (encode_utf8_all cs)) (length-encode c) ∙ scan-allowed w cs (at + len_utf8 c) z.1)
    ∙ rw z.0 refl

-- ---- plain characters

-- what is known of a plain character
record Plain (c : ℕ) : Type 0 where
  allowed : is_allowed c ≡ true
  dark : (c == 0xD) ≡ false
  bare : (c == 0xFEFF) ≡ false

plain-is : (c : ℕ) → is_plain c ≡ true → Plain c
plain-is c h =
    let z = and_parts (is_allowed c) (not (c == 0xD || c == 0xFEFF)) h in
    record { allowed = z.0; dark = grind (arith, nat_tests); bare = grind (arith, nat_tests) }

all-allowed : (cs : List ℕ) → list_all is_plain cs ≡ true → list_all is_allowed cs ≡ true
all-allowed [] h = refl
all-allowed (c ∷ cs) h =
    let t = and_parts (is_plain c) (list_all is_plain cs) h in rw ((plain-is c t.0).allowed, all-allowed cs t.1) refl

unified-plain : (cs : List ℕ) (at : ℕ) → list_all is_plain cs ≡ true → unified false (marks_from at cs) ≡ marks_from at cs
unfolding unified
unified-plain [] at h = refl
unified-plain (c ∷ cs) at h =
    let t = and_parts (is_plain c) (list_all is_plain cs) h in
    let p = plain-is c t.0 in
    rw (p.dark, p.bare, unified-plain cs (at + len_utf8 c) t.1) refl

ends-plain : (cs : List ℕ) (at : ℕ) → list_all is_plain cs ≡ true → ends_in_cr false (marks_from at cs) ≡ false
unfolding ends_in_cr
ends-plain [] at h = refl
ends-plain (c ∷ cs) at h =
    let t = and_parts (is_plain c) (list_all is_plain cs) h in
    ap (λ b. ends_in_cr b (marks_from (at + len_utf8 c) cs)) (plain-is c t.0).dark ∙ ends-plain cs (at + len_utf8 c) t.1

abbrev reading : ℕ → Reading
reading n = record { pushed = n; part = []; after_cr = false; fault = None }

-- the parts of a plain text
are-all : (text : List ℕ) → are_plain text ≡ true → list_all is_plain (str.chars text) ≡ true
are-all text h = (and_parts (str.is_utf8 text) (list_all is_plain (str.chars text)) h).1

pub plain-encodes : (text : List ℕ) → are_plain text ≡ true → encode_utf8_all (str.chars text) ≡ text
plain-encodes text h = encodes-chars text (IsUtf8-from_is_utf8 text (and_parts (str.is_utf8 text) (list_all is_plain (str.chars text)) h).0)

module _ (n : ℕ) (text : List ℕ) (h : are_plain text ≡ true) where
  plain : list_all is_plain (str.chars text) ≡ true
  plain = are-all text h

  read : scan false (n - 0) text ≡ record { marks = marks_from n (str.chars text); stop = None; part = [] }
  read =
      let start : n - 0 ≡ n = omega arith in
      ap (λ k. scan false k text) start ∙ ap (scan false n) (sym (plain-encodes text h)) ∙ scan-allowed false (str.chars text) n (all-allowed (str.chars text) plain)

  run-after : after (reading n) text ≡ reading (n + length text)
  unfolding after
  run-after =
      ap (after_on None (reading n) (length text)) read
      ∙ ap (λ b. record { pushed = n + length text; part = []; after_cr = b; fault = None }) (ends-plain (str.chars text) n plain)

  run-due : due (reading n) text ≡ marks_from n (str.chars text)
  unfolding due
  run-due = ap (λ s. unified false s.marks) read ∙ unified-plain (str.chars text) n plain

-- the same of a reading of which this is known
module _ (r : Reading) (text : List ℕ) (f : r.fault ≡ None) (p : r.part ≡ []) (a : r.after_cr ≡ false) (h : are_plain text ≡ true) where
  is-reading : r ≡ reading r.pushed
  is-reading = λ i. record { pushed = r.pushed; part = p i; after_cr = a i; fault = f i }

  pub plain-after : record { pushed = r.pushed + length text; part = r.part; after_cr = r.after_cr; fault = r.fault } ≡ after r text
  plain-after =
      (λ i. record { pushed = r.pushed + length text; part = p i; after_cr = a i; fault = f i }) ∙ sym (run-after r.pushed text h)
      ∙ ap (λ x. after x text) (sym is-reading)

  pub plain-due : due r text ≡ marks_from r.pushed (str.chars text)
  plain-due = ap (λ x. due x text) is-reading ∙ run-due r.pushed text h

pub no-fault : (o : Option TextFault) → is_some o ≡ false → o ≡ None
no-fault None e = refl
no-fault (Some f) e = absurd (cc)
