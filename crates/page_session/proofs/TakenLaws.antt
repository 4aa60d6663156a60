-- Scripts that are read piece by piece.
use Rattle.std.proofs.Common.{◌≡◌, ◌∙◌, ap, sym, refl, ℕ, ◌+◌, ◌≤◌, ◌<◌, ◌⊎◌, inl, inr, if◌then◌else◌, List, [], ◌++◌, length, nat_le, Option, Some, None, IfSome, append-nil, length-append, zero-add, arith}
use Rattle.ix_base.specs.declared.limits.TheConstants.{LONGEST_SCRIPT}
use Rattle.std.proofs.lemmas.Bool.{and_from, cases_lt, le-leb, lt-ltb}
use Rattle.page_session.specs.PieceReads.{HasFed, IsWhole}
use Rattle.page_session.specs.Script.{lines_from, script_of, unless_none}
use Rattle.page_session.specs.Sessions.{OfPage}
use Rattle.page_session.specs.declared.reading.Sums.{Sums}
use Rattle.page_session.specs.declared.script.Script.{Script}
use Rattle.page_session.specs.declared.script.Script.TheVariants.{Bad}

long_script : (script : List ℕ) → LONGEST_SCRIPT < length script → script_of script ≡ Bad LONGEST_SCRIPT
long_script script l = λ i. if lt-ltb LONGEST_SCRIPT (length script) l i then Bad LONGEST_SCRIPT else unless_none (lines_from 0 script)

-- what its front says is what a script says, since nothing behind 65,536 bytes is looked at
script_front : (page left : Option (List ℕ)) (front : List ℕ) (said : Script)
    → IfSome page (λ b. (rest : List ℕ) × (b ≡ front ++ rest) × (left ≡ Some rest))
    → (length front ≤ LONGEST_SCRIPT → IfSome page (λ b. left ≡ Some [])) → said ≡ script_of front → OfPage page (λ b. said ≡ script_of b)
script_front None left front said h whole is = (front, tt, is)
script_front (Some b) left front said h whole is = (b, refl, is ∙ by (cases_lt LONGEST_SCRIPT (length front)))
  where
    by : (LONGEST_SCRIPT < length front) ⊎ (length front ≤ LONGEST_SCRIPT) → script_of front ≡ script_of b
    by (inl l) =
        let more : length b ≡ length front + length h.0 = ap length h.1 ∙ length-append front h.0 in
        long_script front l ∙ sym (long_script b (omega arith))
    by (inr l) =
        let some : Some h.0 ≡ Some [] = sym h.2 ∙ whole l in
        let none : h.0 ≡ [] = cc in
        ap script_of (sym (h.1 ∙ ap (λ r. front ++ r) none ∙ append-nil front))

-- what was read of a script says what the script says
pub script_told : (page left : Option (List ℕ)) (bytes : List ℕ) (s : Sums) (said : Script)
    → HasFed (λ b. bytes ≡ b) page left (record { bytes = 0; tags = 0 }) s → s.tags ≤ s.bytes
    → IsWhole page left s (record { bytes = LONGEST_SCRIPT; tags = 18446744073709551615 }) → said ≡ script_of bytes → OfPage page (λ b. said ≡ script_of b)
script_told page left bytes s said fed tags whole is =
    script_front page left fed.front said fed.told
    (λ few. let size : s.bytes ≡ length fed.front = fed.bytes ∙ zero-add (length fed.front) in
    let most : s.bytes ≤ LONGEST_SCRIPT = omega arith in
    whole (and_from (nat_le s.bytes LONGEST_SCRIPT) (nat_le s.tags 18446744073709551615) (le-leb s.bytes LONGEST_SCRIPT most) (le-leb s.tags 18446744073709551615 (omega arith))))
    (is ∙ ap script_of fed.taken)
