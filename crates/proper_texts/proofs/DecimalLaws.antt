-- Canonical decimals, by their parts.
use Rattle.std.proofs.Common.{◌≡◌, ℕ, suc, Bool, true, false, ◌||◌, not, eqb, List, [], ◌∷◌, ◌++◌, length, refl, bytes_eq, eq-eqb}
use Prim.Native.Nat.compare
use Rattle.std.proofs.lemmas.Slice.Eq.{bytes_eq-Decides}
use Rattle.ix_base.specs.Decimals.{front_of, back_of, pointed}
use Rattle.ix_base.specs.Forms.{is_empty}

same : (xs : List ℕ) → bytes_eq xs xs ≡ true
same xs = (bytes_eq-Decides xs xs).1 refl

-- behind a point
behind : (c : ℕ) (cs : List ℕ) → eqb c 46 ≡ true → bytes_eq (c ∷ cs) (pointed cs) ≡ (not (is_empty cs) || eqb 0 (suc (length cs)))
behind c [] e = refl
behind c (d ∷ ds) e = rw (e, same (d ∷ ds)) refl

-- a text is its parts around its point, unless its point is its last character
pub spelled : (text : List ℕ)
    → bytes_eq text (front_of text ++ pointed (back_of text)) ≡ (not (is_empty (back_of text)) || eqb (length (front_of text)) (length text))
spelled [] = refl
spelled (c ∷ cs) = by_point (eqb c 46) refl (spelled cs)
  where
    by_point : (b : Bool) → eqb c 46 ≡ b
        → bytes_eq cs (front_of cs ++ pointed (back_of cs)) ≡ (not (is_empty (back_of cs)) || eqb (length (front_of cs)) (length cs))
        → bytes_eq (c ∷ cs) (front_of (c ∷ cs) ++ pointed (back_of (c ∷ cs)))
        ≡ (not (is_empty (back_of (c ∷ cs))) || eqb (length (front_of (c ∷ cs))) (length (c ∷ cs)))
    by_point true e h = rw e (behind c cs e)
    by_point false e h = rw (e, eq-eqb c c refl, compare.suc-suc) h
