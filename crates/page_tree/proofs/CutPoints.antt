-- Where the code cuts a page's text.
use Rattle.std.proofs.Common.{◌≡◌, ℕ, suc, ◌+◌, ◌<◌, ◌≤◌, inl, inr, Bool, List, [], ◌∷◌, ◌++◌, length, take, drop, get_or, Some, sym, ap, ◌∙◌, subst, arith, append_assoc, length-append, length-drop, take-append-drop}
use Rattle.std.proofs.lemmas.List.{length-take-le}
use Rattle.std.specs.Str.{IsUtf8, IsCharBoundary}
use Rattle.std.proofs.lemmas.Str.{IsCharBoundary-end, IsCharBoundary-before_ascii, IsCharBoundary-after_ascii}
use Rattle.page_constructs.specs.Constructs.{whole_size}
use Rattle.page_constructs.proofs.AllowedText.{at-seam}
use Rattle.page_tree.proofs.PieceLaws.{whole-takes}
use Rattle.page_tree.proofs.SoundCuts.{PartsWell, whole-parts}

-- a construct ends where a character does
pub whole-boundary : (ended first : Bool) (t : List ℕ) (k : ℕ) → IsUtf8 t → whole_size ended first t ≡ Some k → IsCharBoundary t k
whole-boundary ended first t k u e = by_parts (whole-parts ended first t k e) where
  short : k ≤ length t
  short = (whole-takes ended first t k e).1

  by_parts : PartsWell k t → IsCharBoundary t k
  by_parts (inl p) =
      let s = short in
      let size : length p.front + 1 ≡ k = sym (length-append p.front (p.last ∷ [])) ∙ ap length (sym p.is) ∙ length-take-le k t short in
      let whole : p.front ++ p.last ∷ drop k t ≡ t = sym (append_assoc p.front (p.last ∷ []) (drop k t)) ∙ ap (λ x. x ++ drop k t) (sym p.is) ∙ take-append-drop k t in
      let low : get_or t (length p.front) 0 < 128 = subst (λ x. get_or x (length p.front) 0 < 128) whole (subst (λ n. n < 128) (sym (at-seam p.front p.last (drop k t))) p.low) in
      subst (IsCharBoundary t) size (IsCharBoundary-after_ascii t (length p.front) u (omega arith) low)
  by_parts (inr (inl n)) =
      let s = short in
      let whole : take k t ++ n.next ∷ n.more ≡ t = ap (λ x. take k t ++ x) (sym n.is) ∙ take-append-drop k t in
      let size = length-take-le k t short in
      let low : get_or t (length (take k t)) 0 < 128 = subst (λ x. get_or x (length (take k t)) 0 < 128) whole (subst (λ m. m < 128) (sym (at-seam (take k t) n.next n.more)) n.low) in
      let more : length (drop k t) ≡ suc (length n.more) = ap length n.is in
      IsCharBoundary-before_ascii t k (omega (arith, length-drop k t)) (subst (λ m. get_or t m 0 < 128) size low)
  by_parts (inr (inr d)) =
      let s = short in
      let more : length (drop k t) ≡ 0 = ap length d in
      let same : length t ≡ k = omega (arith, length-drop k t) in
      subst (IsCharBoundary t) same (IsCharBoundary-end t)
