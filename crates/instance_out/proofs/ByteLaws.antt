-- Texts, one behind another, are some bytes where each is taken off their front and nothing is left.
use Rattle.std.proofs.Common.{◌≡◌, ◌∙◌, ap, sym, refl, ℕ, ◌+◌, ◌<◌, Bool, true, false, List, [], ◌∷◌, ◌++◌, length, drop, get_or, bytes_eq}
use Rattle.std.specs.List.{concat}
use Rattle.std.proofs.lemmas.Slice.Eq.{bytes_eq-Decides}
use Rattle.instance_lines.proofs.Steps.{front}

same_both : (x y : Bool) → (x ≡ true → y ≡ true) → (y ≡ true → x ≡ true) → x ≡ y
same_both true y f g = sym (f refl)
same_both false true f g = g refl
same_both false false f g = refl

cut : (c : ℕ) (xs ys : List ℕ) → c ∷ xs ≡ c ∷ ys → xs ≡ ys
cut c xs ys e = cc

behind : (line xs ys : List ℕ) → line ++ xs ≡ line ++ ys → xs ≡ ys
behind [] xs ys e = e
behind (c ∷ line) xs ys e = behind line xs ys (cut c (line ++ xs) (line ++ ys) e)

same-behind : (line xs ys : List ℕ) → bytes_eq (line ++ xs) (line ++ ys) ≡ bytes_eq xs ys
same-behind line xs ys =
    same_both (bytes_eq (line ++ xs) (line ++ ys)) (bytes_eq xs ys)
    (λ e. (bytes_eq-Decides xs ys).1 (behind line xs ys ((bytes_eq-Decides (line ++ xs) (line ++ ys)).0 e)))
    (λ e. (bytes_eq-Decides (line ++ xs) (line ++ ys)).1 (ap (λ z. line ++ z) ((bytes_eq-Decides xs ys).0 e)))

other : (line xs left : List ℕ) (b : Bool) → ((rest : List ℕ) → left ≡ line ++ rest → ⊥) → bytes_eq (line ++ xs) left ≡ b → b ≡ false
other line xs left true h e = absurd (h xs (sym ((bytes_eq-Decides (line ++ xs) left).0 e)))
other line xs left false h e = refl

-- a text that stands in front is taken off
pub taken-off : (lines : List (List ℕ)) (i : ℕ) (line left rest : List ℕ) → i < length lines → line ≡ get_or lines i line → left ≡ line ++ rest
    → bytes_eq (concat (drop (i + 1) lines)) rest ≡ bytes_eq (concat (drop i lines)) left
taken-off lines i line left rest h e s =
    sym (same-behind line (concat (drop (i + 1) lines)) rest)
    ∙ ap (λ z. bytes_eq (line ++ concat (drop (i + 1) lines)) z) (sym s)
    ∙ ap (λ ls. bytes_eq (concat ls) left) (sym (front lines i line h e))

-- where it doesn't, the texts are other bytes
pub not-taken : (lines : List (List ℕ)) (i : ℕ) (line left : List ℕ) → i < length lines → line ≡ get_or lines i line → ((rest : List ℕ) → left ≡ line ++ rest → ⊥)
    → bytes_eq (concat (drop i lines)) left ≡ false
not-taken lines i line left h e n =
    ap (λ ls. bytes_eq (concat ls) left) (front lines i line h e) ∙ other line (concat (drop (i + 1) lines)) left _ n refl
