-- Texts that are added one by one.
use Rattle.std.proofs.Common.{◌≡◌, ◌∙◌, ap, ℕ, List, ◌++◌, append_assoc}

pub three_added : (old a b new p q r : List ℕ) → a ≡ old ++ p → b ≡ a ++ q → new ≡ b ++ r → new ≡ old ++ (p ++ (q ++ r))
three_added old a b new p q r e f g =
    g ∙ ap (λ t. t ++ r) (f ∙ ap (λ t. t ++ q) e) ∙ append_assoc (old ++ p) q r ∙ append_assoc old p (q ++ r)
