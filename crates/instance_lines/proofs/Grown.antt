-- Targets that grow piece by piece.
use Rattle.std.proofs.Common.{◌≡◌, ◌∙◌, ap, sym, ℕ, zero, suc, ◌+◌, ◌<◌, List, [], ◌∷◌, ◌++◌, length, take, drop, get_or, Option, Some, None, option_map, refl, append_assoc, append-nil, add-one, arith}
use Rattle.std.proofs.Math.Seq.{take-append-add}
use Rattle.std.specs.List.{concat}
use Rattle.ix_base.specs.Outside.{Begun, last_grown, GainsFront}

last_grown_none : (ts : List Begun) → last_grown [] ts ≡ ts
last_grown_none [] = refl
last_grown_none (t ∷ []) = ap (λ b. record t { bytes = b } ∷ []) (append-nil t.bytes)
last_grown_none (t ∷ u ∷ ts) = ap (λ x. t ∷ x) (last_grown_none (u ∷ ts))

last_grown_twice : (a b : List ℕ) (ts : List Begun) → last_grown b (last_grown a ts) ≡ last_grown (a ++ b) ts
last_grown_twice a b [] = refl
last_grown_twice a b (t ∷ []) = rw append_assoc refl
last_grown_twice a b (t ∷ u ∷ []) = rw append_assoc refl
last_grown_twice a b (t ∷ u ∷ v ∷ ts) = ap (λ x. t ∷ x) (last_grown_twice a b (u ∷ v ∷ ts))

-- no piece
pub grown_none : (o : Option (List Begun)) → option_map (last_grown []) o ≡ o
grown_none None = refl
grown_none (Some ts) = ap Some (last_grown_none ts)

-- two pieces
pub grown_twice : (a b : List ℕ) (o : Option (List Begun)) → option_map (last_grown b) (option_map (last_grown a) o) ≡ option_map (last_grown (a ++ b)) o
grown_twice a b None = refl
grown_twice a b (Some ts) = ap Some (last_grown_twice a b ts)

-- one more line
pub concat_next : (xs : List (List ℕ)) (i : ℕ) (d : List ℕ) → i < length xs → concat (take (suc i) xs) ≡ concat (take i xs) ++ get_or xs i d
concat_next [] i d h = absurd (omega (arith, h))
concat_next (x ∷ xs) zero d h = append-nil x
concat_next (x ∷ xs) (suc i) d h = ap (λ t. x ++ t) (concat_next xs i d (omega arith)) ∙ sym (append_assoc x (concat (take i xs)) (get_or xs i d))

-- and what a put of it leaves
pub grown_next : (xs : List (List ℕ)) (i : ℕ) (d piece : List ℕ) (old now new : Option (List Begun)) → i < length xs → piece ≡ get_or xs i d
    → now ≡ option_map (last_grown (concat (take i xs))) old → new ≡ option_map (last_grown piece) now → new ≡ option_map (last_grown (concat (take (i + 1) xs))) old
grown_next xs i d piece old now new h is before after =
    let same = ap (λ p. option_map (last_grown p) now) is ∙ ap (option_map (last_grown (get_or xs i d))) before in
    let next : concat (take (i + 1) xs) ≡ concat (take i xs) ++ get_or xs i d = rw add-one (concat_next xs i d h) in
    after ∙ same ∙ grown_twice (concat (take i xs)) (get_or xs i d) old ∙ ap (λ t. option_map (last_grown t) old) (sym next)

-- all lines, cut at one
concat_cut : (xs : List (List ℕ)) (i : ℕ) (d : List ℕ) → i < length xs → concat xs ≡ concat (take i xs) ++ (get_or xs i d ++ concat (drop (suc i) xs))
concat_cut [] i d h = absurd (omega (arith, h))
concat_cut (x ∷ xs) zero d h = refl
concat_cut (x ∷ xs) (suc i) d h =
    ap (λ t. x ++ t) (concat_cut xs i d (omega arith)) ∙ sym (append_assoc x (concat (take i xs)) (get_or xs i d ++ concat (drop (suc i) xs)))

-- a front of the first list is one of both
front_of : (n : ℕ) (b c : List ℕ) → (m : ℕ) × (take m (b ++ c) ≡ take n b)
front_of zero b c = (0, refl)
front_of (suc n) [] c = (0, refl)
front_of (suc n) (x ∷ b) c = let r = front_of n b c in (suc r.0, ap (λ t. x ∷ t) r.1)

-- a front behind what was taken is a front of all
front_within : (a b c : List ℕ) (n : ℕ) → (m : ℕ) × (take m (a ++ (b ++ c)) ≡ a ++ take n b)
front_within a b c n = let r = front_of n b c in (length a + r.0, take-append-add a (b ++ c) r.0 ∙ ap (λ t. a ++ t) r.1)

-- what a put that fails after these lines leaves
pub front_grown : (xs : List (List ℕ)) (i : ℕ) (d : List ℕ) (old new : Option (List Begun)) → i < length xs
    → GainsFront (get_or xs i d) (option_map (last_grown (concat (take i xs))) old) new → GainsFront (concat xs) old new
front_grown xs i d old new h gains =
    let a = concat (take i xs) in
    let b = get_or xs i d in
    let r = front_within a b (concat (drop (suc i) xs)) gains.0 in
    let cut : take r.0 (concat xs) ≡ a ++ take gains.0 b = ap (take r.0) (concat_cut xs i d h) ∙ r.1 in
    (r.0, gains.1 ∙ grown_twice a (take gains.0 b) old ∙ ap (λ t. option_map (last_grown t) old) (sym cut))
