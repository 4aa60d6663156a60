-- What words name, word by word.
use Rattle.std.proofs.Common.{◌≡◌, ◌∙◌, ◌+◌, ◌<◌, ◌||◌, ℕ, Bool, true, false, List, [], ◌∷◌, length, take, get_or, map, refl, ap, sym, Option}
use Rattle.std.proofs.lemmas.List.{map-append, take_more}
use Rattle.std.proofs.lemmas.List.Elements.{filter_map-append}
use Rattle.std.specs.Borrow.{Bor}
use Rattle.std.specs.List.{filter_map, list_any}
use Rattle.footnotes.specs.ArcLinks.{texts_of}
use Rattle.footnotes.proofs.EndLaws.{any-append}
use Rattle.footnotes.proofs.LinkLaws.{Joins}

pub named-join : {Y : Type 0} (f : List ℕ → Option Y) → Joins (λ (ws : List (Bor (List ℕ))). filter_map f (texts_of ws))
named-join f xs ys = ap (filter_map f) (map-append (λ (s : Bor (List ℕ)). s.now) xs ys) ∙ filter_map-append f (texts_of xs) (texts_of ys)

or-end : (b : Bool) → (b || false) ≡ b
or-end true = refl
or-end false = refl

-- one more word that may pass
pub any-at : (g : List ℕ → Bool) (ws : List (Bor (List ℕ))) (i : ℕ) (d : Bor (List ℕ)) (b : Bool) → i < length ws
    → b ≡ list_any g (texts_of (take i ws)) → (b || g (get_or ws i d).now) ≡ list_any g (texts_of (take (i + 1) ws))
any-at g ws i d b h n =
    let w = get_or ws i d in
    ap (λ c. c || g w.now) n ∙ ap (λ c. list_any g (texts_of (take i ws)) || c) (sym (or-end (g w.now)))
    ∙ sym (any-append g (texts_of (take i ws)) (w.now ∷ []))
    ∙ sym (ap (λ l. list_any g l) (map-append (λ (s : Bor (List ℕ)). s.now) (take i ws) (w ∷ [])))
    ∙ sym (ap (λ l. list_any g (texts_of l)) (take_more ws i d h))

pub named-map-join : {Y Z : Type 0} (f : List ℕ → Option Y) (g : Y → Z) → Joins (λ (ws : List (Bor (List ℕ))). map g (filter_map f (texts_of ws)))
named-map-join f g xs ys = ap (map g) (named-join f xs ys) ∙ map-append g (filter_map f (texts_of xs)) (filter_map f (texts_of ys))
