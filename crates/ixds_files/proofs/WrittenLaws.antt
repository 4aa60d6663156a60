-- A piece that is written part by part.
use Rattle.std.proofs.Common.{◌≡◌, ◌∙◌, ap, sym, ℕ, List, [], ◌++◌, length, take, drop, Option, Some, None, refl, append_assoc, append-nil, subst, ◌-◌, length-drop}
use Rattle.std.proofs.lemmas.List.{take-append-drop}
use Rattle.std.proofs.Math.Seq.{take-append_seam, take-length}
use Rattle.std.specs.Io.KnownBytes.{Appends, Keeps}
use Rattle.ixds_files.specs.Writers.{AppendsFront}

-- these bytes of the piece were added, and this is left of it
pub record HasPut (old new : Option (List ℕ)) (piece rest : List ℕ) : Type 0 where
  pub put : List ℕ
  pub piece_is : piece ≡ put ++ rest
  pub appends : Appends old new put

appends_none : (o : Option (List ℕ)) → Appends o o []
appends_none None = tt
appends_none (Some xs) = sym (append-nil xs)

appends_more : (a b c : Option (List ℕ)) (xs ys : List ℕ) → Appends a b xs → Appends b c ys → Appends a c (xs ++ ys)
appends_more None b c xs ys h k = tt
appends_more (Some a) None c xs ys h k = absurd h
appends_more (Some a) (Some b) None xs ys h k = absurd k
appends_more (Some a) (Some b) (Some c) xs ys h k = k ∙ ap (λ t. t ++ ys) h ∙ append_assoc a xs ys

appends_kept : (a b c : Option (List ℕ)) (xs : List ℕ) → Appends a b xs → Keeps b c → Appends a c xs
appends_kept None b c xs h k = tt
appends_kept (Some a) None c xs h k = absurd h
appends_kept (Some a) (Some b) None xs h k = absurd k
appends_kept (Some a) (Some b) (Some c) xs h k = k ∙ h

pub has_put_none : (o : Option (List ℕ)) (piece : List ℕ) → HasPut o o piece piece
has_put_none o piece = record { put = []; piece_is = refl; appends = appends_none o }

pub has_put_more : (old mid new : Option (List ℕ)) (piece rest : List ℕ) (n : ℕ) → HasPut old mid piece rest → Appends mid new (take n rest) → HasPut old new piece (drop n rest)
has_put_more old mid new piece rest n h more = record {
  put = h.put ++ take n rest;
  piece_is = h.piece_is ∙ ap (λ t. h.put ++ t) (sym (take-append-drop n rest)) ∙ sym (append_assoc h.put (take n rest) (drop n rest));
  appends = appends_more old mid new h.put (take n rest) h.appends more;
}

pub has_put_kept : (old mid new : Option (List ℕ)) (piece rest : List ℕ) → HasPut old mid piece rest → Keeps mid new → HasPut old new piece rest
has_put_kept old mid new piece rest h kept = record { put = h.put; piece_is = h.piece_is; appends = appends_kept old mid new h.put h.appends kept }

pub has_put_all : (old new : Option (List ℕ)) (piece rest : List ℕ) → rest ≡ [] → HasPut old new piece rest → Appends old new piece
has_put_all old new piece rest end h =
    let all : piece ≡ h.put = h.piece_is ∙ ap (λ t. h.put ++ t) end ∙ append-nil h.put in
    subst (λ p. Appends old new p) (sym all) h.appends

pub has_put_front : (old new : Option (List ℕ)) (piece rest : List ℕ) → HasPut old new piece rest → AppendsFront old new piece
has_put_front old new piece rest h =
    let front : take (length h.put) piece ≡ h.put = ap (take (length h.put)) h.piece_is ∙ take-append_seam h.put rest in
    (length h.put, subst (λ p. Appends old new p) (sym front) h.appends)

pub rest_whole : (n : ℕ) (xs : List ℕ) → take (length xs - n) (drop n xs) ≡ drop n xs
rest_whole n xs = ap (λ k. take k (drop n xs)) (sym (length-drop n xs)) ∙ take-length (drop n xs)
