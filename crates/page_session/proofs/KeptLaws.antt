-- What is kept, as pages are put and taken away.
use Rattle.std.proofs.Common.{◌≡◌, ◌∙◌, ap, sym, refl, ℕ, suc, ◌+◌, ◌≤◌, ◌<◌, ◌⊎◌, inl, inr, Bool, true, false, if◌then◌else◌, List, [], ◌∷◌, ◌++◌, length, bytes_eq, slice_set, subst, arith}
use Rattle.std.specs.List.{remove}
use Rattle.std.proofs.lemmas.Bool.{cases_lt}
use Rattle.page_session.specs.HandedPages.{Handed, handed, bytes_of, put_in, drop_in, place_of}
use Rattle.targets.specs.Breaches.{bytes_in, all_tags_in, tags_in}
use Rattle.page_session.specs.Sessions.{AreKept, IsHeld, IsKept, names_kept}
use Rattle.page_session.specs.declared.kept.Kept.{Kept}

-- a page that is put in place of another, or behind it

put_step : (v u : Bool) (n : ℕ) (x k : Kept) (ks : List Kept) (p q : Handed) (ps qs : List Handed) → v ≡ u → IsKept x p → AreKept ks ps → IsKept k q
    → (n < length ks → AreKept (slice_set ks n k) qs) → (if v then 0 else suc n) < length (x ∷ ks)
    → AreKept (slice_set (x ∷ ks) (if v then 0 else suc n) k) (if u then q ∷ ps else p ∷ qs)
put_step true true n x k ks p q ps qs e here all own more l = (own, all)
put_step false false n x k ks p q ps qs e here all own more l = (here, more (omega arith))
put_step true false n x k ks p q ps qs e here all own more l = absurd cc
put_step false true n x k ks p q ps qs e here all own more l = absurd cc

put_at : (ks : List Kept) (ps : List Handed) (k : Kept) (b : List ℕ) → AreKept ks ps → IsHeld k.held b → place_of (names_kept ks) k.name < length ks
    → AreKept (slice_set ks (place_of (names_kept ks) k.name) k) (put_in (handed k.name b) ps)
put_at [] [] k b all h l = absurd (omega arith)
put_at [] (p ∷ ps) k b all h l = absurd all
put_at (x ∷ ks) [] k b all h l = absurd all
put_at (x ∷ ks) (p ∷ ps) k b all h l =
    put_step (bytes_eq x.name k.name) (bytes_eq p.name k.name) (place_of (names_kept ks) k.name) x k ks p (handed k.name b) ps (put_in (handed k.name b) ps)
    (ap (λ n. bytes_eq n k.name) all.0.0) all.0 all.1 (refl, h) (put_at ks ps k b all.1 h) l

behind_step : (v u : Bool) (n : ℕ) (x k : Kept) (ks : List Kept) (p q : Handed) (ps qs : List Handed) → v ≡ u → IsKept x p
    → (n ≡ length ks → AreKept (ks ++ k ∷ []) qs) → (if v then 0 else suc n) ≡ length (x ∷ ks)
    → AreKept ((x ∷ ks) ++ k ∷ []) (if u then q ∷ ps else p ∷ qs)
behind_step true true n x k ks p q ps qs e here more l = absurd (omega (arith, l))
behind_step false false n x k ks p q ps qs e here more l = (here, more (omega (arith, l)))
behind_step true false n x k ks p q ps qs e here more l = absurd cc
behind_step false true n x k ks p q ps qs e here more l = absurd cc

put_behind : (ks : List Kept) (ps : List Handed) (k : Kept) (b : List ℕ) → AreKept ks ps → IsHeld k.held b → place_of (names_kept ks) k.name ≡ length ks
    → AreKept (ks ++ k ∷ []) (put_in (handed k.name b) ps)
put_behind [] [] k b all h l = ((refl, h), tt)
put_behind [] (p ∷ ps) k b all h l = absurd all
put_behind (x ∷ ks) [] k b all h l = absurd all
put_behind (x ∷ ks) (p ∷ ps) k b all h l =
    behind_step (bytes_eq x.name k.name) (bytes_eq p.name k.name) (place_of (names_kept ks) k.name) x k ks p (handed k.name b) ps (put_in (handed k.name b) ps)
    (ap (λ n. bytes_eq n k.name) all.0.0) all.0 (put_behind ks ps k b all.1 h) l

-- this was kept, at its place
pub kept_more : (old new : List Kept) (k : Kept) (at : ℕ) → at ≡ place_of (names_kept old) k.name → at ≤ length old
    → (at < length old → new ≡ slice_set old at k) → (at ≡ length old → new ≡ old ++ k ∷ [])
    → (b : List ℕ) → IsHeld k.held b → (ps : List Handed) → AreKept old ps → AreKept new (put_in (handed k.name b) ps)
kept_more old new k at is within replaced added b h ps all = by (cases_lt at (length old))
  where
    by : (at < length old) ⊎ (length old ≤ at) → AreKept new (put_in (handed k.name b) ps)
    by (inl l) =
        let now : new ≡ slice_set old (place_of (names_kept old) k.name) k = replaced l ∙ ap (λ n. slice_set old n k) is in
        subst (λ ks. AreKept ks (put_in (handed k.name b) ps)) (sym now) (put_at old ps k b all h (subst (λ n. n < length old) is l))
    by (inr l) =
        let end : at ≡ length old = omega arith in
        subst (λ ks. AreKept ks (put_in (handed k.name b) ps)) (sym (added end)) (put_behind old ps k b all h (sym is ∙ end))

-- a page that is taken away

drop_step : (v u : Bool) (n : ℕ) (x : Kept) (ks : List Kept) (p : Handed) (ps qs : List Handed) → v ≡ u → IsKept x p → AreKept ks ps
    → (n < length ks → AreKept (remove ks n) qs) → (if v then 0 else suc n) < length (x ∷ ks)
    → AreKept (remove (x ∷ ks) (if v then 0 else suc n)) (if u then ps else p ∷ qs)
drop_step true true n x ks p ps qs e here all more l = all
drop_step false false n x ks p ps qs e here all more l = (here, more (omega arith))
drop_step true false n x ks p ps qs e here all more l = absurd cc
drop_step false true n x ks p ps qs e here all more l = absurd cc

pub drop_at : (ks : List Kept) (ps : List Handed) (name : List ℕ) → AreKept ks ps → place_of (names_kept ks) name < length ks
    → AreKept (remove ks (place_of (names_kept ks) name)) (drop_in name ps)
drop_at [] [] name all l = absurd (omega arith)
drop_at [] (p ∷ ps) name all l = absurd all
drop_at (x ∷ ks) [] name all l = absurd all
drop_at (x ∷ ks) (p ∷ ps) name all l =
    drop_step (bytes_eq x.name name) (bytes_eq p.name name) (place_of (names_kept ks) name) x ks p ps (drop_in name ps)
    (ap (λ n. bytes_eq n name) all.0.0) all.0 all.1 (drop_at ks ps name all.1) l

none_step : (v u : Bool) (n : ℕ) (x : Kept) (ks : List Kept) (p : Handed) (ps qs : List Handed) → v ≡ u
    → (n ≡ length ks → qs ≡ ps) → (if v then 0 else suc n) ≡ length (x ∷ ks) → (if u then ps else p ∷ qs) ≡ p ∷ ps
none_step true true n x ks p ps qs e more l = absurd (omega (arith, l))
none_step false false n x ks p ps qs e more l = ap (λ r. p ∷ r) (more (omega (arith, l)))
none_step true false n x ks p ps qs e more l = absurd cc
none_step false true n x ks p ps qs e more l = absurd cc

pub drop_none : (ks : List Kept) (ps : List Handed) (name : List ℕ) → AreKept ks ps → place_of (names_kept ks) name ≡ length ks → drop_in name ps ≡ ps
drop_none [] [] name all l = refl
drop_none [] (p ∷ ps) name all l = absurd all
drop_none (x ∷ ks) [] name all l = absurd all
drop_none (x ∷ ks) (p ∷ ps) name all l =
    none_step (bytes_eq x.name name) (bytes_eq p.name name) (place_of (names_kept ks) name) x ks p ps (drop_in name ps)
    (ap (λ n. bytes_eq n name) all.0.0) (drop_none ks ps name all.1) l

-- how much the pages have together

bytes_step : (v : Bool) (p q : Handed) (qs : List Handed) → bytes_in (bytes_of (put_in p qs)) ≤ bytes_in (bytes_of qs) + length p.bytes
    → bytes_in (bytes_of (if v then p ∷ qs else q ∷ put_in p qs)) ≤ bytes_in (bytes_of (q ∷ qs)) + length p.bytes
bytes_step true p q qs h = omega arith
bytes_step false p q qs h = omega arith

pub more_bytes : (p : Handed) (ps : List Handed) → bytes_in (bytes_of (put_in p ps)) ≤ bytes_in (bytes_of ps) + length p.bytes
more_bytes p [] = omega arith
more_bytes p (q ∷ qs) = bytes_step (bytes_eq q.name p.name) p q qs (more_bytes p qs)

tags_step : (v : Bool) (p q : Handed) (qs : List Handed) → all_tags_in (bytes_of (put_in p qs)) ≤ all_tags_in (bytes_of qs) + tags_in p.bytes
    → all_tags_in (bytes_of (if v then p ∷ qs else q ∷ put_in p qs)) ≤ all_tags_in (bytes_of (q ∷ qs)) + tags_in p.bytes
tags_step true p q qs h = omega arith
tags_step false p q qs h = omega arith

pub more_tags : (p : Handed) (ps : List Handed) → all_tags_in (bytes_of (put_in p ps)) ≤ all_tags_in (bytes_of ps) + tags_in p.bytes
more_tags p [] = omega arith
more_tags p (q ∷ qs) = tags_step (bytes_eq q.name p.name) p q qs (more_tags p qs)

fewer_step : (v : Bool) (name : List ℕ) (q : Handed) (qs : List Handed) → bytes_in (bytes_of (drop_in name qs)) ≤ bytes_in (bytes_of qs)
    → bytes_in (bytes_of (if v then qs else q ∷ drop_in name qs)) ≤ bytes_in (bytes_of (q ∷ qs))
fewer_step true name q qs h = omega arith
fewer_step false name q qs h = omega arith

pub fewer_bytes : (name : List ℕ) (ps : List Handed) → bytes_in (bytes_of (drop_in name ps)) ≤ bytes_in (bytes_of ps)
fewer_bytes name [] = omega arith
fewer_bytes name (q ∷ qs) = fewer_step (bytes_eq q.name name) name q qs (fewer_bytes name qs)

fewer_tags_step : (v : Bool) (name : List ℕ) (q : Handed) (qs : List Handed) → all_tags_in (bytes_of (drop_in name qs)) ≤ all_tags_in (bytes_of qs)
    → all_tags_in (bytes_of (if v then qs else q ∷ drop_in name qs)) ≤ all_tags_in (bytes_of (q ∷ qs))
fewer_tags_step true name q qs h = omega arith
fewer_tags_step false name q qs h = omega arith

pub fewer_tags : (name : List ℕ) (ps : List Handed) → all_tags_in (bytes_of (drop_in name ps)) ≤ all_tags_in (bytes_of ps)
fewer_tags name [] = omega arith
fewer_tags name (q ∷ qs) = fewer_tags_step (bytes_eq q.name name) name q qs (fewer_tags name qs)
