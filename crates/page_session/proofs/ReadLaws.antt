-- Reading a page piece by piece.
use Rattle.std.proofs.Common.{◌≡◌, ◌∙◌, ap, sym, refl, ℕ, ◌+◌, ◌≤◌, ◌<◌, ◌==◌, cond, List, [], ◌++◌, length, take, drop, Option, Some, None, IfSome, option_map, append_assoc, subst, arith, length-append, append-nil, true, false, Bool, ◌&&◌, nat_le, ◌⊎◌, inl, inr, rules, OnOk, Result, Ok, Err}
use Rattle.std.proofs.lemmas.Bool.{cases_lt}
use Rattle.page_session.specs.Limits.{may_hold, Passes}
use Rattle.page_session.specs.Sessions.{IsHeld, OfPage}
use Rattle.page_session.specs.declared.kept.Held.{Held}
use Rattle.std.proofs.lemmas.List.{take-append-drop, length-take-le}
use Rattle.std.proofs.lemmas.List.Sums.{sum_by-append}
use Rattle.ix_base.specs.declared.limits.TheConstants.{MOST_BYTES_PUT, MOST_TAGS_PUT}
use Rattle.ix_base.specs.Outside.{ReadsFrom}
use Rattle.ix_base.specs.declared.NoMemory.{NoMemory}
use Rattle.page_tree.specs.Model.{StandsFor, limit, page_number}
use Rattle.page_tree.specs.declared.builder.TreeBuilder.{TreeBuilder}
use Rattle.targets.specs.Breaches.{tags_in}
use Rattle.page_session.specs.PieceReads.{HasFed, IsWhole, is_within}
use Rattle.page_session.specs.Takers.{HasBuilt}
use Rattle.page_session.specs.declared.reading.Sums.{Sums}

tags-append : (xs ys : List ℕ) → tags_in (xs ++ ys) ≡ tags_in xs + tags_in ys
tags-append xs ys = sum_by-append (λ b. cond (b == 60) 1 0) xs ys

pub tags-split : (n : ℕ) (xs : List ℕ) → tags_in xs ≡ tags_in (take n xs) + tags_in (drop n xs)
tags-split n xs = ap tags_in (sym (take-append-drop n xs)) ∙ tags-append (take n xs) (drop n xs)

-- what is told of a page, once a piece of it was read
told_on : (page left left' : Option (List ℕ)) (front buf : List ℕ) (n : ℕ)
    → IfSome left (λ rest. ReadsFrom rest buf n) → left' ≡ option_map (drop n) left
    → IfSome page (λ b. (rest : List ℕ) × (b ≡ front ++ rest) × (left ≡ Some rest))
    → IfSome page (λ b. (rest : List ℕ) × (b ≡ (front ++ take n buf) ++ rest) × (left' ≡ Some rest))
told_on None left left' front buf n piece next t = tt
told_on (Some b) left left' front buf n piece next t =
    let p : ReadsFrom t.0 buf n = subst (λ (l : Option (List ℕ)). IfSome l (λ rest. ReadsFrom rest buf n)) t.2 piece in
    let split : take n buf ++ drop n t.0 ≡ t.0 = ap (λ x. x ++ drop n t.0) p.bytes ∙ take-append-drop n t.0 in
    (drop n t.0, t.1 ∙ ap (λ x. front ++ x) (sym split) ∙ sym (append_assoc front (take n buf) (drop n t.0)), next ∙ ap (option_map (drop n)) t.2)

-- a builder was given a piece
pub builds_on : (r : Result Unit NoMemory) (piece : List ℕ) (old new : TreeBuilder) → ((b : List ℕ) → StandsFor old b → OnOk r (StandsFor new (b ++ piece)))
    → limit new ≡ limit old → page_number new ≡ page_number old
    → OnOk r ((fresh : TreeBuilder) (b : List ℕ) → HasBuilt fresh b old → HasBuilt fresh (b ++ piece) new)
builds_on (Ok u) piece old new stands deep page = λ fresh b h.
    record { built = stands b h.built; limit_is = deep ∙ h.limit_is; page_is = page ∙ h.page_is }
builds_on (Err x) piece old new stands deep page = tt

-- a piece was read, and it was taken
pub read_on : (took took' : List ℕ → Type 0) (page left left' : Option (List ℕ)) (before s s' : Sums) (buf : List ℕ) (n : ℕ)
    → n ≤ length buf → IfSome left (λ rest. ReadsFrom rest buf n) → left' ≡ option_map (drop n) left
    → ((b : List ℕ) → took b → took' (b ++ take n buf)) → s'.bytes ≡ s.bytes + n → s'.tags ≡ s.tags + tags_in (take n buf)
    → HasFed took page left before s → HasFed took' page left' before s'
read_on took took' page left left' before s s' buf n within piece next takes bytes tags h =
    let size : length (take n buf) ≡ n = length-take-le n buf within in
    let sum = length-append h.front (take n buf) in
    let more = tags-append h.front (take n buf) in
    let was = h.bytes in
    let had = h.tags in
    record {
      front = h.front ++ take n buf;
      taken = takes h.front h.taken;
      bytes = let goal : s'.bytes ≡ before.bytes + length (h.front ++ take n buf) = omega arith in goal;
      tags = let goal : s'.tags ≡ before.tags + tags_in (h.front ++ take n buf) = omega arith in goal;
      told = told_on page left left' h.front buf n piece next h.told;
    }

told_end : (page left : Option (List ℕ)) (front : List ℕ) → IfSome left (λ rest. rest ≡ [])
    → IfSome page (λ b. (rest : List ℕ) × (b ≡ front ++ rest) × (left ≡ Some rest)) → IfSome page (λ b. left ≡ Some [])
told_end None left front end t = tt
told_end (Some b) left front end t =
    t.2 ∙ ap Some (subst (λ (l : Option (List ℕ)). IfSome l (λ rest. rest ≡ [])) t.2 end)

-- all of it was read
pub whole_at_end : (took : List ℕ → Type 0) (page left : Option (List ℕ)) (before s most : Sums) → HasFed took page left before s
    → IfSome left (λ rest. rest ≡ []) → IsWhole page left s most
whole_at_end took page left before s most h end = λ within. told_end page left h.front end h.told

pub held_bytes : (bytes tags : ℕ) → may_hold bytes tags ≡ true → bytes ≤ MOST_BYTES_PUT
held_bytes bytes tags h = by (nat_le bytes MOST_BYTES_PUT) refl h
  where
    by : (v : Bool) → nat_le bytes MOST_BYTES_PUT ≡ v → (v && nat_le tags MOST_TAGS_PUT) ≡ true → bytes ≤ MOST_BYTES_PUT
    by true e h = search rules
    by false e h = absurd cc

pub held_tags : (bytes tags : ℕ) → may_hold bytes tags ≡ true → tags ≤ MOST_TAGS_PUT
held_tags bytes tags h = by (nat_le bytes MOST_BYTES_PUT) refl h
  where
    by : (v : Bool) → nat_le bytes MOST_BYTES_PUT ≡ v → (v && nat_le tags MOST_TAGS_PUT) ≡ true → tags ≤ MOST_TAGS_PUT
    by true e h = search rules
    by false e h = absurd cc

pub over_either : (bytes tags : ℕ) → may_hold bytes tags ≡ false → Passes bytes tags
over_either bytes tags h = by (cases_lt MOST_BYTES_PUT bytes) (cases_lt MOST_TAGS_PUT tags)
  where
    by : (MOST_BYTES_PUT < bytes) ⊎ (bytes ≤ MOST_BYTES_PUT) → (MOST_TAGS_PUT < tags) ⊎ (tags ≤ MOST_TAGS_PUT) → Passes bytes tags
    by (inl b) t = inl b
    by (inr b) (inl t) = inr t
    by (inr b) (inr t) = absurd (let both : may_hold bytes tags ≡ true = search rules in cc)

-- a front that is over makes the page over
over_more : (s : Sums) (front rest b : List ℕ) → b ≡ front ++ rest → Passes (s.bytes + length front) (s.tags + tags_in front) → Passes (s.bytes + length b) (s.tags + tags_in b)
over_more s front rest b e (inl h) = let n : length b ≡ length front + length rest = ap length e ∙ length-append front rest in inl (omega arith)
over_more s front rest b e (inr h) = let n : tags_in b ≡ tags_in front + tags_in rest = ap (λ x. tags_in x) e ∙ tags-append front rest in inr (omega arith)

-- what was read is over, and so is the page, where the source tells it
pub page_over : (took : List ℕ → Type 0) (page left : Option (List ℕ)) (before s : Sums) → HasFed took page left before s
    → may_hold s.bytes s.tags ≡ false → OfPage page (λ b. Passes (before.bytes + length b) (before.tags + tags_in b))
page_over took page left before s h over = by page h.told
  where
    passes : Passes (before.bytes + length h.front) (before.tags + tags_in h.front)
    passes = subst (λ k. Passes k (before.tags + tags_in h.front)) h.bytes (subst (λ k. Passes s.bytes k) h.tags (over_either s.bytes s.tags over))

    by : (o : Option (List ℕ)) → IfSome o (λ b. (rest : List ℕ) × (b ≡ h.front ++ rest) × (left ≡ Some rest)) → OfPage o (λ b. Passes (before.bytes + length b) (before.tags + tags_in b))
    by None told = (h.front, tt, passes)
    by (Some b) told = (b, refl, over_more before h.front told.0 b told.1 passes)

-- all of the page was read, and this is kept of it
pub page_held : (took : List ℕ → Type 0) (page left : Option (List ℕ)) (before s most : Sums) (k : Held) → HasFed took page left before s
    → IsWhole page left s most → is_within s most ≡ true → ((b : List ℕ) → took b → IsHeld k b)
    → OfPage page (λ b. IsHeld k b × (s.bytes ≡ before.bytes + length b) × (s.tags ≡ before.tags + tags_in b))
page_held took page left before s most k h whole within held = (h.front, by page h.told (whole within), (held h.front h.taken, h.bytes, h.tags))
  where
    by : (o : Option (List ℕ)) → IfSome o (λ b. (rest : List ℕ) × (b ≡ h.front ++ rest) × (left ≡ Some rest)) → IfSome o (λ b. left ≡ Some [])
        → IfSome o (λ b. b ≡ h.front)
    by None told end = tt
    by (Some b) told end =
        let some : Some told.0 ≡ Some [] = sym told.2 ∙ end in
        let none : told.0 ≡ [] = cc in
        told.1 ∙ ap (λ r. h.front ++ r) none ∙ append-nil h.front
