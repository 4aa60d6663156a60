-- By their offsets the elements that are left out are told from the others.
use Rattle.std.proofs.Common.{◌≡◌, ◌≢◌, ◌∙◌, ℕ, suc, ◌<◌, ◌≤◌, Bool, true, false, if◌then◌else◌, List, [], ◌∷◌, ◌++◌, All, refl, sym, ap, subst, append_assoc, append-nil, arith}
use Rattle.std.proofs.lemmas.List.Elements.{All-nil, All-cons}
use Rattle.ix_base.specs.Elements.{Placed, below}
use Rattle.ix_base.specs.Sound.{offsets_of}
use Rattle.ix_base.specs.Trees.{Nodes, none, chars, elem, Tree}
use Rattle.page_tree.proofs.RisingOffsets.{Climb}
use Rattle.page_constructs.proofs.SizeLaws.{other-number, same-number}
use Rattle.fact_trace.specs.Spans.{is_left_out, left_out, is_among}
use Rattle.fact_trace.proofs.HeardLaws.{Agrees}

abbrev pub Each : {X : Type 0} → (X → Type 0) → List X → Type 0
Each P [] = Unit {0}
Each P (x ∷ xs) = P x × Each P xs

pub each-both : {X : Type 0} (P : X → Type 0) (xs ys : List X) → Each P xs → Each P ys → Each P (xs ++ ys)
each-both P [] ys h k = k
each-both P (x ∷ xs) ys (h, hs) k = (h, each-both P xs ys hs k)

pub each-mapped : {X : Type 0} (P Q : X → Type 0) → ((x : X) → P x → Q x) → (xs : List X) → Each P xs → Each Q xs
each-mapped P Q f [] h = tt
each-mapped P Q f (x ∷ xs) (h, hs) = (f x h, each-mapped P Q f xs hs)

pub each-joined : {X : Type 0} (P Q R : X → Type 0) → ((x : X) → P x → Q x → R x) → (xs : List X) → Each P xs → Each Q xs → Each R xs
each-joined P Q R f [] h k = tt
each-joined P Q R f (x ∷ xs) (h, hs) (k, ks) = (f x h k, each-joined P Q R f xs hs ks)

pub each-all : {X : Type 0} (P : X → Type 0) (xs : List X) → Each P xs → All P xs
each-all P [] h = All-nil P
each-all P (x ∷ xs) (h, hs) = All-cons P x xs h (each-all P xs hs)

-- numbers that climb, one list behind another
abbrev pub after : ℕ → List ℕ → ℕ
after low [] = low
after low (n ∷ ns) = after (suc n) ns

pub after-low : (low : ℕ) (ns : List ℕ) → Climb low ns → low ≤ after low ns
after-low low [] c = omega arith
after-low low (n ∷ ns) c = let h = after-low (suc n) ns c.1 in let k = c.0 in omega arith

after-append : (low : ℕ) (a b : List ℕ) → after low (a ++ b) ≡ after (after low a) b
after-append low [] b = refl
after-append low (n ∷ a) b = after-append (suc n) a b

pub climb-parts : (low : ℕ) (a b : List ℕ) → Climb low (a ++ b) → Climb low a × Climb (after low a) b
climb-parts low [] b c = (tt, c)
climb-parts low (n ∷ a) b c = let z = climb-parts (suc n) a b c.1 in ((c.0, z.0), z.1)

pub climb-lows : (low : ℕ) (ns : List ℕ) → Climb low ns → Each (λ o. low ≤ o) ns
climb-lows low [] c = tt
climb-lows low (n ∷ ns) c = (c.0, each-mapped (λ o. suc n ≤ o) (λ o. low ≤ o) (λ o h. (let k = c.0 in omega arith)) ns (climb-lows (suc n) ns c.1))

pub climb-highs : (low : ℕ) (ns : List ℕ) → Climb low ns → Each (λ o. o < after low ns) ns
climb-highs low [] c = tt
climb-highs low (n ∷ ns) c = ((let h = after-low (suc n) ns c.1 in omega arith), climb-highs (suc n) ns c.1)

-- what holds of the offsets of all holds of those that are left out
pub left-in : (P : ℕ → Type 0) (ns : Nodes) → Each P (offsets_of ns) → Each P (left_out ns)
left-in P none h = tt
left-in P (chars text rest) h = left-in P rest h
left-in P (elem head children rest) (h, hs) =
    let z = parts (offsets_of children) (offsets_of rest) hs in
    each-both P (if is_left_out head.name then head.offset ∷ [] else []) (left_out children ++ left_out rest) (own (is_left_out head.name))
    (each-both P (left_out children) (left_out rest) (left-in P children z.0) (left-in P rest z.1)) where
      own : (b : Bool) → Each P (if b then head.offset ∷ [] else [])
      own true = (h, tt)
      own false = tt

      parts : (xs ys : List ℕ) → Each P (xs ++ ys) → Each P xs × Each P ys
      parts [] ys k = (tt, k)
      parts (x ∷ xs) ys (k, ks) = let z = parts xs ys ks in ((k, z.0), z.1)

-- a number that isn't there
abbrev Lacks : ℕ → List ℕ → Type 0
Lacks at os = Each (λ o. o ≢ at) os

skip : (at : ℕ) (a b : List ℕ) → Lacks at a → is_among (a ++ b) at ≡ is_among b at
skip at [] b h = refl
skip at (o ∷ a) b (h, hs) = rw (other-number o at h) (skip at a b hs)

none-there : (at : ℕ) (a : List ℕ) → Lacks at a → is_among a at ≡ false
none-there at [] h = refl
none-there at (o ∷ a) (h, hs) = rw (other-number o at h) (none-there at a hs)

own-there : (b : Bool) (at : ℕ) (more : List ℕ) → Lacks at more → is_among ((if b then at ∷ [] else []) ++ more) at ≡ b
own-there true at more h = rw (same-number at at refl) refl
own-there false at more h = none-there at more h

below-lacks : (at : ℕ) (os : List ℕ) → Each (λ o. o < at) os → Lacks at os
below-lacks at os h = each-mapped (λ o. o < at) (λ o. o ≢ at) (λ o l e. (omega arith)) os h

above-lacks : (at : ℕ) (os : List ℕ) → Each (λ o. at < o) os → Lacks at os
above-lacks at os h = each-mapped (λ o. at < o) (λ o. o ≢ at) (λ o l e. (omega arith)) os h

each-own : (P : ℕ → Type 0) (b : Bool) (at : ℕ) → P at → Each P (if b then at ∷ [] else [])
each-own P true at p = (p, tt)
each-own P false at p = tt

agree : (ns : Nodes) (low : ℕ) (a b os : List ℕ) → Climb low (offsets_of ns) → Each (λ o. o < low) a → Each (λ o. after low (offsets_of ns) ≤ o) b → os ≡ a ++ (left_out ns ++ b)
    → Agrees (is_among os) ns
agree none low a b os c h k e = tt
agree (chars text rest) low a b os c h k e = agree rest low a b os c h k e
agree (elem head children rest) low a b os c h k e =
    let at = head.offset in
    let own = if is_left_out head.name then at ∷ [] else [] in
    let lk = left_out children in
    let lr = left_out rest in
    let ok = offsets_of children in
    let or' = offsets_of rest in
    let z = climb-parts (suc at) ok or' c.1 in
    let mid = after (suc at) ok in
    let up : suc at ≤ mid = after-low (suc at) ok z.0 in
    let top : after low (at ∷ (ok ++ or')) ≡ after mid or' = after-append (suc at) ok or' in
    let far : Each (λ o. after mid or' ≤ o) b = subst (λ n. Each (λ o. n ≤ o) b) top k in
    let further : mid ≤ after mid or' = after-low mid or' z.1 in
    let firsts : Each (λ o. o < at) a = each-mapped (λ o. o < low) (λ o. o < at) (λ o l. (let m = c.0 in omega arith)) a h in
    let kids_low : Each (λ o. suc at ≤ o) lk = left-in (λ o. suc at ≤ o) children (climb-lows (suc at) ok z.0) in
    let kids_high : Each (λ o. o < mid) lk = left-in (λ o. o < mid) children (climb-highs (suc at) ok z.0) in
    let rest_low : Each (λ o. mid ≤ o) lr = left-in (λ o. mid ≤ o) rest (climb-lows mid or' z.1) in
    let ends : Each (λ o. mid ≤ o) b = each-mapped (λ o. after mid or' ≤ o) (λ o. mid ≤ o) (λ o l. (omega arith)) b far in
    let others : Lacks at (lk ++ (lr ++ b)) =
    above-lacks at (lk ++ (lr ++ b)) (each-both (λ o. at < o) lk (lr ++ b) (each-mapped (λ o. suc at ≤ o) (λ o. at < o) (λ o l. (omega arith)) lk kids_low)
    (each-both (λ o. at < o) lr b (each-mapped (λ o. mid ≤ o) (λ o. at < o) (λ o l. (omega arith)) lr rest_low) (each-mapped (λ o. mid ≤ o) (λ o. at < o) (λ o l. (omega arith)) b ends))) in
    let all : os ≡ a ++ (own ++ (lk ++ (lr ++ b))) =
    e ∙ ap (λ l. a ++ l) (append_assoc own (lk ++ lr) b ∙ ap (λ l. own ++ l) (append_assoc lk lr b)) in (
      ap (λ l. is_among l at) all ∙ skip at a (own ++ (lk ++ (lr ++ b))) (below-lacks at a firsts) ∙ own-there (is_left_out head.name) at (lk ++ (lr ++ b)) others,
      agree children (suc at) (a ++ own) (lr ++ b) os z.0
          (each-both (λ o. o < suc at) a own (each-mapped (λ o. o < at) (λ o. o < suc at) (λ o l. (omega arith)) a firsts) (each-own (λ o. o < suc at) (is_left_out head.name) at (omega arith)))
          (each-both (λ o. mid ≤ o) lr b rest_low ends)
          (all ∙ sym (append_assoc a own (lk ++ (lr ++ b)))),
      agree rest mid (a ++ (own ++ lk)) b os z.1
          (each-both (λ o. o < mid) a (own ++ lk) (each-mapped (λ o. o < at) (λ o. o < mid) (λ o l. (omega arith)) a firsts)
          (each-both (λ o. o < mid) own lk (each-own (λ o. o < mid) (is_left_out head.name) at (omega arith)) kids_high))
          far
          (all ∙ ap (λ l. a ++ l) (sym (append_assoc own lk (lr ++ b))) ∙ sym (append_assoc a (own ++ lk) (lr ++ b))),
    )

-- the elements that are left out among some nodes whose offsets climb
pub left-agrees : (ns : Nodes) (low : ℕ) → Climb low (offsets_of ns) → Agrees (is_among (left_out ns)) ns
left-agrees ns low c = agree ns low [] [] (left_out ns) c tt tt (sym (append-nil (left_out ns)))

-- the offsets of what an element holds climb, wherever it stands
pub record HasClimb (p : Placed) : Type 0 where
  pub low : ℕ
  pub climbs : Climb low (offsets_of p.tree.children)

pub all-climb : (ns : Nodes) (low : ℕ) (above : List Tree) → Climb low (offsets_of ns) → Each HasClimb (below above ns)
all-climb none low above c = tt
all-climb (chars text rest) low above c = all-climb rest low above c
all-climb (elem head children rest) low above c =
    let z = climb-parts (suc head.offset) (offsets_of children) (offsets_of rest) c.1 in
    let t : Tree = record { head = head; children = children } in (
      record { low = suc head.offset; climbs = z.0 },
      each-both HasClimb (below (t ∷ above) children) (below above rest) (all-climb children (suc head.offset) (t ∷ above) z.0)
          (all-climb rest (after (suc head.offset) (offsets_of children)) above z.1),
    )
