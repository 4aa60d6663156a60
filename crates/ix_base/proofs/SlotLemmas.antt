-- Targets that lie in one list of bytes, as it grows.
use Rattle.std.proofs.Common.{◌≡◌, ◌∙◌, ap, sym, ℕ, ◌+◌, ◌-◌, ◌≤◌, Bool, true, false, List, [], ◌∷◌, ◌++◌, length, take, drop, map, refl, append_assoc, arith, length-append, length-drop, if◌then◌else◌, Some, None, IfSome, not, ◌&&◌}
use Rattle.std.proofs.lemmas.List.{take-append-le, drop-append-le, append-nil, map-append}
use Rattle.std.proofs.lemmas.Bool.{and_parts, and_from, leb-true, le-leb}
use Rattle.std.proofs.lemmas.List.Folds.{list_all-append}
use Rattle.std.proofs.Math.Seq.{take-length, take-append_seam, drop-append_seam}
use Rattle.std.specs.List.{list_all, slice_range}
use Rattle.ix_base.specs.Outside.{Begun, begun, is_last_open, last_grown, last_finished, room_of}
use Rattle.ix_base.specs.Slots.{is_within, target_at, targets_at}
use Rattle.ix_base.specs.declared.memory.shelf.Slot.{Slot}

pub record Within (n : ℕ) (s : Slot) : Type 0 where
  pub dir : s.dir ≤ s.name
  pub name : s.name ≤ s.bytes
  pub bytes : s.bytes ≤ s.end
  pub end : s.end ≤ n

pub within_parts : (n : ℕ) (s : Slot) → is_within n s ≡ true → Within n s
within_parts n s e =
    let x = and_parts _ _ e in let y = and_parts _ _ x.0 in let z = and_parts _ _ y.0 in
    record { dir = leb-true _ _ z.0; name = leb-true _ _ z.1; bytes = leb-true _ _ y.1; end = leb-true _ _ x.1 }

pub within_from : (n : ℕ) (s : Slot) → Within n s → is_within n s ≡ true
within_from n s w = and_from _ _ (and_from _ _ (and_from _ _ (le-leb _ _ w.dir) (le-leb _ _ w.name)) (le-leb _ _ w.bytes)) (le-leb _ _ w.end)

pub within_more : (n m : ℕ) (s : Slot) → n ≤ m → is_within n s ≡ true → is_within m s ≡ true
within_more n m s h e = let w = within_parts n s e in let last = w.end in within_from m s (record { dir = w.dir; name = w.name; bytes = w.bytes; end = omega arith })

pub all_within_more : (n m : ℕ) (ss : List Slot) → n ≤ m → list_all (is_within n) ss ≡ true → list_all (is_within m) ss ≡ true
all_within_more n m [] h e = refl
all_within_more n m (s ∷ ss) h e = let p = and_parts (is_within n s) (list_all (is_within n) ss) e in and_from _ _ (within_more n m s h p.0) (all_within_more n m ss h p.1)

range_kept : (xs ys : List ℕ) (i j : ℕ) → i ≤ j → j ≤ length xs → slice_range (xs ++ ys) i j ≡ slice_range xs i j
range_kept xs ys i j h k =
    let left : j - i ≤ length (drop i xs) = omega (arith, length-drop i xs) in
    ap (take (j - i)) (drop-append-le i xs ys (omega arith)) ∙ take-append-le (j - i) (drop i xs) ys left

take_all : (n : ℕ) (xs : List ℕ) → n ≡ length xs → take n xs ≡ xs
take_all n xs e = ap (λ k. take k xs) e ∙ take-length xs

range_grown : (xs ys : List ℕ) (i j k : ℕ) → i ≤ length xs → j ≡ length xs → k ≡ length xs + length ys → slice_range (xs ++ ys) i k ≡ slice_range xs i j ++ ys
range_grown xs ys i j k h e f =
    let split = drop-append-le i xs ys h in
    let all : k - i ≡ length (drop i xs ++ ys) = omega (arith, length-append (drop i xs) ys, length-drop i xs) in
    let one : j - i ≡ length (drop i xs) = omega (arith, length-drop i xs) in
    ap (take (k - i)) split ∙ take_all (k - i) (drop i xs ++ ys) all ∙ ap (λ t. t ++ ys) (sym (take_all (j - i) (drop i xs) one))

pub target_kept : (held p : List ℕ) (s : Slot) → is_within (length held) s ≡ true → target_at (held ++ p) s ≡ target_at held s
target_kept held p s e =
    let w = within_parts (length held) s e in
    let a = w.dir in let b = w.name in let c = w.bytes in let d = w.end in
    rw (range_kept held p s.dir s.name a (omega arith), range_kept held p s.name s.bytes b (omega arith), range_kept held p s.bytes s.end c d) refl

pub targets_kept : (held p : List ℕ) (ss : List Slot) → list_all (is_within (length held)) ss ≡ true → map (target_at (held ++ p)) ss ≡ map (target_at held) ss
targets_kept held p [] e = refl
targets_kept held p (s ∷ ss) e =
    let q = and_parts (is_within (length held) s) (list_all (is_within (length held)) ss) e in
    let one = target_kept held p s q.0 in let more = targets_kept held p ss q.1 in cc

grown_last : (p : List ℕ) (t : Begun) (ts : List Begun) → last_grown p (ts ++ t ∷ []) ≡ ts ++ (record t { bytes = t.bytes ++ p }) ∷ []
grown_last p t [] = refl
grown_last p t (u ∷ []) = refl
grown_last p t (u ∷ v ∷ ts) = ap (λ x. u ∷ x) (grown_last p t (v ∷ ts))

finished_last : (t : Begun) (ts : List Begun) → last_finished (ts ++ t ∷ []) ≡ ts ++ (record t { finished = true }) ∷ []
finished_last t [] = refl
finished_last t (u ∷ []) = refl
finished_last t (u ∷ v ∷ ts) = ap (λ x. u ∷ x) (finished_last t (v ∷ ts))

pub finished_at : (held : List ℕ) (ss : List Slot) (any : Bool) (s : Slot) → any ≡ true → targets_at held ss any (record s { finished = true }) ≡ last_finished (targets_at held ss any s)
finished_at held ss false s e = cc
finished_at held ss true s e = sym (finished_last (target_at held s) (map (target_at held) ss))

-- the last target grows by p
pub grown_at : (held p : List ℕ) (ss : List Slot) (any : Bool) (s : Slot) (end : ℕ) → any ≡ true → list_all (is_within (length held)) ss ≡ true → is_within (length held) s ≡ true → s.end ≡ length held → end ≡ length held + length p
    → targets_at (held ++ p) ss any (record s { end = end }) ≡ last_grown p (targets_at held ss any s)
grown_at held p ss false s end e each last at to = cc
grown_at held p ss true s end e each last at to =
    let w = within_parts (length held) s last in
    let a = w.dir in let b = w.name in let c = w.bytes in
    let one = range_kept held p s.dir s.name a (omega arith) in
    let two = range_kept held p s.name s.bytes b (omega arith) in
    let three = range_grown held p s.bytes s.end end (omega arith) at to in
    rw (targets_kept held p ss each, one, two, three) (sym (grown_last p (target_at held s) (map (target_at held) ss)))

range_none : (xs : List ℕ) (i : ℕ) → slice_range xs i i ≡ []
range_none xs i = let none : i - i ≡ 0 = omega arith in ap (λ n. take n (drop i xs)) none

pub within_all : (n : ℕ) (ss : List Slot) (any : Bool) (s : Slot) → list_all (is_within n) ss ≡ true → is_within n s ≡ true → list_all (is_within n) (ss ++ (if any then s ∷ [] else [])) ≡ true
within_all n ss true s each last = list_all-append (is_within n) ss (s ∷ []) ∙ and_from _ _ each (and_from _ _ last refl)
within_all n ss false s each last = list_all-append (is_within n) ss [] ∙ and_from _ _ each refl

pub within_grown : (n m : ℕ) (s : Slot) → n ≤ m → is_within n s ≡ true → is_within m (record s { end = m }) ≡ true
within_grown n m s h e =
    let w = within_parts n s e in let b = w.bytes in let d = w.end in
    within_from m (record s { end = m }) (record { dir = w.dir; name = w.name; bytes = omega arith; end = omega arith })

-- a new last target
pub begun_at : (held dir name : List ℕ) (i j k : ℕ) → i ≡ length held → j ≡ length held + length dir → k ≡ length held + (length dir + length name)
    → target_at ((held ++ dir) ++ name) (record { dir = i; name = j; bytes = k; end = k; finished = false }) ≡ begun dir name
begun_at held dir name i j k e f g =
    let n = length-append held dir in
    let one = range_kept (held ++ dir) name i j (omega arith) (omega arith) in
    let two = range_grown held dir i i j (omega arith) e f in
    let three = range_grown (held ++ dir) name j j k (omega arith) (omega arith) (omega arith) in
    rw (one, two, three, range_none held i, range_none (held ++ dir) j, range_none ((held ++ dir) ++ name) k) refl

-- the earlier ones, the last of them, and a new one
pub added_at : (held dir name : List ℕ) (ss : List Slot) (any : Bool) (s : Slot) (ss' : List Slot) (i j k : ℕ)
    → list_all (is_within (length held)) ss ≡ true → is_within (length held) s ≡ true → ss' ≡ ss ++ (if any then s ∷ [] else []) → (any ≡ false → length ss ≡ 0)
    → i ≡ length held → j ≡ length held + length dir → k ≡ length held + (length dir + length name)
    → targets_at ((held ++ dir) ++ name) ss' true (record { dir = i; name = j; bytes = k; end = k; finished = false }) ≡ targets_at held ss any s ++ begun dir name ∷ []
added_at held dir name ss any s ss' i j k each last is none e f g =
    let t = begun_at held dir name i j k e f g in
    let all = within_all (length held) ss any s each last in
    let kept : map (target_at ((held ++ dir) ++ name)) (ss ++ (if any then s ∷ [] else [])) ≡ map (target_at held) (ss ++ (if any then s ∷ [] else []))
    = ap (λ h. map (target_at h) (ss ++ (if any then s ∷ [] else []))) (append_assoc held dir name) ∙ targets_kept held (dir ++ name) _ all in
    let moved : map (target_at held) (ss ++ (if any then s ∷ [] else [])) ≡ targets_at held ss any s = mapped any in
    ap (λ x. map (target_at ((held ++ dir) ++ name)) x ++ target_at ((held ++ dir) ++ name) (record { dir = i; name = j; bytes = k; end = k; finished = false }) ∷ []) is
    ∙ ap (λ x. x ++ target_at ((held ++ dir) ++ name) (record { dir = i; name = j; bytes = k; end = k; finished = false }) ∷ []) (kept ∙ moved)
    ∙ ap (λ x. targets_at held ss any s ++ x ∷ []) t
  where
    mapped : (b : Bool) → map (target_at held) (ss ++ (if b then s ∷ [] else [])) ≡ targets_at held ss b s
    mapped true = map-append (target_at held) ss (s ∷ [])
    mapped false = map-append (target_at held) ss []

pub grown_none : (ts : List Begun) → last_grown [] ts ≡ ts
grown_none [] = refl
grown_none (t ∷ []) = ap (λ b. record t { bytes = b } ∷ []) (append-nil t.bytes)
grown_none (t ∷ u ∷ ts) = ap (λ x. t ∷ x) (grown_none (u ∷ ts))

-- what a shelf keeps as its bytes grow
pub each_grown : (held held' p : List ℕ) (ss : List Slot) → held' ≡ held ++ p → list_all (is_within (length held)) ss ≡ true → list_all (is_within (length held')) ss ≡ true
each_grown held held' p ss is e = let le : length held ≤ length held' = omega (arith, length-append held p, ap length is) in all_within_more _ _ ss le e

pub last_grown_within : (held held' p : List ℕ) (s : Slot) (end : ℕ) → held' ≡ held ++ p → end ≡ length held' → is_within (length held) s ≡ true → is_within (length held') (record s { end = end }) ≡ true
last_grown_within held held' p s end is to e =
    let le : length held ≤ length held' = omega (arith, length-append held p, ap length is) in
    rw to (within_grown (length held) (length held') s le e)

pub grown_as : (held held' p : List ℕ) (ss : List Slot) (any : Bool) (s : Slot) (end : ℕ) → held' ≡ held ++ p → end ≡ length held' → any ≡ true
    → list_all (is_within (length held)) ss ≡ true → is_within (length held) s ≡ true → s.end ≡ length held
    → targets_at held' ss any (record s { end = end }) ≡ last_grown p (targets_at held ss any s)
grown_as held held' p ss any s end is to there each last at =
    let sum : end ≡ length held + length p = omega (arith, length-append held p, ap length is) in
    ap (λ h. targets_at h ss any (record s { end = end })) is ∙ grown_at held p ss any s end there each last at sum

-- what a shelf keeps as a target is added
pub added_each : (held held' p : List ℕ) (ss ss' : List Slot) (any : Bool) (s : Slot) → held' ≡ held ++ p → ss' ≡ ss ++ (if any then s ∷ [] else [])
    → list_all (is_within (length held)) ss ≡ true → is_within (length held) s ≡ true → list_all (is_within (length held')) ss' ≡ true
added_each held held' p ss ss' any s is more each last =
    let le : length held ≤ length held' = omega (arith, length-append held p, ap length is) in
    ap (λ x. list_all (is_within (length held')) x) more ∙ all_within_more (length held) (length held') (ss ++ (if any then s ∷ [] else [])) le (within_all (length held) ss any s each last)

pub added_as : (held one held' dir name : List ℕ) (ss ss' : List Slot) (any : Bool) (s : Slot) (i j k : ℕ) → one ≡ held ++ dir → held' ≡ one ++ name → ss' ≡ ss ++ (if any then s ∷ [] else [])
    → (any ≡ false → length ss ≡ 0) → list_all (is_within (length held)) ss ≡ true → is_within (length held) s ≡ true
    → i ≡ length held → j ≡ length one → k ≡ length held'
    → targets_at held' ss' true (record { dir = i; name = j; bytes = k; end = k; finished = false }) ≡ targets_at held ss any s ++ begun dir name ∷ []
added_as held one held' dir name ss ss' any s i j k is is' more none each last e f g =
    let a : length one ≡ length held + length dir = ap length is ∙ length-append held dir in
    let b : length held' ≡ length one + length name = ap length is' ∙ length-append one name in
    let whole : held' ≡ (held ++ dir) ++ name = is' ∙ ap (λ x. x ++ name) is in
    ap (λ h. targets_at h ss' true (record { dir = i; name = j; bytes = k; end = k; finished = false })) whole
    ∙ added_at held dir name ss any s ss' i j k each last more none e (f ∙ a) (omega arith)

pub added_within : (held one held' : List ℕ) (dir name : List ℕ) (i j k : ℕ) → one ≡ held ++ dir → held' ≡ one ++ name → i ≡ length held → j ≡ length one → k ≡ length held'
    → is_within (length held') (record { dir = i; name = j; bytes = k; end = k; finished = false }) ≡ true
added_within held one held' dir name i j k is is' e f g =
    let a : length one ≡ length held + length dir = ap length is ∙ length-append held dir in
    let b : length held' ≡ length one + length name = ap length is' ∙ length-append one name in
    within_from (length held') (record { dir = i; name = j; bytes = k; end = k; finished = false }) (record { dir = omega arith; name = omega arith; bytes = omega arith; end = omega arith })

pub asked_as : (told : Bool) (asked dir name : List ℕ) → (told ≡ true → asked ≡ dir ++ name)
    → IfSome (if told then Some (take (length dir) asked, drop (length dir) asked) else None) (λ (w : List ℕ × List ℕ). w ≡ (dir, name))
asked_as false asked dir name h = tt
asked_as true asked dir name h = rw (h refl, take-append_seam dir name, drop-append_seam dir name) refl

-- whether the last one is open
is_last_open-append : (ts : List Begun) (t : Begun) → is_last_open (ts ++ t ∷ []) ≡ not t.finished
is_last_open-append [] t = refl
is_last_open-append (u ∷ []) t = refl
is_last_open-append (u ∷ v ∷ ts) t = is_last_open-append (v ∷ ts) t

pub open_at : (held : List ℕ) (ss : List Slot) (any : Bool) (s : Slot) → (any ≡ false → length ss ≡ 0) → any && not s.finished ≡ is_last_open (targets_at held ss any s)
open_at held ss true s none = sym (is_last_open-append (map (target_at held) ss) (target_at held s))
open_at held [] false s none = refl
open_at held (x ∷ ss) false s none = absurd (omega (arith, none refl))

-- how many bytes targets take
pub room-append : (a b : List Begun) → room_of (a ++ b) ≡ room_of a + room_of b
room-append [] b = let none : room_of b ≡ 0 + room_of b = omega arith in none
room-append (t ∷ a) b = let more = room-append a b in omega arith

room-grown : (p : List ℕ) (t : Begun) (ts : List Begun) → room_of (last_grown p (ts ++ t ∷ [])) ≡ room_of (ts ++ t ∷ []) + length p
room-grown p t ts =
    let grown : Begun = record t { bytes = t.bytes ++ p } in
    let a : room_of (last_grown p (ts ++ t ∷ [])) ≡ room_of ts + (length t.dir + (length t.name + length (t.bytes ++ p)) + 0)
    = ap room_of (grown_last p t ts) ∙ room-append ts (grown ∷ []) in
    let b : room_of (ts ++ t ∷ []) ≡ room_of ts + (length t.dir + (length t.name + length t.bytes) + 0) = room-append ts (t ∷ []) in
    let n = length-append t.bytes p in
    omega arith

room-finished : (ts : List Begun) → room_of (last_finished ts) ≡ room_of ts
room-finished [] = refl
room-finished (t ∷ []) = refl
room-finished (t ∷ u ∷ ts) = ap (λ n. length t.dir + (length t.name + length t.bytes) + n) (room-finished (u ∷ ts))

pub filled-grown : (held held' p : List ℕ) (ss : List Slot) (any : Bool) (s : Slot) (end : ℕ) → held' ≡ held ++ p → end ≡ length held' → any ≡ true
    → list_all (is_within (length held)) ss ≡ true → is_within (length held) s ≡ true → s.end ≡ length held
    → room_of (targets_at held ss any s) ≡ length held → room_of (targets_at held' ss any (record s { end = end })) ≡ length held'
filled-grown held held' p ss false s end is to there each last at filled = cc
filled-grown held held' p ss true s end is to there each last at filled =
    let a = ap room_of (grown_as held held' p ss true s end is to there each last at) ∙ room-grown p (target_at held s) (map (target_at held) ss) in
    let b : length held' ≡ length held + length p = ap length is ∙ length-append held p in
    a ∙ ap (λ n. n + length p) filled ∙ sym b

pub filled-finished : (held : List ℕ) (ss : List Slot) (any : Bool) (s : Slot) → any ≡ true
    → room_of (targets_at held ss any s) ≡ length held → room_of (targets_at held ss any (record s { finished = true })) ≡ length held
filled-finished held ss any s there filled = ap room_of (finished_at held ss any s there) ∙ room-finished (targets_at held ss any s) ∙ filled

pub filled-added : (held one held' dir name : List ℕ) (ss ss' : List Slot) (any : Bool) (s : Slot) (i j k : ℕ) → one ≡ held ++ dir → held' ≡ one ++ name → ss' ≡ ss ++ (if any then s ∷ [] else [])
    → (any ≡ false → length ss ≡ 0) → list_all (is_within (length held)) ss ≡ true → is_within (length held) s ≡ true
    → i ≡ length held → j ≡ length one → k ≡ length held' → room_of (targets_at held ss any s) ≡ length held
    → room_of (targets_at held' ss' true (record { dir = i; name = j; bytes = k; end = k; finished = false })) ≡ length held'
filled-added held one held' dir name ss ss' any s i j k is is' more none each last e f g filled =
    let a : length one ≡ length held + length dir = ap length is ∙ length-append held dir in
    let b : length held' ≡ length one + length name = ap length is' ∙ length-append one name in
    let all : room_of (targets_at held' ss' true (record { dir = i; name = j; bytes = k; end = k; finished = false }))
    ≡ room_of (targets_at held ss any s) + (length dir + (length name + 0) + 0)
    = ap room_of (added_as held one held' dir name ss ss' any s i j k is is' more none each last e f g) ∙ room-append (targets_at held ss any s) (begun dir name ∷ []) in
    omega arith
