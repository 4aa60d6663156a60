-- Walks from the starts of chains.
use Rattle.std.proofs.Common.{◌≡◌, ◌∙◌, ◌+◌, ◌-◌, ◌<◌, ◌≤◌, ℕ, zero, suc, true, false, cond, List, [], ◌∷◌, ◌++◌, length, get_or, refl, ap, sym, subst, arith, Option, Some, None, ◌⊎◌, inl, inr, ⊎_elim, get_or-set_same, get_or-set_other}
use Rattle.std.proofs.Math.ListN.{set, get_or-append, get_or-eq_default}
use Rattle.std.proofs.Math.Seq.{get_or-append_seam}
use Rattle.std.proofs.lemmas.List.{length-append}
use Rattle.std.proofs.lemmas.Bool.{cases_eq, cases_lt}
use Rattle.std.proofs.lemmas.List.Sums.{sum_by-set, sum_by-cons}
use Rattle.std.specs.Prelude.{is_some, option_and_then}
use Rattle.std.specs.List.{sum_by}
use Rattle.continuations.specs.declared.visits.Visit.{Visit}
use Rattle.continuations.specs.Visits.{visit_at, meet_at, Met, Walking}
use Rattle.continuations.specs.Walks.{next_at, walk, Reaches}
use Rattle.continuations.proofs.Walking.{some-inj, first-step, walk-from}

some-none : {X Y : Type 0} (x : X) → None ≡ Some x → Y
some-none x e = absurd cc

-- the rest of a walk
pub walk-rest : (ns : List (Option ℕ)) (u v a b c : ℕ) → walk ns u a ≡ Some b → walk ns (u + v) a ≡ Some c → walk ns v b ≡ Some c
walk-rest ns zero v a b c h k = ap (walk ns v) (sym (some-inj a b h)) ∙ ap (λ m. walk ns m a) (omega arith) ∙ k
walk-rest ns (suc u) v a b c h k =
    let f : (n : ℕ) × (next_at ns a ≡ Some n) × (walk ns u n ≡ Some b) = first-step ns u a b h in
    let e : suc (u + v) ≡ suc u + v = omega arith in
    walk-rest ns u v f.0 b c f.2 (sym (walk-from ns (u + v) a f.0 f.1) ∙ ap (λ m. walk ns m a) e ∙ k)

-- the last step of a walk
pub walk-last : (ns : List (Option ℕ)) (t a k : ℕ) → walk ns t a ≡ Some k → walk ns (suc t) a ≡ next_at ns k
walk-last ns zero a k h = by (next_at ns a) ∙ ap (next_at ns) (some-inj a k h) where
  by : (o : Option ℕ) → option_and_then (walk ns 0) o ≡ o
  by None = refl
  by (Some n) = refl
walk-last ns (suc t) a k h =
    let f : (n : ℕ) × (next_at ns a ≡ Some n) × (walk ns t n ≡ Some k) = first-step ns t a k h in
    walk-from ns (suc t) a f.0 f.1 ∙ walk-last ns t f.0 k f.2

-- how many haven't been met
abbrev pub unmet : List (Option Visit) → ℕ
unmet visits = sum_by (λ o. cond (is_some o) 0 1) visits

pub unmet-less : (visits : List (Option Visit)) (k : ℕ) (b : Visit) → k < length visits → is_some (visit_at visits k) ≡ false → unmet (set visits k (Some b)) + 1 ≡ unmet visits
unmet-less visits k b l m =
    let f : Option Visit → ℕ = λ o. cond (is_some o) 0 1 in
    let e : sum_by f (set visits k (Some b)) + f (get_or visits k None) ≡ sum_by f visits + 0 = sum_by-set f visits k (Some b) None l in
    let h : f (get_or visits k None) ≡ 1 = ap (λ c. cond c 0 1) m in
    omega (arith, e, h)

none-is : {X : Type 0} (o : Option X) → is_some o ≡ false → o ≡ None
none-is None h = refl
none-is (Some x) h = absurd cc

pub walking-begins : (ns : List (Option ℕ)) (from : ℕ) (old : List (Option Visit)) → Walking ns from old old 0 (Some from)
walking-begins ns from old = record {
  kept = λ k b h. h;
  new = λ k b h. inl h;
  comes = refl;
  begun = inr refl;
  next = λ n e. inl (some-inj n from (sym e));
}

pub walking-on : (ns : List (Option ℕ)) (from : ℕ) (old visits : List (Option Visit)) (step : ℕ) (here : Option ℕ) (k : ℕ) (x : Visit)
    → Walking ns from old visits step here → here ≡ Some k → is_some (visit_at visits k) ≡ false → k < length visits → x ≡ record { walk = from; step = step }
    → Walking ns from old (set visits k (Some x)) (step + 1) (next_at ns k)
walking-on ns from old visits step here k x w is free l ex = record {
  kept = λ j b h. unlike j b (w.kept j b h);
  new = λ j b h. new j b h (cases_eq j k);
  comes = ap (λ m. walk ns m from) plus ∙ walk-last ns step from k (w.comes ∙ is);
  begun = inl (⊎_elim (λ b. (b.0, unlike from b.0 b.1, b.2)) (λ e. (x, at from (some-inj from k (sym e ∙ is)), ap (λ (y : Visit). y.walk) ex)) w.begun);
  next = λ n e. inr (k, e);
} where
  plus : step + 1 ≡ suc step
  plus = omega arith

  at : (j : ℕ) → j ≡ k → visit_at (set visits k (Some x)) j ≡ Some x
  at j e = ap (visit_at (set visits k (Some x))) e ∙ get_or-set_same visits k (Some x) None l

  other : (j : ℕ) → (j ≡ k → ⊥) → visit_at (set visits k (Some x)) j ≡ visit_at visits j
  other j d = get_or-set_other visits k j (Some x) None d

  unlike : (j : ℕ) (b : Visit) → visit_at visits j ≡ Some b → visit_at (set visits k (Some x)) j ≡ Some b
  unlike j b h = ⊎_elim (λ (e : j ≡ k). some-none b (sym (none-is (visit_at visits k) free) ∙ ap (visit_at visits) (sym e) ∙ h)) (λ (d : j ≡ k → ⊥). other j d ∙ h) (cases_eq j k)

  new : (j : ℕ) (b : Visit) → visit_at (set visits k (Some x)) j ≡ Some b → (j ≡ k) ⊎ (j ≡ k → ⊥)
      → (visit_at old j ≡ Some b) ⊎ ((b.walk ≡ from) × (b.step < step + 1) × (walk ns b.step from ≡ Some j)
      × ((n : ℕ) → next_at ns j ≡ Some n → ((c : Visit) × (visit_at (set visits k (Some x)) n ≡ Some c) × (c.walk ≡ from) × (c.step ≡ suc b.step)) ⊎ ((next_at ns k ≡ Some n) × (step + 1 ≡ suc b.step)))
      × ((j ≡ from) ⊎ (z : ℕ) × (next_at ns z ≡ Some j)))
  new j b h (inl e) =
      let same : x ≡ b = some-inj x b (sym (at j e) ∙ h) in
      let st : b.step ≡ step = ap (λ (y : Visit). y.step) (sym same ∙ ex) in
      inr (
        ap (λ (y : Visit). y.walk) (sym same ∙ ex),
        omega (arith, st),
        ap (λ m. walk ns m from) st ∙ w.comes ∙ is ∙ ap Some (sym e),
        (λ n f. inr (ap (next_at ns) (sym e) ∙ f, omega (arith, st))),
        w.next j (is ∙ ap Some (sym e)),
      )
  new j b h (inr d) = ⊎_elim (λ o. inl o)
      (λ r. inr (
        r.0,
        omega (arith, r.1),
        r.2,
        (λ n f. ⊎_elim (λ (c : (c : Visit) × (visit_at visits n ≡ Some c) × (c.walk ≡ from) × (c.step ≡ suc b.step)). inl (c.0, unlike n c.0 c.1, c.2, c.3))
            (λ (g : (here ≡ Some n) × (step ≡ suc b.step)).
            inl (x, at n (some-inj n k (sym g.0 ∙ is)), ap (λ (y : Visit). y.walk) ex, ap (λ (y : Visit). y.step) ex ∙ g.1)) (r.3 n f)),
        r.4,
      ))
      (w.new j b (sym (other j d) ∙ h))

abbrev New : List (Option ℕ) → ℕ → ℕ → List (Option Visit) → List (Option Visit) → Option ℕ → ℕ → Visit → Type 0
New ns from step old visits here k b = (visit_at old k ≡ Some b) ⊎ ((b.walk ≡ from) × (b.step < step) × (walk ns b.step from ≡ Some k)
    × ((n : ℕ) → next_at ns k ≡ Some n → ((c : Visit) × (visit_at visits n ≡ Some c) × (c.walk ≡ from) × (c.step ≡ suc b.step)) ⊎ ((here ≡ Some n) × (step ≡ suc b.step)))
    × ((k ≡ from) ⊎ (z : ℕ) × (next_at ns z ≡ Some k)))

-- the walks up to a number are done, and so is the one from it
pub met-more : (ns : List (Option ℕ)) (first from step : ℕ) (old visits : List (Option Visit)) (meets : List (Option ℕ)) (here : Option ℕ)
    → Met ns first from old meets → Walking ns from old visits step here → ((k : ℕ) → here ≡ Some k → (b : Visit) × (visit_at visits k ≡ Some b))
    → first ≤ from → from < length meets → ((k j : ℕ) → next_at ns k ≡ Some j → j < first) → Met ns first (from + 1) visits (set meets from here)
met-more ns first from step old visits meets here m w met high l below = record {
  at = λ k b h. at k b (w.new k b h);
  on = λ k n b h f. on k n b h f (w.new k b h);
  ends = λ k n b h f. ends k n b f (w.new k b h);
  begun = λ h low up. begun h low (cases_eq h from) up;
  low = λ k b h. lows k b (w.new k b h);
} where
  own : meet_at (set meets from here) from ≡ here
  own = get_or-set_same meets from here None l

  others : (b : ℕ) → b < from → meet_at (set meets from here) b ≡ meet_at meets b
  others b s = get_or-set_other meets from b here None (λ e. absurd (omega (arith, s, e)))

  at : (k : ℕ) (b : Visit) → New ns from step old visits here k b → (first ≤ b.walk) × (b.walk < from + 1) × (walk ns b.step b.walk ≡ Some k)
  at k b (inl o) = let r : (first ≤ b.walk) × (b.walk < from) × (walk ns b.step b.walk ≡ Some k) = m.at k b o in (r.0, omega (arith, r.1), r.2)
  at k b (inr r) = let e : b.walk ≡ from = r.0 in (omega (arith, e, high), omega (arith, e), ap (walk ns b.step) e ∙ r.2)

  most : (k : ℕ) (b : Visit) → New ns from step old visits here k b → b.walk ≤ from
  most k b (inl o) = let r : (first ≤ b.walk) × (b.walk < from) × (walk ns b.step b.walk ≡ Some k) = m.at k b o in omega (arith, r.1)
  most k b (inr r) = let e : b.walk ≡ from = r.0 in omega (arith, e)

  on : (k n : ℕ) (b : Visit) → visit_at visits k ≡ Some b → next_at ns k ≡ Some n → New ns from step old visits here k b
      → (c : Visit) × (visit_at visits n ≡ Some c) × (((c.walk ≡ b.walk) × (c.step ≡ suc b.step)) ⊎ ((meet_at (set meets from here) b.walk ≡ Some n) × (c.walk ≤ b.walk)))
  on k n b h f (inl o) =
      let r : (c : Visit) × (visit_at old n ≡ Some c) × (((c.walk ≡ b.walk) × (c.step ≡ suc b.step)) ⊎ ((meet_at meets b.walk ≡ Some n) × (c.walk ≤ b.walk))) = m.on k n b o f in
      (r.0, w.kept n r.0 r.1, ⊎_elim (λ x. inl x) (λ (x : (meet_at meets b.walk ≡ Some n) × (r.0.walk ≤ b.walk)). inr (others b.walk (m.at k b o).1 ∙ x.0, x.1)) r.2)
  on k n b h f (inr r) = ⊎_elim
      (λ (c : (c : Visit) × (visit_at visits n ≡ Some c) × (c.walk ≡ from) × (c.step ≡ suc b.step)). (c.0, c.1, inl (c.2 ∙ sym r.0, c.3)))
      (λ (g : (here ≡ Some n) × (step ≡ suc b.step)).
      let c : (b : Visit) × (visit_at visits n ≡ Some b) = met n g.0 in
      let s : c.0.walk ≤ from = most n c.0 (w.new n c.0 c.1) in
      let e : b.walk ≡ from = r.0 in
      (c.0, c.1, inr (ap (meet_at (set meets from here)) e ∙ own ∙ g.0, omega (arith, s, e))))
      (r.3 n f)

  ends : (k n : ℕ) (b : Visit) → meet_at (set meets from here) b.walk ≡ Some n → New ns from step old visits here k b → Reaches ns k n
  ends k n b f (inl o) = m.ends k n b o (sym (others b.walk (m.at k b o).1) ∙ f)
  ends k n b f (inr r) =
      let g : here ≡ Some n = sym own ∙ ap (meet_at (set meets from here)) (sym r.0) ∙ f in
      let less : b.step < step = r.1 in
      let e : step ≡ b.step + (step - b.step) = omega (arith, less) in
      (step - b.step, walk-rest ns b.step (step - b.step) from k n r.2 (ap (λ t. walk ns t from) (sym e) ∙ w.comes ∙ g))

  own-walk : (b : Visit) → New ns from step old visits here from b → b.walk ≡ from
  own-walk b (inl o) = ⊎_elim (λ (x : from < first). absurd (omega (arith, x, high))) (λ (x : from < from). absurd (omega (arith, x))) (m.low from b o)
  own-walk b (inr r) = r.0

  begun : (h : ℕ) → first ≤ h → (h ≡ from) ⊎ (h ≡ from → ⊥) → h < from + 1 → (b : Visit) × (visit_at visits h ≡ Some b) × (b.walk ≡ h)
  begun h low (inl e) up = ⊎_elim
      (λ (b : (b : Visit) × (visit_at visits from ≡ Some b) × (b.walk ≡ from)). (b.0, ap (visit_at visits) e ∙ b.1, b.2 ∙ sym e))
      (λ (g : here ≡ Some from).
      let b : (b : Visit) × (visit_at visits from ≡ Some b) = met from g in
      (b.0, ap (visit_at visits) e ∙ b.1, own-walk b.0 (w.new from b.0 b.1) ∙ sym e)) w.begun
  begun h low (inr d) up =
      let b : (b : Visit) × (visit_at old h ≡ Some b) × (b.walk ≡ h) = m.begun h low (omega (arith, d, up)) in
      (b.0, w.kept h b.0 b.1, b.2)

  lows : (k : ℕ) (b : Visit) → New ns from step old visits here k b → (k < first) ⊎ (k < from + 1)
  lows k b (inl o) = ⊎_elim (λ x. inl x) (λ (x : k < from). inr (omega (arith, x))) (m.low k b o)
  lows k b (inr r) = ⊎_elim (λ (e : k ≡ from). inr (omega (arith, e))) (λ (z : (z : ℕ) × (next_at ns z ≡ Some k)). inl (below z.0 k z.1)) r.4

pub some-is : {X : Type 0} (o : Option X) → is_some o ≡ true → (x : X) × (o ≡ Some x)
some-is None h = absurd cc
some-is (Some x) h = (x, refl)

pub unmet-small : (visits : List (Option Visit)) → unmet visits ≤ length visits
unmet-small [] = omega arith
unmet-small (b ∷ bs) =
    let f : Option Visit → ℕ = λ o. cond (is_some o) 0 1 in
    let e : unmet (b ∷ bs) ≡ f b + unmet bs = sum_by-cons f b bs in
    let h : unmet bs ≤ length bs = unmet-small bs in
    let k : f b ≤ 1 = most b in
    omega (arith, e, h, k) where
      most : (o : Option Visit) → cond (is_some o) 0 1 ≤ 1
      most None = omega arith
      most (Some x) = omega arith

-- a number that none leads to, and from which no walk is done, has no visit
pub fresh-is : (ns : List (Option ℕ)) (first upto : ℕ) (visits : List (Option Visit)) (meets : List (Option ℕ)) (h : ℕ)
    → Met ns first upto visits meets → first ≤ h → upto ≤ h → visit_at visits h ≡ None
fresh-is ns first upto visits meets h m low up = by (visit_at visits h) refl where
  by : (o : Option Visit) → visit_at visits h ≡ o → o ≡ None
  by None e = refl
  by (Some b) e = ⊎_elim (λ (x : h < first). absurd (omega (arith, x, low))) (λ (x : h < upto). absurd (omega (arith, x, up))) (m.low h b e)

-- walks lead to what walks from no later numbers met first
pub met-along : (ns : List (Option ℕ)) (first upto : ℕ) (visits : List (Option Visit)) (meets : List (Option ℕ)) → Met ns first upto visits meets
    → (t k j : ℕ) (b : Visit) → visit_at visits k ≡ Some b → walk ns t k ≡ Some j → (c : Visit) × (visit_at visits j ≡ Some c) × (c.walk ≤ b.walk)
met-along ns first upto visits meets m zero k j b h w = (b, ap (visit_at visits) (sym (some-inj k j w)) ∙ h, omega arith)
met-along ns first upto visits meets m (suc t) k j b h w =
    let f : (n : ℕ) × (next_at ns k ≡ Some n) × (walk ns t n ≡ Some j) = first-step ns t k j w in
    let c : (c : Visit) × (visit_at visits f.0 ≡ Some c) × (((c.walk ≡ b.walk) × (c.step ≡ suc b.step)) ⊎ ((meet_at meets b.walk ≡ Some f.0) × (c.walk ≤ b.walk))) = m.on k f.0 b h f.1 in
    let low : c.0.walk ≤ b.walk = ⊎_elim (λ (x : (c.0.walk ≡ b.walk) × (c.0.step ≡ suc b.step)). omega (arith, x.0)) (λ (x : (meet_at meets b.walk ≡ Some f.0) × (c.0.walk ≤ b.walk)). x.1) c.2 in
    let d : (d : Visit) × (visit_at visits j ≡ Some d) × (d.walk ≤ c.0.walk) = met-along ns first upto visits meets m t f.0 j c.0 c.1 f.2 in
    (d.0, d.1, omega (arith, d.2, low))

-- what a walk reaches was met on it, or is reached from where it met another
pub past-meet : (ns : List (Option ℕ)) (first upto : ℕ) (visits : List (Option Visit)) (meets : List (Option ℕ)) → Met ns first upto visits meets
    → (t k j : ℕ) (b c : Visit) → visit_at visits k ≡ Some b → visit_at visits j ≡ Some c → walk ns t k ≡ Some j
    → (c.walk ≡ b.walk) ⊎ (n : ℕ) × (meet_at meets b.walk ≡ Some n) × Reaches ns n j
past-meet ns first upto visits meets m zero k j b c h i w = inl (ap (λ (x : Visit). x.walk) (some-inj c b (sym i ∙ ap (visit_at visits) (sym (some-inj k j w)) ∙ h)))
past-meet ns first upto visits meets m (suc t) k j b c h i w =
    let f : (n : ℕ) × (next_at ns k ≡ Some n) × (walk ns t n ≡ Some j) = first-step ns t k j w in
    let d : (d : Visit) × (visit_at visits f.0 ≡ Some d) × (((d.walk ≡ b.walk) × (d.step ≡ suc b.step)) ⊎ ((meet_at meets b.walk ≡ Some f.0) × (d.walk ≤ b.walk))) = m.on k f.0 b h f.1 in
    let later : (c.walk ≡ d.0.walk) ⊎ (n : ℕ) × (meet_at meets d.0.walk ≡ Some n) × Reaches ns n j = past-meet ns first upto visits meets m t f.0 j d.0 c d.1 i f.2 in
    ⊎_elim
    (λ (x : (d.0.walk ≡ b.walk) × (d.0.step ≡ suc b.step)).
    ⊎_elim (λ (y : c.walk ≡ d.0.walk). inl (y ∙ x.0)) (λ (y : (n : ℕ) × (meet_at meets d.0.walk ≡ Some n) × Reaches ns n j). inr (y.0, ap (meet_at meets) (sym x.0) ∙ y.1, y.2)) later)
    (λ (x : (meet_at meets b.walk ≡ Some f.0) × (d.0.walk ≤ b.walk)). inr (f.0, x.0, (t, f.2)))
    d.2

-- of two that one walk met, the earlier reaches the later
pub forth : (ns : List (Option ℕ)) (first upto : ℕ) (visits : List (Option Visit)) (meets : List (Option ℕ)) → Met ns first upto visits meets
    → (k j : ℕ) (b c : Visit) → visit_at visits k ≡ Some b → visit_at visits j ≡ Some c → b.walk ≡ c.walk → b.step ≤ c.step → Reaches ns k j
forth ns first upto visits meets m k j b c h i e l =
    let split : b.step + (c.step - b.step) ≡ c.step = omega (arith, l) in
    (c.step - b.step, walk-rest ns b.step (c.step - b.step) b.walk k j (m.at k b h).2 (ap (λ t. walk ns t b.walk) split ∙ ap (walk ns c.step) e ∙ (m.at j c i).2))

-- of what one walk met, one reaches the earlier only round a circle
pub back : (ns : List (Option ℕ)) (first upto : ℕ) (visits : List (Option Visit)) (meets : List (Option ℕ)) → Met ns first upto visits meets
    → (t k j : ℕ) (b c : Visit) → visit_at visits k ≡ Some b → visit_at visits j ≡ Some c → c.walk ≡ b.walk → walk ns t k ≡ Some j
    → (b.step ≤ c.step) ⊎ (n : ℕ) × (d : Visit) × (meet_at meets b.walk ≡ Some n) × (visit_at visits n ≡ Some d) × (d.walk ≡ b.walk) × (d.step ≤ c.step)
back ns first upto visits meets m zero k j b c h i e w =
    let same : c ≡ b = some-inj c b (sym i ∙ ap (visit_at visits) (sym (some-inj k j w)) ∙ h) in
    let s : c.step ≡ b.step = ap (λ (x : Visit). x.step) same in inl (omega (arith, s))
back ns first upto visits meets m (suc t) k j b c h i e w =
    let f : (n : ℕ) × (next_at ns k ≡ Some n) × (walk ns t n ≡ Some j) = first-step ns t k j w in
    let d : (d : Visit) × (visit_at visits f.0 ≡ Some d) × (((d.walk ≡ b.walk) × (d.step ≡ suc b.step)) ⊎ ((meet_at meets b.walk ≡ Some f.0) × (d.walk ≤ b.walk))) = m.on k f.0 b h f.1 in
    by f.0 d.0 d.1 d.2 (λ s. back ns first upto visits meets m t f.0 j d.0 c d.1 i s f.2) (met-along ns first upto visits meets m t f.0 j d.0 d.1 f.2) where
      Round : ℕ → Type 0
      Round x = (n : ℕ) × (d : Visit) × (meet_at meets x ≡ Some n) × (visit_at visits n ≡ Some d) × (d.walk ≡ x) × (d.step ≤ c.step)

      moved : (x y : ℕ) → x ≡ y → Round x → Round y
      moved x y e r = subst Round e r

      by : (n : ℕ) (d : Visit) → visit_at visits n ≡ Some d → ((d.walk ≡ b.walk) × (d.step ≡ suc b.step)) ⊎ ((meet_at meets b.walk ≡ Some n) × (d.walk ≤ b.walk))
          → (c.walk ≡ d.walk → (d.step ≤ c.step) ⊎ Round d.walk) → (x : Visit) × (visit_at visits j ≡ Some x) × (x.walk ≤ d.walk) → (b.step ≤ c.step) ⊎ Round b.walk
      by n d g (inl x) later r = ⊎_elim (λ (y : d.step ≤ c.step). inl (omega (arith, y, x.1))) (λ (y : Round d.walk). inr (moved d.walk b.walk x.0 y)) (later (e ∙ sym x.0))
      by n d g (inr x) later r =
          let same : r.0 ≡ c = some-inj r.0 c (sym r.1 ∙ i) in
          let low : c.walk ≤ d.walk = subst (λ (y : Visit). y.walk ≤ d.walk) same r.2 in
          let high : d.walk ≤ b.walk = x.1 in
          let eq : d.walk ≡ b.walk = omega (arith, low, high, e) in
          ⊎_elim (λ (y : d.step ≤ c.step). inr (n, d, x.0, g, eq, y)) (λ (y : Round d.walk). inr (moved d.walk b.walk eq y)) (later (e ∙ sym eq))

-- before any walk
pub met-none : (ns : List (Option ℕ)) (first : ℕ) (visits : List (Option Visit)) (meets : List (Option ℕ)) → ((k : ℕ) → visit_at visits k ≡ None) → Met ns first first visits meets
met-none ns first visits meets none = record {
  at = λ k b h. some-none b (sym (none k) ∙ h);
  on = λ k j b h f. some-none b (sym (none k) ∙ h);
  ends = λ k j b h f. some-none b (sym (none k) ∙ h);
  begun = λ h low up. absurd (omega (arith, low, up));
  low = λ k b h. some-none b (sym (none k) ∙ h);
}

-- one more that no walk has met
pub none-more : (visits more : List (Option Visit)) → ((k : ℕ) → visit_at visits k ≡ None) → more ≡ visits ++ None ∷ [] → (k : ℕ) → visit_at more k ≡ None
none-more visits more none grown k = ap (λ (bs : List (Option Visit)). visit_at bs k) grown ∙ by visits k none where
  by : (bs : List (Option Visit)) (k : ℕ) → ((j : ℕ) → visit_at bs j ≡ None) → visit_at (bs ++ None ∷ []) k ≡ None
  by bs k none = ⊎_elim
      (λ (l : k < length bs). get_or-append bs (None ∷ []) None k l ∙ none k)
      (λ (l : length bs ≤ k). ⊎_elim
      (λ (e : k ≡ length bs). ap (visit_at (bs ++ None ∷ [])) e ∙ get_or-append_seam bs None [] None)
      (λ (d : k ≡ length bs → ⊥).
      let n : length (bs ++ None ∷ []) ≡ length bs + 1 = length-append bs (None ∷ []) in
      get_or-eq_default (bs ++ None ∷ []) None (omega (arith, l, d, n)))
      (cases_eq k (length bs)))
      (cases_lt k (length bs))

pub met-same : (ns : List (Option ℕ)) (first upto : ℕ) (visits bs : List (Option Visit)) (meets ms : List (Option ℕ)) → bs ≡ visits → ms ≡ meets → Met ns first upto visits meets → Met ns first upto bs ms
met-same ns first upto visits bs meets ms e f m = subst (λ (x : List (Option Visit)). Met ns first upto x ms) (sym e) (subst (λ (x : List (Option ℕ)). Met ns first upto visits x) (sym f) m)
