-- Whether one start reaches two elements.
use Rattle.std.proofs.Common.{◌≡◌, ◌∙◌, ◌+◌, ◌<◌, ◌≤◌, ℕ, zero, suc, List, [], ◌∷◌, ◌++◌, length, refl, ap, sym, subst, arith, Option, Some, None, ◌⊎◌, inl, inr, ⊎_elim}
use Rattle.std.proofs.Math.ListN.{get_or-append}
use Rattle.std.proofs.Math.Seq.{get_or-append_seam}
use Rattle.std.proofs.lemmas.List.{length-append}
use Rattle.std.specs.Prelude.{slice_index_or}
use Rattle.std.proofs.lemmas.Bool.{cases_eq}
use Rattle.std.specs.Prelude.{option_and_then}
use Rattle.continuations.specs.declared.visits.Visit.{Visit}
use Rattle.continuations.specs.Visits.{visit_at, meet_at, Met, Leads, AreFar, Shared, Behind, IsFar, merge_at}
use Rattle.continuations.specs.Walks.{next_at, walk, Reaches}
use Rattle.continuations.proofs.VisitLaws.{met-along, past-meet, forth, back}
use Rattle.continuations.proofs.Walking.{some-inj, first-step, reaches-on, reaches-both}

some-none : {X Y : Type 0} (x : X) → None ≡ Some x → Y
some-none x e = absurd cc

-- a start stands first on its own walk
module _ (ns : List (Option ℕ)) (first upto : ℕ) (visits : List (Option Visit)) (meets : List (Option ℕ)) (m : Met ns first upto visits meets) where
  -- what a walk reaches that no walk before the one that it met has met, that one reaches
  pub leads-on : (h n : ℕ) (d : Visit) → first ≤ h → h < upto → meet_at meets h ≡ Some n → visit_at visits n ≡ Some d → d.walk < h → Leads ns visits h d.walk
  leads-on h n d low up meet at less = λ j c i q. (to j c i q, from j c i q) where
    own : (b : Visit) × (visit_at visits h ≡ Some b) × (b.walk ≡ h)
    own = m.begun h low up

    theirs : (first ≤ d.walk) × (d.walk < upto) × (walk ns d.step d.walk ≡ Some n)
    theirs = m.at n d at

    start : (b : Visit) × (visit_at visits d.walk ≡ Some b) × (b.walk ≡ d.walk)
    start = m.begun d.walk theirs.0 theirs.1

    to : (j : ℕ) (c : Visit) → visit_at visits j ≡ Some c → c.walk < d.walk → Reaches ns h j → Reaches ns d.walk j
    to j c i q r = ⊎_elim
        (λ (e : c.walk ≡ own.0.walk). let o : own.0.walk ≡ h = own.2 in absurd (omega (arith, e, o, q, less)))
        (λ (x : (n : ℕ) × (meet_at meets own.0.walk ≡ Some n) × Reaches ns n j).
        let same : x.0 ≡ n = some-inj x.0 n (sym x.1 ∙ ap (meet_at meets) own.2 ∙ meet) in
        reaches-on ns d.walk n j (d.step, theirs.2) (subst (λ k. Reaches ns k j) same x.2))
        (past-meet ns first upto visits meets m r.0 h j own.0 c own.1 i r.1)

    from : (j : ℕ) (c : Visit) → visit_at visits j ≡ Some c → c.walk < d.walk → Reaches ns d.walk j → Reaches ns h j
    from j c i q r = ⊎_elim
        (λ (e : c.walk ≡ start.0.walk). let o : start.0.walk ≡ d.walk = start.2 in absurd (omega (arith, e, o, q)))
        (λ (x : (k : ℕ) × (meet_at meets start.0.walk ≡ Some k) × Reaches ns k j).
        reaches-on ns h n j (m.ends h n own.0 own.1 (ap (meet_at meets) own.2 ∙ meet))
        (reaches-on ns n x.0 j (m.ends n x.0 d at (ap (meet_at meets) (sym start.2) ∙ x.1)) x.2))
        (past-meet ns first upto visits meets m r.0 d.walk j start.0 c start.1 i r.1)

  -- a walk that met nothing, or only itself, stays with what it met
  stays : (h : ℕ) → ((n : ℕ) (d : Visit) → meet_at meets h ≡ Some n → visit_at visits n ≡ Some d → h ≤ d.walk)
      → (t k j : ℕ) (b c : Visit) → visit_at visits k ≡ Some b → b.walk ≡ h → visit_at visits j ≡ Some c → walk ns t k ≡ Some j → c.walk ≡ h
  stays h alone zero k j b c q e i w = ap (λ (x : Visit). x.walk) (some-inj c b (sym i ∙ ap (visit_at visits) (sym (some-inj k j w)) ∙ q)) ∙ e
  stays h alone (suc t) k j b c q e i w =
      let f : (n : ℕ) × (next_at ns k ≡ Some n) × (walk ns t n ≡ Some j) = first-step ns t k j w in
      let d : (d : Visit) × (visit_at visits f.0 ≡ Some d) × (((d.walk ≡ b.walk) × (d.step ≡ suc b.step)) ⊎ ((meet_at meets b.walk ≡ Some f.0) × (d.walk ≤ b.walk))) = m.on k f.0 b q f.1 in
      stays h alone t f.0 j d.0 c d.1
      (⊎_elim (λ (x : (d.0.walk ≡ b.walk) × (d.0.step ≡ suc b.step)). x.0 ∙ e)
      (λ (x : (meet_at meets b.walk ≡ Some f.0) × (d.0.walk ≤ b.walk)).
      let high : h ≤ d.0.walk = alone f.0 d.0 (ap (meet_at meets) (sym e) ∙ x.0) d.1 in
      let low : d.0.walk ≤ b.walk = x.1 in
      omega (arith, high, low, e)) d.2)
      i f.2

  pub leads-nowhere : (h j : ℕ) (c : Visit) → first ≤ h → h < upto → visit_at visits j ≡ Some c → c.walk < h
      → ((n : ℕ) (d : Visit) → meet_at meets h ≡ Some n → visit_at visits n ≡ Some d → h ≤ d.walk) → Reaches ns h j → ⊥
  leads-nowhere h j c low up i q alone r =
      let own : (b : Visit) × (visit_at visits h ≡ Some b) × (b.walk ≡ h) = m.begun h low up in
      let e : c.walk ≡ h = stays h alone r.0 h j own.0 c own.1 own.2 i r.1 in
      absurd (omega (arith, e, q))

  -- what a walk met is reached by no walk that met only what still earlier walks met
  pub leads-below : (h n j : ℕ) (d c : Visit) → first ≤ h → h < upto → meet_at meets h ≡ Some n → visit_at visits n ≡ Some d → d.walk < c.walk → visit_at visits j ≡ Some c → c.walk < h
      → Reaches ns h j → ⊥
  leads-below h n j d c low up meet at less i q r = by (past-meet ns first upto visits meets m r.0 h j own.0 c own.1 i r.1) where
    own : (b : Visit) × (visit_at visits h ≡ Some b) × (b.walk ≡ h)
    own = m.begun h low up

    by : (c.walk ≡ own.0.walk) ⊎ (n : ℕ) × (meet_at meets own.0.walk ≡ Some n) × Reaches ns n j → ⊥
    by (inl f) = let o : own.0.walk ≡ h = own.2 in absurd (omega (arith, f, o, q))
    by (inr x) =
        let same : x.0 ≡ n = some-inj x.0 n (sym x.1 ∙ ap (meet_at meets) own.2 ∙ meet) in
        let r' : Reaches ns n j = subst (λ k. Reaches ns k j) same x.2 in
        let a : (a : Visit) × (visit_at visits j ≡ Some a) × (a.walk ≤ d.walk) = met-along ns first upto visits meets m r'.0 n j d at r'.1 in
        let e : a.0 ≡ c = some-inj a.0 c (sym a.1 ∙ i) in
        let f : c.walk ≤ d.walk = subst (λ (y : Visit). y.walk ≤ d.walk) e a.2 in
        absurd (omega (arith, f, less))

  -- what two share
  pub shared-one : (x y : ℕ) (b c : Visit) → visit_at visits x ≡ Some b → visit_at visits y ≡ Some c → Reaches ns b.walk y → Shared ns first upto x y
  shared-one x y b c h i r = let a : (first ≤ b.walk) × (b.walk < upto) × (walk ns b.step b.walk ≡ Some x) = m.at x b h in (b.walk, a.0, a.1, (b.step, a.2), r)

  pub shared-visit : (h x : ℕ) → first ≤ h → h < upto → Reaches ns h x → (b : Visit) × (visit_at visits x ≡ Some b)
  shared-visit h x low up r =
      let own : (b : Visit) × (visit_at visits h ≡ Some b) × (b.walk ≡ h) = m.begun h low up in
      let a : (a : Visit) × (visit_at visits x ≡ Some a) × (a.walk ≤ own.0.walk) = met-along ns first upto visits meets m r.0 h x own.0 own.1 r.1 in
      (a.0, a.1)

  -- of two that are shared, the walk that met the later met one reaches the other
  pub shared-by : (x y : ℕ) (b c : Visit) → visit_at visits x ≡ Some b → visit_at visits y ≡ Some c → c.walk ≤ b.walk → Shared ns first upto x y → Reaches ns b.walk y
  shared-by x y b c h i l s = by (reaches-both ns (s.3).0 (s.4).0 s.0 x y (s.3).1 (s.4).1) (cases_eq b.walk c.walk) where
    at : (first ≤ b.walk) × (b.walk < upto) × (walk ns b.step b.walk ≡ Some x)
    at = m.at x b h

    at' : (first ≤ c.walk) × (c.walk < upto) × (walk ns c.step c.walk ≡ Some y)
    at' = m.at y c i

    by : Reaches ns x y ⊎ Reaches ns y x → (b.walk ≡ c.walk) ⊎ (b.walk ≡ c.walk → ⊥) → Reaches ns b.walk y
    by (inl r) e = reaches-on ns b.walk x y (b.step, at.2) r
    by (inr r) (inl e) = subst (λ k. Reaches ns k y) (sym e) (c.step, at'.2)
    by (inr r) (inr d) =
        let a : (a : Visit) × (visit_at visits x ≡ Some a) × (a.walk ≤ c.walk) = met-along ns first upto visits meets m r.0 y x c i r.1 in
        let e : a.0 ≡ b = some-inj a.0 b (sym a.1 ∙ h) in
        let f : b.walk ≤ c.walk = subst (λ (z : Visit). z.walk ≤ c.walk) e a.2 in
        absurd (d (omega (arith, f, l)))

  -- on the walk that it met, a walk reaches what stands behind the place where it met it, or where that one came back to itself
  pub leads-behind : (h n j : ℕ) (d c : Visit) → first ≤ h → h < upto → meet_at meets h ≡ Some n → visit_at visits n ≡ Some d → d.walk < h → visit_at visits j ≡ Some c → c.walk ≡ d.walk
      → Reaches ns h j → (d.step ≤ c.step) ⊎ (k : ℕ) × (x : Visit) × (meet_at meets d.walk ≡ Some k) × (visit_at visits k ≡ Some x) × (x.walk ≡ d.walk) × (x.step ≤ c.step)
  leads-behind h n j d c low up meet at less i e r = by (past-meet ns first upto visits meets m r.0 h j own.0 c own.1 i r.1) where
    own : (b : Visit) × (visit_at visits h ≡ Some b) × (b.walk ≡ h)
    own = m.begun h low up

    by : (c.walk ≡ own.0.walk) ⊎ (n : ℕ) × (meet_at meets own.0.walk ≡ Some n) × Reaches ns n j
        → (d.step ≤ c.step) ⊎ (k : ℕ) × (x : Visit) × (meet_at meets d.walk ≡ Some k) × (visit_at visits k ≡ Some x) × (x.walk ≡ d.walk) × (x.step ≤ c.step)
    by (inl f) = let o : own.0.walk ≡ h = own.2 in absurd (omega (arith, e, f, o, less))
    by (inr x) =
        let same : x.0 ≡ n = some-inj x.0 n (sym x.1 ∙ ap (meet_at meets) own.2 ∙ meet) in
        let r' : Reaches ns n j = subst (λ k. Reaches ns k j) same x.2 in
        back ns first upto visits meets m r'.0 n j d c at i e r'.1

  pub behind-leads : (h n j : ℕ) (d c : Visit) → first ≤ h → h < upto → meet_at meets h ≡ Some n → visit_at visits n ≡ Some d → visit_at visits j ≡ Some c → c.walk ≡ d.walk
      → (d.step ≤ c.step) ⊎ (k : ℕ) × (x : Visit) × (meet_at meets d.walk ≡ Some k) × (visit_at visits k ≡ Some x) × (x.walk ≡ d.walk) × (x.step ≤ c.step) → Reaches ns h j
  behind-leads h n j d c low up meet at i e r =
      reaches-on ns h n j (m.ends h n own.0 own.1 (ap (meet_at meets) own.2 ∙ meet)) (by r) where
        own : (b : Visit) × (visit_at visits h ≡ Some b) × (b.walk ≡ h)
        own = m.begun h low up

        by : (d.step ≤ c.step) ⊎ (k : ℕ) × (x : Visit) × (meet_at meets d.walk ≡ Some k) × (visit_at visits k ≡ Some x) × (x.walk ≡ d.walk) × (x.step ≤ c.step) → Reaches ns n j
        by (inl l) = forth ns first upto visits meets m n j d c at i (sym e) l
        by (inr x) = reaches-on ns n x.0 j (m.ends n x.0 d at x.2) (forth ns first upto visits meets m x.0 j x.1 c x.3 i (x.4 ∙ sym e) x.5)

pub leads-self : (ns : List (Option ℕ)) (visits : List (Option Visit)) (h : ℕ) → Leads ns visits h h
leads-self ns visits h = λ j c i l. ((λ r. r), (λ r. r))

pub leads-far : (ns : List (Option ℕ)) (visits : List (Option Visit)) (h p f : ℕ) → f ≤ p → Leads ns visits h p → Leads ns visits p f → Leads ns visits h f
leads-far ns visits h p f l u v = λ j c i q. ((λ r. (v j c i q).0 ((u j c i (omega (arith, q, l))).0 r)), (λ r. (u j c i (omega (arith, q, l))).1 ((v j c i q).1 r)))

-- where a walk met what had been met
pub merged : (visits : List (Option Visit)) (meets : List (Option ℕ)) (h : ℕ) (d : Visit) → merge_at visits meets h ≡ Some d → (n : ℕ) × (meet_at meets h ≡ Some n) × (visit_at visits n ≡ Some d)
merged visits meets h d = by (meet_at meets h) refl where
  by : (o : Option ℕ) → meet_at meets h ≡ o → option_and_then (visit_at visits) o ≡ Some d → (n : ℕ) × (meet_at meets h ≡ Some n) × (visit_at visits n ≡ Some d)
  by None e g = some-none d g
  by (Some n) e g = (n, e, g)

-- what it met is the one that is found
pub alone-by : (visits : List (Option Visit)) (meets : List (Option ℕ)) (h : ℕ) (o : Option Visit) → merge_at visits meets h ≡ o → ((d : Visit) → o ≡ Some d → h ≤ d.walk)
    → (n : ℕ) (d : Visit) → meet_at meets h ≡ Some n → visit_at visits n ≡ Some d → h ≤ d.walk
alone-by visits meets h o e l n d f g = l d (sym e ∙ ap (option_and_then (visit_at visits)) f ∙ g)

-- a step from walk to walk
pub step-leads : (ns : List (Option ℕ)) (first upto : ℕ) (visits : List (Option Visit)) (meets : List (Option ℕ)) → Met ns first upto visits meets
    → (h far low f : ℕ) (d : Visit) → first ≤ h → h < upto → first ≤ far → Leads ns visits h far → merge_at visits meets h ≡ Some d → d.walk < h → low < d.walk
    → ((f ≡ far) × (low < far) × (far < h)) ⊎ (f ≡ d.walk) → (first ≤ f) × (f < h) × (low < f) × Leads ns visits h f
step-leads ns first upto visits meets m h far low f d at up begun leads met less more (inl x) =
    let e : f ≡ far = x.0 in
    (omega (arith, e, begun), omega (arith, e, x.2), omega (arith, e, x.1), subst (Leads ns visits h) (sym e) leads)
step-leads ns first upto visits meets m h far low f d at up begun leads met less more (inr e) =
    let n : (n : ℕ) × (meet_at meets h ≡ Some n) × (visit_at visits n ≡ Some d) = merged visits meets h d met in
    let a : (first ≤ d.walk) × (d.walk < upto) × (walk ns d.step d.walk ≡ Some n.0) = m.at n.0 d n.2 in (
      omega (arith, e, a.0),
      omega (arith, e, less),
      omega (arith, e, more),
      subst (Leads ns visits h) (sym e) (leads-on ns first upto visits meets m h n.0 d at up n.1 n.2 less),
    )

-- the last step, to the walk on which the other stands
pub last-leads : (ns : List (Option ℕ)) (first upto : ℕ) (visits : List (Option Visit)) (meets : List (Option ℕ)) → Met ns first upto visits meets
    → (h j : ℕ) (d c : Visit) → first ≤ h → h < upto → merge_at visits meets h ≡ Some d → d.walk < h → visit_at visits j ≡ Some c → c.walk ≡ d.walk
    → (Behind visits meets d c → Reaches ns h j) × (Reaches ns h j → Behind visits meets d c)
last-leads ns first upto visits meets m h j d c at up met less i e = ((λ b. behind-leads ns first upto visits meets m h n.0 j d c at up n.1 n.2 i e (there b)), (λ r. here (leads-behind ns first upto visits meets m h n.0 j d c at up n.1 n.2 less i e r))) where
  n : (n : ℕ) × (meet_at meets h ≡ Some n) × (visit_at visits n ≡ Some d)
  n = merged visits meets h d met

  there : Behind visits meets d c → (d.step ≤ c.step) ⊎ (k : ℕ) × (x : Visit) × (meet_at meets d.walk ≡ Some k) × (visit_at visits k ≡ Some x) × (x.walk ≡ d.walk) × (x.step ≤ c.step)
  there (inl l) = inl l
  there (inr x) = let k : (k : ℕ) × (meet_at meets d.walk ≡ Some k) × (visit_at visits k ≡ Some x.0) = merged visits meets d.walk x.0 x.1 in inr (k.0, x.0, k.1, k.2, x.2, x.3)

  here : (d.step ≤ c.step) ⊎ (k : ℕ) × (x : Visit) × (meet_at meets d.walk ≡ Some k) × (visit_at visits k ≡ Some x) × (x.walk ≡ d.walk) × (x.step ≤ c.step) → Behind visits meets d c
  here (inl l) = inl l
  here (inr x) = inr (x.1, ap (option_and_then (visit_at visits)) x.2 ∙ x.3, x.4, x.5)

pub swap : (ns : List (Option ℕ)) (first upto x y : ℕ) → Shared ns first upto x y → Shared ns first upto y x
swap ns first upto x y s = (s.0, s.1, s.2, s.4, s.3)

pub not-shared : (ns : List (Option ℕ)) (first upto : ℕ) (visits : List (Option Visit)) (meets : List (Option ℕ)) → Met ns first upto visits meets
    → (x y : ℕ) → (visit_at visits x ≡ None) ⊎ (visit_at visits y ≡ None) → Shared ns first upto x y → ⊥
not-shared ns first upto visits meets m x y (inl e) s =
    let b : (b : Visit) × (visit_at visits x ≡ Some b) = shared-visit ns first upto visits meets m s.0 x s.1 s.2 s.3 in some-none b.0 (sym e ∙ b.1)
not-shared ns first upto visits meets m x y (inr e) s =
    let b : (b : Visit) × (visit_at visits y ≡ Some b) = shared-visit ns first upto visits meets m s.0 y s.1 s.2 s.4 in some-none b.0 (sym e ∙ b.1)

-- one far number more
pub far-more : (ns : List (Option ℕ)) (first upto : ℕ) (visits : List (Option Visit)) (meets : List (Option ℕ)) → Met ns first upto visits meets
    → (i f : ℕ) (fars more : List ℕ) → i < upto → length fars ≡ i → AreFar ns first visits fars → IsFar visits meets fars i f → more ≡ fars ++ f ∷ [] → AreFar ns first visits more
far-more ns first upto visits meets m i f fars more up len a is grown = record {
  early = λ h l. early h (below h l) (cases_eq h i);
  late = λ h low l. late h low (below h l) (cases_eq h i);
  leads = λ h low l. leads h low (below h l) (cases_eq h i);
} where
  size : length more ≡ i + 1
  size = ap length grown ∙ length-append fars (f ∷ []) ∙ omega (arith, len)

  below : (h : ℕ) → h < length more → h < i + 1
  below h l = omega (arith, l, size)

  new : (h : ℕ) → h ≡ i → slice_index_or more h 0 ≡ f
  new h e = ap (λ (xs : List ℕ). slice_index_or xs h 0) grown ∙ ap (λ k. slice_index_or (fars ++ f ∷ []) k 0) (e ∙ sym len) ∙ get_or-append_seam fars f [] 0

  old : (h : ℕ) → h < length fars → slice_index_or more h 0 ≡ slice_index_or fars h 0
  old h l = ap (λ (xs : List ℕ). slice_index_or xs h 0) grown ∙ get_or-append fars (f ∷ []) 0 h l

  within : (h : ℕ) → h < i + 1 → (h ≡ i → ⊥) → h < length fars
  within h l d = omega (arith, l, d, len)

  Good : ℕ → Type 0
  Good g = (g ≤ i) × (first ≤ i → (first ≤ g) × Leads ns visits i g)

  good : IsFar visits meets fars i f → Good f
  good (inl e) = (omega (arith, e), λ low. (omega (arith, e, low), subst (Leads ns visits i) (sym e) (leads-self ns visits i)))
  good (inr x) = by x.3 where
    n : (n : ℕ) × (meet_at meets i ≡ Some n) × (visit_at visits n ≡ Some x.0)
    n = merged visits meets i x.0 x.1

    at : (first ≤ x.0.walk) × (x.0.walk < upto) × (walk ns x.0.step x.0.walk ≡ Some n.0)
    at = m.at n.0 x.0 n.2

    d : ℕ
    d = x.0.walk

    near : first ≤ i → Leads ns visits i d
    near low = leads-on ns first upto visits meets m i n.0 x.0 low up n.1 n.2 x.2

    by : (f ≡ d) ⊎ (f ≡ slice_index_or fars (slice_index_or fars d 0) 0) → Good f
    by (inl e) = (omega (arith, e, x.2), λ low. (omega (arith, e, at.0), subst (Leads ns visits i) (sym e) (near low)))
    by (inr e) =
        let dl : d < length fars = omega (arith, x.2, len) in
        let fd : slice_index_or fars d 0 ≤ d = a.early d dl in
        let fl : slice_index_or fars d 0 < length fars = omega (arith, fd, dl) in
        let ff : slice_index_or fars (slice_index_or fars d 0) 0 ≤ slice_index_or fars d 0 = a.early (slice_index_or fars d 0) fl in
        let fb : first ≤ slice_index_or fars d 0 = a.late d at.0 dl in (
          omega (arith, e, ff, fd, x.2),
          λ low. (
            omega (arith, e, a.late (slice_index_or fars d 0) fb fl),
            subst (Leads ns visits i) (sym e)
                (leads-far ns visits i d (slice_index_or fars (slice_index_or fars d 0) 0) (omega (arith, ff, fd)) (near low)
                (leads-far ns visits d (slice_index_or fars d 0) (slice_index_or fars (slice_index_or fars d 0) 0) ff (a.leads d at.0 dl) (a.leads (slice_index_or fars d 0) fb fl))),
          ),
        )

  early : (h : ℕ) → h < i + 1 → (h ≡ i) ⊎ (h ≡ i → ⊥) → slice_index_or more h 0 ≤ h
  early h l (inl e) = let g : f ≤ i = (good is).0 in omega (arith, new h e, g, e)
  early h l (inr d) = let g : slice_index_or fars h 0 ≤ h = a.early h (within h l d) in omega (arith, old h (within h l d), g)

  late : (h : ℕ) → first ≤ h → h < i + 1 → (h ≡ i) ⊎ (h ≡ i → ⊥) → first ≤ slice_index_or more h 0
  late h low l (inl e) = let g : first ≤ f = ((good is).1 (omega (arith, low, e))).0 in omega (arith, new h e, g)
  late h low l (inr d) = let g : first ≤ slice_index_or fars h 0 = a.late h low (within h l d) in omega (arith, old h (within h l d), g)

  leads : (h : ℕ) → first ≤ h → h < i + 1 → (h ≡ i) ⊎ (h ≡ i → ⊥) → Leads ns visits h (slice_index_or more h 0)
  leads h low l (inl e) = subst (Leads ns visits h) (sym (new h e)) (subst (λ k. Leads ns visits k f) (sym e) ((good is).1 (omega (arith, low, e))).1)
  leads h low l (inr d) = subst (Leads ns visits h) (sym (old h (within h l d))) (a.leads h low (within h l d))
