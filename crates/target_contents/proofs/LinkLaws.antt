-- The rules on links that are found are those that are broken, in another order.
use Rattle.std.proofs.Common.{◌≡◌, List, [], ◌∷◌, ◌++◌, sym, subst, refl, ⊎_elim, arith}
use Rattle.std.specs.List.{Contains, flat_map}
use Rattle.std.specs.Prelude.{ℕ}
use Rattle.std.proofs.lemmas.List.Concat.{flat_map-cons}
use Rattle.std.proofs.lemmas.List.Elements.{Contains-append_cases, Contains-append_left, Contains-append_right}
use Rattle.ix_base.proofs.OnceLemmas.{Contains-cases, Contains-first, Contains-later, Contains-nil}
use Rattle.ix_base.specs.declared.breach.Found.{Found}
use Rattle.ix_base.specs.declared.rule.Rule.{Rule}
use Rattle.ix_base.specs.declared.rule.Rule.TheVariants as rule
use Rattle.ix_base.specs.Asks.{asks}
use Rattle.ix_base.specs.LinkRules.{breaking, breaks, broken, broken_at, found_at, link_rules}
use Rattle.ix_base.specs.LocatedElements.{Located}
use Rattle.ix_base.specs.Once.{SameMembers}
use Rattle.ix_base.specs.Rows.{row}
use Rattle.target_contents.specs.Faults.{redirected_at, refs_at}

flat-contains : {X Y : Type 0} (f : X → List Y) (xs : List X) (x : X) (y : Y) → Contains xs x → Contains (f x) y → Contains (flat_map f xs) y
flat-contains f [] x y h k = absurd (Contains-nil x h)
flat-contains f (z ∷ xs) x y h k =
    subst (λ (l : List _). Contains l y) (sym (flat_map-cons f z xs))
    (⊎_elim (λ (e : z ≡ x). Contains-append_left (f z) (flat_map f xs) y (subst (λ w. Contains (f w) y) (sym e) k))
    (λ later. Contains-append_right (f z) (flat_map f xs) y (flat-contains f xs x y later k)) (Contains-cases z xs x h))

flat-from : {X Y : Type 0} (f : X → List Y) (xs : List X) (y : Y) → Contains (flat_map f xs) y → (x : X) × Contains xs x × Contains (f x) y
flat-from f [] y h = absurd (Contains-nil y h)
flat-from f (z ∷ xs) y h =
    ⊎_elim (λ here. (z, Contains-first z xs, here)) (λ later. let at = flat-from f xs y later in (at.0, Contains-later z xs at.0 at.1, at.2))
    (Contains-append_cases (f z) (flat_map f xs) y (subst (λ (l : List _). Contains l y) (flat_map-cons f z xs) h))

nothing : (es : List Located) (f : Found) → Contains (flat_map (λ (e : Located). []) es) f → ⊥
nothing es f h = Contains-nil f (flat-from (λ (e : Located). []) es f h).2

module _ (bases : Located → List ℕ) (es : List Located) where
  abbrev of : Rule → List Found
  of r = flat_map (λ e. row (breaks bases (asks es) e r) (found_at e r)) es

  into : (r : Rule) (f : Found) → Contains link_rules r → Contains (of r) f → Contains (broken bases es) f
  into r f which h = flat-contains of link_rules r f which h

  -- what is found, list by list
  abbrev to-ids : List Found
  to-ids = breaking rule.L1 es

  abbrev to-refs : List Found
  to-refs = to-ids ++ flat_map (refs_at (asks es)) es

  abbrev to-L4 : List Found
  to-L4 = to-refs ++ breaking rule.L4 es

  abbrev to-L5 : List Found
  to-L5 = to-L4 ++ breaking rule.L5 es

  abbrev to-L6 : List Found
  to-L6 = to-L5 ++ breaking rule.L6 es

  abbrev to-L7 : List Found
  to-L7 = to-L6 ++ breaking rule.L7 es

  abbrev to-L8 : List Found
  to-L8 = to-L7 ++ breaking rule.L8 es

  abbrev to-L9 : List Found
  to-L9 = to-L8 ++ breaking rule.L9 es

  abbrev to-L10 : List Found
  to-L10 = to-L9 ++ breaking rule.L10 es

  abbrev to-L12 : List Found
  to-L12 = to-L10 ++ breaking rule.L12 es

  abbrev to-L13 : List Found
  to-L13 = to-L12 ++ breaking rule.L13 es

  abbrev to-L11 : List Found
  to-L11 = to-L13 ++ breaking rule.L11 es

  abbrev to-L15 : List Found
  to-L15 = to-L11 ++ breaking rule.L15 es

  abbrev to-L16 : List Found
  to-L16 = to-L15 ++ breaking rule.L16 es

  abbrev to-L14 : List Found
  to-L14 = to-L16 ++ breaking rule.L14 es

  abbrev pub to-roles : List Found
  to-roles = to-L14 ++ flat_map (redirected_at bases (asks es)) es

  from-refs : (f : Found) → Contains (flat_map (refs_at (asks es)) es) f → Contains (broken bases es) f
  from-refs f h =
      let at = flat-from (refs_at (asks es)) es f h in
      ⊎_elim (λ k. into rule.L2 f (1, omega arith, refl) (flat-contains (broken_at (asks es) rule.L2) es at.0 f at.1 k))
      (λ k. into rule.L3 f (2, omega arith, refl) (flat-contains (broken_at (asks es) rule.L3) es at.0 f at.1 k))
      (Contains-append_cases (broken_at (asks es) rule.L2 at.0) (broken_at (asks es) rule.L3 at.0) f at.2)

  there-ids : (f : Found) → Contains to-ids f → Contains (broken bases es) f
  there-ids f h = into rule.L1 f (0, omega arith, refl) h

  there-refs : (f : Found) → Contains to-refs f → Contains (broken bases es) f
  there-refs f h = ⊎_elim (there-ids f) (from-refs f) (Contains-append_cases to-ids (flat_map (refs_at (asks es)) es) f h)

  there-L4 : (f : Found) → Contains to-L4 f → Contains (broken bases es) f
  there-L4 f h = ⊎_elim (there-refs f) (into rule.L4 f (3, omega arith, refl)) (Contains-append_cases to-refs (breaking rule.L4 es) f h)

  there-L5 : (f : Found) → Contains to-L5 f → Contains (broken bases es) f
  there-L5 f h = ⊎_elim (there-L4 f) (into rule.L5 f (4, omega arith, refl)) (Contains-append_cases to-L4 (breaking rule.L5 es) f h)

  there-L6 : (f : Found) → Contains to-L6 f → Contains (broken bases es) f
  there-L6 f h = ⊎_elim (there-L5 f) (into rule.L6 f (5, omega arith, refl)) (Contains-append_cases to-L5 (breaking rule.L6 es) f h)

  there-L7 : (f : Found) → Contains to-L7 f → Contains (broken bases es) f
  there-L7 f h = ⊎_elim (there-L6 f) (into rule.L7 f (6, omega arith, refl)) (Contains-append_cases to-L6 (breaking rule.L7 es) f h)

  there-L8 : (f : Found) → Contains to-L8 f → Contains (broken bases es) f
  there-L8 f h = ⊎_elim (there-L7 f) (into rule.L8 f (7, omega arith, refl)) (Contains-append_cases to-L7 (breaking rule.L8 es) f h)

  there-L9 : (f : Found) → Contains to-L9 f → Contains (broken bases es) f
  there-L9 f h = ⊎_elim (there-L8 f) (into rule.L9 f (8, omega arith, refl)) (Contains-append_cases to-L8 (breaking rule.L9 es) f h)

  there-L10 : (f : Found) → Contains to-L10 f → Contains (broken bases es) f
  there-L10 f h = ⊎_elim (there-L9 f) (into rule.L10 f (9, omega arith, refl)) (Contains-append_cases to-L9 (breaking rule.L10 es) f h)

  there-L12 : (f : Found) → Contains to-L12 f → Contains (broken bases es) f
  there-L12 f h = ⊎_elim (there-L10 f) (into rule.L12 f (11, omega arith, refl)) (Contains-append_cases to-L10 (breaking rule.L12 es) f h)

  there-L13 : (f : Found) → Contains to-L13 f → Contains (broken bases es) f
  there-L13 f h = ⊎_elim (there-L12 f) (into rule.L13 f (12, omega arith, refl)) (Contains-append_cases to-L12 (breaking rule.L13 es) f h)

  there-L11 : (f : Found) → Contains to-L11 f → Contains (broken bases es) f
  there-L11 f h = ⊎_elim (there-L13 f) (into rule.L11 f (10, omega arith, refl)) (Contains-append_cases to-L13 (breaking rule.L11 es) f h)

  there-L15 : (f : Found) → Contains to-L15 f → Contains (broken bases es) f
  there-L15 f h = ⊎_elim (there-L11 f) (into rule.L15 f (14, omega arith, refl)) (Contains-append_cases to-L11 (breaking rule.L15 es) f h)

  there-L16 : (f : Found) → Contains to-L16 f → Contains (broken bases es) f
  there-L16 f h = ⊎_elim (there-L15 f) (into rule.L16 f (15, omega arith, refl)) (Contains-append_cases to-L15 (breaking rule.L16 es) f h)

  there-L14 : (f : Found) → Contains to-L14 f → Contains (broken bases es) f
  there-L14 f h = ⊎_elim (there-L16 f) (into rule.L14 f (13, omega arith, refl)) (Contains-append_cases to-L16 (breaking rule.L14 es) f h)

  there-roles : (f : Found) → Contains to-roles f → Contains (broken bases es) f
  there-roles f h = ⊎_elim (there-L14 f) (into rule.L17 f (16, omega arith, refl)) (Contains-append_cases to-L14 (flat_map (redirected_at bases (asks es)) es) f h)

  kept-roles : (f : Found) → Contains to-roles f → Contains to-roles f
  kept-roles f h = h

  kept-L14 : (f : Found) → Contains to-L14 f → Contains to-roles f
  kept-L14 f h = kept-roles f (Contains-append_left to-L14 (flat_map (redirected_at bases (asks es)) es) f h)

  kept-L16 : (f : Found) → Contains to-L16 f → Contains to-roles f
  kept-L16 f h = kept-L14 f (Contains-append_left to-L16 (breaking rule.L14 es) f h)

  kept-L15 : (f : Found) → Contains to-L15 f → Contains to-roles f
  kept-L15 f h = kept-L16 f (Contains-append_left to-L15 (breaking rule.L16 es) f h)

  kept-L11 : (f : Found) → Contains to-L11 f → Contains to-roles f
  kept-L11 f h = kept-L15 f (Contains-append_left to-L11 (breaking rule.L15 es) f h)

  kept-L13 : (f : Found) → Contains to-L13 f → Contains to-roles f
  kept-L13 f h = kept-L11 f (Contains-append_left to-L13 (breaking rule.L11 es) f h)

  kept-L12 : (f : Found) → Contains to-L12 f → Contains to-roles f
  kept-L12 f h = kept-L13 f (Contains-append_left to-L12 (breaking rule.L13 es) f h)

  kept-L10 : (f : Found) → Contains to-L10 f → Contains to-roles f
  kept-L10 f h = kept-L12 f (Contains-append_left to-L10 (breaking rule.L12 es) f h)

  kept-L9 : (f : Found) → Contains to-L9 f → Contains to-roles f
  kept-L9 f h = kept-L10 f (Contains-append_left to-L9 (breaking rule.L10 es) f h)

  kept-L8 : (f : Found) → Contains to-L8 f → Contains to-roles f
  kept-L8 f h = kept-L9 f (Contains-append_left to-L8 (breaking rule.L9 es) f h)

  kept-L7 : (f : Found) → Contains to-L7 f → Contains to-roles f
  kept-L7 f h = kept-L8 f (Contains-append_left to-L7 (breaking rule.L8 es) f h)

  kept-L6 : (f : Found) → Contains to-L6 f → Contains to-roles f
  kept-L6 f h = kept-L7 f (Contains-append_left to-L6 (breaking rule.L7 es) f h)

  kept-L5 : (f : Found) → Contains to-L5 f → Contains to-roles f
  kept-L5 f h = kept-L6 f (Contains-append_left to-L5 (breaking rule.L6 es) f h)

  kept-L4 : (f : Found) → Contains to-L4 f → Contains to-roles f
  kept-L4 f h = kept-L5 f (Contains-append_left to-L4 (breaking rule.L5 es) f h)

  kept-refs : (f : Found) → Contains to-refs f → Contains to-roles f
  kept-refs f h = kept-L4 f (Contains-append_left to-refs (breaking rule.L4 es) f h)

  kept-ids : (f : Found) → Contains to-ids f → Contains to-roles f
  kept-ids f h = kept-refs f (Contains-append_left to-ids (flat_map (refs_at (asks es)) es) f h)

  in-ids : (f : Found) → Contains (breaking rule.L1 es) f → Contains to-roles f
  in-ids f h = kept-ids f h

  in-refs : (f : Found) → Contains (flat_map (refs_at (asks es)) es) f → Contains to-roles f
  in-refs f h = kept-refs f (Contains-append_right to-ids (flat_map (refs_at (asks es)) es) f h)

  in-L4 : (f : Found) → Contains (breaking rule.L4 es) f → Contains to-roles f
  in-L4 f h = kept-L4 f (Contains-append_right to-refs (breaking rule.L4 es) f h)

  in-L5 : (f : Found) → Contains (breaking rule.L5 es) f → Contains to-roles f
  in-L5 f h = kept-L5 f (Contains-append_right to-L4 (breaking rule.L5 es) f h)

  in-L6 : (f : Found) → Contains (breaking rule.L6 es) f → Contains to-roles f
  in-L6 f h = kept-L6 f (Contains-append_right to-L5 (breaking rule.L6 es) f h)

  in-L7 : (f : Found) → Contains (breaking rule.L7 es) f → Contains to-roles f
  in-L7 f h = kept-L7 f (Contains-append_right to-L6 (breaking rule.L7 es) f h)

  in-L8 : (f : Found) → Contains (breaking rule.L8 es) f → Contains to-roles f
  in-L8 f h = kept-L8 f (Contains-append_right to-L7 (breaking rule.L8 es) f h)

  in-L9 : (f : Found) → Contains (breaking rule.L9 es) f → Contains to-roles f
  in-L9 f h = kept-L9 f (Contains-append_right to-L8 (breaking rule.L9 es) f h)

  in-L10 : (f : Found) → Contains (breaking rule.L10 es) f → Contains to-roles f
  in-L10 f h = kept-L10 f (Contains-append_right to-L9 (breaking rule.L10 es) f h)

  in-L12 : (f : Found) → Contains (breaking rule.L12 es) f → Contains to-roles f
  in-L12 f h = kept-L12 f (Contains-append_right to-L10 (breaking rule.L12 es) f h)

  in-L13 : (f : Found) → Contains (breaking rule.L13 es) f → Contains to-roles f
  in-L13 f h = kept-L13 f (Contains-append_right to-L12 (breaking rule.L13 es) f h)

  in-L14 : (f : Found) → Contains (breaking rule.L14 es) f → Contains to-roles f
  in-L14 f h = kept-L14 f (Contains-append_right to-L16 (breaking rule.L14 es) f h)

  in-L11 : (f : Found) → Contains (breaking rule.L11 es) f → Contains to-roles f
  in-L11 f h = kept-L11 f (Contains-append_right to-L13 (breaking rule.L11 es) f h)

  in-L15 : (f : Found) → Contains (breaking rule.L15 es) f → Contains to-roles f
  in-L15 f h = kept-L15 f (Contains-append_right to-L11 (breaking rule.L15 es) f h)

  in-L16 : (f : Found) → Contains (breaking rule.L16 es) f → Contains to-roles f
  in-L16 f h = kept-L16 f (Contains-append_right to-L15 (breaking rule.L16 es) f h)

  in-roles : (f : Found) → Contains (flat_map (redirected_at bases (asks es)) es) f → Contains to-roles f
  in-roles f h = kept-roles f (Contains-append_right to-L14 (flat_map (redirected_at bases (asks es)) es) f h)

  in-ref : (r : Rule) (f : Found) → ((e : Located) → Contains (broken_at (asks es) r e) f → Contains (refs_at (asks es) e) f) → Contains (breaking r es) f → Contains to-roles f
  in-ref r f g h =
      let at = flat-from (broken_at (asks es) r) es f h in
      in-refs f (flat-contains (refs_at (asks es)) es at.0 f at.1 (g at.0 at.2))

  back-of : (r : Rule) (f : Found) → Contains (of r) f → Contains to-roles f
  back-of rule.L1 f h = in-ids f h
  back-of rule.L2 f h = in-ref rule.L2 f (λ e k. Contains-append_left (broken_at (asks es) rule.L2 e) (broken_at (asks es) rule.L3 e) f k) h
  back-of rule.L3 f h = in-ref rule.L3 f (λ e k. Contains-append_right (broken_at (asks es) rule.L2 e) (broken_at (asks es) rule.L3 e) f k) h
  back-of rule.L4 f h = in-L4 f h
  back-of rule.L5 f h = in-L5 f h
  back-of rule.L6 f h = in-L6 f h
  back-of rule.L7 f h = in-L7 f h
  back-of rule.L8 f h = in-L8 f h
  back-of rule.L9 f h = in-L9 f h
  back-of rule.L10 f h = in-L10 f h
  back-of rule.L12 f h = in-L12 f h
  back-of rule.L13 f h = in-L13 f h
  back-of rule.L14 f h = in-L14 f h
  back-of rule.L11 f h = in-L11 f h
  back-of rule.L15 f h = in-L15 f h
  back-of rule.L16 f h = in-L16 f h
  back-of rule.L17 f h = in-roles f h
  back-of r f h = absurd (nothing es f h)

  pub same-broken : SameMembers to-roles (broken bases es)
  same-broken = record {
    there = there-roles;
    back = λ f h. let at = flat-from of link_rules f h in back-of at.0 f at.2;
  }
