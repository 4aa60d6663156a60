-- What the elements of a clean set keep to, and which of them the facts of a target stand for.
use Rattle.std.proofs.Common.{◌≡◌, sym, subst, refl, ℕ, ◌≤◌, Bool, true, false, List, Option, Some, None, arith}
use Rattle.std.specs.Prelude.{◌&&◌, bytes_eq, not}
use Rattle.std.specs.List.{Contains, filter, flat_map}
use Rattle.std.specs.Option.{option_map_or}
use Rattle.std.proofs.lemmas.Slice.Eq.{bytes_eq-Decides}
use Rattle.ix_base.specs.declared.rule.Rule.{Rule}
use Rattle.ix_base.specs.declared.rule.Rule.TheVariants as rule
use Rattle.ix_base.specs.Asks.{asks}
use Rattle.ix_base.specs.ElementRules as elements
use Rattle.ix_base.specs.ElementRules.{element_rules}
use Rattle.ix_base.specs.LinkRules.{breaks, found_at, is_too_deep, link_rules, same_target, target_of}
use Rattle.ix_base.specs.LocatedElements.{Located, is_fact}
use Rattle.ix_base.specs.Membership.{deepest, owner}
use Rattle.ix_base.specs.Rows.{row}
use Rattle.targets.specs.ValidSets.{IsClean}
use Rattle.target_contents.specs.Contents.{is_outer}
use Rattle.target_contents.specs.PageSet.{PageSet, base_at, elements as elements_of}
use Rattle.targets.proofs.AboveLaws.{owner_marked}
use Rattle.target_contents.proofs.FitLaws.{flat-none, none-broken, row-none}
use Rattle.targets.proofs.ForestLaws.{StandOnce, heard, walk, walk-total}
use Rattle.targets.proofs.HeardLaws.{heard-all, heard-most, heard-of}
use Rattle.targets.proofs.StandLaws.{stand-once}
use Rattle.targets.proofs.TotalLaws.{total, total-has, total-less, total-some, when, when-has}

module _ (s : PageSet) (clean : IsClean s) where
  stands : StandOnce (elements_of s)
  stands = stand-once s.pages clean.sound

  owned : (e o : Located) → Contains (elements_of s) e → owner (asks (elements_of s)) e ≡ Some o → Contains (elements_of s) o
  owned e o h k = owner_marked s.pages e o h k

  -- no rule of elements is broken
  pub element-keeps : (r : Rule) → Contains element_rules r → (e : Located) → Contains (elements_of s) e → elements.breaks e.placed r ≡ false
  element-keeps r which e at = none-broken 0 s.pages clean.elements e at r which

  -- and none on links
  pub link-keeps : (r : Rule) → Contains link_rules r → (e : Located) → Contains (elements_of s) e → breaks (base_at s) (asks (elements_of s)) e r ≡ false
  link-keeps r which e at =
      let es = elements_of s in
      row-none (breaks (base_at s) (asks es) e r) (found_at e r)
      (flat-none (λ x. row (breaks (base_at s) (asks es) x r) (found_at x r)) es
      (flat-none (λ k. flat_map (λ x. row (breaks (base_at s) (asks es) x k) (found_at x k)) es) link_rules clean.links r which) e at)

  target-by : (e o : Located) (b : Bool) (r : Option Located) → b ≡ true → r ≡ Some o
      → (b && option_map_or (λ x. not (same_target e x)) r false) ≡ false → same_target e o ≡ true
  target-by e o true None p q h = absurd (cc)
  target-by e o true (Some x) p q h =
      let same : x ≡ o = cc in
      by (same_target e o) (subst (λ y. not (same_target e y) ≡ false) same h)
    where
      by : (c : Bool) → not c ≡ false → c ≡ true
      by true k = refl
      by false k = absurd (cc)
  target-by e o false r p q h = absurd (cc)

  keeps-target : (e o : Located) → Contains (elements_of s) e → is_fact e ≡ true → owner (asks (elements_of s)) e ≡ Some o → target_of e ≡ target_of o
  keeps-target e o at fact h =
      (bytes_eq-Decides (target_of e) (target_of o)).0
      (target-by e o (is_fact e) (owner (asks (elements_of s)) e) fact h (link-keeps rule.L10 (9, omega arith, refl) e at))

  not-deep : (e : Located) → Contains (elements_of s) e → is_too_deep (asks (elements_of s)) e ≡ false
  not-deep e at = link-keeps rule.L9 (8, omega arith, refl) e at

  module _ (target : List ℕ) where
    -- the elements that the facts of a target stand for
    abbrev pub told : List Located
    told = walk deepest (elements_of s) (filter (is_outer (asks (elements_of s)) target) (elements_of s))

    told-total : (w : Located → ℕ) → total w told ≡ total (λ f. heard (asks (elements_of s)) deepest (is_outer (asks (elements_of s)) target) (w f) f) (elements_of s)
    told-total w = walk-total (elements_of s) owned stands deepest (is_outer (asks (elements_of s)) target) w

    -- they are facts, and each once
    pub told-most : (w : Located → ℕ) → total w told ≤ total (λ e. when (is_fact e) (w e)) (elements_of s)
    told-most w =
        let es = elements_of s in
        subst (λ n. n ≤ total (λ e. when (is_fact e) (w e)) es) (sym (told-total w))
        (total-less (λ f. heard (asks es) deepest (is_outer (asks es) target) (w f) f) (λ e. when (is_fact e) (w e)) es
        (λ f h. heard-most (asks es) target deepest (w f) f))

    -- each fact of the target is one of them
    pub told-all : (w : Located → ℕ) (f : Located) → Contains (elements_of s) f → is_fact f ≡ true → bytes_eq target (target_of f) ≡ true → w f ≤ total w told
    told-all w f at fact t =
        let es = elements_of s in
        let F : Located → ℕ = λ x. heard (asks es) deepest (is_outer (asks es) target) (w x) x in
        let least : w f ≤ F f = heard-all es target owned keeps-target not-deep (w f) f at fact t in
        let there : F f ≤ total F es = total-some F es f at in
        let same : total w told ≡ total F es = told-total w in
        omega arith

    -- and they are of the target
    pub told-of : (w : Located → ℕ) → 1 ≤ total w told
        → (f : Located) × Contains (elements_of s) f × (is_fact f ≡ true) × (bytes_eq target (target_of f) ≡ true) × (1 ≤ w f)
    told-of w h =
        let es = elements_of s in
        let F : Located → ℕ = λ x. heard (asks es) deepest (is_outer (asks es) target) (w x) x in
        let found = total-has F es (subst (λ n. 1 ≤ n) (told-total w) h) in
        let f = found.0 in
        let of = heard-of es target owned keeps-target deepest (w f) f found.1 found.2 in
        let most : F f ≤ when (is_fact f) (w f) = heard-most (asks es) target deepest (w f) f in
        let some : 1 ≤ F f = found.2 in
        (f, found.1, of.0, of.1, (when-has (is_fact f) (w f) (omega arith)).1)
