-- Contexts and units are alike exactly where their normal forms are equal.
use Rattle.std.proofs.Common.{◌≡◌, ◌≢◌, ◌∙◌, Bool, true, false, ◌&&◌, ℕ, suc, ℤ, ◌+◌, ◌<◌, List, [], ◌∷◌, length, drop, get_or, Option, Some, None, refl, sym, ap}
use Rattle.std.specs.Bool.{Decides}
use Rattle.std.proofs.lemmas.Bool.Decides.{Decides-int_eq, not_from_Decides}
use Rattle.std.proofs.lemmas.Slice.Eq.{bytes_eq-Decides}
use Rattle.std.proofs.lemmas.List.{drop_more}
use Rattle.ix_base.specs.declared.content.Context.{Context}
use Rattle.ix_base.specs.declared.content.Dim.{Dim}
use Rattle.ix_base.specs.declared.content.Member.{Member}
use Rattle.ix_base.specs.declared.content.Member.TheVariants as member
use Rattle.ix_base.specs.declared.content.OwnName.{OwnName}
use Rattle.ix_base.specs.declared.content.Period.{Period}
use Rattle.ix_base.specs.declared.content.Period.TheVariants as period
use Rattle.ix_base.specs.declared.content.Unit.{Unit as UnitContent}
use Rattle.ix_base.specs.declared.kind.Kind.{Kind}
use Rattle.ix_base.specs.Alike.{same_each, same_member, same_dim, same_period, same_context, same_unit, same_forms}
use Rattle.ix_base.specs.Kinds.{kind_of}
use Rattle.ix_base.specs.LocatedElements.{Located}
use Rattle.ix_base.specs.OwnNames.{same_own}
use Rattle.ix_base.specs.Trees.{Tree}

-- a test and a further one
pub both : {P Q R : Type 0} (a b : Bool) → Decides a P → Decides b Q → (P → Q → R) → (R → P) → (R → Q) → Decides (a && b) R
both true b d e make first second = (λ h. make (d.0 refl) (e.0 h), λ r. e.1 (second r))
both false b d e make first second = (λ h. absurd (let z : false ≡ true = h in cc), λ r. absurd (let z : false ≡ true = d.1 (first r) in cc))

abbrev head_or : {X : Type 0} → X → List X → X
head_or d [] = d
head_or d (x ∷ xs) = x

abbrev tail : {X : Type 0} → List X → List X
tail [] = []
tail (x ∷ xs) = xs

module _ {X : Type 0} (same : X → X → Bool) (decides : (x y : X) → Decides (same x y) (x ≡ y)) where
  pub each-Decides : (xs ys : List X) → Decides (same_each same xs ys) (xs ≡ ys)
  each-Decides [] [] = (λ h. refl, λ e. refl)
  each-Decides [] (y ∷ ys) = (λ h. absurd (let z : false ≡ true = h in cc), λ e. absurd (cc))
  each-Decides (x ∷ xs) [] = (λ h. absurd (let z : false ≡ true = h in cc), λ e. absurd (cc))
  each-Decides (x ∷ xs) (y ∷ ys) = both (same x y) (same_each same xs ys) (decides x y) (each-Decides xs ys)
      (λ p q i. p i ∷ q i) (λ e. ap (head_or x) e) (λ e. ap tail e)

-- lists of different lengths aren't alike
pub each_longer : {X : Type 0} (same : X → X → Bool) (xs ys : List X) → (length xs ≡ length ys → ⊥) → same_each same xs ys ≡ false
each_longer same [] [] h = absurd (h refl)
each_longer same [] (y ∷ ys) h = refl
each_longer same (x ∷ xs) [] h = refl
each_longer same (x ∷ xs) (y ∷ ys) h = by (same x y) (each_longer same xs ys (λ e. h (ap (λ n. suc n) e)))
  where
    by : (b : Bool) → same_each same xs ys ≡ false → (b && same_each same xs ys) ≡ false
    by true e = e
    by false e = refl

-- one item further
pub each_step : {X : Type 0} (same : X → X → Bool) (xs ys : List X) (i : ℕ) (d e : X) → i < length xs → i < length ys
    → same_each same (drop i xs) (drop i ys) ≡ (same (get_or xs i d) (get_or ys i e) && same_each same (drop (i + 1) xs) (drop (i + 1) ys))
each_step same xs ys i d e l m = λ j. same_each same (drop_more xs i d l j) (drop_more ys i e m j)

pub own-Decides : (a b : OwnName) → Decides (same_own a b) (a ≡ b)
own-Decides a b = both _ _ (bytes_eq-Decides a.ns b.ns) (bytes_eq-Decides a.local b.local)
    (λ p q i. record { ns = p i; local = q i }) (ap (λ n. n.ns)) (ap (λ n. n.local))

-- the name and the text of a member
abbrev name_of : Member → OwnName
name_of (member.Explicit n) = n
name_of (member.Typed n t) = n

abbrev text_of : Member → List ℕ
text_of (member.Explicit n) = []
text_of (member.Typed n t) = t

pub member-Decides : (m n : Member) → Decides (same_member m n) (m ≡ n)
member-Decides (member.Explicit m) (member.Explicit n) = let d = own-Decides m n in (λ h. ap (λ x. member.Explicit x) (d.0 h), λ e. d.1 (ap name_of e))
member-Decides (member.Explicit m) (member.Typed n t) = (λ h. absurd (let z : false ≡ true = h in cc), λ e. absurd (cc))
member-Decides (member.Typed m t) (member.Explicit n) = (λ h. absurd (let z : false ≡ true = h in cc), λ e. absurd (cc))
member-Decides (member.Typed m t) (member.Typed n u) = both _ _ (own-Decides m n) (bytes_eq-Decides t u)
    (λ p q i. member.Typed (p i) (q i)) (ap name_of) (ap text_of)

pub dim-Decides : (a b : Dim) → Decides (same_dim a b) (a ≡ b)
dim-Decides a b = both _ _ (own-Decides a.dimension b.dimension) (member-Decides a.member b.member)
    (λ p q i. record { dimension = p i; member = q i }) (ap (λ d. d.dimension)) (ap (λ d. d.member))

-- the ends of a period, if it has any
abbrev first_end : Period → ℤ → ℤ
first_end (period.Instant a) d = a
first_end (period.Duration a b) d = a
first_end period.Forever d = d

abbrev last_end : Period → ℤ → ℤ
last_end (period.Instant a) d = a
last_end (period.Duration a b) d = b
last_end period.Forever d = d

pub period-Decides : (p q : Period) → Decides (same_period p q) (p ≡ q)
period-Decides (period.Instant a) (period.Instant b) = let d = Decides-int_eq a b in (λ h. ap (λ x. period.Instant x) (d.0 h), λ e. d.1 (ap (λ x. first_end x a) e))
period-Decides (period.Instant a) (period.Duration c d) = (λ h. absurd (let z : false ≡ true = h in cc), λ e. absurd (cc))
period-Decides (period.Instant a) period.Forever = (λ h. absurd (let z : false ≡ true = h in cc), λ e. absurd (cc))
period-Decides (period.Duration a b) (period.Instant c) = (λ h. absurd (let z : false ≡ true = h in cc), λ e. absurd (cc))
period-Decides (period.Duration a b) (period.Duration c d) = both _ _ (Decides-int_eq a c) (Decides-int_eq b d)
    (λ p q i. period.Duration (p i) (q i)) (ap (λ x. first_end x a)) (ap (λ x. last_end x b))
period-Decides (period.Duration a b) period.Forever = (λ h. absurd (let z : false ≡ true = h in cc), λ e. absurd (cc))
period-Decides period.Forever (period.Instant c) = (λ h. absurd (let z : false ≡ true = h in cc), λ e. absurd (cc))
period-Decides period.Forever (period.Duration c d) = (λ h. absurd (let z : false ≡ true = h in cc), λ e. absurd (cc))
period-Decides period.Forever period.Forever = (λ h. refl, λ e. refl)

-- two tests together
pair : {P Q : Type 0} (a b : Bool) → Decides a P → Decides b Q → Decides (a && b) (P × Q)
pair a b d e = both a b d e (λ p q. (p, q)) (λ r. r.0) (λ r. r.1)

-- fields, from the last one on
pub context-Decides : (a b : Context) → Decides (same_context a b) (a ≡ b)
context-Decides a b =
    let when = period-Decides a.period b.period in
    let scenario = pair _ _ (each-Decides same_dim dim-Decides a.scenario b.scenario) when in
    let segment = pair _ _ (each-Decides same_dim dim-Decides a.segment b.segment) scenario in
    let identifier = pair _ _ (bytes_eq-Decides a.identifier b.identifier) segment in
    let scheme = pair _ _ (bytes_eq-Decides a.scheme b.scheme) identifier in
    both {R = a ≡ b} _ _ (bytes_eq-Decides a.id b.id) scheme
    (λ p q i. record { id = p i; scheme = q.0 i; identifier = q.1.0 i; segment = q.1.1.0 i; scenario = q.1.1.1.0 i; period = q.1.1.1.1 i })
    (ap (λ c. c.id))
    (λ e. (ap (λ c. c.scheme) e, (ap (λ c. c.identifier) e, (ap (λ c. c.segment) e, (ap (λ c. c.scenario) e, ap (λ c. c.period) e)))))

pub unit-Decides : (a b : UnitContent) → Decides (same_unit a b) (a ≡ b)
unit-Decides a b =
    let under = each-Decides same_own own-Decides a.under b.under in
    let over = pair _ _ (each-Decides same_own own-Decides a.over b.over) under in
    both {R = a ≡ b} _ _ (bytes_eq-Decides a.id b.id) over
    (λ p q i. record { id = p i; over = q.0 i; under = q.1 i })
    (ap (λ u. u.id))
    (λ e. (ap (λ u. u.over) e, ap (λ u. u.under) e))

-- where it holds, each field does
pub context_same : (a b : Context) (told : Bool) → told ≡ same_context a b → told ≡ true → a ≡ b
context_same a b told e h = (context-Decides a b).0 (sym e ∙ h)

pub context_other : (a b : Context) (told : Bool) → told ≡ same_context a b → told ≡ false → a ≢ b
context_other a b told e h = not_from_Decides (same_context a b) (context-Decides a b) (sym e ∙ h)

pub unit_same : (a b : UnitContent) (told : Bool) → told ≡ same_unit a b → told ≡ true → a ≡ b
unit_same a b told e h = (unit-Decides a b).0 (sym e ∙ h)

pub unit_other : (a b : UnitContent) (told : Bool) → told ≡ same_unit a b → told ≡ false → a ≢ b
unit_other a b told e h = not_from_Decides (same_unit a b) (unit-Decides a b) (sym e ∙ h)

-- Elements that are alike.

-- both have the form, and it is one
pub forms-Decides : {X : Type 0} (same : X → X → Bool) → ((x y : X) → Decides (same x y) (x ≡ y)) → (o p : Option X)
    → Decides (same_forms same o p) ((x : X) × (o ≡ Some x) × (p ≡ Some x))
forms-Decides same d None p = (λ h. absurd (let z : false ≡ true = h in cc), λ s. absurd (let z : None ≡ Some s.0 = s.1 in cc))
forms-Decides same d (Some x) None = (λ h. absurd (let z : false ≡ true = h in cc), λ s. absurd (let z : None ≡ Some s.0 = s.2 in cc))
forms-Decides same d (Some x) (Some y) =
    (λ h. (x, refl, ap Some (sym ((d x y).0 h))), λ s. (d x y).1 (let a : x ≡ s.0 = (let z : Some x ≡ Some s.0 = s.1 in cc) in let b : y ≡ s.0 = (let z : Some y ≡ Some s.0 = s.2 in cc) in a ∙ sym b))

-- two elements of this kind and of one form
pub record AreOne {X : Type 0} (k : Kind) (form : Tree → Option X) (x y : Located) : Type 0 where
  pub of_x : kind_of x.placed ≡ k
  pub of_y : kind_of y.placed ≡ k
  pub said : X
  pub by_x : form x.placed.tree ≡ Some said
  pub by_y : form y.placed.tree ≡ Some said
