-- When a tag breaks nothing.
use Rattle.std.proofs.Common.{◌≡◌, ℕ, ◌<◌, nat_lt, Bool, true, false, ◌&&◌, not, if◌then◌else◌, List, length, Option, Some, None, refl, bytes_eq}
use Rattle.std.proofs.lemmas.Bool.{lt-ltb, ltb-true}
use Rattle.std.proofs.lemmas.Slice.Eq.{bytes_eq-Decides}
use Rattle.ix_base.specs.Trees.{Bound, Head}
use Rattle.ix_base.specs.declared.rule.Rule.{Rule}
use Rattle.page_constructs.proofs.BoolLaws.{and_left, and_right, not_false, not_true}
use Rattle.page_tree.specs.Break.{Outline, inner_scope, is_outside, broken_or, broken_by_tag}
use Rattle.ix_base.specs.declared.rule.Rule.TheVariants.{W7, W8, W9, W10, W12}
use Rattle.page_tree.specs.Tags.{repeats, misrefers, misnames, scope_of, is_fair, head_of, opened, tag_break}
use Rattle.page_constructs.specs.Tokens.{Tag}

-- a rule that isn't broken, before others that aren't
pub or_none : (b : Bool) (r : Rule) (next : Option Rule) → broken_or b r next ≡ None → (b ≡ false) × (next ≡ None)
or_none true r next h = absurd (cc)
or_none false r next h = (refl, h)

pub record IsKept (n : ℕ) (o : Outline) (t : Tag) : Type 0 where
  pub fair : is_fair (inner_scope o.open_elements) t ≡ true
  pub room : length o.open_elements < n
  pub first : (is_outside o && o.rooted) ≡ false

pub tag_kept : (n : ℕ) (o : Outline) (t : Tag) → broken_by_tag n o t ≡ None → IsKept n o t
tag_kept n o t h =
    let a = or_none (repeats (scope_of (inner_scope o.open_elements) t) t.attrs) _ _ h in
    let b = or_none (misrefers t.attrs) _ _ a.1 in
    let c = or_none (misnames (scope_of (inner_scope o.open_elements) t) t) _ _ b.1 in
    let d = or_none (not (nat_lt (length o.open_elements) n)) _ _ c.1 in
    let e = or_none (is_outside o && o.rooted) _ _ d.1 in
    record {
      fair = rw (a.0, b.0, c.0) refl;
      room = ltb-true (length o.open_elements) n (not_false (nat_lt (length o.open_elements) n) d.0);
      first = e.0;
    }

pub kept_tag : (n : ℕ) (o : Outline) (t : Tag) → IsKept n o t → broken_by_tag n o t ≡ None
kept_tag n o t k =
    let all = k.fair in
    let two = and_left (not (repeats (scope_of (inner_scope o.open_elements) t) t.attrs) && not (misrefers t.attrs)) _ all in
    let a = not_true _ (and_left (not (repeats (scope_of (inner_scope o.open_elements) t) t.attrs)) (not (misrefers t.attrs)) two) in
    let b = not_true _ (and_right (not (repeats (scope_of (inner_scope o.open_elements) t) t.attrs)) (not (misrefers t.attrs)) two) in
    let c = not_true _ (and_right (not (repeats (scope_of (inner_scope o.open_elements) t) t.attrs) && not (misrefers t.attrs)) (not (misnames (scope_of (inner_scope o.open_elements) t) t)) all) in
    rw (a, b, c, lt-ltb (length o.open_elements) n k.room, k.first) refl

pub opened-fair : (scope : List Bound) (t : Tag) (h : Head) → opened scope t ≡ Some h → (is_fair scope t ≡ true) × (head_of scope t ≡ h)
unfolding opened
opened-fair scope t h = elim (is_fair scope t) as (λ b. is_fair scope t ≡ b → (if b then Some (head_of scope t) else None) ≡ Some h → (is_fair scope t ≡ true) × (head_of scope t ≡ h)) [
  | true ↦ λ f. λ e. (f, cc)
  | false ↦ λ f. λ e. absurd (cc)
] refl

pub fair-opened : (scope : List Bound) (t : Tag) → is_fair scope t ≡ true → opened scope t ≡ Some (head_of scope t)
unfolding opened
fair-opened scope t f = rw f refl

pub same_name : (m : List ℕ) → bytes_eq m m ≡ true
same_name m = (bytes_eq-Decides m m).1 refl

pub one_name : (m n : List ℕ) → bytes_eq m n ≡ true → m ≡ n
one_name m n e = (bytes_eq-Decides m n).0 e

-- the rules on attributes and namespaces, then the depth, then a second root
pub tag-broken : (n : ℕ) (o : Outline) (t : Tag) (r : Rule) → tag_break (scope_of (inner_scope o.open_elements) t) t ≡ Some r → broken_by_tag n o t ≡ Some r
tag-broken n o t r e = by1 (repeats (scope_of (inner_scope o.open_elements) t) t.attrs) (misrefers t.attrs) (misnames (scope_of (inner_scope o.open_elements) t) t) e where
  by1 : (a b c : Bool) → (if a then Some W7 else (if b then Some W8 else (if c then Some W9 else None))) ≡ Some r
      → broken_or a W7 (broken_or b W8 (broken_or c W9 (broken_or (not (nat_lt (length o.open_elements) n)) W10 (broken_or (is_outside o && o.rooted) W12 None)))) ≡ Some r
  by1 true b c q = q
  by1 false true c q = q
  by1 false false true q = q
  by1 false false false q = absurd (cc)

pub tag-unbroken : (n : ℕ) (o : Outline) (t : Tag) → tag_break (scope_of (inner_scope o.open_elements) t) t ≡ None
    → broken_by_tag n o t ≡ broken_or (not (nat_lt (length o.open_elements) n)) W10 (broken_or (is_outside o && o.rooted) W12 None)
tag-unbroken n o t e = by1 (repeats (scope_of (inner_scope o.open_elements) t) t.attrs) (misrefers t.attrs) (misnames (scope_of (inner_scope o.open_elements) t) t) e where
  rest : Option Rule
  rest = broken_or (not (nat_lt (length o.open_elements) n)) W10 (broken_or (is_outside o && o.rooted) W12 None)

  by1 : (a b c : Bool) → (if a then Some W7 else (if b then Some W8 else (if c then Some W9 else None))) ≡ None → broken_or a W7 (broken_or b W8 (broken_or c W9 rest)) ≡ rest
  by1 true b c q = absurd (cc)
  by1 false true c q = absurd (cc)
  by1 false false true q = absurd (cc)
  by1 false false false q = refl
