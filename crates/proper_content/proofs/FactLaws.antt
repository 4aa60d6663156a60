-- A fact in front of others: how deep tuples stand, and that nil tuples are empty.
use Rattle.std.proofs.Common.{◌≡◌, ◌∙◌, ℕ, suc, ◌≤◌, Bool, true, false, ◌&&◌, List, [], ◌∷◌, length, max, sym, ap, refl, arith, eqb, leb}
use Rattle.std.proofs.lemmas.Bool.{and_parts, and_from, leb-true, le-leb, ne_eqb}
use Rattle.ix_base.specs.declared.content.Fact.{Fact, out-Fact}
use Rattle.ix_base.specs.declared.content.Fact.TheOpen.{Fact-F}
use Rattle.ix_base.specs.declared.content.Fact.TheFolds.{fold_out-Fact, fold_out-Tuple}
use Rattle.ix_base.specs.declared.content.Tuple.{Tuple}
use Rattle.ix_base.specs.Facts.{Facts, none, before, facts_of}
use Rattle.instance_out.specs.Proper.{is_none_nil, nil_is_empty}
use Rattle.instance_lines.specs.Writable.{depth}
use Rattle.proper_content.proofs.ListLaws.{same_both}

le_max : (a b m : ℕ) → leb (max a b) m ≡ (leb a m && leb b m)
le_max a b m = same_both (leb (max a b) m) (leb a m && leb b m)
    (λ h. let k : max a b ≤ m = leb-true (max a b) m h in and_from (leb a m) (leb b m) (le-leb a m (omega arith)) (le-leb b m (omega arith)))
    (λ h. (let p = and_parts (leb a m) (leb b m) h in
    let k : a ≤ m = leb-true a m p.0 in
    let l : b ≤ m = leb-true b m p.1 in
    le-leb (max a b) m (omega arith)))

depth-before : (f : Fact) (rest : Facts) → depth (before f rest) ≡ max (depth (before f none)) (depth rest)
depth-before f rest = by (out-Fact f) refl
  where
    by : (o : Fact-F Fact Tuple) → out-Fact f ≡ o → depth (before f rest) ≡ max (depth (before f none)) (depth rest)
    by (Fact-F.Item i) e = rw (fold_out-Fact, e) (omega arith)
    by (Fact-F.Tuple t) e = rw (fold_out-Fact, e, fold_out-Tuple) (omega arith)

-- tuples stand at most so deep in a fact and others where they do in both
pub shallow_before : (f : Fact) (rest : Facts) (m : ℕ) → leb (depth (before f rest)) m ≡ (leb (depth (before f none)) m && leb (depth rest) m)
shallow_before f rest m = ap (λ n. leb n m) (depth-before f rest) ∙ le_max (depth (before f none)) (depth rest) m

and-true : (b c : Bool) → (b && c) ≡ ((b && true) && c)
and-true true c = refl
and-true false c = refl

-- nil tuples are empty in a fact and others where they are in both
pub nil_before : (f : Fact) (rest : Facts) → nil_is_empty (before f rest) ≡ (nil_is_empty (before f none) && nil_is_empty rest)
nil_before f rest = by (out-Fact f) refl
  where
    by : (o : Fact-F Fact Tuple) → out-Fact f ≡ o → nil_is_empty (before f rest) ≡ (nil_is_empty (before f none) && nil_is_empty rest)
    by (Fact-F.Item i) e = rw (fold_out-Fact, e) refl
    by (Fact-F.Tuple t) e = rw (fold_out-Fact, e, fold_out-Tuple) (and-true (is_none_nil t.nil (facts_of t.members) && nil_is_empty (facts_of t.members)) (nil_is_empty rest))

-- the members of a nil tuple
pub nil_members : (fs : List Fact) → (is_none_nil true (facts_of fs) && nil_is_empty (facts_of fs) && true) ≡ eqb (length fs) 0
nil_members [] = refl
nil_members (f ∷ fs) = by (out-Fact f) refl
  where
    by : (o : Fact-F Fact Tuple) → out-Fact f ≡ o → (is_none_nil true (facts_of (f ∷ fs)) && nil_is_empty (facts_of (f ∷ fs)) && true) ≡ eqb (length (f ∷ fs)) 0
    by (Fact-F.Item i) e = rw (fold_out-Fact, e) (sym (ne_eqb (suc (length fs)) 0 (λ q. omega arith)))
    by (Fact-F.Tuple t) e = rw (fold_out-Fact, e, fold_out-Tuple) (sym (ne_eqb (suc (length fs)) 0 (λ q. omega arith)))

-- and of another
pub members_not_nil : (b : Bool) → ((true && b) && true) ≡ b
members_not_nil true = refl
members_not_nil false = refl
