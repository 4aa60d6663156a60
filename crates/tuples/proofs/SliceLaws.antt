-- Members that are kept by place, owner by owner.
use Rattle.std.proofs.Common.{◌≡◌, ◌∙◌, ◌++◌, ◌+◌, ◌<◌, length, take, get_or, ℕ, Bool, true, false, cond, List, [], ◌∷◌, refl, ap, sym, Option, Some, None, ◌||◌, arith}
use Rattle.std.proofs.lemmas.Bool.Decides.{nat_tests}
use Rattle.std.proofs.lemmas.List.{take_more}
use Rattle.std.specs.Prelude.{◌&&◌, ◌==◌, Vec}
use Rattle.std.specs.Option.{option_map_or}
use Rattle.std.specs.Global.{Global}
use Rattle.std.specs.List.{list_any, filter, All}
use Rattle.indexmap.specs.IndexMap.{IndexMap}
use Rattle.ix_base.specs.Asks.{asks}
use Rattle.ix_base.specs.LocatedElements.{Located, is_fact}
use Rattle.ix_base.specs.SortedLists.{sorted}
use Rattle.id_table.specs.Slices.{put_first}
use Rattle.id_table.proofs.SliceLaws.{same-key}
use Rattle.tuples.specs.declared.fact.Fact.{Fact}
use Rattle.tuples.specs.FactGroups.{group_at}
use Rattle.tuples.specs.MemberTables.{members_at, AreGrouped}
use Rattle.tuples.specs.OwnedFacts.{all_seen, fact_cmp, is_owned_at, IsKnown}
use Rattle.tuples.proofs.MemberLaws.{members-are}

-- what is put in where the test holds may be told in other words there
put-same : (old : Option (List Located)) (b : Bool) (x y : List Located) → (b ≡ true → x ≡ y) → put_first old b x ≡ put_first old b y
put-same (Some z) b x y h = refl
put-same None true x y h = ap Some (h refl)
put-same None false x y h = refl

turned : (m n : ℕ) → (m == n) ≡ (n == m)
turned m n = grind (arith, nat_tests)

-- the members of the tuple at a place were put there
pub put-owned : {S : Type 0} (m : IndexMap (ℕ × ℕ) (Vec Fact Global) S) (es : List Located) (old : Option (List Located)) (k l page offset : ℕ) → AreGrouped m es
    → put_first old ((k == page) && (l == offset)) (all_seen (group_at m k l)) ≡ put_first old ((page == k) && (offset == l)) (members_at es page offset)
put-owned m es old k l page offset g =
    put-same old ((k == page) && (l == offset)) _ (members_at es page offset) (λ e. g.members k l ∙ same-key (members_at es) k l page offset e)
    ∙ (λ i. put_first old (turned k page i && turned l offset i) (members_at es page offset))

-- some are kept where one of the facts so far is owned
abbrev pub kept_if : Bool → List Located → Option (List Located)
kept_if true l = Some l
kept_if false l = None

pub kept-more : (b c : Bool) (l : List Located) → put_first (kept_if b l) c l ≡ kept_if (b || c) l
kept-more true c l = refl
kept-more false true l = refl
kept-more false false l = refl

or-false : (b c : Bool) → (b || c) ≡ false → (b ≡ false) × (c ≡ false)
or-false true c h = absurd (cc)
or-false false c h = (refl, h)

none-owned : (p : Fact → Bool) (fs : List Fact) → list_any p fs ≡ false → filter p fs ≡ []
none-owned p [] h = refl
none-owned p (f ∷ fs) h =
    let parts = or-false (p f) (list_any p fs) h in
    ap (λ b. cond b (f ∷ filter p fs) (filter p fs)) parts.0 ∙ none-owned p fs parts.1

pub put-none : (old : Option (List Located)) (x : List Located) → put_first old false x ≡ old
put-none None x = refl
put-none (Some y) x = refl

nothing-sorted : (p : Fact → Bool) (fs : List Fact) → list_any p fs ≡ false → all_seen (sorted fact_cmp (filter p fs)) ≡ []
unfolding sorted
nothing-sorted p fs h = ap (λ l. all_seen (sorted fact_cmp l)) (none-owned p fs h)

-- where no fact is owned there are no members
pub listed-is : (es : List Located) (facts : List Fact) (page offset : ℕ) (b : Bool) → list_any (is_owned_at page offset) facts ≡ b
    → all_seen facts ≡ filter is_fact es → All (IsKnown (asks es)) facts
    → option_map_or (λ l. l) (kept_if b (members_at es page offset)) [] ≡ members_at es page offset
listed-is es facts page offset true h e known = refl
listed-is es facts page offset false h e known =
    sym (nothing-sorted (is_owned_at page offset) facts h) ∙ members-are es facts page offset e known

any-append : (p : Fact → Bool) (xs : List Fact) (y : Fact) → list_any p (xs ++ y ∷ []) ≡ (list_any p xs || p y)
any-append p [] y = by (p y) where
  by : (b : Bool) → (b || false) ≡ (false || b)
  by true = refl
  by false = refl
any-append p (x ∷ xs) y = by (p x) (list_any p xs) (p y) (list_any p (xs ++ y ∷ [])) (any-append p xs y) where
  by : (a b c d : Bool) → d ≡ (b || c) → (a || d) ≡ ((a || b) || c)
  by true b c d e = refl
  by false b c d e = e

pub any-more : (p : Fact → Bool) (facts : List Fact) (i : ℕ) (f : Fact) → i < length facts → f ≡ get_or facts i f
    → list_any p (take (i + 1) facts) ≡ (list_any p (take i facts) || p f)
any-more p facts i f l e =
    ap (list_any p) (take_more facts i f l ∙ ap (λ x. take i facts ++ x ∷ []) (sym e)) ∙ any-append p (take i facts) f
