-- The ids of a link's locators and footnotes are apart: by the order of its lists, and since all ids are apart.
use Rattle.std.proofs.Common.{◌≡◌, ◌∙◌, ℕ, Bool, true, false, not, if◌then◌else◌, List, [], ◌∷◌, ◌++◌, map, flat_map, refl, sym, ap, subst, bytes_eq, inl, inr}
use Rattle.std.specs.List.{list_any, list_all}
use Rattle.std.specs.Ordering.{is_lt, on, ordering_reverse}
use Rattle.std.specs.Cmp.Lexicographic.{on_texts}
use Rattle.std.proofs.lemmas.Bool.{and_parts, or_parts, or_from, or_left, or_right}
use Rattle.std.proofs.lemmas.List.Folds.{list_any-append}
use Rattle.std.specs.declared.cmp.Ordering.{Ordering}
use Rattle.std.specs.declared.cmp.Ordering.TheVariants.{Less, Equal, Greater}
use Rattle.ix_base.specs.declared.content.Footnote.{Footnote}
use Rattle.ix_base.specs.declared.content.NoteLink.{NoteLink}
use Rattle.page_constructs.proofs.SpanLaws.{bytes-one, bytes-same, bytes-apart, either, and_both}
use Rattle.ix_base.specs.SortedLists.{text_cmp}
use Rattle.instance_lines.specs.Lists.{are_apart, strictly, has, is_within}
use Rattle.instance_out.specs.Proper.{same_note, counted_once}
use Rattle.instance_out.proofs.RunLaws.{Each}

pub not-is : (b : Bool) → not b ≡ true → b ≡ false
not-is true h = sym h
not-is false h = refl

-- x stands in a list, as are_apart asks
abbrev in' : List (List ℕ) → List ℕ → Bool
in' xs x = list_any (bytes_eq x) xs

less-is : (o : Ordering) → is_lt o ≡ true → o ≡ Less
less-is Less h = refl
less-is Equal h = absurd (cc)
less-is Greater h = absurd (cc)

less-apart : (x y : List ℕ) → text_cmp x y ≡ Less → bytes_eq x y ≡ false
less-apart x y l = bytes-apart x y (λ e. (let s : text_cmp x x ≡ Less = subst (λ z. text_cmp x z ≡ Less) (sym e) l in let f : Less ≡ Greater = sym s ∙ (on_texts (λ (t : List ℕ). t)).antisymm x x ∙ ap ordering_reverse s in cc))

-- what is less than the first of a rising list is none of it
less-out : (x : List ℕ) (ys : List (List ℕ)) → strictly text_cmp (x ∷ ys) ≡ true → in' ys x ≡ false
less-out x [] h = refl
less-out x (y ∷ []) h = let q = and_parts (is_lt (text_cmp x y)) true h in or_from (bytes_eq x y) false (less-apart x y (less-is (text_cmp x y) q.0)) refl
less-out x (y ∷ z ∷ zs) h =
    let q = and_parts (is_lt (text_cmp x y)) (strictly text_cmp (y ∷ z ∷ zs)) h in
    let r = and_parts (is_lt (text_cmp y z)) (strictly text_cmp (z ∷ zs)) q.1 in
    let past = (on_texts (λ (t : List ℕ). t)).trans x y z (less-is (text_cmp x y) q.0) (less-is (text_cmp y z) r.0) in
    or_from (bytes_eq x y) (in' (z ∷ zs) x) (less-apart x y (less-is (text_cmp x y) q.0))
    (less-out x (z ∷ zs) (and_both (is_lt (text_cmp x z)) (strictly text_cmp (z ∷ zs)) (ap is_lt past) r.1))

rest-strict : (x : List ℕ) (ys : List (List ℕ)) → strictly text_cmp (x ∷ ys) ≡ true → strictly text_cmp ys ≡ true
rest-strict x [] h = refl
rest-strict x (y ∷ ys) h = (and_parts (is_lt (text_cmp x y)) (strictly text_cmp (y ∷ ys)) h).1

pub strictly-apart : (xs : List (List ℕ)) → strictly text_cmp xs ≡ true → are_apart xs ≡ true
strictly-apart [] h = refl
strictly-apart (x ∷ xs) h = and_both (not (in' xs x)) (are_apart xs) (ap not (less-out x xs h)) (strictly-apart xs (rest-strict x xs h))

-- the ids of a rising list by id rise
ids-strict : (fs : List Footnote) → strictly (on (λ f. f.id) text_cmp) fs ≡ true → strictly text_cmp (map (λ f. f.id) fs) ≡ true
ids-strict [] h = refl
ids-strict (f ∷ []) h = refl
ids-strict (f ∷ g ∷ gs) h =
    let q = and_parts (is_lt (text_cmp f.id g.id)) (strictly (on (λ f. f.id) text_cmp) (g ∷ gs)) h in
    and_both (is_lt (text_cmp f.id g.id)) (strictly text_cmp (map (λ f. f.id) (g ∷ gs))) q.0 (ids-strict (g ∷ gs) q.1)

-- none of the one list is in the other
abbrev AreOut : List (List ℕ) → List (List ℕ) → Bool
AreOut xs ys = list_all (λ x. not (in' ys x)) xs

join-apart : (xs ys : List (List ℕ)) → are_apart xs ≡ true → are_apart ys ≡ true → AreOut xs ys ≡ true → are_apart (xs ++ ys) ≡ true
join-apart [] ys a b o = b
join-apart (x ∷ xs) ys a b o =
    let p = and_parts (not (in' xs x)) (are_apart xs) a in
    let q = and_parts (not (in' ys x)) (AreOut xs ys) o in
    and_both (not (in' (xs ++ ys) x)) (are_apart (xs ++ ys))
    (ap not (list_any-append (bytes_eq x) xs ys ∙ or_from (in' xs x) (in' ys x) (not-is (in' xs x) p.0) (not-is (in' ys x) q.0)))
    (join-apart xs ys p.1 b q.1)

split-apart : (xs ys : List (List ℕ)) → are_apart (xs ++ ys) ≡ true → AreOut xs ys ≡ true
split-apart [] ys h = refl
split-apart (x ∷ xs) ys h =
    let p = and_parts (not (in' (xs ++ ys) x)) (are_apart (xs ++ ys)) h in
    let q = or_parts (in' xs x) (in' ys x) (sym (list_any-append (bytes_eq x) xs ys) ∙ not-is (in' (xs ++ ys) x) p.0) in
    and_both (not (in' ys x)) (AreOut xs ys) (ap not q.1) (split-apart xs ys p.1)

pub rest-apart : (xs ys : List (List ℕ)) → are_apart (xs ++ ys) ≡ true → are_apart ys ≡ true
rest-apart [] ys h = h
rest-apart (x ∷ xs) ys h = rest-apart xs ys (and_parts (not (in' (xs ++ ys) x)) (are_apart (xs ++ ys)) h).1

-- Lists within lists.

abbrev pub Within : List (List ℕ) → List (List ℕ) → Type 0
Within xs ys = (b : List ℕ) → has xs b ≡ true → has ys b ≡ true

within-is : (xs ys : List (List ℕ)) → is_within xs ys ≡ true → Within xs ys
within-is [] ys h b e = absurd (cc)
within-is (x ∷ xs) ys h b e =
    let q = and_parts (has ys x) (is_within xs ys) h in
    elim (either (bytes_eq x b)) as (λ o. has ys b ≡ true) [
      | inl s ↦ subst (λ z. has ys z ≡ true) (bytes-one x b s) q.0
      | inr n ↦ within-is xs ys q.1 b (rw n at e)
    ]

-- both ways of asking are one
turned : (xs : List (List ℕ)) (b : List ℕ) → in' xs b ≡ true → has xs b ≡ true
turned [] b h = absurd (cc)
turned (x ∷ xs) b h = elim (either (bytes_eq b x)) as (λ o. has (x ∷ xs) b ≡ true) [
  | inl s ↦ or_left (bytes_eq x b) (has xs b) (subst (λ z. bytes_eq x z ≡ true) (sym (bytes-one b x s)) (bytes-same x))
  | inr n ↦ or_right (bytes_eq x b) (has xs b) (turned xs b (rw n at h))
]

back-turned : (xs : List (List ℕ)) (b : List ℕ) → has xs b ≡ true → in' xs b ≡ true
back-turned [] b h = absurd (cc)
back-turned (x ∷ xs) b h = elim (either (bytes_eq x b)) as (λ o. in' (x ∷ xs) b ≡ true) [
  | inl s ↦ or_left (bytes_eq b x) (in' xs b) (subst (λ z. bytes_eq z x ≡ true) (bytes-one x b s) (bytes-same x))
  | inr n ↦ or_right (bytes_eq b x) (in' xs b) (back-turned xs b (rw n at h))
]

all-out : (xs ys : List (List ℕ)) → AreOut xs ys ≡ true → (b : List ℕ) → has xs b ≡ true → has ys b ≡ false
all-out [] ys h b e = absurd (cc)
all-out (x ∷ xs) ys h b e =
    let q = and_parts (not (in' ys x)) (AreOut xs ys) h in
    elim (either (bytes_eq x b)) as (λ o. has ys b ≡ false) [
      | inl s ↦ (elim (either (has ys b)) as (λ o. has ys b ≡ false) [
        | inl y ↦ absurd (let f : true ≡ false = sym (back-turned ys x (subst (λ z. has ys z ≡ true) (sym (bytes-one x b s)) y)) ∙ not-is (in' ys x) q.0 in cc)
        | inr z ↦ z
      ])
      | inr n ↦ all-out xs ys q.1 b (rw n at e)
    ]

-- lists within two lists that are out of each other are too
out-within : (xs ys us vs : List (List ℕ)) → Within xs us → Within ys vs → AreOut us vs ≡ true → AreOut xs ys ≡ true
out-within [] ys us vs p q o = refl
out-within (x ∷ xs) ys us vs p q o =
    and_both (not (in' ys x)) (AreOut xs ys) (ap not here) (out-within xs ys us vs (λ b h. p b (or_right (bytes_eq x b) (has xs b) h)) q o)
  where
    here : in' ys x ≡ false
    here = elim (either (in' ys x)) as (λ z. in' ys x ≡ false) [
      | inl y ↦ absurd (let f : true ≡ false = sym (q x (turned ys x y)) ∙ all-out us vs o x (p x (or_left (bytes_eq x x) (has xs x) (bytes-same x))) in cc)
      | inr z ↦ z
    ]

-- what is counted once keeps its ids
ids-any : (f : Footnote) (fs : List Footnote) → list_any (same_note f) fs ≡ true → has (map (λ g. g.id) fs) f.id ≡ true
ids-any f [] h = absurd (cc)
ids-any f (g ∷ fs) h = elim (either (same_note f g)) as (λ o. has (map (λ g. g.id) (g ∷ fs)) f.id ≡ true) [
  | inl s ↦ or_left (bytes_eq g.id f.id) (has (map (λ g. g.id) fs) f.id) (subst (λ z. bytes_eq z f.id ≡ true) (bytes-one f.id g.id (first s)) (bytes-same f.id))
  | inr n ↦ or_right (bytes_eq g.id f.id) (has (map (λ g. g.id) fs) f.id) (ids-any f fs (rw n at h))
]
  where
    first : same_note f g ≡ true → bytes_eq f.id g.id ≡ true
    first s = (and_parts _ _ (and_parts _ _ (and_parts _ _ (and_parts _ _ s).0).0).0).0

pub counted-ids : (fs : List Footnote) → Within (map (λ f. f.id) fs) (map (λ f. f.id) (counted_once fs))
counted-ids [] b h = h
counted-ids (f ∷ fs) b h = by (list_any (same_note f) fs) refl (counted-ids fs)
  where
    by : (x : Bool) → list_any (same_note f) fs ≡ x → Within (map (λ f. f.id) fs) (map (λ f. f.id) (counted_once fs)) → has (map (λ f. f.id) (if x then counted_once fs else f ∷ counted_once fs)) b ≡ true
    by true e ih = elim (either (bytes_eq f.id b)) as (λ o. has (map (λ f. f.id) (counted_once fs)) b ≡ true) [
      | inl s ↦ ih b (subst (λ z. has (map (λ f. f.id) fs) z ≡ true) (bytes-one f.id b s) (ids-any f fs e))
      | inr n ↦ ih b (rw n at h)
    ]
    by false e ih = elim (either (bytes_eq f.id b)) as (λ o. has (map (λ f. f.id) (f ∷ counted_once fs)) b ≡ true) [
      | inl s ↦ or_left (bytes_eq f.id b) (has (map (λ f. f.id) (counted_once fs)) b) s
      | inr n ↦ or_right (bytes_eq f.id b) (has (map (λ f. f.id) (counted_once fs)) b) (ih b (rw n at h))
    ]

-- The ids of one link.
pub link-apart : (locs facts all : List (List ℕ)) (fs : List Footnote) → strictly text_cmp locs ≡ true → strictly (on (λ f. f.id) text_cmp) fs ≡ true → is_within locs facts ≡ true
    → Within (map (λ f. f.id) fs) all → are_apart (facts ++ all) ≡ true → are_apart (locs ++ map (λ f. f.id) fs) ≡ true
link-apart locs facts all fs l f w n a =
    join-apart locs (map (λ f. f.id) fs) (strictly-apart locs l) (strictly-apart (map (λ f. f.id) fs) (ids-strict fs f))
    (out-within locs (map (λ f. f.id) fs) facts all (within-is locs facts w) n (split-apart facts all a))

has-left : (xs ys : List Footnote) → Within (map (λ f. f.id) xs) (map (λ f. f.id) (xs ++ ys))
has-left [] ys b h = absurd (cc)
has-left (x ∷ xs) ys b h = elim (either (bytes_eq x.id b)) as (λ o. has (map (λ f. f.id) (x ∷ (xs ++ ys))) b ≡ true) [
  | inl s ↦ or_left (bytes_eq x.id b) (has (map (λ f. f.id) (xs ++ ys)) b) s
  | inr n ↦ or_right (bytes_eq x.id b) (has (map (λ f. f.id) (xs ++ ys)) b) (has-left xs ys b (rw n at h))
]

has-right : (xs ys : List Footnote) → Within (map (λ f. f.id) ys) (map (λ f. f.id) (xs ++ ys))
has-right [] ys b h = h
has-right (x ∷ xs) ys b h = or_right (bytes_eq x.id b) (has (map (λ f. f.id) (xs ++ ys)) b) (has-right xs ys b h)

-- the ids of each link's footnotes are among those of all
pub notes-within : (ls : List NoteLink) (all : List (List ℕ)) → Within (map (λ f. f.id) (flat_map (λ l. l.footnotes) ls)) all → Each (λ l. Within (map (λ f. f.id) l.footnotes) all) ls
notes-within [] all s = tt
notes-within (l ∷ ls) all s =
    (λ b h. s b (has-left l.footnotes (flat_map (λ l. l.footnotes) ls) b h), notes-within ls all (λ b h. s b (has-right l.footnotes (flat_map (λ l. l.footnotes) ls) b h)))
