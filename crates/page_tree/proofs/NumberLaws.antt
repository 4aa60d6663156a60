-- The numbers of namespaces.
use Rattle.std.proofs.Common.{◌≡◌, ◌==◌, ◌∙◌, ◌<◌, ℕ, Bool, true, false, List, [], ◌∷◌, ◌++◌, Some, None, ap, arith, flat_map, get_or, length, map, refl, subst, suc, sym, zero, bytes_eq}
use Rattle.std.specs.Prelude.{if◌then◌else◌}
use Rattle.std.proofs.lemmas.Bool.{eq-eqb, eqb-true}
use Rattle.std.proofs.lemmas.List.{map-append}
use Rattle.std.proofs.lemmas.List.Elements.{All-contains, All-cons, All-head, All-nil, All-push, All-same, All-tail}
use Rattle.std.proofs.lemmas.Slice.Eq.{bytes_eq-Decides}
use Rattle.ix_base.specs.Namespaces.{xml_namespace}
use Rattle.ix_base.specs.Spaces.{AreNumbered, Space, space_bound, space_of, spaces_bound, spaces_in, spaces_named}
use Rattle.ix_base.specs.declared.tree.Binding.{Binding}
use Rattle.text_map.specs.Texts.{Texts, get_in}
use Rattle.page_tree.specs.Spaces.{AreApart, HasNumber, HaveNumbers, Keeps, number_in}
use Rattle.page_tree.specs.Buildings.{state_of}
use Rattle.page_tree.specs.Stacks.{AreAll, pages_built, spaces_built, spaces_open}
use Rattle.page_tree.specs.Effects.{Becomes}
use Rattle.page_tree.specs.declared.tree.Building.{Building}
use Rattle.page_tree.specs.declared.opened.Open.{Open}
use Rattle.page_tree.proofs.BuiltLaws.{all-left, all-right}

one-text : (a b : List ℕ) → bytes_eq a b ≡ true → a ≡ b
one-text a b e = (bytes_eq-Decides a b).0 e

same-text : (a b : List ℕ) → a ≡ b → bytes_eq a b ≡ true
same-text a b e = (bytes_eq-Decides a b).1 e

same-number : (n m : ℕ) → Some n ≡ Some m → n ≡ m
same-number n m e = cc

-- which number is found for a text
pub number-xml : (t : Texts ℕ) (ns : List ℕ) → bytes_eq ns [] ≡ false → bytes_eq ns xml_namespace ≡ true → number_in t ns ≡ Some 1
number-xml t ns e x = rw (e, x) refl

pub number-met : (t : Texts ℕ) (ns : List ℕ) → bytes_eq ns [] ≡ false → bytes_eq ns xml_namespace ≡ false → number_in t ns ≡ get_in t ns
number-met t ns e x = rw (e, x) refl

pub some-text : (ns : List ℕ) → (length ns == 0) ≡ false → bytes_eq ns [] ≡ false
some-text [] h = absurd (cc)
some-text (c ∷ ns) h = refl

-- who keeps the numbers of some, has those
pub kept-all : (old new : Texts ℕ) (spaces : List Space) → Keeps old new → HaveNumbers old spaces → HaveNumbers new spaces
kept-all old new [] k h = All-nil (HasNumber new)
kept-all old new (s ∷ spaces) k h =
    All-cons (HasNumber new) s spaces (k s.text s.number (All-head (HasNumber old) s spaces h)) (kept-all old new spaces k (All-tail (HasNumber old) s spaces h))

-- one more declaration, with its number
pub bindings-more : (old new : Texts ℕ) (before more : List Binding) (b : Binding) → more ≡ before ++ b ∷ [] → Keeps old new → HaveNumbers old (map space_bound before)
    → HasNumber new (space_bound b) → HaveNumbers new (map space_bound more)
bindings-more old new before more b m k h own =
    All-same (HasNumber new) (map space_bound more) (map space_bound before ++ space_bound b ∷ []) (ap (map space_bound) m ∙ map-append space_bound before (b ∷ []))
    (All-push (HasNumber new) (map space_bound before) (space_bound b) (kept-all old new (map space_bound before) k h) own)

-- what is built, with more namespaces numbered
pub becomes-numbered : (page : ℕ) (old new : Building) → new ≡ record old { spaces = new.spaces } → Keeps old.spaces.numbers new.spaces.numbers
    → Becomes page old new (state_of old)
becomes-numbered page old new e k = record {
  state = ap state_of e;
  on_page = λ all. record {
    pages = subst (λ (x : Building). AreAll page (pages_built x.elements.items x.root)) (sym e) all.pages;
    spaces = kept-all old.spaces.numbers new.spaces.numbers (spaces_built new.elements.items new.root) k
        (subst (λ (x : Building). HaveNumbers old.spaces.numbers (spaces_built x.elements.items x.root)) (sym e) all.spaces);
  };
}

-- the scope of an open element
pub scope-open : (t : Texts ℕ) (os : List Open) (i : ℕ) (o : Open) → i < length os → o ≡ get_or os i o → HaveNumbers t (flat_map spaces_open os)
    → HaveNumbers t (spaces_bound o.scope)
scope-open t [] i o l at h = absurd (omega arith)
scope-open t (x ∷ os) zero o l at h =
    let own : HaveNumbers t (spaces_open o) =
    subst (λ y. HaveNumbers t (spaces_open y)) (sym at) (all-left (HasNumber t) (spaces_open x) (flat_map spaces_open os) h) in
    all-right (HasNumber t) (spaces_named o.attrs) (spaces_bound o.scope)
    (all-left (HasNumber t) (spaces_named o.attrs ++ spaces_bound o.scope) (flat_map spaces_in o.children.items)
    (All-tail (HasNumber t) (space_of o.name.now) _ own))
scope-open t (x ∷ os) (suc i) o l at h = scope-open t os i o (omega arith) at (all-right (HasNumber t) (spaces_open x) (flat_map spaces_open os) h)

-- the three kinds of namespaces: none, that of xml, and those that were declared
module _ (t : Texts ℕ) (next : ℕ) (apart : AreApart t next) where
  -- two of one number are one
  one-number : (a b : List ℕ) (n : ℕ) → number_in t a ≡ Some n → number_in t b ≡ Some n → a ≡ b
  one-number a b n h k = by_cases (bytes_eq a []) (bytes_eq a xml_namespace) (bytes_eq b []) (bytes_eq b xml_namespace) refl refl refl refl h k where
    by_cases : (w x y z : Bool) → bytes_eq a [] ≡ w → bytes_eq a xml_namespace ≡ x → bytes_eq b [] ≡ y → bytes_eq b xml_namespace ≡ z
        → (if w then Some 0 else (if x then Some 1 else get_in t a)) ≡ Some n → (if y then Some 0 else (if z then Some 1 else get_in t b)) ≡ Some n → a ≡ b
    by_cases true x true z ew ex ey ez h k = one-text a [] ew ∙ sym (one-text b [] ey)
    by_cases true x false true ew ex ey ez h k = let p : 0 ≡ n = same-number 0 n h in let q : 1 ≡ n = same-number 1 n k in absurd (omega arith)
    by_cases true x false false ew ex ey ez h k = let p : 0 ≡ n = same-number 0 n h in let q : 1 < n = apart.above b n k in absurd (omega arith)
    by_cases false true true z ew ex ey ez h k = let p : 1 ≡ n = same-number 1 n h in let q : 0 ≡ n = same-number 0 n k in absurd (omega arith)
    by_cases false true false true ew ex ey ez h k = one-text a xml_namespace ex ∙ sym (one-text b xml_namespace ez)
    by_cases false true false false ew ex ey ez h k = let p : 1 ≡ n = same-number 1 n h in let q : 1 < n = apart.above b n k in absurd (omega arith)
    by_cases false false true z ew ex ey ez h k = let p : 1 < n = apart.above a n h in let q : 0 ≡ n = same-number 0 n k in absurd (omega arith)
    by_cases false false false true ew ex ey ez h k = let p : 1 < n = apart.above a n h in let q : 1 ≡ n = same-number 1 n k in absurd (omega arith)
    by_cases false false false false ew ex ey ez h k = apart.one a b n h k

  pub numbered : (spaces : List Space) → HaveNumbers t spaces → AreNumbered spaces
  numbered spaces h a b in_a in_b =
      let at_a : number_in t a.text ≡ Some a.number = All-contains (HasNumber t) spaces a h in_a in
      let at_b : number_in t b.text ≡ Some b.number = All-contains (HasNumber t) spaces b h in_b in
      by_tests at_a at_b (a.number == b.number) (bytes_eq a.text b.text) refl refl where
        by_tests : number_in t a.text ≡ Some a.number → number_in t b.text ≡ Some b.number → (x y : Bool) → (a.number == b.number) ≡ x → bytes_eq a.text b.text ≡ y → x ≡ y
        by_tests at_a at_b true true ex ey = refl
        by_tests at_a at_b false false ex ey = refl
        by_tests at_a at_b true false ex ey =
            let n : a.number ≡ b.number = eqb-true a.number b.number ex in
            let e : a.text ≡ b.text = one-number a.text b.text b.number (at_a ∙ ap Some n) at_b in
            sym (same-text a.text b.text e) ∙ ey
        by_tests at_a at_b false true ex ey =
            let e : a.text ≡ b.text = one-text a.text b.text ey in
            let n : a.number ≡ b.number = same-number a.number b.number (sym at_a ∙ ap (number_in t) e ∙ at_b) in
            sym ex ∙ eq-eqb a.number b.number n

-- a namespace is entered that had none
pub entered : (old new : Texts ℕ) (ns : List ℕ) (n next : ℕ) → n < next → AreApart old n → ((q : List ℕ) → get_in new q ≡ (if bytes_eq q ns then Some n else get_in old q)) → get_in old ns ≡ None → AreApart new next
entered old new ns n next l apart is none = record {
  more = let m = apart.more in omega arith;
  above = λ q k h. by_text (bytes_eq q ns) refl q k (sym (is q) ∙ h) (λ e. let m = apart.more in let same : n ≡ k = same-number n k e in omega arith) (λ e. apart.above q k e);
  below = λ q k h. by_text (bytes_eq q ns) refl q k (sym (is q) ∙ h) (λ e. let same : n ≡ k = same-number n k e in omega arith) (λ e. let m : k < n = apart.below q k e in omega arith);
  one = λ q r k h g. by_texts q r k (bytes_eq q ns) (bytes_eq r ns) refl refl (sym (is q) ∙ h) (sym (is r) ∙ g);
} where
  by_text : {P : Type 0} (b : Bool) → b ≡ b → (q : List ℕ) (k : ℕ) → (if b then Some n else get_in old q) ≡ Some k → (Some n ≡ Some k → P) → (get_in old q ≡ Some k → P) → P
  by_text true e q k h f g = f h
  by_text false e q k h f g = g h

  by_texts : (q r : List ℕ) (k : ℕ) (b c : Bool) → bytes_eq q ns ≡ b → bytes_eq r ns ≡ c → (if b then Some n else get_in old q) ≡ Some k → (if c then Some n else get_in old r) ≡ Some k → q ≡ r
  by_texts q r k true true eb ec h g = one-text q ns eb ∙ sym (one-text r ns ec)
  by_texts q r k true false eb ec h g = let same : n ≡ k = same-number n k h in let m : k < n = apart.below r k g in absurd (omega arith)
  by_texts q r k false true eb ec h g = let same : n ≡ k = same-number n k g in let m : k < n = apart.below q k h in absurd (omega arith)
  by_texts q r k false false eb ec h g = apart.one q r k h g
