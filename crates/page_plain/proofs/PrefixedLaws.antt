-- The prefix of a name's namespace, by the namespace's number.
use Rattle.std.proofs.Common.{◌≡◌, ◌∙◌, ℕ, ◌+◌, ◌-◌, ◌<◌, ◌≤◌, false, true, List, [], ◌∷◌, length, get_or, IfSome, IsSome, Option, Some, None, option_map, refl, sym, ap, arith, bytes_eq, subst}
use Rattle.std.specs.BTreeMap.{BTreeMap, get_by, is_at}
use Rattle.std.specs.Cmp.{Equal-is, IsEquivalence}
use Rattle.std.specs.List.{Contains}
use Rattle.std.specs.List.Sorted.{IsStrictlySortedBy}
use Rattle.std.specs.Map.{keys_of}
use Rattle.std.specs.Ordering.{eq_by_cmp, nat_cmp}
use Rattle.std.proofs.lemmas.Cmp.{eq_by_cmp_equiv, nat_cmp_total}
use Rattle.std.proofs.lemmas.Map.Lookups.{exact_unsigned}
use Rattle.std.proofs.lemmas.Map.Views.{Contains-from_lookup, IfSome-lookup_from_All, IsSome-lookup_from_Contains}
use Rattle.ix_base.specs.declared.tree.Name.{Name}
use Rattle.ix_base.specs.SortedLists.{text_cmp}
use Rattle.ix_base.specs.Spaces.{AreNumbered, Space, space_of}
use Rattle.ix_base.proofs.OnceLemmas.{Contains-first, Contains-later, in_order-members, in_order-sorted}
use Rattle.ix_base.proofs.OrderLemmas.{text_total, same_text}
use Rattle.page_constructs.proofs.SpanLaws.{bytes-apart, bytes-same, one_number}
use Rattle.page_plain.specs.Bare.{numbered, prefix_at, prefix_in}
use Rattle.page_plain.specs.SpaceNumbers.{IsListed, IsThere, space_at, spaces_at, texts_of}
use Rattle.page_plain.proofs.MemberLaws.{Contains-from_map, Contains-map}
use Rattle.page_plain.proofs.NumberedLaws.{one-space}
use Rattle.page_plain.proofs.PlaceLaws.{prefix-at, prefix-none}

one-key : (x y : ℕ) → eq_by_cmp nat_cmp x y ≡ true → x ≡ y
one-key x y h = exact_unsigned x y ((Equal-is (nat_cmp x y)).0 h)

on_numbers : IsEquivalence (eq_by_cmp nat_cmp)
on_numbers = eq_by_cmp_equiv nat_cmp_total

module _ (texts : List (List ℕ)) (numbers : BTreeMap ℕ ℕ) (name : Name) (listed : IsListed texts numbers) (together : AreNumbered (space_of name ∷ spaces_at texts numbers)) where
  entry-is : (k : ℕ) → Contains numbers.entries (name.number, k) → get_or texts (k - 1) [] ≡ name.ns.now
  entry-is k c = ap (λ s. s.text) (one-space (space_of name ∷ spaces_at texts numbers) together (space_at texts (name.number, k)) (space_of name)
      (Contains-later (space_of name) (spaces_at texts numbers) (space_at texts (name.number, k)) (Contains-map (space_at texts) numbers.entries (name.number, k) c))
      (Contains-first (space_of name) (spaces_at texts numbers)) refl)

  there : (k : ℕ) → get_by (nat_cmp name.number) numbers ≡ Some k → IsThere texts k
  there k e = subst (λ o. IfSome o (IsThere texts)) e (IfSome-lookup_from_All (IsThere texts) (is_at (nat_cmp name.number)) numbers.entries listed.there)

  found : (k : ℕ) → get_by (nat_cmp name.number) numbers ≡ Some k → Some (prefix_at k) ≡ prefix_in (numbered 1 texts) name.ns.now
  found k e =
      let up : IsStrictlySortedBy text_cmp texts =
      subst (IsStrictlySortedBy text_cmp) (sym listed.ordered) (in_order-sorted text_total (texts_of (spaces_at texts numbers))) in
      let at = there k e in
      let first : 0 < k = at.0 in
      let low : k ≤ length texts = at.1 in
      let number : 1 + (k - 1) ≡ k = omega arith in
      sym (prefix-at name.ns.now 1 texts (k - 1) [] up (omega arith)
      (entry-is k (Contains-from_lookup one-key name.number k numbers.entries e)) ∙ ap (λ n. Some (prefix_at n)) number)

  missed : get_by (nat_cmp name.number) numbers ≡ None → None ≡ prefix_in (numbered 1 texts) name.ns.now
  missed e = sym (prefix-none name.ns.now 1 texts (λ y c. bytes-apart name.ns.now y (λ same. nowhere y c same))) where
    nowhere : (y : List ℕ) → Contains texts y → name.ns.now ≡ y → ⊥
    nowhere y c same =
        let spaces = spaces_at texts numbers in
        let one = Contains-from_map (λ (s : Space). s.text) spaces y
        ((in_order-members same_text (texts_of spaces)).back y (subst (λ l. Contains l y) listed.ordered c)) in
        let own = Contains-from_map (space_at texts) numbers.entries one.0 one.1 in
        let number : name.number ≡ one.0.number = one_number name.number one.0.number
        (together (space_of name) one.0 (Contains-first (space_of name) spaces) (Contains-later (space_of name) spaces one.0 one.1)
        ∙ ap (bytes_eq name.ns.now) one.2 ∙ ap (λ t. bytes_eq t y) same ∙ bytes-same y) in
        let key : Contains (keys_of numbers.entries) name.number =
        subst (λ n. Contains (keys_of numbers.entries) n) (ap (λ s. s.number) own.2 ∙ sym number) (Contains-map (λ (e : ℕ × ℕ). e.0) numbers.entries own.0 own.1) in
        let some : IsSome (get_by (nat_cmp name.number) numbers) = IsSome-lookup_from_Contains on_numbers name.number numbers.entries key in
        let none : false ≡ true = subst (λ (o : Option ℕ). IsSome o) e some in cc

  pub prefix-number : (o : Option ℕ) → o ≡ get_by (nat_cmp name.number) numbers → option_map prefix_at o ≡ prefix_in (numbered 1 texts) name.ns.now
  prefix-number None e = missed (sym e)
  prefix-number (Some k) e = found k (sym e)

  pub number-some : (o : Option ℕ) → o ≡ get_by (nat_cmp name.number) numbers → IfSome o (λ k. 0 < k)
  number-some None e = tt
  number-some (Some k) e = (there k (sym e)).0
