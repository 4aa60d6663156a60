-- The namespaces that were met get the numbers of their prefixes, one at a time.
use Rattle.std.proofs.Common.{◌≡◌, ◌∙◌, ℕ, ◌-◌, List, [], ◌∷◌, ◌++◌, get_or, map, sym, ap, subst, append_assoc}
use Rattle.std.specs.BTreeMap.{BTreeMap, insert_entry, values}
use Rattle.std.specs.Borrow.{Bor}
use Rattle.std.specs.List.{All, Contains}
use Rattle.std.specs.Map.{values_of}
use Rattle.std.specs.Ordering.{nat_cmp}
use Rattle.std.proofs.lemmas.List.Elements.{Contains-append_left, Contains-append_right}
use Rattle.std.proofs.lemmas.Map.Views.{All-values-insert_entry}
use Rattle.ix_base.specs.Once.{SameMembers, in_order}
use Rattle.ix_base.specs.SortedLists.{text_cmp}
use Rattle.ix_base.specs.Spaces.{AreNumbered, Space}
use Rattle.ix_base.proofs.OnceLemmas.{Contains-first, SameMembers-sym, SameMembers-trans, in_order-members, in_order-same}
use Rattle.ix_base.proofs.OrderLemmas.{text_total, same_text}
use Rattle.page_plain.specs.SpaceNumbers.{IsListed, IsThere, space_at, space_met, spaces_at, spaces_met, texts_of}
use Rattle.page_plain.proofs.MemberLaws.{Contains-map, members-append, members-insert, members-map, members-same}
use Rattle.page_plain.proofs.NumberedLaws.{one-space}

module _ (texts : List (List ℕ)) (met : BTreeMap ℕ (Bor (List ℕ))) (numbers : BTreeMap ℕ ℕ) (n : ℕ) (ns : Bor (List ℕ)) (left rest : List (ℕ × Bor (List ℕ)))
    (next : left ≡ (n, ns) ∷ rest) (spaces : SameMembers (spaces_at texts numbers ++ map space_met left) (spaces_met met)) where
  next-met : Contains (spaces_met met) (space_met (n, ns))
  next-met = spaces.there (space_met (n, ns)) (Contains-append_right (spaces_at texts numbers) (map space_met left) (space_met (n, ns))
      (subst (λ l. Contains (map space_met l) (space_met (n, ns))) (sym next) (Contains-first (space_met (n, ns)) (map space_met rest))))

  pub next-there : texts ≡ in_order text_cmp (texts_of (spaces_met met)) → Contains texts ns.now
  next-there e = subst (λ l. Contains l ns.now) (sym e)
      ((in_order-members same_text (texts_of (spaces_met met))).there ns.now (Contains-map (λ (s : Space). s.text) (spaces_met met) (space_met (n, ns)) next-met))

  pub next-numbered : (new : BTreeMap ℕ ℕ) (k : ℕ) → AreNumbered (spaces_met met) → new.entries ≡ insert_entry nat_cmp numbers.entries n k
      → get_or texts (k - 1) [] ≡ ns.now → SameMembers (spaces_at texts new ++ map space_met rest) (spaces_met met)
  next-numbered new k h put at =
      let f = space_at texts in
      let old = spaces_at texts numbers in
      let more = map space_met rest in
      let same : f (n, k) ≡ space_met (n, ns) = ap (λ t. record { number = n; text = t }) at in
      let put_in : SameMembers (spaces_at texts new) (old ++ f (n, k) ∷ []) =
      subst (λ es. SameMembers (map f es) (old ++ f (n, k) ∷ [])) (sym put)
      (members-insert f n k numbers.entries (λ e c key. one-space (spaces_met met) h (f e) (f (n, k))
      (spaces.there (f e) (Contains-append_left old (map space_met left) (f e) (Contains-map f numbers.entries e c)))
      (subst (λ s. Contains (spaces_met met) s) (sym same) next-met) key)) in
      let moved : (old ++ f (n, k) ∷ []) ++ more ≡ old ++ map space_met left =
      append_assoc old (f (n, k) ∷ []) more ∙ ap (λ s. old ++ s ∷ more) same ∙ ap (λ l. old ++ map space_met l) (sym next) in
      SameMembers-trans (spaces_at texts new ++ more) ((old ++ f (n, k) ∷ []) ++ more) (spaces_met met)
      (members-append (spaces_at texts new) (old ++ f (n, k) ∷ []) more put_in)
      (SameMembers-trans ((old ++ f (n, k) ∷ []) ++ more) (old ++ map space_met left) (spaces_met met)
      (members-same ((old ++ f (n, k) ∷ []) ++ more) (old ++ map space_met left) moved) spaces)

pub there-put : (texts : List (List ℕ)) (numbers new : BTreeMap ℕ ℕ) (n k : ℕ) → new.entries ≡ insert_entry nat_cmp numbers.entries n k → IsThere texts k
    → All (IsThere texts) (values numbers) → All (IsThere texts) (values new)
there-put texts numbers new n k put at all =
    subst (λ es. All (IsThere texts) (values_of es)) (sym put) (All-values-insert_entry nat_cmp n k (IsThere texts) numbers.entries all at)

pub listed : (texts : List (List ℕ)) (met : BTreeMap ℕ (Bor (List ℕ))) (numbers : BTreeMap ℕ ℕ) → texts ≡ in_order text_cmp (texts_of (spaces_met met))
    → SameMembers (spaces_at texts numbers) (spaces_met met) → All (IsThere texts) (values numbers) → IsListed texts numbers
listed texts met numbers e same all = record {
  ordered = e ∙ in_order-same same_text text_total (texts_of (spaces_met met)) (texts_of (spaces_at texts numbers))
      (members-map (λ (s : Space). s.text) (spaces_met met) (spaces_at texts numbers) (SameMembers-sym (spaces_at texts numbers) (spaces_met met) same));
  there = all;
}
