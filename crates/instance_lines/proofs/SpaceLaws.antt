-- Namespaces that are gathered.
use Rattle.std.proofs.Common.{◌≡◌, ◌∙◌, ap, sym, refl, subst, ℕ, ◌+◌, ◌<◌, Bool, true, false, cond, List, [], ◌∷◌, ◌++◌, length, drop, get_or, slice_get, Some, append_assoc, ⊎_elim}
use Rattle.std.specs.List.{Contains}
use Rattle.std.specs.Prelude.{option_map}
use Rattle.std.proofs.lemmas.Cmp.{nat_list_cmp_total}
use Rattle.std.proofs.lemmas.List.Elements.{Contains-append_left, Contains-append_right, Contains-append_cases}
use Rattle.std.proofs.lemmas.Option.{get_or_from_slice_get, slice_get-map, slice_get_within}
use Rattle.ix_base.specs.declared.content.OwnName.{OwnName}
use Rattle.ix_base.specs.Once.{in_order}
use Rattle.ix_base.specs.SortedLists.{text_cmp}
use Rattle.ix_base.proofs.OnceLemmas.{Contains-cases, Contains-later, in_order-same}
use Rattle.ix_base.proofs.OnceOrdered.{same_text}
use Rattle.instance_lines.specs.Prefixes.{is_known}
use Rattle.instance_lines.specs.Tables.{GainsSpaces, own_spaces, values_of}
use Rattle.instance_lines.proofs.Gathered.{gained}
use Rattle.instance_lines.proofs.Steps.{front}
use denote.Ref.{Bor}

-- what a reference in a list points to is among what they all point to
pub values-have : {X : Type 0} (items : List (Bor X)) (k : ℕ) (r : Bor X) → slice_get items k ≡ Some r → Contains (values_of items) r.now
values-have items k r e =
    let there : slice_get (values_of items) k ≡ Some r.now = slice_get-map (λ x. x.now) items k ∙ ap (option_map (λ x. x.now)) e in
    (k, slice_get_within (values_of items) k r.now there, get_or_from_slice_get (values_of items) k r.now r.now there)

-- a text that is there already counts once
in_order-there : (texts : List (List ℕ)) (s : List ℕ) (rest : List (List ℕ)) → Contains texts s
    → in_order text_cmp (texts ++ rest) ≡ in_order text_cmp (texts ++ s ∷ rest)
in_order-there texts s rest h = in_order-same same_text nat_list_cmp_total (texts ++ rest) (texts ++ s ∷ rest) (record {
  there = λ x c. ⊎_elim (Contains-append_left texts (s ∷ rest) x)
      (λ k. Contains-append_right texts (s ∷ rest) x (Contains-later s rest x k)) (Contains-append_cases texts rest x c);
  back = λ x c. ⊎_elim (Contains-append_left texts rest x)
      (λ k. ⊎_elim (λ e. Contains-append_left texts rest x (subst (Contains texts) e h)) (Contains-append_right texts rest x) (Contains-cases s rest x k))
      (Contains-append_cases texts (s ∷ rest) x c);
})

-- a name whose namespace is there already
pub space-there : (n : OwnName) (spaces : List (List ℕ)) → Contains spaces n.ns → GainsSpaces spaces spaces (λ more. n ∷ more)
space-there n spaces h more = by (is_known n.ns)
  where
    by : (b : Bool) → in_order text_cmp (spaces ++ own_spaces more) ≡ in_order text_cmp (spaces ++ cond b (own_spaces more) (n.ns ∷ own_spaces more))
    by true = refl
    by false = in_order-there spaces n.ns (own_spaces more) h

-- one whose namespace needs no further prefix
pub space-known : (n : OwnName) (spaces : List (List ℕ)) → is_known n.ns ≡ true → GainsSpaces spaces spaces (λ more. n ∷ more)
space-known n spaces h more = rw h refl

-- one whose namespace is added
pub space-new : (n : OwnName) (old new : List (Bor (List ℕ))) (r : Bor (List ℕ)) → is_known n.ns ≡ false → r.now ≡ n.ns → new ≡ old ++ r ∷ []
    → GainsSpaces (values_of old) (values_of new) (λ more. n ∷ more)
space-new n old new r h same e more = rw (h, sym same) (ap (in_order text_cmp) (gained old new r e (own_spaces more)))

-- one turn of a loop that gathers the namespaces of names
pub step-spaces : {A : Type 0} (F : List A → List OwnName) (f : A → List OwnName) (xs : List A) (i : ℕ) (x : A) (old new all : List (List ℕ))
    (more : List OwnName) → i < length xs → x ≡ get_or xs i x → ((ys : List A) → F (x ∷ ys) ≡ f x ++ F ys) → GainsSpaces old new (λ m. f x ++ m)
    → in_order text_cmp (old ++ own_spaces (F (drop i xs) ++ more)) ≡ all → in_order text_cmp (new ++ own_spaces (F (drop (i + 1) xs) ++ more)) ≡ all
step-spaces F f xs i x old new all more h e s g inv =
    let rest = F (drop (i + 1) xs) in
    g (rest ++ more)
    ∙ sym (ap (λ l. in_order text_cmp (old ++ own_spaces l))
    (ap (λ l. l ++ more) (ap F (front xs i x h e) ∙ s (drop (i + 1) xs)) ∙ append_assoc (f x) rest more)) ∙ inv
