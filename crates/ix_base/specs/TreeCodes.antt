-- Codes by which proofs tell trees apart.
use Rattle.std.specs.Prelude.{◌≡◌, ◌⊎◌, ℕ, List, [], ◌∷◌, ◌++◌, refl}
use Rattle.std.specs.Coded.{Coded, code_by, coded×, coded⊎, coded_ℕ, coded_list, coded_option}
use Rattle.std.proofs.Common.{inl, inr, sym, ap, ◌∙◌, append_assoc, append-nil, Option, Some, None}
use Rattle.ix_base.specs.Trees.{Named, Valued, Bound, Head, Nodes, none, chars, elem, Tree}

abbrev pub named_code : Coded Named
named_code = code_by (List ℕ × List ℕ) (coded× (coded_list coded_ℕ) (coded_list coded_ℕ)) (λ n. (n.ns, n.local)) (λ p. record { ns = p.0; local = p.1 }) (λ _. refl)

abbrev pub valued_code : Coded Valued
valued_code = code_by (Named × List ℕ) (coded× named_code (coded_list coded_ℕ)) (λ a. (a.name, a.value)) (λ p. record { name = p.0; value = p.1 }) (λ _. refl)

abbrev pub bound_code : Coded Bound
bound_code = code_by (List ℕ × List ℕ) (coded× (coded_list coded_ℕ) (coded_list coded_ℕ)) (λ b. (b.prefix, b.ns)) (λ p. record { prefix = p.0; ns = p.1 }) (λ _. refl)

abbrev pub head_code : Coded Head
head_code = code_by (ℕ × (Named × (List Valued × List Bound)))
    (coded× coded_ℕ (coded× named_code (coded× (coded_list valued_code) (coded_list bound_code))))
    (λ h. (h.offset, (h.name, (h.attrs, h.scope))))
    (λ p. record { offset = p.0; name = p.1.0; attrs = p.1.1.0; scope = p.1.1.1 }) (λ _. refl)

-- a place in a listing of nodes: their end, a text, or an element's head before its children and the nodes after it
abbrev pub Listed : Type 0
Listed = Option (List ℕ ⊎ Head)

abbrev pub listed : Nodes → List Listed
listed none = None ∷ []
listed (chars t rest) = Some (inl t) ∷ listed rest
listed (elem h k rest) = Some (inr h) ∷ (listed k ++ listed rest)

abbrev with_text : List ℕ → List Nodes → List Nodes
with_text t [] = []
with_text t (n ∷ ns) = chars t n ∷ ns

abbrev with_elem : Head → List Nodes → List Nodes
with_elem h [] = []
with_elem h (k ∷ []) = []
with_elem h (k ∷ r ∷ ns) = elem h k r ∷ ns

abbrev read_all : List Listed → List Nodes
read_all [] = []
read_all (None ∷ xs) = none ∷ read_all xs
read_all (Some (inl t) ∷ xs) = with_text t (read_all xs)
read_all (Some (inr h) ∷ xs) = with_elem h (read_all xs)

abbrev first : List Nodes → Nodes
first [] = none
first (n ∷ ns) = n

pub read-listed : (n : Nodes) (xs : List Listed) → read_all (listed n ++ xs) ≡ n ∷ read_all xs
read-listed none xs = refl
read-listed (chars t rest) xs = ap (with_text t) (read-listed rest xs)
read-listed (elem h k rest) xs =
    ap (λ l. with_elem h (read_all l)) (append_assoc (listed k) (listed rest) xs)
    ∙ ap (with_elem h) (read-listed k (listed rest ++ xs) ∙ ap (λ ns. k ∷ ns) (read-listed rest xs))

pub first-listed : (n : Nodes) → first (read_all (listed n)) ≡ n
first-listed n = ap (λ l. first (read_all l)) (sym (append-nil (listed n))) ∙ ap first (read-listed n [])

abbrev pub nodes_code : Coded Nodes
nodes_code = code_by (List Listed) (coded_list (coded_option (coded⊎ (coded_list coded_ℕ) head_code))) listed (λ l. first (read_all l)) first-listed

abbrev pub tree_code : Coded Tree
tree_code = code_by (Head × Nodes) (coded× head_code nodes_code) (λ t. (t.head, t.children)) (λ p. record { head = p.0; children = p.1 }) (λ _. refl)
