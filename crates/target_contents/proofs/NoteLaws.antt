-- The references for roles, by what was seen of them.
use Rattle.std.proofs.Common.{◌≡◌, ◌∙◌, ap, refl, ℕ, List, [], ◌∷◌, map, option_map}
use Rattle.std.specs.List.{cons_option, filter, filter_map}
use Rattle.std.specs.Prelude.{None, false}
use Rattle.text_map.specs.Texts.{Texts}
use Rattle.ix_base.specs.declared.kind.Kind.{Kind}
use Rattle.ix_base.specs.LinkRules.{address_of}
use Rattle.ix_base.specs.LocatedElements.{Located}
use Rattle.target_contents.specs.declared.addresses.Seen.{Seen}
use Rattle.ix_base.specs.Asks.{first_of}
use Rattle.target_contents.specs.Contents.{role_at, role_to, roles_for}
use Rattle.target_contents.specs.RoleAddresses.{AreSeen, refers_to, role_seen, seen_from}
use Rattle.target_contents.proofs.RedirectLaws.{seen-some}

-- the address that is kept is the first one
first-kept : (q : List ℕ) (xs : List (List ℕ)) → option_map (λ s. role_to q s.address) (seen_from None xs) ≡ option_map (role_to q) (first_of xs)
first-kept q [] = refl
first-kept q (x ∷ xs) = ap (option_map (λ (s : Seen). role_to q s.address)) (seen-some (record { address = x; differs = false }) xs)

role-is : (bases : Located → List ℕ) (es : List Located) (k : Kind) (m : Texts Seen) → AreSeen k bases es m → (q : List ℕ)
    → role_seen m q ≡ role_at bases es k q
role-is bases es k m seen q =
    ap (option_map (λ (s : Seen). role_to q s.address)) (seen q) ∙ first-kept q (map (address_of bases) (filter (refers_to k q) es))

-- the references for roles, by a table in which all references of a kind were noted
pub roles-are : (bases : Located → List ℕ) (es : List Located) (k : Kind) (m : Texts Seen) → AreSeen k bases es m
    → (uris : List (List ℕ)) → filter_map (role_seen m) uris ≡ roles_for bases es k uris
roles-are bases es k m seen [] = refl
roles-are bases es k m seen (q ∷ uris) = λ i. cons_option (role-is bases es k m seen q i) (roles-are bases es k m seen uris i)
