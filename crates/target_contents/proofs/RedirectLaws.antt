-- Roles that have two addresses.
use Rattle.std.proofs.Common.{◌≡◌, ◌∙◌, ap, sym, refl, arith, ℕ, Bool, true, false, not, cond, List, [], ◌∷◌, ◌++◌, length, map, Option, Some, None}
use Rattle.std.specs.List.{Contains, filter, list_any}
use Rattle.std.specs.Option.{option_map_or}
use Rattle.std.specs.Prelude.{◌&&◌, ◌||◌, nat_lt, bytes_eq, is_some}
use Rattle.std.specs.Cmp.{both_ways}
use Rattle.std.proofs.lemmas.Bool.{lt-ltb}
use Rattle.std.proofs.lemmas.List.{map-append}
use Rattle.std.proofs.lemmas.List.Elements.{filter-append}
use Rattle.std.proofs.lemmas.Slice.Eq.{bytes_eq-Decides}
use Rattle.instance_lines.proofs.PrefixLaws.{bytes_eq-sym}
use Rattle.ix_base.proofs.OnceLemmas.{Contains-filter, Contains-first, Contains-nil}
use Rattle.text_map.specs.Texts.{Texts}
use Rattle.ix_base.specs.declared.kind.Kind.{Kind}
use Rattle.ix_base.specs.declared.kind.Kind.TheVariants as kind
use Rattle.ix_base.specs.Asks.{asks}
use Rattle.ix_base.specs.Kinds.{kind_of, same_kind}
use Rattle.ix_base.specs.LinkRules.{address_of, are_some, has_two_addresses, redirects, uri_by, uri_of}
use Rattle.ix_base.specs.LocatedElements.{Located, is_kind, is_text}
use Rattle.target_contents.specs.declared.addresses.Seen.{Seen}
use Rattle.target_contents.specs.declared.addresses.SeenRoles.{SeenRoles}
use Rattle.target_contents.specs.RoleAddresses.{AreSeen, SeesAll, refers_to, seen_at, seen_from, seen_with}
use Rattle.target_contents.proofs.MemberLaws.{any-passes, in-map, passes-any}

-- noting some more addresses behind others
pub seen-append : (o : Option Seen) (xs ys : List (List ℕ)) → seen_from o (xs ++ ys) ≡ seen_from (seen_from o xs) ys
seen-append o [] ys = refl
seen-append o (x ∷ xs) ys = seen-append (Some (seen_with o x)) xs ys

or-false : (b : Bool) → b ≡ (b || false)
or-false true = refl
or-false false = refl

or-assoc : (a b c : Bool) → ((a || b) || c) ≡ (a || (b || c))
or-assoc true b c = refl
or-assoc false b c = refl

abbrev differs : List ℕ → List ℕ → Bool
differs a b = not (bytes_eq a b)

-- what is seen with further addresses: the first one's, and whether one differs from it
pub seen-some : (s : Seen) (xs : List (List ℕ)) → seen_from (Some s) xs ≡ Some (record { address = s.address; differs = s.differs || list_any (differs s.address) xs })
seen-some s [] = ap (λ b. Some (record { address = s.address; differs = b })) (or-false s.differs)
seen-some s (x ∷ xs) =
    seen-some (seen_with (Some s) x) xs
    ∙ ap (λ b. Some (record { address = s.address; differs = b })) (or-assoc s.differs (differs s.address x) (list_any (differs s.address) xs))

-- what differs from one of some texts, or from another of them
half : (xs : List (List ℕ)) (a b : List ℕ) → Contains xs a → Contains xs b → list_any (differs a) xs ≡ true → list_any (differs b) xs ≡ true
half xs a b at-a at-b h =
    let w = passes-any (differs a) xs h in
    by w.0 w.1 w.2 (bytes_eq b w.0) refl
  where
    by : (y : List ℕ) → Contains xs y → differs a y ≡ true → (t : Bool) → bytes_eq b y ≡ t → list_any (differs b) xs ≡ true
    by y at d false e = any-passes (differs b) xs y at (ap not e)
    by y at d true e =
        let same : b ≡ y = (bytes_eq-Decides b y).0 e in
        any-passes (differs b) xs a at-a (ap not (bytes_eq-sym b a) ∙ ap (differs a) same ∙ d)

either : (xs : List (List ℕ)) (a b : List ℕ) → Contains xs a → Contains xs b → list_any (differs a) xs ≡ list_any (differs b) xs
either xs a b at-a at-b = both_ways (list_any (differs a) xs) (list_any (differs b) xs) (half xs a b at-a at-b) (half xs b a at-b at-a)

not-itself : (x : List ℕ) → differs x x ≡ false
not-itself x = ap not ((bytes_eq-Decides x x).1 refl)

abbrev pub two-of : Option Seen → Bool
two-of o = option_map_or (λ s. s.differs) o false

-- whether two addresses were seen is whether one differs from any of them
two-is : (xs : List (List ℕ)) (a : List ℕ) → Contains xs a → two-of (seen_from None xs) ≡ list_any (differs a) xs
two-is [] a h = absurd (Contains-nil a h)
two-is (x ∷ xs) a h =
    ap two-of (seen-some (record { address = x; differs = false }) xs)
    ∙ sym (ap (λ b. b || list_any (differs x) xs) (not-itself x))
    ∙ either (x ∷ xs) x a (Contains-first x xs) h

any-filter : {X : Type 0} (p : X → Bool) (xs : List X) → list_any p xs ≡ nat_lt 0 (length (filter p xs))
any-filter p [] = refl
any-filter p (x ∷ xs) = by (p x) (any-filter p xs)
  where
    by : (b : Bool) → list_any p xs ≡ nat_lt 0 (length (filter p xs)) → (b || list_any p xs) ≡ nat_lt 0 (length (cond b (x ∷ filter p xs) (filter p xs)))
    by true h = sym (lt-ltb 0 (length (x ∷ filter p xs)) (omega arith))
    by false h = h

any-kept : {X Y : Type 0} (q : Y → Bool) (f : X → Y) (p : X → Bool) (xs : List X) → list_any q (map f (filter p xs)) ≡ list_any (λ x. p x && q (f x)) xs
any-kept q f p [] = refl
any-kept q f p (x ∷ xs) = by (p x) (any-kept q f p xs)
  where
    by : (b : Bool) → list_any q (map f (filter p xs)) ≡ list_any (λ x. p x && q (f x)) xs
        → list_any q (map f (cond b (x ∷ filter p xs) (filter p xs))) ≡ ((b && q (f x)) || list_any (λ x. p x && q (f x)) xs)
    by true h = ap (λ b. q (f x) || b) h
    by false h = h

any-agree : {X : Type 0} (p q : X → Bool) → ((x : X) → p x ≡ q x) → (xs : List X) → list_any p xs ≡ list_any q xs
any-agree p q h [] = refl
any-agree p q h (x ∷ xs) = ap (λ b. b || list_any p xs) (h x) ∙ ap (λ b. q x || b) (any-agree p q h xs)

-- a reference to a role, and another one, to the same role at another address
redirects-by : (bases : Located → List ℕ) (k : Kind) (q : List ℕ) (e x : Located) → ((l : Kind) → same_kind k l ≡ same_kind l k)
    → kind_of e.placed ≡ k → uri_of e ≡ Some q
    → redirects bases e x ≡ (refers_to k q x && differs (address_of bases e) (address_of bases x))
redirects-by bases k q e x turn is uri =
    ap (λ l. same_kind l (kind_of x.placed) && option_map_or (λ u. is_text u (uri_of x)) (uri_of e) false && differs (address_of bases e) (address_of bases x)) is
    ∙ ap (λ o. same_kind k (kind_of x.placed) && option_map_or (λ u. is_text u (uri_of x)) o false && differs (address_of bases e) (address_of bases x)) uri
    ∙ ap (λ b. b && is_text q (uri_of x) && differs (address_of bases e) (address_of bases x)) (turn (kind_of x.placed))

-- whether a role was seen with two addresses is whether another reference to it has another address
pub two-addresses : (bases : Located → List ℕ) (es : List Located) (k : Kind) (q : List ℕ) (e : Located) → ((l : Kind) → same_kind k l ≡ same_kind l k)
    → Contains es e → kind_of e.placed ≡ k → is_kind k e ≡ true → uri_of e ≡ Some q → is_text q (uri_of e) ≡ true
    → two-of (seen_from None (map (address_of bases) (filter (refers_to k q) es))) ≡ are_some (asks es) (redirects bases e)
two-addresses bases es k q e turn at is kind uri text =
    let here : refers_to k q e ≡ true = ap (λ b. b && is_text q (uri_of e)) kind ∙ text in
    let kept = Contains-filter (refers_to k q) es e at here in
    two-is (map (address_of bases) (filter (refers_to k q) es)) (address_of bases e) (in-map (address_of bases) (filter (refers_to k q) es) e kept)
    ∙ any-kept (differs (address_of bases e)) (address_of bases) (refers_to k q) es
    ∙ any-agree _ _ (λ x. sym (redirects-by bases k q e x turn is uri)) es
    ∙ any-filter (redirects bases e) es

-- what is seen with the addresses of further elements
pub seen-more : (bases : Located → List ℕ) (k : Kind) (q : List ℕ) (es more : List Located)
    → seen_from (seen_from None (map (address_of bases) (filter (refers_to k q) es))) (map (address_of bases) (filter (refers_to k q) more))
    ≡ seen_from None (map (address_of bases) (filter (refers_to k q) (es ++ more)))
seen-more bases k q es more =
    sym (ap (λ xs. seen_from None (map (address_of bases) xs)) (filter-append (refers_to k q) es more)
    ∙ ap (seen_from None) (map-append (address_of bases) (filter (refers_to k q) es) (filter (refers_to k q) more))
    ∙ seen-append None (map (address_of bases) (filter (refers_to k q) es)) (map (address_of bases) (filter (refers_to k q) more)))

turn-role : (k : Kind) → same_kind kind.RoleRef k ≡ same_kind k kind.RoleRef
turn-role kind.RoleRef = refl
turn-role k = refl

turn-arcrole : (k : Kind) → same_kind kind.ArcroleRef k ≡ same_kind k kind.ArcroleRef
turn-arcrole kind.ArcroleRef = refl
turn-arcrole k = refl

-- whether a reference is of this kind, and its role was seen with two addresses
abbrev pub seen-two : Texts Seen → Kind → Located → Bool
seen-two m k e = is_kind k e && option_map_or (λ uri. two-of (seen_at m uri)) (uri_of e) false

module _ (bases : Located → List ℕ) (es : List Located) (e : Located) where
  abbrev goes : Bool
  goes = is_some (uri_of e) && are_some (asks es) (redirects bases e)

  by-uri : (m : Texts Seen) (k : Kind) → AreSeen k bases es m → ((l : Kind) → same_kind k l ≡ same_kind l k) → Contains es e
      → kind_of e.placed ≡ k → is_kind k e ≡ true → (o : Option (List ℕ)) → uri_of e ≡ o → seen-two m k e ≡ goes
  by-uri m k seen turn at is kind None u =
      ap (λ b. b && option_map_or (λ uri. two-of (seen_at m uri)) (uri_of e) false) kind
      ∙ ap (λ o. option_map_or (λ uri. two-of (seen_at m uri)) o false) u
      ∙ sym (ap (λ (o : Option (List ℕ)). is_some o && are_some (asks es) (redirects bases e)) u)
  by-uri m k seen turn at is kind (Some q) u =
      let text : is_text q (uri_of e) ≡ true = ap (is_text q) u ∙ (bytes_eq-Decides q q).1 refl in
      ap (λ b. b && option_map_or (λ uri. two-of (seen_at m uri)) (uri_of e) false) kind
      ∙ ap (λ o. option_map_or (λ uri. two-of (seen_at m uri)) o false) u
      ∙ ap two-of (seen q)
      ∙ two-addresses bases es k q e turn at is kind u text
      ∙ sym (ap (λ (o : Option (List ℕ)). is_some o && are_some (asks es) (redirects bases e)) u)

  not-so : (m : Texts Seen) (k : Kind) → is_kind k e ≡ false → seen-two m k e ≡ false
  not-so m k h = ap (λ b. b && option_map_or (λ uri. two-of (seen_at m uri)) (uri_of e) false) h

  by-kind : (r : SeenRoles) → SeesAll bases es r → Contains es e → (k : Kind) → kind_of e.placed ≡ k
      → (seen-two r.roles kind.RoleRef e || seen-two r.arcroles kind.ArcroleRef e) ≡ goes
  by-kind r sees at kind.RoleRef is =
      ap (λ b. seen-two r.roles kind.RoleRef e || b) (not-so r.arcroles kind.ArcroleRef (ap (λ l. same_kind l kind.ArcroleRef) is))
      ∙ sym (or-false (seen-two r.roles kind.RoleRef e))
      ∙ by-uri r.roles kind.RoleRef sees.roles turn-role at is (ap (λ l. same_kind l kind.RoleRef) is) (uri_of e) refl
  by-kind r sees at kind.ArcroleRef is =
      ap (λ b. b || seen-two r.arcroles kind.ArcroleRef e) (not-so r.roles kind.RoleRef (ap (λ l. same_kind l kind.RoleRef) is))
      ∙ by-uri r.arcroles kind.ArcroleRef sees.arcroles turn-arcrole at is (ap (λ l. same_kind l kind.ArcroleRef) is) (uri_of e) refl
  by-kind r sees at k is =
      ap (λ b. b || seen-two r.arcroles kind.ArcroleRef e) (not-so r.roles kind.RoleRef (ap (λ l. same_kind l kind.RoleRef) is))
      ∙ not-so r.arcroles kind.ArcroleRef (ap (λ l. same_kind l kind.ArcroleRef) is)
      ∙ sym (ap (λ l. is_some (uri_by l e) && are_some (asks es) (redirects bases e)) is)

  -- what is seen of both tables is whether the reference is to a role that has two addresses
  pub both-seen : (r : SeenRoles) → SeesAll bases es r → Contains es e
      → (seen-two r.roles kind.RoleRef e || seen-two r.arcroles kind.ArcroleRef e) ≡ has_two_addresses bases (asks es) e
  both-seen r sees at = by-kind r sees at (kind_of e.placed) refl
