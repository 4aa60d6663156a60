-- The references of a content: their addresses and roles are allowed tokens that aren't empty.
use Rattle.std.proofs.Common.{◌≡◌, ◌∙◌, ap, sym, subst, refl, ℕ, Bool, true, false, cond, not, List, [], ◌∷◌, Option, None, Some, option_map, map, length, codes, arith, bytes_eq}
use Rattle.std.specs.List.{All, Contains, cons_option, filter, filter_map}
use Rattle.std.specs.Option.{option_map_or}
use Rattle.std.specs.Prelude.{◌&&◌, ◌||◌, ◌==◌, is_some, nat_lt, unwrap_or}
use Rattle.std.specs.declared.cmp.Ordering.{Ordering}
use Rattle.std.specs.declared.cmp.Ordering.TheVariants.{Less, Equal, Greater}
use Rattle.std.proofs.lemmas.Bool.{and_from, and_parts}
use Rattle.std.proofs.lemmas.List.Elements.{All-cons, All-contains_itself, All-head, All-nil, All-tail, All-weaker}
use Rattle.std.proofs.lemmas.Slice.Eq.{bytes_eq-Decides}
use Rattle.ix_base.proofs.OnceLemmas.{Contains-from_filter}
use Rattle.ix_base.specs.declared.content.Content.{Content}
use Rattle.ix_base.specs.declared.content.Linkbase.{Linkbase}
use Rattle.ix_base.specs.declared.content.RoleRef.{RoleRef}
use Rattle.ix_base.specs.declared.kind.Kind.{Kind}
use Rattle.ix_base.specs.declared.kind.Kind.TheVariants as kind
use Rattle.ix_base.specs.declared.rule.Rule.TheVariants as rule
use Rattle.ix_base.specs.Address.{is_link, joined_url, link_or, longest_link, resolved, url_of}
use Rattle.ix_base.specs.Attributes.{value_of}
use Rattle.ix_base.specs.ElementRules.{breaks_reference, has_some, refers}
use Rattle.ix_base.specs.Forms.{is_empty, is_some_token}
use Rattle.ix_base.specs.Kinds.{kind_of, same_kind}
use Rattle.ix_base.specs.LinkRules.{address_of, is_schema_for, target_above, uri_by, uri_of}
use Rattle.ix_base.specs.LocatedElements.{Located, is_kind, is_text}
use Rattle.ix_base.specs.Namespaces.{xlink_namespace}
use Rattle.ix_base.specs.NcName.{are_allowed}
use Rattle.ix_base.specs.Once.{in_order, put, put_by}
use Rattle.ix_base.specs.Readers.{token_at}
use Rattle.ix_base.specs.Token.{is_token, token_of}
use Rattle.ix_base.specs.Trees.{Tree}
use Rattle.url.specs.Parts.{Parts, serialize}
use Rattle.instance_lines.specs.Arrangement.{arranged, by_line}
use Rattle.instance_lines.specs.Canonical.{arcrole_markup, linkbase_markup, role_markup, schema_markup}
use Rattle.instance_lines.specs.Lists.{of_option}
use Rattle.targets.specs.ValidSets.{IsClean}
use Rattle.ix_base.specs.Asks.{first_of}
use Rattle.target_contents.specs.Contents.{IsContent, if_any, is_linkbase_for, linkbase_at, role_at, role_to}
use Rattle.target_contents.specs.PageSet.{PageSet, base_at, elements}
use Rattle.target_contents.specs.RoleAddresses.{refers_to}
use Rattle.targets.proofs.AllowedLaws.{allowed-nil}
use Rattle.target_contents.proofs.FitLaws.{none-broken, not-not}
use Rattle.targets.proofs.HoldLaws.{IsGood, good-token}
use Rattle.targets.proofs.SoundLaws.{IsSoundAt, attribute-sound, sound-at}

-- What holds of each holds of each once.

module _ {X : Type 0} (P : X → Type 0) (R : X → X → Ordering) where
  once-by : (o : Ordering) (x y : X) (ys : List X) → P x → All P (y ∷ ys) → All P (put R x ys) → All P (put_by o x y ys (put R x ys))
  once-by Less x y ys p h behind = All-cons P x (y ∷ ys) p h
  once-by Equal x y ys p h behind = h
  once-by Greater x y ys p h behind = All-cons P y (put R x ys) (All-head P y ys h) behind

  once-put : (x : X) (ys : List X) → P x → All P ys → All P (put R x ys)
  once-put x [] p h = All-cons P x [] p h
  once-put x (y ∷ ys) p h = once-by (R x y) x y ys p h (once-put x ys p (All-tail P y ys h))

  pub all-once : (xs : List X) → All P xs → All P (in_order R xs)
  unfolding in_order
  all-once [] h = All-nil P
  all-once (x ∷ xs) h = once-put x (in_order R xs) (All-head P x xs h) (all-once xs (All-tail P x xs h))

pub all-map : {X Y : Type 0} (P : X → Type 0) (Q : Y → Type 0) (f : X → Y) → ((x : X) → P x → Q (f x)) → (xs : List X) → All P xs → All Q (map f xs)
all-map P Q f h [] all = All-nil Q
all-map P Q f h (x ∷ xs) all = All-cons Q (f x) (map f xs) (h x (All-head P x xs all)) (all-map P Q f h xs (All-tail P x xs all))

pub all-some : {X Y : Type 0} (Q : Y → Type 0) (f : X → Option Y) → ((x : X) (y : Y) → f x ≡ Some y → Q y) → (xs : List X) → All Q (filter_map f xs)
all-some Q f h [] = All-nil Q
all-some Q f h (x ∷ xs) = by (f x) refl (all-some Q f h xs)
  where
    by : (o : Option _) → f x ≡ o → All Q (filter_map f xs) → All Q (cons_option o (filter_map f xs))
    by None e all = all
    by (Some y) e all = All-cons Q y (filter_map f xs) (h x y e) all

-- Addresses.

some-there : (text : List ℕ) → not (length text == 0) ≡ true → not (is_empty text) ≡ true
some-there [] h = h
some-there (c ∷ text) h = refl

link-good : (text : List ℕ) → is_link text ≡ true → IsGood text
link-good text h =
    let outer = and_parts (not (length text == 0)) (is_token text && are_allowed text) h in
    let inner = and_parts (is_token text) (are_allowed text) outer.1 in
    record { full = and_from _ _ (some-there text outer.0) inner.0; allowed = inner.1 }

resolved-by : (text : List ℕ) (o : Option Parts) → IsGood text → IsGood (link_or text o)
resolved-by text None h = h
resolved-by text (Some url) h = by (is_link (serialize url)) refl
  where
    by : (b : Bool) → is_link (serialize url) ≡ b → IsGood (cond b (serialize url) text)
    by true e = link-good (serialize url) e
    by false e = h

-- what a good text gives against a base is good
pub resolved-good : (base text : List ℕ) → IsGood text → IsGood (resolved base text)
resolved-good base text h = by (nat_lt longest_link (length text) || is_some (url_of text))
  where
    by : (b : Bool) → IsGood (cond b text (link_or text (joined_url base text)))
    by true = h
    by false = resolved-by text (joined_url base text) h

-- an attribute that has a token which isn't empty
given-good : (t : Tree) (ns local : List ℕ) → IsSoundAt t → has_some ns local t ≡ true
    → (v : List ℕ) × (value_of t.head.attrs ns local ≡ Some v) × IsGood (token_of v)
given-good t ns local sound h = by (value_of t.head.attrs ns local) refl h
  where
    by : (o : Option (List ℕ)) → value_of t.head.attrs ns local ≡ o → option_map_or is_some_token o false ≡ true
        → (v : List ℕ) × (o ≡ Some v) × IsGood (token_of v)
    by None e k = absurd (cc)
    by (Some v) e k = (v, refl, good-token v (attribute-sound t ns local v sound e) k)

module _ (s : PageSet) (clean : IsClean s) where
  abbrev IsRef : Located → Type 0
  IsRef e = Contains (elements s) e × (refers e.placed.tree ≡ true)

  pub address-good : (e : Located) → IsRef e → IsGood (address_of (base_at s) e)
  address-good e (at, ref) =
      let t = e.placed.tree in
      let some = and_parts (has_some xlink_namespace (codes "href") t) (option_map_or (λ v. bytes_eq v (codes "simple")) (value_of t.head.attrs xlink_namespace (codes "type")) true) ref in
      let given = given-good t xlink_namespace (codes "href") (sound-at s clean e at) some.0 in
      resolved-good (base_at s e) (token_of (unwrap_or (value_of t.head.attrs xlink_namespace (codes "href")) []))
      (subst (λ o. IsGood (token_of (unwrap_or o []))) (sym given.1) given.2)

  keeps-reference : (e : Located) → Contains (elements s) e → breaks_reference (kind_of e.placed) e.placed.tree ≡ false
  keeps-reference e at = none-broken 0 s.pages clean.elements e at rule.N19 (18, omega arith, refl)

  schema-refers : (k : Kind) (t : Tree) → same_kind k kind.SchemaRef ≡ true → breaks_reference k t ≡ false → refers t ≡ true
  schema-refers kind.SchemaRef t is h = not-not (refers t) h
  schema-refers k t is h = absurd (cc)

  linkbase-refers : (k : Kind) (t : Tree) → same_kind k kind.LinkbaseRef ≡ true → breaks_reference k t ≡ false → refers t ≡ true
  linkbase-refers kind.LinkbaseRef t is h = not-not (refers t) h
  linkbase-refers k t is h = absurd (cc)

  schemas-there : (target : List ℕ) → All IsRef (filter (is_schema_for target) (elements s))
  schemas-there target =
      All-weaker (Contains (filter (is_schema_for target) (elements s))) IsRef
      (λ e at. let kept = Contains-from_filter (is_schema_for target) (elements s) e at in
      let is = (and_parts (is_kind kind.SchemaRef e) (bytes_eq target (target_above e.placed.above)) kept.1).0 in
      (kept.0, schema-refers (kind_of e.placed) e.placed.tree is (keeps-reference e kept.0)))
      (filter (is_schema_for target) (elements s)) (All-contains_itself (filter (is_schema_for target) (elements s)))

  linkbases-there : (target : List ℕ) → All IsRef (filter (is_linkbase_for target) (elements s))
  linkbases-there target =
      All-weaker (Contains (filter (is_linkbase_for target) (elements s))) IsRef
      (λ e at. let kept = Contains-from_filter (is_linkbase_for target) (elements s) e at in
      let is = (and_parts (is_kind kind.LinkbaseRef e) (bytes_eq target (target_above e.placed.above)) kept.1).0 in
      (kept.0, linkbase-refers (kind_of e.placed) e.placed.tree is (keeps-reference e kept.0)))
      (filter (is_linkbase_for target) (elements s)) (All-contains_itself (filter (is_linkbase_for target) (elements s)))

  -- Linkbases.

  abbrev pub IsGoodLinkbase : Linkbase → Type 0
  IsGoodLinkbase l = IsGood l.href × All IsGood (of_option l.role)

  any-good : (text : List ℕ) → are_allowed text ≡ true → All IsGood (of_option (if_any (token_of text)))
  any-good text h = by (is_empty (token_of text)) refl
    where
      by : (b : Bool) → is_empty (token_of text) ≡ b → All IsGood (of_option (cond b None (Some (token_of text))))
      by true e = All-nil IsGood
      by false e = All-cons IsGood (token_of text) [] (good-token text h (ap not e)) (All-nil IsGood)

  or-nothing : (e : Located) → Contains (elements s) e → (o : Option (List ℕ)) → value_of e.placed.tree.head.attrs xlink_namespace (codes "role") ≡ o
      → are_allowed (unwrap_or o []) ≡ true
  or-nothing e at None is = allowed-nil
  or-nothing e at (Some v) is = attribute-sound e.placed.tree xlink_namespace (codes "role") v (sound-at s clean e at) is

  linkbase-good : (e : Located) → IsRef e → IsGoodLinkbase (linkbase_at (base_at s) e)
  linkbase-good e h = (
    address-good e h,
    any-good (unwrap_or (value_of e.placed.tree.head.attrs xlink_namespace (codes "role")) [])
        (or-nothing e h.0 (value_of e.placed.tree.head.attrs xlink_namespace (codes "role")) refl),
  )

  -- Roles.

  abbrev pub IsGoodRole : RoleRef → Type 0
  IsGoodRole r = IsGood r.uri × IsGood r.href

  -- an element that refers to a role with this URI
  abbrev IsFor : List ℕ → Located → Type 0
  IsFor uri e = IsRef e × IsGood uri

  uri-good : (e : Located) (uri local : List ℕ) → Contains (elements s) e → has_some [] local e.placed.tree ≡ true
      → is_text uri (token_at local e.placed.tree) ≡ true → IsGood uri
  uri-good e uri local at some same =
      let t = e.placed.tree in
      let given = given-good t [] local (sound-at s clean e at) some in
      let token : is_text uri (Some (token_of given.0)) ≡ true = ap (λ o. is_text uri (option_map token_of o)) (sym given.1) ∙ same in
      subst IsGood (sym ((bytes_eq-Decides uri (token_of given.0)).0 token)) given.2

  abbrev IsRole : Kind → Type 0
  IsRole k = (same_kind k kind.RoleRef || same_kind k kind.ArcroleRef) ≡ true

  for-by : (k : Kind) (e : Located) (uri : List ℕ) → IsRole k → Contains (elements s) e → breaks_reference k e.placed.tree ≡ false
      → is_text uri (uri_by k e) ≡ true → IsFor uri e
  for-by kind.RoleRef e uri role at h same =
      let both = and_parts (refers e.placed.tree) (has_some [] (codes "roleURI") e.placed.tree) (not-not _ h) in
      ((at, both.0), uri-good e uri (codes "roleURI") at both.1 same)
  for-by kind.ArcroleRef e uri role at h same =
      let both = and_parts (refers e.placed.tree) (has_some [] (codes "arcroleURI") e.placed.tree) (not-not _ h) in
      ((at, both.0), uri-good e uri (codes "arcroleURI") at both.1 same)
  for-by k e uri role at h same = absurd (cc)

  role-kind : (k l : Kind) → IsRole k → same_kind l k ≡ true → IsRole l
  role-kind kind.RoleRef kind.RoleRef role is = refl
  role-kind kind.RoleRef l role is = absurd (cc)
  role-kind kind.ArcroleRef kind.ArcroleRef role is = refl
  role-kind kind.ArcroleRef l role is = absurd (cc)
  role-kind k l role is = absurd (cc)

  roles-there : (k : Kind) (uri : List ℕ) → IsRole k → All (IsFor uri) (filter (refers_to k uri) (elements s))
  roles-there k uri role =
      All-weaker (Contains (filter (refers_to k uri) (elements s))) (IsFor uri)
      (λ e at. let kept = Contains-from_filter (refers_to k uri) (elements s) e at in
      let both = and_parts (is_kind k e) (is_text uri (uri_of e)) kept.1 in
      for-by (kind_of e.placed) e uri (role-kind k (kind_of e.placed) role both.0) kept.0 (keeps-reference e kept.0) both.1)
      (filter (refers_to k uri) (elements s)) (All-contains_itself (filter (refers_to k uri) (elements s)))

  role-good : (k : Kind) → IsRole k → (uri : List ℕ) (r : RoleRef) → role_at (base_at s) (elements s) k uri ≡ Some r → IsGoodRole r
  role-good k role uri r e = by (filter (refers_to k uri) (elements s)) (roles-there k uri role) e
    where
      by : (xs : List Located) → All (IsFor uri) xs → option_map (role_to uri) (first_of (map (address_of (base_at s)) xs)) ≡ Some r → IsGoodRole r
      by [] all f = absurd (cc)
      by (x ∷ xs) all f =
          let same : role_to uri (address_of (base_at s) x) ≡ r = cc in
          let here = All-head (IsFor uri) x xs all in
          subst IsGoodRole same (here.1, address-good x here.0)

  -- The lists of a content.

  pub record AreGoodRefs (c : Content) : Type 0 where
    pub schemas : All IsGood c.schemas
    pub linkbases : All IsGoodLinkbase c.linkbases
    pub roles : All IsGoodRole c.roles
    pub arcroles : All IsGoodRole c.arcroles

  refs-arranged : (c : Content) → AreGoodRefs c → AreGoodRefs (arranged c)
  unfolding arranged
  refs-arranged c h = record {
    schemas = all-once IsGood (by_line schema_markup) c.schemas h.schemas;
    linkbases = all-once IsGoodLinkbase (by_line linkbase_markup) c.linkbases h.linkbases;
    roles = all-once IsGoodRole (by_line role_markup) c.roles h.roles;
    arcroles = all-once IsGoodRole (by_line arcrole_markup) c.arcroles h.arcroles;
  }

  -- the references of a content of a clean set are good
  pub refs-good : (target : List ℕ) (c : Content) → IsContent (base_at s) (elements s) target c → AreGoodRefs c
  refs-good target c (from, g, is) =
      subst AreGoodRefs (sym is) (refs-arranged from (record {
        schemas = subst (All IsGood) (sym g.schemas) (all-map IsRef IsGood (address_of (base_at s)) address-good _ (schemas-there target));
        linkbases = subst (All IsGoodLinkbase) (sym g.linkbases)
            (all-map IsRef IsGoodLinkbase (linkbase_at (base_at s)) linkbase-good _ (linkbases-there target));
        roles = subst (All IsGoodRole) (sym g.roles)
            (all-some IsGoodRole (role_at (base_at s) (elements s) kind.RoleRef) (role-good kind.RoleRef refl) _);
        arcroles = subst (All IsGoodRole) (sym g.arcroles)
            (all-some IsGoodRole (role_at (base_at s) (elements s) kind.ArcroleRef) (role-good kind.ArcroleRef refl) _);
      }))
