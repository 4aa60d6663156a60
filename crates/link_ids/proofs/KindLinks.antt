-- The links of an element by its kind.
use Rattle.std.proofs.Common.{◌≡◌, ◌∙◌, ℕ, Bool, true, false, List, [], ◌∷◌, ◌++◌, ap, append-nil, refl, sym}
use Rattle.std.specs.Prelude.{◌||◌, filter, flat_map, Option, None, Some, if◌then◌else◌, codes}
use Rattle.std.specs.Option.{option_map_or}
use Rattle.ix_base.specs.declared.kind.Kind.{Kind}
use Rattle.ix_base.specs.declared.kind.Kind.TheVariants as kind
use Rattle.ix_base.specs.Forms.{words_of}
use Rattle.ix_base.specs.Kinds.{is_fact, kind_of, same_kind}
use Rattle.ix_base.specs.LocatedElements.{Located, token_at}
use Rattle.ix_base.specs.NcName.{is_ncname}
use Rattle.ix_base.specs.Once.{in_order}
use Rattle.ix_base.specs.Readers.{attr, unit_of}
use Rattle.ix_base.specs.SortedLists.{text_cmp}
use Rattle.ix_base.specs.Trees.{Tree}
use Rattle.link_ids.specs.LinkAttributes.{links_in, links_to, list_in, single_in}
use Rattle.link_ids.specs.Links.{Link, links_of, of_option}
use Rattle.link_ids.specs.declared.attributes.LinkAttribute.{LinkAttribute}
use Rattle.link_ids.specs.declared.attributes.LinkAttribute.TheVariants as attribute

-- what an attribute would say, were the element of this kind
abbrev single_as : Kind → LinkAttribute → Located → Option (List ℕ)
single_as k attribute.ContinuedAt e =
    if (same_kind k kind.NonNumeric || same_kind k kind.Footnote) || same_kind k kind.Continuation then token_at (codes "continuedAt") e else None
single_as k attribute.ContextRef e =
    if same_kind k kind.NonNumeric || same_kind k kind.NonFraction || same_kind k kind.Fraction then token_at (codes "contextRef") e else None
single_as k attribute.UnitRef e = unit_of k e.placed.tree
single_as k attribute.TupleRef e = if is_fact k then token_at (codes "tupleRef") e else None
single_as k a e = None

abbrev list_as : Kind → LinkAttribute → Located → Option (List ℕ)
list_as k attribute.FromRefs e = if same_kind k kind.Relationship then attr (codes "fromRefs") e.placed.tree else None
list_as k attribute.ToRefs e = if same_kind k kind.Relationship then attr (codes "toRefs") e.placed.tree else None
list_as k a e = None

abbrev links_by : Kind → LinkAttribute → Located → List Link
links_by k a e = links_to a e (in_order text_cmp (filter is_ncname (of_option (single_as k a e) ++ option_map_or words_of (list_as k a e) [])))

-- the links of an element, were it of this kind
abbrev pub links_as : Kind → Located → List Link
links_as k e =
    links_by k attribute.ContinuedAt e ++ (links_by k attribute.ContextRef e ++ (links_by k attribute.UnitRef e
    ++ (links_by k attribute.TupleRef e ++ (links_by k attribute.FromRefs e ++ links_by k attribute.ToRefs e))))

pub as-kind : (k : Kind) (e : Located) → kind_of e.placed ≡ k → links_as k e ≡ links_of e
as-kind k e h = sym (ap (λ l. links_as l e) h)

abbrev pub by_all : List LinkAttribute → Located → List Link
by_all attributes e = flat_map (λ a. links_in a e) attributes

pub text-links : (e : Located) → by_all (attribute.ContinuedAt ∷ attribute.ContextRef ∷ attribute.TupleRef ∷ []) e ≡ links_as kind.NonNumeric e
unfolding in_order
text-links e = refl

pub number-links : (e : Located) → by_all (attribute.ContextRef ∷ attribute.UnitRef ∷ attribute.TupleRef ∷ []) e ≡ links_as kind.NonFraction e
unfolding in_order
number-links e = refl

pub fraction-links : (e : Located) → by_all (attribute.ContextRef ∷ attribute.UnitRef ∷ attribute.TupleRef ∷ []) e ≡ links_as kind.Fraction e
unfolding in_order
fraction-links e = refl

pub footnote-links : (e : Located) → by_all (attribute.ContinuedAt ∷ []) e ≡ links_as kind.Footnote e
unfolding in_order
footnote-links e = refl

pub continuation-links : (e : Located) → by_all (attribute.ContinuedAt ∷ []) e ≡ links_as kind.Continuation e
unfolding in_order
continuation-links e = refl

pub tuple-links : (e : Located) → by_all (attribute.TupleRef ∷ []) e ≡ links_as kind.Tuple e
unfolding in_order
tuple-links e = refl

pub relationship-links : (e : Located) → by_all (attribute.FromRefs ∷ attribute.ToRefs ∷ []) e ≡ links_as kind.Relationship e
unfolding in_order
relationship-links e = ap (λ l. links_in attribute.FromRefs e ++ l) (append-nil (links_in attribute.ToRefs e))

-- an element of another kind has none
pub no-links : (k : Kind) (e : Located) → (k ≡ kind.NonNumeric → ⊥) → (k ≡ kind.Footnote → ⊥) → (k ≡ kind.Continuation → ⊥) → (k ≡ kind.NonFraction → ⊥)
    → (k ≡ kind.Fraction → ⊥) → (k ≡ kind.Tuple → ⊥) → (k ≡ kind.Relationship → ⊥) → [] ≡ links_as k e
unfolding in_order
no-links kind.NonNumeric e n f c o r t l = absurd (n refl)
no-links kind.Footnote e n f c o r t l = absurd (f refl)
no-links kind.Continuation e n f c o r t l = absurd (c refl)
no-links kind.NonFraction e n f c o r t l = absurd (o refl)
no-links kind.Fraction e n f c o r t l = absurd (r refl)
no-links kind.Tuple e n f c o r t l = absurd (t refl)
no-links kind.Relationship e n f c o r t l = absurd (l refl)
no-links k e n f c o r t l = refl

-- The links of an element by one attribute.

-- links by an attribute that says this
abbrev links_said : LinkAttribute → Located → Option (List ℕ) → Option (List ℕ) → List Link
links_said a e id list = links_to a e (in_order text_cmp (filter is_ncname (of_option id ++ option_map_or words_of list [])))

no-list : (a : LinkAttribute) (t : Tree) (id : List ℕ) → single_in a t ≡ Some id → list_in a t ≡ None
no-list attribute.FromRefs t id h = absurd cc
no-list attribute.ToRefs t id h = absurd cc
no-list a t id h = refl

one-once : (b : Bool) (id : List ℕ) → (if b then id ∷ [] else []) ≡ in_order text_cmp (if b then id ∷ [] else [])
unfolding in_order
one-once true id = refl
one-once false id = refl

module _ (a : LinkAttribute) (e : Located) where
  pub single-links : (id : List ℕ) → single_in a e.placed.tree ≡ Some id → links_to a e (filter is_ncname (id ∷ [])) ≡ links_in a e
  single-links id h =
      ap (links_to a e) (one-once (is_ncname id) id) ∙ (λ i. links_said a e (sym h i) (sym (no-list a e.placed.tree id h) i))

  pub none-links : single_in a e.placed.tree ≡ None → list_in a e.placed.tree ≡ None → [] ≡ links_in a e
  unfolding in_order
  none-links none h = λ i. links_said a e (sym none i) (sym h i)
