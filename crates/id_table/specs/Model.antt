-- What is to be known of an index.
use Rattle.std.specs.Prelude.{◌≡◌, Bool, true, false, ◌&&◌, ◌||◌, ℕ, List, [], ◌∷◌, not, All, Contains, Option, Some, None, is_none, is_some, codes, if◌then◌else◌, bytes_eq}
use Rattle.std.specs.Option.{option_map_or}
use Rattle.ix_base.specs.Asks.{Asks, asks, are_many}
use Rattle.ix_base.specs.Forms.{is_empty}
use Rattle.ix_base.specs.Ids.{id_of, tuple_id_of, holds_id, holds_tuple_id, agree, is_part, sole}
use Rattle.ix_base.specs.LinkRules.{found_at, target_of}
use Rattle.ix_base.specs.LocatedElements.{Located, is_item, is_kind, is_nil, is_tuple}
use Rattle.ix_base.specs.Membership.{owner, tuple_ref_of}
use Rattle.ix_base.specs.Readers.{attr}
use Rattle.ix_base.specs.Rows.{row}
use Rattle.ix_base.specs.declared.breach.Found.{Found}
use Rattle.ix_base.specs.declared.kind.Kind.TheVariants as kind
use Rattle.ix_base.specs.declared.rule.Rule.TheVariants.{L1}

-- an element that was chosen for an id
pub record Choice : Type 0 where
  pub id : List ℕ
  pub element : Located

-- the elements in the order in which they came, the choices, and whether memory was wanting
pub record Held : Type 0 where
  pub spots : List Located
  pub choices : List Choice
  pub is_spent : Bool

-- what an index is asked
abbrev pub asked : Held → Asks Located
asked h = asks h.spots

-- the element that was chosen for an id, if one was
abbrev pub chosen_in : List Choice → List ℕ → Option Located
chosen_in [] id = None
chosen_in (c ∷ cs) id = if bytes_eq id c.id then Some c.element else chosen_in cs id

abbrev pub chosen : Held → List ℕ → Option Located
chosen h id = chosen_in h.choices id

-- the element that an index gives for an id: the one that was chosen, or without a choice the only one that has it
abbrev pub one_held : Held → List ℕ → Option Located
one_held h id = option_map_or (λ c. Some c) (chosen h id) (sole (asked h) id)

-- one of these elements, that has the id
pub record IsHeldFor (es : List Located) (id : List ℕ) (e : Located) : Type 0 where
  pub there : Contains es e
  pub holds : holds_id id e ≡ true

-- a context or a unit that has the id, among these elements
pub record IsHolder (es : List Located) (id : List ℕ) (c : Located) : Type 0 where
  pub there : Contains es c
  pub holds : holds_id id c ≡ true
  pub part : is_part c ≡ true

-- a test that no context and no unit passes
abbrev pub IsOfOthers : (Located → Bool) → Type 0
IsOfOthers p = (e : Located) → is_part e ≡ true → p e ≡ false

-- the choices are those that the elements ask for: one for each id that several have that agree, and for no other id
abbrev pub AreChosen : Held → Type 0
AreChosen h = (id : List ℕ) → is_some (chosen h id) ≡ (are_many (asked h) (holds_id id) && agree (asked h) id)

-- no two elements have one id, and no two tuples one tuple id
pub record IsApart (h : Held) : Type 0 where
  pub ids : (id : List ℕ) → are_many (asked h) (holds_id id) ≡ false
  pub tuple_ids : (id : List ℕ) → are_many (asked h) (holds_tuple_id id) ≡ false

-- an element that is a tuple, or refers to one by its id
abbrev pub is_of_tuples : Located → Bool
is_of_tuples e = is_tuple e || is_some (tuple_ref_of e)

-- no tuple owns any of these elements
abbrev pub AreUnowned : List Located → Type 0
AreUnowned es = All (λ e. owner (asks es) e ≡ None) es

-- an element with a target, and not the default one
abbrev pub has_own_target : Located → Bool
has_own_target e = not (is_empty (target_of e))

-- another element has the element's id, and none was chosen for it; or another tuple has its tuple id
abbrev pub repeats_held : Held → Located → Bool
repeats_held h e =
    option_map_or (λ id. are_many (asked h) (holds_id id) && is_none (chosen h id)) (id_of e) false
    || option_map_or (λ id. are_many (asked h) (holds_tuple_id id)) (tuple_id_of e) false

abbrev pub doubled_at : Held → Located → List Found
doubled_at h e = row (repeats_held h e) (found_at e L1)

-- an item that breaks no rule of values, as its attributes tell: it has no value, or its text as it stands
abbrev pub faultless : Located → Bool
faultless e = (is_kind kind.NonNumeric e && is_none (attr (codes "format") e.placed.tree)) || is_nil e

-- an item whose value may break a rule
abbrev pub is_checked : Located → Bool
is_checked e = is_item e && not (faultless e)
