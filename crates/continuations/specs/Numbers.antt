-- Numbers of continuations, by id.
use Rattle.std.specs.Prelude.{ℕ, ◌≡◌, ◌<◌, true, false, List, length, map, Option, Some, None, IfSome, option_map, slice_get}
use Rattle.ix_base.specs.Asks.{Asks}
use Rattle.ix_base.specs.Chain.{next}
use Rattle.ix_base.specs.Ids.{holds_id}
use Rattle.ix_base.specs.LocatedElements.{Located}
use Rattle.text_map.specs.Texts.{Texts, get_in}
use Rattle.id_table.specs.declared.chain_element.ChainElement.{ChainElement}
use Rattle.id_table.specs.Tables.{all_located, chain_spots}

-- the number that is kept at an id
abbrev pub number_at : Texts ℕ → List ℕ → Option ℕ
number_at m q = get_in m q

-- at each id that one of the first so many elements has stands the number of one that has it
pub record AreNumbers (m : Texts ℕ) (xs : List Located) (upto : ℕ) : Type 0 where
  pub found : (q : List ℕ) (k : ℕ) → number_at m q ≡ Some k → (e : Located) × (slice_get xs k ≡ Some e) × (holds_id q e ≡ true)
  pub missed : (q : List ℕ) → number_at m q ≡ None → (k : ℕ) (e : Located) → k < upto → slice_get xs k ≡ Some e → holds_id q e ≡ false

-- the table, where there is one, is one of the numbers of these elements
abbrev pub IsTableOf : List ChainElement → Option (Texts ℕ) → Type 0
IsTableOf elements table = IfSome table (λ m. AreNumbers m (all_located (chain_spots elements)) (length elements))

-- the number stands at an id in a table of the numbers of these elements
abbrev pub StandsAt : List ChainElement → List ℕ → Option ℕ → Type 0
StandsAt elements id number = (m : Texts ℕ) × AreNumbers m (all_located (chain_spots elements)) (length elements) × (number_at m id ≡ number)

-- the elements whose numbers these are
abbrev pub numbered_in : List Located → List (Option ℕ) → List (Option (Option Located))
numbered_in conts nexts = map (option_map (slice_get conts)) nexts

-- the elements at which these go on
abbrev pub nexts_of : Asks Located → List Located → List (Option (Option Located))
nexts_of a xs = map (λ e. option_map Some (next a e)) xs
