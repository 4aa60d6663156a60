-- The attribute at the place of a name.
use Rattle.std.proofs.Common.{◌≡◌, ◌<◌, ℕ, Bool, List, [], ◌∷◌, suc, Option, Some, refl, true, false, if◌then◌else◌, option_map, slice_get, nat_lt, arith}
use Rattle.ix_base.specs.Attributes.{Valued, is_named, value_of, place_named, kept_place}

-- its value is that of the name
value-by : (b : Bool) (a : Valued) (more : List Valued) (at : ℕ) (rest : Option (List ℕ))
    → option_map (λ a. a.value) (slice_get more at) ≡ rest
    → option_map (λ a. a.value) (slice_get (a ∷ more) (if b then 0 else suc at)) ≡ (if b then Some a.value else rest)
value-by true a more at rest h = refl
value-by false a more at rest h = h

pub value_placed : (attrs : List Valued) (ns local : List ℕ)
    → option_map (λ a. a.value) (slice_get attrs (place_named attrs ns local)) ≡ value_of attrs ns local
value_placed [] ns local = refl
value_placed (a ∷ more) ns local =
    value-by (is_named a ns local) a more (place_named more ns local) (value_of more ns local) (value_placed more ns local)

-- a place that is kept below 2^32 - 1 is the place
below-by : (b : Bool) (n kept : ℕ) → kept ≡ (if b then n else 4294967295) → kept < 4294967295 → kept ≡ n
below-by true n kept e h = e
below-by false n kept e h = absurd (omega (arith, e, h))

pub kept_place_below : (attrs : List Valued) (ns local : List ℕ) (kept : ℕ) → kept ≡ kept_place attrs ns local → kept < 4294967295
    → kept ≡ place_named attrs ns local
kept_place_below attrs ns local kept e h = below-by (nat_lt (place_named attrs ns local) 4294967295) (place_named attrs ns local) kept e h
