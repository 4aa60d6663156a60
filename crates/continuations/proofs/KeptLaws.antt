-- Chains that are kept by place, as contracts see them.
use Rattle.std.proofs.Common.{◌≡◌, ◌∙◌, ℕ, List, refl, ap, sym, true, Option, Some, None, is_some, option_map}
use Rattle.ix_base.specs.LocatedElements.{Located}
use Rattle.id_table.specs.declared.slice.Slice.{Slice}
use Rattle.id_table.specs.Slices.{spots_in}
use Rattle.continuations.specs.Model.{chain_at}

-- what a slice that was found says of the chains
pub found-is : (kept chains : List ((ℕ × ℕ) × List Located)) (page offset : ℕ) (o p : Option Slice)
    → kept ≡ chains → option_map spots_in o ≡ chain_at kept page offset → o ≡ p → chain_at chains page offset ≡ option_map spots_in p
found-is kept chains page offset o p v h e = sym (ap (λ cs. chain_at cs page offset) v) ∙ sym h ∙ ap (option_map spots_in) e

pub some-none : {X : Type 0} (o : Option X) → is_some o ≡ true → o ≡ None → ⊥
some-none None h e = absurd cc
some-none (Some x) h e = absurd cc

pub some-map : {X Y : Type 0} (f : X → Y) (o : Option X) → is_some (option_map f o) ≡ is_some o
some-map f None = refl
some-map f (Some x) = refl
