use Rattle.std.proofs.Common.{◌≡◌, ℕ, take, option_map}
use Rattle.ix_base.specs.Chain.{chain}
use Rattle.id_table.specs.Model.{asked}
use Rattle.id_table.specs.Tables.{all_located}
use Rattle.continuations.specs.ChainStarts.{first_start}
use Rattle.continuations.specs.Model.{chain_at}
use Rattle.continuations.proofs.chains.kept_chains.Given as goal

-- the chains of the elements before here are kept
abbrev pub invariant-loop-number : goal.invariant-loop-number
invariant-loop-number l = (page offset : ℕ) → chain_at l.kept page offset
    ≡ option_map (chain (asked l.index)) (first_start page offset (take l.number (all_located l.links.spots.items)))
