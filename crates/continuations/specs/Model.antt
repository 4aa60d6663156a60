-- What is to be known of the chains of a set: each with the place of its first element.
use Rattle.std.specs.Prelude.{ℕ, ◌≡◌, true, List, Option, option_map, Contains}
use Rattle.std.specs.Coded.{Coded, coded×, coded_ℕ, coded_list}
use Rattle.std.specs.Map.{lookup}
use Rattle.ix_base.specs.Asks.{asks}
use Rattle.ix_base.specs.Chain.{chain}
use Rattle.ix_base.specs.LocatedElements.{Located, offset_of}
use Rattle.id_table.specs.ModelCodes.{located_code}
use Rattle.id_table.specs.Slices.{is_key}
use Rattle.continuations.specs.ChainStarts.{first_start, starts_at}

-- the chain at a place
abbrev pub chain_at : List ((ℕ × ℕ) × List Located) → ℕ → ℕ → Option (List Located)
chain_at chains page offset = lookup (is_key page offset) chains

-- at each place the chain from the first of these elements with which one begins there
abbrev pub AreChainsOf : List ((ℕ × ℕ) × List Located) → List Located → Type 0
AreChainsOf chains es = (page offset : ℕ) → chain_at chains page offset ≡ option_map (chain (asks es)) (first_start page offset es)

-- no other one of these elements with which a chain begins is at its place
abbrev pub StartsAlone : List Located → Located → Type 0
StartsAlone es e = (x : Located) → Contains es x → starts_at e.page (offset_of e) x ≡ true → x ≡ e

abbrev pub kept_code : Coded (List ((ℕ × ℕ) × List Located))
kept_code = coded_list (coded× (coded× coded_ℕ coded_ℕ) (coded_list located_code))
