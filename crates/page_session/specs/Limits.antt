-- How much a session may read.
use Rattle.std.specs.Prelude.{ℕ, Bool, ◌&&◌, nat_le, ◌<◌, ◌⊎◌}
use Rattle.ix_base.specs.declared.limits.TheConstants.{MOST_BYTES_PUT, MOST_TAGS_PUT}

-- all pages that were put, replaced and dropped ones too, may have so many bytes together, of which so many are `<`
abbrev pub may_hold : ℕ → ℕ → Bool
may_hold bytes tags = nat_le bytes MOST_BYTES_PUT && nat_le tags MOST_TAGS_PUT

-- so many have passed one of the two numbers
abbrev pub Passes : ℕ → ℕ → Type 0
Passes bytes tags = (MOST_BYTES_PUT < bytes) ⊎ (MOST_TAGS_PUT < tags)
