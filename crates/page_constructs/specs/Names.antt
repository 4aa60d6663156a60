-- Written names in their parts.
use Rattle.std.specs.Prelude.{ℕ, List, Option, Some, None, if◌then◌else◌}
use Rattle.ix_base.specs.Scope.{has_prefix, prefix_of, local_of}

-- the prefix and the local part of a written name that has a colon
abbrev pub name_parts : List ℕ → Option (List ℕ × List ℕ)
name_parts name = if has_prefix name then Some (prefix_of name, local_of name) else None
