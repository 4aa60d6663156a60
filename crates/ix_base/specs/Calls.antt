-- The calls of an object in memory, numbered from 1.
use Rattle.std.specs.Prelude.{ℕ, ◌+◌, Bool, false, ◌==◌, List, nat_lt, if◌then◌else◌, Vec}
use Rattle.std.specs.declared.alloc.Global.{Global}
use Rattle.std.specs.List.{list_any}
use Rattle.ix_base.specs.declared.memory.Calls.{Calls}

-- the number of the call after this one
abbrev pub next_number : ℕ → ℕ
next_number n = if nat_lt n 18446744073709551615 then n + 1 else n

-- the next call's number is among those that fail
abbrev pub is_listed : Calls → Bool
is_listed c = list_any (λ k. k == next_number c.number) c.fails.items

-- the calls of an object that has had none, with these that fail
abbrev pub no_calls : Vec ℕ Global → Calls
no_calls fails = record { fails = fails; number = 0; faults = 0; failed = false }

-- the calls behind one more, which failed or not
abbrev pub called : Calls → Bool → Calls
called c failed = record { fails = c.fails; number = next_number c.number; faults = c.faults + (if failed then 1 else 0); failed = failed }

-- the numbers of those that fail
abbrev pub listed : Calls → List ℕ
listed c = c.fails.items
