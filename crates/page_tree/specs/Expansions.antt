-- What the attributes of a tag stand for, each looked up once.
use Rattle.std.specs.Prelude.{ℕ, Bool, false, true, ◌||◌, List, [], ◌∷◌, Option, Some, None, unwrap_or, if◌then◌else◌}
use Rattle.std.specs.List.{list_any, filter_map}
use Rattle.std.specs.Borrow.{Bor}
use Rattle.ix_base.specs.Trees.{Bound, Named, Valued, named}
use Rattle.ix_base.specs.Scope.{has_prefix, attribute_name}
use Rattle.page_tree.specs.Tags.{declares, is_bound}
use Rattle.page_constructs.specs.Tokens.{Attribute, Tag}
use Rattle.page_tree.specs.declared.names.PrefixState.{PrefixState}
use Rattle.page_tree.specs.declared.names.PrefixState.TheVariants.{Missing, Known, Unknown}
use Rattle.page_tree.specs.declared.names.Declaration.{Declaration}
use Rattle.page_tree.specs.declared.names.Expanded.{Expanded}

-- an attribute with its expanded name, and its prefix in the scope
pub record Expansion : Type 0 where
  pub valued : Valued
  pub prefix : PrefixState

abbrev pub expansion : Expanded → Expansion
expansion e = record { valued = record { name = named e.name.now; value = e.value.now }; prefix = e.prefix }

abbrev pub prefix_in : List Bound → List ℕ → PrefixState
prefix_in scope name = if has_prefix name then (if is_bound scope name then Known else Unknown) else Missing

-- what an attribute stands for that is no declaration
abbrev pub expansion_of : List Bound → Attribute → Option Expansion
expansion_of scope a =
    if declares a then None else Some (record {
      valued = record { name = attribute_name scope a.name; value = unwrap_or a.value [] };
      prefix = prefix_in scope a.name;
    })

abbrev pub expansions : List Bound → Tag → List Expansion
expansions scope t = filter_map (expansion_of scope) t.attrs

abbrev pub is_unknown_prefix : PrefixState → Bool
is_unknown_prefix Missing = false
is_unknown_prefix Known = false
is_unknown_prefix Unknown = true

-- a prefix that isn't bound
abbrev pub is_unknown : Expansion → Bool
is_unknown e = is_unknown_prefix e.prefix

abbrev pub named_if : PrefixState → Named → Option Named
named_if Missing name = None
named_if Known name = Some name
named_if Unknown name = None

-- the expanded name of one with a bound prefix
abbrev pub known_name : Expansion → Option Named
known_name e = named_if e.prefix e.valued.name

-- an element of a list is the same as a later one
abbrev pub repeats_by : {X : Type 0} → (X → X → Bool) → List X → Bool
repeats_by same [] = false
repeats_by same (x ∷ more) = list_any (same x) more || repeats_by same more

-- a local part and a namespace
abbrev pub named_pair : Bor (List ℕ) × Bor (List ℕ) → Named
named_pair p = record { ns = p.1.now; local = p.0.now }

-- what a declaration binds
abbrev pub declared : Declaration → Bound
declared d = record { prefix = d.prefix.now; ns = d.ns.now }
