-- Facts that are seen to break no rule by a look at each of their attributes.
use Rattle.std.specs.Prelude.{◌≡◌, ℕ, Bool, true, false, not, ◌&&◌, ◌||◌, List, Option, Some, None, IfSome, if◌then◌else◌, bytes_eq, codes}
use Rattle.std.specs.List.{list_any}
use Rattle.std.specs.Option.{option_map_or}
use Rattle.ix_base.specs.declared.kind.Kind.{Kind}
use Rattle.ix_base.specs.ElementRules.{is_reserved, misses}
use Rattle.ix_base.specs.Forms.{is_empty, is_boolean}
use Rattle.ix_base.specs.Scope.{is_qname}
use Rattle.ix_base.specs.Token.{token_of}
use Rattle.ix_base.specs.Trees.{Bound, Tree, Valued}
use Rattle.ix_base.specs.ValueNames.{is_unbound, name_of}
use Rattle.value_forms.specs.FormTests.{has}
use Rattle.ix_grammar.specs.declared.sound.Given.{Given}
use Rattle.ix_grammar.specs.declared.sound.Seen.{Seen}
use Rattle.ix_grammar.specs.declared.sound.Seen.TheVariants as seen
use Rattle.ix_grammar.specs.NeededForms.{needed_form}
use Rattle.ix_grammar.specs.StrayAttributes.{may_have_named}

-- a value is a qualified name whose prefix isn't in scope
abbrev pub is_unbound_in : List Bound → List ℕ → Bool
is_unbound_in scope value = is_qname (token_of value) && is_unbound scope (token_of value)

-- a value stands for a name in a namespace in which no fact has its name
abbrev pub is_reserved_in : List Bound → List ℕ → Bool
is_reserved_in scope value = option_map_or is_reserved (name_of scope (token_of value)) false

abbrev pub is_misnamed : List Bound → List ℕ → List ℕ → Bool
is_misnamed scope local value =
    (bytes_eq local (codes "name") && (is_unbound_in scope value || is_reserved_in scope value))
    || (bytes_eq local (codes "format") && is_unbound_in scope value)

-- an attribute without a namespace that a fact of this kind may not have, whose value isn't what it has to be, or that few have
abbrev pub is_odd_as : Kind → List Bound → List ℕ → List ℕ → Bool
is_odd_as k scope local value =
    not (may_have_named k local) || option_map_or (λ f. not (has f value)) (needed_form local) false
    || is_misnamed scope local value || bytes_eq local (codes "precision")

-- the same of any attribute; of those with a namespace, one that has the local name of `xsi:nil` and isn't a boolean
abbrev pub is_odd : Kind → List Bound → Valued → Bool
is_odd k scope a =
    if is_empty a.name.ns then is_odd_as k scope a.name.local a.value
    else bytes_eq a.name.local (codes "nil") && not (is_boolean a.value)

abbrev pub has_odd : Kind → Tree → Bool
has_odd k t = list_any (is_odd k t.head.scope) t.head.attrs

-- What a look at an attribute tells.

-- the name that the attribute has, where it tells one
abbrev pub name_seen : Seen → Option (List ℕ)
name_seen seen.Name = Some (codes "name")
name_seen seen.Context = Some (codes "contextRef")
name_seen seen.Unit = Some (codes "unitRef")
name_seen seen.Decimals = Some (codes "decimals")
name_seen s = None

abbrev pub IsSeen : Valued → Seen → Type 0
IsSeen a s = IfSome (name_seen s) (λ local. (is_empty a.name.ns && bytes_eq a.name.local local) ≡ true)

abbrev pub tells_odd : Seen → Bool
tells_odd seen.Odd = true
tells_odd s = false

-- an element has the attribute that was seen, and those that were
abbrev pub IsThere : Tree → Seen → Type 0
IsThere t s = IfSome (name_seen s) (λ local. misses t local ≡ false)

abbrev pub AreThere : Tree → Given → Type 0
AreThere t g =
    (g.name ≡ true → misses t (codes "name") ≡ false) × (g.context ≡ true → misses t (codes "contextRef") ≡ false)
    × (g.unit ≡ true → misses t (codes "unitRef") ≡ false) × (g.decimals ≡ true → misses t (codes "decimals") ≡ false)
