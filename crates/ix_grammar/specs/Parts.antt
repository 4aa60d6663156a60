-- Words on what elements hold and where they stand: the parts of fractions, children, languages, running text.
use Rattle.std.specs.Prelude.{ℕ, ◌==◌, Bool, false, not, ◌&&◌, List, Option, if◌then◌else◌, bytes_eq, codes}
use Rattle.std.specs.List.{list_any}
use Rattle.std.specs.Option.{option_map_or}
use Rattle.ix_base.specs.declared.kind.Kind.{Kind}
use Rattle.ix_base.specs.ElementRules.{parts_in, may_hold, is_running}
use Rattle.ix_base.specs.Forms.{is_some_token}
use Rattle.ix_base.specs.Kinds.{kind_in, ix_kind}
use Rattle.ix_base.specs.Namespaces.{ix_namespace}
use Rattle.ix_base.specs.Readers.{is_nil}
use Rattle.ix_base.specs.Trees.{Tree}

-- how many an element counts for
abbrev pub parts_of : List ℕ → Tree → ℕ
parts_of local t =
    if bytes_eq t.head.name.ns ix_namespace then (if bytes_eq t.head.name.local local then 1 else 0) else parts_in local t.children

abbrev pub lacks_two_parts : Tree → Bool
lacks_two_parts t =
    not (is_nil t) && not (parts_in (codes "numerator") t.children == 1 && parts_in (codes "denominator") t.children == 1)

-- an element may not stand in a parent of a kind
abbrev pub is_misplaced : Kind → Tree → Bool
is_misplaced parent t = not (may_hold parent (kind_in parent t.head.name))

-- a language is none, or empty
abbrev pub is_no_language : Option (List ℕ) → Bool
is_no_language lang = not (option_map_or is_some_token lang false)

-- an element of running text is among these
abbrev pub is_in_text : List Tree → Bool
is_in_text above = list_any (λ t. is_running (ix_kind t.head.name)) above
