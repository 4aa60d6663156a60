-- By what elements are put together.
use Rattle.std.specs.Prelude.{◌≡◌, ◌&&◌, ℕ, Bool, true, List, [], filter, Option, Some, None, if◌then◌else◌, bytes_eq}
use Rattle.ix_base.specs.declared.kind.Kind.TheVariants as kind
use Rattle.ix_base.specs.LocatedElements.{Located, is_fact, is_kind}
use Rattle.ix_base.specs.LinkRules.{is_schema_for, target_above, target_of}
use Rattle.std.specs.List.{list_any}
use Rattle.id_table.specs.Model.{has_own_target}
use Rattle.id_table.specs.Tables.{all_located, spots_at}
use Rattle.target_contents.specs.Contents.{is_linkbase_for}
use Rattle.target_contents.specs.declared.groups.Groups.{Groups}
use Rattle.target_contents.specs.declared.groups.Group.{Group}
use Rattle.target_contents.specs.declared.groups.Group.TheVariants.{Facts, Schemas, Linkbases}

-- the target for which an element stands in a group
abbrev pub key_by : Group → Located → Option (List ℕ)
key_by Facts e = if is_fact e then Some (target_of e) else None
key_by Schemas e = if is_kind kind.SchemaRef e then Some (target_above e.placed.above) else None
key_by Linkbases e = if is_kind kind.LinkbaseRef e then Some (target_above e.placed.above) else None

-- a fact of a target
abbrev pub is_fact_of : List ℕ → Located → Bool
is_fact_of target e = is_fact e && bytes_eq target (target_of e)

-- the facts and the references among these elements, by their targets: the facts where one of the elements has a target
pub record AreGroups (g : Groups) (es : List Located) : Type 0 where
  pub facts : list_any has_own_target es ≡ true → (target : List ℕ) → all_located (spots_at g.facts target) ≡ filter (is_fact_of target) es
  pub schemas : (target : List ℕ) → all_located (spots_at g.schemas target) ≡ filter (is_schema_for target) es
  pub linkbases : (target : List ℕ) → all_located (spots_at g.linkbases target) ≡ filter (is_linkbase_for target) es
  pub none : g.none.items ≡ []
