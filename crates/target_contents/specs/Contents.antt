-- What the pages of a set say of a target.
use Rattle.std.specs.Prelude.{◌≡◌, ◌&&◌, ◌||◌, not, ℕ, Bool, List, [], ◌∷◌, map, flat_map, filter, Option, None, Some, Ok, is_some, option_map, unwrap_or, if◌then◌else◌, bytes_eq, codes}
use Rattle.std.specs.List.{filter_map}
use Rattle.ix_base.specs.declared.content.Content.{Content}
use Rattle.ix_base.specs.declared.content.Context.{Context}
use Rattle.ix_base.specs.declared.content.Item.{Item}
use Rattle.ix_base.specs.declared.content.Linkbase.{Linkbase}
use Rattle.ix_base.specs.declared.content.NoteLink.{NoteLink}
use Rattle.ix_base.specs.declared.content.RoleRef.{RoleRef}
use Rattle.ix_base.specs.declared.content.Unit.{Unit as UnitContent}
use Rattle.ix_base.specs.declared.kind.Kind.{Kind}
use Rattle.ix_base.specs.declared.kind.Kind.TheVariants as kind
use Rattle.ix_base.specs.Asks.{Asks, asks, first_of}
use Rattle.ix_base.specs.Attributes.{value_of}
use Rattle.ix_base.specs.ContextForm.{context}
use Rattle.ix_base.specs.Facts.{facts_of}
use Rattle.ix_base.specs.Forms.{is_empty}
use Rattle.ix_base.specs.Ids.{context_for, unit_for}
use Rattle.ix_base.specs.LinkRules.{address_of, is_schema_for, target_above, target_of}
use Rattle.ix_base.specs.LocatedElements.{Located, head_of, is_fact, is_item, is_kind}
use Rattle.ix_base.specs.Membership.{deepest, owner}
use Rattle.ix_base.specs.Namespaces.{xlink_namespace}
use Rattle.ix_base.specs.Once.{in_order}
use Rattle.ix_base.specs.Rows.{row}
use Rattle.ix_base.specs.SortedLists.{text_cmp}
use Rattle.ix_base.specs.Token.{token_of}
use Rattle.ix_base.specs.UnitForm.{unit}
use Rattle.facts.specs.ItemValue.{IsItem}
use Rattle.footnotes.specs.FootnoteLinks.{notes}
use Rattle.instance_lines.specs.Arrangement.{arranged}
use Rattle.link_ids.specs.Links.{context_named, unit_named}
use Rattle.target_contents.specs.RoleAddresses.{refers_to}
use Rattle.target_contents.specs.TargetFacts.{AreFacts}

-- an element that has a target of its own
abbrev pub has_target : Located → Bool
has_target e = is_fact e || is_kind kind.References e

abbrev pub targets_at : Located → List (List ℕ)
targets_at e = row (has_target e) (target_of e)

-- the targets of a set, in byte order, each once
abbrev pub target_names : List Located → List (List ℕ)
target_names es = in_order text_cmp (flat_map targets_at es)

-- References.

-- a linkbaseRef in an ix:references of this target
abbrev pub is_linkbase_for : List ℕ → Located → Bool
is_linkbase_for target e = is_kind kind.LinkbaseRef e && bytes_eq target (target_above e.placed.above)

-- a text, unless it is empty
abbrev pub if_any : List ℕ → Option (List ℕ)
if_any text = if is_empty text then None else Some text

-- what a linkbaseRef refers to
abbrev pub linkbase_at : (Located → List ℕ) → Located → Linkbase
linkbase_at bases e = record {
  href = address_of bases e;
  role = if_any (token_of (unwrap_or (value_of (head_of e).attrs xlink_namespace (codes "role")) []));
}

-- Contexts and units: those that the items of a target name.

abbrev pub is_item_of : List ℕ → Located → Bool
is_item_of target e = is_item e && bytes_eq target (target_of e)

-- the ids that the items of a target name, in order, each once
abbrev pub ids_named : (Located → Option (List ℕ)) → List ℕ → List Located → List (List ℕ)
ids_named ref target es = in_order text_cmp (filter_map ref (filter (is_item_of target) es))

abbrev pub context_at : Located → Option Context
context_at e = context e.placed.tree

abbrev pub unit_at : Located → Option UnitContent
unit_at e = unit e.placed.tree

-- what the one element with each id says
abbrev pub contexts_of : List Located → List ℕ → List Context
contexts_of es target = filter_map (context_for es) (ids_named context_named target es)

abbrev pub units_of : List Located → List ℕ → List UnitContent
units_of es target = filter_map (unit_for es) (ids_named unit_named target es)

-- Roles and arcroles: those that the footnote links of a target use.

-- the role of a link, and those of its footnotes
abbrev pub roles_in : NoteLink → List (List ℕ)
roles_in link = link.role ∷ map (λ n. n.role) link.footnotes

-- the arcroles of its arcs
abbrev pub arcroles_in : NoteLink → List (List ℕ)
arcroles_in link = map (λ a. a.arcrole) link.arcs

-- what links use, in order, each once
abbrev pub uris_in : (NoteLink → List (List ℕ)) → List NoteLink → List (List ℕ)
uris_in uris links = in_order text_cmp (flat_map uris links)

abbrev pub role_to : List ℕ → List ℕ → RoleRef
role_to uri href = record { uri = uri; href = href }

-- the reference of this kind for a URI, where there is one: where no rule on links is broken, all of them have one address
abbrev pub role_at : (Located → List ℕ) → List Located → Kind → List ℕ → Option RoleRef
role_at bases es k uri = option_map (role_to uri) (first_of (map (address_of bases) (filter (refers_to k uri) es)))

abbrev pub roles_for : (Located → List ℕ) → List Located → Kind → List (List ℕ) → List RoleRef
roles_for bases es k uris = filter_map (role_at bases es k) uris

-- a fact of a target without an owner
abbrev pub is_outer : Asks Located → List ℕ → Located → Bool
is_outer a target e = is_fact e && bytes_eq target (target_of e) && not (is_some (owner a e))

-- an item says this
abbrev pub SaysItem : (Located → List ℕ) → List Located → Located → Item → Type 0
SaysItem bases es e i = IsItem bases (asks es) e (Ok i)

-- what elements say of a target, each list as they come
pub record IsGathered (bases : Located → List ℕ) (es : List Located) (target : List ℕ) (c : Content) : Type 0 where
  pub schemas : c.schemas ≡ map (address_of bases) (filter (is_schema_for target) es)
  pub linkbases : c.linkbases ≡ map (linkbase_at bases) (filter (is_linkbase_for target) es)
  pub contexts : c.contexts ≡ contexts_of es target
  pub units : c.units ≡ units_of es target
  pub facts : AreFacts (SaysItem bases es) es deepest (filter (is_outer (asks es) target) es) (facts_of c.facts)
  pub roles : c.roles ≡ roles_for bases es kind.RoleRef (uris_in roles_in (notes bases es target))
  pub arcroles : c.arcroles ≡ roles_for bases es kind.ArcroleRef (uris_in arcroles_in (notes bases es target))
  pub notes : c.notes ≡ notes bases es target

-- the content of a target: what the elements say of it, each list in the order of an instance
abbrev pub IsContent : (Located → List ℕ) → List Located → List ℕ → Content → Type 0
IsContent bases es target c = (gathered : Content) × IsGathered bases es target gathered × (c ≡ arranged gathered)
