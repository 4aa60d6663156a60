-- The contexts and the units of a content are those that its items name.
use Rattle.std.proofs.Common.{◌≡◌, ◌∙◌, ap, sym, subst, refl, ℕ, ◌≤◌, true, List, [], map, Option, Some}
use Rattle.std.specs.Prelude.{◌&&◌, bytes_eq, unwrap_or}
use Rattle.std.specs.List.{Contains, flat_map}
use Rattle.std.specs.Option.{option_map_or}
use Rattle.std.specs.Ordering.{on}
use Rattle.std.specs.declared.cmp.Ordering.{Ordering}
use Rattle.std.proofs.lemmas.List.Concat.{flat_map_single}
use Rattle.ix_base.specs.declared.content.Content.{Content}
use Rattle.ix_base.specs.declared.content.Context.{Context}
use Rattle.ix_base.specs.declared.content.Item.{Item}
use Rattle.ix_base.specs.declared.content.Unit.{Unit as UnitContent}
use Rattle.ix_base.specs.declared.kind.Kind.TheVariants as kind
use Rattle.ix_base.specs.Facts.{facts_of}
use Rattle.ix_base.specs.LocatedElements.{Located}
use Rattle.ix_base.specs.NcName.{is_ncname}
use Rattle.ix_base.specs.PlainContents.{said_of}
use Rattle.ix_base.specs.SortedLists.{sorted, text_cmp}
use Rattle.instance_lines.specs.Arrangement.{arranged}
use Rattle.instance_lines.specs.Holdings.{items_in}
use Rattle.instance_lines.specs.Lists.{is_within, of_option}
use Rattle.instance_out.specs.Proper.{parts_fit}
use Rattle.targets.specs.ValidSets.{IsClean}
use Rattle.target_contents.specs.Contents.{IsContent, SaysItem, context_at, contexts_of, unit_at, units_of}
use Rattle.link_ids.specs.Links.{context_named, unit_named}
use Rattle.target_contents.specs.PageSet.{PageSet, base_at, elements}
use Rattle.target_contents.proofs.DepthLaws.{sorted-from}
use Rattle.targets.proofs.FormLaws.{context-id, context-there, has-context, has-unit, names-context, unit-id, unit-there}
use Rattle.targets.proofs.HolderLaws.{speaker_such}
use Rattle.target_contents.proofs.MemberLaws.{from-map, in-map-as, in-sorted, within-from}
use Rattle.targets.proofs.PartLaws.{key-name, keys-once, there, used}
use Rattle.targets.proofs.TotalLaws.{total, total-sorted, when}

-- a list in order has the same keys
in-order : {X : Type 0} (key : X → List ℕ) (R : X → X → Ordering) (xs ys : List X) → xs ≡ sorted R ys → (id : List ℕ) → Contains (map key ys) id → Contains (map key xs) id
in-order key R xs ys e id h =
    let y = from-map key ys id h in
    subst (λ l. Contains (map key l) id) (sym e) (in-map-as key (sorted R ys) y.0 id (in-sorted R ys y.0 y.1) y.2)

from-order : {X : Type 0} (key : X → List ℕ) (R : X → X → Ordering) (xs ys : List X) → xs ≡ sorted R ys → (id : List ℕ) → Contains (map key xs) id → Contains (map key ys) id
from-order key R xs ys e id h =
    let y = from-map key (sorted R ys) id (subst (λ l. Contains (map key l) id) e h) in
    in-map-as key ys y.0 id (sorted-from R ys y.0 y.1) y.2

by_id : Context → Context → Ordering
by_id = on (λ x. x.id) text_cmp

by_unit : UnitContent → UnitContent → Ordering
by_unit = on (λ u. u.id) text_cmp

module _ (s : PageSet) (clean : IsClean s) (target : List ℕ) (c : Content) (is : IsContent (base_at s) (elements s) target c) where
  contexts-are : c.contexts ≡ sorted by_id (contexts_of (elements s) target)
  unfolding arranged by_id
  contexts-are = ap (λ (x : Content). x.contexts) is.2 ∙ ap (sorted (on (λ (x : Context). x.id) text_cmp)) is.1.contexts

  units-are : c.units ≡ sorted by_unit (units_of (elements s) target)
  unfolding arranged by_unit
  units-are = ap (λ (x : Content). x.units) is.2 ∙ ap (sorted (on (λ (u : UnitContent). u.id) text_cmp)) is.1.units

  abbrev items : List Item
  items = items_in (facts_of c.facts)

  abbrev context_said : Located → Option (List ℕ)
  context_said e = Some (unwrap_or (context_named e) [])

  context-says : (e : Located) (i : Item) → SaysItem (base_at s) (elements s) e i → Some i.context ≡ context_said e
  context-says e i said = ap (λ (j : Item). Some j.context) said.1

  unit-says : (e : Located) (i : Item) → SaysItem (base_at s) (elements s) e i → i.unit ≡ unit_named e
  unit-says e i said = ap (λ (j : Item). j.unit) said.1

  contexts-used : (id : List ℕ) → Contains (map (λ x. x.id) c.contexts) id → Contains (map (λ i. i.context) items) id
  contexts-used id h =
      subst (λ l. Contains l id) (flat_map_single (λ (i : Item). i.context) items)
      (used s clean target c is kind.Context context_named context_said (λ i. Some i.context) context_at (λ x. x.id)
      context-says (names-context s clean) (context-there s clean) (has-context s clean) context-id id
      (from-order (λ (x : Context). x.id) by_id c.contexts (contexts_of (elements s) target) contexts-are id h))

  contexts-there : (id : List ℕ) → Contains (map (λ i. i.context) items) id → Contains (map (λ x. x.id) c.contexts) id
  contexts-there id h =
      in-order (λ (x : Context). x.id) by_id c.contexts (contexts_of (elements s) target) contexts-are id
      (there s clean target c is kind.Context context_named context_said (λ i. Some i.context) context_at (λ x. x.id)
      context-says (names-context s clean) (context-there s clean) (has-context s clean) context-id id
      (subst (λ l. Contains l id) (sym (flat_map_single (λ (i : Item). i.context) items)) h))

  units-used : (id : List ℕ) → Contains (map (λ u. u.id) c.units) id → Contains (flat_map (λ i. of_option i.unit) items) id
  units-used id h =
      used s clean target c is kind.Unit unit_named unit_named (λ i. i.unit) unit_at (λ u. u.id)
      unit-says (λ e at item. refl) (unit-there s clean) (has-unit s clean) unit-id id
      (from-order (λ (u : UnitContent). u.id) by_unit c.units (units_of (elements s) target) units-are id h)

  units-there : (id : List ℕ) → Contains (flat_map (λ i. of_option i.unit) items) id → Contains (map (λ u. u.id) c.units) id
  units-there id h =
      in-order (λ (u : UnitContent). u.id) by_unit c.units (units_of (elements s) target) units-are id
      (there s clean target c is kind.Unit unit_named unit_named (λ i. i.unit) unit_at (λ u. u.id)
      unit-says (λ e at item. refl) (unit-there s clean) (has-unit s clean) unit-id id h)

  -- the ids of contexts and units are names, and those of elements that have them once
  pub context-names : (id : List ℕ) → Contains (map (λ x. x.id) c.contexts) id → is_ncname id ≡ true
  context-names id h =
      let x = from-map (λ (x : Context). x.id) (contexts_of (elements s) target) id
      (from-order (λ (x : Context). x.id) by_id c.contexts (contexts_of (elements s) target) contexts-are id h) in
      subst (λ q. is_ncname q ≡ true) x.2
      (key-name s clean target c is kind.Context context_named context_said (λ i. Some i.context) context_at (λ x. x.id)
      context-says (names-context s clean) (context-there s clean) (has-context s clean) context-id x.0 x.1)

  pub unit-names : (id : List ℕ) → Contains (map (λ u. u.id) c.units) id → is_ncname id ≡ true
  unit-names id h =
      let x = from-map (λ (u : UnitContent). u.id) (units_of (elements s) target) id
      (from-order (λ (u : UnitContent). u.id) by_unit c.units (units_of (elements s) target) units-are id h) in
      subst (λ q. is_ncname q ≡ true) x.2
      (key-name s clean target c is kind.Unit unit_named unit_named (λ i. i.unit) unit_at (λ u. u.id)
      unit-says (λ e at item. refl) (unit-there s clean) (has-unit s clean) unit-id x.0 x.1)

  pub contexts-once : (t : List ℕ) → total (λ x. when (bytes_eq t x.id) 1) c.contexts ≤ option_map_or (λ x. 1) (speaker_such kind.Context (elements s) t) 0
  contexts-once t =
      subst (λ n. n ≤ option_map_or (λ (x : Located). 1) (speaker_such kind.Context (elements s) t) 0)
      (sym (ap (total (λ (x : Context). when (bytes_eq t x.id) 1)) contexts-are
      ∙ total-sorted (λ (x : Context). when (bytes_eq t x.id) 1) by_id (contexts_of (elements s) target)))
      (keys-once s clean target c is kind.Context context_named context_said (λ i. Some i.context) context_at (λ x. x.id)
      context-says (names-context s clean) (context-there s clean) (has-context s clean) context-id t)

  pub units-once : (t : List ℕ) → total (λ u. when (bytes_eq t u.id) 1) c.units ≤ option_map_or (λ x. 1) (speaker_such kind.Unit (elements s) t) 0
  units-once t =
      subst (λ n. n ≤ option_map_or (λ (x : Located). 1) (speaker_such kind.Unit (elements s) t) 0)
      (sym (ap (total (λ (u : UnitContent). when (bytes_eq t u.id) 1)) units-are
      ∙ total-sorted (λ (u : UnitContent). when (bytes_eq t u.id) 1) by_unit (units_of (elements s) target)))
      (keys-once s clean target c is kind.Unit unit_named unit_named (λ i. i.unit) unit_at (λ u. u.id)
      unit-says (λ e at item. refl) (unit-there s clean) (has-unit s clean) unit-id t)

  parts-are : parts_fit (said_of c) ≡ true
  unfolding parts_fit
  parts-are =
      let contexts = map (λ (x : Context). x.id) c.contexts in
      let named = map (λ (i : Item). i.context) items in
      let units = map (λ (u : UnitContent). u.id) c.units in
      let measured = flat_map (λ (i : Item). of_option i.unit) items in
      let a : is_within contexts named ≡ true = within-from contexts named contexts-used in
      let b : is_within named contexts ≡ true = within-from named contexts contexts-there in
      let d : is_within units measured ≡ true = within-from units measured units-used in
      let e : is_within measured units ≡ true = within-from measured units units-there in
      λ i. a i && b i && d i && e i

-- contexts and units of a whole target are those that its items name
pub parts-fit : (s : PageSet) → IsClean s → (target : List ℕ) (c : Content) → IsContent (base_at s) (elements s) target c → parts_fit (said_of c) ≡ true
parts-fit s clean target c is = parts-are s clean target c is
