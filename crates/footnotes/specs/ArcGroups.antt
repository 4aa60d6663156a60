-- Groups of arcs: those of a relationship that go from one fact.
use Rattle.std.specs.Prelude.{ℕ, ◌≡◌, List, map, flat_map, filter, bytes_eq, Vec}
use Rattle.std.specs.Global.{Global}
use Rattle.text_map.specs.Texts.{Texts, items_in}
use Rattle.ix_base.specs.LocatedElements.{Located, located}
use Rattle.id_table.specs.Tables.{all_located}
use Rattle.ix_base.specs.LinkRules.{target_of}
use Rattle.footnotes.specs.declared.arcs.ArcAttributes.{ArcAttributes}
use Rattle.footnotes.specs.declared.arcs.ArcGroup.{ArcGroup}
use Rattle.footnotes.specs.FootnoteLinks.{Between, between, label, link_role, arcrole, arc_order}

-- an arc of a group, to this element
abbrev pub arc_to : ArcGroup → Located → Between
arc_to g x = record {
  role = g.attributes.role.now;
  arc = record { arcrole = g.attributes.arcrole.now; from_id = label (located g.from.now); to_id = label x; order = g.attributes.order.now };
  from = located g.from.now;
  to = x;
}

-- the arcs of a group
abbrev pub group_arcs : ArcGroup → List Between
group_arcs g = map (arc_to g) (all_located g.ends.now)

abbrev pub arcs_along : List ArcGroup → List Between
arcs_along groups = flat_map group_arcs groups

-- the groups at a text
abbrev pub groups_at : Texts (Vec ArcGroup Global) → List ℕ → List ArcGroup
groups_at m q = items_in m q

-- what a relationship says of each of its arcs
pub record AreAttributesOf (r : Located) (a : ArcAttributes) : Type 0 where
  pub role : a.role.now ≡ link_role r
  pub arcrole : a.arcrole.now ≡ arcrole r
  pub order : a.order.now ≡ arc_order r

-- the arcs of a relationship between some facts and some ends that belong to a target
abbrev pub arcs_from : Located → List Located → List ℕ → List Located → List Between
arcs_from r xs target fs = flat_map (λ f. map (between r f) xs) (filter (λ f. bytes_eq target (target_of f)) fs)
