-- The arcs of groups.
use Rattle.std.proofs.Common.{◌≡◌, ◌∙◌, ◌++◌, ◌+◌, ◌<◌, ℕ, Bool, true, false, cond, List, [], ◌∷◌, length, take, get_or, map, refl, sym, ap, Option, Some, None, option_map, append-nil, append_assoc}
use Rattle.std.proofs.lemmas.List.{take_more}
use Rattle.std.proofs.lemmas.List.Concat.{flat_map-append}
use Rattle.std.proofs.lemmas.Map.Made.{lookup-map_values}
use Rattle.std.proofs.lemmas.List.Elements.{filter-append, All-head, All-tail}
use Rattle.std.specs.Prelude.{bytes_eq, Vec}
use Rattle.std.specs.Borrow.{Bor}
use Rattle.std.specs.Global.{Global}
use Rattle.std.specs.List.{All, filter, flat_map}
use Rattle.std.specs.Map.{lookup}
use Rattle.std.specs.Option.{option_map_or}
use Rattle.text_map.specs.Texts.{Texts}
use Rattle.ix_base.specs.Asks.{Asks, asks}
use Rattle.ix_base.specs.LinkRules.{is_relationship, target_of}
use Rattle.ix_base.specs.LocatedElements.{Located, located}
use Rattle.ix_base.specs.declared.tree.Spot.{Spot}
use Rattle.id_table.specs.Tables.{all_located}
use Rattle.footnotes.specs.declared.arcs.ArcGroup.{ArcGroup}
use Rattle.footnotes.specs.declared.arcs.ArcAttributes.{ArcAttributes}
use Rattle.footnotes.specs.declared.relationships.Relationship.{Relationship}
use Rattle.footnotes.specs.ArcGroups.{arcs_along, arcs_from, group_arcs, groups_at, AreAttributesOf}
use Rattle.footnotes.specs.FootnoteLinks.{Between, arcs_by, arcs_in, between, label}
use Rattle.footnotes.specs.Model.{arcs_at, arcs_kept}
use Rattle.footnotes.specs.NamedEnds.{all_seen, seen, IsKnown}

-- the arcs of a group of a relationship
pub group-is : (r : Located) (t : ArcAttributes) (from : Bor Spot) (ends : Bor (List (Bor Spot))) → AreAttributesOf r t
    → group_arcs (record { attributes = t; from = from; ends = ends }) ≡ map (between r (located from.now)) (all_located ends.now)
group-is r t from ends h = λ i. map (λ x. record {
  role = h.role i;
  arc = record { arcrole = h.arcrole i; from_id = label (located from.now); to_id = label x; order = h.order i };
  from = located from.now;
  to = x;
}) (all_located ends.now)

entered-by : (g : Located → List Between) (f : Located) (group : ArcGroup) (old new : List ArcGroup) (b : Bool) → new ≡ cond b (old ++ group ∷ []) old → group_arcs group ≡ g f
    → arcs_along new ≡ arcs_along old ++ flat_map g (cond b (f ∷ []) [])
entered-by g f group old new true n e = ap arcs_along n ∙ flat_map-append group_arcs old (group ∷ []) ∙ ap (λ l. arcs_along old ++ (l ++ [])) e
entered-by g f group old new false n e = ap arcs_along n ∙ sym (append-nil (arcs_along old))

-- a group was entered at the target of its fact
pub group-entered : (r : Located) (xs : List Located) (q target : List ℕ) (f : Located) (group : ArcGroup) (old new : List ArcGroup)
    → new ≡ cond (bytes_eq q target) (old ++ group ∷ []) old → target ≡ target_of f → group_arcs group ≡ map (between r f) xs
    → arcs_along new ≡ arcs_along old ++ arcs_from r xs q (f ∷ [])
group-entered r xs q target f group old new n t e =
    entered-by (λ f. map (between r f) xs) f group old new (bytes_eq q (target_of f)) (n ∙ ap (λ u. cond (bytes_eq q u) (old ++ group ∷ []) old) t) e

pub arcs_from-append : (r : Located) (xs : List Located) (q : List ℕ) (fs gs : List Located)
    → arcs_from r xs q (fs ++ gs) ≡ arcs_from r xs q fs ++ arcs_from r xs q gs
arcs_from-append r xs q fs gs =
    ap (flat_map (λ f. map (between r f) xs)) (filter-append (λ f. bytes_eq q (target_of f)) fs gs)
    ∙ flat_map-append (λ f. map (between r f) xs) (filter (λ f. bytes_eq q (target_of f)) fs) (filter (λ f. bytes_eq q (target_of f)) gs)

pub joined : (a b c d e : List Between) → b ≡ a ++ d → c ≡ b ++ e → c ≡ a ++ (d ++ e)
joined a b c d e h k = k ∙ ap (λ l. l ++ e) h ∙ append_assoc a d e

-- the arcs of a relationship in a target, from what its ids name
abbrev pub relationship_arcs : List ℕ → Relationship → List Between
relationship_arcs q x = arcs_from (seen x) (all_located x.ends.spots.now) q (all_located x.sources.spots.now)

known-arcs : (a : Asks Located) (q : List ℕ) (x : Relationship) → IsKnown a x → relationship_arcs q x ≡ arcs_by true a q (seen x)
known-arcs a q x k = λ i. arcs_from (seen x) (k.ends i) q (k.sources i)

all-known : (a : Asks Located) (q : List ℕ) (rs : List Relationship) → All (IsKnown a) rs → flat_map (relationship_arcs q) rs ≡ flat_map (arcs_by true a q) (all_seen rs)
all-known a q [] k = refl
all-known a q (x ∷ rs) k =
    ap (λ l. l ++ flat_map (relationship_arcs q) rs) (known-arcs a q x (All-head (IsKnown a) x rs k))
    ∙ ap (λ l. arcs_by true a q (seen x) ++ l) (all-known a q rs (All-tail (IsKnown a) x rs k))

only-step : (a : Asks Located) (q : List ℕ) (e : Located) (es : List Located) (b : Bool)
    → flat_map (arcs_by true a q) (filter is_relationship es) ≡ flat_map (λ r. arcs_by (is_relationship r) a q r) es
    → flat_map (arcs_by true a q) (cond b (e ∷ filter is_relationship es) (filter is_relationship es)) ≡ arcs_by b a q e ++ flat_map (λ r. arcs_by (is_relationship r) a q r) es
only-step a q e es true h = ap (λ l. arcs_by true a q e ++ l) h
only-step a q e es false h = h

only-relationships : (a : Asks Located) (q : List ℕ) (es : List Located)
    → flat_map (arcs_by true a q) (filter is_relationship es) ≡ flat_map (λ r. arcs_by (is_relationship r) a q r) es
only-relationships a q [] = refl
only-relationships a q (e ∷ es) = only-step a q e es (is_relationship e) (only-relationships a q es)

-- the arcs of all relationships in a target
pub all-arcs : (es : List Located) (q : List ℕ) (rs : List Relationship) → all_seen rs ≡ filter is_relationship es → All (IsKnown (asks es)) rs
    → flat_map (relationship_arcs q) rs ≡ arcs_in es q
all-arcs es q rs s k = all-known (asks es) q rs k ∙ ap (flat_map (arcs_by true (asks es) q)) s ∙ only-relationships (asks es) q es

-- the arcs of one more relationship
pub more-arcs : (q : List ℕ) (rs : List Relationship) (i : ℕ) (x : Relationship) → i < length rs → x ≡ get_or rs i x
    → flat_map (relationship_arcs q) (take (i + 1) rs) ≡ flat_map (relationship_arcs q) (take i rs) ++ relationship_arcs q x
more-arcs q rs i x h e =
    ap (flat_map (relationship_arcs q)) (take_more rs i x h ∙ ap (λ y. take i rs ++ y ∷ []) (sym e))
    ∙ flat_map-append (relationship_arcs q) (take i rs) (x ∷ [])
    ∙ ap (λ l. flat_map (relationship_arcs q) (take i rs) ++ l) (append-nil (relationship_arcs q x))

arcs-of : (o : Option (Vec ArcGroup Global))
    → option_map_or (λ (xs : List Between). xs) (option_map (λ (w : Vec ArcGroup Global). arcs_along w.items) o) [] ≡ arcs_along (option_map_or (λ (w : Vec ArcGroup Global). w.items) o [])
arcs-of None = refl
arcs-of (Some v) = refl

-- the arcs in a target, by a table of groups
pub kept-is : (m : Texts (Vec ArcGroup Global)) (target : List ℕ) → arcs_at (arcs_kept m) target ≡ arcs_along (groups_at m target)
kept-is m target = ap (λ o. option_map_or (λ (xs : List Between). xs) o []) (lookup-map_values (λ (w : Vec ArcGroup Global). arcs_along w.items) (bytes_eq target) m) ∙ arcs-of (lookup (bytes_eq target) m)
