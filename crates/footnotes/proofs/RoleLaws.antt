-- Links by role.
use Rattle.std.proofs.Common.{◌≡◌, ◌∙◌, ◌++◌, ℕ, Bool, true, false, cond, List, [], ◌∷◌, map, refl, sym, ap, append-nil, subst, ⊎_elim}
use Rattle.std.proofs.lemmas.Cmp.{nat_list_cmp_total}
use Rattle.std.proofs.lemmas.List.{map-append}
use Rattle.std.proofs.lemmas.List.Elements.{Contains-append_cases, Contains-append_left, Contains-append_right, filter-append}
use Rattle.std.specs.Borrow.{Bor}
use Rattle.std.specs.List.{Contains, filter}
use Rattle.std.specs.Prelude.{bytes_eq}
use Rattle.ix_base.specs.declared.content.Footnote.{Footnote}
use Rattle.ix_base.specs.declared.tree.Spot.{Spot}
use Rattle.ix_base.specs.LocatedElements.{Located}
use Rattle.ix_base.specs.Once.{SameMembers, in_order}
use Rattle.ix_base.specs.SortedLists.{text_cmp}
use Rattle.ix_base.proofs.OnceLemmas.{Contains-cases, Contains-nil, Contains-same, in_order-same}
use Rattle.id_table.specs.Tables.{all_located}
use Rattle.ix_base.proofs.OnceOrdered.{same_text}
use Rattle.footnotes.specs.declared.arcs.ArcGroup.{ArcGroup}
use Rattle.footnotes.specs.ArcGroups.{arc_to, arcs_along, group_arcs}
use Rattle.footnotes.specs.FootnoteLinks.{Between}
use Rattle.footnotes.specs.ArcLinks.{link_by, links_by, role_by, roles_along}

pub grouped : (old new : List ArcGroup) (f : ArcGroup) (b : Bool) → new ≡ cond b (old ++ f ∷ []) old → new ≡ old ++ cond b (f ∷ []) []
grouped old new f true n = n
grouped old new f false n = n ∙ sym (append-nil old)

-- the arcs of a group have its role
kept-arcs : (q : List ℕ) (f : ArcGroup) (xs : List Located) (b : Bool) → bytes_eq q f.attributes.role.now ≡ b
    → filter (λ x. bytes_eq q x.role) (map (arc_to f) xs) ≡ cond b (map (arc_to f) xs) []
kept-arcs q f [] true e = refl
kept-arcs q f [] false e = refl
kept-arcs q f (x ∷ xs) true e =
    ap (λ b. cond b (arc_to f x ∷ filter (λ x. bytes_eq q x.role) (map (arc_to f) xs)) (filter (λ x. bytes_eq q x.role) (map (arc_to f) xs))) e
    ∙ ap (λ l. arc_to f x ∷ l) (kept-arcs q f xs true e)
kept-arcs q f (x ∷ xs) false e =
    ap (λ b. cond b (arc_to f x ∷ filter (λ x. bytes_eq q x.role) (map (arc_to f) xs)) (filter (λ x. bytes_eq q x.role) (map (arc_to f) xs))) e
    ∙ kept-arcs q f xs false e

of-role : (q : List ℕ) (f : ArcGroup) (fs : List ArcGroup) (b : Bool) → bytes_eq q f.attributes.role.now ≡ b
    → arcs_along (filter (λ f. bytes_eq q f.attributes.role.now) fs) ≡ filter (λ x. bytes_eq q x.role) (arcs_along fs)
    → arcs_along (cond b (f ∷ filter (λ f. bytes_eq q f.attributes.role.now) fs) (filter (λ f. bytes_eq q f.attributes.role.now) fs)) ≡ filter (λ x. bytes_eq q x.role) (group_arcs f) ++ filter (λ x. bytes_eq q x.role) (arcs_along fs)
of-role q f fs true e h = ap (λ l. group_arcs f ++ l) h ∙ ap (λ l. l ++ filter (λ x. bytes_eq q x.role) (arcs_along fs)) (sym (kept-arcs q f (all_located f.ends.now) true e))
of-role q f fs false e h = h ∙ ap (λ l. l ++ filter (λ x. bytes_eq q x.role) (arcs_along fs)) (sym (kept-arcs q f (all_located f.ends.now) false e))

-- the arcs of a role are those of the groups of the role
pub role-arcs : (q : List ℕ) (fs : List ArcGroup) → arcs_along (filter (λ f. bytes_eq q f.attributes.role.now) fs) ≡ filter (λ x. bytes_eq q x.role) (arcs_along fs)
role-arcs q [] = refl
role-arcs q (f ∷ fs) =
    of-role q f fs (bytes_eq q f.attributes.role.now) refl (role-arcs q fs)
    ∙ sym (filter-append (λ (x : Between). bytes_eq q x.role) (group_arcs f) (arcs_along fs))

-- the role of a group is that of each of its arcs
group-roles : (f : ArcGroup) (ss : List (Bor Spot)) → SameMembers (role_by ss f.attributes.role.now) (map (λ x. x.role) (map (arc_to f) (all_located ss)))
group-roles f [] = record { there = λ x h. h; back = λ x h. h }
group-roles f (s ∷ ss) = record {
  there = λ x h. Contains-append_left (f.attributes.role.now ∷ []) (map (λ x. x.role) (map (arc_to f) (all_located ss))) x h;
  back = λ x h. ⊎_elim (λ e. Contains-same f.attributes.role.now [] x e) (λ k. later ss x k) (Contains-cases f.attributes.role.now (map (λ x. x.role) (map (arc_to f) (all_located ss))) x h);
} where
  later : (ss : List (Bor Spot)) (x : List ℕ) → Contains (map (λ x. x.role) (map (arc_to f) (all_located ss))) x → Contains (f.attributes.role.now ∷ []) x
  later [] x h = absurd (Contains-nil x h)
  later (s ∷ ss) x h = ⊎_elim (λ e. Contains-same f.attributes.role.now [] x e) (λ k. later ss x k) (Contains-cases f.attributes.role.now (map (λ x. x.role) (map (arc_to f) (all_located ss))) x h)

both : {X : Type 0} (a b c d : List X) → SameMembers a b → SameMembers c d → SameMembers (a ++ c) (b ++ d)
both a b c d m n = record {
  there = λ x h. ⊎_elim (λ k. Contains-append_left b d x (m.there x k)) (λ k. Contains-append_right b d x (n.there x k)) (Contains-append_cases a c x h);
  back = λ x h. ⊎_elim (λ k. Contains-append_left a c x (m.back x k)) (λ k. Contains-append_right a c x (n.back x k)) (Contains-append_cases b d x h);
}

all-roles : (fs : List ArcGroup) → SameMembers (roles_along fs) (map (λ x. x.role) (arcs_along fs))
all-roles [] = record { there = λ x h. h; back = λ x h. h }
all-roles (f ∷ fs) =
    subst (SameMembers (roles_along (f ∷ fs))) (sym (map-append (λ (x : Between). x.role) (group_arcs f) (arcs_along fs)))
    (both (role_by f.ends.now f.attributes.role.now) (map (λ x. x.role) (group_arcs f)) (roles_along fs) (map (λ x. x.role) (arcs_along fs)) (group-roles f f.ends.now) (all-roles fs))

-- the roles of the groups that have arcs are those of the arcs
pub roles-are : (fs : List ArcGroup) → in_order text_cmp (roles_along fs) ≡ in_order text_cmp (map (λ x. x.role) (arcs_along fs))
roles-are fs = in_order-same same_text nat_list_cmp_total (roles_along fs) (map (λ x. x.role) (arcs_along fs)) (all-roles fs)

pub map-same : {X Y : Type 0} (f g : X → Y) → ((x : X) → f x ≡ g x) → (xs : List X) → map f xs ≡ map g xs
map-same f g h xs = λ i. map (λ x. h x i) xs

-- the links of the groups of each role are those of the arcs
pub links-are : (note : Located → Footnote) (fs : List ArcGroup) (at : List ℕ → List ArcGroup) (roles : List (List ℕ))
    → ((q : List ℕ) → at q ≡ filter (λ f. bytes_eq q f.attributes.role.now) fs) → roles ≡ in_order text_cmp (roles_along fs)
    → map (λ role. link_by note role (arcs_along (at role))) roles ≡ links_by note (arcs_along fs)
links-are note fs at roles h r =
    map-same (λ role. link_by note role (arcs_along (at role))) (λ role. link_by note role (filter (λ x. bytes_eq role x.role) (arcs_along fs)))
    (λ role. ap (link_by note role) (ap arcs_along (h role) ∙ role-arcs role fs)) roles
    ∙ ap (map (λ role. link_by note role (filter (λ x. bytes_eq role x.role) (arcs_along fs)))) (r ∙ roles-are fs)
