-- Lists that are made of groups, part by part.
use Rattle.std.proofs.Common.{◌≡◌, ◌∙◌, ◌++◌, ◌+◌, ◌<◌, ℕ, true, false, cond, List, [], ◌∷◌, length, take, get_or, map, sym, ap, append_assoc, append-nil}
use Rattle.std.proofs.lemmas.List.{take_more, map-append}
use Rattle.std.proofs.lemmas.List.Concat.{flat_map-append}
use Rattle.std.proofs.lemmas.List.Elements.{filter-append}
use Rattle.std.specs.Borrow.{Bor}
use Rattle.std.specs.List.{flat_map, filter}
use Rattle.ix_base.specs.LinkRules.{is_footnote, is_relationship}
use Rattle.ix_base.specs.LocatedElements.{Located, located, is_fact}
use Rattle.ix_base.specs.declared.tree.Spot.{Spot}
use Rattle.id_table.specs.Tables.{all_located}
use Rattle.footnotes.specs.declared.arcs.ArcGroup.{ArcGroup}
use Rattle.footnotes.specs.ArcGroups.{arc_to, arcs_along, group_arcs}
use Rattle.footnotes.specs.FootnoteLinks.{Between, ends, label}
use Rattle.footnotes.specs.ArcLinks.{end_footnotes}
use Rattle.footnotes.specs.NamedEnds.{all_seen, seen}
use Rattle.footnotes.specs.declared.relationships.Relationship.{Relationship}

-- what is made of a list is made of its parts
abbrev pub Joins : {X Y : Type 0} → (List X → List Y) → Type 0
Joins {X} f = (xs ys : List X) → f (xs ++ ys) ≡ f xs ++ f ys

pub step : {X Y : Type 0} (f : List X → List Y) → Joins f → (xs : List X) (i : ℕ) (x : X) → i < length xs → x ≡ get_or xs i x
    → f (take (i + 1) xs) ≡ f (take i xs) ++ f (x ∷ [])
step f j xs i x h e = ap f (take_more xs i x h ∙ ap (λ y. take i xs ++ y ∷ []) (sym e)) ∙ j (take i xs) (x ∷ [])

-- what is made of one more was added
pub step-all : {X Y : Type 0} (f : List X → List Y) → Joins f → (xs : List X) (i : ℕ) (x : X) → i < length xs → x ≡ get_or xs i x
    → (now new : List Y) → now ≡ f (take i xs) → new ≡ now ++ f (x ∷ []) → new ≡ f (take (i + 1) xs)
step-all f j xs i x h e now new n m = m ∙ ap (λ l. l ++ f (x ∷ [])) n ∙ sym (step f j xs i x h e)

pub step-from : {X Y : Type 0} (f : List X → List Y) → Joins f → (xs : List X) (i : ℕ) (x : X) → i < length xs → x ≡ get_or xs i x
    → (old now new : List Y) → now ≡ old ++ f (take i xs) → new ≡ now ++ f (x ∷ []) → new ≡ old ++ f (take (i + 1) xs)
step-from f j xs i x h e old now new n m =
    m ∙ ap (λ l. l ++ f (x ∷ [])) n ∙ append_assoc old (f (take i xs)) (f (x ∷ [])) ∙ ap (λ l. old ++ l) (sym (step f j xs i x h e))

-- the arcs of a group to some ends
abbrev pub arcs_to : ArcGroup → List (Bor Spot) → List Between
arcs_to f ss = map (arc_to f) (all_located ss)

arcs_to-joins : (f : ArcGroup) → Joins (arcs_to f)
arcs_to-joins f xs ys =
    ap (map (arc_to f)) (map-append (λ (s : Bor Spot). located s.now) xs ys) ∙ map-append (arc_to f) (all_located xs) (all_located ys)

arcs-joins : Joins arcs_along
arcs-joins xs ys = flat_map-append group_arcs xs ys

-- one joining list of another
pub both-join : {X Y Z : Type 0} (f : List X → List Y) (g : List Y → List Z) → Joins f → Joins g → Joins (λ xs. g (f xs))
both-join f g j k xs ys = ap g (j xs ys) ∙ k (f xs) (f ys)

abbrev pub ids_of : List Between → List (List ℕ)
ids_of xs = map label (filter is_fact (ends xs))

ids-join : Joins ids_of
ids-join xs ys =
    ap (λ l. map label (filter is_fact l)) (flat_map-append (λ (x : Between). x.from ∷ x.to ∷ []) xs ys)
    ∙ ap (map label) (filter-append is_fact (ends xs) (ends ys)) ∙ map-append label (filter is_fact (ends xs)) (filter is_fact (ends ys))

end_footnotes-joins : Joins end_footnotes
end_footnotes-joins xs ys = ap (filter is_footnote) (map-append (λ (x : Between). x.to) xs ys) ∙ filter-append is_footnote (map (λ x. x.to) xs) (map (λ x. x.to) ys)

-- the ids of facts at the arcs of a group to some ends
abbrev pub facts_to : ArcGroup → List (Bor Spot) → List (List ℕ)
facts_to f ss = ids_of (arcs_to f ss)

pub facts_to-joins : (f : ArcGroup) → Joins (facts_to f)
facts_to-joins f = both-join (arcs_to f) ids_of (arcs_to-joins f) ids-join

-- those at the arcs of some groups
abbrev pub facts_along : List ArcGroup → List (List ℕ)
facts_along groups = ids_of (arcs_along groups)

pub facts_along-joins : Joins facts_along
facts_along-joins = both-join arcs_along ids_of arcs-joins ids-join

-- the footnotes among some ends of a group
abbrev pub notes_to : ArcGroup → List (Bor Spot) → List Located
notes_to f ss = end_footnotes (arcs_to f ss)

pub notes_to-joins : (f : ArcGroup) → Joins (notes_to f)
notes_to-joins f = both-join (arcs_to f) end_footnotes (arcs_to-joins f) end_footnotes-joins

pub notes_along-joins : Joins (λ groups. end_footnotes (arcs_along groups))
notes_along-joins = both-join arcs_along end_footnotes arcs-joins end_footnotes-joins

pub arc_list_to-joins : (f : ArcGroup) → Joins (λ ss. map (λ (x : Between). x.arc) (arcs_to f ss))
arc_list_to-joins f = both-join (arcs_to f) (map (λ (x : Between). x.arc)) (arcs_to-joins f) (map-append (λ (x : Between). x.arc))

pub arc_list_along-joins : Joins (λ groups. map (λ (x : Between). x.arc) (arcs_along groups))
arc_list_along-joins = both-join arcs_along (map (λ (x : Between). x.arc)) arcs-joins (map-append (λ (x : Between). x.arc))

-- the two ends of an arc, one after the other
pub two-facts : (x y : Located) (old now new : List (List ℕ)) → now ≡ old ++ map label (filter is_fact (x ∷ [])) → new ≡ now ++ map label (filter is_fact (y ∷ []))
    → new ≡ old ++ map label (filter is_fact (x ∷ y ∷ []))
two-facts x y old now new n m =
    m ∙ ap (λ l. l ++ map label (filter is_fact (y ∷ []))) n ∙ append_assoc old _ _
    ∙ ap (λ l. old ++ l) (sym (ap (map label) (filter-append is_fact (x ∷ []) (y ∷ [])) ∙ map-append label (filter is_fact (x ∷ [])) (filter is_fact (y ∷ []))))

-- the same at the element of an index
pub step-at : {X Y : Type 0} (f : List X → List Y) → Joins f → (xs : List X) (i : ℕ) (d : X) → i < length xs
    → (now new : List Y) → now ≡ f (take i xs) → new ≡ now ++ f (get_or xs i d ∷ []) → new ≡ f (take (i + 1) xs)
step-at f j xs i d h now new n m = m ∙ ap (λ l. l ++ f (get_or xs i d ∷ [])) n ∙ sym (ap f (take_more xs i d h) ∙ j (take i xs) (get_or xs i d ∷ []))

pub step-from-at : {X Y : Type 0} (f : List X → List Y) → Joins f → (xs : List X) (i : ℕ) (d : X) → i < length xs
    → (old now new : List Y) → now ≡ old ++ f (take i xs) → new ≡ now ++ f (get_or xs i d ∷ []) → new ≡ old ++ f (take (i + 1) xs)
step-from-at f j xs i d h old now new n m =
    m ∙ ap (λ l. l ++ f (get_or xs i d ∷ [])) n ∙ append_assoc old (f (take i xs)) (f (get_or xs i d ∷ []))
    ∙ ap (λ l. old ++ l) (sym (ap f (take_more xs i d h) ∙ j (take i xs) (get_or xs i d ∷ [])))

-- relationships among elements
pub relationships-join : Joins (λ (ss : List (Bor Spot)). filter is_relationship (all_located ss))
relationships-join xs ys =
    ap (filter is_relationship) (map-append (λ (s : Bor Spot). located s.now) xs ys) ∙ filter-append is_relationship (all_located xs) (all_located ys)

-- an element that is a relationship was added
pub kept-seen : (old : List Relationship) (r : Relationship) (e : Located) (new : List Relationship) → seen r ≡ e → is_relationship e ≡ true
    → new ≡ old ++ r ∷ [] → all_seen new ≡ all_seen old ++ filter is_relationship (e ∷ [])
kept-seen old r e new s is n =
    ap all_seen n ∙ map-append seen old (r ∷ []) ∙ ap (λ x. all_seen old ++ x ∷ []) s
    ∙ sym (ap (λ b. all_seen old ++ cond b (e ∷ []) []) is)

-- one that is none was left out
pub left-out : (old : List Relationship) (e : Located) → is_relationship e ≡ false → all_seen old ≡ all_seen old ++ filter is_relationship (e ∷ [])
left-out old e is = sym (append-nil (all_seen old)) ∙ sym (ap (λ b. all_seen old ++ cond b (e ∷ []) []) is)

-- what is made of the parts of one more was added
pub step-flat : {X Y : Type 0} (f : X → List Y) (xs : List X) (i : ℕ) (x : X) → i < length xs → x ≡ get_or xs i x
    → (now new : List Y) → now ≡ flat_map f (take i xs) → new ≡ now ++ f x → new ≡ flat_map f (take (i + 1) xs)
step-flat f xs i x h e now new n m = step-all (flat_map f) (flat_map-append f) xs i x h e now new n (m ∙ ap (λ l. now ++ l) (sym (append-nil (f x))))

-- what is made of the arcs of one more group was added
pub step-along : {Y : Type 0} (f : List Between → List Y) → Joins (λ groups. f (arcs_along groups)) → (groups : List ArcGroup) (i : ℕ) (x : ArcGroup)
    → i < length groups → x ≡ get_or groups i x → (now new : List Y) → now ≡ f (arcs_along (take i groups)) → new ≡ now ++ f (group_arcs x)
    → new ≡ f (arcs_along (take (i + 1) groups))
step-along f j groups i x h e now new n m =
    step-all (λ gs. f (arcs_along gs)) j groups i x h e now new n (m ∙ ap (λ l. now ++ f l) (sym (append-nil (group_arcs x))))
