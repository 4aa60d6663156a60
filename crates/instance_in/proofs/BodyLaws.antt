-- The bodies of what a sound tree denotes are the markup of sound nodes.
use Rattle.ix_base.specs.declared.limits.TheConstants.{DEEPEST_ELEMENT}
use Rattle.std.proofs.Common.{◌≡◌, subst, sym, refl, ℕ, suc, Bool, true, false, ◌&&◌, if◌then◌else◌, List, [], ◌∷◌, ◌++◌, map, flat_map, Option, Some, None, codes, arith}
use Rattle.ix_base.specs.declared.content.Arc.{Arc}
use Rattle.ix_base.specs.declared.content.Context.{Context}
use Rattle.ix_base.specs.declared.content.Footnote.{Footnote}
use Rattle.ix_base.specs.declared.content.Linkbase.{Linkbase}
use Rattle.ix_base.specs.declared.content.NoteLink.{NoteLink}
use Rattle.ix_base.specs.declared.content.RoleRef.{RoleRef}
use Rattle.ix_base.specs.declared.content.Unit.{Unit as UnitContent}
use Rattle.ix_base.specs.Attributes.{value_of}
use Rattle.ix_base.specs.ContextForm.{context}
use Rattle.ix_base.specs.Facts.{Facts}
use Rattle.ix_base.specs.Elements.{tree_at}
use Rattle.ix_base.specs.ElementContent.{is_of, named_in}
use Rattle.ix_base.specs.Markup.{markup}
use Rattle.ix_base.specs.Namespaces.{link_namespace, xbrli_namespace, xml_namespace}
use Rattle.ix_base.specs.PlainContents.{Said}
use Rattle.ix_base.specs.Sound.{AreSound, IsSoundTree}
use Rattle.ix_base.specs.Steps.{◌>>=◌, each}
use Rattle.ix_base.specs.Trees.{Nodes, none, chars, elem, Tree}
use Rattle.ix_base.specs.UnitForm.{unit}
use Rattle.instance_out.specs.Denotation.{Labelled, arc_in, are_parts, content_in, ends_of, facts_among, facts_in, footnote_in, linkbase_in, locator_in, notes_in, parts_in, reference_in, schema_in, xlink_at}
use Rattle.instance_lines.specs.Lists.{are_apart}
use Rattle.instance_tree.specs.ReaderWords.{is_typed}
use Rattle.instance_lines.specs.Holdings.{all_notes}
use Rattle.instance_out.specs.Proper.{AreBodies, IsBody}
use Rattle.instance_out.proofs.RunLaws.{Each}

-- What gives something gave something at each step.

bind-some : {A B : Type 0} (o : Option A) (f : A → Option B) (y : B) → (o >>= f) ≡ Some y → (x : A) × (o ≡ Some x) × (f x ≡ Some y)
bind-some None f y e = absurd (cc)
bind-some (Some x) f y e = (x, refl, e)

if-some : {A : Type 0} (b : Bool) (o : Option A) (y : A) → (if b then o else None) ≡ Some y → o ≡ Some y
if-some true o y e = e
if-some false o y e = absurd (cc)

-- what each member of a list is read as
each-read : {A B : Type 0} (Q : A → Type 0) (P : B → Type 0) (f : A → Option B) → ((t : A) (y : B) → Q t → f t ≡ Some y → P y)
    → (ts : List A) (ys : List B) → Each Q ts → each f ts ≡ Some ys → Each P ys
each-read Q P f h [] [] q e = tt
each-read Q P f h [] (y ∷ ys) q e = absurd (cc)
each-read Q P f h (t ∷ ts) ys q e =
    let here = bind-some (f t) (λ z. each f ts >>= λ zs. Some (z ∷ zs)) ys e in
    let rest = bind-some (each f ts) (λ zs. Some (here.0 ∷ zs)) ys here.2 in
    let all : Each P (here.0 ∷ rest.0) = (h t here.0 q.0 here.1, each-read Q P f h ts rest.0 q.1 rest.1) in
    subst (Each P) (some-one _ _ rest.2) all
  where
    some-one : {C : Type 0} (x y : C) → Some x ≡ Some y → x ≡ y
    some-one x y e = cc

-- the elements among sound nodes hold sound nodes
named-sound : (ns local : List ℕ) (n : ℕ) (nodes : Nodes) → AreSound (suc n) nodes → Each (λ t. AreSound n t.children) (named_in ns local nodes)
named-sound ns local n none s = tt
named-sound ns local n (chars text rest) s = named-sound ns local n rest s.3
named-sound ns local n (elem head children rest) s =
    by (is_of head.name ns local) (subst (λ k. AreSound k children) (sym (deep s.0 s.1)) s.3) (named-sound ns local n rest s.4)
  where
    deep : (k : ℕ) → suc n ≡ suc k → n ≡ k
    deep k e = cc

    by : (b : Bool) → AreSound n children → Each (λ t. AreSound n t.children) (named_in ns local rest)
        → Each (λ t. AreSound n t.children) (if b then tree_at head children ∷ named_in ns local rest else named_in ns local rest)
    by true h k = (h, k)
    by false h k = k

-- Footnotes.

body-by : (typed : Bool) (label role lang title : Option (List ℕ)) (body : List ℕ) (f : Footnote)
    → (if typed then (label >>= λ id. role >>= λ r. lang >>= λ l. Some (record { id = id; role = r; title = title; lang = l; body = body })) else None) ≡ Some f
    → f.body ≡ body
body-by false label role lang title body f e = absurd (cc)
body-by true None role lang title body f e = absurd (cc)
body-by true (Some id) None lang title body f e = absurd (cc)
body-by true (Some id) (Some r) None title body f e = absurd (cc)
body-by true (Some id) (Some r) (Some l) title body f e = cc

footnote-body : (t : Tree) (f : Footnote) → AreSound 255 t.children → footnote_in t ≡ Some f → IsBody f.body
unfolding footnote_in
footnote-body t f s e = record {
  nodes = t.children;
  sound = s;
  is = body-by (is_typed (codes "resource") t) (xlink_at (codes "label") t) (xlink_at (codes "role") t) (value_of t.head.attrs xml_namespace (codes "lang"))
      (xlink_at (codes "title") t) (markup None [] t.children) f e;
}

footnotes-last : (o : Option (List Arc)) (ok : Bool) (role : List ℕ) (locs : List (List ℕ)) (footnotes : List Footnote) (l : NoteLink)
    → (o >>= λ arcs. if ok then Some (record { role = role; locs = locs; footnotes = footnotes; arcs = arcs }) else None) ≡ Some l
    → Some footnotes ≡ Some l.footnotes
footnotes-last None ok role locs footnotes l e = absurd (cc)
footnotes-last (Some arcs) false role locs footnotes l e = absurd (cc)
footnotes-last (Some arcs) true role locs footnotes l e = cc

footnotes-by : (typed : Bool) (role : Option (List ℕ)) (locs : Option (List Labelled)) (footnotes : Option (List Footnote))
    (arcs : List Labelled → List Footnote → Option (List Arc)) (ok : List Labelled → List Footnote → Bool) (l : NoteLink)
    → (if typed
    then (role >>= λ r. locs >>= λ ls. footnotes >>= λ fs. arcs ls fs >>= λ xs. if ok ls fs
    then Some (record { role = r; locs = map (λ x. x.1) ls; footnotes = fs; arcs = xs }) else None)
    else None) ≡ Some l
    → footnotes ≡ Some l.footnotes
footnotes-by false role locs footnotes arcs ok l e = absurd (cc)
footnotes-by true None locs footnotes arcs ok l e = absurd (cc)
footnotes-by true (Some r) None footnotes arcs ok l e = absurd (cc)
footnotes-by true (Some r) (Some ls) None arcs ok l e = absurd (cc)
footnotes-by true (Some r) (Some ls) (Some fs) arcs ok l e = footnotes-last (arcs ls fs) (ok ls fs) r (map (λ x. x.1) ls) fs l e

link-bodies : (t : Tree) (l : NoteLink) → AreSound DEEPEST_ELEMENT t.children → notes_in t ≡ Some l → Each (λ f. IsBody f.body) l.footnotes
unfolding notes_in
link-bodies t l s e =
    let read : each footnote_in (named_in link_namespace (codes "footnote") t.children) ≡ Some l.footnotes =
    footnotes-by (is_typed (codes "extended") t) (xlink_at (codes "role") t) (each locator_in (named_in link_namespace (codes "loc") t.children))
    (each footnote_in (named_in link_namespace (codes "footnote") t.children))
    (λ ls fs. each (arc_in (ends_of ls fs)) (named_in link_namespace (codes "footnoteArc") t.children))
    (λ ls fs. are_apart (map (λ x. x.0) (ends_of ls fs)))
    l e in
    each-read (λ x. AreSound 255 x.children) (λ (f : Footnote). IsBody f.body) footnote_in (λ x f q h. footnote-body x f q h)
    (named_in link_namespace (codes "footnote") t.children) l.footnotes (named-sound link_namespace (codes "footnote") 255 t.children s) read

-- The whole.

notes-by : (schemas : Option (List (List ℕ))) (linkbases : Option (List Linkbase)) (roles arcroles : Option (List RoleRef)) (contexts : Option (List Context))
    (units : Option (List UnitContent)) (facts : Option Facts) (notes : Option (List NoteLink)) (ok : Bool) (s : Said)
    → (schemas >>= λ a. linkbases >>= λ b. roles >>= λ c. arcroles >>= λ d. contexts >>= λ x. units >>= λ u. facts >>= λ f. notes >>= λ n. if ok
    then Some (record { schemas = a; linkbases = b; roles = c; arcroles = d; contexts = x; units = u; facts = f; notes = n }) else None) ≡ Some s
    → notes ≡ Some s.notes
notes-by None linkbases roles arcroles contexts units facts notes ok s e = absurd (cc)
notes-by (Some a) None roles arcroles contexts units facts notes ok s e = absurd (cc)
notes-by (Some a) (Some b) None arcroles contexts units facts notes ok s e = absurd (cc)
notes-by (Some a) (Some b) (Some c) None contexts units facts notes ok s e = absurd (cc)
notes-by (Some a) (Some b) (Some c) (Some d) None units facts notes ok s e = absurd (cc)
notes-by (Some a) (Some b) (Some c) (Some d) (Some x) None facts notes ok s e = absurd (cc)
notes-by (Some a) (Some b) (Some c) (Some d) (Some x) (Some u) None notes ok s e = absurd (cc)
notes-by (Some a) (Some b) (Some c) (Some d) (Some x) (Some u) (Some f) None ok s e = absurd (cc)
notes-by (Some a) (Some b) (Some c) (Some d) (Some x) (Some u) (Some f) (Some n) false s e = absurd (cc)
notes-by (Some a) (Some b) (Some c) (Some d) (Some x) (Some u) (Some f) (Some n) true s e = cc

notes-of : (nodes : Nodes) (s : Said) → parts_in nodes ≡ Some s → each notes_in (named_in link_namespace (codes "footnoteLink") nodes) ≡ Some s.notes
unfolding parts_in
notes-of nodes s e =
    notes-by (each schema_in (named_in link_namespace (codes "schemaRef") nodes)) (each linkbase_in (named_in link_namespace (codes "linkbaseRef") nodes))
    (each (reference_in (codes "roleURI")) (named_in link_namespace (codes "roleRef") nodes))
    (each (reference_in (codes "arcroleURI")) (named_in link_namespace (codes "arcroleRef") nodes))
    (each context (named_in xbrli_namespace (codes "context") nodes)) (each unit (named_in xbrli_namespace (codes "unit") nodes))
    (facts_in (facts_among nodes)) (each notes_in (named_in link_namespace (codes "footnoteLink") nodes)) (are_parts nodes) s e

bodies-along : (ls : List NoteLink) → Each (λ l. Each (λ f. IsBody f.body) l.footnotes) ls → AreBodies (flat_map (λ l. l.footnotes) ls)
bodies-along [] h = tt
bodies-along (l ∷ ls) h = both l.footnotes h.0 (bodies-along ls h.1)
  where
    both : (fs : List Footnote) → Each (λ f. IsBody f.body) fs → AreBodies (flat_map (λ x. x.footnotes) ls) → AreBodies (fs ++ flat_map (λ x. x.footnotes) ls)
    both [] q k = k
    both (f ∷ fs) q k = (q.0, both fs q.1 k)

pub bodies-sound : (t : Tree) (s : Said) → IsSoundTree t 258 → content_in t ≡ Some s → AreBodies (all_notes s)
unfolding content_in
bodies-sound t s sound e =
    let parts = if-some (is_of t.head.name xbrli_namespace (codes "xbrl")) (parts_in t.children) s e in
    let within : AreSound 257 t.children = below sound.nodes.0 sound.nodes.1 sound.nodes.3 in
    bodies-along s.notes
    (each-read (λ x. AreSound DEEPEST_ELEMENT x.children) (λ (l : NoteLink). Each (λ f. IsBody f.body) l.footnotes) notes_in (λ x l q h. link-bodies x l q h)
    (named_in link_namespace (codes "footnoteLink") t.children) s.notes (named-sound link_namespace (codes "footnoteLink") DEEPEST_ELEMENT t.children within)
    (notes-of t.children s parts))
  where
    below : (k : ℕ) → 258 ≡ suc k → AreSound k t.children → AreSound 257 t.children
    below k e h = (let is : k ≡ 257 = omega arith in subst (λ n. AreSound n t.children) is h)
