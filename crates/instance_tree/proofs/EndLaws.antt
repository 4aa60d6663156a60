-- Labels, from the last end to the first.
use Rattle.std.proofs.Common.{◌≡◌, ◌≢◌, ◌∙◌, refl, ap, sym, subst, ℕ, zero, suc, ◌-◌, ◌<◌, ◌≤◌, ◌==◌, Bool, true, false, not, ◌||◌, if◌then◌else◌, List, [], ◌∷◌, map, length, drop, drop-cons, get_or, codes, Option, Some, None, option_map, is_some, bytes_eq, arith, MatchOption}
use Rattle.std.proofs.lemmas.Bool.{and_parts, and_from}
use Rattle.std.proofs.lemmas.Bool.Decides.{Decides-eqb}
use Rattle.std.specs.Borrow.{Bor}
use Rattle.std.specs.List.{list_any}
use Rattle.text_map.specs.Texts.{Texts}
use Rattle.ix_base.specs.declared.content.Arc.{Arc}
use Rattle.ix_base.specs.declared.content.Footnote.{Footnote}
use Rattle.ix_base.specs.Attributes.{value_of}
use Rattle.ix_base.specs.ElementContent.{named_in}
use Rattle.ix_base.specs.Namespaces.{link_namespace}
use Rattle.ix_base.specs.Steps.{◌>>=◌, each}
use Rattle.ix_base.specs.Trees.{Nodes, Tree}
use Rattle.instance_lines.proofs.PrefixLaws.{bytes_eq-sym}
use Rattle.instance_out.specs.Denotation.{Labelled, arc_in, ends_of, footnote_in, id_behind, labelled, locator_in, notes_in, typed_as, xlink_at}
use Rattle.instance_lines.specs.Lists.{are_apart}
use Rattle.instance_tree.specs.declared.ends.End.{End}
use Rattle.instance_tree.specs.ReaderWords.{HasEnds, arc_by, arc_with, arcs_in, end_of, id_at, is_typed, labels_of, link_by, link_with}

-- a label has an id where it is one of the labels
has-id : (ls : List Labelled) (q : List ℕ) → is_some (labelled ls q) ≡ list_any (bytes_eq q) (labels_of ls)
has-id [] q = refl
has-id (l ∷ ls) q = by (bytes_eq q l.0) (bytes_eq-sym q l.0) (has-id ls q)
  where
    by : (b : Bool) → b ≡ bytes_eq l.0 q → is_some (labelled ls q) ≡ list_any (bytes_eq q) (labels_of ls)
        → is_some (if bytes_eq l.0 q then Some l.1 else labelled ls q) ≡ (b || list_any (bytes_eq q) (labels_of ls))
    by true e h = rw (← e) refl
    by false e h = rw (← e) h

apart-from : (es : List End) (i : ℕ) → are_apart (labels_of (map end_of es)) ≡ true → are_apart (labels_of (map end_of (drop i es))) ≡ true
apart-from es zero h = h
apart-from [] (suc i) h = refl
apart-from (e ∷ es) (suc i) h =
    apart-from es i (and_parts (not (list_any (bytes_eq e.label.now) (labels_of (map end_of es)))) (are_apart (labels_of (map end_of es))) h).1

-- the ends from the one before here on
from-before : (es : List End) (n : ℕ) (d : End) → 0 < n → n ≤ length es → drop (n - 1) es ≡ get_or es (n - 1) d ∷ drop n es
from-before es n d low high =
    let at : n - 1 < length es = omega arith in
    let next : suc (n - 1) ≡ n = omega arith in
    drop-cons es (n - 1) d at ∙ ap (λ k. get_or es (n - 1) d ∷ drop k es) next

module _ (es : List End) (n : ℕ) (d : End) (low : 0 < n) (high : n ≤ length es) (ids : List ℕ → Option (List ℕ))
    (has : (q : List ℕ) → ids q ≡ labelled (map end_of (drop n es)) q) where
  is-new : not (is_some (ids (get_or es (n - 1) d).label.now)) ≡ not (list_any (bytes_eq (get_or es (n - 1) d).label.now) (labels_of (map end_of (drop n es))))
  is-new =
      let label = (get_or es (n - 1) d).label.now in
      ap (λ o. not (is_some o)) (has label) ∙ ap not (has-id (map end_of (drop n es)) label)

  -- a label that stands again
  pub clash : not (is_some (ids (get_or es (n - 1) d).label.now)) ≡ false → false ≡ are_apart (labels_of (map end_of es))
  clash h = by (are_apart (labels_of (map end_of es))) refl
    where
      by : (b : Bool) → are_apart (labels_of (map end_of es)) ≡ b → false ≡ b
      by false e = refl
      by true e =
          let rest = labels_of (map end_of (drop n es)) in
          let here : are_apart (labels_of (map end_of (get_or es (n - 1) d ∷ drop n es))) ≡ true =
          ap (λ xs. are_apart (labels_of (map end_of xs))) (sym (from-before es n d low high)) ∙ apart-from es (n - 1) e in
          let parts = and_parts (not (list_any (bytes_eq (get_or es (n - 1) d).label.now) rest)) (are_apart rest) here in
          sym h ∙ is-new ∙ parts.0

  -- a new one
  pub apart-before : not (is_some (ids (get_or es (n - 1) d).label.now)) ≡ true → are_apart (labels_of (map end_of (drop n es))) ≡ true
      → are_apart (labels_of (map end_of (drop (n - 1) es))) ≡ true
  apart-before h a =
      ap (λ xs. are_apart (labels_of (map end_of xs))) (from-before es n d low high) ∙ and_from _ _ (sym is-new ∙ h) a

  pub ids-before : (q : List ℕ) → (if bytes_eq q (get_or es (n - 1) d).label.now then Some (get_or es (n - 1) d).id.now else ids q)
      ≡ labelled (map end_of (drop (n - 1) es)) q
  ids-before q =
      let e = get_or es (n - 1) d in
      ap (λ b. if b then Some e.id.now else ids q) (bytes_eq-sym q e.label.now)
      ∙ ap (λ o. if bytes_eq e.label.now q then Some e.id.now else o) (has q)
      ∙ ap (λ xs. labelled (map end_of xs) q) (sym (from-before es n d low high))

-- a step at a time, or two at once
arc-steps : (ids : List ℕ → Option (List ℕ)) (a f l o : Option (List ℕ))
    → (a >>= λ arcrole. (f >>= λ first. ids first) >>= λ from_id. (l >>= λ last. ids last) >>= λ to_id. o >>= λ order.
    Some (arc_with arcrole from_id to_id order))
    ≡ (a >>= λ arcrole. f >>= λ first. ids first >>= λ from_id. l >>= λ last. ids last >>= λ to_id. o >>= λ order.
    Some (arc_with arcrole from_id to_id order))
arc-steps ids None f l o = refl
arc-steps ids (Some a) None l o = refl
arc-steps ids (Some a) (Some f) None o = refl
arc-steps ids (Some a) (Some f) (Some l) o = refl

arc-same : (ends : List Labelled) (t : Tree) → arc_by (labelled ends) t ≡ arc_in ends t
unfolding arc_in
arc-same ends t =
    ap (λ o. typed_as (codes "arc") t o)
    (arc-steps (labelled ends) (xlink_at (codes "arcrole") t) (xlink_at (codes "from") t) (xlink_at (codes "to") t) (value_of t.head.attrs [] (codes "order")))

-- the arcs by a table are those by the ends
pub arcs-are : (table : Texts (Bor (List ℕ))) (ends : List Labelled) (nodes : Nodes) → HasEnds table ends
    → true ≡ are_apart (labels_of ends)
    → each (arc_by (id_at table)) (named_in link_namespace (codes "footnoteArc") nodes) ≡ arcs_in ends nodes
arcs-are table ends nodes h a =
    let xs = named_in link_namespace (codes "footnoteArc") nodes in
    let ids : id_at table ≡ labelled ends = λ i q. h q i in
    let arcs : arc_by (labelled ends) ≡ arc_in ends = λ i t. arc-same ends t i in
    let all : (if are_apart (labels_of ends) then each (arc_in ends) xs else None) ≡ each (arc_in ends) xs = rw (← a) refl in
    ap (λ f. each (arc_by f) xs) ids ∙ ap (λ f. each f xs) arcs ∙ sym all

-- a link has arcs where its labels are apart
pub link_apart : (role : List ℕ) (locs : List Labelled) (footnotes : List Footnote) (nodes : Nodes)
    → link_by role locs footnotes nodes
    ≡ (each (arc_in (ends_of locs footnotes)) (named_in link_namespace (codes "footnoteArc") nodes) >>= λ arcs.
    if are_apart (labels_of (ends_of locs footnotes)) then Some (link_with role locs footnotes arcs) else None)
link_apart role locs footnotes nodes =
    by (are_apart (labels_of (ends_of locs footnotes))) (each (arc_in (ends_of locs footnotes)) (named_in link_namespace (codes "footnoteArc") nodes))
  where
    by : (b : Bool) (o : Option (List Arc)) → ((if b then o else None) >>= λ arcs. Some (link_with role locs footnotes arcs))
        ≡ (o >>= λ arcs. if b then Some (link_with role locs footnotes arcs) else None)
    by true None = refl
    by true (Some arcs) = refl
    by false None = refl
    by false (Some arcs) = refl

-- a footnote link, from its parts as they were read
pub link-read : (t : Tree) (nodes : Nodes) (role : List ℕ) (locs : List Labelled) (footnotes : List Footnote) → nodes ≡ t.children
    → is_typed (codes "extended") t ≡ true → xlink_at (codes "role") t ≡ Some role
    → each locator_in (named_in link_namespace (codes "loc") nodes) ≡ Some locs
    → each footnote_in (named_in link_namespace (codes "footnote") nodes) ≡ Some footnotes
    → link_by role locs footnotes nodes ≡ notes_in t
unfolding notes_in
link-read t nodes role locs footnotes n typed r l f =
    let ls : each locator_in (named_in link_namespace (codes "loc") t.children) ≡ Some locs = subst (λ (ns : Nodes). each locator_in (named_in link_namespace (codes "loc") ns) ≡ Some locs) n l in
    let fs : each footnote_in (named_in link_namespace (codes "footnote") t.children) ≡ Some footnotes = subst (λ (ns : Nodes). each footnote_in (named_in link_namespace (codes "footnote") ns) ≡ Some footnotes) n f in
    subst (λ (ns : Nodes). link_by role locs footnotes ns ≡ notes_in t) (sym n) (rw (typed, r, ls, fs) (link_apart role locs footnotes t.children))

-- an id behind a number sign
pub id-behind : (href : List ℕ) (r : Option (Bor (List ℕ))) → MatchOption r ((rest : List ℕ) → href ≢ 35 ∷ rest) (λ x. href ≡ 35 ∷ x.now)
    → option_map (λ x. x.now) r ≡ id_behind href
id-behind href (Some x) h = rw h refl
id-behind [] None h = refl
id-behind (c ∷ id) None h = by (c == 35) refl
  where
    by : (b : Bool) → (c == 35) ≡ b → None ≡ (if b then Some id else None)
    by true e = absurd (h id (ap (λ x. x ∷ id) ((Decides-eqb c 35).0 e)))
    by false e = refl
