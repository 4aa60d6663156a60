-- In a content the texts of footnote links are of allowed characters, and those of them that are tokens are full.
use Rattle.std.proofs.Common.{◌≡◌, ◌∙◌, ap, refl, subst, sym, ℕ, suc, Bool, true, false, not, List, [], ◌∷◌, ◌++◌, map, Option, Some, None, option_map, unwrap_or, codes, arith, ⊎_elim}
use Rattle.std.specs.List.{All, AllByRecursion, Contains, flat_map, list_all, list_any}
use Rattle.std.specs.Option.{option_map_or, option_or}
use Rattle.std.specs.Prelude.{◌&&◌}
use Rattle.ix_base.specs.declared.limits.TheConstants.{DEEPEST_ELEMENT}
use Rattle.std.proofs.lemmas.List.Elements.{All-contains_itself, All-head, All-tail, All-weaker, Contains-append_cases}
use Rattle.ix_base.specs.declared.content.Arc.{Arc}
use Rattle.ix_base.specs.declared.content.Content.{Content}
use Rattle.ix_base.specs.declared.content.Footnote.{Footnote}
use Rattle.ix_base.specs.declared.content.NoteLink.{NoteLink}
use Rattle.ix_base.specs.declared.kind.Kind.{Kind}
use Rattle.ix_base.specs.declared.kind.Kind.TheVariants as kind
use Rattle.ix_base.specs.declared.rule.Rule.TheVariants as rule
use Rattle.ix_base.specs.Asks.{asks}
use Rattle.ix_base.specs.Attributes.{value_of}
use Rattle.ix_base.specs.Chain.{chain}
use Rattle.ix_base.specs.ElementRules.{breaks_language, lacks, roles}
use Rattle.ix_base.specs.Elements.{Placed, below, elements_of, path_of, placed_at, tree_at}
use Rattle.ix_base.specs.Forms.{is_some_token}
use Rattle.ix_base.specs.Ids.{id_of}
use Rattle.ix_base.specs.Kinds.{is_inline, kind_of, same_kind}
use Rattle.ix_base.specs.LinkRules.{is_footnote}
use Rattle.ix_base.specs.LocatedElements.{Located, Paged, is_continuation, marked_from, page_marked}
use Rattle.ix_base.specs.Namespaces.{xml_namespace}
use Rattle.ix_base.specs.NcName.{are_allowed}
use Rattle.ix_base.specs.Readers.{attr, lang_along, token_at}
use Rattle.ix_base.specs.PlainContents.{said_of}
use Rattle.ix_base.specs.Sound.{AreSound, IsSoundTree}
use Rattle.ix_base.specs.Token.{is_token, token_of}
use Rattle.ix_base.specs.Trees.{Nodes, Tree, none, chars, elem}
use Rattle.ix_base.proofs.OnceLemmas.{Contains-cases, Contains-nil}
use Rattle.footnotes.specs.FootnoteLinks.{Between, footnote_of, footnote_role, label}
use Rattle.instance_lines.specs.Arrangement.{arranged}
use Rattle.instance_lines.specs.Holdings.{all_arcs, all_notes, arc_texts, link_texts, note_texts}
use Rattle.instance_lines.specs.Lists.{of_option}
use Rattle.instance_out.specs.Proper.{is_full}
use Rattle.targets.specs.ValidSets.{IsClean}
use Rattle.target_contents.specs.Contents.{IsContent, IsGathered}
use Rattle.target_contents.specs.PageSet.{PageSet, base_at, elements}
use Rattle.targets.proofs.AllowedLaws.{allowed-nil}
use Rattle.targets.proofs.ArcLaws.{IsBetween, all-between, arc-among, arc-from, arranged-role, arcs_of, from-links, note-from}
use Rattle.targets.proofs.AsciiLaws.{decimal-allowed, plain-allowed}
use Rattle.targets.proofs.HasLaws.{none-any}
use Rattle.target_contents.proofs.MemberLaws.{all-pass, from-flat, from-map, in-flat}
use Rattle.targets.proofs.HoldLaws.{IsGood, good-token}
use Rattle.targets.proofs.LinksFit.{end-from, loc-fact}
use Rattle.targets.proofs.MarkupTexts.{marked-allowed}
use Rattle.targets.proofs.OrderFit.{arc-passes, relation-inline}
use Rattle.targets.proofs.PlaceLaws.{page_marked-on}
use Rattle.targets.proofs.SoundLaws.{IsSoundAt, attribute-sound, sound-at, token-sound}
use Rattle.targets.proofs.SuchLaws.{chain-from}
use Rattle.targets.proofs.TokenFits.{link_tokens}
use Rattle.targets.proofs.UnbrokenLaws.{element-unbroken}

-- Roles.

not-not : (b : Bool) → not b ≡ false → b ≡ true
not-not true h = refl
not-not false h = absurd (cc)

with-true : (b c : Bool) → b ≡ true → (b && c) ≡ false → c ≡ false
with-true true c h e = e
with-true false c h e = absurd (cc)

footnote-inline : (k : Kind) → same_kind k kind.Footnote ≡ true → is_inline k ≡ true
footnote-inline kind.Footnote h = refl
footnote-inline k h = absurd (cc)

-- a token that is given, or else another one
given-good : (t : Tree) (local default : List ℕ) → IsSoundAt t → lacks is_some_token t local ≡ false → IsGood default → IsGood (unwrap_or (token_at local t) default)
given-good t local default sound h good = by (attr local t) refl h
  where
    by : (o : Option (List ℕ)) → attr local t ≡ o → option_map_or (λ v. not (is_some_token v)) o false ≡ false → IsGood (unwrap_or (option_map token_of o) default)
    by None is e = good
    by (Some v) is e = good-token v (attribute-sound t [] local v sound is) (not-not (is_some_token v) e)

link-default : IsGood (codes "http://www.xbrl.org/2003/role/link")
unfolding is_token token_of
link-default = record { full = refl; allowed = plain-allowed (codes "http://www.xbrl.org/2003/role/link") refl }

arc-default : IsGood (codes "http://www.xbrl.org/2003/arcrole/fact-footnote")
unfolding is_token token_of
arc-default = record { full = refl; allowed = plain-allowed (codes "http://www.xbrl.org/2003/arcrole/fact-footnote") refl }

note-default : IsGood (codes "http://www.xbrl.org/2003/role/footnote")
unfolding is_token token_of
note-default = record { full = refl; allowed = plain-allowed (codes "http://www.xbrl.org/2003/role/footnote") refl }

note-listed : Contains roles (codes "footnoteRole")
unfolding roles
note-listed = (0, omega arith, refl)

arc-listed : Contains roles (codes "arcrole")
unfolding roles
arc-listed = (1, omega arith, refl)

link-listed : Contains roles (codes "linkRole")
unfolding roles
link-listed = (2, omega arith, refl)

module _ (s : PageSet) (clean : IsClean s) where
  -- a role that an element has, is some token
  role-given : (e : Located) → Contains (elements s) e → is_inline (kind_of e.placed) ≡ true → (local : List ℕ) → Contains roles local
      → lacks is_some_token e.placed.tree local ≡ false
  role-given e at inline local listed =
      none-any (lacks is_some_token e.placed.tree) roles
      (with-true (is_inline (kind_of e.placed)) (list_any (lacks is_some_token e.placed.tree) roles) inline
      (element-unbroken s clean rule.N11 (10, omega arith, refl) e at)) local listed

  link-role : (target : List ℕ) (x : Between) → IsBetween (elements s) target x → IsGood x.role
  link-role target x b =
      let r = b.relation in
      subst (λ (y : Between). IsGood y.role) (sym b.is)
      (given-good r.placed.tree (codes "linkRole") _ (sound-at s clean r b.there)
      (role-given r b.there (relation-inline (kind_of r.placed) b.relates) (codes "linkRole") link-listed) link-default)

  arc-role : (target : List ℕ) (x : Between) → IsBetween (elements s) target x → IsGood x.arc.arcrole
  arc-role target x b =
      let r = b.relation in
      subst (λ (y : Between). IsGood y.arc.arcrole) (sym b.is)
      (given-good r.placed.tree (codes "arcrole") _ (sound-at s clean r b.there)
      (role-given r b.there (relation-inline (kind_of r.placed) b.relates) (codes "arcrole") arc-listed) arc-default)

  note-role : (e : Located) → Contains (elements s) e → is_footnote e ≡ true → IsGood (footnote_role e)
  note-role e at f =
      given-good e.placed.tree (codes "footnoteRole") _ (sound-at s clean e at)
      (role-given e at (footnote-inline (kind_of e.placed) f) (codes "footnoteRole") note-listed) note-default

  -- Languages.

  -- what an element is called
  label-allowed : (e : Located) → Contains (elements s) e → are_allowed (label e) ≡ true
  label-allowed e at = by (id_of e) refl
    where
      by : (o : Option (List ℕ)) → id_of e ≡ o → are_allowed (unwrap_or o []) ≡ true
      by None is = allowed-nil
      by (Some id) is = token-sound e.placed.tree (codes "id") id (sound-at s clean e at) is

abbrev AreSoundAlong : List Tree → Type 0
AreSoundAlong ts = AllByRecursion IsSoundAt ts

below-along : (d : ℕ) (above : List Tree) (ns : Nodes) (p : Placed) → AreSoundAlong above → AreSound d ns → Contains (below above ns) p → AreSoundAlong (path_of p)
below-along d above none p up s h = absurd (Contains-nil p h)
below-along d above (chars text rest) p up s h = below-along d above rest p up s.3 h
below-along d above (elem head kids rest) p up s h =
    let t = tree_at head kids in
    let here : AreSoundAlong (t ∷ above) = ((s.0, s.2, s.3), up) in
    ⊎_elim
    (λ e. subst (λ (q : Placed). AreSoundAlong (path_of q)) e here)
    (λ k. ⊎_elim
    (λ c. below-along s.0 (t ∷ above) kids p here s.3 c)
    (λ c. below-along d above rest p up s.4 c)
    (Contains-append_cases (below (t ∷ above) kids) (below above rest) p k))
    (Contains-cases (placed_at t above) (below (t ∷ above) kids ++ below above rest) p h)

element-along : (t : Tree) (p : Placed) → IsSoundTree t DEEPEST_ELEMENT → Contains (elements_of t) p → AreSoundAlong (path_of p)
element-along t p s h =
    let n = s.nodes in
    let here : AreSoundAlong (t ∷ []) = ((n.0, n.2, n.3), tt) in
    ⊎_elim
    (λ e. subst (λ (q : Placed). AreSoundAlong (path_of q)) e here)
    (λ k. below-along n.0 (t ∷ []) t.children p here n.3 k)
    (Contains-cases (placed_at t []) (below (t ∷ []) t.children) p h)

path-sound : (n : ℕ) (pages : List Paged) → All (λ p. IsSoundTree p.tree DEEPEST_ELEMENT) pages → (e : Located) → Contains (marked_from n pages) e → AreSoundAlong (path_of e.placed)
path-sound n [] s e h = absurd (Contains-nil e h)
path-sound n (p ∷ pages) s e h = ⊎_elim
    (λ here. element-along p.tree e.placed (All-head (λ (q : Paged). IsSoundTree q.tree DEEPEST_ELEMENT) p pages s) (page_marked-on n p.tree e here).1)
    (λ later. path-sound (suc n) pages (All-tail (λ (q : Paged). IsSoundTree q.tree DEEPEST_ELEMENT) p pages s) e later)
    (Contains-append_cases (page_marked n p.tree) (marked_from (suc n) pages) e h)

lang-allowed : (ts : List Tree) → AreSoundAlong ts → (v : List ℕ) → lang_along ts ≡ Some v → are_allowed v ≡ true
lang-allowed [] s v e = absurd (cc)
lang-allowed (t ∷ ts) s v e = by (value_of t.head.attrs xml_namespace (codes "lang")) refl (lang-allowed ts s.1 v) e
  where
    by : (o : Option (List ℕ)) → value_of t.head.attrs xml_namespace (codes "lang") ≡ o → (lang_along ts ≡ Some v → are_allowed v ≡ true)
        → option_or o (lang_along ts) ≡ Some v → are_allowed v ≡ true
    by None is rest f = rest f
    by (Some w) is rest f = let same : w ≡ v = cc in attribute-sound t xml_namespace (codes "lang") v s.0 (is ∙ ap Some same)

language-by : (k : Kind) (path : List Tree) → same_kind k kind.Footnote ≡ true → breaks_language k path ≡ false → option_map_or is_some_token (lang_along path) false ≡ true
language-by kind.Footnote path f h = not-not (option_map_or is_some_token (lang_along path) false) h
language-by k path f h = absurd (cc)

lang-good : (ts : List Tree) → AreSoundAlong ts → option_map_or is_some_token (lang_along ts) false ≡ true → IsGood (option_map_or token_of (lang_along ts) [])
lang-good ts s h = by (lang_along ts) refl h
  where
    by : (o : Option (List ℕ)) → lang_along ts ≡ o → option_map_or is_some_token o false ≡ true → IsGood (option_map_or token_of o [])
    by None is e = absurd (cc)
    by (Some v) is e = good-token v (lang-allowed ts s v is) e

module _ (s : PageSet) (clean : IsClean s) where
  note-lang : (e : Located) → Contains (elements s) e → is_footnote e ≡ true → IsGood (option_map_or token_of (lang_along (path_of e.placed)) [])
  note-lang e at f =
      lang-good (path_of e.placed) (path-sound 0 s.pages clean.sound e at)
      (language-by (kind_of e.placed) (path_of e.placed) f (element-unbroken s clean rule.N18 (17, omega arith, refl) e at))

  -- the texts of a footnote
  note-allowed : (e : Located) → Contains (elements s) e → is_footnote e ≡ true → (t : List ℕ)
      → Contains (note_texts (footnote_of (base_at s) (asks (elements s)) e)) t → are_allowed t ≡ true
  note-allowed e at f t h =
      let es = elements s in
      let n = footnote_of (base_at s) (asks es) e in
      let members = chain (asks es) e in
      let sound : All (λ x. IsSoundAt x.placed.tree) members =
      All-weaker (Contains members) (λ (x : Located). IsSoundAt x.placed.tree)
      (λ x k. sound-at s clean x (chain-from es (suc ((asks es).count is_continuation)) e x at k)) members (All-contains_itself members) in
      let body : are_allowed n.body ≡ true = marked-allowed (λ x. Some (base_at s x)) [] members sound in
      let given : (x : List ℕ) → are_allowed x ≡ true → x ≡ t → are_allowed t ≡ true = λ x a q. subst (λ z. are_allowed z ≡ true) q a in
      ⊎_elim (given n.id (label-allowed s clean e at))
      (λ k. ⊎_elim (given n.role (note-role s clean e at f).allowed)
      (λ k. ⊎_elim (given n.lang (note-lang e at f).allowed)
      (λ k. ⊎_elim (given n.body body)
      (λ k. title (attr (codes "title") e.placed.tree) refl k)
      (Contains-cases n.body (of_option n.title) t k))
      (Contains-cases n.lang (n.body ∷ of_option n.title) t k))
      (Contains-cases n.role (n.lang ∷ n.body ∷ of_option n.title) t k))
      (Contains-cases n.id (n.role ∷ n.lang ∷ n.body ∷ of_option n.title) t h)
    where
      title : (o : Option (List ℕ)) → attr (codes "title") e.placed.tree ≡ o → Contains (of_option o) t → are_allowed t ≡ true
      title None is k = absurd (Contains-nil t k)
      title (Some v) is k = ⊎_elim
          (λ (q : v ≡ t). subst (λ z. are_allowed z ≡ true) q (attribute-sound e.placed.tree [] (codes "title") v (sound-at s clean e at) is))
          (λ c. absurd (Contains-nil t c)) (Contains-cases v [] t k)

  -- the texts of an arc
  arc-allowed : (target : List ℕ) (x : Between) → IsBetween (elements s) target x → (t : List ℕ) → Contains (arc_texts x.arc) t → are_allowed t ≡ true
  arc-allowed target x b t h =
      let a = x.arc in
      let given : (z : List ℕ) → are_allowed z ≡ true → z ≡ t → are_allowed t ≡ true = λ z p q. subst (λ y. are_allowed y ≡ true) q p in
      let from : are_allowed a.from_id ≡ true =
      ap (λ (y : Between). are_allowed y.arc.from_id) b.is ∙ label-allowed s clean x.from b.start_such.there in
      let to : are_allowed a.to_id ≡ true =
      ap (λ (y : Between). are_allowed y.arc.to_id) b.is ∙ label-allowed s clean x.to b.end_such.there in
      ⊎_elim (given a.arcrole (arc-role s clean target x b).allowed)
      (λ k. ⊎_elim (given a.from_id from)
      (λ k. ⊎_elim (given a.to_id to)
      (λ k. ⊎_elim (given a.order (decimal-allowed a.order (arc-passes s clean target x b)))
      (λ c. absurd (Contains-nil t c))
      (Contains-cases a.order [] t k))
      (Contains-cases a.to_id (a.order ∷ []) t k))
      (Contains-cases a.from_id (a.to_id ∷ a.order ∷ []) t k))
      (Contains-cases a.arcrole (a.from_id ∷ a.to_id ∷ a.order ∷ []) t h)

  module _ (target : List ℕ) (c : Content) (g : IsGathered (base_at s) (elements s) target c) where
    link-good : (l : NoteLink) → Contains (arranged c).notes l → IsGood l.role
    link-good l h =
        let m = from-links (base_at s) (elements s) target c g l h in
        let k = m.1 in
        let same : l.role ≡ k.some.role = ap (λ (x : NoteLink). x.role) (sym m.2) ∙ arranged-role m.0 ∙ ap (λ (x : NoteLink). x.role) k.is ∙ sym k.some_role in
        subst IsGood (sym same) (link-role s clean target k.some
        (all-between (elements s) target k.some (arc-among (elements s) target k.role k.some k.some_there)))

    loc-allowed : (l : NoteLink) → Contains (arranged c).notes l → (t : List ℕ) → Contains l.locs t → are_allowed t ≡ true
    loc-allowed l h t at =
        let es = elements s in
        let m = from-links (base_at s) es target c g l h in
        let e = loc-fact (base_at s) es target m.0 m.1 t (subst (λ (x : NoteLink). Contains x.locs t) (sym m.2) at) in
        let x = end-from (arcs_of es target m.1.role) e.0 e.1 in
        let b = all-between es target x.0 (arc-among es target m.1.role x.0 x.1) in
        let there : Contains es e.0 = ⊎_elim
        (λ (q : x.0.from ≡ e.0). subst (Contains es) q b.start_such.there)
        (λ (q : x.0.to ≡ e.0). subst (Contains es) q b.end_such.there) x.2 in
        ap are_allowed (sym e.3) ∙ label-allowed s clean e.0 there

    foot-allowed : (f : Footnote) → Contains (all_notes (said_of (arranged c))) f → (t : List ℕ) → Contains (note_texts f) t → are_allowed t ≡ true
    foot-allowed f h t at =
        let e = note-from (base_at s) (elements s) target c g f h in
        note-allowed e.0 e.1 e.2 t (subst (λ (x : Footnote). Contains (note_texts x) t) (sym e.3) at)

    arcs-allowed : (a : Arc) → Contains (all_arcs (said_of (arranged c))) a → (t : List ℕ) → Contains (arc_texts a) t → are_allowed t ≡ true
    arcs-allowed a h t at =
        let x = arc-from (base_at s) (elements s) target c g a h in
        arc-allowed target x.0 x.1 t (subst (λ (y : Arc). Contains (arc_texts y) t) (sym x.2) at)

    link-allowed : (l : NoteLink) → Contains (arranged c).notes l → (t : List ℕ) → Contains (link_texts l) t → are_allowed t ≡ true
    link-allowed l h t at =
        let feet = flat_map note_texts l.footnotes in
        let arcs = flat_map arc_texts l.arcs in
        ⊎_elim (λ (q : l.role ≡ t). subst (λ y. are_allowed y ≡ true) q (link-good l h).allowed)
        (λ k. ⊎_elim (loc-allowed l h t)
        (λ k. ⊎_elim
        (λ k. let f = from-flat note_texts l.footnotes t k in
        foot-allowed f.0 (in-flat (λ (x : NoteLink). x.footnotes) (arranged c).notes l f.0 h f.1) t f.2)
        (λ k. let a = from-flat arc_texts l.arcs t k in
        arcs-allowed a.0 (in-flat (λ (x : NoteLink). x.arcs) (arranged c).notes l a.0 h a.1) t a.2)
        (Contains-append_cases feet arcs t k))
        (Contains-append_cases l.locs (feet ++ arcs) t k))
        (Contains-cases l.role (l.locs ++ (feet ++ arcs)) t at)

    all-allowed : list_all are_allowed (flat_map link_texts (arranged c).notes) ≡ true
    all-allowed = all-pass are_allowed (flat_map link_texts (arranged c).notes) (λ t h.
        let l = from-flat link_texts (arranged c).notes t h in
        link-allowed l.0 l.1 t l.2)

    foot-good : (f : Footnote) → Contains (all_notes (said_of (arranged c))) f → (t : List ℕ) → Contains (f.role ∷ f.lang ∷ []) t → is_full t ≡ true
    foot-good f h t at =
        let e = note-from (base_at s) (elements s) target c g f h in
        let role : is_full f.role ≡ true = subst (λ (x : Footnote). is_full x.role ≡ true) e.3 (note-role s clean e.0 e.1 e.2).full in
        let lang : is_full f.lang ≡ true = subst (λ (x : Footnote). is_full x.lang ≡ true) e.3 (note-lang e.0 e.1 e.2).full in
        ⊎_elim (λ (q : f.role ≡ t). subst (λ y. is_full y ≡ true) q role)
        (λ k. ⊎_elim (λ (q : f.lang ≡ t). subst (λ y. is_full y ≡ true) q lang) (λ n. absurd (Contains-nil t n)) (Contains-cases f.lang [] t k))
        (Contains-cases f.role (f.lang ∷ []) t at)

    all-full : list_all is_full (link_tokens (said_of (arranged c))) ≡ true
    all-full =
        let d = said_of (arranged c) in
        let links = map (λ (l : NoteLink). l.role) d.notes in
        let feet = flat_map (λ (f : Footnote). f.role ∷ f.lang ∷ []) (all_notes d) in
        let arcs = map (λ (a : Arc). a.arcrole) (all_arcs d) in
        all-pass is_full (link_tokens d) (λ t h. ⊎_elim
        (λ k. let l = from-map (λ (l : NoteLink). l.role) d.notes t k in subst (λ y. is_full y ≡ true) l.2 (link-good l.0 l.1).full)
        (λ k. ⊎_elim
        (λ k. let f = from-flat (λ (f : Footnote). f.role ∷ f.lang ∷ []) (all_notes d) t k in foot-good f.0 f.1 t f.2)
        (λ k. let a = from-map (λ (a : Arc). a.arcrole) (all_arcs d) t k in
        let x = arc-from (base_at s) (elements s) target c g a.0 a.1 in
        subst (λ y. is_full y ≡ true) (ap (λ (b : Arc). b.arcrole) x.2 ∙ a.2) (arc-role s clean target x.0 x.1).full)
        (Contains-append_cases feet arcs t k))
        (Contains-append_cases links (feet ++ arcs) t h))

-- the texts of footnote links are of allowed characters
pub link-texts-fit : (s : PageSet) → IsClean s → (target : List ℕ) (c : Content) → IsContent (base_at s) (elements s) target c
    → list_all are_allowed (flat_map link_texts (said_of c).notes) ≡ true
link-texts-fit s clean target c content =
    subst (λ x. list_all are_allowed (flat_map link_texts (said_of x).notes) ≡ true) (sym content.2) (all-allowed s clean target content.0 content.1)

-- their roles, arcroles and languages are tokens that aren't empty
pub link-tokens-fit : (s : PageSet) → IsClean s → (target : List ℕ) (c : Content) → IsContent (base_at s) (elements s) target c
    → list_all is_full (link_tokens (said_of c)) ≡ true
link-tokens-fit s clean target c content =
    subst (λ x. list_all is_full (link_tokens (said_of x)) ≡ true) (sym content.2) (all-full s clean target content.0 content.1)
