-- The links of a set's relations are its footnote links.
use Rattle.std.proofs.Common.{◌≡◌, ◌∙◌, ℕ, Bool, true, false, cond, List, [], ◌∷◌, map, refl, sym, ap, subst, Option, Some, None, option_map, unwrap_or, ◌||◌}
use Rattle.std.proofs.lemmas.List.Elements.{All-append, All-cons, All-filter, All-head, All-map, All-nil, All-tail}
use Rattle.std.proofs.lemmas.Slice.Eq.{bytes_eq-Decides}
use Rattle.std.specs.List.{All, Contains, cons_option, filter, filter_map, flat_map}
use Rattle.std.specs.Option.{option_map_or}
use Rattle.std.specs.Prelude.{bytes_eq}
use Rattle.ix_base.specs.declared.content.Footnote.{Footnote}
use Rattle.ix_base.specs.declared.kind.Kind.{Kind}
use Rattle.ix_base.specs.declared.kind.Kind.TheVariants as kind
use Rattle.ix_base.specs.Asks.{asks, if_such, only}
use Rattle.ix_base.specs.Chain.{chain}
use Rattle.ix_base.specs.Ids.{holds_id, id_of, one_such, sole}
use Rattle.ix_base.specs.Kinds as kinds
use Rattle.ix_base.specs.Kinds.{kind_of, same_kind}
use Rattle.ix_base.specs.LinkRules.{from_ids, is_end, is_footnote, is_relationship, named_by, target_of, to_ids}
use Rattle.ix_base.specs.LocatedElements.{Located, is_fact, is_kind, is_start, is_text}
use Rattle.ix_base.specs.Once.{in_order}
use Rattle.ix_base.specs.SortedLists.{text_cmp}
use Rattle.ix_base.proofs.OnceLemmas.{Contains-first, Contains-from_filter, Contains-later, in_order-members}
use Rattle.continuations.specs.Model.{AreChainsOf}
use Rattle.continuations.proofs.HeadLaws.{chain_at-start}
use Rattle.ix_base.proofs.OnceOrdered.{same_text}
use Rattle.footnotes.specs.FootnoteLinks.{Between, arcs_by, arcs_in, between, ends, footnote_along, footnote_of, label, link_of, notes, sources}
use Rattle.footnotes.specs.Model.{arcs_at, AreRelationsOf, StandApart}
use Rattle.footnotes.specs.ArcLinks.{chain_kept, last_called, link_by, links_by, note_in, end_footnotes}
use Rattle.footnotes.proofs.CalledLaws.{last-there}
use Rattle.footnotes.proofs.RoleLaws.{map-same}

-- what is asked of elements

only-is : (xs : List Located) (x : Located) → only xs ≡ Some x → xs ≡ x ∷ []
only-is [] x h = absurd (cc)
only-is (y ∷ []) x h = let same : y ≡ x = cc in ap (λ z. z ∷ []) same
only-is (y ∷ z ∷ zs) x h = absurd (cc)

asked-is : (es : List Located) (p : Located → Bool) (x : Located) → (asks es).one p ≡ Some x → Contains es x × (p x ≡ true)
asked-is es p x h =
    Contains-from_filter p es x (subst (λ l. Contains l x) (sym (only-is (filter p es) x h)) (Contains-first x []))

such-is : (p : Located → Bool) (o : Option Located) (x : Located) → if_such p o ≡ Some x → (o ≡ Some x) × (p x ≡ true)
such-is p None x h = absurd (cc)
such-is p (Some y) x h = by_cases (p y) refl h where
  by_cases : (b : Bool) → p y ≡ b → cond b (Some y) None ≡ Some x → (Some y ≡ Some x) × (p x ≡ true)
  by_cases true e g = let same : y ≡ x = cc in (g, ap p (sym same) ∙ e)
  by_cases false e g = absurd (cc)

such-one : (p : Located → Bool) (o : Option Located) (x : Located) → o ≡ Some x → p x ≡ true → if_such p o ≡ Some x
such-one p o x e h = ap (if_such p) e ∙ ap (λ b. cond b (Some x) None) h

text-is : (id : List ℕ) (o : Option (List ℕ)) → is_text id o ≡ true → unwrap_or o [] ≡ id
text-is id None h = absurd (cc)
text-is id (Some t) h = sym ((bytes_eq-Decides id t).0 h)

-- the one element with its id, among these
pub record IsNamed (es : List Located) (e : Located) : Type 0 where
  pub one : sole (asks es) (label e) ≡ Some e
  pub there : Contains es e

pub named-is : (es : List Located) (p : Located → Bool) (id : List ℕ) (x : Located) → one_such p (asks es) id ≡ Some x → IsNamed es x × (p x ≡ true)
named-is es p id x h =
    let s = such-is p (sole (asks es) id) x h in
    let a = asked-is es (holds_id id) x s.0 in
    let called : label x ≡ id = text-is id (id_of x) a.1 in
    (record { one = ap (sole (asks es)) called ∙ s.0; there = a.0 }, s.1)

-- an arc goes from a fact to a named element
pub record Arises (es : List Located) (x : Between) : Type 0 where
  pub from_fact : is_fact x.from ≡ true
  pub to_named : IsNamed es x.to

All-filter_map : {X Y : Type 0} (P : Y → Type 0) (f : X → Option Y) → ((x : X) (y : Y) → f x ≡ Some y → P y) → (xs : List X) → All P (filter_map f xs)
All-filter_map P f h [] = All-nil P
All-filter_map {X} {Y} P f h (x ∷ xs) = put (f x) (h x) (All-filter_map P f h xs) where
  put : (o : Option Y) → ((y : Y) → o ≡ Some y → P y) → All P (filter_map f xs) → All P (cons_option o (filter_map f xs))
  put None k rest = rest
  put (Some y) k rest = All-cons P y (filter_map f xs) (k y refl) rest

All-flat_map : {X Y : Type 0} (Q : X → Type 0) (P : Y → Type 0) (f : X → List Y) → ((x : X) → Q x → All P (f x)) → (xs : List X) → All Q xs → All P (flat_map f xs)
All-flat_map Q P f h [] q = All-nil P
All-flat_map Q P f h (x ∷ xs) q = All-append P (f x) (flat_map f xs) (h x (All-head Q x xs q)) (All-flat_map Q P f h xs (All-tail Q x xs q))

All-any : {X : Type 0} (xs : List X) → All (λ x. Unit {0}) xs
All-any xs = λ i d h. tt

module _ (es : List Located) (target : List ℕ) where
  sources-facts : (r : Located) → All (λ f. is_fact f ≡ true) (sources (asks es) target r)
  sources-facts r =
      All-filter (λ f. bytes_eq target (target_of f)) (λ f. is_fact f ≡ true) (named_by is_fact (asks es) (from_ids r))
      (All-filter_map (λ f. is_fact f ≡ true) (one_such is_fact (asks es)) (λ id x h. (named-is es is_fact id x h).1) (from_ids r))

  ends-named : (r : Located) → All (IsNamed es) (named_by is_end (asks es) (to_ids r))
  ends-named r = All-filter_map (IsNamed es) (one_such is_end (asks es)) (λ id x h. (named-is es is_end id x h).0) (to_ids r)

  by-relationship : (r : Located) (b : Bool) → All (Arises es) (arcs_by b (asks es) target r)
  by-relationship r false = All-nil (Arises es)
  by-relationship r true =
      All-flat_map (λ f. is_fact f ≡ true) (Arises es) (λ f. map (between r f) (named_by is_end (asks es) (to_ids r)))
      (λ f fact. All-map (Arises es) (between r f) (named_by is_end (asks es) (to_ids r)) (each f fact (named_by is_end (asks es) (to_ids r)) (ends-named r)))
      (sources (asks es) target r) (sources-facts r) where
        each : (f : Located) → is_fact f ≡ true → (xs : List Located) → All (IsNamed es) xs → All (λ x. Arises es (between r f x)) xs
        each f fact [] h = All-nil (λ x. Arises es (between r f x))
        each f fact (x ∷ xs) h =
            All-cons (λ x. Arises es (between r f x)) x xs (record { from_fact = fact; to_named = All-head (IsNamed es) x xs h }) (each f fact xs (All-tail (IsNamed es) x xs h))

  pub all-arise : All (Arises es) (arcs_in es target)
  all-arise = All-flat_map (λ r. Unit {0}) (Arises es) (λ r. arcs_by (is_relationship r) (asks es) target r) (λ r u. by-relationship r (is_relationship r)) es (All-any es)

-- facts are no footnotes
no-note : (k : Kind) → kinds.is_fact k ≡ true → same_kind k kind.Footnote ≡ false
no-note kind.Continuation h = refl
no-note kind.Denominator h = refl
no-note kind.Exclude h = refl
no-note kind.Footnote h = absurd (cc)
no-note kind.Fraction h = refl
no-note kind.Header h = refl
no-note kind.Hidden h = refl
no-note kind.NonFraction h = refl
no-note kind.NonNumeric h = refl
no-note kind.Numerator h = refl
no-note kind.References h = refl
no-note kind.Relationship h = refl
no-note kind.Resources h = refl
no-note kind.Tuple h = refl
no-note kind.Context h = refl
no-note kind.Unit h = refl
no-note kind.SchemaRef h = refl
no-note kind.LinkbaseRef h = refl
no-note kind.RoleRef h = refl
no-note kind.ArcroleRef h = refl
no-note kind.Other h = refl

-- the footnotes at the ends of arcs are those to which they go
notes-at : (es : List Located) (xs : List Between) → All (Arises es) xs → filter is_footnote (ends xs) ≡ end_footnotes xs
notes-at es [] h = refl
notes-at es (x ∷ xs) h =
    ap (λ b. cond b (x.from ∷ cond (is_footnote x.to) (x.to ∷ filter is_footnote (ends xs)) (filter is_footnote (ends xs)))
    (cond (is_footnote x.to) (x.to ∷ filter is_footnote (ends xs)) (filter is_footnote (ends xs)))) (no-note (kind_of x.from.placed) (All-head (Arises es) x xs h).from_fact)
    ∙ ap (λ l. cond (is_footnote x.to) (x.to ∷ l) l) (notes-at es xs (All-tail (Arises es) x xs h))

-- a footnote that is the one with its id
pub record IsNote (es : List Located) (e : Located) : Type 0 where
  pub named : IsNamed es e
  pub note : is_footnote e ≡ true

notes-named : (es : List Located) (xs : List Between) → All (Arises es) xs → All (IsNote es) (end_footnotes xs)
notes-named es [] h = All-nil (IsNote es)
notes-named es (x ∷ xs) h = by_cases (is_footnote x.to) refl (All-head (Arises es) x xs h) (notes-named es xs (All-tail (Arises es) x xs h)) where
  by_cases : (b : Bool) → is_footnote x.to ≡ b → Arises es x → All (IsNote es) (end_footnotes xs) → All (IsNote es) (cond b (x.to ∷ end_footnotes xs) (end_footnotes xs))
  by_cases true e a rest = All-cons (IsNote es) x.to (end_footnotes xs) (record { named = a.to_named; note = e }) rest
  by_cases false e a rest = rest

-- what is made of the elements of some ids
made-same : (f g : List ℕ → Option Located) (u v : Located → Footnote) (ids : List (List ℕ))
    → ((id : List ℕ) → Contains ids id → option_map u (f id) ≡ option_map v (g id)) → map u (filter_map f ids) ≡ map v (filter_map g ids)
made-same f g u v [] h = refl
made-same f g u v (id ∷ ids) h =
    put (f id) (g id) (filter_map f ids) (filter_map g ids) (h id (Contains-first id ids)) (made-same f g u v ids (λ q k. h q (Contains-later id ids q k))) where
      put : (o p : Option Located) (xs ys : List Located) → option_map u o ≡ option_map v p → map u xs ≡ map v ys → map u (cons_option o xs) ≡ map v (cons_option p ys)
      put None None xs ys e k = k
      put None (Some y) xs ys e k = absurd (cc)
      put (Some x) None xs ys e k = absurd (cc)
      put (Some x) (Some y) xs ys e k = let same : u x ≡ v y = cc in λ i. same i ∷ k i

or-right : (b c : Bool) → c ≡ true → (b || c) ≡ true
or-right true c h = refl
or-right false c h = h

module _ (bases : Located → List ℕ) (chains : List ((ℕ × ℕ) × List Located)) (es : List Located) (made : AreChainsOf chains es) (apart : StandApart es) where
  -- the chain that is kept for a footnote is its chain
  chain-is : (e : Located) → IsNote es e → chain_kept chains e ≡ chain (asks es) e
  chain-is e n =
      let starts : is_start e ≡ true = or-right (is_kind kind.NonNumeric e) (is_footnote e) n.note in
      ap (λ o. option_map_or (λ (l : List Located). l) o []) (chain_at-start chains es e made n.named.there starts (apart e n.named.there starts))

  note-is : (e : Located) → IsNote es e → note_in bases chains e ≡ footnote_of bases (asks es) e
  note-is e n = ap (λ l. footnote_along bases l e) (chain-is e n)

  found-is : (id : List ℕ) (xs : List Between) → All (Arises es) xs → Contains (map label (end_footnotes xs)) id
      → option_map (note_in bases chains) (last_called id (end_footnotes xs) None) ≡ option_map (footnote_of bases (asks es)) (one_such is_footnote (asks es) id)
  found-is id xs h k =
      let l = last-there (IsNote es) id (end_footnotes xs) (notes-named es xs h) k in
      let one_is : one_such is_footnote (asks es) id ≡ Some l.0 =
      such-one is_footnote (sole (asks es) id) l.0 (ap (sole (asks es)) (sym l.3) ∙ l.2.named.one) l.2.note in
      ap (option_map (note_in bases chains)) l.1 ∙ ap Some (note-is l.0 l.2) ∙ sym (ap (option_map (footnote_of bases (asks es))) one_is)

  pub link-is : (role : List ℕ) (xs : List Between) → All (Arises es) xs → link_by (note_in bases chains) role xs ≡ link_of bases (asks es) role xs
  link-is role xs h =
      let ids = in_order text_cmp (map label (end_footnotes xs)) in
      let same : map (note_in bases chains) (filter_map (λ id. last_called id (end_footnotes xs) None) ids)
      ≡ map (footnote_of bases (asks es)) (filter_map (one_such is_footnote (asks es)) ids) =
      made-same (λ id. last_called id (end_footnotes xs) None) (one_such is_footnote (asks es)) (note_in bases chains) (footnote_of bases (asks es)) ids
      (λ id k. found-is id xs h ((in_order-members same_text (map label (end_footnotes xs))).back id k)) in
      let all : map (note_in bases chains) (filter_map (λ id. last_called id (end_footnotes xs) None) ids)
      ≡ map (footnote_of bases (asks es)) (filter_map (one_such is_footnote (asks es)) (in_order text_cmp (map label (filter is_footnote (ends xs))))) =
      same ∙ ap (λ l. map (footnote_of bases (asks es)) (filter_map (one_such is_footnote (asks es)) (in_order text_cmp (map label l)))) (sym (notes-at es xs h)) in
      λ i. record {
        role = role;
        locs = in_order text_cmp (map label (filter is_fact (ends xs)));
        footnotes = all i;
        arcs = (link_by (note_in bases chains) role xs).arcs;
      }

  -- the links of the arcs that are kept
  pub notes-are : (r : List (List ℕ × List Between)) (target : List ℕ) → AreRelationsOf r es → links_by (note_in bases chains) (arcs_at r target) ≡ notes bases es target
  notes-are r target kept =
      ap (links_by (note_in bases chains)) (kept target)
      ∙ map-same _ _ (λ role. link-is role (filter (λ x. bytes_eq role x.role) (arcs_in es target))
      (All-filter (λ x. bytes_eq role x.role) (Arises es) (arcs_in es target) (all-arise es target)))
      (in_order text_cmp (map (λ x. x.role) (arcs_in es target)))
