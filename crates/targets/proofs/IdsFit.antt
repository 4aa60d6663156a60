-- The ids of a content are names, and each stands once.
use Rattle.std.proofs.Common.{◌≡◌, ◌∙◌, ap, sym, subst, refl, ℕ, ◌+◌, ◌≤◌, nat_lt, Bool, true, false, List, [], ◌∷◌, ◌++◌, map, length, Option, Some, None, arith, ⊎_elim, cond}
use Rattle.std.specs.Prelude.{◌&&◌, bytes_eq, not}
use Rattle.std.specs.List.{Contains, filter, list_all, list_any}
use Rattle.std.specs.Option.{option_map_or}
use Rattle.std.specs.Ordering.{on}
use Rattle.std.proofs.lemmas.Bool.{and_from, ltb-false}
use Rattle.std.proofs.lemmas.List.Elements.{Contains-append_cases}
use Rattle.std.proofs.lemmas.Slice.Eq.{bytes_eq-Decides}
use Rattle.ix_base.specs.declared.content.Content.{Content}
use Rattle.ix_base.specs.declared.content.Context.{Context}
use Rattle.ix_base.specs.declared.content.Footnote.{Footnote}
use Rattle.ix_base.specs.declared.content.NoteLink.{NoteLink}
use Rattle.ix_base.specs.declared.content.Unit.{Unit as UnitContent}
use Rattle.ix_base.specs.declared.kind.Kind.{Kind}
use Rattle.ix_base.specs.declared.kind.Kind.TheVariants as kind
use Rattle.ix_base.specs.declared.rule.Rule.TheVariants as rule
use Rattle.ix_base.specs.Asks.{asks, if_such}
use Rattle.ix_base.specs.Facts.{facts_of}
use Rattle.ix_base.specs.Ids.{agree, are_doubled, holders, holds_id, holds_tuple_id, id_of, speaker, tuple_id_of}
use Rattle.ix_base.specs.Kinds as kinds
use Rattle.ix_base.specs.Kinds.{is_inline, kind_of, same_kind}
use Rattle.ix_base.specs.LinkRules.{are_many, is_footnote}
use Rattle.ix_base.specs.LocatedElements.{Located, is_fact, is_kind, is_text}
use Rattle.ix_base.specs.NcName.{is_ncname}
use Rattle.ix_base.specs.PlainContents.{said_of}
use Rattle.ix_base.specs.SortedLists.{sorted, text_cmp}
use Rattle.ix_base.proofs.OnceLemmas.{Contains-filter, Contains-first, Contains-from_filter}
use Rattle.footnotes.specs.FootnoteLinks.{notes}
use Rattle.id_table.proofs.OtherLaws.{by-kind}
use Rattle.instance_lines.specs.Arrangement.{arranged, arranged_link}
use Rattle.instance_lines.specs.Holdings.{all_notes, fact_ids}
use Rattle.instance_lines.specs.Lists.{are_apart}
use Rattle.instance_out.specs.Proper.{all_ids, counted_once, ids_fit}
use Rattle.targets.specs.ValidSets.{IsClean}
use Rattle.target_contents.specs.Contents.{IsContent}
use Rattle.target_contents.specs.PageSet.{PageSet, base_at, elements}
use Rattle.targets.proofs.CleanLaws.{link-keeps}
use Rattle.target_contents.proofs.FitLaws.{fact-inline}
use Rattle.targets.proofs.FormLaws.{id-name, or-left, such-parts, text-of}
use Rattle.targets.proofs.HolderLaws.{kinds-one, several-parts, speaker-is, speaker-none, speaker_such}
use Rattle.target_contents.proofs.MemberLaws.{all-pass, from-map, passes-any}
use Rattle.targets.proofs.NoteSums.{IsOfNote, arranged-notes, from-counted, notes-once}
use Rattle.targets.proofs.PartsFit.{context-names, contexts-once, unit-names, units-once}
use Rattle.targets.proofs.SumLaws.{ids-most}
use Rattle.targets.proofs.TotalLaws.{total, total-append, total-has, total-less, total-map, total-same, total-some, total-zero, when, when-has, when-most}

abbrev is_this : List ℕ → List ℕ → ℕ
is_this t id = when (bytes_eq t id) 1

this-self : (id : List ℕ) → is_this id id ≡ 1
this-self id = ap (λ b. when b 1) ((bytes_eq-Decides id id).1 refl)

-- where each text is counted once at most, none stands twice
apart-from : (ids : List (List ℕ)) → ((t : List ℕ) → total (is_this t) ids ≤ 1) → are_apart ids ≡ true
apart-from [] h = refl
apart-from (id ∷ ids) h =
    and_from (not (list_any (bytes_eq id) ids)) (are_apart ids) (by (list_any (bytes_eq id) ids) refl)
    (apart-from ids (λ t. let all : is_this t id + total (is_this t) ids ≤ 1 = h t in omega arith))
  where
    by : (b : Bool) → list_any (bytes_eq id) ids ≡ b → not b ≡ true
    by false e = refl
    by true e =
        let x = passes-any (bytes_eq id) ids e in
        let one : is_this id x.0 ≡ 1 = ap (λ b. when b 1) x.2 in
        let there : is_this id x.0 ≤ total (is_this id) ids = total-some (is_this id) ids x.0 x.1 in
        let here : is_this id id ≡ 1 = this-self id in
        let all : is_this id id + total (is_this id) ids ≤ 1 = h id in
        absurd (omega arith)

-- contexts, units, facts and footnotes are different elements
one-kind : (k : Kind) (n : ℕ)
    → when (same_kind k kind.Context) n + (when (same_kind k kind.Unit) n + (when (kinds.is_fact k) n + when (same_kind k kind.Footnote) n)) ≤ n
one-kind kind.Context n = omega arith
one-kind kind.Unit n = omega arith
one-kind kind.NonFraction n = omega arith
one-kind kind.NonNumeric n = omega arith
one-kind kind.Fraction n = omega arith
one-kind kind.Tuple n = omega arith
one-kind kind.Footnote n = omega arith
one-kind k n = omega arith

note-inline : (k : Kind) → same_kind k kind.Footnote ≡ true → is_inline k ≡ true
note-inline kind.Footnote h = refl
note-inline k h = absurd (cc)

counted : {X : Type 0} (p : X → Bool) (xs : List X) → total (λ x. when (p x) 1) xs ≡ length (filter p xs)
counted p [] = refl
counted p (x ∷ xs) = by (p x) (counted p xs)
  where
    by : (b : Bool) → total (λ y. when (p y) 1) xs ≡ length (filter p xs)
        → when b 1 + total (λ y. when (p y) 1) xs ≡ length (cond b (x ∷ filter p xs) (filter p xs))
    by true e = omega arith
    by false e = omega arith

option-this : (t : List ℕ) (o : Option (List ℕ)) → option_map_or (is_this t) o 0 ≡ when (is_text t o) 1
option-this t None = refl
option-this t (Some x) = refl

module _ (s : PageSet) (clean : IsClean s) where
  -- no id is doubled
  single : (t : List ℕ) (e : Located) → Contains (elements s) e → holds_id t e ≡ true → are_doubled (asks (elements s)) t ≡ false
  single t e at h =
      let a = asks (elements s) in
      sym (ap (λ o. option_map_or (are_doubled a) o false) (text-of t (id_of e) h))
      ∙ or-left _ (option_map_or (λ id. are_many a (holds_tuple_id id)) (tuple_id_of e) false) (link-keeps s clean rule.L1 (0, omega arith, refl) e at)

  never-doubled : (t : List ℕ) → are_doubled (asks (elements s)) t ≡ false
  never-doubled t = by (holders (elements s) t) refl
    where
      by : (hs : List Located) → holders (elements s) t ≡ hs → are_doubled (asks (elements s)) t ≡ false
      by [] e = ap (λ l. nat_lt 1 (length l) && not (agree (asks (elements s)) t)) e
      by (x ∷ hs) e =
          let from = Contains-from_filter (holds_id t) (elements s) x (subst (λ l. Contains l x) (sym e) (Contains-first x hs)) in
          single t x from.0 from.1

  -- those that hold an id
  held : (t : List ℕ) → total (λ e. when (holds_id t e) 1) (elements s) ≡ length (holders (elements s) t)
  held t = counted (holds_id t) (elements s)

  -- of a sort that no context and no unit is: one that holds the id at most, and none where the one that speaks for it is of another
  module _ (P : Kind → Bool) (context : P kind.Context ≡ false) (unit : P kind.Unit ≡ false) where
    abbrev sorted_by : List ℕ → Located → ℕ
    sorted_by t e = when (P (kind_of e.placed)) (when (holds_id t e) 1)

    within : (t : List ℕ) → total (sorted_by t) (elements s) ≤ length (holders (elements s) t)
    within t =
        let less : total (sorted_by t) (elements s) ≤ total (λ e. when (holds_id t e) 1) (elements s) =
        total-less (sorted_by t) (λ e. when (holds_id t e) 1) (elements s) (λ e at. when-most (P (kind_of e.placed)) (when (holds_id t e) 1)) in
        let all = held t in
        omega arith

    sort-by : (t : List ℕ) (y : Located) → Contains (holders (elements s) t) y → total (sorted_by t) (elements s) ≤ when (P (kind_of y.placed)) 1
    sort-by t y c = by (P (kind_of y.placed)) refl
      where
        few : P (kind_of y.placed) ≡ true → (b : Bool) → nat_lt 1 (length (holders (elements s) t)) ≡ b → length (holders (elements s) t) ≤ 1
        few e false m = ltb-false 1 (length (holders (elements s) t)) m
        few e true m =
            let no : P (kind_of y.placed) ≡ false = by-kind P context unit (kind_of y.placed) (several-parts (elements s) t (never-doubled t) m y c) in
            absurd (let z : true ≡ false = sym e ∙ no in cc)

        none : P (kind_of y.placed) ≡ false → (e : Located) → Contains (elements s) e → (b : Bool) → holds_id t e ≡ b → when (P (kind_of e.placed)) (when b 1) ≡ 0
        none e x at true h =
            let same : kind_of x.placed ≡ kind_of y.placed = kinds-one (elements s) t (never-doubled t) x y (Contains-filter (holds_id t) (elements s) x at h) c in
            ap (λ b. when b 1) (ap P same ∙ e)
        none e x at false h = when-none (P (kind_of x.placed))
          where
            when-none : (b : Bool) → when b 0 ≡ 0
            when-none true = refl
            when-none false = refl

        by : (b : Bool) → P (kind_of y.placed) ≡ b → total (sorted_by t) (elements s) ≤ when b 1
        by true e =
            let one = few e (nat_lt 1 (length (holders (elements s) t))) refl in
            let all = within t in
            omega arith
        by false e =
            let zero : total (sorted_by t) (elements s) ≡ 0 =
            total-same (sorted_by t) (λ x. 0) (elements s) (λ x at. none e x at (holds_id t x) refl) ∙ total-zero (elements s) in
            omega arith

  module _ (target : List ℕ) (c : Content) (is : IsContent (base_at s) (elements s) target c) where
    notes-are : c.notes ≡ map arranged_link (sorted (on (λ l. l.role) text_cmp) (notes (base_at s) (elements s) target))
    unfolding arranged
    notes-are =
        ap (λ (x : Content). x.notes) is.2 ∙ ap (λ ls. map arranged_link (sorted (on (λ (l : NoteLink). l.role) text_cmp) ls)) is.1.notes

    each-note : (f : Footnote) → Contains (all_notes (said_of c)) f → IsOfNote (base_at s) (elements s) f
    each-note f h = arranged-notes (base_at s) (elements s) target c.notes notes-are f h

    fact-name : (id : List ℕ) → Contains (fact_ids (facts_of c.facts)) id → is_ncname id ≡ true
    fact-name id h =
        let w = is_this id in
        let some : w id ≤ total w (fact_ids (facts_of c.facts)) = total-some w (fact_ids (facts_of c.facts)) id h in
        let one : w id ≡ 1 = this-self id in
        let most : total w (fact_ids (facts_of c.facts)) ≤ total (λ e. when (is_fact e) (option_map_or w (id_of e) 0)) (elements s) = ids-most s clean target c is w in
        let e = total-has (λ x. when (is_fact x) (option_map_or w (id_of x) 0)) (elements s) (omega arith) in
        let fact = when-has (is_fact e.0) (option_map_or w (id_of e.0) 0) e.2 in
        let held = when-has (is_text id (id_of e.0)) 1 (subst (λ n. 1 ≤ n) (option-this id (id_of e.0)) fact.1) in
        id-name s clean e.0 id e.1 (fact-inline (kind_of e.0.placed) fact.0) (text-of id (id_of e.0) held.0)

    note-name : (id : List ℕ) → Contains (map (λ f. f.id) (counted_once (all_notes (said_of c)))) id → is_ncname id ≡ true
    note-name id h =
        let f = from-map (λ (f : Footnote). f.id) (counted_once (all_notes (said_of c))) id h in
        let e = each-note f.0 (from-counted (all_notes (said_of c)) f.0 f.1) in
        let such = such-parts is_footnote (elements s) f.0.id e.0 e.1 in
        id-name s clean e.0 id such.0 (note-inline (kind_of e.0.placed) such.2) (such.1 ∙ ap Some f.2)

    ids-named : (id : List ℕ) → Contains (all_ids (said_of c)) id → is_ncname id ≡ true
    ids-named id h =
        let contexts = map (λ (x : Context). x.id) c.contexts in
        let units = map (λ (u : UnitContent). u.id) c.units in
        let facts = fact_ids (facts_of c.facts) in
        let noted = map (λ (f : Footnote). f.id) (counted_once (all_notes (said_of c))) in
        ⊎_elim (context-names s clean target c is id)
        (λ k. ⊎_elim (unit-names s clean target c is id)
        (λ l. ⊎_elim (fact-name id) (note-name id) (Contains-append_cases facts noted id l))
        (Contains-append_cases units (facts ++ noted) id k))
        (Contains-append_cases contexts (units ++ (facts ++ noted)) id h)

    -- what stands for an id: a context, a unit, a fact or a footnote
    sorts : (t : List ℕ)
        → option_map_or (λ x. 1) (speaker_such kind.Context (elements s) t) 0
        + (option_map_or (λ x. 1) (speaker_such kind.Unit (elements s) t) 0
        + (total (λ e. when (is_fact e) (when (holds_id t e) 1)) (elements s)
        + total (λ e. when (is_footnote e) (when (holds_id t e) 1)) (elements s))) ≤ 1
    sorts t = by (speaker (elements s) t) refl
      where
        such : (k : Kind) (y : Located) → option_map_or (λ x. 1) (if_such (is_kind k) (Some y)) 0 ≡ when (is_kind k y) 1
        such k y = by (is_kind k y)
          where
            by : (b : Bool) → option_map_or (λ (x : Located). 1) (cond b (Some y) None) 0 ≡ when b 1
            by true = refl
            by false = refl

        by : (o : Option Located) → speaker (elements s) t ≡ o
            → option_map_or (λ x. 1) (if_such (is_kind kind.Context) o) 0
            + (option_map_or (λ x. 1) (if_such (is_kind kind.Unit) o) 0
            + (total (λ e. when (is_fact e) (when (holds_id t e) 1)) (elements s)
            + total (λ e. when (is_footnote e) (when (holds_id t e) 1)) (elements s))) ≤ 1
        by None e =
            let none : length (holders (elements s) t) ≡ 0 = ap length (speaker-none (elements s) t e (never-doubled t)) in
            let d = within kinds.is_fact refl refl t in
            let g = within (λ k. same_kind k kind.Footnote) refl refl t in
            omega arith
        by (Some y) e =
            let c = (speaker-is (elements s) t y e).1 in
            let a = such kind.Context y in
            let b = such kind.Unit y in
            let d = sort-by kinds.is_fact refl refl t y c in
            let g = sort-by (λ k. same_kind k kind.Footnote) refl refl t y c in
            let four = one-kind (kind_of y.placed) 1 in
            omega arith

    facts-once : (t : List ℕ) → total (is_this t) (fact_ids (facts_of c.facts)) ≤ total (λ e. when (is_fact e) (when (holds_id t e) 1)) (elements s)
    facts-once t =
        let es = elements s in
        let most : total (is_this t) (fact_ids (facts_of c.facts)) ≤ total (λ e. when (is_fact e) (option_map_or (is_this t) (id_of e) 0)) es =
        ids-most s clean target c is (is_this t) in
        subst (λ (f : Located → ℕ). total (is_this t) (fact_ids (facts_of c.facts)) ≤ total f es)
        (λ i e. when (is_fact e) (option-this t (id_of e) i)) most

    ids-once : (t : List ℕ) → total (is_this t) (all_ids (said_of c)) ≤ 1
    ids-once t =
        let es = elements s in
        let w = is_this t in
        let contexts = map (λ (x : Context). x.id) c.contexts in
        let units = map (λ (u : UnitContent). u.id) c.units in
        let facts = fact_ids (facts_of c.facts) in
        let counted_notes = counted_once (all_notes (said_of c)) in
        let noted = map (λ (f : Footnote). f.id) counted_notes in
        let all : total w (contexts ++ (units ++ (facts ++ noted))) ≡ total w contexts + total w (units ++ (facts ++ noted)) =
        total-append w contexts (units ++ (facts ++ noted)) in
        let behind : total w (units ++ (facts ++ noted)) ≡ total w units + total w (facts ++ noted) = total-append w units (facts ++ noted) in
        let last : total w (facts ++ noted) ≡ total w facts + total w noted = total-append w facts noted in
        let a : total w contexts ≤ option_map_or (λ (x : Located). 1) (speaker_such kind.Context es t) 0 =
        subst (λ n. n ≤ option_map_or (λ (x : Located). 1) (speaker_such kind.Context es t) 0)
        (sym (total-map w (λ (x : Context). x.id) c.contexts)) (contexts-once s clean target c is t) in
        let b : total w units ≤ option_map_or (λ (x : Located). 1) (speaker_such kind.Unit es t) 0 =
        subst (λ n. n ≤ option_map_or (λ (x : Located). 1) (speaker_such kind.Unit es t) 0)
        (sym (total-map w (λ (u : UnitContent). u.id) c.units)) (units-once s clean target c is t) in
        let d : total w facts ≤ total (λ e. when (is_fact e) (when (holds_id t e) 1)) es = facts-once t in
        let g : total w noted ≤ total (λ e. when (is_footnote e) (when (holds_id t e) 1)) es =
        subst (λ n. n ≤ total (λ e. when (is_footnote e) (when (holds_id t e) 1)) es)
        (sym (total-map w (λ (f : Footnote). f.id) counted_notes))
        (notes-once (base_at s) es (all_notes (said_of c)) each-note t) in
        let four = sorts t in
        let goal : total w (contexts ++ (units ++ (facts ++ noted))) ≤ 1 = omega arith in
        goal

    ids-are : ids_fit (said_of c) ≡ true
    unfolding ids_fit
    ids-are =
        and_from (list_all is_ncname (all_ids (said_of c))) (are_apart (all_ids (said_of c)))
        (all-pass is_ncname (all_ids (said_of c)) ids-named) (apart-from (all_ids (said_of c)) ids-once)

-- the ids of a whole target are names, and each stands once
pub ids-fit : (s : PageSet) → IsClean s → (target : List ℕ) (c : Content) → IsContent (base_at s) (elements s) target c → ids_fit (said_of c) ≡ true
ids-fit s clean target c is = ids-are s clean target c is
