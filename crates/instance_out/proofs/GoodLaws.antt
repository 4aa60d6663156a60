-- What a proper content keeps so that its markup is fine: names, characters, times and depth.
use Rattle.std.proofs.Common.{◌≡◌, ℕ, zero, suc, ◌+◌, ◌-◌, ◌*◌, ◌/◌, ◌%◌, ◌<◌, ◌≤◌, ◌==◌, nat_lt, nat_le, Bool, true, false, not, ◌&&◌, if◌then◌else◌, pos, negsuc, List, [], ◌∷◌, ◌++◌, map, flat_map, Option, Some, None, refl, bytes_eq, arith}
use Rattle.std.specs.List.{list_all}
use Rattle.std.proofs.lemmas.Bool.{and_parts, ltb-true, leb-true}
use Rattle.std.proofs.lemmas.Bool.Decides.{nat_tests}
use Rattle.ix_base.specs.declared.limits.TheConstants.{DEEPEST_TUPLE}
use Rattle.ix_base.specs.declared.content.Accuracy.{Accuracy}
use Rattle.ix_base.specs.declared.content.Arc.{Arc}
use Rattle.ix_base.specs.declared.content.Context.{Context}
use Rattle.ix_base.specs.declared.content.Dim.{Dim}
use Rattle.ix_base.specs.declared.content.Footnote.{Footnote}
use Rattle.ix_base.specs.declared.content.Item.{Item}
use Rattle.ix_base.specs.declared.content.Linkbase.{Linkbase}
use Rattle.ix_base.specs.declared.content.Member.{Member}
use Rattle.ix_base.specs.declared.content.NoteLink.{NoteLink}
use Rattle.ix_base.specs.declared.content.OwnName.{OwnName}
use Rattle.ix_base.specs.declared.content.Period.{Period}
use Rattle.ix_base.specs.declared.content.RoleRef.{RoleRef}
use Rattle.ix_base.specs.declared.content.Unit.{Unit as UnitContent}
use Rattle.ix_base.specs.declared.content.Value.{Value}
use Rattle.ix_base.specs.Days.{day_at}
use Rattle.ix_base.specs.Facts.{Facts, none, item, tuple}
use Rattle.ix_base.specs.NcName.{is_ncname, is_allowed, are_allowed}
use Rattle.ix_base.specs.Namespaces.{xmlns_namespace}
use Rattle.ix_base.specs.Trees.{Bound}
use Rattle.ix_base.specs.WrittenMarkup.{Markup}
use Rattle.instance_lines.specs.Moments.{date_text, clock_text, time_text, start_text, end_text}
use Rattle.instance_lines.proofs.Calendar.{day_at-is}
use Rattle.page_tree.specs.FineMarkup.{is_fine}
use Rattle.page_constructs.proofs.AllowedText.{low-allowed, allowed-append}
use Rattle.instance_lines.specs.Canonical.{context_names, dim_names, member_names, unit_names, fact_names}
use Rattle.instance_out.specs.GoodMarkup.{allowed_if, good_linkbase, good_role, good_name, good_period, good_member, good_dim, good_context, good_unit, good_accuracy, good_value, good_item, good_facts, fit, is_spaced, good_footnote, good_arc, good_link, declared_scope}
use Rattle.page_constructs.proofs.SpanLaws.{and_both}
use Rattle.instance_out.proofs.TimesFine.{date-allowed, clock-allowed}
use Rattle.ix_base.specs.PlainContents.{Said}
use Rattle.instance_lines.specs.Lists.{of_option}
use Rattle.instance_lines.specs.Holdings.{items_in, fact_ids, all_names, said_spaces, accuracy_texts, value_texts, member_texts, item_texts, context_texts, note_texts, arc_texts, link_texts, ref_texts, all_texts}
use Rattle.instance_lines.specs.Writable.{depth}
use Rattle.instance_out.specs.Proper.{is_name, is_fact_name, names_fit, texts_fit, is_normal_period, are_normal_dims, is_normal_context, is_normal_unit, forms_fit, nil_is_empty, tuples_fit, tests, is_proper}
use Rattle.instance_out.proofs.RunLaws.{Each}
use Rattle.instance_out.proofs.ProperLaws.{each-both, each-map, each-parts, each-flat, each-of, all-of, passed}
use Rattle.instance_out.proofs.TimeLaws.{year-below, proper-below}
use Rattle.ix_base.specs.declared.content.Accuracy.TheVariants as accuracy
use Rattle.ix_base.specs.declared.content.Member.TheVariants as member
use Rattle.ix_base.specs.declared.content.Period.TheVariants as period
use Rattle.ix_base.specs.declared.content.Value.TheVariants as value

abbrev IsAllowed : List ℕ → Type 0
IsAllowed t = are_allowed t ≡ true

abbrev IsName : OwnName → Type 0
IsName n = is_name n ≡ true

name-good : (n : OwnName) → IsName n → good_name n ≡ true
name-good n h = (and_parts (is_ncname n.local) (not (bytes_eq n.ns xmlns_namespace)) h).0

option-good : (o : Option (List ℕ)) → Each IsAllowed (of_option o) → allowed_if o ≡ true
option-good None h = refl
option-good (Some t) h = h.0

linkbase-good : (l : Linkbase) → Each IsAllowed (l.href ∷ of_option l.role) → good_linkbase l ≡ true
linkbase-good l h = and_both (are_allowed l.href) (allowed_if l.role) h.0 (option-good l.role h.1)

role-good : (r : RoleRef) → Each IsAllowed (ref_texts r) → good_role r ≡ true
role-good r h = and_both (are_allowed r.uri) (are_allowed r.href) h.0 h.1.0

-- Times.

day-allowed : (k : ℕ) → k ≤ 3652058 → are_allowed (date_text (day_at k)) ≡ true
day-allowed k h =
    let p = (day_at-is k).proper in
    date-allowed (day_at k) (omega (arith, year-below k h)) (omega (arith, p.months)) (omega (arith, proper-below (day_at k) p))

time-allowed : (n : ℕ) → n / 86400 ≤ 3652058 → are_allowed (time_text n) ≡ true
unfolding is_allowed
time-allowed n h =
    allowed-append (date_text (day_at (n / 86400))) (84 ∷ clock_text (n % 86400)) (day-allowed (n / 86400) h)
    (allowed-append (84 ∷ []) (clock_text (n % 86400)) (low-allowed (84 ∷ []) refl refl) (clock-allowed (n % 86400) (omega arith)))

start-allowed : (n : ℕ) → n < 3652059 * 86400 → are_allowed (start_text (pos n)) ≡ true
start-allowed n h = by (n % 86400 == 0)
  where
    by : (b : Bool) → are_allowed (if b then date_text (day_at (n / 86400)) else time_text n) ≡ true
    by true = day-allowed (n / 86400) (omega arith)
    by false = time-allowed n (omega arith)

end-allowed : (n : ℕ) → n ≤ 3652059 * 86400 → are_allowed (end_text (pos n)) ≡ true
end-allowed n h = by (n % 86400 == 0) refl
  where
    by : (b : Bool) → (n % 86400 == 0) ≡ b → are_allowed (if b then date_text (day_at (n / 86400 - 1)) else time_text n) ≡ true
    by true e = day-allowed (n / 86400 - 1) (omega arith)
    by false e =
        let part : n % 86400 ≡ 0 → ⊥ = λ z. absurd (grind (arith, nat_tests)) in
        time-allowed n (omega arith)

period-good : (p : Period) → is_normal_period p ≡ true → good_period p ≡ true
period-good (period.Instant (pos n)) h = let q = and_parts (nat_lt 0 n) (nat_le n (3652059 * 86400)) h in end-allowed n (leb-true n (3652059 * 86400) q.1)
period-good (period.Instant (negsuc n)) h = absurd (cc)
period-good (period.Duration (pos m) (pos n)) h =
    let q = and_parts (nat_lt m n) (nat_le n (3652059 * 86400)) h in
    let l = ltb-true m n q.0 in
    let r = leb-true n (3652059 * 86400) q.1 in
    and_both (are_allowed (start_text (pos m))) (are_allowed (end_text (pos n))) (start-allowed m (omega arith)) (end-allowed n r)
period-good (period.Duration (pos m) (negsuc n)) h = absurd (cc)
period-good (period.Duration (negsuc m) (pos n)) h = absurd (cc)
period-good (period.Duration (negsuc m) (negsuc n)) h = absurd (cc)
period-good period.Forever h = refl

-- Contexts and units.

member-good : (m : Member) → Each IsAllowed (member_texts m) → Each IsName (member_names m) → good_member m ≡ true
member-good (member.Explicit n) h k = name-good n k.0
member-good (member.Typed n text) h k = and_both (good_name n) (are_allowed text) (name-good n k.0) h.0

dim-good : (d : Dim) → Each IsAllowed (member_texts d.member) → Each IsName (dim_names d) → good_dim d ≡ true
dim-good d h k = and_both (good_name d.dimension) (good_member d.member) (name-good d.dimension k.0) (member-good d.member h k.1)

dims-good : (ds : List Dim) → Each IsAllowed (flat_map (λ d. member_texts d.member) ds) → Each IsName (flat_map dim_names ds) → list_all good_dim ds ≡ true
dims-good ds h k =
    all-of good_dim ds (each-both (λ d. Each IsAllowed (member_texts d.member)) (λ d. Each IsName (dim_names d)) (λ d. good_dim d ≡ true) ds dim-good
    (each-flat IsAllowed (λ d. member_texts d.member) ds h) (each-flat IsName dim_names ds k))

context-good : (x : Context) → Each IsAllowed (context_texts x) → Each IsName (context_names x) → is_normal_period x.period ≡ true → good_context x ≡ true
context-good x h k p =
    let t = each-parts IsAllowed (flat_map (λ (d : Dim). member_texts d.member) x.segment) (flat_map (λ (d : Dim). member_texts d.member) x.scenario) h.1.1.1 in
    let n = each-parts IsName (flat_map dim_names x.segment) (flat_map dim_names x.scenario) k in
    rw (h.0, h.1.0, h.1.1.0, dims-good x.segment t.0 n.0, dims-good x.scenario t.1 n.1) (period-good x.period p)

contexts-good : (xs : List Context) → Each IsAllowed (flat_map context_texts xs) → Each IsName (flat_map context_names xs) → list_all is_normal_context xs ≡ true → list_all good_context xs ≡ true
contexts-good [] h k p = refl
contexts-good (x ∷ xs) h k p =
    let a = each-parts IsAllowed (context_texts x) (flat_map context_texts xs) h in
    let n = each-parts IsName (context_names x) (flat_map context_names xs) k in
    let q = and_parts (is_normal_context x) (list_all is_normal_context xs) p in
    let r = and_parts (is_normal_period x.period && are_normal_dims x.segment) (are_normal_dims x.scenario) q.0 in
    let s = and_parts (is_normal_period x.period) (are_normal_dims x.segment) r.0 in
    and_both (good_context x) (list_all good_context xs) (context-good x a.0 n.0 s.0) (contexts-good xs a.1 n.1 q.1)

names-good : (ns : List OwnName) → Each IsName ns → list_all good_name ns ≡ true
names-good ns h = all-of good_name ns (each-map IsName (λ n. good_name n ≡ true) ns name-good h)

units-good : (us : List UnitContent) → Each IsAllowed (map (λ u. u.id) us) → Each IsName (flat_map unit_names us) → list_all good_unit us ≡ true
units-good [] h k = refl
units-good (u ∷ us) (h, hs) k =
    let n = each-parts IsName (unit_names u) (flat_map unit_names us) k in
    let m = each-parts IsName u.over u.under n.0 in
    rw (h, names-good u.over m.0, names-good u.under m.1) (units-good us hs n.1)

-- Facts.

accuracy-good : (o : Option Accuracy) → Each IsAllowed (accuracy_texts o) → good_accuracy o ≡ true
accuracy-good None h = refl
accuracy-good (Some (accuracy.Decimals n)) h = h.0
accuracy-good (Some (accuracy.Precision n)) h = h.0

value-good : (v : Value) → Each IsAllowed (value_texts v) → good_value v ≡ true
value-good value.Nil h = refl
value-good (value.Plain text) h = h.0
value-good (value.Fraction above below) h = and_both (are_allowed above) (are_allowed below) h.0 h.1.0

item-good : (i : Item) → Each IsAllowed (item_texts i) → IsName i.name → good_item i ≡ true
item-good i h k =
    let a = each-parts IsAllowed (of_option i.unit) (accuracy_texts i.accuracy ++ (of_option i.id ++ value_texts i.value)) h.1 in
    let b = each-parts IsAllowed (accuracy_texts i.accuracy) (of_option i.id ++ value_texts i.value) a.1 in
    let d = each-parts IsAllowed (of_option i.id) (value_texts i.value) b.1 in
    rw (name-good i.name k, h.0, option-good i.unit a.0, accuracy-good i.accuracy b.0, option-good i.id d.0) (value-good i.value d.1)

abbrev HasTexts : Item → Type 0
HasTexts i = Each IsAllowed (item_texts i)

facts-good : (fs : Facts) → Each HasTexts (items_in fs) → Each IsAllowed (fact_ids fs) → Each IsName (fact_names fs) → good_facts fs ≡ true
facts-good none h i n = refl
facts-good (item x rest) (h, hs) i (n, ns) =
    let j = each-parts IsAllowed (of_option x.id) (fact_ids rest) i in
    and_both (good_item x) (good_facts rest) (item-good x h n) (facts-good rest hs j.1 ns)
facts-good (tuple name id nil members rest) h i (n, ns) =
    let g = each-parts HasTexts (items_in members) (items_in rest) h in
    let j = each-parts IsAllowed (of_option id) (fact_ids members ++ fact_ids rest) i in
    let k = each-parts IsAllowed (fact_ids members) (fact_ids rest) j.1 in
    let m = each-parts IsName (fact_names members) (fact_names rest) ns in
    rw (name-good name n, option-good id j.0, facts-good members g.0 k.0 m.0) (facts-good rest g.1 k.1 m.1)

facts-fit : (fs : Facts) (most : ℕ) → 2 + depth fs ≤ most → fit fs most ≡ true
facts-fit none most h = refl
facts-fit (item i rest) zero h = absurd (omega arith)
facts-fit (item i rest) (suc zero) h = absurd (omega arith)
facts-fit (item i rest) (suc (suc below)) h = facts-fit rest (suc (suc below)) h
facts-fit (tuple name id nil members rest) zero h = absurd (omega arith)
facts-fit (tuple name id nil members rest) (suc below) h =
    and_both (fit members below) (fit rest (suc below)) (facts-fit members below (omega arith)) (facts-fit rest (suc below) (omega arith))

-- Links, whose bodies are fine.

abbrev pub IsBodyFine : (List ℕ → Markup) → ℕ → List Bound → Footnote → Type 0
IsBodyFine bodies below scope f = is_fine (bodies f.body) below scope ≡ true

footnote-good : (bodies : List ℕ → Markup) (below : ℕ) (scope : List Bound) (f : Footnote) → Each IsAllowed (note_texts f) → IsBodyFine bodies below scope f → good_footnote bodies below scope f ≡ true
footnote-good bodies below scope f h b = rw (h.0, h.1.0, option-good f.title h.1.1.1.1, h.1.1.0) b

arc-good : (a : Arc) → Each IsAllowed (arc_texts a) → good_arc a ≡ true
arc-good a h = rw (h.0, h.1.0, h.1.1.0) h.1.1.1.0

link-good : (bodies : List ℕ → Markup) (below : ℕ) (scope : List Bound) (l : NoteLink) → Each IsAllowed (link_texts l) → Each (IsBodyFine bodies below scope) l.footnotes → good_link bodies below scope l ≡ true
link-good bodies below scope l h b =
    let locs = each-parts IsAllowed l.locs (flat_map note_texts l.footnotes ++ flat_map arc_texts l.arcs) h.1 in
    let rest = each-parts IsAllowed (flat_map note_texts l.footnotes) (flat_map arc_texts l.arcs) locs.1 in
    let fs = all-of (good_footnote bodies below scope) l.footnotes (each-both (λ f. Each IsAllowed (note_texts f)) (IsBodyFine bodies below scope) (λ f. good_footnote bodies below scope f ≡ true) l.footnotes
    (footnote-good bodies below scope) (each-flat IsAllowed note_texts l.footnotes rest.0) b) in
    let arcs = all-of good_arc l.arcs (each-map (λ a. Each IsAllowed (arc_texts a)) (λ a. good_arc a ≡ true) l.arcs arc-good (each-flat IsAllowed arc_texts l.arcs rest.1)) in
    rw (h.0, all-of are_allowed l.locs locs.0, fs) arcs

-- Namespaces.

name-spaced : (n : OwnName) → Each IsAllowed (n.ns ∷ n.local ∷ []) → IsName n → is_spaced n ≡ true
name-spaced n h k = and_both (are_allowed n.ns) (not (bytes_eq n.ns xmlns_namespace)) h.0 (and_parts (is_ncname n.local) (not (bytes_eq n.ns xmlns_namespace)) k).1

-- The whole.

pub record IsGood (bodies : List ℕ → Markup) (c : Said) : Type 0 where
  pub schemas : list_all are_allowed c.schemas ≡ true
  pub linkbases : list_all good_linkbase c.linkbases ≡ true
  pub roles : list_all good_role c.roles ≡ true
  pub arcroles : list_all good_role c.arcroles ≡ true
  pub contexts : list_all good_context c.contexts ≡ true
  pub units : list_all good_unit c.units ≡ true
  pub facts : good_facts c.facts ≡ true
  pub depth : fit c.facts 257 ≡ true
  pub notes : list_all (good_link bodies 255 (declared_scope (said_spaces c))) c.notes ≡ true
  pub names : list_all is_spaced (all_names c) ≡ true

texts-of : (c : Said) → is_proper c ≡ true → texts_fit c ≡ true
unfolding is_proper
texts-of c h = (each-of (λ b. b) (tests c) h).1.1.0

pub good : (bodies : List ℕ → Markup) (c : Said) → is_proper c ≡ true → Each (λ l. Each (IsBodyFine bodies 255 (declared_scope (said_spaces c))) l.footnotes) c.notes → IsGood bodies c
unfolding names_fit texts_fit forms_fit tuples_fit
good bodies c h b =
    let p = passed c h in
    let ends = flat_map (λ (n : OwnName). n.ns ∷ n.local ∷ []) (all_names c) in
    let notes = flat_map link_texts c.notes ++ ends in
    let ids = fact_ids c.facts ++ notes in
    let items = flat_map item_texts (items_in c.facts) ++ ids in
    let units = map (λ (u : UnitContent). u.id) c.units ++ items in
    let contexts = flat_map context_texts c.contexts ++ units in
    let arcroles = flat_map ref_texts c.arcroles ++ contexts in
    let roles = flat_map ref_texts c.roles ++ arcroles in
    let linkbases = flat_map (λ (l : Linkbase). l.href ∷ of_option l.role) c.linkbases in
    let t1 = each-parts IsAllowed c.schemas (linkbases ++ roles) (each-of are_allowed (all_texts c) (texts-of c h)) in
    let t2 = each-parts IsAllowed linkbases roles t1.1 in
    let t3 = each-parts IsAllowed (flat_map ref_texts c.roles) arcroles t2.1 in
    let t4 = each-parts IsAllowed (flat_map ref_texts c.arcroles) contexts t3.1 in
    let t5 = each-parts IsAllowed (flat_map context_texts c.contexts) units t4.1 in
    let t6 = each-parts IsAllowed (map (λ (u : UnitContent). u.id) c.units) items t5.1 in
    let t7 = each-parts IsAllowed (flat_map item_texts (items_in c.facts)) ids t6.1 in
    let t8 = each-parts IsAllowed (fact_ids c.facts) notes t7.1 in
    let t9 = each-parts IsAllowed (flat_map link_texts c.notes) ends t8.1 in
    let names = each-of is_name (all_names c) (and_parts (list_all is_name (all_names c)) (list_all is_fact_name (fact_names c.facts)) p.names).0 in
    let n1 = each-parts IsName (flat_map context_names c.contexts) (flat_map unit_names c.units ++ fact_names c.facts) names in
    let n2 = each-parts IsName (flat_map unit_names c.units) (fact_names c.facts) n1.1 in
    let forms = and_parts (list_all is_normal_context c.contexts) (list_all is_normal_unit c.units) p.forms in
    let deep = leb-true (depth c.facts) DEEPEST_TUPLE (and_parts (nil_is_empty c.facts) (nat_le (depth c.facts) DEEPEST_TUPLE) p.tuples).1 in
    let scope = declared_scope (said_spaces c) in
    record {
      schemas = all-of are_allowed c.schemas t1.0;
      linkbases = all-of good_linkbase c.linkbases (each-map (λ l. Each IsAllowed (l.href ∷ of_option l.role)) (λ l. good_linkbase l ≡ true) c.linkbases linkbase-good (each-flat IsAllowed (λ l. l.href ∷ of_option l.role) c.linkbases t2.0));
      roles = all-of good_role c.roles (each-map (λ r. Each IsAllowed (ref_texts r)) (λ r. good_role r ≡ true) c.roles role-good (each-flat IsAllowed ref_texts c.roles t3.0));
      arcroles = all-of good_role c.arcroles (each-map (λ r. Each IsAllowed (ref_texts r)) (λ r. good_role r ≡ true) c.arcroles role-good (each-flat IsAllowed ref_texts c.arcroles t4.0));
      contexts = contexts-good c.contexts t5.0 n1.0 forms.0;
      units = units-good c.units t6.0 n2.0;
      facts = facts-good c.facts (each-flat IsAllowed item_texts (items_in c.facts) t7.0) t8.0 n2.1;
      depth = facts-fit c.facts 257 (omega arith);
      notes = all-of (good_link bodies 255 scope) c.notes (each-both (λ l. Each IsAllowed (link_texts l)) (λ l. Each (IsBodyFine bodies 255 scope) l.footnotes) (λ l. good_link bodies 255 scope l ≡ true) c.notes
          (link-good bodies 255 scope) (each-flat IsAllowed link_texts c.notes t9.0) b);
      names = all-of is_spaced (all_names c) (each-both (λ n. Each IsAllowed (n.ns ∷ n.local ∷ [])) IsName (λ n. is_spaced n ≡ true) (all_names c) name-spaced (each-flat IsAllowed (λ n. n.ns ∷ n.local ∷ []) (all_names c) t9.1) names);
    }
