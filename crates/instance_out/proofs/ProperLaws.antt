-- A proper content is as the laws of its parts want it.
use Rattle.std.proofs.Common.{◌≡◌, ◌∙◌, ℕ, ◌*◌, nat_lt, nat_le, Bool, true, false, not, ◌&&◌, pos, negsuc, List, [], ◌∷◌, ◌++◌, map, flat_map, Some, refl, ap, bytes_eq, codes}
use Rattle.std.specs.List.{list_all}
use Rattle.std.specs.Ordering.{is_lt, is_gt, on}
use Rattle.std.specs.declared.cmp.Ordering.{Ordering}
use Rattle.std.specs.declared.cmp.Ordering.TheVariants.{Less, Equal, Greater}
use Rattle.std.proofs.lemmas.Bool.{and_parts, ltb-true, leb-true}
use Rattle.ix_base.specs.declared.limits.TheConstants.{DEEPEST_TUPLE}
use Rattle.ix_base.specs.declared.content.Arc.{Arc}
use Rattle.ix_base.specs.declared.content.Context.{Context}
use Rattle.ix_base.specs.declared.content.Dim.{Dim}
use Rattle.ix_base.specs.declared.content.Footnote.{Footnote}
use Rattle.ix_base.specs.declared.content.Linkbase.{Linkbase}
use Rattle.ix_base.specs.declared.content.Member.{Member}
use Rattle.ix_base.specs.declared.content.NoteLink.{NoteLink}
use Rattle.ix_base.specs.declared.content.OwnName.{OwnName}
use Rattle.ix_base.specs.declared.content.Period.{Period}
use Rattle.ix_base.specs.declared.content.Unit.{Unit as UnitContent}
use Rattle.ix_base.specs.OwnNames.{name_cmp}
use Rattle.ix_base.specs.ContextForm.{by_dimension, stand_once}
use Rattle.ix_base.specs.Facts.{Facts, item, tuple}
use Rattle.ix_base.specs.Forms.{is_empty}
use Rattle.ix_base.specs.NcName.{is_ncname}
use Rattle.ix_base.specs.Once.{in_order, put as once_put, put_by as once_put_by}
use Rattle.ix_base.specs.Namespaces.{xmlns_namespace, xbrli_namespace}
use Rattle.ix_base.specs.Scope.{outermost}
use Rattle.ix_base.specs.SortedLists.{sorted, put, put_by, text_cmp}
use Rattle.ix_base.specs.Elements.{tree_at}
use Rattle.ix_base.specs.Trees.{Bound, Head, Nodes}
use Rattle.ix_base.specs.WrittenMarkup.{Markup}
use Rattle.instance_lines.specs.Prefixes.{declaration, declared_for}
use Rattle.page_constructs.proofs.SpanLaws.{and_both}
use Rattle.instance_lines.specs.Canonical.{Spaces, root, arc_line_cmp, context_names, dim_names, member_names, unit_names, fact_names}
use Rattle.ix_base.specs.PlainContents.{Said}
use Rattle.instance_out.specs.Denotation.{is_part, parts_in, content_in}
use Rattle.instance_lines.specs.Lists.{are_apart, of_option, rises, strictly, has, is_within}
use Rattle.instance_out.specs.Proper.{is_full, counted_once, all_ids, ids_fit, is_name, is_fact_name, names_fit, link_in_order, lists_fit, is_normal_period, are_normal_dims, is_normal_context, is_normal_unit, forms_fit, is_none_nil, nil_is_empty, tuples_fit, note_ids, arc_ends, is_whole_link, links_fit, tokens_fit, tests, is_proper}
use Rattle.page_tree.specs.FineMarkup.{head_at}
use Rattle.instance_out.specs.MarkupTrees.{tree_in}
use Rattle.instance_out.specs.Instance.{root_for}
use Rattle.instance_lines.specs.Holdings.{ref_texts, all_notes, all_arcs, all_names, said_spaces, fact_ids, token_texts}
use Rattle.instance_lines.specs.Writable.{depth}
use Rattle.instance_out.proofs.NameLaws.{Knows, is_listed, given, IsRead, name-read, knows-xbrli}
use Rattle.instance_out.proofs.RunLaws.{Each}
use Rattle.instance_out.proofs.ContextLaws.{xbrli_name, AreReadIn, IsReadDim, AreNormal, IsNormalPeriod, IsNormalContext}
use Rattle.instance_out.proofs.UnitLaws.{AreBelow, IsNormalUnit}
use Rattle.instance_out.proofs.FactLaws.{IsFactName, AreReadFacts}
use Rattle.instance_out.proofs.LinkReading.{ids_of, IsBetween, IsBodyOf, IsNormalLink}
use Rattle.instance_out.proofs.LineLaws.{IsNormal, kids-read}
use Rattle.instance_out.proofs.ApartLaws.{not-is, Within, rest-apart, counted-ids, notes-within, link-apart}
use Rattle.instance_out.proofs.PrefixReading.{root_scope, root-knows, spaces-filled, spaces-listed}
use Rattle.ix_base.specs.declared.content.Member.TheVariants as member
use Rattle.ix_base.specs.declared.content.Period.TheVariants as period
use Rattle.ix_base.specs.Facts as F

-- Each.

pub each-both : {X : Type 0} (P Q R : X → Type 0) (xs : List X) → ((x : X) → P x → Q x → R x) → Each P xs → Each Q xs → Each R xs
each-both P Q R [] f p q = tt
each-both P Q R (x ∷ xs) f (p, ps) (q, qs) = (f x p q, each-both P Q R xs f ps qs)

pub each-map : {X : Type 0} (P R : X → Type 0) (xs : List X) → ((x : X) → P x → R x) → Each P xs → Each R xs
each-map P R [] f p = tt
each-map P R (x ∷ xs) f (p, ps) = (f x p, each-map P R xs f ps)

pub each-parts : {X : Type 0} (P : X → Type 0) (xs ys : List X) → Each P (xs ++ ys) → Each P xs × Each P ys
each-parts P [] ys h = (tt, h)
each-parts P (x ∷ xs) ys (h, hs) = let q = each-parts P xs ys hs in ((h, q.0), q.1)

pub each-flat : {X Y : Type 0} (P : Y → Type 0) (f : X → List Y) (xs : List X) → Each P (flat_map f xs) → Each (λ x. Each P (f x)) xs
each-flat P f [] h = tt
each-flat P f (x ∷ xs) h = let q = each-parts P (f x) (flat_map f xs) h in (q.0, each-flat P f xs q.1)

pub each-of : {X : Type 0} (p : X → Bool) (xs : List X) → list_all p xs ≡ true → Each (λ x. p x ≡ true) xs
each-of p [] h = tt
each-of p (x ∷ xs) h = let q = and_parts (p x) (list_all p xs) h in (q.0, each-of p xs q.1)

pub all-of : {X : Type 0} (p : X → Bool) (xs : List X) → Each (λ x. p x ≡ true) xs → list_all p xs ≡ true
all-of p [] h = refl
all-of p (x ∷ xs) (h, hs) = rw h (all-of p xs hs)

pub each-over : {X Y : Type 0} (P : Y → Type 0) (f : X → Y) (xs : List X) → Each P (map f xs) → Each (λ x. P (f x)) xs
each-over P f [] h = tt
each-over P f (x ∷ xs) (h, hs) = (h, each-over P f xs hs)

-- Order.

pub sorted-rises : {X : Type 0} (R : X → X → Ordering) (xs : List X) → rises R xs ≡ true → sorted R xs ≡ xs
unfolding sorted
sorted-rises R [] h = refl
sorted-rises R (x ∷ []) h = refl
sorted-rises R (x ∷ y ∷ ys) h =
    let q = and_parts (not (is_gt (R x y))) (rises R (y ∷ ys)) h in
    ap (put R x) (sorted-rises R (y ∷ ys) q.1) ∙ by (R x y) q.0
  where
    by : (o : Ordering) → not (is_gt o) ≡ true → put_by o x y ys (put R x ys) ≡ x ∷ y ∷ ys
    by Less h = refl
    by Equal h = refl
    by Greater h = absurd (cc)

pub once-strictly : {X : Type 0} (R : X → X → Ordering) (xs : List X) → strictly R xs ≡ true → in_order R xs ≡ xs
unfolding in_order
once-strictly R [] h = refl
once-strictly R (x ∷ []) h = refl
once-strictly R (x ∷ y ∷ ys) h =
    let q = and_parts (is_lt (R x y)) (strictly R (y ∷ ys)) h in
    ap (once_put R x) (once-strictly R (y ∷ ys) q.1) ∙ by (R x y) q.0
  where
    by : (o : Ordering) → is_lt o ≡ true → once_put_by o x y ys (once_put R x ys) ≡ x ∷ y ∷ ys
    by Less h = refl
    by Equal h = absurd (cc)
    by Greater h = absurd (cc)

pub strictly-rises : {X : Type 0} (R : X → X → Ordering) (xs : List X) → strictly R xs ≡ true → rises R xs ≡ true
strictly-rises R [] h = refl
strictly-rises R (x ∷ []) h = refl
strictly-rises R (x ∷ y ∷ ys) h =
    let q = and_parts (is_lt (R x y)) (strictly R (y ∷ ys)) h in
    and_both (not (is_gt (R x y))) (rises R (y ∷ ys)) (by (R x y) q.0) (strictly-rises R (y ∷ ys) q.1)
  where
    by : (o : Ordering) → is_lt o ≡ true → not (is_gt o) ≡ true
    by Less h = refl
    by Equal h = absurd (cc)
    by Greater h = absurd (cc)

-- The tests of a proper content.

pub record Passed (c : Said) : Type 0 where
  pub ids : ids_fit c ≡ true
  pub names : names_fit c ≡ true
  pub lists : lists_fit c ≡ true
  pub forms : forms_fit c ≡ true
  pub tuples : tuples_fit c ≡ true
  pub links : links_fit c ≡ true
  pub tokens : tokens_fit c ≡ true

pub passed : (c : Said) → is_proper c ≡ true → Passed c
unfolding is_proper
passed c h =
    let e = each-of (λ b. b) (tests c) h in
    record {
      ids = e.0;
      names = e.1.0;
      lists = e.1.1.1.0;
      forms = e.1.1.1.1.1.1.0;
      tuples = e.1.1.1.1.1.1.1.1.1.1.0;
      links = e.1.1.1.1.1.1.1.1.1.1.1.0;
      tokens = e.1.1.1.1.1.1.1.1.1.1.1.1.1.0;
    }

-- Names.

abbrev Reads : Spaces → OwnName → Type 0
Reads ss n = IsRead (root_scope ss) ss n

names-read : (c : Said) → names_fit c ≡ true → Each (Reads (said_spaces c)) (all_names c)
unfolding names_fit
names-read c h =
    let q = and_parts (list_all is_name (all_names c)) (list_all is_fact_name (fact_names c.facts)) h in
    each-both (λ n. is_name n ≡ true) (λ n. is_listed (said_spaces c) n.ns ≡ true) (Reads (said_spaces c)) (all_names c) one (each-of is_name (all_names c) q.0) (spaces-listed (all_names c))
  where
    one : (n : OwnName) → is_name n ≡ true → is_listed (said_spaces c) n.ns ≡ true → Reads (said_spaces c) n
    one n h l =
        let q = and_parts (is_ncname n.local) (not (bytes_eq n.ns xmlns_namespace)) h in
        name-read (root_scope (said_spaces c)) (said_spaces c) (root-knows (said_spaces c) (spaces-filled (all_names c))) n.ns n.local (and_both (is_ncname n.local) (is_listed (said_spaces c) n.ns) q.0 l)

-- Dimensions and contexts.

dim-read : (ss : Spaces) (d : Dim) → Each (Reads ss) (dim_names d) → IsReadDim (root_scope ss) ss d
dim-read ss d h = record { dimension = h.0; member = by d.member h.1 }
  where
    by : (m : Member) → Each (Reads ss) (member_names m) → AreReadIn (root_scope ss) ss m
    by (member.Explicit n) h = h.0
    by (member.Typed n text) h = h.0

dims-read : (ss : Spaces) (ds : List Dim) → Each (Reads ss) (flat_map dim_names ds) → Each (IsReadDim (root_scope ss) ss) ds
dims-read ss ds h = each-map (λ d. Each (Reads ss) (dim_names d)) (IsReadDim (root_scope ss) ss) ds (dim-read ss) (each-flat (Reads ss) dim_names ds h)

dims-normal : (ds : List Dim) → are_normal_dims ds ≡ true → AreNormal ds
dims-normal ds h = let q = and_parts (stand_once (map (λ d. d.dimension) ds)) (rises by_dimension ds) h in record { once = q.0; in_order = sorted-rises by_dimension ds q.1 }

period-normal : (p : Period) → is_normal_period p ≡ true → IsNormalPeriod p
period-normal (period.Instant (pos n)) h = let q = and_parts (nat_lt 0 n) (nat_le n (3652059 * 86400)) h in (n, refl, ltb-true 0 n q.0, leb-true n (3652059 * 86400) q.1)
period-normal (period.Instant (negsuc n)) h = absurd (cc)
period-normal (period.Duration (pos m) (pos n)) h = let q = and_parts (nat_lt m n) (nat_le n (3652059 * 86400)) h in (m, n, refl, refl, ltb-true m n q.0, leb-true n (3652059 * 86400) q.1)
period-normal (period.Duration (pos m) (negsuc n)) h = absurd (cc)
period-normal (period.Duration (negsuc m) (pos n)) h = absurd (cc)
period-normal (period.Duration (negsuc m) (negsuc n)) h = absurd (cc)
period-normal period.Forever h = tt

-- what is asked of one context
record IsGood (ss : Spaces) (x : Context) : Type 0 where
  id : is_ncname x.id ≡ true
  scheme : is_full x.scheme ≡ true
  identifier : is_full x.identifier ≡ true
  names : Each (Reads ss) (context_names x)

context-normal : (ss : Spaces) (x : Context) → IsGood ss x → is_normal_context x ≡ true → IsNormalContext (root_scope ss) ss x
context-normal ss x g h =
    let q = and_parts (is_normal_period x.period && are_normal_dims x.segment) (are_normal_dims x.scenario) h in
    let r = and_parts (is_normal_period x.period) (are_normal_dims x.segment) q.0 in
    let n = each-parts (Reads ss) (flat_map dim_names x.segment) (flat_map dim_names x.scenario) g.names in
    record {
      id = g.id;
      scheme = g.scheme;
      identifier = g.identifier;
      segment = dims-read ss x.segment n.0;
      segment_normal = dims-normal x.segment r.1;
      scenario = dims-read ss x.scenario n.1;
      scenario_normal = dims-normal x.scenario q.1;
      period = period-normal x.period r.0;
    }

-- Units.

below-normal : (ss : Spaces) (ns : List OwnName) → Each (Reads ss) ns → rises name_cmp ns ≡ true → AreBelow (root_scope ss) ss ns
below-normal ss [] h r = tt
below-normal ss (n ∷ ns) h r = record { read = h; some = refl; in_order = sorted-rises name_cmp (n ∷ ns) r }

unit-normal : (ss : Spaces) (u : UnitContent) → is_ncname u.id ≡ true → Each (Reads ss) (unit_names u) → is_normal_unit u ≡ true → IsNormalUnit (root_scope ss) ss u
unit-normal ss u i e h =
    let q = and_parts (not (is_empty u.over) && rises name_cmp u.over) (rises name_cmp u.under) h in
    let r = and_parts (not (is_empty u.over)) (rises name_cmp u.over) q.0 in
    let n = each-parts (Reads ss) u.over u.under e in
    record {
      id = i;
      over = record { read = n.0; some = not-is (is_empty u.over) r.0; in_order = sorted-rises name_cmp u.over r.1 };
      under = below-normal ss u.under n.1 q.1;
    }

-- Facts.

nil-none : (nil : Bool) (ms : Facts) → is_none_nil nil ms ≡ true → nil ≡ true → ms ≡ F.none
nil-none true F.none h e = refl
nil-none true (item i rest) h e = absurd (cc)
nil-none true (tuple name id nil members rest) h e = absurd (cc)
nil-none false ms h e = absurd (cc)

fact-name : (ss : Spaces) (n : OwnName) → Reads ss n → is_fact_name n ≡ true → IsFactName (root_scope ss) ss n
fact-name ss n r h = record { read = r; apart = not-is (is_part (given n)) h }

facts-normal : (ss : Spaces) (fs : Facts) → Each (Reads ss) (fact_names fs) → Each (λ n. is_fact_name n ≡ true) (fact_names fs) → nil_is_empty fs ≡ true → AreReadFacts (root_scope ss) ss fs
facts-normal ss F.none r o h = tt
facts-normal ss (item i rest) (r, rs) (o, os) h = (fact-name ss i.name r o, facts-normal ss rest rs os h)
facts-normal ss (tuple name id nil members rest) (r, rs) (o, os) h =
    let a = each-parts (Reads ss) (fact_names members) (fact_names rest) rs in
    let b = each-parts (λ n. is_fact_name n ≡ true) (fact_names members) (fact_names rest) os in
    let q = and_parts (is_none_nil nil members && nil_is_empty members) (nil_is_empty rest) h in
    let p = and_parts (is_none_nil nil members) (nil_is_empty members) q.0 in
    (fact-name ss name r o, nil-none nil members p.0, facts-normal ss members a.0 b.0 p.1, facts-normal ss rest a.1 b.1 q.1)

-- Footnote links.

arc-between : (ids : List (List ℕ)) (as' : List Arc) → Each (λ x. has ids x ≡ true) (flat_map (λ a. a.from_id ∷ a.to_id ∷ []) as') → Each (IsBetween ids) as'
arc-between ids [] h = tt
arc-between ids (a ∷ as') (f, (t, hs)) = (record { first = f; last = t }, arc-between ids as' hs)

link-normal : (bodies : List ℕ → Markup) (scope : List Bound) (facts all : List (List ℕ)) (l : NoteLink)
    → link_in_order l ≡ true → is_whole_link facts l ≡ true → Within (note_ids l) all → are_apart (facts ++ all) ≡ true → Each (IsBodyOf bodies scope) l.footnotes
    → IsNormalLink bodies scope l
link-normal bodies scope facts all l o w n a b =
    let q = and_parts (strictly text_cmp l.locs && strictly (on (λ f. f.id) text_cmp) l.footnotes) (strictly arc_line_cmp l.arcs) o in
    let p = and_parts (strictly text_cmp l.locs) (strictly (on (λ f. f.id) text_cmp) l.footnotes) q.0 in
    let some = not (is_empty l.arcs) in
    let ends = is_within (arc_ends l) (l.locs ++ note_ids l) in
    let back = is_within (l.locs ++ note_ids l) (arc_ends l) in
    let known = is_within l.locs facts in
    let r = and_parts (some && ends && back) known w in
    let t = and_parts (some && ends) back r.0 in
    record {
      locs = once-strictly text_cmp l.locs p.0;
      footnotes = sorted-rises (on (λ f. f.id) text_cmp) l.footnotes (strictly-rises (on (λ f. f.id) text_cmp) l.footnotes p.1);
      arcs = sorted-rises arc_line_cmp l.arcs (strictly-rises arc_line_cmp l.arcs q.1);
      apart = link-apart l.locs facts all l.footnotes p.0 p.1 r.1 n a;
      between = arc-between (ids_of l.locs l.footnotes) l.arcs (each-of (has (l.locs ++ note_ids l)) (arc_ends l) (and_parts some ends t.0).1);
      bodied = b;
    }

-- The root.

root-named : (ss : Spaces) → Knows (root_scope ss) ss → (head_at 0 outermost root (map declaration (declared_for ss))).name ≡ xbrli_name (codes "xbrl")
root-named ss k = rw (knows-xbrli (root_scope ss) ss k) refl

root-from : (head : Head) (ns : Nodes) (c : Said) → head.name ≡ xbrli_name (codes "xbrl") → parts_in ns ≡ Some c → content_in (tree_at head ns) ≡ Some c
unfolding content_in parts_in xbrli_namespace
root-from head ns c e p = rw e p

-- The whole.

abbrev pub AreBodied : (List ℕ → Markup) → Said → Type 0
AreBodied bodies c = Each (λ l. Each (IsBodyOf bodies (root_scope (said_spaces c))) l.footnotes) c.notes

contexts-normal : (ss : Spaces) (xs : List Context) → Each (λ x. is_ncname x.id ≡ true) xs → Each (λ x. Each (λ t. is_full t ≡ true) (x.scheme ∷ x.identifier ∷ [])) xs
    → Each (λ x. Each (Reads ss) (context_names x)) xs → list_all is_normal_context xs ≡ true → Each (IsNormalContext (root_scope ss) ss) xs
contexts-normal ss [] i t n h = tt
contexts-normal ss (x ∷ xs) (i, is) (t, ts) (n, ns) h =
    let q = and_parts (is_normal_context x) (list_all is_normal_context xs) h in
    (context-normal ss x (record { id = i; scheme = t.0; identifier = t.1.0; names = n }) q.0, contexts-normal ss xs is ts ns q.1)

units-normal : (ss : Spaces) (us : List UnitContent) → Each (λ u. is_ncname u.id ≡ true) us → Each (λ u. Each (Reads ss) (unit_names u)) us → list_all is_normal_unit us ≡ true
    → Each (IsNormalUnit (root_scope ss) ss) us
units-normal ss [] i n h = tt
units-normal ss (u ∷ us) (i, is) (n, ns) h =
    let q = and_parts (is_normal_unit u) (list_all is_normal_unit us) h in
    (unit-normal ss u i n q.0, units-normal ss us is ns q.1)

links-normal : (bodies : List ℕ → Markup) (scope : List Bound) (facts all : List (List ℕ)) (ls : List NoteLink)
    → list_all link_in_order ls ≡ true → list_all (is_whole_link facts) ls ≡ true → Each (λ l. Within (note_ids l) all) ls → are_apart (facts ++ all) ≡ true
    → Each (λ l. Each (IsBodyOf bodies scope) l.footnotes) ls → Each (IsNormalLink bodies scope) ls
links-normal bodies scope facts all [] o w n a b = tt
links-normal bodies scope facts all (l ∷ ls) o w (n, ns) a (b, bs) =
    let p = and_parts (link_in_order l) (list_all link_in_order ls) o in
    let q = and_parts (is_whole_link facts l) (list_all (is_whole_link facts) ls) w in
    (link-normal bodies scope facts all l p.0 q.0 n a b, links-normal bodies scope facts all ls p.1 q.1 ns a bs)

links-ordered : (c : Said) → lists_fit c ≡ true → list_all link_in_order c.notes ≡ true
unfolding lists_fit
links-ordered c h = (and_parts _ (list_all link_in_order c.notes) h).1

abbrev AreFull : List ℕ → Type 0
AreFull t = is_full t ≡ true

full-contexts : (c : Said) → tokens_fit c ≡ true → Each (λ x. Each (λ t. is_full t ≡ true) (x.scheme ∷ x.identifier ∷ [])) c.contexts
unfolding tokens_fit
full-contexts c h =
    let notes = map (λ (l : NoteLink). l.role) c.notes ++ (flat_map (λ (f : Footnote). f.role ∷ f.lang ∷ []) (all_notes c) ++ map (λ (a : Arc). a.arcrole) (all_arcs c)) in
    let contexts = flat_map (λ (x : Context). x.scheme ∷ x.identifier ∷ []) c.contexts in
    let arcroles = flat_map ref_texts c.arcroles in
    let roles = flat_map ref_texts c.roles in
    let linkbases = flat_map (λ (l : Linkbase). l.href ∷ of_option l.role) c.linkbases in
    let a = each-parts AreFull c.schemas (linkbases ++ (roles ++ (arcroles ++ (contexts ++ notes)))) (each-of is_full (token_texts c) h) in
    let b = each-parts AreFull linkbases (roles ++ (arcroles ++ (contexts ++ notes))) a.1 in
    let d = each-parts AreFull roles (arcroles ++ (contexts ++ notes)) b.1 in
    let e = each-parts AreFull arcroles (contexts ++ notes) d.1 in
    each-flat AreFull (λ x. x.scheme ∷ x.identifier ∷ []) c.contexts (each-parts AreFull contexts notes e.1).0

pub normal : (bodies : List ℕ → Markup) (c : Said) → is_proper c ≡ true → AreBodied bodies c → IsNormal bodies (root_scope (said_spaces c)) (said_spaces c) c
unfolding ids_fit names_fit forms_fit tuples_fit links_fit
normal bodies c h b =
    let p = passed c h in
    let ss = said_spaces c in
    let names = names-read c p.names in
    let front = each-parts (Reads ss) (flat_map context_names c.contexts) (flat_map unit_names c.units ++ fact_names c.facts) names in
    let back = each-parts (Reads ss) (flat_map unit_names c.units) (fact_names c.facts) front.1 in
    let once = map (λ (f : Footnote). f.id) (counted_once (all_notes c)) in
    let known = and_parts (list_all is_ncname (all_ids c)) (are_apart (all_ids c)) p.ids in
    let ids = each-of is_ncname (all_ids c) known.0 in
    let apart = rest-apart (map (λ (u : UnitContent). u.id) c.units) (fact_ids c.facts ++ once)
    (rest-apart (map (λ (x : Context). x.id) c.contexts) (map (λ (u : UnitContent). u.id) c.units ++ (fact_ids c.facts ++ once)) known.1) in
    let rest = fact_ids c.facts ++ map (λ (f : Footnote). f.id) (counted_once (all_notes c)) in
    let one = each-parts (λ t. is_ncname t ≡ true) (map (λ x. x.id) c.contexts) (map (λ (u : UnitContent). u.id) c.units ++ rest) ids in
    let two = each-parts (λ t. is_ncname t ≡ true) (map (λ u. u.id) c.units) rest one.1 in
    let forms = and_parts (list_all is_normal_context c.contexts) (list_all is_normal_unit c.units) p.forms in
    record {
      contexts = contexts-normal ss c.contexts (each-over (λ t. is_ncname t ≡ true) (λ x. x.id) c.contexts one.0) (full-contexts c p.tokens) (each-flat (Reads ss) context_names c.contexts front.0) forms.0;
      units = units-normal ss c.units (each-over (λ t. is_ncname t ≡ true) (λ u. u.id) c.units two.0) (each-flat (Reads ss) unit_names c.units back.0) forms.1;
      facts = facts-normal ss c.facts back.1
          (each-of is_fact_name (fact_names c.facts) (and_parts (list_all is_name (all_names c)) (list_all is_fact_name (fact_names c.facts)) p.names).1)
          (and_parts (nil_is_empty c.facts) (nat_le (depth c.facts) DEEPEST_TUPLE) p.tuples).0;
      notes = links-normal bodies (root_scope ss) (fact_ids c.facts) once c.notes (links-ordered c p.lists) p.links (notes-within c.notes once (counted-ids (all_notes c))) apart b;
    }

-- What the markup of a proper content means denotes it.
pub content-read : (bodies : List ℕ → Markup) (c : Said) → is_proper c ≡ true → AreBodied bodies c → (at : ℕ)
    → content_in (tree_in (root_for bodies (said_spaces c) c) at outermost) ≡ Some c
content-read bodies c h b at =
    let ss = said_spaces c in
    let k = root-knows ss (spaces-filled (all_names c)) in
    root-from (head_at at outermost root (map declaration (declared_for ss))) _ c (root-named ss k) (kids-read (root_scope ss) ss k bodies c (normal bodies c h b) _)
