-- The canonical text of a proper content is read back.
use Rattle.ix_base.specs.declared.limits.TheConstants.{DEEPEST_ELEMENT}
use Rattle.std.proofs.Common.{◌≡◌, ◌∙◌, ℕ, ◌≤◌, Bool, true, false, ◌||◌, if◌then◌else◌, List, [], ◌∷◌, ◌++◌, length, map, None, refl, sym, ap, subst, bytes_eq, is_some, arith}
use Rattle.std.specs.List.{concat}
use Rattle.std.proofs.lemmas.Bool.{and_parts}
use Rattle.ix_base.specs.declared.content.Content.{Content}
use Rattle.ix_base.specs.declared.content.Context.{Context}
use Rattle.ix_base.specs.declared.content.Footnote.{Footnote}
use Rattle.ix_base.specs.declared.content.Linkbase.{Linkbase}
use Rattle.ix_base.specs.declared.content.NoteLink.{NoteLink}
use Rattle.ix_base.specs.declared.content.RoleRef.{RoleRef}
use Rattle.ix_base.specs.declared.content.Unit.{Unit as UnitContent}
use Rattle.ix_base.specs.NcName.{are_allowed}
use Rattle.ix_base.specs.Scope.{outermost, namespace_of}
use Rattle.ix_base.specs.Trees.{Bound, Tree}
use Rattle.ix_base.specs.WrittenMarkup.{Markup, nothing, words, written}
use Rattle.instance_lines.specs.Prefixes.{declaration, declared_for}
use Rattle.page_tree.specs.FineMarkup.{is_fine, IsFine, begins_dark, scope_in}
use Rattle.page_tree.specs.Break.{w}
use Rattle.page_tree.specs.Page.{page}
use Rattle.page_tree.proofs.FineLaws.{deeper}
use Rattle.page_tree.proofs.PageLaws.{one, unbroken}
use Rattle.page_tree.proofs.WrittenPages.{written-page}
use Rattle.instance_lines.specs.Canonical.{Spaces, canon, canon_lines, first_line, root, schema_markup, linkbase_markup, role_markup, arcrole_markup, context_markup, unit_markup, fact_markups}
use Rattle.instance_out.specs.GoodMarkup.{good_linkbase, good_role, good_context, good_unit, good_link, allowed_if, declared_scope, is_element}
use Rattle.page_constructs.proofs.SpanLaws.{and_both}
use Rattle.instance_out.proofs.LinkFine.{Pass, pass-append, pass-map, lines-fine, feed, link-fine, spaces-good}
use Rattle.instance_out.proofs.LinesFine.{schema-fine, linkbase-fine, role-fine, arcrole-fine, context-fine, unit-fine, facts-lines, is_fine_line}
use Rattle.instance_out.proofs.RootFine.{known, known-bound, root-fine}
use Rattle.instance_out.proofs.PrefixReading.{root-scope}
use Rattle.ix_base.specs.Markup.{body}
use Rattle.ix_base.specs.PlainContents.{Said, said_of}
use Rattle.instance_out.specs.Denotation.{denotes}
use Rattle.instance_out.specs.Instance.{lines_of, bodied, lines_for, root_for}
use Rattle.instance_out.specs.MarkupTrees.{tree_in}
use Rattle.instance_lines.specs.Holdings.{all_notes, all_names, said_spaces}
use Rattle.instance_out.specs.Proper.{AreBodies, Proper}
use Rattle.instance_out.proofs.ProperLaws.{each-map, each-flat, each-of}
use Rattle.instance_out.proofs.SeenLaws.{denotes-one}
use Rattle.instance_out.proofs.TheoremLaws.{bodies_of, holds, all-held, root_of, root-text, root-says}
use Rattle.instance_out.specs.Theorem.{IsReadBack, IsTextOfTree}
use Rattle.instance_out.proofs.BodyFine.{HasXml, body-fine}
use Rattle.instance_out.proofs.GoodLaws.{IsBodyFine, IsGood, good}
use Rattle.page_tree.specs.FineMarkup as fine

-- Each line is fine, and so is the root.

lines-pass : (bodies : List ℕ → Markup) (c : Said) → IsGood bodies c → Pass (is_fine_line (said_spaces c) 257) (lines_for bodies (said_spaces c) c)
lines-pass bodies c g =
    let ss = said_spaces c in
    let ok = is_fine_line ss 257 in
    let line : (m : Markup) → is_element m ≡ true → IsFine m 257 (declared_scope ss) → ok m ≡ true = λ m k h. and_both (is_element m) (is_fine m 257 (declared_scope ss)) k h.is in
    let schema : (x : List ℕ) → are_allowed x ≡ true → ok (schema_markup x) ≡ true = λ x h. line (schema_markup x) refl (schema-fine ss x DEEPEST_ELEMENT h) in
    let linkbase : (x : Linkbase) → good_linkbase x ≡ true → ok (linkbase_markup x) ≡ true = λ x h. (let z = and_parts (are_allowed x.href) (allowed_if x.role) h in line (linkbase_markup x) refl (linkbase-fine ss x.href x.role DEEPEST_ELEMENT z.0 z.1)) in
    let role : (x : RoleRef) → good_role x ≡ true → ok (role_markup x) ≡ true = λ x h. line (role_markup x) refl (role-fine ss x DEEPEST_ELEMENT h) in
    let arcrole : (x : RoleRef) → good_role x ≡ true → ok (arcrole_markup x) ≡ true = λ x h. line (arcrole_markup x) refl (arcrole-fine ss x DEEPEST_ELEMENT h) in
    let context : (x : Context) → good_context x ≡ true → ok (context_markup ss x) ≡ true = λ x h. line (context_markup ss x) refl (context-fine ss x 252 h) in
    let unit : (x : UnitContent) → good_unit x ≡ true → ok (unit_markup ss x) ≡ true = λ x h. line (unit_markup ss x) refl (unit-fine ss x 253 h) in
    let notes = good_link bodies 255 (declared_scope ss) in
    let link : (x : NoteLink) → notes x ≡ true → ok (bodied bodies x) ≡ true = λ x h. line (bodied bodies x) refl (link-fine bodies ss x 255 h) in
    let a : Pass ok (map schema_markup c.schemas) = pass-map ok schema_markup are_allowed c.schemas schema (record { is = g.schemas }) in
    let b : Pass ok (map linkbase_markup c.linkbases) = pass-map ok linkbase_markup good_linkbase c.linkbases linkbase (record { is = g.linkbases }) in
    let d : Pass ok (map role_markup c.roles) = pass-map ok role_markup good_role c.roles role (record { is = g.roles }) in
    let e : Pass ok (map arcrole_markup c.arcroles) = pass-map ok arcrole_markup good_role c.arcroles arcrole (record { is = g.arcroles }) in
    let i : Pass ok (map (context_markup ss) c.contexts) = pass-map ok (context_markup ss) good_context c.contexts context (record { is = g.contexts }) in
    let j : Pass ok (map (unit_markup ss) c.units) = pass-map ok (unit_markup ss) good_unit c.units unit (record { is = g.units }) in
    let k : Pass ok (map (bodied bodies) c.notes) = pass-map ok (bodied bodies) notes c.notes link (record { is = g.notes }) in
    let l : Pass ok (fact_markups ss c.facts) = record { is = facts-lines ss c.facts 257 g.facts g.depth } in
    pass-append ok _ _ a (pass-append ok _ _ b (pass-append ok _ _ d (pass-append ok _ _ e (pass-append ok _ _ i (pass-append ok _ _ j (pass-append ok _ _ l k))))))

root-is-fine : (bodies : List ℕ → Markup) (c : Said) → IsGood bodies c → is_fine (root_for bodies (said_spaces c) c) 258 outermost ≡ true
root-is-fine bodies c g =
    let ss = said_spaces c in
    let lines = lines_of (lines_for bodies ss c) in
    let r = lines-fine ss (lines_for bodies ss c) 257 (lines-pass bodies c g).is in
    let kids : is_fine (words (10 ∷ []) lines) 257 (declared_scope ss) ≡ true = rw (feed, r.1) r.0 in
    let inner : is_fine (words (10 ∷ []) lines) 257 (scope_in outermost root (map declaration (declared_for ss))) ≡ true =
    ap (is_fine (words (10 ∷ []) lines) 257) (root-scope ss) ∙ kids in
    and_both _ _ (root-fine ss (spaces-good (all_names c) g.names)) (and_both _ _ inner refl)

-- Bodies.

bodies-fine : (scope : List Bound) → HasXml scope → (fs : List Footnote) (h : AreBodies fs) (b : List ℕ) → holds fs b ≡ true → is_fine (bodies_of fs h b) 255 scope ≡ true
bodies-fine scope x [] h b e = absurd (cc)
bodies-fine scope x (f ∷ fs) h b e = by (bytes_eq f.body b) e (bodies-fine scope x fs h.1 b)
  where
    by : (y : Bool) → (y || holds fs b) ≡ true → (holds fs b ≡ true → is_fine (bodies_of fs h.1 b) 255 scope ≡ true)
        → is_fine (if y then body None [] (h.0).nodes nothing else bodies_of fs h.1 b) 255 scope ≡ true
    by true e ih = body-fine 255 (h.0).nodes [] nothing 255 scope (omega arith) (h.0).sound x refl
    by false e ih = ih e

root-xml : (ss : Spaces) → HasXml (declared_scope ss)
root-xml ss = (each-of (λ p. is_some (namespace_of (declared_scope ss) p)) known (known-bound ss)).0

proper-good : (c : Said) (p : Proper c) → IsGood (bodies_of (all_notes c) p.bodies) c
proper-good c p =
    let bodies = bodies_of (all_notes c) p.bodies in
    let scope = declared_scope (said_spaces c) in
    good bodies c p.tested (each-flat (IsBodyFine bodies 255 scope) (λ l. l.footnotes) c.notes
    (each-map (λ f. holds (all_notes c) f.body ≡ true) (IsBodyFine bodies 255 scope) (all_notes c) (λ f h. bodies-fine scope (root-xml (said_spaces c)) (all_notes c) p.bodies f.body h)
    (all-held (all_notes c) (all_notes c) (λ b h. h))))

-- The whole.

first-same : first_line ≡ fine.first_line
unfolding fine.first_line
first-same = refl

-- the root of a proper content, and its tree
root_tree : (c : Content) → Proper (said_of c) → Tree
root_tree c p = tree_in (root_of c p) (length fine.first_line) outermost

-- the text is a page of this tree, if nothing is deeper than so much
page-of : (c : Content) (p : Proper (said_of c)) (depth : ℕ) → 258 ≤ depth → page (canon c) depth (root_tree c p)
unfolding root_tree
page-of c p depth l =
    let s = said_of c in
    let whole_root = root_of c p in
    let text : canon c ≡ fine.first_line ++ written whole_root (10 ∷ []) = root-text c p ∙ ap (λ x. x ++ written whole_root (10 ∷ [])) first-same in
    let is = root-is-fine (bodies_of (all_notes s) p.bodies) s (proper-good s p) in
    let whole : page (fine.page_with whole_root) depth (root_tree c p) = written-page whole_root depth (root_tree c p) refl (deeper whole_root 258 depth outermost l is) in
    subst (λ b. page b depth (root_tree c p)) (sym text) whole

tree-says : (c : Content) (p : Proper (said_of c)) → denotes (root_tree c p) c
unfolding root_tree
tree-says c p = root-says c p (length fine.first_line)

pub read-back : (c : Content) → Proper (said_of c) → IsReadBack (canon c) c
read-back c p =
    let t = root_tree c p in
    let is : page (canon c) 260 t = page-of c p 260 (omega arith) in
    let says : denotes t c = tree-says c p in
    record {
      tree = t;
      is = is;
      says = says;
      only = λ u q. (let k : denotes u c = subst (λ x. denotes x c) (one (canon c) 260 t u is q) says in (k, λ e h. denotes-one u e c h k));
    }

-- the lines of a proper content, joined
pub lines-read_back : (c : Content) (lines : List (List ℕ)) → Proper (said_of c) → lines ≡ canon_lines c → IsReadBack (concat lines) c
lines-read_back c lines p e = subst (λ ls. IsReadBack (concat ls) c) (sym e) (read-back c p)

pub shallow-text : (c : Content) → Proper (said_of c) → IsTextOfTree (canon c) 258 c
shallow-text c p = record { tree = root_tree c p; is = page-of c p 258 (omega arith); says = tree-says c p }

pub unbroken-text : (c : Content) → Proper (said_of c) → w (canon c) 260 ≡ None
unbroken-text c p = let r = read-back c p in unbroken (canon c) 260 r.tree r.is

pub one-text : (c d : Content) → Proper (said_of c) → Proper (said_of d) → canon c ≡ canon d → c ≡ d
one-text c d p q e =
    let r = read-back c p in
    let w = (read-back d q).only r.tree (subst (λ b. page b 260 r.tree) e r.is) in
    w.1 c r.says
