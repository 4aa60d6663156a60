-- What is shown is written as markup that is fine, and that means it again.
use Rattle.std.proofs.Common.{◌≡◌, ◌∙◌, append-nil, ℕ, zero, suc, ◌+◌, Bool, true, false, not, ◌&&◌, if◌then◌else◌, List, [], ◌∷◌, ◌++◌, length, map, filter, Some, None, is_some, unwrap_or, refl, sym, ap, subst, bytes_eq, codes}
use Rattle.std.specs.List.{filter_map}
use Rattle.std.proofs.lemmas.Bool.{and_parts}
use Rattle.ix_base.specs.Escapes.{te}
use Rattle.ix_base.specs.Markup.{declaration, element_by, ends_short}
use Rattle.ix_base.specs.NcName.{is_ncname, are_allowed}
use Rattle.ix_base.specs.Namespaces.{xml_namespace, xmlns_namespace}
use Rattle.ix_base.specs.Scope.{has_prefix, namespace_of, bound_over, declared_over, scope_under, element_name}
use Rattle.ix_base.specs.Sound.{IsSoundName, IsSoundAttribute}
use Rattle.ix_base.specs.Trees.{Named, Valued, Bound}
use Rattle.ix_base.specs.WrittenMarkup as written
use Rattle.ix_base.specs.WrittenMarkup.{Markup, start_text, leaf_text, close_text}
use Rattle.page_tree.specs.FineMarkup.{past, head_at, scope_in, nodes_at, begins_dark, is_fine_text, is_fine_tag, is_fine}
use Rattle.page_tree.specs.Tags.{valued}
use Rattle.page_tree.specs.Spellings.{read}
use Rattle.page_tree.proofs.FineBodies.{default-kept}
use Rattle.page_tree.proofs.FineLaws.{bound-here}
use Rattle.page_tree.proofs.FineNames.{ncname-colon}
use Rattle.page_constructs.proofs.SpanLaws.{bytes-one, bytes-apart}
use Rattle.page_plain.specs.Bare.{Shown, blank, letters, mark, shown_by, attr_spaces, spaces_in, numbered, prefix_in, attr_in, attrs_in, is_blank, spelled}
use Rattle.page_plain.proofs.ListLaws.{Each, AreApart, each-parts}
use Rattle.page_plain.proofs.PrefixLaws.{Spaces, prefix-number, prefix-bound, xml-bound, default-bound}
use Rattle.page_plain.proofs.NameLaws.{Knows, attrs-written}
use Rattle.page_plain.proofs.TagLaws.{IsGoodTag, good-tag, default, bound_in, declarations}
use Rattle.page_plain.proofs.GoodLaws.{IsAfter, AreGood}

-- the prefixes are bound in the scope, and this is its default namespace
pub record IsWithin (scope bs : List Bound) (around : List ℕ) : Type 0 where
  pub knows : Knows scope bs
  pub default_is : unwrap_or (namespace_of scope []) [] ≡ around

-- a default namespace that is declared
unnamed : (scope : List Bound) → namespace_of (filter (λ x. not (bytes_eq x.prefix [])) scope) [] ≡ None
unnamed [] = refl
unnamed (x ∷ scope) = by (bytes_eq x.prefix []) refl (unnamed scope) where
  by : (b : Bool) → bytes_eq x.prefix [] ≡ b → namespace_of (filter (λ x. not (bytes_eq x.prefix [])) scope) [] ≡ None
      → namespace_of (if not b then x ∷ filter (λ x. not (bytes_eq x.prefix [])) scope else filter (λ x. not (bytes_eq x.prefix [])) scope) [] ≡ None
  by true e r = r
  by false e r = rw e r

default-here : (scope : List Bound) (ns : List ℕ) → unwrap_or (namespace_of (declared_over scope (default ns)) []) [] ≡ ns
default-here scope ns = by (bytes_eq ns []) refl where
  by : (b : Bool) → bytes_eq ns [] ≡ b → unwrap_or (namespace_of (if b then filter (λ x. not (bytes_eq x.prefix [])) scope else bound_over scope (default ns)) []) [] ≡ ns
  by true e = ap (λ o. unwrap_or o []) (unnamed scope) ∙ sym (bytes-one ns [] e)
  by false e = ap (λ o. unwrap_or o []) (bound-here scope (default ns) [])

default-knows : (scope : List Bound) (k : ℕ) (ss : Spaces) (ns : List ℕ) → Knows scope (numbered k ss) → Knows (declared_over scope (default ns)) (numbered k ss)
default-knows scope k ss ns h = record {
  bound = λ m p e.
      (let j = h.names m p e in
      ap (namespace_of (declared_over scope (default ns))) j.1 ∙ default-kept scope ns 97 _ ∙ sym (ap (namespace_of scope) j.1) ∙ h.bound m p e);
  names = h.names;
  xml = default-kept scope ns 120 (codes "ml") ∙ h.xml;
}

-- below an element that declares no prefixes
pub within-under : (scope : List Bound) (k : ℕ) (ss : Spaces) (around ns : List ℕ) → IsWithin scope (numbered k ss) around → IsWithin (scope_under scope (bound_in around ns [])) (numbered k ss) ns
within-under scope k ss around ns w = by (bytes_eq ns around) refl where
  by : (b : Bool) → bytes_eq ns around ≡ b → IsWithin (scope_under scope ((if b then [] else default ns ∷ []) ++ [])) (numbered k ss) ns
  by true e = record { knows = w.knows; default_is = w.default_is ∙ sym (bytes-one ns around e) }
  by false e = record { knows = default-knows scope k ss ns w.knows; default_is = default-here scope ns }

-- below a root, which declares them
pub within-root : (scope : List Bound) (ss : Spaces) (around ns : List ℕ) → namespace_of scope (codes "xml") ≡ Some xml_namespace → unwrap_or (namespace_of scope []) [] ≡ around
    → IsWithin (scope_under scope (bound_in around ns (numbered 1 ss))) (numbered 1 ss) ns
within-root scope ss around ns x d = by (bytes_eq ns around) refl where
  declared : (s : List Bound) → namespace_of s (codes "xml") ≡ Some xml_namespace → unwrap_or (namespace_of s []) [] ≡ ns → IsWithin (scope_under s (numbered 1 ss)) (numbered 1 ss) ns
  declared s x d = record {
    knows = record {
      bound = λ m p e. prefix-bound 1 ss s m p e;
      names = λ m p e. prefix-number 1 ss m p e;
      xml = xml-bound 1 ss s ∙ x;
    };
    default_is = ap (λ o. unwrap_or o []) (default-bound 1 ss s) ∙ d;
  }

  by : (b : Bool) → bytes_eq ns around ≡ b → IsWithin (scope_under scope ((if b then [] else default ns ∷ []) ++ numbered 1 ss)) (numbered 1 ss) ns
  by true e = declared scope x (d ∙ sym (bytes-one ns around e))
  by false e = declared (declared_over scope (default ns)) (default-kept scope ns 120 (codes "ml") ∙ x) (default-here scope ns)

-- the prefixes have what some nodes need
abbrev pub HasAll : List Bound → List (List ℕ) → Type 0
HasAll bs spaces = Each (λ ns. is_some (prefix_in bs ns) ≡ true) spaces

-- a tag without declarations of prefixes
own-tag : (scope : List Bound) (k : ℕ) (ss : Spaces) (around : List ℕ) (name : Named) (attrs : List Valued) → IsWithin scope (numbered k ss) around → IsSoundName name
    → Each IsSoundAttribute attrs → AreApart (map (λ a. a.name) attrs) → HasAll (numbered k ss) (attr_spaces attrs)
    → IsGoodTag scope name.local (attrs_in [] (numbered k ss) around name attrs) (scope_under scope (bound_in around name.ns [])) attrs
own-tag scope k ss around name attrs w n h a s =
    let under = within-under scope k ss around name.ns w in
    subst (λ l. IsGoodTag scope name.local l (scope_under scope (bound_in around name.ns [])) attrs) (join (declaration around name.ns))
    (good-tag scope name.local (declaration around name.ns ++ []) (bound_in around name.ns []) (numbered k ss) attrs n.local
    (declarations around name.ns 1 [] n.allowed (bytes-apart name.ns xmlns_namespace n.plain) tt)
    (attrs-written (scope_under scope (bound_in around name.ns [])) (numbered k ss) attrs under.knows h s) a) where
      join : (ds : List written.Attribute) → (ds ++ []) ++ map (attr_in (numbered k ss)) attrs ≡ ds ++ map (attr_in (numbered k ss)) attrs
      join ds = ap (λ l. l ++ map (attr_in (numbered k ss)) attrs) (append-nil ds)

-- fine
after-dark : (bs : List Bound) (around : List ℕ) (s : Shown) → IsAfter s → begins_dark (spelled bs around s) ≡ false
after-dark bs around blank h = refl
after-dark bs around (letters text rest) h = absurd h
after-dark bs around (mark name attrs kids rest) h = by (ends_short name && is_blank kids) where
  by : (b : Bool) → begins_dark (element_by b name.local (attrs_in [] bs around name attrs) (spelled bs name.ns kids) (spelled bs around rest)) ≡ false
  by true = refl
  by false = refl

fine-text : (text : List ℕ) → (text ≡ [] → ⊥) → are_allowed text ≡ true → is_fine_text text ≡ true
fine-text [] n a = absurd (n refl)
fine-text (c ∷ cs) n a = a

pub element-fine : (b : Bool) (name : List ℕ) (attrs : List written.Attribute) (kids rest : Markup) (below : ℕ) (scope under : List Bound) → is_fine_tag scope name attrs ≡ true
    → scope_in scope name attrs ≡ under → is_fine kids below under ≡ true → is_fine rest (suc below) scope ≡ true → is_fine (element_by b name attrs kids rest) (suc below) scope ≡ true
element-fine true name attrs kids rest below scope under t e k r = rw t r
element-fine false name attrs kids rest below scope under t e k r = rw (t, ap (is_fine kids below) e ∙ k) r

pub spelled-fine : (k : ℕ) (ss : Spaces) (s : Shown) (depth : ℕ) (scope : List Bound) (around : List ℕ) → AreGood depth s → HasAll (numbered k ss) (spaces_in s)
    → IsWithin scope (numbered k ss) around → is_fine (spelled (numbered k ss) around s) depth scope ≡ true
spelled-fine k ss blank depth scope around g h w = refl
spelled-fine k ss (letters text rest) depth scope around g h w =
    rw (fine-text text g.0 g.1, after-dark (numbered k ss) around rest g.2) (spelled-fine k ss rest depth scope around g.3 h w)
spelled-fine k ss (mark name attrs kids rest) zero scope around g h w = absurd (let e = g.1 in cc)
spelled-fine k ss (mark name attrs kids rest) (suc depth) scope around g h w =
    let bs = numbered k ss in
    let same : depth ≡ g.0 = (let e = g.1 in cc) in
    let parts = each-parts (λ ns. is_some (prefix_in bs ns) ≡ true) (attr_spaces attrs) (spaces_in kids ++ spaces_in rest) h in
    let more = each-parts (λ ns. is_some (prefix_in bs ns) ≡ true) (spaces_in kids) (spaces_in rest) parts.1 in
    let tag = own-tag scope k ss around name attrs w g.2 g.3 g.4 parts.0 in
    let under = scope_under scope (bound_in around name.ns []) in
    element-fine (ends_short name && is_blank kids) name.local (attrs_in [] bs around name attrs) (spelled bs name.ns kids) (spelled bs around rest) depth scope under tag.fine tag.gives
    (subst (λ d. is_fine (spelled bs name.ns kids) d under ≡ true) (sym same) (spelled-fine k ss kids g.0 under name.ns g.5 more.0 (within-under scope k ss around name.ns w)))
    (spelled-fine k ss rest (suc depth) scope around g.6 more.1 w)

-- and what it means
blank-is : (s : Shown) → is_blank s ≡ true → s ≡ blank
blank-is blank h = refl
blank-is (letters text rest) h = absurd (cc)
blank-is (mark name attrs kids rest) h = absurd (cc)

-- a head says the name and the attributes
pub head-says : (at : ℕ) (scope bs : List Bound) (around : List ℕ) (name : Named) (all : List written.Attribute) (under : List Bound) (attrs : List Valued) → is_ncname name.local ≡ true
    → IsGoodTag scope name.local all under attrs → unwrap_or (namespace_of under []) [] ≡ name.ns
    → ((head_at at scope name.local all).name ≡ name) × ((head_at at scope name.local all).attrs ≡ attrs)
head-says at scope bs around name all under attrs n tag d = (
  ap (λ s. element_name s name.local) tag.gives ∙ named (ncname-colon name.local n),
  ap (λ s. filter_map (valued s) (map read all)) tag.gives ∙ tag.has,
) where
  one-named : (m : Named) → m.ns ≡ name.ns → m.local ≡ name.local → m ≡ name
  one-named m e f = ap (λ x. record { ns = x; local = m.local }) e ∙ ap (λ x. record { ns = name.ns; local = x }) f

  named : has_prefix name.local ≡ false → element_name under name.local ≡ name
  named e = one-named (element_name under name.local) (rw e d) (rw e refl)

element-shown : (b : Bool) (name : List ℕ) (attrs : List written.Attribute) (kids rest : Markup) (at : ℕ) (scope under : List Bound) (n : Named) (a : List Valued) (inner others : Shown)
    → (b ≡ true → inner ≡ blank) → ((head_at at scope name attrs).name ≡ n) × ((head_at at scope name attrs).attrs ≡ a) → scope_in scope name attrs ≡ under
    → ((from : ℕ) → shown_by (nodes_at kids from under) ≡ inner) → ((from : ℕ) → shown_by (nodes_at rest from scope) ≡ others)
    → shown_by (nodes_at (element_by b name attrs kids rest) at scope) ≡ mark n a inner others
element-shown true name attrs kids rest at scope under n a inner others e h u k r =
    ap (λ x. mark x (head_at at scope name attrs).attrs blank (shown_by (nodes_at rest (at + length (leaf_text name attrs)) scope))) h.0
    ∙ ap (λ x. mark n x blank (shown_by (nodes_at rest (at + length (leaf_text name attrs)) scope))) h.1
    ∙ ap (λ x. mark n a x (shown_by (nodes_at rest (at + length (leaf_text name attrs)) scope))) (sym (e refl))
    ∙ ap (mark n a inner) (r (at + length (leaf_text name attrs)))
element-shown false name attrs kids rest at scope under n a inner others e h u k r =
    let own = at + length (start_text name attrs) in
    let far = past kids own + length (close_text name) in
    ap (λ x. mark x (head_at at scope name attrs).attrs (shown_by (nodes_at kids own (scope_in scope name attrs))) (shown_by (nodes_at rest far scope))) h.0
    ∙ ap (λ x. mark n x (shown_by (nodes_at kids own (scope_in scope name attrs))) (shown_by (nodes_at rest far scope))) h.1
    ∙ ap (λ x. mark n a x (shown_by (nodes_at rest far scope))) (ap (λ s. shown_by (nodes_at kids own s)) u ∙ k own)
    ∙ ap (mark n a inner) (r far)

pub short-blank : (name : Named) (kids : Shown) → (ends_short name && is_blank kids) ≡ true → kids ≡ blank
short-blank name kids e = blank-is kids (and_parts (ends_short name) (is_blank kids) e).1

pub spelled-shown : (k : ℕ) (ss : Spaces) (s : Shown) (depth at : ℕ) (scope : List Bound) (around : List ℕ) → AreGood depth s → HasAll (numbered k ss) (spaces_in s)
    → IsWithin scope (numbered k ss) around → shown_by (nodes_at (spelled (numbered k ss) around s) at scope) ≡ s
spelled-shown k ss blank depth at scope around g h w = refl
spelled-shown k ss (letters text rest) depth at scope around g h w = ap (letters text) (spelled-shown k ss rest depth (at + length (te text)) scope around g.3 h w)
spelled-shown k ss (mark name attrs kids rest) depth at scope around g h w =
    let bs = numbered k ss in
    let parts = each-parts (λ ns. is_some (prefix_in bs ns) ≡ true) (attr_spaces attrs) (spaces_in kids ++ spaces_in rest) h in
    let more = each-parts (λ ns. is_some (prefix_in bs ns) ≡ true) (spaces_in kids) (spaces_in rest) parts.1 in
    let tag = own-tag scope k ss around name attrs w g.2 g.3 g.4 parts.0 in
    let under = scope_under scope (bound_in around name.ns []) in
    let inner = within-under scope k ss around name.ns w in
    element-shown (ends_short name && is_blank kids) name.local (attrs_in [] bs around name attrs) (spelled bs name.ns kids) (spelled bs around rest) at scope under name attrs kids rest
    (short-blank name kids) (head-says at scope bs around name (attrs_in [] bs around name attrs) under attrs g.2.local tag inner.default_is) tag.gives
    (λ from. spelled-shown k ss kids g.0 from under name.ns g.5 more.0 inner)
    (λ from. spelled-shown k ss rest depth from scope around g.6 more.1 w)
