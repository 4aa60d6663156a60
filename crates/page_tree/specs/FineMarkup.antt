-- What markup means on a page, and what it must keep so that its bytes are read so.
use Rattle.std.specs.Prelude.{◌≡◌, ◌⊎◌, ℕ, zero, suc, ◌+◌, ◌||◌, map, bytes_eq, Bool, true, false, ◌&&◌, not, List, [], ◌∷◌, ◌++◌, length, Option, Some, None, is_some, if◌then◌else◌, codes}
use Rattle.std.specs.List.{list_all, list_any}
use Rattle.ix_base.specs.Escapes.{te}
use Rattle.ix_base.specs.NcName.{lies, is_ncname, are_allowed}
use Rattle.ix_base.specs.Scope.{is_qname, outermost, has_prefix, prefix_of, local_of, namespace_of}
use Rattle.ix_base.specs.Trees.{Bound, Head, Nodes, none, chars, elem, Tree}
use Rattle.ix_base.specs.WrittenMarkup as written
use Rattle.ix_base.specs.WrittenMarkup.{Markup, nothing, words, node, leaf, verbatim, start_text, leaf_text, close_text}
use Rattle.page_tree.specs.Spellings.{tag_at}
use Rattle.page_tree.specs.Tags.{head_of, is_fair, scope_of, is_unbound, is_bad}

-- where markup ends that begins at this offset
abbrev pub past : Markup → ℕ → ℕ
past nothing at = at
past (words text rest) at = past rest (at + length (te text))
past (node name attrs kids rest) at = past rest (past kids (at + length (start_text name attrs)) + length (close_text name))
past (leaf name attrs rest) at = past rest (at + length (leaf_text name attrs))
past (verbatim bytes rest) at = past rest (at + length bytes)

-- the head of an element that is written at this offset, in the scope of its parent
abbrev pub head_at : ℕ → List Bound → List ℕ → List written.Attribute → Head
head_at at scope name attrs = head_of scope (tag_at at name attrs)

-- the scope of its element
abbrev pub scope_in : List Bound → List ℕ → List written.Attribute → List Bound
scope_in scope name attrs = scope_of scope (tag_at 0 name attrs)

-- the nodes that markup means, from this offset on and in this scope; what stands as it is means none
abbrev pub nodes_at : Markup → ℕ → List Bound → Nodes
nodes_at nothing at scope = none
nodes_at (words text rest) at scope = chars text (nodes_at rest (at + length (te text)) scope)
nodes_at (node name attrs kids rest) at scope =
    elem (head_at at scope name attrs) (nodes_at kids (at + length (start_text name attrs)) (scope_in scope name attrs))
    (nodes_at rest (past kids (at + length (start_text name attrs)) + length (close_text name)) scope)
nodes_at (leaf name attrs rest) at scope = elem (head_at at scope name attrs) none (nodes_at rest (at + length (leaf_text name attrs)) scope)
nodes_at (verbatim bytes rest) at scope = nodes_at rest (at + length bytes) scope

-- it begins with a text, or with what stands as it is
abbrev pub begins_dark : Markup → Bool
begins_dark nothing = false
begins_dark (words text rest) = true
begins_dark (node name attrs kids rest) = false
begins_dark (leaf name attrs rest) = false
begins_dark (verbatim bytes rest) = true

-- a text is there, and all its characters are allowed ones
abbrev pub is_fine_text : List ℕ → Bool
is_fine_text [] = false
is_fine_text (c ∷ cs) = are_allowed (c ∷ cs)

-- a qualified name, and a value of allowed characters
abbrev pub is_fine_attribute : written.Attribute → Bool
is_fine_attribute a = is_qname a.name && are_allowed a.value

-- qualified names, allowed values, and no break of the rules on attributes and namespaces
abbrev pub is_fine_tag : List Bound → List ℕ → List written.Attribute → Bool
is_fine_tag scope name attrs = is_qname name && (list_all is_fine_attribute attrs && is_fair scope (tag_at 0 name attrs))

-- markup that is read as the nodes that it means, at most so deep and in this scope
abbrev pub is_fine : Markup → ℕ → List Bound → Bool
is_fine nothing depth scope = true
is_fine (words text rest) depth scope = is_fine_text text && (not (begins_dark rest) && is_fine rest depth scope)
is_fine (node name attrs kids rest) zero scope = false
is_fine (node name attrs kids rest) (suc below) scope =
    is_fine_tag scope name attrs && (is_fine kids below (scope_in scope name attrs) && is_fine rest (suc below) scope)
is_fine (leaf name attrs rest) zero scope = false
is_fine (leaf name attrs rest) (suc below) scope = is_fine_tag scope name attrs && is_fine rest (suc below) scope
is_fine (verbatim bytes rest) depth scope = false

-- the tree of a page whose root is written at this offset: an element, and nothing before it or behind
abbrev pub tree_at : ℕ → Markup → Option Tree
tree_at at (node name attrs kids nothing) =
    Some (record { head = head_at at outermost name attrs; children = nodes_at kids (at + length (start_text name attrs)) (scope_in outermost name attrs) })
tree_at at (leaf name attrs nothing) = Some (record { head = head_at at outermost name attrs; children = none })
tree_at at m = None

-- the first line of a page in UTF-8
unfoldable pub first_line : List ℕ
first_line = codes "<?xml version=\"1.0\" encoding=\"UTF-8\"?>\n"

-- a page that has this root, behind a first line and before a line feed
abbrev pub page_with : Markup → List ℕ
page_with m = first_line ++ written.written m (10 ∷ [])

-- Names of attributes that declare nothing, no two with one local name: whatever the scope, they keep the rules on
-- attributes.
abbrev pub are_plain : List (List ℕ) → Bool
are_plain [] = true
are_plain (n ∷ ns) =
    not (bytes_eq n (codes "xmlns") || bytes_eq (prefix_of n) (codes "xmlns"))
    && (not (list_any (λ m. bytes_eq (local_of n) (local_of m)) ns) && are_plain ns)

abbrev pub names_of : List written.Attribute → List (List ℕ)
names_of attrs = map (λ a. a.name) attrs

-- A tag without declarations that is fine in this scope, and has it.
pub record IsPlainTag (scope : List Bound) (name : List ℕ) (attrs : List written.Attribute) : Type 0 where
  pub named : is_qname name ≡ true
  pub attributes : list_all is_fine_attribute attrs ≡ true
  pub plain : are_plain (names_of attrs) ≡ true
  pub bound : list_any (is_unbound scope) (name ∷ names_of attrs) ≡ false

-- the attribute that declares a prefix
abbrev pub declaring : Bound → written.Attribute
declaring b = record { name = codes "xmlns:" ++ b.prefix; value = b.ns }

-- a prefix may be bound so
abbrev pub is_fine_binding : Bound → Bool
is_fine_binding b = is_ncname b.prefix && (are_allowed b.ns && not (is_bad b))

-- no two bindings are of one prefix
abbrev pub are_apart : List Bound → Bool
are_apart [] = true
are_apart (b ∷ bs) = not (list_any (λ x. bytes_eq b.prefix x.prefix) bs) && are_apart bs

-- an ASCII letter, and letters and digits
abbrev pub is_letter : ℕ → Bool
is_letter c = lies 65 90 c || lies 97 122 c

abbrev pub is_simple : List ℕ → Bool
is_simple [] = false
is_simple (c ∷ cs) = is_letter c && list_all (λ x. is_letter x || lies 48 57 x) cs

-- the name is of such letters and digits, and it has no prefix or one of these
abbrev pub is_simple_name : List (List ℕ) → List ℕ → Bool
is_simple_name prefixes n =
    if has_prefix n then is_simple (prefix_of n) && (is_simple (local_of n) && list_any (bytes_eq (prefix_of n)) prefixes) else is_simple n

-- all of these prefixes are bound
abbrev pub are_bound : List Bound → List (List ℕ) → Bool
are_bound scope prefixes = list_all (λ p. is_some (namespace_of scope p)) prefixes

-- names of this form that declare nothing, no two with one local name; it computes, whatever the values are
abbrev pub are_simple_names : List (List ℕ) → List (List ℕ) → Bool
are_simple_names prefixes names = list_all (is_simple_name prefixes) names && are_plain names

-- all of the values are allowed ones
abbrev pub are_allowed_values : List written.Attribute → Bool
are_allowed_values attrs = list_all (λ a. are_allowed a.value) attrs

-- The same as records: a proof finds the markup, the limit, the scope and the attributes from what it is to show.
pub record IsFine (m : Markup) (depth : ℕ) (scope : List Bound) : Type 0 where
  pub is : is_fine m depth scope ≡ true

pub record HasValues (attrs : List written.Attribute) : Type 0 where
  pub are : are_allowed_values attrs ≡ true

-- the attribute that declares the default namespace, or takes it away
abbrev pub default_of : List ℕ → written.Attribute
default_of ns = record { name = codes "xmlns"; value = ns }

-- a name without a prefix that declares nothing, or one with the prefix xml
abbrev pub IsBodyName : List ℕ → Type 0
IsBodyName n = ((is_ncname n ≡ true) × (bytes_eq n (codes "xmlns") ≡ false)) ⊎ ((local : List ℕ) × (n ≡ codes "xml:" ++ local) × (is_ncname local ≡ true))

-- attributes with such names, each once
abbrev pub AreBodyAttributes : List written.Attribute → Type 0
AreBodyAttributes [] = Unit {0}
AreBodyAttributes (a ∷ more) =
    IsBodyName a.name × (are_allowed a.value ≡ true) × (list_any (λ b. bytes_eq a.name b.name) more ≡ false) × AreBodyAttributes more
