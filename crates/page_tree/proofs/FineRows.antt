-- A small piece of markup that is fine, with its tree, and small ones that aren't.
use Rattle.std.proofs.Common.{◌≡◌, ℕ, true, false, List, [], ◌∷◌, length, Some, None, refl, codes}
use lib.Utf8.{encode}
use Rattle.std.specs.Str.{chars, is_utf8}
use Rattle.ix_base.specs.Namespaces.{xml_namespace, xmlns_namespace}
use Rattle.ix_base.specs.NcName.{is_ncname, is_name_start, is_name_char, is_allowed, are_allowed}
use Rattle.ix_base.specs.Scope.{outermost}
use Rattle.ix_base.specs.Trees.{Tree, none, elem}
use Rattle.ix_base.specs.Trees as tree
use Rattle.ix_base.specs.WrittenMarkup.{Attribute, Markup, nothing, words, node, leaf, verbatim, written}
use Rattle.page_tree.specs.FineMarkup.{is_fine, tree_at, first_line, page_with}
use Rattle.page_tree.specs.Page.{page}
use Rattle.page_tree.proofs.WrittenPages.{written-page}

abbrev attr : List ℕ → List ℕ → Attribute
attr name value = record { name = name; value = value }

abbrev small : Markup
small = node (codes "a") (attr (codes "xmlns:p") (codes "u") ∷ attr (codes "p:x") (codes "1") ∷ attr (codes "x") (codes "<") ∷ [])
    (leaf (codes "p:b") [] (words (codes "1 < 2") nothing)) nothing

small-bytes : written small [] ≡ codes "<a xmlns:p=\"u\" p:x=\"1\" x=\"&lt;\"><p:b/>1 &lt; 2</a>"
small-bytes = refl

small-fine : is_fine small 2 outermost ≡ true
unfolding is_ncname is_name_start is_name_char is_allowed are_allowed is_utf8 chars encode xml_namespace xmlns_namespace
small-fine = refl

abbrev small_tree : Tree
small_tree =
    let scope = record { prefix = codes "p"; ns = codes "u" } ∷ outermost in
    record {
      head = record {
        offset = 39;
        name = record { ns = []; local = codes "a" };
        attrs = record { name = record { ns = codes "u"; local = codes "x" }; value = codes "1" }
            ∷ record { name = record { ns = []; local = codes "x" }; value = codes "<" } ∷ [];
        scope = scope;
      };
      children = elem (record { offset = 71; name = record { ns = codes "u"; local = codes "b" }; attrs = []; scope = scope }) none
          (tree.chars (codes "1 < 2") none);
    }

small-tree : tree_at (length first_line) small ≡ Some small_tree
unfolding first_line
small-tree = refl

small-page : page (page_with small) 2 small_tree
small-page = written-page small 2 small_tree small-tree small-fine

-- deeper than it may be
too-deep : is_fine small 1 outermost ≡ false
unfolding is_ncname is_name_start is_name_char is_allowed are_allowed is_utf8 chars encode xml_namespace xmlns_namespace
too-deep = refl

-- a text beside a text, one without a character, and what stands as it is
two-texts : is_fine (node (codes "a") [] (words (codes "x") (words (codes "y") nothing)) nothing) 2 outermost ≡ false
unfolding is_ncname is_name_start is_name_char is_allowed are_allowed is_utf8 chars encode xml_namespace xmlns_namespace
two-texts = refl

no-text : is_fine (node (codes "a") [] (words [] nothing) nothing) 2 outermost ≡ false
unfolding is_ncname is_name_start is_name_char is_allowed are_allowed is_utf8 chars encode xml_namespace xmlns_namespace
no-text = refl

as-it-is : is_fine (node (codes "a") [] (verbatim (codes "x") nothing) nothing) 2 outermost ≡ false
unfolding is_ncname is_name_start is_name_char is_allowed are_allowed is_utf8 chars encode xml_namespace xmlns_namespace
as-it-is = refl

-- a character that isn't allowed
bad-character : is_fine (leaf (codes "a") (attr (codes "x") (1 ∷ []) ∷ []) nothing) 2 outermost ≡ false
unfolding is_ncname is_name_start is_name_char is_allowed are_allowed is_utf8 chars encode xml_namespace xmlns_namespace
bad-character = refl

-- two attributes of one written name, and of one expanded name
one-name-twice : is_fine (leaf (codes "a") (attr (codes "x") (codes "1") ∷ attr (codes "x") (codes "2") ∷ []) nothing) 2 outermost ≡ false
unfolding is_ncname is_name_start is_name_char is_allowed are_allowed is_utf8 chars encode xml_namespace xmlns_namespace
one-name-twice = refl

one-meaning-twice : is_fine (leaf (codes "a") (attr (codes "xmlns:p") (codes "u") ∷ attr (codes "xmlns:q") (codes "u")
    ∷ attr (codes "p:x") (codes "1") ∷ attr (codes "q:x") (codes "2") ∷ []) nothing) 2 outermost ≡ false
unfolding is_ncname is_name_start is_name_char is_allowed are_allowed is_utf8 chars encode xml_namespace xmlns_namespace
one-meaning-twice = refl

-- a prefix that isn't bound
unbound : is_fine (leaf (codes "p:a") [] nothing) 2 outermost ≡ false
unfolding is_ncname is_name_start is_name_char is_allowed are_allowed is_utf8 chars encode xml_namespace xmlns_namespace
unbound = refl

-- a page has one root
two-roots : tree_at (length first_line) (leaf (codes "a") [] (leaf (codes "b") [] nothing)) ≡ None
two-roots = refl
