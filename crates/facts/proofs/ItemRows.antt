-- Small items, and what they say.
use Rattle.std.proofs.Common.{◌≡◌, refl, ℕ, true, false, List, [], ◌∷◌, codes, Some, None, Ok, pos}
use Rattle.std.specs.Str.{chars as chars_of, is_utf8}
use lib.Utf8.{encode}
use Rattle.ix_base.specs.declared.content.Accuracy.TheVariants as accuracy
use Rattle.ix_base.specs.declared.content.OwnName.{OwnName}
use Rattle.ix_base.specs.declared.content.Value.TheVariants as value
use Rattle.ix_base.specs.Asks.{asks}
use Rattle.ix_base.specs.Elements.{placed_at, tree_at}
use Rattle.ix_base.specs.Kinds.{ix_rows}
use Rattle.ix_base.specs.LinkRules.{breaking, found_at}
use Rattle.ix_base.specs.LocatedElements.{Located, on_page}
use Rattle.ix_base.specs.declared.rule.Rule.TheVariants.{L2, L3}
use Rattle.ix_base.specs.Namespaces.{ix_namespace, xbrli_namespace, link_namespace, xsi_namespace}
use Rattle.ix_base.specs.NcName.{is_ncname, is_name_start, is_name_char}
use Rattle.ix_base.specs.Token.{token_of}
use Rattle.ix_base.specs.Trees.{Valued, Bound, Head, Nodes, none, chars, elem, Tree}
use Rattle.facts.specs.Exactness.{accuracy_at, exact_form}
use Rattle.facts.specs.FractionValue.{part_in, part_number}
use Rattle.facts.specs.ItemValue.{IsItem}
use Rattle.facts.specs.NumberValue.{number_at, number_text}

abbrev scope : List Bound
scope = record { prefix = codes "e"; ns = codes "http://example.com/e" } ∷ []

abbrev head : ℕ → List ℕ → List Valued → Head
head offset local attrs = record { offset = offset; name = record { ns = ix_namespace; local = local }; attrs = attrs; scope = scope }

abbrev attribute : List ℕ → List ℕ → Valued
attribute local value = record { name = record { ns = []; local = local }; value = value }

abbrev nil : Valued
nil = record { name = record { ns = xsi_namespace; local = codes "nil" }; value = codes "true" }

abbrev at : ℕ → Tree → Located
at page t = on_page page (placed_at t [])

abbrev no_bases : Located → List ℕ
no_bases e = []

abbrev name_of : List ℕ → OwnName
name_of local = record { ns = codes "http://example.com/e"; local = local }

-- How exact numbers are.

row_front_zeros : exact_form (codes " +007 ") ≡ codes "7"
unfolding token_of
row_front_zeros = refl

row_minus_zero : exact_form (codes "-00") ≡ codes "0"
unfolding token_of
row_minus_zero = refl

row_minus_six : exact_form (codes "-06") ≡ codes "-6"
unfolding token_of
row_minus_six = refl

row_infinite : exact_form (codes "INF") ≡ codes "INF"
unfolding token_of
row_infinite = refl

-- An item that is nil: its decimals, scale and format are dropped.

abbrev debt : Tree
debt = tree_at (head 90 (codes "nonFraction") (attribute (codes "contextRef") (codes "c1") ∷ attribute (codes "unitRef") (codes "u1")
    ∷ attribute (codes "name") (codes "e:Debt") ∷ attribute (codes "decimals") (codes "-6") ∷ attribute (codes "scale") (codes "6")
    ∷ attribute (codes "id") (codes "f-3") ∷ nil ∷ [])) (chars (codes "-") none)

row_nil : IsItem no_bases (asks []) (at 0 debt) (Ok (record {
  name = name_of (codes "Debt");
  context = codes "c1";
  unit = Some (codes "u1");
  accuracy = None;
  id = Some (codes "f-3");
  value = value.Nil;
}))
unfolding token_of ix_namespace xsi_namespace is_ncname is_name_start is_name_char chars_of is_utf8 encode ix_rows
row_nil = (refl, refl)

-- A chain over two pages, with an exclude.

abbrev note : Tree
note = tree_at (head 90 (codes "nonNumeric") (attribute (codes "name") (codes "e:Note") ∷ attribute (codes "contextRef") (codes "c1")
    ∷ attribute (codes "id") (codes "t1") ∷ attribute (codes "continuedAt") (codes "k1") ∷ [])) (chars (codes "One ") none)

abbrev last : Tree
last = tree_at (head 50 (codes "continuation") (attribute (codes "id") (codes "k2") ∷ [])) (chars (codes "three.") none)

abbrev middle : Tree
middle = tree_at (head 50 (codes "continuation") (attribute (codes "id") (codes "k1") ∷ attribute (codes "continuedAt") (codes "k2") ∷ []))
    (chars (codes "two") (elem (head 70 (codes "exclude") []) (chars (codes " page 3") none) (chars (codes ", ") none)))

row_chain : IsItem no_bases (asks (at 0 note ∷ at 1 last ∷ at 2 middle ∷ [])) (at 0 note) (Ok (record {
  name = name_of (codes "Note");
  context = codes "c1";
  unit = None;
  accuracy = None;
  id = Some (codes "t1");
  value = value.Plain (codes "One two, three.");
}))
unfolding token_of ix_namespace xsi_namespace is_ncname is_name_start is_name_char chars_of is_utf8 encode
    ix_rows link_namespace xbrli_namespace
row_chain = (refl, refl)

-- Neither the context nor the unit is there; a nonNumeric has no unit.

row_links : breaking L2 (at 0 debt ∷ at 1 note ∷ []) ≡ found_at (at 0 debt) L2 ∷ found_at (at 1 note) L2 ∷ []
unfolding token_of ix_namespace xsi_namespace ix_rows link_namespace xbrli_namespace
row_links = refl

row_units : breaking L3 (at 0 debt ∷ at 1 note ∷ []) ≡ found_at (at 0 debt) L3 ∷ []
unfolding token_of ix_namespace xsi_namespace ix_rows link_namespace xbrli_namespace
row_units = refl

-- A number in a number, beside white space.

abbrev inner : Head
inner = head 95 (codes "nonFraction") (attribute (codes "decimals") (codes "0") ∷ [])

row_nested : number_text (chars (codes " ") (elem inner (chars (codes "5") none) none)) ≡ codes "5"
unfolding ix_namespace
row_nested = refl

-- The parts of a fraction, one of them within an element of another namespace.

abbrev third : Nodes
third = elem (head 60 (codes "denominator") []) (chars (codes "3") none)
    (elem (record { offset = 70; name = record { ns = []; local = codes "b" }; attrs = []; scope = scope })
    (elem (head 75 (codes "numerator") (attribute (codes "sign") (codes "-") ∷ attribute (codes "scale") (codes "+2") ∷ []))
    (chars (codes "1") none) none) none)

row_numerator : part_number (part_in (codes "numerator") third) ≡ number_at None (pos 2) true (codes "1")
unfolding ix_namespace token_of xsi_namespace
row_numerator = refl

row_denominator : part_number (part_in (codes "denominator") third) ≡ number_at None (pos 0) false (codes "3")
unfolding ix_namespace token_of xsi_namespace
row_denominator = refl

row_accuracy : accuracy_at (tree_at inner none) ≡ Some (accuracy.Decimals (codes "0"))
unfolding token_of
row_accuracy = refl
