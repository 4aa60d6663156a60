-- A fact without an odd attribute breaks no rule on attributes.
use Rattle.std.proofs.Common.{◌≡◌, ℕ, Bool, true, false, not, ◌&&◌, ◌||◌, List, [], ◌∷◌, ◌++◌, Option, Some, None, if◌then◌else◌, refl, sym, ap, ◌∙◌, bytes_eq, codes, is_some, option_map}
use Rattle.std.specs.List.{list_any}
use Rattle.std.specs.Option.{option_map_or}
use Rattle.std.proofs.lemmas.Bool.{and_from, and_parts, and_right, or_from, or_left, or_parts, or_right, false≢true, not_from_true}
use Rattle.std.proofs.lemmas.Slice.Eq.{bytes_eq-Decides}
use Rattle.ix_base.specs.declared.kind.Kind.{Kind}
use Rattle.ix_base.specs.declared.kind.Kind.TheVariants as kind
use Rattle.ix_base.specs.declared.place.Place.{Place}
use Rattle.ix_base.specs.declared.rule.Rule.{Rule}
use Rattle.ix_base.specs.Attributes.{is_named, value_of}
use Rattle.ix_base.specs.ElementContent.{element_alone, elements_in, named_in}
use Rattle.ix_base.specs.ElementRules as grammar
use Rattle.ix_base.specs.ElementRules.{breaks_as, element_rules, found, qname_tokens, is_reserved}
use Rattle.ix_base.specs.Elements.{Placed}
use Rattle.ix_base.specs.Forms.{is_empty, is_boolean}
use Rattle.ix_base.specs.Kinds.{is_inline, is_fact, kind_of}
use Rattle.ix_base.specs.Namespaces.{ix_namespace, xsi_namespace}
use Rattle.ix_base.specs.Readers.{attr, is_nil, nil_attr, name_at}
use Rattle.ix_base.specs.Rows.{row}
use Rattle.ix_base.specs.Steps.{◌>>=◌}
use Rattle.ix_base.specs.Token.{token_of}
use Rattle.ix_base.specs.ValueNames.{name_of}
use Rattle.ix_base.specs.Trees.{Bound, Nodes, none, chars, elem, Valued, Tree}
use Rattle.value_forms.specs.FormTests.{has}
use Rattle.ix_grammar.specs.Additions.{found_as}
use Rattle.ix_grammar.specs.NeededForms.{needed_form, is_ill_formed, has_ill_formed, is_ill}
use Rattle.ix_grammar.specs.SoundFacts.{is_unbound_in, is_reserved_in, is_misnamed, is_odd_as, is_odd, has_odd}
use Rattle.ix_grammar.specs.StrayAttributes.{may_have_named}
use Rattle.ix_grammar.proofs.FormLaws.{no_space, un-ill, names_ill, boolean_ill, scale_ill, sign_ill, order_ill, roles_ill, accuracy_ill}
use Rattle.ix_grammar.proofs.FoundLaws.{found-is}

-- a test that implies one that fails
fails : (p q : Bool) → (p ≡ true → q ≡ true) → q ≡ false → p ≡ false
fails true q h e = absurd (false≢true (sym e ∙ h refl))
fails false q h e = refl

none-passes : {X : Type 0} (p q : X → Bool) → ((x : X) → p x ≡ true → q x ≡ true) → (xs : List X) → list_any q xs ≡ false → list_any p xs ≡ false
none-passes p q h [] e = refl
none-passes p q h (x ∷ xs) e =
    let parts = or_parts (q x) (list_any q xs) e in
    or_from (p x) (list_any p xs) (fails (p x) (q x) (h x) parts.0) (none-passes p q h xs parts.1)

-- a test of the value of an attribute, where a test of that attribute follows from it
value-fails : (attrs : List Valued) (ns local : List ℕ) (bad : List ℕ → Bool) (q : Valued → Bool)
    → ((a : Valued) → is_named a ns local ≡ true → bad a.value ≡ true → q a ≡ true)
    → list_any q attrs ≡ false → option_map_or bad (value_of attrs ns local) false ≡ false
value-fails [] ns local bad q h e = refl
value-fails (a ∷ more) ns local bad q h e =
    let parts = or_parts (q a) (list_any q more) e in
    (elim (is_named a ns local) as (λ b. is_named a ns local ≡ b → option_map_or bad (if b then Some a.value else value_of more ns local) false ≡ false) [
      | true ↦ λ n. fails (bad a.value) (q a) (h a n) parts.0
      | false ↦ λ n. value-fails more ns local bad q h parts.1
    ]) refl

-- no attribute has the name
no-value : (o : Option (List ℕ)) → option_map_or (λ v. true) o false ≡ false → o ≡ None
no-value None e = refl
no-value (Some v) e = absurd (false≢true (sym e))

-- the tests that odd attributes pass

plainly : (b p x z : Bool) → (p ≡ true → x ≡ true) → (b && p) ≡ true → (if b then x else z) ≡ true
plainly true p x z h e = h e
plainly false p x z h e = absurd (false≢true e)

at_name : (k : Kind) (scope : List Bound) (a : Valued) (local : List ℕ) → is_named a [] local ≡ true
    → (bytes_eq a.name.local local ≡ true → is_odd_as k scope a.name.local a.value ≡ true) → is_odd k scope a ≡ true
at_name k scope a local n h =
    let parts = and_parts (bytes_eq a.name.ns []) (bytes_eq a.name.local local) n in
    plainly (is_empty a.name.ns) true _ _ (λ t. h parts.1) (and_from (is_empty a.name.ns) true (no_space a.name.ns parts.0) refl)

abbrev ill_as : List ℕ → List ℕ → Bool
ill_as local value = option_map_or (λ f. not (has f value)) (needed_form local) false

abbrev stray_as : Kind → List ℕ → Bool
stray_as k local = not (may_have_named k local)

abbrev rare : List ℕ → Bool
rare local = bytes_eq local (codes "precision")

odd-stray : (k : Kind) (scope : List Bound) (local value : List ℕ) → stray_as k local ≡ true → is_odd_as k scope local value ≡ true
odd-stray k scope local value h =
    or_left (stray_as k local || ill_as local value || is_misnamed scope local value) (rare local)
    (or_left (stray_as k local || ill_as local value) (is_misnamed scope local value) (or_left (stray_as k local) (ill_as local value) h))

odd-ill : (k : Kind) (scope : List Bound) (local value : List ℕ) → ill_as local value ≡ true → is_odd_as k scope local value ≡ true
odd-ill k scope local value h =
    or_left (stray_as k local || ill_as local value || is_misnamed scope local value) (rare local)
    (or_left (stray_as k local || ill_as local value) (is_misnamed scope local value) (or_right (stray_as k local) (ill_as local value) h))

odd-misnamed : (k : Kind) (scope : List Bound) (local value : List ℕ) → is_misnamed scope local value ≡ true → is_odd_as k scope local value ≡ true
odd-misnamed k scope local value h =
    or_left (stray_as k local || ill_as local value || is_misnamed scope local value) (rare local)
    (or_right (stray_as k local || ill_as local value) (is_misnamed scope local value) h)

odd-rare : (k : Kind) (scope : List Bound) (local value : List ℕ) → rare local ≡ true → is_odd_as k scope local value ≡ true
odd-rare k scope local value h = or_right (stray_as k local || ill_as local value || is_misnamed scope local value) (rare local) h

stray-none : (k : Kind) (t : Tree) → has_odd k t ≡ false → list_any (grammar.is_stray k) t.head.attrs ≡ false
stray-none k t = none-passes (grammar.is_stray k) (is_odd k t.head.scope)
    (λ a. plainly (is_empty a.name.ns) (stray_as k a.name.local) (is_odd_as k t.head.scope a.name.local a.value) (bytes_eq a.name.local (codes "nil") && not (is_boolean a.value))
    (odd-stray k t.head.scope a.name.local a.value)) t.head.attrs

ill-none : (k : Kind) (t : Tree) → has_odd k t ≡ false → has_ill_formed t ≡ false
ill-none k t = none-passes is_ill_formed (is_odd k t.head.scope)
    (λ a. plainly (is_empty a.name.ns) (ill_as a.name.local a.value) (is_odd_as k t.head.scope a.name.local a.value) (bytes_eq a.name.local (codes "nil") && not (is_boolean a.value))
    (odd-ill k t.head.scope a.name.local a.value)) t.head.attrs

abbrev bad_name : List Bound → List ℕ → Bool
bad_name scope value = is_unbound_in scope value || is_reserved_in scope value

name-odd : (k : Kind) (scope : List Bound) (a : Valued) → is_named a [] (codes "name") ≡ true → bad_name scope a.value ≡ true → is_odd k scope a ≡ true
name-odd k scope a n h =
    at_name k scope a (codes "name") n (λ e. odd-misnamed k scope a.name.local a.value
    (or_left (bytes_eq a.name.local (codes "name") && bad_name scope a.value) (bytes_eq a.name.local (codes "format") && is_unbound_in scope a.value)
    (and_from (bytes_eq a.name.local (codes "name")) (bad_name scope a.value) e h)))

format-odd : (k : Kind) (scope : List Bound) (a : Valued) → is_named a [] (codes "format") ≡ true → is_unbound_in scope a.value ≡ true → is_odd k scope a ≡ true
format-odd k scope a n h =
    at_name k scope a (codes "format") n (λ e. odd-misnamed k scope a.name.local a.value
    (or_right (bytes_eq a.name.local (codes "name") && bad_name scope a.value) (bytes_eq a.name.local (codes "format") && is_unbound_in scope a.value)
    (and_from (bytes_eq a.name.local (codes "format")) (is_unbound_in scope a.value) e h)))

spaces-none : (k : Kind) (t : Tree) → has_odd k t ≡ false → list_any (grammar.lacks_space t) qname_tokens ≡ false
unfolding qname_tokens
spaces-none k t e =
    or_from (grammar.lacks_space t (codes "name")) (grammar.lacks_space t (codes "format") || false)
    (value-fails t.head.attrs [] (codes "name") (is_unbound_in t.head.scope) (is_odd k t.head.scope) (λ a n h. name-odd k t.head.scope a n (or_left (is_unbound_in t.head.scope a.value) (is_reserved_in t.head.scope a.value) h)) e)
    (or_from (grammar.lacks_space t (codes "format")) false
    (value-fails t.head.attrs [] (codes "format") (is_unbound_in t.head.scope) (is_odd k t.head.scope) (format-odd k t.head.scope) e) refl)

reserved-none : (k : Kind) (t : Tree) → has_odd k t ≡ false → option_map_or is_reserved (name_at (codes "name") t) false ≡ false
reserved-none k t e =
    by_value (attr (codes "name") t)
    (value-fails t.head.attrs [] (codes "name") (is_reserved_in t.head.scope) (is_odd k t.head.scope) (λ a n h. name-odd k t.head.scope a n (or_right (is_unbound_in t.head.scope a.value) (is_reserved_in t.head.scope a.value) h)) e) where
      by_value : (o : Option (List ℕ)) → option_map_or (is_reserved_in t.head.scope) o false ≡ false
          → option_map_or is_reserved (option_map token_of o >>= λ n. name_of t.head.scope n) false ≡ false
      by_value None h = refl
      by_value (Some v) h = h

precision-none : (k : Kind) (t : Tree) → has_odd k t ≡ false → attr (codes "precision") t ≡ None
precision-none k t e = no-value (attr (codes "precision") t)
    (value-fails t.head.attrs [] (codes "precision") (λ v. true) (is_odd k t.head.scope)
    (λ a n h. at_name k t.head.scope a (codes "precision") n (odd-rare k t.head.scope a.name.local a.value)) e)

nil-odd : (k : Kind) (scope : List Bound) (a : Valued) → is_named a xsi_namespace (codes "nil") ≡ true → not (is_boolean a.value) ≡ true → is_odd k scope a ≡ true
unfolding xsi_namespace
nil-odd k scope a n h =
    let parts = and_parts (bytes_eq a.name.ns xsi_namespace) (bytes_eq a.name.local (codes "nil")) n in
    ap (λ b. if b then is_odd_as k scope a.name.local a.value else bytes_eq a.name.local (codes "nil") && not (is_boolean a.value))
    (ap is_empty ((bytes_eq-Decides a.name.ns xsi_namespace).0 parts.0))
    ∙ and_from (bytes_eq a.name.local (codes "nil")) (not (is_boolean a.value)) parts.1 h

nil-none : (k : Kind) (t : Tree) → has_odd k t ≡ false → option_map_or (λ value. not (is_boolean value)) (nil_attr t) false ≡ false
nil-none k t e =
    value-fails t.head.attrs xsi_namespace (codes "nil") (λ value. not (is_boolean value)) (is_odd k t.head.scope) (nil-odd k t.head.scope) e

-- The rules on attributes.

unill : (k : Kind) (t : Tree) (bad due : Bool) → has_odd k t ≡ false → (is_ill k t && bad) ≡ due → due ≡ false
unill k t bad due e h = sym (un-ill false (is_ill k t) bad due refl (sym (and_right (is_inline k) (has_ill_formed t) (ill-none k t e))) h)

none-both : (a b c : Bool) → (a && b) ≡ false → c ≡ false → (a && (b || c)) ≡ false
none-both true b c e h = or_from b c e h
none-both false b c e h = refl

accuracy-none : (k : Kind) (t : Tree) → has_odd k t ≡ false → grammar.lacks_accuracy k t ≡ false → grammar.breaks_accuracy k t ≡ false
accuracy-none k t e h =
    or_from _ (grammar.lacks_accuracy k t)
    (none-both (is_inline k) _ (is_some (attr (codes "decimals") t) && is_some (attr (codes "precision") t))
    (unill k t _ _ e (accuracy_ill k t))
    (and_right (is_some (attr (codes "decimals") t)) _ (ap (λ o. is_some o) (precision-none k t e)))) h

booleans-none : (k : Kind) (t : Tree) → has_odd k t ≡ false → grammar.breaks_booleans k t ≡ false
booleans-none k t e =
    or_from _ (is_fact k && option_map_or (λ value. not (is_boolean value)) (nil_attr t) false) (unill k t _ _ e (boolean_ill k t))
    (and_right (is_fact k) _ (nil-none k t e))

breaks_spaces-none : (k : Kind) (t : Tree) → has_odd k t ≡ false → grammar.breaks_spaces k t ≡ false
breaks_spaces-none k t e =
    or_from _ _ (and_right (is_inline k) _ (spaces-none k t e)) (and_right (is_fact k) _ (reserved-none k t e))

-- nodes without elements

pub unnamed : (ns local : List ℕ) (nodes : Nodes) → is_empty (elements_in nodes) ≡ true → named_in ns local nodes ≡ []
unnamed ns local none e = refl
unnamed ns local (chars text rest) e = unnamed ns local rest e
unnamed ns local (elem head children rest) e = absurd (false≢true e)

holds : (nodes : Nodes) → is_empty (elements_in nodes) ≡ true → grammar.holds_number nodes ≡ true
holds nodes e = or_left (is_empty (elements_in nodes)) (option_map_or (λ t. grammar.is_number t && not (is_nil t)) (element_alone nodes) false) e

-- What breaks none of some rules, breaks nothing.

abbrev pub BreaksNone : Kind → Placed → List Rule → Type 0
BreaksNone k e [] = Unit {0}
BreaksNone k e (r ∷ rules) = (breaks_as k e r ≡ false) × BreaksNone k e rules

none-as : (k : Kind) (place : Place) (e : Placed) (rules : List Rule) → BreaksNone k e rules → found_as rules k place e ≡ []
none-as k place e [] h = refl
none-as k place e (r ∷ rules) h =
    ap (λ b. row b (record { place = place; rule = r }) ++ found_as rules k place e) h.0 ∙ none-as k place e rules h.1

none-found : (k : Kind) (e : Placed) (place : Place) → k ≡ kind_of e → BreaksNone k e element_rules → found place e ≡ []
none-found k e place is h = sym (found-is element_rules k place e refl is) ∙ none-as k place e element_rules h

both-none : (k : Kind) (e : Placed) (rules more : List Rule) → BreaksNone k e rules → BreaksNone k e more → BreaksNone k e (rules ++ more)
both-none k e [] more h g = g
both-none k e (r ∷ rules) more h g = (h.0, both-none k e rules more h.1 g)

-- one rule and the rest
infixr 5 ◌then◌
◌then◌ : {A B : Type 0} → A → B → A × B
a then b = (a, b)

attributes-none : (k : Kind) (e : Placed) → is_inline k ≡ true → has_odd k e.tree ≡ false → grammar.breaks_required k e.tree ≡ false
    → grammar.lacks_accuracy k e.tree ≡ false → BreaksNone k e grammar.attribute_rules
attributes-none k e inline odd required accuracy =
    let t = e.tree in
    and_right _ _ (not_from_true (is_inline k) inline) then required then and_right _ _ (stray-none k t odd) then unill k t _ _ odd (names_ill k t)
    then breaks_spaces-none k t odd then booleans-none k t odd then unill k t _ _ odd (scale_ill k t) then unill k t _ _ odd (sign_ill k t)
    then accuracy-none k t odd accuracy then unill k t _ _ odd (order_ill k t) then unill k t _ _ odd (roles_ill k t) then tt

pub number_sound : (e : Placed) (place : Place) → kind.NonFraction ≡ kind_of e → has_odd kind.NonFraction e.tree ≡ false
    → grammar.breaks_required kind.NonFraction e.tree ≡ false → grammar.lacks_accuracy kind.NonFraction e.tree ≡ false
    → grammar.breaks_place kind.NonFraction e.above ≡ false → is_empty (elements_in e.tree.children) ≡ true → found place e ≡ []
number_sound e place is odd required accuracy stands alone =
    let nodes = e.tree.children in
    none-found kind.NonFraction e place is
    (both-none kind.NonFraction e grammar.attribute_rules (grammar.place_rules ++ grammar.content_rules) (attributes-none kind.NonFraction e refl odd required accuracy)
    (stands then refl then refl then and_right _ _ (not_from_true (grammar.holds_number nodes) (holds nodes alone))
    then and_right _ _ (ap (λ l. list_any (grammar.differ e.tree) l) (unnamed ix_namespace (codes "nonFraction") nodes alone))
    then refl then refl then refl then refl then refl then refl then tt))

pub text_sound : (e : Placed) (place : Place) → kind.NonNumeric ≡ kind_of e → has_odd kind.NonNumeric e.tree ≡ false
    → grammar.breaks_required kind.NonNumeric e.tree ≡ false → grammar.breaks_place kind.NonNumeric e.above ≡ false → found place e ≡ []
text_sound e place is odd required stands =
    none-found kind.NonNumeric e place is
    (both-none kind.NonNumeric e grammar.attribute_rules (grammar.place_rules ++ grammar.content_rules) (attributes-none kind.NonNumeric e refl odd required refl)
    (stands then refl then refl then refl then refl then refl then refl then refl then refl then refl then refl then tt))
