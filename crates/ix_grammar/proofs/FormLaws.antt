-- An attribute that isn't of the form that a rule asks of it isn't of the form that its name needs.
use Rattle.std.proofs.Common.{◌≡◌, ℕ, Bool, true, false, not, ◌&&◌, ◌||◌, List, [], ◌∷◌, Option, Some, if◌then◌else◌, refl, sym, ap, ◌∙◌, bytes_eq, codes}
use Rattle.std.specs.List.{list_any}
use Rattle.std.specs.Option.{option_map_or}
use Rattle.std.proofs.lemmas.Bool.{and_from, and_left, and_parts, and_right, or_left, or_right, false≢true}
use Rattle.std.proofs.lemmas.Slice.Eq.{bytes_eq-Decides}
use Rattle.ix_base.specs.declared.kind.Kind.{Kind}
use Rattle.ix_base.specs.Attributes.{is_named, value_of}
use Rattle.ix_base.specs.ElementRules.{lacks, name_tokens, qname_tokens, name_lists, roles}
use Rattle.ix_base.specs.Forms.{is_empty, is_name_token, is_qname_token, are_names, is_boolean, is_scale, is_sign, is_decimals, is_precision, is_order, is_some_token}
use Rattle.ix_base.specs.Kinds.{is_inline}
use Rattle.ix_base.specs.Trees.{Valued, Tree}
use Rattle.value_forms.specs.FormTests.{has}
use Rattle.value_forms.specs.declared.forms.Form.{Form}
use Rattle.value_forms.specs.declared.forms.Form.TheVariants as form
use Rattle.ix_grammar.specs.NeededForms.{form_rows, needed_form, is_ill_formed, has_ill_formed, is_ill}

abbrev isn't : Form → Option (List ℕ) → Bool
isn't f v = option_map_or (λ value. not (has f value)) v false

pub no_space : (ns : List ℕ) → bytes_eq ns [] ≡ true → is_empty ns ≡ true
no_space [] e = refl
no_space (c ∷ ns) e = e

-- the attribute of a name that isn't of its form
here : (a : Valued) (local : List ℕ) (f : Form) → needed_form local ≡ Some f → is_named a [] local ≡ true → not (has f a.value) ≡ true → is_ill_formed a ≡ true
here a local f n e h =
    let parts = and_parts (bytes_eq a.name.ns []) (bytes_eq a.name.local local) e in
    let is : a.name.local ≡ local = (bytes_eq-Decides a.name.local local).0 parts.1 in
    and_from (is_empty a.name.ns) _ (no_space a.name.ns parts.0)
    (ap (λ l. option_map_or (λ f. not (has f a.value)) (needed_form l) false) is ∙ ap (λ o. option_map_or (λ f. not (has f a.value)) o false) n ∙ h)

value-ill : (attrs : List Valued) (local : List ℕ) (f : Form) → needed_form local ≡ Some f → isn't f (value_of attrs [] local) ≡ true → list_any is_ill_formed attrs ≡ true
value-ill [] local f n h = h
value-ill (a ∷ more) local f n h =
    (elim (is_named a [] local) as (λ b. is_named a [] local ≡ b → list_any is_ill_formed (a ∷ more) ≡ true) [
      | true ↦ λ e. or_left (is_ill_formed a) (list_any is_ill_formed more)
          (here a local f n e (sym (ap (λ b. isn't f (if b then Some a.value else value_of more [] local)) e) ∙ h))
      | false ↦ λ e. or_right (is_ill_formed a) (list_any is_ill_formed more)
          (value-ill more local f n (sym (ap (λ b. isn't f (if b then Some a.value else value_of more [] local)) e) ∙ h))
    ]) refl

-- an element that lacks a form at a name has an attribute that isn't of its form
lacks-ill : (t : Tree) (local : List ℕ) (f : Form) → needed_form local ≡ Some f → lacks (has f) t local ≡ true → has_ill_formed t ≡ true
lacks-ill t local f n h = value-ill t.head.attrs local f n h

either : {R : Type 0} (a b : Bool) → (a ≡ true → R) → (b ≡ true → R) → (a || b) ≡ true → R
either true b f g h = f refl
either false b f g h = g h

-- the names of a list need one form
abbrev Need : Form → List (List ℕ) → Type 0
Need f [] = Unit {0}
Need f (l ∷ ls) = (needed_form l ≡ Some f) × Need f ls

any-ill : (t : Tree) (f : Form) (locals : List (List ℕ)) → Need f locals → list_any (lacks (has f) t) locals ≡ true → has_ill_formed t ≡ true
any-ill t f [] n h = absurd (false≢true h)
any-ill t f (l ∷ ls) n h = either (lacks (has f) t l) (list_any (lacks (has f) t) ls) (lacks-ill t l f n.0) (any-ill t f ls n.1) h

need-names : Need form.Name name_tokens
unfolding name_tokens form_rows
need-names = (refl, (refl, (refl, (refl, (refl, (refl, (refl, tt)))))))

need-qnames : Need form.Qname qname_tokens
unfolding qname_tokens form_rows
need-qnames = (refl, (refl, tt))

need-lists : Need form.Names name_lists
unfolding name_lists form_rows
need-lists = (refl, (refl, tt))

need-roles : Need form.Filled roles
unfolding roles form_rows
need-roles = (refl, (refl, (refl, tt)))

both_true : (i : Bool) → ((i && true) && true) ≡ (i && true)
both_true true = refl
both_true false = refl

-- a test that only an element with such an attribute passes is asked of those alone
guarded : (k : Kind) (t : Tree) (bad : Bool) → (bad ≡ true → has_ill_formed t ≡ true) → (is_ill k t && bad) ≡ (is_inline k && bad)
guarded k t bad h = (elim bad as (λ b. bad ≡ b → (is_ill k t && b) ≡ (is_inline k && b)) [
  | true ↦ λ e. ap (λ x. (is_inline k && x) && true) (h e) ∙ both_true (is_inline k)
  | false ↦ λ e. and_right (is_ill k t) false refl ∙ sym (and_right (is_inline k) false refl)
]) refl

guarded_at : (k : Kind) (t : Tree) (local : List ℕ) (f : Form) → needed_form local ≡ Some f → (is_ill k t && lacks (has f) t local) ≡ (is_inline k && lacks (has f) t local)
guarded_at k t local f n = guarded k t (lacks (has f) t local) (lacks-ill t local f n)

abbrev bad_names : Tree → Bool
bad_names t = list_any (lacks is_name_token t) name_tokens || list_any (lacks is_qname_token t) qname_tokens || list_any (lacks are_names t) name_lists

pub names_ill : (k : Kind) (t : Tree) → (is_ill k t && bad_names t) ≡ (is_inline k && bad_names t)
names_ill k t = guarded k t (bad_names t)
    (either _ _ (either _ _ (any-ill t form.Name name_tokens need-names) (any-ill t form.Qname qname_tokens need-qnames))
    (any-ill t form.Names name_lists need-lists))

pub boolean_ill : (k : Kind) (t : Tree) → (is_ill k t && lacks is_boolean t (codes "escape")) ≡ (is_inline k && lacks is_boolean t (codes "escape"))
unfolding form_rows
boolean_ill k t = guarded_at k t (codes "escape") form.Boolean refl

pub scale_ill : (k : Kind) (t : Tree) → (is_ill k t && lacks is_scale t (codes "scale")) ≡ (is_inline k && lacks is_scale t (codes "scale"))
unfolding form_rows
scale_ill k t = guarded_at k t (codes "scale") form.Scale refl

pub order_ill : (k : Kind) (t : Tree) → (is_ill k t && lacks is_order t (codes "order")) ≡ (is_inline k && lacks is_order t (codes "order"))
unfolding form_rows
order_ill k t = guarded_at k t (codes "order") form.Order refl

pub sign_ill : (k : Kind) (t : Tree) → (is_ill k t && lacks is_sign t (codes "sign")) ≡ (is_inline k && lacks is_sign t (codes "sign"))
unfolding form_rows
sign_ill k t = guarded_at k t (codes "sign") form.Sign refl

pub roles_ill : (k : Kind) (t : Tree) → (is_ill k t && list_any (lacks is_some_token t) roles) ≡ (is_inline k && list_any (lacks is_some_token t) roles)
roles_ill k t = guarded k t (list_any (lacks is_some_token t) roles) (any-ill t form.Filled roles need-roles)

-- two tests of inline elements are one
pub apart : (i a b : Bool) → ((i && a) || (i && b)) ≡ (i && (a || b))
apart true a b = refl
apart false a b = refl

abbrev bad_accuracy : Tree → Bool
bad_accuracy t = lacks is_decimals t (codes "decimals") || lacks is_precision t (codes "precision")

pub accuracy_ill : (k : Kind) (t : Tree) → (is_ill k t && bad_accuracy t) ≡ (is_inline k && bad_accuracy t)
unfolding form_rows
accuracy_ill k t = guarded k t (bad_accuracy t)
    (either _ _ (lacks-ill t (codes "decimals") form.Decimals refl) (lacks-ill t (codes "precision") form.Precision refl))

-- a test that wasn't asked, since the element has no such attribute
pub un-ill : (asked ill bad due : Bool) → asked ≡ false → asked ≡ ill → (ill && bad) ≡ due → asked ≡ due
un-ill asked ill bad due unasked is h = unasked ∙ sym (and_left ill bad (sym is ∙ unasked)) ∙ h
