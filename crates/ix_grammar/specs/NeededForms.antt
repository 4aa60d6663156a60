-- The forms that the values of attributes need, by the names of the attributes (Inline XBRL 1.1).
use Rattle.std.specs.Prelude.{ℕ, Bool, false, not, ◌&&◌, List, [], ◌∷◌, Option, Some, None, if◌then◌else◌, bytes_eq, codes}
use Rattle.std.specs.List.{list_any}
use Rattle.std.specs.Option.{option_map_or}
use Rattle.ix_base.specs.declared.kind.Kind.{Kind}
use Rattle.ix_base.specs.Forms.{is_empty}
use Rattle.ix_base.specs.Kinds.{is_inline}
use Rattle.ix_base.specs.Trees.{Valued, Tree}
use Rattle.value_forms.specs.FormTests.{has}
use Rattle.value_forms.specs.declared.forms.Form.{Form}
use Rattle.value_forms.specs.declared.forms.Form.TheVariants as form

-- the name of an attribute and the form of its values
pub record Row : Type 0 where
  pub local : List ℕ
  pub form : Form

abbrev pub row : List ℕ → Form → Row
row local f = record { local = local; form = f }

-- the form in a table, where the name is there
abbrev pub form_among : List Row → List ℕ → Option Form
form_among [] local = None
form_among (r ∷ rows) local = if bytes_eq local r.local then Some r.form else form_among rows local

-- the attributes whose values need a form
unfoldable pub form_rows : List Row
form_rows =
    row (codes "id") form.Name
    ∷ row (codes "name") form.Qname
    ∷ row (codes "contextRef") form.Name
    ∷ row (codes "unitRef") form.Name
    ∷ row (codes "format") form.Qname
    ∷ row (codes "decimals") form.Decimals
    ∷ row (codes "scale") form.Scale
    ∷ row (codes "sign") form.Sign
    ∷ row (codes "escape") form.Boolean
    ∷ row (codes "order") form.Order
    ∷ row (codes "target") form.Name
    ∷ row (codes "continuedAt") form.Name
    ∷ row (codes "precision") form.Precision
    ∷ row (codes "tupleID") form.Name
    ∷ row (codes "tupleRef") form.Name
    ∷ row (codes "fromRefs") form.Names
    ∷ row (codes "toRefs") form.Names
    ∷ row (codes "footnoteRole") form.Filled
    ∷ row (codes "arcrole") form.Filled
    ∷ row (codes "linkRole") form.Filled
    ∷ []

abbrev pub needed_form : List ℕ → Option Form
needed_form local = form_among form_rows local

-- an attribute without a namespace that isn't of the form that its name needs
abbrev pub is_ill_formed : Valued → Bool
is_ill_formed a = is_empty a.name.ns && option_map_or (λ f. not (has f a.value)) (needed_form a.name.local) false

abbrev pub has_ill_formed : Tree → Bool
has_ill_formed t = list_any is_ill_formed t.head.attrs

-- an element of an inline kind with such an attribute
abbrev pub is_ill : Kind → Tree → Bool
is_ill k t = is_inline k && has_ill_formed t
