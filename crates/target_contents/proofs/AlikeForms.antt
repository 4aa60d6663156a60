-- Elements are alike exactly where they are of one kind and have one normal form.
use Rattle.std.proofs.Common.{◌≡◌, ◌∙◌, ◌⊎◌, true, false, refl, sym, ap, inl, inr, Option, Some, None, option_map}
use Rattle.std.specs.Bool.{Decides}
use Rattle.ix_base.specs.declared.content.Context.{Context}
use Rattle.ix_base.specs.declared.content.Unit.{Unit as UnitContent}
use Rattle.ix_base.specs.declared.kind.Kind.{Kind}
use Rattle.ix_base.specs.declared.kind.Kind.TheVariants as kind
use Rattle.ix_base.specs.Alike.{alike, alike_as, same_context, same_unit}
use Rattle.ix_base.specs.ContextForm.{context}
use Rattle.ix_base.specs.Kinds.{kind_of}
use Rattle.ix_base.specs.LocatedElements.{Located}
use Rattle.ix_base.specs.Trees.{Tree}
use Rattle.ix_base.specs.UnitForm.{unit}
use Rattle.xbrl_parts.proofs.AlikeLaws.{context-Decides, forms-Decides, unit-Decides}

abbrev pub Form : Type 0
Form = Context ⊎ UnitContent

abbrev pub form_as : Kind → Tree → Option Form
form_as kind.Context t = option_map inl (context t)
form_as kind.Unit t = option_map inr (unit t)
form_as k t = None

-- one form of both
abbrev pub HaveOne : Option Form → Option Form → Type 0
HaveOne o p = (f : Form) × (o ≡ Some f) × (p ≡ Some f)

mapped : {X : Type 0} (g : X → Form) (o p : Option X) → ((x : X) × (o ≡ Some x) × (p ≡ Some x)) → HaveOne (option_map g o) (option_map g p)
mapped g o p s = (g s.0, ap (option_map g) s.1, ap (option_map g) s.2)

-- whichever sides a form is of
abbrev IsLeft : Form → Type 0
IsLeft (inl c) = Unit {0}
IsLeft (inr u) = ⊥

abbrev pub left : Form → Option Context
left (inl c) = Some c
left (inr u) = None

abbrev pub right : Form → Option UnitContent
right (inl c) = None
right (inr u) = Some u

abbrev pub at_left : Option Form → Option Context
at_left None = None
at_left (Some f) = left f

abbrev pub at_right : Option Form → Option UnitContent
at_right None = None
at_right (Some f) = right f

pub left-back : (o : Option Context) → at_left (option_map inl o) ≡ o
left-back None = refl
left-back (Some c) = refl

pub right-back : (o : Option UnitContent) → at_right (option_map inr o) ≡ o
right-back None = refl
right-back (Some u) = refl

right-none : (o : Option Context) → at_right (option_map inl o) ≡ None
right-none None = refl
right-none (Some c) = refl

left-none : (o : Option UnitContent) → at_left (option_map inr o) ≡ None
left-none None = refl
left-none (Some u) = refl

-- no form is of both sides
apart : (o : Option Context) (p : Option UnitContent) → HaveOne (option_map inl o) (option_map inr p) → ⊥
apart o p (inl c, a, b) = let z : None ≡ Some c = sym (left-none p) ∙ ap at_left b in cc
apart o p (inr u, a, b) = let z : None ≡ Some u = sym (right-none o) ∙ ap at_right a in cc

turned : (o p : Option Form) → HaveOne o p → HaveOne p o
turned o p s = (s.0, s.2, s.1)

left-of : (o p : Option Context) → HaveOne (option_map inl o) (option_map inl p) → (c : Context) × (o ≡ Some c) × (p ≡ Some c)
left-of o p (inl c, a, b) = (c, sym (left-back o) ∙ ap at_left a, sym (left-back p) ∙ ap at_left b)
left-of o p (inr u, a, b) = absurd (let z : None ≡ Some u = sym (right-none o) ∙ ap at_right a in cc)

right-of : (o p : Option UnitContent) → HaveOne (option_map inr o) (option_map inr p) → (u : UnitContent) × (o ≡ Some u) × (p ≡ Some u)
right-of o p (inr u, a, b) = (u, sym (right-back o) ∙ ap at_right a, sym (right-back p) ∙ ap at_right b)
right-of o p (inl c, a, b) = absurd (let z : None ≡ Some c = sym (left-none o) ∙ ap at_left a in cc)

as-Decides : (k l : Kind) (s t : Tree) → Decides (alike_as k l s t) (HaveOne (form_as k s) (form_as l t))
as-Decides kind.Context kind.Context s t =
    let d = forms-Decides same_context context-Decides (context s) (context t) in
    (λ h. mapped inl (context s) (context t) (d.0 h), λ o. d.1 (left-of (context s) (context t) o))
as-Decides kind.Unit kind.Unit s t =
    let d = forms-Decides same_unit unit-Decides (unit s) (unit t) in
    (λ h. mapped inr (unit s) (unit t) (d.0 h), λ o. d.1 (right-of (unit s) (unit t) o))
as-Decides kind.Context kind.Unit s t = (λ h. absurd (let z : false ≡ true = h in cc), λ o. absurd (apart (context s) (unit t) o))
as-Decides kind.Unit kind.Context s t = (λ h. absurd (let z : false ≡ true = h in cc), λ o. absurd (apart (context t) (unit s) (turned _ _ o)))
as-Decides kind.Context l s t = (λ h. absurd (let z : false ≡ true = h in cc), λ o. absurd (let z : None ≡ Some o.0 = o.2 in cc))
as-Decides kind.Unit l s t = (λ h. absurd (let z : false ≡ true = h in cc), λ o. absurd (let z : None ≡ Some o.0 = o.2 in cc))
as-Decides k l s t = (λ h. absurd (let z : false ≡ true = h in cc), λ o. absurd (let z : None ≡ Some o.0 = o.1 in cc))

abbrev pub form_of : Located → Option Form
form_of x = form_as (kind_of x.placed) x.placed.tree

pub alike-Decides : (x y : Located) → Decides (alike x y) (HaveOne (form_of x) (form_of y))
unfolding alike
alike-Decides x y = as-Decides (kind_of x.placed) (kind_of y.placed) x.placed.tree y.placed.tree

pub alike-turned : (x y : Located) → alike x y ≡ true → alike y x ≡ true
alike-turned x y h = let o = (alike-Decides x y).0 h in (alike-Decides y x).1 (o.0, o.2, o.1)

pub alike-on : (x y z : Located) → alike x y ≡ true → alike y z ≡ true → alike x z ≡ true
alike-on x y z h k =
    let o = (alike-Decides x y).0 h in
    let p = (alike-Decides y z).0 k in
    let same : p.0 ≡ o.0 = (let e : Some p.0 ≡ Some o.0 = sym p.1 ∙ o.2 in cc) in
    (alike-Decides x z).1 (o.0, o.1, p.2 ∙ ap Some same)

pub alike-form : (x y : Located) → alike x y ≡ true → form_of x ≡ form_of y
alike-form x y h = let o = (alike-Decides x y).0 h in o.1 ∙ sym o.2
