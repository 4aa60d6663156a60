-- In a content the orders of arcs are canonical decimals.
use Rattle.std.proofs.Common.{◌≡◌, ◌∙◌, ap, refl, subst, sym, ℕ, pos, Bool, true, false, not, List, Option, Some, None, codes, option_map, arith}
use Rattle.std.specs.List.{Contains}
use Rattle.std.specs.Option.{option_map_or}
use Rattle.std.specs.Prelude.{◌&&◌}
use Rattle.ix_base.specs.declared.content.Arc.{Arc}
use Rattle.ix_base.specs.declared.content.Content.{Content}
use Rattle.ix_base.specs.declared.kind.Kind.{Kind}
use Rattle.ix_base.specs.declared.kind.Kind.TheVariants as kind
use Rattle.ix_base.specs.declared.rule.Rule.TheVariants as rule
use Rattle.ix_base.specs.ElementRules.{lacks}
use Rattle.ix_base.specs.Forms.{is_canonical_decimal, is_negative, is_order, unsigned_of}
use Rattle.ix_base.specs.Kinds.{is_inline, kind_of, same_kind}
use Rattle.ix_base.specs.Readers.{attr}
use Rattle.ix_base.specs.Token.{token_of}
use Rattle.footnotes.specs.FootnoteLinks.{Between, canonical_order}
use Rattle.footnotes.proofs.OrderLaws.{canonical-is}
use Rattle.instance_lines.specs.Arrangement.{arranged}
use Rattle.instance_lines.specs.Holdings.{all_arcs}
use Rattle.instance_out.specs.Proper.{orders_fit}
use Rattle.ix_base.specs.PlainContents.{said_of}
use Rattle.scale_sign.proofs.Laws.{number-is}
use Rattle.value_forms.proofs.DecimalLaws.{unsigned_is}
use Rattle.targets.specs.ValidSets.{IsClean}
use Rattle.target_contents.specs.Contents.{IsContent}
use Rattle.target_contents.specs.PageSet.{PageSet, base_at, elements}
use Rattle.targets.proofs.ArcLaws.{IsBetween, arc-from}
use Rattle.targets.proofs.UnbrokenLaws.{element-unbroken}
use Rattle.targets.proofs.CanonicalLaws.{number-passes}
use Rattle.target_contents.proofs.MemberLaws.{all-pass}

pub relation-inline : (k : Kind) → same_kind k kind.Relationship ≡ true → is_inline k ≡ true
relation-inline kind.Relationship h = refl
relation-inline k h = absurd (cc)

not-not : (b : Bool) → not b ≡ false → b ≡ true
not-not true h = refl
not-not false h = absurd (cc)

with-inline : (b c : Bool) → b ≡ true → (b && c) ≡ false → c ≡ false
with-inline true c h e = e
with-inline false c h e = absurd (cc)

-- an order is written as a canonical decimal
order-passes : (o : Option (List ℕ)) → option_map_or (λ v. not (is_order v)) o false ≡ false
    → is_canonical_decimal (option_map_or canonical_order (option_map token_of o) (codes "1")) ≡ true
order-passes None h = refl
order-passes (Some v) h =
    let t = token_of v in
    let form : is_order v ≡ true = not-not (is_order v) h in
    let number = number-is (unsigned_of t) (pos 0) (is_negative t) (unsigned_is (unsigned_of t) form) in
    ap is_canonical_decimal (sym (canonical-is t _ form number)) ∙ number-passes (unsigned_of t) (pos 0) (is_negative t) _ number

pub arc-passes : (s : PageSet) → IsClean s → (target : List ℕ) (x : Between) → IsBetween (elements s) target x → is_canonical_decimal x.arc.order ≡ true
arc-passes s clean target x b =
    let r = b.relation in
    let unbroken = element-unbroken s clean rule.N10 (9, omega arith, refl) r b.there in
    let k = kind_of r.placed in
    ap (λ (y : Between). is_canonical_decimal y.arc.order) b.is
    ∙ order-passes (attr (codes "order") r.placed.tree)
    (with-inline (is_inline k) (lacks is_order r.placed.tree (codes "order")) (relation-inline k b.relates) unbroken)

fits-of : (s : PageSet) → IsClean s → (target : List ℕ) (g : Content) → ((a : Arc) → Contains (all_arcs (said_of (arranged g))) a
    → (x : Between) × IsBetween (elements s) target x × (x.arc ≡ a)) → orders_fit (said_of (arranged g)) ≡ true
unfolding orders_fit
fits-of s clean target g from =
    all-pass (λ a. is_canonical_decimal a.order) (all_arcs (said_of (arranged g)))
    (λ a h. let x = from a h in ap (λ (b : Arc). is_canonical_decimal b.order) (sym x.2) ∙ arc-passes s clean target x.0 x.1)

pub orders-fit : (s : PageSet) → IsClean s → (target : List ℕ) (c : Content) → IsContent (base_at s) (elements s) target c
    → orders_fit (said_of c) ≡ true
orders-fit s clean target c content =
    subst (λ x. orders_fit (said_of x) ≡ true) (sym content.2)
    (fits-of s clean target content.0 (λ a h. arc-from (base_at s) (elements s) target content.0 content.1 a h))
