-- Tests that no context and no unit passes.
use Rattle.std.proofs.Common.{◌≡◌, ◌||◌, Bool, true, false, refl}
use Rattle.ix_base.specs.declared.kind.Kind.{Kind}
use Rattle.ix_base.specs.declared.kind.Kind.TheVariants as kind
use Rattle.ix_base.specs.Kinds.{is_fact as fact_kind, kind_of, same_kind}
use Rattle.ix_base.specs.LinkRules.{is_end, is_footnote}
use Rattle.ix_base.specs.LocatedElements.{is_continuation, is_fact}
use Rattle.id_table.specs.Model.{IsOfOthers}

module _ (P : Kind → Bool) (context : P kind.Context ≡ false) (unit : P kind.Unit ≡ false) where
  pub by-kind : (k : Kind) → (same_kind k kind.Context || same_kind k kind.Unit) ≡ true → P k ≡ false
  by-kind kind.Context h = context
  by-kind kind.Unit h = unit
  by-kind k h = absurd (let z : false ≡ true = h in cc)

pub others_continuation : IsOfOthers is_continuation
others_continuation e h = by-kind (λ k. same_kind k kind.Continuation) refl refl (kind_of e.placed) h

pub others_footnote : IsOfOthers is_footnote
others_footnote e h = by-kind (λ k. same_kind k kind.Footnote) refl refl (kind_of e.placed) h

pub others_fact : IsOfOthers is_fact
others_fact e h = by-kind fact_kind refl refl (kind_of e.placed) h

pub others_end : IsOfOthers is_end
others_end e h = by-kind (λ k. fact_kind k || same_kind k kind.Footnote) refl refl (kind_of e.placed) h
