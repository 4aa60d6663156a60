use Rattle.std.proofs.Common.{◌∙◌, ⊎_elim}
use Rattle.ix_base.specs.declared.kind.Kind.TheVariants as kind
use Rattle.link_ids.proofs.KindLinks.{as-kind, continuation-links, footnote-links, fraction-links, no-links, number-links, relationship-links, text-links, tuple-links}
use Rattle.link_ids.proofs.attributes.attributes_of.Goals as goal

pub returns-in-NonNumeric : goal.returns-in-NonNumeric
returns-in-NonNumeric c e h = text-links e ∙ as-kind kind.NonNumeric e (h ∙ c.in-NonNumeric.is)

pub returns-in-Footnote : goal.returns-in-Footnote
returns-in-Footnote c e h =
    ⊎_elim (λ is. footnote-links e ∙ as-kind kind.Footnote e (h ∙ is)) (λ is. continuation-links e ∙ as-kind kind.Continuation e (h ∙ is)) c.in-Footnote.is

pub returns-in-NonFraction : goal.returns-in-NonFraction
returns-in-NonFraction c e h =
    ⊎_elim (λ is. number-links e ∙ as-kind kind.NonFraction e (h ∙ is)) (λ is. fraction-links e ∙ as-kind kind.Fraction e (h ∙ is)) c.in-NonFraction.is

pub returns-in-Tuple : goal.returns-in-Tuple
returns-in-Tuple c e h = tuple-links e ∙ as-kind kind.Tuple e (h ∙ c.in-Tuple.is)

pub returns-in-Relationship : goal.returns-in-Relationship
returns-in-Relationship c e h = relationship-links e ∙ as-kind kind.Relationship e (h ∙ c.in-Relationship.is)

pub returns-in_default : goal.returns-in_default
returns-in_default c e h =
    let no = c.in_default in
    no-links c.args.kind e no.not-NonNumeric no.not-Footnote no.not-Continuation no.not-NonFraction no.not-Fraction no.not-Tuple no.not-Relationship
    ∙ as-kind c.args.kind e h
