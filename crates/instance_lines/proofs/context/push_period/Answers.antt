use Rattle.std.proofs.Common.{refl, FitsSigned, w64, arith}
use Rattle.std.proofs.lemmas.Int.{to_z-of_z}
use Rattle.jiff.proofs.SpanFacts.{signed_arith}
use Rattle.instance_lines.specs.Writable.{IsEnd, IsStart}
use Rattle.instance_lines.proofs.context.push_period.Goals as goal

pub returns-in_ok-push_moment-in-Instant : goal.returns-in_ok-push_moment-in-Instant
returns-in_ok-push_moment-in-Instant c more =
    let end : IsEnd c.in-Instant.end = rw c.in-Instant.is at c.requires in
    let fits : FitsSigned w64 c.in-Instant.end = omega (arith, signed_arith) in
    rw (c.in_ok-push_moment-in-Instant.ensures, c.in-Instant.is, c.in_ok-end-in-Instant.ensures, to_z-of_z w64 c.in-Instant.end fits) refl

pub returns-in_ok-push_moment-in-Duration-2 : goal.returns-in_ok-push_moment-in-Duration-2
returns-in_ok-push_moment-in-Duration-2 c more =
    let both : IsStart c.in-Duration.start × IsEnd c.in-Duration.end = rw c.in-Duration.is at c.requires in
    let start = both.0 in
    let end = both.1 in
    let fits : FitsSigned w64 c.in-Duration.start = omega (arith, signed_arith, start.least, start.before) in
    let fits_too : FitsSigned w64 c.in-Duration.end = omega (arith, signed_arith, end.after, end.most) in
    rw (
      c.in_ok-push_moment-in-Duration-2.ensures,
      c.in_ok-push_moment-in-Duration.ensures,
      c.in-Duration.is,
      c.in_ok-start-in-Duration.ensures,
      c.in_ok-end-in-Duration.ensures,
      to_z-of_z w64 c.in-Duration.start fits,
      to_z-of_z w64 c.in-Duration.end fits_too,
    ) refl

pub returns-in_ok-push_leaf-in-Forever : goal.returns-in_ok-push_leaf-in-Forever
returns-in_ok-push_leaf-in-Forever c more = rw (c.in_ok-push_leaf-in-Forever.ensures, c.in-Forever.is) refl
