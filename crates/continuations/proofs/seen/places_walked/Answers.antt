use Rattle.std.proofs.Common.{◌∙◌, ℕ, List, Option, ap, length, subst, sym}
use Rattle.continuations.specs.Visits.{AreFar, Met}
use Rattle.continuations.proofs.seen.places_walked.Goals as goal

pub fars_of-requires-clause-met : goal.fars_of-requires-clause-met
fars_of-requires-clause-met c =
    subst (λ (ns : List (Option ℕ)). Met ns c.args.links.now.continuations (length ns) c.args.visits.now c.args.meets.now) (sym c.as_slice-nexts.ensures.value) c.requires.met

pub places_along-requires-clause-courses : goal.places_along-requires-clause-courses
places_along-requires-clause-courses c =
    let l = c.args.links.now in record {
      met = subst (λ (ns : List (Option ℕ)). Met ns l.continuations (length ns) c.args.visits.now c.args.meets.now) (sym c.as_slice-nexts.ensures.value) c.requires.met;
      far = subst (AreFar c.as_slice-nexts.result.now l.continuations c.args.visits.now) (sym c.as_slice.ensures.value) c.in_ok-fars.ensures.far;
      meets = c.requires.meets ∙ ap length (sym c.as_slice-nexts.ensures.value);
      fars = ap length c.as_slice.ensures.value ∙ c.in_ok-fars.ensures.len;
    }
