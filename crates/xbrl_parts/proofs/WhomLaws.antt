-- A context by its parts, as they are read.
use Rattle.std.proofs.Common.{◌≡◌, ◌∙◌, ℕ, refl, Bool, true, false, List, Option, Some, None, if◌then◌else◌, codes}
use Rattle.ix_base.specs.declared.content.Context.{Context}
use Rattle.ix_base.specs.declared.content.Dim.{Dim}
use Rattle.ix_base.specs.declared.content.Period.{Period}
use Rattle.ix_base.specs.ContextForm.{Whom, context, dims_of, id_of, period_of, whom_of}
use Rattle.ix_base.specs.ElementContent.{named_in}
use Rattle.ix_base.specs.Namespaces.{xbrli_namespace}
use Rattle.ix_base.specs.Steps.{◌>>=◌, sole}
use Rattle.ix_base.specs.Trees.{Tree}
use Rattle.xbrl_parts.specs.Whoms.{context_by, context_in, only_parts, period_at, whom_at}

steps : {A B C : Type 0} (o : Option A) (f : A → Option B) (g : B → Option C) → (o >>= λ x. f x >>= g) ≡ (o >>= f >>= g)
steps None f g = refl
steps (Some x) f g = refl

-- which of two steps comes first doesn't matter
turned : {A B C : Type 0} (o : Option A) (p : Option B) (f : A → B → Option C) → (o >>= λ x. p >>= λ y. f x y) ≡ (p >>= λ y. o >>= λ x. f x y)
turned None None f = refl
turned None (Some y) f = refl
turned (Some x) None f = refl
turned (Some x) (Some y) f = refl

-- a test behind four steps may come ahead of them
tested : {A B C D E : Type 0} (b : Bool) (o : Option A) (p : Option B) (q : Option C) (r : Option D) (f : A → B → C → D → E)
    → (o >>= λ x. p >>= λ y. q >>= λ z. r >>= λ w. if b then Some (f x y z w) else None)
    ≡ (if b then (o >>= λ x. p >>= λ y. q >>= λ z. r >>= λ w. Some (f x y z w)) else None)
tested true o p q r f = refl
tested false None p q r f = refl
tested false (Some x) None q r f = refl
tested false (Some x) (Some y) None r f = refl
tested false (Some x) (Some y) (Some z) None f = refl
tested false (Some x) (Some y) (Some z) (Some w) f = refl

abbrev pub by_parts : Tree → Option Context
by_parts t = if only_parts t then (id_of t >>= λ id. period_at t >>= λ period. context_in t id period) else None

pub context_parts : (t : Tree) → context t ≡ by_parts t
unfolding context
context_parts t = (λ i. id_of t >>= λ id. both id i) ∙ tested (only_parts t) (id_of t) (period_at t) (whom_at t) scenario context_by where
  entity : Option Tree
  entity = sole (named_in xbrli_namespace (codes "entity") t.children)

  when : Option Tree
  when = sole (named_in xbrli_namespace (codes "period") t.children)

  scenario : Option (List Dim)
  scenario = dims_of (named_in xbrli_namespace (codes "scenario") t.children)

  left : List ℕ → Whom → Period → Option Context
  left id whom period = scenario >>= λ dims. if only_parts t then Some (context_by id period whom dims) else None

  both : (id : List ℕ) → (entity >>= λ e. whom_of e >>= λ whom. when >>= λ p. period_of p >>= λ period. left id whom period)
      ≡ (period_at t >>= λ period. whom_at t >>= λ whom. left id whom period)
  both id = steps entity whom_of (λ whom. when >>= λ p. period_of p >>= λ period. left id whom period)
      ∙ (λ i. whom_at t >>= λ whom. steps when period_of (left id whom) i)
      ∙ turned (whom_at t) (period_at t) (left id)
