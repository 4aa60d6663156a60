-- Targets with one name and one content are equal: the lines that they keep are those of the content.
use Rattle.std.proofs.Common.{◌≡◌, ◌∙◌, ap, refl, sym, List, ℕ}
use Rattle.std.proofs.Math.Path.{Cosingl, contract'}
use Rattle.ix_base.specs.declared.content.Content.{Content}
use Rattle.instance_lines.specs.Elements.{lines_of_facts}
use Rattle.target_contents.specs.declared.outcome.Target.{Target}

-- a target with lines that are those of its content
abbrev target_with : List ℕ → (c : Content) → Cosingl (lines_of_facts c) → Target
target_with name c kept = record { name = name; content = c; lines = kept.0; of_facts = kept.1 }

pub same-target : (t u : Target) → t.name ≡ u.name → t.content ≡ u.content → t ≡ u
same-target t u name content =
    sym (ap (target_with t.name t.content) (contract' t.of_facts))
    ∙ (λ i. target_with (name i) (content i) (lines_of_facts (content i), refl))
    ∙ ap (target_with u.name u.content) (contract' u.of_facts)
