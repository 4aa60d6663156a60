-- What is asked of texts.
use Rattle.std.specs.Prelude.{ℕ, Bool, ◌&&◌, List, [], ◌∷◌}
use Rattle.std.specs.List.{list_all}
use Rattle.ix_base.specs.NcName.{are_allowed}
use Rattle.ix_base.specs.PlainContents.{Said}
use Rattle.proper_texts.specs.declared.texts.Test.{Test}
use Rattle.proper_texts.specs.declared.texts.Test.TheVariants.{Allowed, Full}
use Rattle.instance_lines.specs.Holdings.{all_names, context_texts, fact_ids, item_texts, items_in, link_texts, ref_texts}
use Rattle.instance_lines.specs.Lists.{of_option}
use Rattle.instance_out.specs.Proper.{is_full}

abbrev pub passes : Test → List ℕ → Bool
passes Allowed text = are_allowed text
passes Full text = is_full text

-- each text of references passes
abbrev pub references : (List ℕ → Bool) → Said → Bool
references p c =
    list_all p c.schemas
    && (list_all (λ l. list_all p (l.href ∷ of_option l.role)) c.linkbases
    && (list_all (λ r. list_all p (ref_texts r)) c.roles
    && list_all (λ r. list_all p (ref_texts r)) c.arcroles))

-- each text of contexts, units and facts
abbrev pub parts : (List ℕ → Bool) → Said → Bool
parts p c =
    list_all (λ x. list_all p (context_texts x)) c.contexts
    && (list_all (λ u. p u.id) c.units && (list_all (λ i. list_all p (item_texts i)) (items_in c.facts) && list_all p (fact_ids c.facts)))

-- each text of footnote links, and of names
abbrev pub rest : (List ℕ → Bool) → Said → Bool
rest p c = list_all (λ l. list_all p (link_texts l)) c.notes && list_all (λ n. list_all p (n.ns ∷ n.local ∷ [])) (all_names c)
