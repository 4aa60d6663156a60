-- What a content holds: its items, ids, names and texts, each as often as it stands.
use Rattle.std.specs.Prelude.{ℕ, List, [], ◌∷◌, ◌++◌, map, flat_map, Option, Some, None}
use Rattle.ix_base.specs.declared.content.Accuracy.{Accuracy}
use Rattle.ix_base.specs.declared.content.Accuracy.TheVariants as accuracy
use Rattle.ix_base.specs.declared.content.Arc.{Arc}
use Rattle.ix_base.specs.declared.content.Context.{Context}
use Rattle.ix_base.specs.declared.content.Footnote.{Footnote}
use Rattle.ix_base.specs.declared.content.Item.{Item}
use Rattle.ix_base.specs.declared.content.Member.{Member}
use Rattle.ix_base.specs.declared.content.Member.TheVariants as member
use Rattle.ix_base.specs.declared.content.NoteLink.{NoteLink}
use Rattle.ix_base.specs.declared.content.OwnName.{OwnName}
use Rattle.ix_base.specs.declared.content.RoleRef.{RoleRef}
use Rattle.ix_base.specs.declared.content.Value.{Value}
use Rattle.ix_base.specs.declared.content.Value.TheVariants as value
use Rattle.ix_base.specs.Facts.{Facts, none, item, tuple}
use Rattle.instance_lines.specs.Canonical.{Spaces, context_names, unit_names, fact_names}
use Rattle.instance_lines.specs.Lists.{of_option}
use Rattle.instance_lines.specs.Prefixes.{spaces_of}
use Rattle.ix_base.specs.PlainContents.{Said}

-- Facts.

-- the items, with those that are members of tuples
abbrev pub items_in : Facts → List Item
items_in none = []
items_in (item i rest) = i ∷ items_in rest
items_in (tuple name id nil members rest) = items_in members ++ items_in rest

-- the ids of items and tuples
abbrev pub fact_ids : Facts → List (List ℕ)
fact_ids none = []
fact_ids (item i rest) = of_option i.id ++ fact_ids rest
fact_ids (tuple name id nil members rest) = of_option id ++ (fact_ids members ++ fact_ids rest)

-- Names and footnotes.

abbrev pub all_names : Said → List OwnName
all_names c = flat_map context_names c.contexts ++ (flat_map unit_names c.units ++ fact_names c.facts)

abbrev pub all_notes : Said → List Footnote
all_notes c = flat_map (λ l. l.footnotes) c.notes

abbrev pub all_arcs : Said → List Arc
all_arcs c = flat_map (λ l. l.arcs) c.notes

abbrev pub said_spaces : Said → Spaces
said_spaces c = spaces_of (all_names c)

-- Texts.

abbrev pub accuracy_texts : Option Accuracy → List (List ℕ)
accuracy_texts None = []
accuracy_texts (Some (accuracy.Decimals n)) = n ∷ []
accuracy_texts (Some (accuracy.Precision n)) = n ∷ []

abbrev pub value_texts : Value → List (List ℕ)
value_texts value.Nil = []
value_texts (value.Plain text) = text ∷ []
value_texts (value.Fraction above below) = above ∷ below ∷ []

abbrev pub member_texts : Member → List (List ℕ)
member_texts (member.Explicit n) = []
member_texts (member.Typed n text) = text ∷ []

abbrev pub item_texts : Item → List (List ℕ)
item_texts i = i.context ∷ (of_option i.unit ++ (accuracy_texts i.accuracy ++ (of_option i.id ++ value_texts i.value)))

abbrev pub context_texts : Context → List (List ℕ)
context_texts c = c.id ∷ c.scheme ∷ c.identifier ∷ (flat_map (λ d. member_texts d.member) c.segment ++ flat_map (λ d. member_texts d.member) c.scenario)

abbrev pub note_texts : Footnote → List (List ℕ)
note_texts f = f.id ∷ f.role ∷ f.lang ∷ f.body ∷ of_option f.title

abbrev pub arc_texts : Arc → List (List ℕ)
arc_texts a = a.arcrole ∷ a.from_id ∷ a.to_id ∷ a.order ∷ []

abbrev pub link_texts : NoteLink → List (List ℕ)
link_texts l = l.role ∷ (l.locs ++ (flat_map note_texts l.footnotes ++ flat_map arc_texts l.arcs))

abbrev pub ref_texts : RoleRef → List (List ℕ)
ref_texts r = r.uri ∷ r.href ∷ []

-- every text of a content
abbrev pub all_texts : Said → List (List ℕ)
all_texts c = c.schemas ++ (flat_map (λ l. l.href ∷ of_option l.role) c.linkbases ++ (flat_map ref_texts c.roles ++ (flat_map ref_texts c.arcroles
    ++ (flat_map context_texts c.contexts ++ (map (λ u. u.id) c.units ++ (flat_map item_texts (items_in c.facts) ++ (fact_ids c.facts
    ++ (flat_map link_texts c.notes ++ flat_map (λ n. n.ns ∷ n.local ∷ []) (all_names c)))))))))

-- the texts that are tokens
abbrev pub token_texts : Said → List (List ℕ)
token_texts c = c.schemas ++ (flat_map (λ l. l.href ∷ of_option l.role) c.linkbases ++ (flat_map ref_texts c.roles ++ (flat_map ref_texts c.arcroles
    ++ (flat_map (λ x. x.scheme ∷ x.identifier ∷ []) c.contexts ++ (map (λ l. l.role) c.notes ++ (flat_map (λ f. f.role ∷ f.lang ∷ []) (all_notes c)
    ++ map (λ a. a.arcrole) (all_arcs c)))))))
