-- Tests of all texts, part by part.
use Rattle.std.proofs.Common.{◌≡◌, ◌∙◌, ℕ, Bool, true, false, ◌&&◌, List, [], ◌∷◌, ◌++◌, map, flat_map, refl}
use Rattle.std.specs.List.{list_all}
use Rattle.std.proofs.lemmas.List.Folds.{list_all-append, list_all-map}
use Rattle.ix_base.specs.NcName.{are_allowed}
use Rattle.ix_base.specs.PlainContents.{Said}
use Rattle.proper_texts.specs.TextTests.{parts, references, rest}
use Rattle.proper_texts.proofs.GainLaws.{all_flat}
use Rattle.ix_base.specs.declared.content.Arc.{Arc}
use Rattle.ix_base.specs.declared.content.Context.{Context}
use Rattle.ix_base.specs.declared.content.Footnote.{Footnote}
use Rattle.ix_base.specs.declared.content.Linkbase.{Linkbase}
use Rattle.ix_base.specs.declared.content.NoteLink.{NoteLink}
use Rattle.ix_base.specs.declared.content.OwnName.{OwnName}
use Rattle.ix_base.specs.declared.content.Unit.{Unit as UnitContent}
use Rattle.instance_lines.specs.Holdings.{all_arcs, all_names, all_notes, all_texts, context_texts, fact_ids, item_texts, items_in, link_texts, ref_texts}
use Rattle.instance_lines.specs.Lists.{of_option}
use Rattle.instance_out.specs.Proper.{is_full, texts_fit, tokens_fit}

grouped : (a b c d e f g h i j : Bool)
    → (a && (b && (c && (d && (e && (f && (g && (h && (i && j))))))))) ≡ (((a && (b && (c && d))) && (e && (f && (g && h)))) && (i && j))
grouped true true true true true true true true i j = refl
grouped true true true true true true true false i j = refl
grouped true true true true true true false h i j = refl
grouped true true true true true false g h i j = refl
grouped true true true true false f g h i j = refl
grouped true true true false e f g h i j = refl
grouped true true false d e f g h i j = refl
grouped true false c d e f g h i j = refl
grouped false b c d e f g h i j = refl

two : (p : List ℕ → Bool) (xs ys : List (List ℕ)) (a b : Bool) → list_all p xs ≡ a → list_all p ys ≡ b → list_all p (xs ++ ys) ≡ (a && b)
two p xs ys a b e f = list_all-append p xs ys ∙ (λ i. e i && f i)

all_told : (p : List ℕ → Bool) (c : Said) → list_all p (all_texts c) ≡ ((references p c && parts p c) && rest p c)
all_told p c =
    let linkbase : Linkbase → List (List ℕ) = λ l. l.href ∷ of_option l.role in
    let name : OwnName → List (List ℕ) = λ n. n.ns ∷ n.local ∷ [] in
    let ids : List (List ℕ) = map (λ (u : UnitContent). u.id) c.units in
    let names = flat_map name (all_names c) in
    let links = flat_map link_texts c.notes ++ names in
    let facts = fact_ids c.facts ++ links in
    let items = flat_map item_texts (items_in c.facts) ++ facts in
    let units = ids ++ items in
    let contexts = flat_map context_texts c.contexts ++ units in
    let arcroles = flat_map ref_texts c.arcroles ++ contexts in
    let roles = flat_map ref_texts c.roles ++ arcroles in
    let linkbases = flat_map linkbase c.linkbases ++ roles in
    two p c.schemas linkbases _ _ refl
    (two p (flat_map linkbase c.linkbases) roles _ _ (all_flat p linkbase c.linkbases)
    (two p (flat_map ref_texts c.roles) arcroles _ _ (all_flat p ref_texts c.roles)
    (two p (flat_map ref_texts c.arcroles) contexts _ _ (all_flat p ref_texts c.arcroles)
    (two p (flat_map context_texts c.contexts) units _ _ (all_flat p context_texts c.contexts)
    (two p ids items _ _ (list_all-map p (λ (u : UnitContent). u.id) c.units)
    (two p (flat_map item_texts (items_in c.facts)) facts _ _ (all_flat p item_texts (items_in c.facts))
    (two p (fact_ids c.facts) links _ _ refl
    (two p (flat_map link_texts c.notes) names _ _ (all_flat p link_texts c.notes) (all_flat p name (all_names c))))))))))
    ∙ grouped (list_all p c.schemas) (list_all (λ l. list_all p (linkbase l)) c.linkbases) (list_all (λ r. list_all p (ref_texts r)) c.roles)
    (list_all (λ r. list_all p (ref_texts r)) c.arcroles) (list_all (λ x. list_all p (context_texts x)) c.contexts) (list_all (λ (u : UnitContent). p u.id) c.units)
    (list_all (λ i. list_all p (item_texts i)) (items_in c.facts)) (list_all p (fact_ids c.facts)) (list_all (λ l. list_all p (link_texts l)) c.notes)
    (list_all (λ n. list_all p (name n)) (all_names c))

pub texts_told : (c : Said) → texts_fit c ≡ ((references are_allowed c && parts are_allowed c) && rest are_allowed c)
unfolding texts_fit
texts_told c = all_told are_allowed c

grouped_tokens : (a b c d e f g h : Bool)
    → (a && (b && (c && (d && (e && (f && (g && h))))))) ≡ (((a && (b && (c && d))) && e) && (f && (g && h)))
grouped_tokens true true true true e f g h = refl
grouped_tokens true true true false e f g h = refl
grouped_tokens true true false d e f g h = refl
grouped_tokens true false c d e f g h = refl
grouped_tokens false b c d e f g h = refl

pub tokens_told : (c : Said) → tokens_fit c ≡ ((references is_full c && list_all (λ x. list_all is_full (x.scheme ∷ x.identifier ∷ [])) c.contexts)
    && (list_all (λ l. is_full l.role) c.notes
    && (list_all (λ f. list_all is_full (f.role ∷ f.lang ∷ [])) (all_notes c) && list_all (λ a. is_full a.arcrole) (all_arcs c))))
unfolding tokens_fit
tokens_told c =
    let p = is_full in
    let linkbase : Linkbase → List (List ℕ) = λ l. l.href ∷ of_option l.role in
    let context : Context → List (List ℕ) = λ x. x.scheme ∷ x.identifier ∷ [] in
    let note : Footnote → List (List ℕ) = λ f. f.role ∷ f.lang ∷ [] in
    let arcs : List (List ℕ) = map (λ (a : Arc). a.arcrole) (all_arcs c) in
    let link : List (List ℕ) = map (λ (l : NoteLink). l.role) c.notes in
    let notes = flat_map note (all_notes c) ++ arcs in
    let links = link ++ notes in
    let contexts = flat_map context c.contexts ++ links in
    let arcroles = flat_map ref_texts c.arcroles ++ contexts in
    let roles = flat_map ref_texts c.roles ++ arcroles in
    let linkbases = flat_map linkbase c.linkbases ++ roles in
    two p c.schemas linkbases _ _ refl
    (two p (flat_map linkbase c.linkbases) roles _ _ (all_flat p linkbase c.linkbases)
    (two p (flat_map ref_texts c.roles) arcroles _ _ (all_flat p ref_texts c.roles)
    (two p (flat_map ref_texts c.arcroles) contexts _ _ (all_flat p ref_texts c.arcroles)
    (two p (flat_map context c.contexts) links _ _ (all_flat p context c.contexts)
    (two p link notes _ _ (list_all-map p (λ (l : NoteLink). l.role) c.notes)
    (two p (flat_map note (all_notes c)) arcs _ _ (all_flat p note (all_notes c)) (list_all-map p (λ (a : Arc). a.arcrole) (all_arcs c))))))))
    ∙ grouped_tokens (list_all p c.schemas) (list_all (λ l. list_all p (linkbase l)) c.linkbases) (list_all (λ r. list_all p (ref_texts r)) c.roles)
    (list_all (λ r. list_all p (ref_texts r)) c.arcroles) (list_all (λ x. list_all p (context x)) c.contexts) (list_all (λ (l : NoteLink). p l.role) c.notes)
    (list_all (λ f. list_all p (note f)) (all_notes c)) (list_all (λ (a : Arc). p a.arcrole) (all_arcs c))
