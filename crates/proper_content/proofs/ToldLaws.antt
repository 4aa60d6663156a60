-- Tests, part by part.
use Rattle.std.proofs.Common.{◌≡◌, ◌∙◌, ℕ, Bool, true, false, ◌&&◌, not, List, [], ◌∷◌, ◌++◌, map, ap, refl}
use Rattle.std.specs.List.{list_all}
use Rattle.std.proofs.lemmas.Bool.{and_left, and_right}
use Rattle.ix_base.specs.declared.content.Arc.{Arc}
use Rattle.ix_base.specs.declared.content.Footnote.{Footnote}
use Rattle.ix_base.specs.declared.content.NoteLink.{NoteLink}
use Rattle.ix_base.specs.declared.content.RoleRef.{RoleRef}
use Rattle.ix_base.specs.Forms.{is_empty}
use Rattle.ix_base.specs.PlainContents.{Said}
use Rattle.ix_base.specs.SortedLists.{sorted, text_cmp}
use Rattle.proper_content.specs.ContentTests.{first_fit, last_fit, second_fit, third_fit}
use Rattle.proper_content.proofs.ListLaws.{within_sorted}
use Rattle.instance_lines.specs.Holdings.{all_arcs, all_notes, fact_ids}
use Rattle.instance_lines.specs.Lists.{are_apart, is_within}
use Rattle.instance_out.specs.Proper.{arc_ends, is_proper, is_whole_link, links_fit, note_ids, roles_fit, tuples_fit, ids_fit, names_fit, texts_fit, lists_fit, parts_fit, forms_fit, numbers_fit, unitless_fit, fractions_fit, orders_fit, tokens_fit}

and-assoc : (a b c d : Bool) → (((a && b) && c) && d) ≡ (a && (b && (c && d)))
and-assoc true true c d = refl
and-assoc true false c d = refl
and-assoc false b c d = refl

-- roles
pub roles_told : (c : Said) → roles_fit c ≡ (is_within (map (λ r. r.uri) c.roles) (map (λ l. l.role) c.notes ++ map (λ f. f.role) (all_notes c))
    && (is_within (map (λ r. r.uri) c.arcroles) (map (λ a. a.arcrole) (all_arcs c))
    && (are_apart (map (λ r. r.uri) c.roles) && are_apart (map (λ r. r.uri) c.arcroles))))
unfolding roles_fit
roles_told c =
    let roles : List (List ℕ) = map (λ (r : RoleRef). r.uri) c.roles in
    let arcroles : List (List ℕ) = map (λ (r : RoleRef). r.uri) c.arcroles in
    and-assoc (is_within roles (map (λ (l : NoteLink). l.role) c.notes ++ map (λ (f : Footnote). f.role) (all_notes c)))
    (is_within arcroles (map (λ (a : Arc). a.arcrole) (all_arcs c))) (are_apart roles) (are_apart arcroles)

-- footnote links, by facts in order
whole_sorted : (facts : List (List ℕ)) (l : NoteLink) → is_whole_link (sorted text_cmp facts) l ≡ is_whole_link facts l
whole_sorted facts l =
    ap (λ b. not (is_empty l.arcs) && is_within (arc_ends l) (l.locs ++ note_ids l)
    && is_within (l.locs ++ note_ids l) (arc_ends l) && b) (within_sorted l.locs facts)

wholes_sorted : (facts : List (List ℕ)) (ls : List NoteLink) → list_all (is_whole_link (sorted text_cmp facts)) ls ≡ list_all (is_whole_link facts) ls
wholes_sorted facts [] = refl
wholes_sorted facts (l ∷ ls) = (λ i. whole_sorted facts l i && wholes_sorted facts ls i)

pub links_told : (c : Said) → list_all (is_whole_link (sorted text_cmp (fact_ids c.facts))) c.notes ≡ links_fit c
unfolding links_fit
links_told c = wholes_sorted (fact_ids c.facts) c.notes

-- all tests
grouped : (a b c d e f g h i j k l m n : Bool)
    → (a && (b && (c && (d && (e && (f && (g && (h && (i && (j && (k && (l && (m && (n && true))))))))))))))
    ≡ ((a && (b && c)) && ((d && (e && f)) && ((g && (h && (i && j))) && (k && (l && (m && n))))))
grouped true true true true true true true true true true true true true true = refl
grouped true true true true true true true true true true true true true false = refl
grouped true true true true true true true true true true true true false n = refl
grouped true true true true true true true true true true true false m n = refl
grouped true true true true true true true true true true false l m n = refl
grouped true true true true true true true true true false k l m n = refl
grouped true true true true true true true true false j k l m n = refl
grouped true true true true true true true false i j k l m n = refl
grouped true true true true true true false h i j k l m n = refl
grouped true true true true true false g h i j k l m n = refl
grouped true true true true false f g h i j k l m n = refl
grouped true true true false e f g h i j k l m n = refl
grouped true true false d e f g h i j k l m n = refl
grouped true false c d e f g h i j k l m n = refl
grouped false b c d e f g h i j k l m n = refl

pub proper_told : (c : Said) → is_proper c ≡ (first_fit c && (second_fit c && (third_fit c && (tuples_fit c && last_fit c))))
unfolding is_proper
proper_told c =
    grouped (ids_fit c) (names_fit c) (texts_fit c) (lists_fit c) (parts_fit c) (roles_fit c) (forms_fit c) (numbers_fit c) (unitless_fit c)
    (fractions_fit c) (tuples_fit c) (links_fit c) (orders_fit c) (tokens_fit c)

-- tuples stand too deep, or a nil one has members
pub tuples_missed : (c : Said) → tuples_fit c ≡ false → is_proper c ≡ false
tuples_missed c e =
    proper_told c ∙ and_right (first_fit c) _ (and_right (second_fit c) _ (and_right (third_fit c) _ (and_left (tuples_fit c) (last_fit c) e)))
