-- Footnotes in order, each once.
use Rattle.std.proofs.Common.{◌≡◌, ◌∙◌, ℕ, Bool, true, false, cond, ◌&&◌, List, [], ◌∷◌, map, Option, Some, None, option_map, sym, ap, refl, bytes_eq, subst}
use Rattle.std.specs.List.{list_any, dedup}
use Rattle.std.specs.List.Sorted.{IsSorted, IsPermutation}
use Rattle.std.specs.Cmp.{IsTotalOrder}
use Rattle.std.specs.Cmp.Lexicographic.{on_texts, options_total}
use Rattle.std.specs.Option.{option_cmp, option_eq}
use Rattle.std.specs.Ordering.{on, ordering_then, is_eq, eq_by_cmp}
use Rattle.std.specs.declared.cmp.Ordering.{Ordering}
use Rattle.std.specs.declared.cmp.Ordering.TheVariants.{Less, Equal, Greater}
use Rattle.std.proofs.lemmas.Bool.{and_from, and_parts}
use Rattle.std.proofs.lemmas.Cmp.{on_total, then_total}
use Rattle.std.proofs.lemmas.Map.Text.{is_eq-slice_cmp}
use Rattle.std.proofs.lemmas.Slice.Eq.{bytes_eq-Decides}
use Rattle.ix_base.specs.declared.content.Footnote.{Footnote}
use Rattle.ix_base.specs.Once.{in_order}
use Rattle.ix_base.specs.SortedLists.{text_cmp}
use Rattle.ix_base.proofs.OnceOrdered.{once_in_order}
use Rattle.ix_base.proofs.OrderLemmas.{same_text, text_total, then_first, then_second}
use Rattle.proper_content.specs.declared.ids.NoteKey.{NoteKey}
use Rattle.proper_content.specs.Notes.{note_cmp, note_seen}
use Rattle.proper_content.proofs.ListLaws.{IsSame}
use Rattle.proper_content.proofs.OnceLaws.{counted, counted_moves}
use Rattle.instance_out.specs.Proper.{counted_once, same_note, same_option}
use denote.Ref.{Bor}

pub note_total : IsTotalOrder note_cmp
note_total =
    then_total (on_texts (λ f. f.id)) (then_total (on_texts (λ f. f.role))
    (then_total (on_total (λ f. f.title) (options_total text_total)) (then_total (on_texts (λ f. f.lang)) (on_texts (λ f. f.body)))))

same_title : (a b : Option (List ℕ)) → option_cmp text_cmp a b ≡ Equal → a ≡ b
same_title None None e = refl
same_title None (Some y) e = let f : Less ≡ Equal = e in cc
same_title (Some x) None e = let f : Greater ≡ Equal = e in cc
same_title (Some x) (Some y) e = ap Some (same_text x y e)

-- footnotes that tie are one
pub same_notes : (f g : Footnote) → note_cmp f g ≡ Equal → f ≡ g
same_notes f g e =
    let id = same_text f.id g.id (then_first _ _ e) in
    let e1 = then_second (text_cmp f.id g.id) _ e in
    let role = same_text f.role g.role (then_first _ _ e1) in
    let e2 = then_second (text_cmp f.role g.role) _ e1 in
    let title = same_title f.title g.title (then_first _ _ e2) in
    let e3 = then_second (option_cmp text_cmp f.title g.title) _ e2 in
    let lang = same_text f.lang g.lang (then_first _ _ e3) in
    let body = same_text f.body g.body (then_second (text_cmp f.lang g.lang) _ e3) in
    λ i. record { id = id i; role = role i; title = title i; lang = lang i; body = body i }

option_one : (a b : Option (List ℕ)) → same_option a b ≡ true → a ≡ b
option_one None None e = refl
option_one None (Some y) e = let f : false ≡ true = e in cc
option_one (Some x) None e = let f : false ≡ true = e in cc
option_one (Some x) (Some y) e = ap Some ((bytes_eq-Decides x y).0 e)

option_itself : (a : Option (List ℕ)) → same_option a a ≡ true
option_itself None = refl
option_itself (Some x) = (bytes_eq-Decides x x).1 refl

bytes_itself : (a : List ℕ) → bytes_eq a a ≡ true
bytes_itself a = (bytes_eq-Decides a a).1 refl

note_itself : (f : Footnote) → same_note f f ≡ true
note_itself f =
    and_from _ _ (and_from _ _ (and_from _ _ (and_from _ _ (bytes_itself f.id) (bytes_itself f.role)) (option_itself f.title)) (bytes_itself f.lang)) (bytes_itself f.body)

note_one : (f g : Footnote) → same_note f g ≡ true → f ≡ g
note_one f g e =
    let p4 = and_parts _ (bytes_eq f.body g.body) e in
    let p3 = and_parts _ (bytes_eq f.lang g.lang) p4.0 in
    let p2 = and_parts _ (same_option f.title g.title) p3.0 in
    let p1 = and_parts (bytes_eq f.id g.id) (bytes_eq f.role g.role) p2.0 in
    let id = (bytes_eq-Decides f.id g.id).0 p1.0 in
    let role = (bytes_eq-Decides f.role g.role).0 p1.1 in
    let title = option_one f.title g.title p2.1 in
    let lang = (bytes_eq-Decides f.lang g.lang).0 p3.1 in
    let body = (bytes_eq-Decides f.body g.body).0 p4.1 in
    λ i. record { id = id i; role = role i; title = title i; lang = lang i; body = body i }

one-note : IsSame same_note
one-note = record { one = note_one; is = λ f g e. subst (λ h. same_note f h ≡ true) e (note_itself f) }

counted-is : (fs : List Footnote) → counted same_note one-note note_total same_notes fs ≡ counted_once fs
counted-is [] = refl
counted-is (f ∷ fs) = (λ i. cond (list_any (same_note f) fs) (counted-is fs i) (f ∷ counted-is fs i))

-- what a sort and a `dedup` of keys leave
pub kept_once : (E : NoteKey → NoteKey → Bool) (xs zs ys : List NoteKey) → ((x y : NoteKey) → E x y ≡ eq_by_cmp (on note_seen note_cmp) x y)
    → IsPermutation xs zs → IsSorted (on note_seen note_cmp) zs → ys ≡ dedup E zs → IsPermutation (counted_once (map note_seen xs)) (map note_seen ys)
kept_once E xs zs ys ties moved up left =
    subst (λ l. IsPermutation (counted_once (map note_seen xs)) l)
    (sym (once_in_order note_seen note_cmp note_total same_notes E ties xs zs ys moved up left))
    (subst (λ l. IsPermutation l (in_order note_cmp (map note_seen xs))) (counted-is (map note_seen xs))
    (counted_moves same_note one-note note_total same_notes (map note_seen xs)))

-- Keys of footnotes.

title_cmp : (s t : Option (Bor (List ℕ))) → option_cmp (λ a b. text_cmp a.now b.now) s t ≡ option_cmp text_cmp (option_map (λ a. a.now) s) (option_map (λ a. a.now) t)
title_cmp None None = refl
title_cmp None (Some y) = refl
title_cmp (Some x) None = refl
title_cmp (Some x) (Some y) = refl

-- keys compare as their footnotes do
pub keys_cmp : (x y : NoteKey) →
    ordering_then (text_cmp x.id.now y.id.now)
    (ordering_then (text_cmp x.role.now y.role.now)
    (ordering_then (option_cmp (λ a b. text_cmp a.now b.now) x.title y.title)
    (ordering_then (text_cmp x.lang.now y.lang.now) (text_cmp x.body.now y.body.now))))
    ≡ note_cmp (note_seen x) (note_seen y)
keys_cmp x y =
    ap (λ r. ordering_then (text_cmp x.id.now y.id.now) (ordering_then (text_cmp x.role.now y.role.now) (ordering_then r (ordering_then (text_cmp x.lang.now y.lang.now) (text_cmp x.body.now y.body.now)))))
    (title_cmp x.title y.title)

title_eq : (s t : Option (Bor (List ℕ))) → option_eq (λ a b. bytes_eq a.now b.now) s t ≡ is_eq (option_cmp text_cmp (option_map (λ a. a.now) s) (option_map (λ a. a.now) t))
title_eq None None = refl
title_eq None (Some y) = refl
title_eq (Some x) None = refl
title_eq (Some x) (Some y) = sym (is_eq-slice_cmp x.now y.now)

eq-then : (r s : Ordering) → is_eq (ordering_then r s) ≡ (is_eq r && is_eq s)
eq-then Less s = refl
eq-then Equal s = refl
eq-then Greater s = refl

-- and are equal where these tie
pub keys_eq : (x y : NoteKey) →
    (bytes_eq x.id.now y.id.now && (bytes_eq x.role.now y.role.now && (option_eq (λ a b. bytes_eq a.now b.now) x.title y.title
    && (bytes_eq x.lang.now y.lang.now && bytes_eq x.body.now y.body.now))))
    ≡ eq_by_cmp (on note_seen note_cmp) x y
keys_eq x y =
    let id = text_cmp x.id.now y.id.now in
    let role = text_cmp x.role.now y.role.now in
    let title = option_cmp text_cmp (option_map (λ a. a.now) x.title) (option_map (λ a. a.now) y.title) in
    let lang = text_cmp x.lang.now y.lang.now in
    let body = text_cmp x.body.now y.body.now in
    let told : is_eq (ordering_then id (ordering_then role (ordering_then title (ordering_then lang body)))) ≡ (is_eq id && (is_eq role && (is_eq title && (is_eq lang && is_eq body)))) =
    eq-then id (ordering_then role (ordering_then title (ordering_then lang body)))
    ∙ ap (λ b. is_eq id && b) (eq-then role (ordering_then title (ordering_then lang body))
    ∙ ap (λ b. is_eq role && b) (eq-then title (ordering_then lang body) ∙ ap (λ b. is_eq title && b) (eq-then lang body))) in
    sym (told ∙ (λ i. is_eq-slice_cmp x.id.now y.id.now i && (is_eq-slice_cmp x.role.now y.role.now i && (sym (title_eq x.title y.title) i
    && (is_eq-slice_cmp x.lang.now y.lang.now i && is_eq-slice_cmp x.body.now y.body.now i)))))
