-- What is written of arcs and of footnotes tells their ids.
use Rattle.std.proofs.Common.{◌≡◌, ◌∙◌, ap, refl, sym, subst, ℕ, ◌==◌, Bool, true, false, not, List, [], ◌∷◌, ◌++◌, Option, Some, None, append_assoc, append-nil, codes}
use Rattle.std.specs.Prelude.{◌&&◌, if◌then◌else◌}
use Rattle.std.specs.List.{list_all}
use Rattle.std.proofs.lemmas.Bool.{and_parts, eqb-true}
use Rattle.ix_base.specs.declared.content.Arc.{Arc}
use Rattle.ix_base.specs.declared.content.Footnote.{Footnote}
use Rattle.ix_base.specs.Escapes.{ae, ae_ref, put}
use Rattle.ix_base.specs.WrittenMarkup.{attrs_text, close_text}
use Rattle.instance_lines.specs.Canonical.{attr, attr_if}
use Rattle.instance_lines.specs.Elements.{arc_text, footnote_text}

-- The characters that have references, and the others.
code-cases : (P : ℕ → Type 0) → P 34 → P 9 → P 10 → P 38 → P 60 → P 62 → P 13
    → ((c : ℕ) → ae_ref c ≡ None → (c == 38) ≡ false → (c == 34) ≡ false → P c) → (c : ℕ) → P c
code-cases P p34 p9 p10 p38 p60 p62 p13 other c =
    at34 (c == 34) (c == 9) (c == 10) (c == 38) (c == 60) (c == 62) (c == 13) refl refl refl refl refl refl refl
  where
    is : (n : ℕ) → (c == n) ≡ true → P n → P c
    is n e p = subst P (sym (eqb-true c n e)) p

    at34 : (q t l a b g r : Bool) → (c == 34) ≡ q → (c == 9) ≡ t → (c == 10) ≡ l → (c == 38) ≡ a → (c == 60) ≡ b → (c == 62) ≡ g → (c == 13) ≡ r → P c
    at34 true t l a b g r e₁ e₂ e₃ e₄ e₅ e₆ e₇ = is 34 e₁ p34
    at34 false true l a b g r e₁ e₂ e₃ e₄ e₅ e₆ e₇ = is 9 e₂ p9
    at34 false false true a b g r e₁ e₂ e₃ e₄ e₅ e₆ e₇ = is 10 e₃ p10
    at34 false false false true b g r e₁ e₂ e₃ e₄ e₅ e₆ e₇ = is 38 e₄ p38
    at34 false false false false true g r e₁ e₂ e₃ e₄ e₅ e₆ e₇ = is 60 e₅ p60
    at34 false false false false false true r e₁ e₂ e₃ e₄ e₅ e₆ e₇ = is 62 e₆ p62
    at34 false false false false false false true e₁ e₂ e₃ e₄ e₅ e₆ e₇ = is 13 e₇ p13
    at34 false false false false false false false e₁ e₂ e₃ e₄ e₅ e₆ e₇ = other c (rw (e₁, e₂, e₃, e₄, e₅, e₆, e₇) refl) e₄ e₁

-- The first character that is written, and what is written behind it.

abbrev number_by : List ℕ → ℕ
number_by [] = 0
number_by (c ∷ cs) = if c == 48 then 10 else 13

abbrev number_at : List ℕ → ℕ
number_at [] = 0
number_at (c ∷ cs) = if c == 57 then 9 else number_by cs

abbrev referred : List ℕ → ℕ
referred [] = 0
referred (c ∷ cs) =
    if c == 113 then 34 else (if c == 97 then 38 else (if c == 108 then 60 else (if c == 103 then 62 else number_at cs)))

abbrev first_of : List ℕ → ℕ
first_of [] = 0
first_of (c ∷ cs) = if c == 38 then referred cs else c

-- what stands behind the first `;`
abbrev behind : List ℕ → List ℕ
behind [] = []
behind (c ∷ cs) = if c == 59 then cs else behind cs

abbrev rest_of : List ℕ → List ℕ
rest_of [] = []
rest_of (c ∷ cs) = if c == 38 then behind cs else cs

first-is : (c : ℕ) (more : List ℕ) → first_of (put (ae_ref c) c more) ≡ c
first-is = code-cases (λ c. (more : List ℕ) → first_of (put (ae_ref c) c more) ≡ c)
    (λ m. refl) (λ m. refl) (λ m. refl) (λ m. refl) (λ m. refl) (λ m. refl) (λ m. refl)
    (λ c n a q m. ap (λ o. first_of (put o c m)) n ∙ ap (λ b. if b then referred m else c) a)

rest-is : (c : ℕ) (more : List ℕ) → rest_of (put (ae_ref c) c more) ≡ more
rest-is = code-cases (λ c. (more : List ℕ) → rest_of (put (ae_ref c) c more) ≡ more)
    (λ m. refl) (λ m. refl) (λ m. refl) (λ m. refl) (λ m. refl) (λ m. refl) (λ m. refl)
    (λ c n a q m. ap (λ o. rest_of (put o c m)) n ∙ ap (λ b. if b then behind m else m) a)

put-some : (o : Option (List ℕ)) (c : ℕ) (more : List ℕ) → [] ≡ put o c more → ⊥
put-some None c more e = cc
put-some (Some r) c more e = cc

-- values that are written alike are one
ae-one : (a b : List ℕ) → ae a ≡ ae b → a ≡ b
ae-one [] [] e = refl
ae-one [] (d ∷ b) e = absurd (put-some (ae_ref d) d (ae b) e)
ae-one (c ∷ a) [] e = absurd (put-some (ae_ref c) c (ae a) (sym e))
ae-one (c ∷ a) (d ∷ b) e =
    let first : c ≡ d = sym (first-is c (ae a)) ∙ ap first_of e ∙ first-is d (ae b) in
    let rest : ae a ≡ ae b = sym (rest-is c (ae a)) ∙ ap rest_of e ∙ rest-is d (ae b) in
    ap (λ x. x ∷ a) first ∙ ap (λ x. d ∷ x) (ae-one a b rest)

-- Quotes.

abbrev is_plain : ℕ → Bool
is_plain c = not (c == 34)

put-plain : (c : ℕ) (more : List ℕ) → list_all is_plain more ≡ true → list_all is_plain (put (ae_ref c) c more) ≡ true
put-plain = code-cases (λ c. (more : List ℕ) → list_all is_plain more ≡ true → list_all is_plain (put (ae_ref c) c more) ≡ true)
    (λ m h. h) (λ m h. h) (λ m h. h) (λ m h. h) (λ m h. h) (λ m h. h) (λ m h. h)
    (λ c n a q m h. ap (λ o. list_all is_plain (put o c m)) n ∙ ap (λ b. not b && list_all is_plain m) q ∙ h)

ae-plain : (a : List ℕ) → list_all is_plain (ae a) ≡ true
ae-plain [] = refl
ae-plain (c ∷ a) = put-plain c (ae a) (ae-plain a)

quote-plain : (c : ℕ) (t : List ℕ) → list_all is_plain (c ∷ t) ≡ true → 34 ≡ c → ⊥
quote-plain c t h e = let f : list_all is_plain (34 ∷ t) ≡ true = subst (λ d. list_all is_plain (d ∷ t) ≡ true) (sym e) h in cc

until-quote : (u v x y : List ℕ) → list_all is_plain u ≡ true → list_all is_plain v ≡ true → u ++ 34 ∷ x ≡ v ++ 34 ∷ y → (u ≡ v) × (x ≡ y)
until-quote [] [] x y p q e = (refl, cc)
until-quote [] (d ∷ v) x y p q e = absurd (quote-plain d v q (cc))
until-quote (c ∷ u) [] x y p q e = absurd (quote-plain c u p (cc))
until-quote (c ∷ u) (d ∷ v) x y p q e =
    let first : c ≡ d = cc in
    let rest : u ++ 34 ∷ x ≡ v ++ 34 ∷ y = cc in
    let more = until-quote u v x y (and_parts (is_plain c) (list_all is_plain u) p).1 (and_parts (is_plain d) (list_all is_plain v) q).1 rest in
    (ap (λ z. z ∷ u) first ∙ ap (λ z. d ∷ z) more.0, more.1)

value-until : (a b x y : List ℕ) → ae a ++ 34 ∷ x ≡ ae b ++ 34 ∷ y → (a ≡ b) × (x ≡ y)
value-until a b x y e = let z = until-quote (ae a) (ae b) x y (ae-plain a) (ae-plain b) e in (ae-one a b z.0, z.1)

front-same : (p x y : List ℕ) → p ++ x ≡ p ++ y → x ≡ y
front-same [] x y e = e
front-same (c ∷ p) x y e = front-same p x y (cc)

-- Arcs.

abbrev from_front : List ℕ
from_front = codes " xlink:from=\""

abbrev to_front : List ℕ
to_front = codes " xlink:to=\""

abbrev arc_front : List ℕ
arc_front = codes "<link:footnoteArc xlink:type=\"arc\" xlink:arcrole=\""

abbrev arc_end : List ℕ
arc_end = 47 ∷ 62 ∷ []

abbrev behind_to : Arc → List ℕ
behind_to a = attrs_text (attr (codes "order") a.order ∷ []) arc_end

abbrev behind_from : Arc → List ℕ
behind_from a = to_front ++ (ae a.to_id ++ 34 ∷ behind_to a)

abbrev behind_role : Arc → List ℕ
behind_role a = from_front ++ (ae a.from_id ++ 34 ∷ behind_from a)

arc-spelled : (a : Arc) → arc_text a ≡ arc_front ++ (ae a.arcrole ++ 34 ∷ behind_role a)
arc-spelled a = append-nil (arc_front ++ (ae a.arcrole ++ 34 ∷ behind_role a))

-- arcs that are written alike have one arcrole and the same ends
pub record AreAlike (a b : Arc) : Type 0 where
  pub arcrole : a.arcrole ≡ b.arcrole
  pub from : a.from_id ≡ b.from_id
  pub to : a.to_id ≡ b.to_id

pub same-arc : (a b : Arc) → arc_text a ≡ arc_text b → AreAlike a b
same-arc a b e =
    let whole = sym (arc-spelled a) ∙ e ∙ arc-spelled b in
    let role = value-until a.arcrole b.arcrole (behind_role a) (behind_role b) (front-same arc_front _ _ whole) in
    let from = value-until a.from_id b.from_id (behind_from a) (behind_from b) (front-same from_front _ _ role.1) in
    let to = value-until a.to_id b.to_id (behind_to a) (behind_to b) (front-same to_front _ _ from.1) in
    record { arcrole = role.0; from = from.0; to = to.0 }

-- Footnotes.

abbrev note_front : List ℕ
note_front = codes "<link:footnote xlink:type=\"resource\" xlink:label=\""

abbrev behind_label : Footnote → List ℕ
behind_label f =
    attrs_text (attr (codes "xlink:role") f.role ∷ (attr_if (codes "xlink:title") f.title ++ attr (codes "xml:lang") f.lang ∷ [])) (62 ∷ [])

abbrev behind_tag : Footnote → List ℕ
behind_tag f = f.body ++ (close_text (codes "link:footnote") ++ [])

note-spelled : (f : Footnote) → footnote_text f ≡ note_front ++ (ae f.id ++ 34 ∷ (behind_label f ++ behind_tag f))
note-spelled f =
    append_assoc note_front (ae f.id ++ 34 ∷ behind_label f) (behind_tag f)
    ∙ ap (λ x. note_front ++ x) (append_assoc (ae f.id) (34 ∷ behind_label f) (behind_tag f))

-- footnotes that are written alike have one id
pub same-id : (f g : Footnote) → footnote_text f ≡ footnote_text g → f.id ≡ g.id
same-id f g e =
    (value-until f.id g.id (behind_label f ++ behind_tag f) (behind_label g ++ behind_tag g)
    (front-same note_front _ _ (sym (note-spelled f) ∙ e ∙ note-spelled g))).0
