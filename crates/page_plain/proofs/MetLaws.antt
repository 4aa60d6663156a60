-- What was met gains namespaces, one step at a time.
use Rattle.std.proofs.Common.{◌≡◌, ◌∙◌, ℕ, ◌+◌, ◌<◌, not, ◌&&◌, Bool, true, false, List, [], ◌∷◌, ◌++◌, length, drop, get_or, map, refl, sym, ap, subst, inl, inr, append_assoc, append-nil}
use Rattle.std.specs.BTreeMap.{BTreeMap, insert_entry}
use Rattle.std.specs.Borrow.{Bor}
use Rattle.std.specs.List.{Contains}
use Rattle.std.specs.Ordering.{nat_cmp}
use Rattle.std.proofs.lemmas.List.Elements.{Contains-append_cases, Contains-append_left, Contains-append_right}
use Rattle.std.proofs.lemmas.List.{get_or_default, map-append}
use Rattle.ix_base.specs.declared.tree.Attr.{Attr}
use Rattle.ix_base.specs.Once.{SameMembers}
use Rattle.ix_base.specs.Spaces.{AreNumbered, Space}
use Rattle.ix_base.specs.Trees.{Valued, valued}
use Rattle.ix_base.proofs.OnceLemmas.{Contains-cases, Contains-nil, SameMembers-trans}
use Rattle.ix_base.proofs.SpaceParts.{IsPart, numbered-part}
use Rattle.page_plain.specs.Bare.{attr_spaces, is_inline, kept_attrs, needs_prefix}
use Rattle.page_plain.specs.SpaceNumbers.{Meets, attr_spaces as spaces_named, space_met, spaces_met, texts_of}
use Rattle.page_plain.proofs.MemberLaws.{Contains-map, members-append, members-insert, members-map, members-same}
use Rattle.page_plain.proofs.NumberedLaws.{one-space, space-there}
use Rattle.page_plain.proofs.Steps.{front}

-- What is met so far, where these texts are due and those are left of them.
pub record IsMetSoFar (old spaces : List Space) (due left : List (List ℕ)) (now : List Space) : Type 0 where
  pub within : (s : Space) → Contains now s → Contains (old ++ spaces) s
  pub texts : SameMembers (texts_of now ++ left) (texts_of old ++ due)

pub met-start : (old spaces : List Space) (due : List (List ℕ)) → IsMetSoFar old spaces due due old
met-start old spaces due = record {
  within = λ s h. Contains-append_left old spaces s h;
  texts = members-same (texts_of old ++ due) (texts_of old ++ due) refl;
}

pub met-end : (old spaces : List Space) (due left : List (List ℕ)) (now : List Space) → left ≡ [] → IsMetSoFar old spaces due left now → Meets old spaces due now
met-end old spaces due left now none m = record {
  within = m.within;
  gained = SameMembers-trans (texts_of now) (texts_of now ++ left) (texts_of old ++ due)
      (members-same (texts_of now) (texts_of now ++ left) (sym (ap (λ l. texts_of now ++ l) none ∙ append-nil (texts_of now)))) m.texts;
}

-- what was met, with what is met next, is within both
within-both : (old spaces now new : List Space) → ((s : Space) → Contains now s → Contains (old ++ spaces) s) → ((s : Space) → Contains new s → Contains (now ++ spaces) s)
    → (s : Space) → Contains new s → Contains (old ++ spaces) s
within-both old spaces now new f g s h = elim (Contains-append_cases now spaces s (g s h)) [
  | inl k ↦ f s k
  | inr k ↦ Contains-append_right old spaces s k
]

pub met-step : (old spaces : List Space) (due left more texts : List (List ℕ)) (now new : List Space) → left ≡ texts ++ more
    → Meets now spaces texts new → IsMetSoFar old spaces due left now → IsMetSoFar old spaces due more new
met-step old spaces due left more texts now new e g m = record {
  within = within-both old spaces now new m.within g.within;
  texts = SameMembers-trans (texts_of new ++ more) ((texts_of now ++ texts) ++ more) (texts_of old ++ due)
      (members-append (texts_of new) (texts_of now ++ texts) more g.gained)
      (SameMembers-trans ((texts_of now ++ texts) ++ more) (texts_of now ++ left) (texts_of old ++ due)
      (members-same ((texts_of now ++ texts) ++ more) (texts_of now ++ left) (append_assoc (texts_of now) texts more ∙ ap (λ l. texts_of now ++ l) (sym e)))
      m.texts);
}

pub meets-none : (old spaces : List Space) (due : List (List ℕ)) (now : List Space) → now ≡ old → due ≡ [] → Meets old spaces due now
meets-none old spaces due now same none = met-end old spaces due due now none
    (subst (IsMetSoFar old spaces due due) (sym same) (met-start old spaces due))

-- of more namespaces
pub meets-part : (old all part : List Space) (due texts : List (List ℕ)) (now : List Space) → IsPart all part → due ≡ texts → Meets old part texts now → Meets old all due now
meets-part old all part due texts now in_all e m = record {
  within = λ s h. elim (Contains-append_cases old part s (m.within s h)) [
    | inl k ↦ Contains-append_left old all s k
    | inr k ↦ Contains-append_right old all s (in_all s k)
  ];
  gained = subst (λ t. SameMembers (texts_of now) (texts_of old ++ t)) (sym e) m.gained;
}

pub meets-both : (old all first later : List Space) (due texts more : List (List ℕ)) (now new : List Space) → IsPart all first → IsPart all later → due ≡ texts ++ more
    → Meets old first texts now → Meets now later more new → Meets old all due new
meets-both old all first later due texts more now new f l e m g =
    met-end old all due [] new refl
    (met-step old all due more [] more now new (sym (append-nil more)) (meets-part now all later more more new l refl g)
    (met-step old all due due more texts old now e (meets-part old all first texts texts now f refl m) (met-start old all due)))

-- what is next is numbered with what was met
pub met-numbered : (old all part now : List Space) → ((s : Space) → Contains now s → Contains (old ++ all) s) → IsPart all part
    → AreNumbered (old ++ all) → AreNumbered (now ++ part)
met-numbered old all part now within in_all h = numbered-part (old ++ all) (now ++ part) (λ s c. elim (Contains-append_cases now part s c) [
  | inl k ↦ within s k
  | inr k ↦ Contains-append_right old all s (in_all s k)
]) h

-- one is put in
pub met-put : (old new : BTreeMap ℕ (Bor (List ℕ))) (number : ℕ) (ns : Bor (List ℕ)) (spaces : List Space) → new.entries ≡ insert_entry nat_cmp old.entries number ns
    → Contains spaces (space_met (number, ns)) → AreNumbered (spaces_met old ++ spaces) → Meets (spaces_met old) spaces (ns.now ∷ []) (spaces_met new)
met-put old new number ns spaces put there h =
    let x : Space = space_met (number, ns) in
    let own : Contains (spaces_met old ++ spaces) x = Contains-append_right (spaces_met old) spaces x there in
    let put_in : SameMembers (map space_met (insert_entry nat_cmp old.entries number ns)) (spaces_met old ++ x ∷ []) =
    members-insert space_met number ns old.entries (λ e c same. one-space (spaces_met old ++ spaces) h (space_met e) x
    (Contains-append_left (spaces_met old) spaces (space_met e) (Contains-map space_met old.entries e c)) own same) in
    let members : SameMembers (spaces_met new) (spaces_met old ++ x ∷ []) =
    subst (λ es. SameMembers (map space_met es) (spaces_met old ++ x ∷ [])) (sym put) put_in in
    record {
      within = λ s c. elim (Contains-append_cases (spaces_met old) (x ∷ []) s (members.there s c)) [
        | inl k ↦ Contains-append_left (spaces_met old) spaces s k
        | inr k ↦ elim (Contains-cases x [] s k) [
          | inl e ↦ subst (λ z. Contains (spaces_met old ++ spaces) z) e own
          | inr none ↦ absurd (Contains-nil s none)
        ]
      ];
      gained = subst (λ t. SameMembers (texts_of (spaces_met new)) t) (map-append (λ s. s.text) (spaces_met old) (x ∷ []))
          (members-map (λ s. s.text) (spaces_met new) (spaces_met old ++ x ∷ []) members);
    }

-- an attribute
wanted : (a : Valued) (more : List Valued) → (not (is_inline a.name) && needs_prefix a.name.ns) ≡ true
    → attr_spaces (kept_attrs (a ∷ more)) ≡ a.name.ns ∷ attr_spaces (kept_attrs more)
wanted a more = by (is_inline a.name) (needs_prefix a.name.ns) refl refl where
  by : (i n : Bool) → is_inline a.name ≡ i → needs_prefix a.name.ns ≡ n → (not i && n) ≡ true → attr_spaces (kept_attrs (a ∷ more)) ≡ a.name.ns ∷ attr_spaces (kept_attrs more)
  by true n e f h = absurd (cc)
  by false true e f h = rw (e, f) refl
  by false false e f h = absurd (cc)

unwanted : (a : Valued) (more : List Valued) → (not (is_inline a.name) && needs_prefix a.name.ns) ≡ false → attr_spaces (kept_attrs (a ∷ more)) ≡ attr_spaces (kept_attrs more)
unwanted a more = by (is_inline a.name) (needs_prefix a.name.ns) refl refl where
  by : (i n : Bool) → is_inline a.name ≡ i → needs_prefix a.name.ns ≡ n → (not i && n) ≡ false → attr_spaces (kept_attrs (a ∷ more)) ≡ attr_spaces (kept_attrs more)
  by true n e f h = rw e refl
  by false true e f h = absurd (cc)
  by false false e f h = rw (e, f) refl

left-attrs : (attrs : List Attr) (i : ℕ) (d : Attr) → i < length attrs
    → attr_spaces (kept_attrs (map valued (drop i attrs))) ≡ attr_spaces (kept_attrs (valued (get_or attrs i d) ∷ map valued (drop (i + 1) attrs)))
left-attrs attrs i d l =
    let a = get_or attrs i d in
    ap (λ xs. attr_spaces (kept_attrs (map valued xs))) (front attrs i a l (get_or_default attrs i d a l))

pub attr-put : (attrs : List Attr) (i : ℕ) (d : Attr) (old : List Space) (now new : BTreeMap ℕ (Bor (List ℕ))) (due : List (List ℕ)) → i < length attrs
    → (not (is_inline (valued (get_or attrs i d)).name) && needs_prefix (valued (get_or attrs i d)).name.ns) ≡ true
    → new.entries ≡ insert_entry nat_cmp now.entries (get_or attrs i d).name.now.number (get_or attrs i d).name.now.ns → AreNumbered (old ++ spaces_named attrs)
    → IsMetSoFar old (spaces_named attrs) due (attr_spaces (kept_attrs (map valued (drop i attrs)))) (spaces_met now)
    → IsMetSoFar old (spaces_named attrs) due (attr_spaces (kept_attrs (map valued (drop (i + 1) attrs)))) (spaces_met new)
attr-put attrs i d old now new due l own put h m =
    let a = get_or attrs i d in
    let all = spaces_named attrs in
    met-step old all due (attr_spaces (kept_attrs (map valued (drop i attrs)))) (attr_spaces (kept_attrs (map valued (drop (i + 1) attrs))))
    (a.name.now.ns.now ∷ []) (spaces_met now) (spaces_met new) (left-attrs attrs i d l ∙ wanted (valued a) (map valued (drop (i + 1) attrs)) own)
    (met-put now new a.name.now.number a.name.now.ns all put (space-there attrs i d l) (met-numbered old all all (spaces_met now) m.within (λ s c. c) h)) m

pub attr-left : (attrs : List Attr) (i : ℕ) (d : Attr) (old now new : List Space) (due : List (List ℕ)) → i < length attrs
    → (not (is_inline (valued (get_or attrs i d)).name) && needs_prefix (valued (get_or attrs i d)).name.ns) ≡ false → new ≡ now
    → IsMetSoFar old (spaces_named attrs) due (attr_spaces (kept_attrs (map valued (drop i attrs)))) now
    → IsMetSoFar old (spaces_named attrs) due (attr_spaces (kept_attrs (map valued (drop (i + 1) attrs)))) new
attr-left attrs i d old now new due l own same m =
    met-step old (spaces_named attrs) due (attr_spaces (kept_attrs (map valued (drop i attrs)))) (attr_spaces (kept_attrs (map valued (drop (i + 1) attrs))))
    [] now new (left-attrs attrs i d l ∙ unwanted (valued (get_or attrs i d)) (map valued (drop (i + 1) attrs)) own)
    (meets-none now (spaces_named attrs) [] new same refl) m

-- all that was met below a root, and the prefixes with it
pub met-whole : (root met : List Space) (due : List (List ℕ)) → Meets [] root due met → AreNumbered root → AreNumbered met
met-whole root met due m h = numbered-part root met m.within h

pub met-prefixed : (root met prefixed : List Space) (due : List (List ℕ)) → Meets [] root due met → SameMembers prefixed met → AreNumbered root → AreNumbered (prefixed ++ root)
met-prefixed root met prefixed due m same h = numbered-part root (prefixed ++ root) (λ s c. elim (Contains-append_cases prefixed root s c) [
  | inl k ↦ m.within s (same.there s k)
  | inr k ↦ k
]) h
