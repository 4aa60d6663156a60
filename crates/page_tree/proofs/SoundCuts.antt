-- The characters of constructs are allowed ones, where those of the page are.
use Rattle.std.proofs.Common.{◌≡◌, ◌⊎◌, inl, inr, ℕ, suc, zero, ◌+◌, ◌<◌, ◌==◌, Bool, true, false, ◌&&◌, ◌||◌, if◌then◌else◌, List, [], ◌∷◌, ◌++◌, length, take, drop, Option, Some, None, option_map, refl, sym, ap, ◌∙◌, subst, arith, append_assoc, append-nil, codes, take-append-drop}
use Rattle.std.proofs.lemmas.List.{take-map, drop-map}
use Rattle.std.proofs.Math.Seq.{take-nil, drop-nil, drop-length}
use Rattle.std.proofs.lemmas.Bool.Decides.{nat_tests}
use Rattle.ix_base.specs.NcName.{is_white, are_allowed}
use Rattle.page_constructs.specs.Constructs.{starts, text_size, reference_size, kind_of, size_by, size, is_run, settled_or, whole_size, Byte, values, Construct, cut_at, cut_from}
use Rattle.page_constructs.specs.Forms.{between}
use Rattle.page_constructs.specs.declared.kind.Kind.{Kind}
use Rattle.page_constructs.specs.declared.kind.Kind.TheVariants.{Declaration, Instruction, Comment, Cdata, Doctype, Unknown, EndTag, StartTag, Reference, Text}
use Rattle.page_constructs.proofs.AllowedText.{allowed-nil, allowed-before, allowed-through, allowed-behind}
use Rattle.page_tree.proofs.EndLaws.{front_of, kind-starts, kind-ends, map-suc, map-behind, found-behind, ends-behind}
use Rattle.page_constructs.specs.Ends.{HasEnds}
use Rattle.page_constructs.proofs.SpanLaws.{one_number}

-- the first k bytes end with an ASCII byte, or one follows them, or nothing does
pub record Through (k : ℕ) (cs : List ℕ) : Type 0 where
  pub front : List ℕ
  pub last : ℕ
  pub low : last < 128
  pub is : take k cs ≡ front ++ last ∷ []

pub record Before (k : ℕ) (cs : List ℕ) : Type 0 where
  pub next : ℕ
  pub more : List ℕ
  pub low : next < 128
  pub is : drop k cs ≡ next ∷ more

abbrev pub PartsWell : ℕ → List ℕ → Type 0
PartsWell k cs = Through k cs ⊎ (Before k cs ⊎ (drop k cs ≡ []))

pub parted-allowed : (k : ℕ) (cs : List ℕ) → PartsWell k cs → are_allowed cs ≡ true → (are_allowed (take k cs) ≡ true) × (are_allowed (drop k cs) ≡ true)
parted-allowed k cs (inl t) a =
    let whole : t.front ++ t.last ∷ drop k cs ≡ cs = sym (append_assoc t.front (t.last ∷ []) (drop k cs)) ∙ ap (λ x. x ++ drop k cs) (sym t.is) ∙ take-append-drop k cs in
    let b : are_allowed (t.front ++ t.last ∷ drop k cs) ≡ true = ap are_allowed whole ∙ a in
    (ap are_allowed t.is ∙ allowed-through t.front t.last (drop k cs) t.low b, allowed-behind t.front t.last (drop k cs) t.low b)
parted-allowed k cs (inr (inl n)) a =
    let whole : take k cs ++ n.next ∷ n.more ≡ cs = ap (λ x. take k cs ++ x) (sym n.is) ∙ take-append-drop k cs in
    let z = allowed-before (take k cs) n.next n.more n.low (ap are_allowed whole ∙ a) in
    (z.0, ap are_allowed n.is ∙ z.1)
parted-allowed k cs (inr (inr e)) a =
    let whole : take k cs ≡ cs = sym (append-nil (take k cs)) ∙ ap (λ x. take k cs ++ x) (sym e) ∙ take-append-drop k cs in
    (ap are_allowed whole ∙ a, ap are_allowed e ∙ allowed-nil)

-- a text or a reference goes on to a byte in ASCII, or ends with its `;`
text-parts : (cs : List ℕ) (k : ℕ) → text_size cs ≡ Some k → Before k cs
text-parts [] k e = absurd (cc)
text-parts (c ∷ cs) k e = by_stop (λ j. text-parts cs j) (c == 60 || c == 38) refl e where
  low : (c : ℕ) → (c == 60 || c == 38) ≡ true → c < 128
  low c h = grind (arith, nat_tests)

  by_stop : ((j : ℕ) → text_size cs ≡ Some j → Before j cs) → (b : Bool) → (c == 60 || c == 38) ≡ b → (if b then Some 0 else option_map suc (text_size cs)) ≡ Some k → Before k (c ∷ cs)
  by_stop ih true h e = let z : 0 ≡ k = cc in subst (λ n. Before n (c ∷ cs)) z (record { next = c; more = cs; low = low c h; is = refl })
  by_stop ih false h e =
      let m = map-suc (text_size cs) k e in let y = ih m.0 m.1 in
      subst (λ n. Before n (c ∷ cs)) m.2 (record { next = y.next; more = y.more; low = y.low; is = y.is })

reference-parts : (cs : List ℕ) (k : ℕ) → reference_size cs ≡ Some k → Through k cs ⊎ Before k cs
reference-parts [] k e = absurd (cc)
reference-parts (c ∷ cs) k e = by_end (λ j. reference-parts cs j) (c == 59) refl e where
  low : (c : ℕ) → (is_white c || c == 60 || c == 38) ≡ true → c < 128
  low c h = grind (arith, nat_tests)

  next : (j : ℕ) → Through j cs ⊎ Before j cs → Through (suc j) (c ∷ cs) ⊎ Before (suc j) (c ∷ cs)
  next j (inl y) = inl (record { front = c ∷ y.front; last = y.last; low = y.low; is = ap (λ x. c ∷ x) y.is })
  next j (inr y) = inr (record { next = y.next; more = y.more; low = y.low; is = y.is })

  by_stop : ((j : ℕ) → reference_size cs ≡ Some j → Through j cs ⊎ Before j cs) → (b : Bool) → (is_white c || c == 60 || c == 38) ≡ b → (if b then Some 0 else option_map suc (reference_size cs)) ≡ Some k
      → Through k (c ∷ cs) ⊎ Before k (c ∷ cs)
  by_stop ih true h e = let z : 0 ≡ k = cc in subst (λ n. Through n (c ∷ cs) ⊎ Before n (c ∷ cs)) z (inr (record { next = c; more = cs; low = low c h; is = refl }))
  by_stop ih false h e =
      let m = map-suc (reference_size cs) k e in subst (λ n. Through n (c ∷ cs) ⊎ Before n (c ∷ cs)) m.2 (next m.0 (ih m.0 m.1))

  by_end : ((j : ℕ) → reference_size cs ≡ Some j → Through j cs ⊎ Before j cs) → (b : Bool) → (c == 59) ≡ b
      → (if b then Some 1 else (if is_white c || c == 60 || c == 38 then Some 0 else option_map suc (reference_size cs))) ≡ Some k → Through k (c ∷ cs) ⊎ Before k (c ∷ cs)
  by_end ih true h e =
      let z : 1 ≡ k = cc in
      subst (λ n. Through n (c ∷ cs) ⊎ Before n (c ∷ cs)) z (inl (record { front = []; last = c; low = subst (λ x. x < 128) (sym (one_number c 59 h)) (omega arith); is = refl }))
  by_end ih false h e = by_stop ih (is_white c || c == 60 || c == 38) refl e

-- behind the first byte
behind-first : (c : ℕ) (cs : List ℕ) (k : ℕ) → Through k cs ⊎ Before k cs → PartsWell (suc k) (c ∷ cs)
behind-first c cs k (inl y) = inl (record { front = c ∷ y.front; last = y.last; low = y.low; is = ap (λ x. c ∷ x) y.is })
behind-first c cs k (inr y) = inr (inl (record { next = y.next; more = y.more; low = y.low; is = y.is }))

no-end : {A : Type 0} (front : List ℕ) (last : ℕ) → [] ≡ front ++ last ∷ [] → A
no-end [] last e = absurd (cc)
no-end (c ∷ front) last e = absurd (cc)

take-one : (c : ℕ) (more : List ℕ) → [] ≡ c ∷ more → [] ≡ c ∷ []
take-one c more e = absurd (cc)

run-parts : (kind : Kind) (cs : List ℕ) (k j : ℕ) → k ≡ j + 1 → Through j (drop 1 cs) ⊎ Before j (drop 1 cs) → PartsWell k cs
run-parts kind [] k j e (inl t) = no-end t.front t.last (sym (take-nil j) ∙ t.is)
run-parts kind [] k j e (inr n) = no-end [] n.next (take-one n.next n.more (sym (drop-nil j) ∙ n.is))
run-parts kind (c ∷ cs) k j e h = let z : suc j ≡ k = omega arith in subst (λ n. PartsWell n (c ∷ cs)) z (behind-first c cs j h)

-- what ends with `>`
pointed : (front inner : List ℕ) (ends : List ℕ) (k : ℕ) (cs : List ℕ) → take k cs ≡ between front inner (ends ++ 62 ∷ []) → PartsWell k cs
pointed front inner ends k cs e =
    inl (record {
      front = front ++ (inner ++ ends);
      last = 62;
      low = omega arith;
      is = e ∙ ap (λ x. front ++ x) (sym (append_assoc inner ends (62 ∷ []))) ∙ sym (append_assoc front (inner ++ ends) (62 ∷ []));
    })

size-parts : (kind : Kind) (cs : List ℕ) (k : ℕ) → starts (front_of kind) cs ≡ true → size_by kind cs ≡ Some k → PartsWell k cs
unfolding size_by
size-parts Declaration cs k s e = let h = kind-ends cs k Declaration s e in pointed (codes "<?xml") h.0 (codes "?") k cs h.1
size-parts Instruction cs k s e = by_case (kind-ends cs k Instruction s e) where
  by_case : HasEnds Instruction (take k cs) → PartsWell k cs
  by_case (inl h) = pointed (codes "<?") h.0 (codes "?") k cs h.1
  by_case (inr h) = inl (record { front = codes "<?"; last = 62; low = omega arith; is = h })
size-parts Comment cs k s e = let h = kind-ends cs k Comment s e in pointed (codes "<!--") h.0 (codes "--") k cs h.1
size-parts Cdata cs k s e = let h = kind-ends cs k Cdata s e in pointed (codes "<![CDATA[") h.0 (codes "]]") k cs h.1
size-parts Doctype cs k s e = let h = kind-ends cs k Doctype s e in pointed (codes "<!DOCTYPE") h.0 [] k cs h.1
size-parts Unknown cs k s e = let h = ends-behind (codes "<!") (codes ">") cs k s (found-behind (codes ">") 2 cs k e) in pointed (codes "<!") h.0 [] k cs h.1
size-parts EndTag cs k s e = let h = kind-ends cs k EndTag s e in pointed (codes "</") h.0 [] k cs h.1
size-parts StartTag cs k s e = let h = kind-ends cs k StartTag s e in pointed (codes "<") h.0 [] k cs h.1
size-parts Reference cs k s e = let m = map-behind 1 (reference_size (drop 1 cs)) k e in run-parts Reference cs k m.0 m.2 (reference-parts (drop 1 cs) m.0 m.1)
size-parts Text cs k s e = let m = map-behind 1 (text_size (drop 1 cs)) k e in run-parts Text cs k m.0 m.2 (inr (text-parts (drop 1 cs) m.0 m.1))

pub whole-parts : (ended first : Bool) (cs : List ℕ) (k : ℕ) → whole_size ended first cs ≡ Some k → PartsWell k cs
whole-parts ended first cs k e = by_size (size first cs) refl e where
  by_run : (b : Bool) → (if b then Some (length cs) else None) ≡ Some k → PartsWell k cs
  by_run true q = let z : length cs ≡ k = cc in inr (inr (ap (λ n. drop n cs) (sym z) ∙ drop-length cs))
  by_run false q = absurd (cc)

  by_size : (o : Option ℕ) → size first cs ≡ o → settled_or o (ended && is_run cs) (length cs) ≡ Some k → PartsWell k cs
  by_size (Some j) s q = let same : j ≡ k = cc in size-parts (kind_of first cs) cs k (kind-starts first cs) (s ∙ ap Some same)
  by_size None s q = by_run (ended && is_run cs) q

-- each construct's characters are allowed ones
abbrev pub AreAllowed : List Construct → Type 0
AreAllowed [] = Unit {0}
AreAllowed (c ∷ cs) = (are_allowed c.text ≡ true) × AreAllowed cs

pub cut-allowed : (n : ℕ) (ended first : Bool) (us : List Byte) → are_allowed (values us) ≡ true → AreAllowed (cut_from n ended first us).constructs
unfolding cut_from
cut-allowed zero ended first us a = tt
cut-allowed (suc n) ended first us a = (elim (whole_size ended first (values us)) as (λ o. whole_size ended first (values us) ≡ o → AreAllowed (cut_at o first us (cut_from n ended false)).constructs) [
  | None ↦ λ e. tt
  | Some k ↦ λ e. (let z = parted-allowed k (values us) (whole-parts ended first (values us) k e) a in
      (ap are_allowed (sym (take-map (λ u. u.value) k us)) ∙ z.0, cut-allowed n ended false (drop k us) (ap are_allowed (sym (drop-map (λ u. u.value) k us)) ∙ z.1)))
]) refl
