-- The root's scope knows the prefixes that the root declares.
use Rattle.std.proofs.Common.{◌≡◌, ◌∙◌, ℕ, suc, ◌+◌, ◌<◌, ◌==◌, Bool, true, false, ◌||◌, cond, List, [], ◌∷◌, ◌++◌, map, Some, None, is_some, refl, sym, ap, subst, bytes_eq, codes, arith, inl, inr}
use Rattle.std.specs.List.{list_all, list_any, filter_map}
use Rattle.std.specs.Int.Digits.{digits_of, AllBelowBase}
use Rattle.std.specs.Ordering.{is_lt, nat_cmp}
use Rattle.std.specs.Cmp.Lexicographic.{slice_cmp}
use Rattle.std.proofs.lemmas.Bool.{lt-ltb, or_left, or_right}
use Rattle.std.proofs.lemmas.Bool.Decides.{nat_tests}
use Rattle.std.proofs.lemmas.Int.Digits.{all_below_base_digits_of, same_from_digits_of}
use Rattle.std.specs.Str.{chars as chars_of, is_utf8}
use lib.Utf8.{encode}
use Rattle.ix_base.specs.declared.content.OwnName.{OwnName}
use Rattle.ix_base.specs.NcName.{is_ncname, is_name_start, is_name_char}
use Rattle.ix_base.specs.Namespaces.{xml_namespace, iso4217_namespace, link_namespace, xbrldi_namespace, xbrli_namespace, xlink_namespace, xsi_namespace}
use Rattle.ix_base.specs.Scope.{namespace_of, bound_over, declared_over, scope_under, outermost}
use Rattle.ix_base.specs.Trees.{Bound}
use Rattle.instance_lines.specs.Prefixes.{xml, fixed, numeral, numbered, declared_for, declaration, prefix_in, is_known, with_space, spaces_of}
use Rattle.page_tree.specs.Tags.{binding_of}
use Rattle.page_constructs.proofs.AllowedText.{is_low, low-ncname}
use Rattle.page_constructs.proofs.SpanLaws.{bytes-one, bytes-same, bytes-apart, either}
use Rattle.instance_lines.specs.Canonical.{Spaces, root}
use Rattle.page_tree.specs.Spellings.{read as meant}
use Rattle.page_tree.specs.FineMarkup.{scope_in}
use Rattle.instance_out.specs.GoodMarkup.{declared_scope}
use Rattle.instance_out.proofs.NameLaws.{Knows, is_listed}
use Rattle.instance_out.proofs.RunLaws.{Each}

-- A binding put over a scope.

pub over-same : (scope : List Bound) (b : Bound) → namespace_of (bound_over scope b) b.prefix ≡ Some b.ns
over-same [] b = rw (bytes-same b.prefix) refl
over-same (x ∷ scope) b = by (bytes_eq x.prefix b.prefix) (is_lt (slice_cmp nat_cmp b.prefix x.prefix)) refl (over-same scope b)
  where
    by : (s l : Bool) → bytes_eq x.prefix b.prefix ≡ s → namespace_of (bound_over scope b) b.prefix ≡ Some b.ns
        → namespace_of (cond s (b ∷ scope) (cond l (b ∷ x ∷ scope) (x ∷ bound_over scope b))) b.prefix ≡ Some b.ns
    by true l e ih = rw (bytes-same b.prefix) refl
    by false true e ih = rw (bytes-same b.prefix) refl
    by false false e ih = rw e ih

pub over-kept : (scope : List Bound) (b : Bound) (p : List ℕ) → bytes_eq b.prefix p ≡ false → namespace_of (bound_over scope b) p ≡ namespace_of scope p
over-kept [] b p a = rw a refl
over-kept (x ∷ scope) b p a = by (bytes_eq x.prefix b.prefix) (is_lt (slice_cmp nat_cmp b.prefix x.prefix)) refl (over-kept scope b p a)
  where
    by : (s l : Bool) → bytes_eq x.prefix b.prefix ≡ s → namespace_of (bound_over scope b) p ≡ namespace_of scope p
        → namespace_of (cond s (b ∷ scope) (cond l (b ∷ x ∷ scope) (x ∷ bound_over scope b))) p ≡ namespace_of (x ∷ scope) p
    by true l e ih = let o : bytes_eq x.prefix p ≡ false = ap (λ q. bytes_eq q p) (bytes-one x.prefix b.prefix e) ∙ a in rw (a, o) refl
    by false true e ih = rw a refl
    by false false e ih = ap (λ o. cond (bytes_eq x.prefix p) (Some x.ns) o) ih

-- Declarations.

declared-bindings : (ds : List Bound) → filter_map binding_of (map meant (map declaration ds)) ≡ ds
declared-bindings [] = refl
declared-bindings (d ∷ ds) = ap (λ x. d ∷ x) (declared-bindings ds)

-- none of them has this prefix, and none is empty
abbrev pub AreOther : List ℕ → List Bound → Type 0
AreOther p ds = Each (λ d. (bytes_eq d.prefix p ≡ false) × (bytes_eq d.prefix [] ≡ false)) ds

declared-put : (scope : List Bound) (d : Bound) → bytes_eq d.prefix [] ≡ false → declared_over scope d ≡ bound_over scope d
declared-put scope d e = rw e refl

under-kept : (ds : List Bound) (scope : List Bound) (p : List ℕ) → AreOther p ds → namespace_of (scope_under scope ds) p ≡ namespace_of scope p
under-kept [] scope p h = refl
under-kept (d ∷ ds) scope p (h, hs) = ap (λ x. namespace_of (scope_under x ds) p) (declared-put scope d h.1) ∙ (under-kept ds (bound_over scope d) p hs ∙ over-kept scope d p h.0)

abbrev pub AreFresh : List Bound → Type 0
AreFresh [] = Unit {0}
AreFresh (d ∷ ds) = (bytes_eq d.prefix [] ≡ false) × AreOther d.prefix ds × AreFresh ds

under-found : (ds : List Bound) (scope : List Bound) (ns p : List ℕ) → AreFresh ds → prefix_in ds ns ≡ Some p → namespace_of (scope_under scope ds) p ≡ Some ns
under-found [] scope ns p h e = absurd (cc)
under-found (d ∷ ds) scope ns p (some, other, rest) e = ap (λ x. namespace_of (scope_under x ds) p) (declared-put scope d some) ∙ (by (bytes_eq ns d.ns) refl e (under-found ds (bound_over scope d) ns p rest))
  where
    by : (b : Bool) → bytes_eq ns d.ns ≡ b → cond b (Some d.prefix) (prefix_in ds ns) ≡ Some p
        → (prefix_in ds ns ≡ Some p → namespace_of (scope_under (bound_over scope d) ds) p ≡ Some ns)
        → namespace_of (scope_under (bound_over scope d) ds) p ≡ Some ns
    by true s e ih =
        let q : d.prefix ≡ p = cc in
        subst (λ x. namespace_of (scope_under (bound_over scope d) ds) x ≡ Some ns) q
        (under-kept ds (bound_over scope d) d.prefix other ∙ over-same scope d ∙ ap Some (sym (bytes-one ns d.ns s)))
    by false s e ih = ih e

some-same : (a b : List ℕ) → Some a ≡ Some b → a ≡ b
some-same a b e = cc

-- The numbered prefixes.

moved : (ds es : List ℕ) → map (λ d. 48 + d) ds ≡ map (λ d. 48 + d) es → ds ≡ es
moved [] [] e = refl
moved [] (x ∷ es) e = absurd (cc)
moved (d ∷ ds) [] e = absurd (cc)
moved (d ∷ ds) (x ∷ es) e =
    let h : 48 + d ≡ 48 + x = cc in
    let t : map (λ d. 48 + d) ds ≡ map (λ d. 48 + d) es = cc in
    let r = moved ds es t in
    let q : d ≡ x = omega arith in cc

numeral-same : (m n : ℕ) → numeral m ≡ numeral n → m ≡ n
numeral-same m n e = same_from_digits_of 10 m n (omega arith) (moved (digits_of 10 m) (digits_of 10 n) e)

later-other : (k j : ℕ) → k < j → (ss : Spaces) → AreOther (110 ∷ numeral k) (numbered j ss)
later-other k j h [] = tt
later-other k j h (s ∷ ss) =
    ((bytes-apart (110 ∷ numeral j) (110 ∷ numeral k) (λ e. (let y : numeral j ≡ numeral k = cc in let x : j ≡ k = numeral-same j k y in absurd (omega arith))), refl), later-other k (suc j) (omega arith) ss)

numbered-fresh : (k : ℕ) (ss : Spaces) → AreFresh (numbered k ss)
numbered-fresh k [] = tt
numbered-fresh k (s ∷ ss) = (refl, later-other k (suc k) (omega arith) ss, numbered-fresh (suc k) ss)

-- a prefix that doesn't begin with `n`
numbered-other : (c : ℕ) (cs : List ℕ) → (110 == c) ≡ false → (k : ℕ) (ss : Spaces) → AreOther (c ∷ cs) (numbered k ss)
numbered-other c cs e k [] = tt
numbered-other c cs e k (s ∷ ss) = ((rw e refl, refl), numbered-other c cs e (suc k) ss)

numbered-none : (k : ℕ) (ss : Spaces) → AreOther [] (numbered k ss)
numbered-none k [] = tt
numbered-none k (s ∷ ss) = ((refl, refl), numbered-none (suc k) ss)

abbrev Twice : Type 0
Twice = (false ≡ false) × (false ≡ false)

pub declared-fresh : (ss : Spaces) → AreFresh (declared_for ss)
unfolding fixed
declared-fresh ss =
    let r : Twice = (refl, refl) in (
      refl,
      (r, (r, (r, (r, (r, numbered-other 105 (115 ∷ 111 ∷ 52 ∷ 50 ∷ 49 ∷ 55 ∷ []) refl 1 ss))))),
      (
        refl,
        (r, (r, (r, (r, numbered-other 108 (105 ∷ 110 ∷ 107 ∷ []) refl 1 ss)))),
        (
          refl,
          (r, (r, (r, numbered-other 120 (98 ∷ 114 ∷ 108 ∷ 100 ∷ 105 ∷ []) refl 1 ss))),
          (
            refl,
            (r, (r, numbered-other 120 (98 ∷ 114 ∷ 108 ∷ 105 ∷ []) refl 1 ss)),
            (
              refl,
              (r, numbered-other 120 (108 ∷ 105 ∷ 110 ∷ 107 ∷ []) refl 1 ss),
              (refl, numbered-other 120 (115 ∷ 105 ∷ []) refl 1 ss, numbered-fresh 1 ss),
            ),
          ),
        ),
      ),
    )

declared-xml : (ss : Spaces) → AreOther (codes "xml") (declared_for ss)
unfolding fixed
declared-xml ss = let r : Twice = (refl, refl) in (r, (r, (r, (r, (r, (r, numbered-other 120 (109 ∷ 108 ∷ []) refl 1 ss))))))

declared-some : (ss : Spaces) → AreOther [] (declared_for ss)
unfolding fixed
declared-some ss = let r : Twice = (refl, refl) in (r, (r, (r, (r, (r, (r, numbered-none 1 ss))))))

-- All prefixes are names.

digits-low : (ds : List ℕ) → AllBelowBase 10 ds → (list_all is_low (map (λ d. 48 + d) ds) ≡ true) × (list_all is_name_char (map (λ d. 48 + d) ds) ≡ true)
unfolding is_name_char
digits-low [] h = (refl, refl)
digits-low (d ∷ ds) h = let q = digits-low ds h.1 in (rw (low d h.0, q.0) refl, rw (char d h.0, q.1) refl)
  where
    low : (d : ℕ) → d < 10 → is_low (48 + d) ≡ true
    low d h = lt-ltb (48 + d) 128 (omega arith)

    char : (d : ℕ) → d < 10 → is_name_char (48 + d) ≡ true
    char d h = grind (arith, nat_tests)

pub numbered-name : (k : ℕ) → is_ncname (110 ∷ numeral k) ≡ true
unfolding is_name_start
numbered-name k = let q = digits-low (digits_of 10 k) (all_below_base_digits_of 10 k (omega arith)) in low-ncname (110 ∷ numeral k) q.0 q.1

abbrev AreNames : List Bound → Type 0
AreNames ds = Each (λ d. is_ncname d.prefix ≡ true) ds

numbered-names : (k : ℕ) (ss : Spaces) → AreNames (numbered k ss)
numbered-names k [] = tt
numbered-names k (s ∷ ss) = (numbered-name k, numbered-names (suc k) ss)

pub declared-names : (ss : Spaces) → AreNames (xml ∷ declared_for ss)
unfolding xml fixed is_ncname is_name_start is_name_char chars_of is_utf8 encode
declared-names ss = (refl, (refl, (refl, (refl, (refl, (refl, (refl, numbered-names 1 ss)))))))

pub prefix-name : (ds : List Bound) (ns p : List ℕ) → AreNames ds → prefix_in ds ns ≡ Some p → is_ncname p ≡ true
prefix-name [] ns p h e = absurd (cc)
prefix-name (d ∷ ds) ns p (h, hs) e = by (bytes_eq ns d.ns) e (prefix-name ds ns p hs)
  where
    by : (b : Bool) → cond b (Some d.prefix) (prefix_in ds ns) ≡ Some p → (prefix_in ds ns ≡ Some p → is_ncname p ≡ true) → is_ncname p ≡ true
    by true e ih = let q : d.prefix ≡ p = cc in subst (λ x. is_ncname x ≡ true) q h
    by false e ih = ih e

-- no namespace is empty
abbrev pub AreFilled : Spaces → Type 0
AreFilled ss = Each (λ s. bytes_eq [] s ≡ false) ss

numbered-bare : (k : ℕ) (ss : Spaces) → AreFilled ss → prefix_in (numbered k ss) [] ≡ None
numbered-bare k [] h = refl
numbered-bare k (s ∷ ss) (h, hs) = rw h (numbered-bare (suc k) ss hs)

declared-bare : (ss : Spaces) → AreFilled ss → prefix_in (xml ∷ declared_for ss) [] ≡ None
unfolding xml fixed xml_namespace iso4217_namespace link_namespace xbrldi_namespace xbrli_namespace xlink_namespace xsi_namespace
declared-bare ss h = numbered-bare 1 ss h

-- the scope of a root that declares these prefixes
abbrev pub root_scope : Spaces → List Bound
root_scope ss = scope_in outermost root (map declaration (declared_for ss))

pub root-scope : (ss : Spaces) → root_scope ss ≡ declared_scope ss
unfolding declared_scope
root-scope ss = ap (scope_under outermost) (declared-bindings (declared_for ss))

pub bound-prefix : (ss : Spaces) (ns p : List ℕ) → prefix_in (xml ∷ declared_for ss) ns ≡ Some p → namespace_of (declared_scope ss) p ≡ Some ns
unfolding xml xml_namespace declared_scope
bound-prefix ss ns p e = by (bytes_eq ns xml.ns) refl e
  where
    by : (b : Bool) → bytes_eq ns xml.ns ≡ b → cond b (Some xml.prefix) (prefix_in (declared_for ss) ns) ≡ Some p → namespace_of (scope_under outermost (declared_for ss)) p ≡ Some ns
    by true s e =
        let q : codes "xml" ≡ p = some-same (codes "xml") p e in
        subst (λ x. namespace_of (scope_under outermost (declared_for ss)) x ≡ Some ns) q
        (under-kept (declared_for ss) outermost (codes "xml") (declared-xml ss) ∙ ap Some (sym (bytes-one ns xml.ns s)))
    by false s e = under-found (declared_for ss) outermost ns p (declared-fresh ss) e

pub root-knows : (ss : Spaces) → AreFilled ss → Knows (root_scope ss) ss
unfolding declared_scope
root-knows ss h = record {
  bound = λ ns p e. ap (λ s. namespace_of s p) (root-scope ss) ∙ bound-prefix ss ns p e;
  fits = λ ns p e. prefix-name (xml ∷ declared_for ss) ns p (declared-names ss) e;
  bare = declared-bare ss h;
  plain = ap (λ s. namespace_of s []) (root-scope ss) ∙ under-kept (declared_for ss) outermost [] (declared-some ss);
}

-- The namespaces of names.

with-filled : (s : List ℕ) (ss : Spaces) → bytes_eq [] s ≡ false → AreFilled ss → AreFilled (with_space s ss)
with-filled s [] f h = (f, tt)
with-filled s (t ∷ ss) f (h, hs) = by (bytes_eq s t) (is_lt (slice_cmp nat_cmp s t)) (with-filled s ss f hs)
  where
    by : (b l : Bool) → AreFilled (with_space s ss) → AreFilled (cond b (t ∷ ss) (cond l (s ∷ t ∷ ss) (t ∷ with_space s ss)))
    by true l ih = (h, hs)
    by false true ih = (f, (h, hs))
    by false false ih = (h, ih)

known-filled : (s : List ℕ) → is_known s ≡ false → bytes_eq [] s ≡ false
known-filled [] e = absurd (cc)
known-filled (c ∷ s) e = refl

pub spaces-filled : (ns : List OwnName) → AreFilled (spaces_of ns)
spaces-filled [] = tt
spaces-filled (n ∷ ns) = by (is_known n.ns) refl (spaces-filled ns)
  where
    by : (b : Bool) → is_known n.ns ≡ b → AreFilled (spaces_of ns) → AreFilled (cond b (spaces_of ns) (with_space n.ns (spaces_of ns)))
    by true e ih = ih
    by false e ih = with-filled n.ns (spaces_of ns) (known-filled n.ns e) ih

abbrev among : Spaces → List ℕ → Bool
among ss ns = list_any (bytes_eq ns) ss

with-itself : (s : List ℕ) (ss : Spaces) → among (with_space s ss) s ≡ true
with-itself s [] = rw (bytes-same s) refl
with-itself s (t ∷ ss) = by (bytes_eq s t) (is_lt (slice_cmp nat_cmp s t)) refl (with-itself s ss)
  where
    by : (b l : Bool) → bytes_eq s t ≡ b → among (with_space s ss) s ≡ true → among (cond b (t ∷ ss) (cond l (s ∷ t ∷ ss) (t ∷ with_space s ss))) s ≡ true
    by true l e ih = rw e refl
    by false true e ih = rw (bytes-same s) refl
    by false false e ih = rw (e, ih) refl

with-others : (s x : List ℕ) (ss : Spaces) → among ss x ≡ true → among (with_space s ss) x ≡ true
with-others s x [] h = absurd (cc)
with-others s x (t ∷ ss) h = by (bytes_eq s t) (is_lt (slice_cmp nat_cmp s t)) (with-others s x ss)
  where
    by : (b l : Bool) → (among ss x ≡ true → among (with_space s ss) x ≡ true) → among (cond b (t ∷ ss) (cond l (s ∷ t ∷ ss) (t ∷ with_space s ss))) x ≡ true
    by true l ih = h
    by false true ih = or_right (bytes_eq x s) (among (t ∷ ss) x) h
    by false false ih = elim (either (bytes_eq x t)) as (λ o. (bytes_eq x t || among (with_space s ss) x) ≡ true) [
      | inl e ↦ or_left (bytes_eq x t) (among (with_space s ss) x) e
      | inr e ↦ or_right (bytes_eq x t) (among (with_space s ss) x) (ih (rw e at h))
    ]

-- known, or among them
abbrev is_there : Spaces → List ℕ → Bool
is_there ss ns = is_known ns || among ss ns

there-more : (s x : List ℕ) (ss : Spaces) → is_there ss x ≡ true → is_there (with_space s ss) x ≡ true
there-more s x ss h = elim (either (is_known x)) as (λ o. is_there (with_space s ss) x ≡ true) [
  | inl e ↦ or_left (is_known x) (among (with_space s ss) x) e
  | inr e ↦ or_right (is_known x) (among (with_space s ss) x) (with-others s x ss (rw e at h))
]

abbrev AreThere : Spaces → List OwnName → Type 0
AreThere ss ns = Each (λ n. is_there ss n.ns ≡ true) ns

all-more : (s : List ℕ) (ss : Spaces) (ns : List OwnName) → AreThere ss ns → AreThere (with_space s ss) ns
all-more s ss [] h = tt
all-more s ss (n ∷ ns) (h, hs) = (there-more s n.ns ss h, all-more s ss ns hs)

spaces-there : (ns : List OwnName) → AreThere (spaces_of ns) ns
spaces-there [] = tt
spaces-there (n ∷ ns) = by (is_known n.ns) refl (spaces-there ns)
  where
    by : (b : Bool) → is_known n.ns ≡ b → AreThere (spaces_of ns) ns → AreThere (cond b (spaces_of ns) (with_space n.ns (spaces_of ns))) (n ∷ ns)
    by true e ih = (or_left (is_known n.ns) (among (spaces_of ns) n.ns) e, ih)
    by false e ih = (or_right (is_known n.ns) (among (with_space n.ns (spaces_of ns)) n.ns) (with-itself n.ns (spaces_of ns)), all-more n.ns (spaces_of ns) ns ih)

append-some : (ds es : List Bound) (ns : List ℕ) → is_some (prefix_in ds ns) ≡ true → is_some (prefix_in (ds ++ es) ns) ≡ true
append-some [] es ns h = absurd (cc)
append-some (d ∷ ds) es ns h = by (bytes_eq ns d.ns) h (append-some ds es ns)
  where
    by : (b : Bool) → is_some (cond b (Some d.prefix) (prefix_in ds ns)) ≡ true → (is_some (prefix_in ds ns) ≡ true → is_some (prefix_in (ds ++ es) ns) ≡ true)
        → is_some (cond b (Some d.prefix) (prefix_in (ds ++ es) ns)) ≡ true
    by true h ih = refl
    by false h ih = ih h

prepend-some : (ds es : List Bound) (ns : List ℕ) → is_some (prefix_in es ns) ≡ true → is_some (prefix_in (ds ++ es) ns) ≡ true
prepend-some [] es ns h = h
prepend-some (d ∷ ds) es ns h = by (bytes_eq ns d.ns) (prepend-some ds es ns h)
  where
    by : (b : Bool) → is_some (prefix_in (ds ++ es) ns) ≡ true → is_some (cond b (Some d.prefix) (prefix_in (ds ++ es) ns)) ≡ true
    by true ih = refl
    by false ih = ih

numbered-some : (k : ℕ) (ss : Spaces) (ns : List ℕ) → among ss ns ≡ true → is_some (prefix_in (numbered k ss) ns) ≡ true
numbered-some k [] ns h = absurd (cc)
numbered-some k (s ∷ ss) ns h = by (bytes_eq ns s) h (numbered-some (suc k) ss ns)
  where
    by : (b : Bool) → (b || among ss ns) ≡ true → (among ss ns ≡ true → is_some (prefix_in (numbered (suc k) ss) ns) ≡ true)
        → is_some (cond b (Some (110 ∷ numeral k)) (prefix_in (numbered (suc k) ss) ns)) ≡ true
    by true h ih = refl
    by false h ih = ih h

listed : (ss : Spaces) (ns : List ℕ) → is_there ss ns ≡ true → is_listed ss ns ≡ true
listed ss [] h = refl
listed ss (c ∷ ns) h = elim (either (is_known (c ∷ ns))) as (λ o. is_listed ss (c ∷ ns) ≡ true) [
  | inl e ↦ append-some (xml ∷ fixed) (numbered 1 ss) (c ∷ ns) e
  | inr e ↦ prepend-some (xml ∷ fixed) (numbered 1 ss) (c ∷ ns) (numbered-some 1 ss (c ∷ ns) (rw e at h))
]

all-listed : (ss : Spaces) (ns : List OwnName) → AreThere ss ns → Each (λ n. is_listed ss n.ns ≡ true) ns
all-listed ss [] h = tt
all-listed ss (n ∷ ns) (h, hs) = (listed ss n.ns h, all-listed ss ns hs)

-- each name can be written with the prefixes of the namespaces of all
pub spaces-listed : (ns : List OwnName) → Each (λ n. is_listed (spaces_of ns) n.ns ≡ true) ns
spaces-listed ns = all-listed (spaces_of ns) ns (spaces-there ns)
