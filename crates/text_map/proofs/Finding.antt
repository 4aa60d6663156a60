-- What is found for a text is what the texts of all tables have for it.
use Rattle.std.proofs.Common.{◌≡◌, ◌∙◌, ◌+◌, ◌<◌, ◌++◌, ◌∷◌, [], ap, refl, sym, ℕ, zero, suc, List, Bool, true, false, cond, eqb, length, bytes_eq, arith, Option, Some, None, Vec, option_map, zero-add}
use Rattle.std.proofs.lemmas.Bool.{eq-eqb, ne_eqb}
use Rattle.std.proofs.lemmas.Map.Entries.{lookup-filter-keys}
use Rattle.std.proofs.lemmas.Map.Text.{is_eq-slice_cmp}
use Rattle.std.proofs.lemmas.Slice.Eq.{bytes_eq-Decides}
use Rattle.std.specs.Borrow.{Bor}
use Rattle.std.specs.Global.{Global}
use Rattle.std.specs.Cmp.Lexicographic.{slice_cmp}
use Rattle.std.specs.List.{filter, slice_get}
use Rattle.std.specs.Map.{lookup}
use Rattle.std.specs.Option.{option_map_or, option_or, unwrap_or}
use Rattle.std.specs.Ordering.{is_eq, nat_cmp}
use Rattle.indexmap.specs.IndexMap.{IndexMap}
use Rattle.text_map.specs.declared.tables.Tables.{Tables}
use Rattle.text_map.specs.declared.key.Kept.{Kept}
use Rattle.text_map.specs.Hashes.{class_of}
use Rattle.text_map.specs.Keys.{bytes}
use Rattle.text_map.specs.Places.{found, items_found, texts_by, texts_from, texts_in}
use Rattle.text_map.specs.Tables.{added, at, kept_at}
use Rattle.text_map.specs.Texts.{get_in, items_in}

module _ {K X : Type 0} (test : K → Bool) where
  lookup-append : (es fs : List (K × X)) → lookup test (es ++ fs) ≡ option_or (lookup test es) (lookup test fs)
  lookup-append [] fs = refl
  lookup-append (e ∷ es) fs = by (test e.0) (lookup-append es fs)
    where
      by : (b : Bool) → lookup test (es ++ fs) ≡ option_or (lookup test es) (lookup test fs)
          → cond b (Some e.1) (lookup test (es ++ fs)) ≡ option_or (cond b (Some e.1) (lookup test es)) (lookup test fs)
      by true h = refl
      by false h = h

  -- a test that answers the same finds the same
  lookup-agree : (other : K → Bool) → ((k : K) → other k ≡ test k) → (es : List (K × X)) → lookup other es ≡ lookup test es
  lookup-agree other h [] = refl
  lookup-agree other h (e ∷ es) = λ i. cond (h e.0 i) (Some e.1) (lookup-agree other h es i)

lookup-texts : {K V : Type 0} (text : K → List ℕ) (q : List ℕ) (es : List (K × V)) → lookup (bytes_eq q) (texts_by text es) ≡ lookup (λ k. bytes_eq q (text k)) es
lookup-texts text q [] = refl
lookup-texts text q (e ∷ es) = ap (λ o. cond (bytes_eq q (text e.0)) (Some e.1) o) (lookup-texts text q es)

or-none : {Y : Type 0} (o : Option Y) → option_or o None ≡ o
or-none None = refl
or-none (Some y) = refl

or-assoc : {Y : Type 0} (x y z : Option Y) → option_or (option_or x y) z ≡ option_or x (option_or y z)
or-assoc None y z = refl
or-assoc (Some x) y z = refl

module _ {V S : Type 0} (n : ℕ) (q : List ℕ) where
  -- what the texts of the first class have
  of-class : (i : ℕ) (b : Bool) → eqb (class_of q n) i ≡ b → (t : IndexMap Kept V S)
      → lookup (bytes_eq q) (filter (λ e. eqb (class_of e.0 n) i) (texts_by bytes t.entries)) ≡ cond b (at t q) None
  of-class i b e t =
      lookup-filter-keys (bytes_eq q) (λ p. eqb (class_of p n) i) b (λ p h. ap (λ r. eqb (class_of r n) i) (sym ((bytes_eq-Decides q p).0 h)) ∙ e) (texts_by bytes t.entries)
      ∙ ap (λ o. cond b o None) (lookup-texts bytes q t.entries)

  step : (i : ℕ) (t : IndexMap Kept V S) (ts : List (IndexMap Kept V S)) (b : Bool) → eqb (class_of q n) i ≡ b
      → lookup (bytes_eq q) (texts_from n i (t ∷ ts)) ≡ option_or (cond b (at t q) None) (lookup (bytes_eq q) (texts_from n (i + 1) ts))
  step i t ts b e =
      lookup-append (bytes_eq q) (filter (λ e. eqb (class_of e.0 n) i) (texts_by bytes t.entries)) (texts_from n (i + 1) ts)
      ∙ ap (λ o. option_or o (lookup (bytes_eq q) (texts_from n (i + 1) ts))) (of-class i b e t)

  -- no text of an earlier class stands there
  from-later : (i : ℕ) (ts : List (IndexMap Kept V S)) → class_of q n < i → lookup (bytes_eq q) (texts_from n i ts) ≡ None
  from-later i [] h = refl
  from-later i (t ∷ ts) h = step i t ts false (ne_eqb (class_of q n) i (omega arith)) ∙ from-later (i + 1) ts (omega arith)

  from-class : (i : ℕ) (ts : List (IndexMap Kept V S)) (j : ℕ) → class_of q n ≡ i + j
      → lookup (bytes_eq q) (texts_from n i ts) ≡ option_map_or (λ t. at t q) (slice_get ts j) None
  from-class i [] j h = refl
  from-class i (t ∷ ts) zero h =
      step i t ts true (eq-eqb (class_of q n) i (omega arith))
      ∙ ap (λ o. option_or (at t q) o) (from-later (i + 1) ts (omega arith)) ∙ or-none (at t q)
  from-class i (t ∷ ts) (suc j) h = step i t ts false (ne_eqb (class_of q n) i (omega arith)) ∙ from-class (i + 1) ts j (omega arith)

abbrev now : Bor (List ℕ) → List ℕ
now k = k.now

pub get-found : {V : Type 0} (t : Tables V) (q : List ℕ) → get_in (texts_in t) q ≡ found t q
get-found t q =
    let n = length t.classes.items in
    let a = texts_from n 0 t.classes.items in
    let b = texts_by bytes t.first.entries in
    let c = texts_by now t.rest.entries in
    lookup-append (bytes_eq q) (a ++ b) c
    ∙ ap (λ o. option_or o (lookup (bytes_eq q) c)) (lookup-append (bytes_eq q) a b)
    ∙ or-assoc (lookup (bytes_eq q) a) (lookup (bytes_eq q) b) (lookup (bytes_eq q) c)
    ∙ ap (λ o. option_or o (option_or (lookup (bytes_eq q) b) (lookup (bytes_eq q) c))) (from-class n q 0 t.classes.items (class_of q n) (sym (zero-add (class_of q n))))
    ∙ ap (λ o. option_or (kept_at t.classes.items q) (option_or o (lookup (bytes_eq q) c))) (lookup-texts bytes q t.first.entries)
    ∙ ap (λ o. option_or (kept_at t.classes.items q) (option_or (at t.first q) o))
    (lookup-texts now q t.rest.entries
    ∙ sym (lookup-agree (λ (k : Bor (List ℕ)). bytes_eq q k.now) (λ k. is_eq (slice_cmp nat_cmp q k.now)) (λ k. is_eq-slice_cmp q k.now) t.rest.entries))

-- Items.

module _ {T : Type 0} where
  or-nil : (o : Option (Vec T Global)) → option_map_or (λ v. v.items) o [] ≡ unwrap_or (option_map (λ v. v.items) o) []
  or-nil None = refl
  or-nil (Some v) = refl

  pub items-found_in : (t : Tables (Vec T Global)) (q : List ℕ) → items_in (texts_in t) q ≡ unwrap_or (items_found t q) []
  items-found_in t q = ap (λ (o : Option (Vec T Global)). option_map_or (λ v. v.items) o []) (get-found t q) ∙ or-nil (found t q)

  -- one more item, as far as there are some
  pub items-added : (x : T) (b : Bool) (o : Option (List T)) → unwrap_or (cond b (added x o) o) [] ≡ cond b (unwrap_or o [] ++ x ∷ []) (unwrap_or o [])
  items-added x true o = refl
  items-added x false o = refl
