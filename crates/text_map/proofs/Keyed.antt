-- What a change at a text leaves in a table at any text.
use Rattle.std.proofs.Common.{◌≡◌, ◌∙◌, refl, sym, subst, ℕ, List, Bool, true, false, cond, ap, bytes_eq, is_some, option_map, Option, Some, Vec, Result, Ok, Err}
use Rattle.std.specs.Cmp.Lexicographic.{bytes_decides, nat_list_eq_equiv}
use Rattle.std.specs.Global.{Global}
use Rattle.std.specs.Map.{AreApart, IsKeyTest, KeepsOthers}
use Rattle.std.specs.Result.{OnErr}
use Rattle.indexmap.specs.IndexMap.{IndexMap, UpdatesBy, WritesThrough}
use Rattle.text_map.specs.declared.key.Kept.{Kept}
use Rattle.text_map.specs.Keys.{bytes}
use Rattle.text_map.specs.Tables.{at, items_at}

pub cond-same : {Y : Type 0} (b : Bool) (y : Y) → cond b y y ≡ y
cond-same true y = refl
cond-same false y = refl

abbrev pub test : List ℕ → Kept → Bool
test q k = bytes_eq q (bytes k)

abbrev pub same : Kept → Kept → Bool
same j k = bytes_eq (bytes j) (bytes k)

apart : (p q ks : List ℕ) → bytes_eq p q ≡ false → bytes_eq p ks ≡ true → bytes_eq q ks ≡ false
apart p q ks n y = nat_list_eq_equiv.symm q ks ∙ sym (nat_list_eq_equiv.congr p ks q y) ∙ n

module _ {V S : Type 0} (old new : IndexMap Kept V S) (text : List ℕ) (w : Option V) (h : UpdatesBy same (test text) old new w) where
  others : (q : List ℕ) → KeepsOthers same (test text) old.entries new.entries → IsKeyTest same (test q) → AreApart (test text) (test q) → at new q ≡ at old q
  unfolding KeepsOthers
  others q k = k (test q)

  pub keyed_changed : (q : List ℕ) → at new q ≡ cond (bytes_eq q text) w (at old q)
  keyed_changed q = by (bytes_eq q text) refl where
    by : (b : Bool) → bytes_eq q text ≡ b → at new q ≡ cond b w (at old q)
    by true e = subst (λ p. at new p ≡ w) (sym ((bytes_decides q text).0 e)) h.1
    by false e = others q h.3 (λ x y. nat_list_eq_equiv.congr q (bytes x) (bytes y)) (λ k. apart text q (bytes k) (nat_list_eq_equiv.symm text q ∙ e))

-- what holds anyway holds after a refusal
pub on_refusal : {T E P : Type 0} (r : Result T E) → P → OnErr r P
on_refusal (Ok x) p = tt
on_refusal (Err e) p = p

-- the items of a text were written through what was lent for it
module _ {T S : Type 0} (old new : IndexMap Kept (Vec T Global) S) (text : List ℕ) (was now : Vec T Global) (h : WritesThrough same (test text) old now new)
    (is : Some was ≡ at old text) (change : Option (List T) → Option (List T)) (e : Some now.items ≡ change (Some was.items)) where
  pub items-written : (q : List ℕ) → items_at new q ≡ cond (bytes_eq q text) (change (items_at old q)) (items_at old q)
  items-written q =
      ap (option_map (λ (v : Vec T Global). v.items)) (keyed_changed old new text (Some now) (h.3 (ap is_some (sym is))) q) ∙ by (bytes_eq q text) refl
    where
      here : Some now.items ≡ change (items_at old text)
      here = e ∙ ap (λ o. change (option_map (λ (v : Vec T Global). v.items) o)) is

      by : (b : Bool) → bytes_eq q text ≡ b
          → option_map (λ (v : Vec T Global). v.items) (cond b (Some now) (at old q)) ≡ cond b (change (items_at old q)) (items_at old q)
      by true f = subst (λ p. Some now.items ≡ change (items_at old p)) (sym ((bytes_decides q text).0 f)) here
      by false f = refl
