-- Items that break no rule of values, as their attributes tell.
use Rattle.std.proofs.Common.{◌≡◌, ◌∷◌, [], Bool, true, false, List, ℕ, ap, cond, refl, subst, sym, ⊎_elim}
use Rattle.std.specs.Prelude.{Option, None, Some, Ok, ◌&&◌, is_none, not, option_map, codes}
use Rattle.std.specs.List.{filter}
use Rattle.std.proofs.lemmas.Bool.{and_parts, cases_Bool, or_cases}
use Rattle.ix_base.specs.declared.breach.Found.{Found}
use Rattle.ix_base.specs.declared.content.Item.{Item}
use Rattle.ix_base.specs.declared.content.Value.TheVariants as value
use Rattle.ix_base.specs.declared.kind.Kind.{Kind}
use Rattle.ix_base.specs.declared.kind.Kind.TheVariants as kind
use Rattle.ix_base.specs.Asks.{Asks}
use Rattle.ix_base.specs.Kinds.{kind_of, same_kind}
use Rattle.ix_base.specs.LocatedElements.{Located, is_item, is_kind, is_nil}
use Rattle.ix_base.specs.Readers.{attr}
use Rattle.ix_base.specs.ValueNames.{name_of}
use Rattle.ix_base.specs.Steps.{◌>>=◌}
use Rattle.ix_base.specs.Token.{token_of}
use Rattle.ix_base.specs.Trees.{Named, Tree}
use Rattle.ix_base.specs.FactViews.{view}
use Rattle.facts.specs.ItemValue.{IsItem, IsPlain, IsTextBy, IsValueAs, IsValueBy, IsValueOf, ItemText, item_text, item_with}
use Rattle.id_table.specs.Model.{faultless, is_checked}
use Rattle.target_contents.specs.Faults.{AreOfItems}

kind-is : (k : Kind) → same_kind k kind.NonNumeric ≡ true → k ≡ kind.NonNumeric
kind-is kind.NonNumeric h = refl
kind-is k h = absurd cc

none-is : {X : Type 0} (o : Option X) → is_none o ≡ true → o ≡ None
none-is None h = refl
none-is (Some x) h = absurd cc

-- without the attribute there is no format
no-format : (t : Tree) → attr (codes "format") t ≡ None → (view t).format ≡ None
no-format t h = ap (λ (o : Option (List ℕ)). option_map token_of o >>= λ name. name_of t.head.scope name) h

module _ (bases : Located → List ℕ) (a : Asks Located) (e : Located) where
  abbrev text : ItemText
  text = item_text bases a e

  -- it says the item with a value that it has
  says : (v : _) → IsValueOf text e.placed (Ok v) → (i : Item) × IsItem bases a e (Ok i)
  says v h = (item_with (kind_of e.placed) e.placed.tree v, (h, refl))

  nil-says : is_nil e ≡ true → (i : Item) × IsItem bases a e (Ok i)
  nil-says h = says value.Nil (subst (λ b. IsValueBy b (kind_of e.placed) text e.placed.tree (Ok value.Nil)) (sym h) refl)

  text-says : is_kind kind.NonNumeric e ≡ true → attr (codes "format") e.placed.tree ≡ None → is_nil e ≡ false → (i : Item) × IsItem bases a e (Ok i)
  text-says k f h =
      let t = e.placed.tree in
      let plain : IsPlain (IsTextBy (view t).format text) (Ok (value.Plain text.raw)) =
      subst (λ (o : Option Named). IsTextBy o text (Ok text.raw)) (sym (no-format t f)) refl in
      says (value.Plain text.raw)
      (subst (λ b. IsValueBy b (kind_of e.placed) text t (Ok (value.Plain text.raw))) (sym h)
      (subst (λ l. IsValueAs l text t (Ok (value.Plain text.raw))) (sym (kind-is (kind_of e.placed) k)) plain))

  pub faultless-says : faultless e ≡ true → (i : Item) × IsItem bases a e (Ok i)
  faultless-says h =
      ⊎_elim nil-says
      (λ full. ⊎_elim
      (λ own. let parts = and_parts _ _ own in text-says parts.0 (none-is _ parts.1) full)
      (λ nil. nil-says nil)
      (or_cases _ _ h)) (cases_Bool (is_nil e))

-- the rules that the items break whose values may break one are those that all items break
module _ (bases : Located → List ℕ) (a : Asks Located) where
  checked-one : (e : Located) (es : List Located) (found : List Found) (b c : Bool) → is_item e ≡ b → faultless e ≡ c
      → ((rest : List Found) → AreOfItems (IsItem bases a) (filter is_checked es) rest → AreOfItems (IsItem bases a) (filter is_item es) rest)
      → AreOfItems (IsItem bases a) (cond (b && not c) (e ∷ filter is_checked es) (filter is_checked es)) found
      → AreOfItems (IsItem bases a) (cond b (e ∷ filter is_item es) (filter is_item es)) found
  checked-one e es found true true i f k h = let said = faultless-says bases a e f in (Ok said.0, said.1, (found, k found h, refl))
  checked-one e es found true false i f k h = (h.0, h.1, (h.2.0, k h.2.0 h.2.1, h.2.2))
  checked-one e es found false c i f k h = k found h

  pub checked-all : (es : List Located) (found : List Found) → AreOfItems (IsItem bases a) (filter is_checked es) found
      → AreOfItems (IsItem bases a) (filter is_item es) found
  checked-all [] found h = h
  checked-all (e ∷ es) found h = checked-one e es found (is_item e) (faultless e) refl refl (checked-all es) h
