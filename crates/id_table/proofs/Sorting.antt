-- Lists of elements by what they are, after one more, and what is known of their elements.
use Rattle.std.proofs.Common.{◌≡◌, ◌∙◌, ◌++◌, ◌∷◌, [], ◌||◌, ap, refl, sym, true, false, true≢false, List, Bool, Option, ℕ}
use Rattle.std.proofs.Math.Bool.{or-false}
use Rattle.std.proofs.lemmas.List.{map-append}
use Rattle.std.proofs.lemmas.List.Folds.{list_any-append}
use Rattle.std.proofs.lemmas.List.Elements.{All-filter, filter-append, filter_map-append}
use Rattle.std.specs.Borrow.{Bor}
use Rattle.std.specs.List.{filter, filter_map, flat_map, list_any}
use Rattle.ix_base.specs.declared.tree.Spot.{Spot}
use Rattle.ix_base.specs.LocatedElements.{Located, is_continuation, is_fact, is_item, is_start, located}
use Rattle.ix_base.specs.Spots.{IsOnOnePage}
use Rattle.id_table.specs.declared.lists.Lists.{Lists}
use Rattle.link_ids.specs.Links.{context_named, unit_named}
use Rattle.id_table.specs.Gathered.{Gathers, texts_of}
use Rattle.id_table.specs.Model.{has_own_target, is_checked, is_of_tuples}
use Rattle.id_table.specs.Tables.{AreOnOwnPages, AreSorted, all_located, chain_spots, is_other, spots_where, such_spots}
use Rattle.id_table.proofs.GatherLaws.{gathers-more}

one-such : (p : Located → Bool) (s : Bor Spot) → such_spots p (s ∷ []) ≡ spots_where (p (located s.now)) s
one-such p s = by (p (located s.now)) refl where
  by : (b : Bool) → p (located s.now) ≡ b → such_spots p (s ∷ []) ≡ spots_where (p (located s.now)) s
  by true e = rw e refl
  by false e = rw e refl

such-more : (p : Located → Bool) (old new spots now : List (Bor Spot)) (s : Bor Spot) → now ≡ spots ++ s ∷ [] → old ≡ such_spots p spots
    → new ≡ old ++ spots_where (p (located s.now)) s → new ≡ such_spots p now
such-more p old new spots now s more was is =
    is ∙ ap (λ xs. xs ++ spots_where (p (located s.now)) s) was ∙ ap (λ xs. such_spots p spots ++ xs) (sym (one-such p s))
    ∙ sym (filter-append (λ (x : Bor Spot). p (located x.now)) spots (s ∷ [])) ∙ ap (such_spots p) (sym more)

-- whether there is any, after one more
any-more : (p : Located → Bool) (old new : Bool) (spots now : List (Bor Spot)) (s : Bor Spot) → now ≡ spots ++ s ∷ []
    → old ≡ list_any p (all_located spots) → new ≡ (old || p (located s.now)) → new ≡ list_any p (all_located now)
any-more p old new spots now s more was is =
    is ∙ ap (λ b. b || p (located s.now)) was ∙ ap (λ b. list_any p (all_located spots) || b) (sym (or-false (p (located s.now))))
    ∙ sym (list_any-append p (all_located spots) (located s.now ∷ []))
    ∙ ap (list_any p) (sym (map-append (λ (x : Bor Spot). located x.now) spots (s ∷ []))) ∙ ap (λ xs. list_any p (all_located xs)) (sym more)

-- what items name, after one element more
named-more : (form : Located → Option (List ℕ)) (old new : List (List ℕ)) (spots now : List (Bor Spot)) (s : Bor Spot) → now ≡ spots ++ s ∷ []
    → Gathers [] old (filter_map form (filter is_item (all_located spots)))
    → Gathers old new (filter_map form (filter is_item (located s.now ∷ []))) → Gathers [] new (filter_map form (filter is_item (all_located now)))
named-more form old new spots now s more before here =
    let first = all_located spots in
    let last = located s.now ∷ [] in
    gathers-more [] old new (filter_map form (filter is_item first)) (filter_map form (filter is_item last)) _
    (ap (λ xs. filter_map form (filter is_item (all_located xs))) more
    ∙ ap (λ xs. filter_map form (filter is_item xs)) (map-append (λ (x : Bor Spot). located x.now) spots (s ∷ []))
    ∙ ap (filter_map form) (filter-append is_item first last) ∙ filter_map-append form (filter is_item first) (filter is_item last))
    before here

pub sorted-more : (old new : Lists) (spots now : List (Bor Spot)) (s : Bor Spot) → now ≡ spots ++ s ∷ [] → AreSorted old spots
    → new.facts.items ≡ old.facts.items ++ spots_where (is_fact (located s.now)) s
    → new.checked.items ≡ old.checked.items ++ spots_where (is_checked (located s.now)) s
    → chain_spots new.starts.items ≡ chain_spots old.starts.items ++ spots_where (is_start (located s.now)) s
    → chain_spots new.continuations.items ≡ chain_spots old.continuations.items ++ spots_where (is_continuation (located s.now)) s
    → new.others.items ≡ old.others.items ++ spots_where (is_other (located s.now)) s
    → Gathers (texts_of old.named.contexts.items) (texts_of new.named.contexts.items) (filter_map context_named (filter is_item (located s.now ∷ [])))
    → Gathers (texts_of old.named.units.items) (texts_of new.named.units.items) (filter_map unit_named (filter is_item (located s.now ∷ [])))
    → new.has_tuples ≡ (old.has_tuples || is_of_tuples (located s.now)) → new.has_targets ≡ (old.has_targets || has_own_target (located s.now))
    → AreSorted new now
sorted-more old new spots now s more was facts checked starts continuations others contexts units tuples targets = record {
  facts = such-more is_fact old.facts.items new.facts.items spots now s more was.facts facts;
  checked = such-more is_checked old.checked.items new.checked.items spots now s more was.checked checked;
  starts = such-more is_start (chain_spots old.starts.items) (chain_spots new.starts.items) spots now s more was.starts starts;
  continuations = such-more is_continuation (chain_spots old.continuations.items) (chain_spots new.continuations.items) spots now s more was.continuations continuations;
  others = such-more is_other old.others.items new.others.items spots now s more was.others others;
  named = record {
    contexts = named-more context_named (texts_of old.named.contexts.items) (texts_of new.named.contexts.items) spots now s more was.named.contexts contexts;
    units = named-more unit_named (texts_of old.named.units.items) (texts_of new.named.units.items) spots now s more was.named.units units;
  };
  has_tuples = any-more is_of_tuples old.has_tuples new.has_tuples spots now s more was.has_tuples tuples;
  has_targets = any-more has_own_target old.has_targets new.has_targets spots now s more was.has_targets targets;
}

-- the elements of such spots are such elements
pub such-located : (p : Located → Bool) (spots : List (Bor Spot)) → all_located (such_spots p spots) ≡ filter p (all_located spots)
such-located p [] = refl
such-located p (s ∷ ss) = by (p (located s.now)) refl (such-located p ss) where
  by : (b : Bool) → p (located s.now) ≡ b → all_located (such_spots p ss) ≡ filter p (all_located ss)
      → all_located (such_spots p (s ∷ ss)) ≡ filter p (all_located (s ∷ ss))
  by true e k = rw e (ap (λ xs. located s.now ∷ xs) k)
  by false e k = rw e k

pub such-on_pages : (p : Located → Bool) (spots : List (Bor Spot)) → AreOnOwnPages spots → AreOnOwnPages (such_spots p spots)
such-on_pages p spots h = All-filter (λ (s : Bor Spot). p (located s.now)) (λ (s : Bor Spot). IsOnOnePage s.now) spots h

-- what passes one test is found among what passes a wider one
pub filter-within : (p q : Located → Bool) → ((e : Located) → p e ≡ true → q e ≡ true) → (es : List Located) → filter p (filter q es) ≡ filter p es
filter-within p q h [] = refl
filter-within p q h (e ∷ es) = by (q e) refl (p e) refl (filter-within p q h es) where
  by : (b : Bool) → q e ≡ b → (c : Bool) → p e ≡ c → filter p (filter q es) ≡ filter p es → filter p (filter q (e ∷ es)) ≡ filter p (e ∷ es)
  by true f true g k = rw (f, g) (ap (λ xs. e ∷ xs) k)
  by true f false g k = rw (f, g) k
  by false f true g k = absurd (true≢false (sym (h e g) ∙ f))
  by false f false g k = rw (f, g) k

-- and so is what only such elements give
pub flat-within : {X : Type 0} (f : Located → List X) (q : Located → Bool) → ((e : Located) → q e ≡ false → f e ≡ []) → (es : List Located)
    → flat_map f (filter q es) ≡ flat_map f es
flat-within f q h [] = refl
flat-within f q h (e ∷ es) = by (q e) refl (flat-within f q h es) where
  by : (b : Bool) → q e ≡ b → flat_map f (filter q es) ≡ flat_map f es → flat_map f (filter q (e ∷ es)) ≡ flat_map f (e ∷ es)
  by true g k = rw g (ap (λ xs. f e ++ xs) k)
  by false g k = rw (g, h e g) k
