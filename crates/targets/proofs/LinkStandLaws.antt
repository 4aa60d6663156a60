-- How links stand, and that none goes back.
use Rattle.std.proofs.Common.{◌≡◌, ◌∙◌, ◌↔◌, ◌++◌, ap, refl, subst, sym, inl, inr, ℕ, suc, Bool, true, false, cond, not, nat_lt, List, [], ◌∷◌, length, Option, Some, None, arith, rules}
use Rattle.std.proofs.lemmas.Grind.{common_steps}
use Rattle.std.proofs.lemmas.List.Elements.{filter-append}
use Rattle.std.specs.List.{filter}
use Rattle.std.specs.Option.{option_map_or}
use Rattle.std.specs.Prelude.{◌&&◌}
use Rattle.ix_base.specs.Alike.{alike}
use Rattle.ix_base.specs.Asks.{are_many, are_some, asks, only}
use Rattle.ix_base.specs.Ids.{agree, are_doubled, foremost, foremost_of, holders, holds_id, holds_tuple_id, id_of, one, one_tuple, tuple_id_of}
use Rattle.ix_base.specs.LocatedElements.{Located}
use Rattle.id_table.proofs.AgreeLaws.{many-two}
use Rattle.page_links.specs.LinkStates.{GoesOn, Stands, pending, resolved, doubled, doubled_links, holder, id_stands, is_doubled, is_pending, is_tuple_ref, link_stands, pending_links, stands_by, tuple_stands}
use Rattle.link_ids.specs.Links.{Link, links}
use Rattle.page_links.specs.LinkTables.{is_none, is_parted, kept_among, kept_of, never}
use Rattle.page_links.proofs.CountLaws.{count-same}
use Rattle.page_links.proofs.KeptLaws.{alike-parted, never-parted, none-kept, standing-goes}

some-lt : (n : ℕ) → nat_lt 0 (suc n) ≡ true
some-lt n = first_of (search rules, grind arith, grind (arith, common_steps))

abbrev is-resolved : Stands → Option Located
is-resolved (resolved x) = Some x
is-resolved s = None

abbrev waits : Stands → Bool
waits pending = true
waits s = false

abbrev parts : Stands → Bool
parts doubled = true
parts s = false

-- Tuple ids.

tuple-resolved : (xs : List Located) (e : Located) → stands_by xs ≡ resolved e ↔ only xs ≡ Some e
tuple-resolved [] e = (λ h. absurd (let z : None ≡ Some e = ap is-resolved h in cc), λ h. absurd (let z : None ≡ Some e = h in cc))
tuple-resolved (x ∷ []) e = (λ h. ap is-resolved h, λ h. ap to h)
  where
    to : Option Located → Stands
    to (Some y) = resolved y
    to None = pending
tuple-resolved (x ∷ y ∷ xs) e = (λ h. absurd (let z : None ≡ Some e = ap is-resolved h in cc), λ h. absurd (let z : None ≡ Some e = h in cc))

tuple-pending : (xs : List Located) → stands_by xs ≡ pending ↔ not (nat_lt 0 (length xs)) ≡ true
tuple-pending [] = (λ h. refl, λ h. refl)
tuple-pending (x ∷ []) = (λ h. absurd (let z : false ≡ true = ap waits h in cc), λ h. absurd (let z : false ≡ true = ap not (sym (some-lt 0)) ∙ h in cc))
tuple-pending (x ∷ y ∷ xs) = (λ h. absurd (let z : false ≡ true = ap waits h in cc), λ h. absurd (let z : false ≡ true = ap not (sym (some-lt (suc (length xs)))) ∙ h in cc))

tuple-doubled : (xs : List Located) → stands_by xs ≡ doubled ↔ nat_lt 1 (length xs) ≡ true
tuple-doubled [] = (λ h. absurd (let z : false ≡ true = ap parts h in cc), λ h. absurd (let z : false ≡ true = h in cc))
tuple-doubled (x ∷ []) = (λ h. absurd (let z : false ≡ true = ap parts h in cc), λ h. absurd (let z : false ≡ true = h in cc))
tuple-doubled (x ∷ y ∷ xs) = (λ h. many-two (length xs), λ h. refl)

-- Ids.

abbrev by_one : Bool → Option Located → Stands
by_one d o = cond d doubled (option_map_or (λ e. resolved e) (cond d None o) pending)

id-resolved : (d : Bool) (o : Option Located) (e : Located) → by_one d o ≡ resolved e ↔ cond d None o ≡ Some e
id-resolved true o e = (λ h. absurd (let z : None ≡ Some e = ap is-resolved h in cc), λ h. absurd (let z : None ≡ Some e = h in cc))
id-resolved false None e = (λ h. absurd (let z : None ≡ Some e = ap is-resolved h in cc), λ h. absurd (let z : None ≡ Some e = h in cc))
id-resolved false (Some x) e = (λ h. ap is-resolved h, λ h. ap to h)
  where
    to : Option Located → Stands
    to (Some y) = resolved y
    to None = pending

id-doubled : (d : Bool) (o : Option Located) → by_one d o ≡ doubled ↔ d ≡ true
id-doubled true o = (λ h. refl, λ h. refl)
id-doubled false None = (λ h. absurd (let z : false ≡ true = ap parts h in cc), λ h. absurd (let z : false ≡ true = h in cc))
id-doubled false (Some x) = (λ h. absurd (let z : false ≡ true = ap parts h in cc), λ h. absurd (let z : false ≡ true = h in cc))

id-pending : (names : ℕ → List ℕ) (g : Bool) (hs : List Located) → by_one (nat_lt 1 (length hs) && g) (foremost_of names hs) ≡ pending ↔ not (nat_lt 0 (length hs)) ≡ true
id-pending names g [] = (λ h. refl, λ h. refl)
id-pending names g (x ∷ hs) = (λ h. absurd (by (nat_lt 1 (length (x ∷ hs)) && g) h), λ h. absurd (let z : false ≡ true = ap not (sym (some-lt (length hs))) ∙ h in cc))
  where
    by : (b : Bool) → by_one b (Some (foremost names x hs)) ≡ pending → ⊥
    by true h = let z : false ≡ true = ap waits h in cc
    by false h = let z : false ≡ true = ap waits h in cc

-- Links.

module _ (names : ℕ → List ℕ) (es : List Located) (l : Link) where
  pub link-resolved : (e : Located) → link_stands names es l ≡ resolved e ↔ holder names es l ≡ Some e
  link-resolved e = by (is_tuple_ref l.attribute)
    where
      by : (b : Bool) → cond b (tuple_stands es l.id) (id_stands names es l.id) ≡ resolved e ↔ cond b (one_tuple (asks es) l.id) (one names es l.id) ≡ Some e
      by true = tuple-resolved (filter (holds_tuple_id l.id) es) e
      by false = id-resolved (are_doubled (asks es) l.id) (foremost_of names (holders es l.id)) e

  pub link-pending : link_stands names es l ≡ pending ↔ is_pending es l ≡ true
  link-pending = by (is_tuple_ref l.attribute)
    where
      by : (b : Bool) → cond b (tuple_stands es l.id) (id_stands names es l.id) ≡ pending
          ↔ cond b (not (are_some (asks es) (holds_tuple_id l.id))) (not (are_some (asks es) (holds_id l.id))) ≡ true
      by true = tuple-pending (filter (holds_tuple_id l.id) es)
      by false = id-pending names (not (agree (asks es) l.id)) (holders es l.id)

  pub link-doubled : link_stands names es l ≡ doubled ↔ is_doubled es l ≡ true
  link-doubled = by (is_tuple_ref l.attribute)
    where
      by : (b : Bool) → cond b (tuple_stands es l.id) (id_stands names es l.id) ≡ doubled
          ↔ cond b (are_many (asks es) (holds_tuple_id l.id)) (are_doubled (asks es) l.id) ≡ true
      by true = tuple-doubled (filter (holds_tuple_id l.id) es)
      by false = id-doubled (are_doubled (asks es) l.id) (foremost_of names (holders es l.id))

  none-pending : is_none (kept_among names es es l) ≡ is_pending es l
  none-pending = by (is_tuple_ref l.attribute)
    where
      by : (b : Bool) → is_none (cond b (kept_of never names tuple_id_of es l.id) (kept_of alike names id_of es l.id))
          ≡ cond b (not (are_some (asks es) (holds_tuple_id l.id))) (not (are_some (asks es) (holds_id l.id)))
      by true = none-kept never names (filter (holds_tuple_id l.id) es)
      by false = none-kept alike names (holders es l.id)

  parted-doubled : is_parted (kept_among names es es l) ≡ is_doubled es l
  parted-doubled = by (is_tuple_ref l.attribute)
    where
      by : (b : Bool) → is_parted (cond b (kept_of never names tuple_id_of es l.id) (kept_of alike names id_of es l.id))
          ≡ cond b (are_many (asks es) (holds_tuple_id l.id)) (are_doubled (asks es) l.id)
      by true = never-parted names (filter (holds_tuple_id l.id) es)
      by false = alike-parted names es l.id

-- how many are pending, and how many doubled
pub pending-count : (names : ℕ → List ℕ) (es : List Located) → length (filter (λ l. is_none (kept_among names es es l)) (links es)) ≡ length (pending_links es)
pending-count names es = count-same (is_pending es) (λ l. is_none (kept_among names es es l)) (none-pending names es) (links es)

pub doubled-count : (names : ℕ → List ℕ) (es : List Located) → length (filter (λ l. is_parted (kept_among names es es l)) (links es)) ≡ length (doubled_links es)
doubled-count names es = count-same (is_doubled es) (λ l. is_parted (kept_among names es es l)) (parted-doubled names es) (links es)

-- With more elements.

goes-by : (xs ys : List Located) → GoesOn (stands_by xs) (stands_by (xs ++ ys))
goes-by [] ys = tt
goes-by (x ∷ []) [] = inl (x, refl)
goes-by (x ∷ []) (y ∷ ys) = inr refl
goes-by (x ∷ y ∷ xs) ys = refl

pub go-on : (names : ℕ → List ℕ) (es more : List Located) (l : Link) → GoesOn (link_stands names es l) (link_stands names (es ++ more) l)
go-on names es more l = by (is_tuple_ref l.attribute)
  where
    by : (b : Bool) → GoesOn (cond b (tuple_stands es l.id) (id_stands names es l.id)) (cond b (tuple_stands (es ++ more) l.id) (id_stands names (es ++ more) l.id))
    by true = subst (λ (xs : List Located). GoesOn (tuple_stands es l.id) (stands_by xs)) (sym (filter-append (holds_tuple_id l.id) es more))
        (goes-by (filter (holds_tuple_id l.id) es) (filter (holds_tuple_id l.id) more))
    by false = standing-goes names es more l.id
