-- What is kept, and what is to be chosen, where other names name the pages of the elements the same.
use Rattle.std.proofs.Common.{◌≡◌, ◌∙◌, ◌++◌, ◌&&◌, Bool, true, false, cond, ℕ, zero, suc, ◌+◌, ◌<◌, List, [], ◌∷◌, length, map, refl, sym, ap, Option, Some, None, arith, length-append}
use Rattle.std.specs.List.{Contains, filter}
use Rattle.std.specs.Ordering.{is_lt, nat_cmp, on, then_cmp}
use Rattle.std.proofs.lemmas.List.{length-map}
use Rattle.ix_base.specs.Alike.{alike}
use Rattle.ix_base.specs.Asks.{are_many, asks}
use Rattle.ix_base.specs.Ids.{agree, foremost, foremost_of, holders, holds_id, id_of, place_cmp, tuple_id_of}
use Rattle.ix_base.specs.LocatedElements.{Located, is_text, marked, offset_of}
use Rattle.ix_base.specs.SortedLists.{text_cmp}
use Rattle.ix_base.proofs.OnceLemmas.{Contains-first, Contains-later}
use Rattle.page_links.specs.declared.pages.Page.{Page}
use Rattle.page_links.specs.declared.standing.Links.{Links}
use Rattle.page_links.specs.Choices.{choice}
use Rattle.page_links.specs.Model.{as_paged, names_with}
use Rattle.page_links.specs.LinkStates.{is_tuple_ref}
use Rattle.link_ids.specs.Links.{Link, links}
use Rattle.page_links.specs.LinkTables.{AreLinks, none, some, parted, is_none, is_parted, kept_among, kept_from, kept_of, names_id, names_tuple_id, never, sooner}
use Rattle.page_links.proofs.CountLaws.{count-same}
use Rattle.page_links.proofs.KeptLaws.{parted-from}
use Rattle.targets.proofs.PlaceLaws.{marked_from-numbered}

-- both name the page of this element the same
abbrev pub NamesSame : (ℕ → List ℕ) → (ℕ → List ℕ) → Located → Type 0
NamesSame names others e = names e.page ≡ others e.page

abbrev pub AllNamed : (ℕ → List ℕ) → (ℕ → List ℕ) → List Located → Type 0
AllNamed names others [] = Unit {0}
AllNamed names others (e ∷ es) = NamesSame names others e × AllNamed names others es

module _ (names others : ℕ → List ℕ) where
  sooner-same : (x e : Located) → NamesSame names others x → NamesSame names others e → sooner names x e ≡ sooner others x e
  sooner-same x e h k = λ i. cond (is_lt (then_cmp (λ (a b : Located). text_cmp (k i) (h i)) (on offset_of nat_cmp) e x)) e x

  sooner-named : (x e : Located) → NamesSame names others x → NamesSame names others e → NamesSame names others (sooner names x e)
  sooner-named x e h k = by (is_lt (place_cmp names e x))
    where
      by : (b : Bool) → NamesSame names others (cond b e x)
      by true = k
      by false = h

  passed-named : (p : Located → Bool) (es : List Located) → AllNamed names others es → AllNamed names others (filter p es)
  passed-named p [] k = tt
  passed-named p (e ∷ es) k = by (p e) (passed-named p es k.1)
    where
      by : (b : Bool) → AllNamed names others (filter p es) → AllNamed names others (cond b (e ∷ filter p es) (filter p es))
      by true f = (k.0, f)
      by false f = f

  foremost-same : (x : Located) (es : List Located) → NamesSame names others x → AllNamed names others es → foremost names x es ≡ foremost others x es
  foremost-same x [] h k = refl
  foremost-same x (e ∷ es) h k = foremost-same (sooner names x e) es (sooner-named x e h k.0) k.1 ∙ ap (λ z. foremost others z es) (sooner-same x e h k.0)

  foremost_of-same : (es : List Located) → AllNamed names others es → foremost_of names es ≡ foremost_of others es
  foremost_of-same [] k = refl
  foremost_of-same (e ∷ es) k = ap (λ z. Some z) (foremost-same e es k.0 k.1)

  pub choice-renamed : (es : List Located) (id : List ℕ) → AllNamed names others es → choice names es id ≡ choice others es id
  choice-renamed es id k =
      ap (λ o. cond (are_many (asks es) (holds_id id) && agree (asks es) id) o None) (foremost_of-same (holders es id) (passed-named (holds_id id) es k))

  module _ (like : Located → Located → Bool) where
    parted-same : (es : List Located) → kept_from like names parted es ≡ kept_from like others parted es
    parted-same es = parted-from like names es ∙ sym (parted-from like others es)

    some-same : (x l : Located) (es : List Located) → NamesSame names others x → AllNamed names others es
        → kept_from like names (some x l) es ≡ kept_from like others (some x l) es
    some-same x l [] h k = refl
    some-same x l (e ∷ es) h k =
        by (like l e) (some-same (sooner names x e) e es (sooner-named x e h k.0) k.1 ∙ ap (λ z. kept_from like others (some z e) es) (sooner-same x e h k.0)) (parted-same es)
      where
        by : (b : Bool) → kept_from like names (some (sooner names x e) e) es ≡ kept_from like others (some (sooner others x e) e) es
            → kept_from like names parted es ≡ kept_from like others parted es
            → kept_from like names (cond b (some (sooner names x e) e) parted) es ≡ kept_from like others (cond b (some (sooner others x e) e) parted) es
        by true f g = f
        by false f g = g

    kept-same : (es : List Located) → AllNamed names others es → kept_from like names none es ≡ kept_from like others none es
    kept-same [] k = refl
    kept-same (e ∷ es) k = some-same e e es k.0 k.1

    of-same : (own : Located → Option (List ℕ)) (es : List Located) (id : List ℕ) → AllNamed names others es
        → kept_of like names own es id ≡ kept_of like others own es id
    of-same own es id k = kept-same (filter (λ e. is_text id (own e)) es) (passed-named (λ e. is_text id (own e)) es k)

  among-same : (es : List Located) (l : Link) → AllNamed names others es → kept_among names es es l ≡ kept_among others es es l
  among-same es l k = by (is_tuple_ref l.attribute)
    where
      by : (b : Bool) → cond b (kept_of never names tuple_id_of es l.id) (kept_of alike names id_of es l.id)
          ≡ cond b (kept_of never others tuple_id_of es l.id) (kept_of alike others id_of es l.id)
      by true = of-same never tuple_id_of es l.id k
      by false = of-same alike id_of es l.id k

  pub links-renamed : (es : List Located) (kept : Links) → AllNamed names others es → AreLinks names es kept → AreLinks others es kept
  links-renamed es kept k are = record {
    ids = λ q. are.ids q ∙ (λ i. record { kept = of-same alike id_of es q k i; links = length (filter (names_id q) (links es)) });
    tuple_ids = λ q. are.tuple_ids q ∙ (λ i. record { kept = of-same never tuple_id_of es q k i; links = length (filter (names_tuple_id q) (links es)) });
    pending = are.pending ∙ sym (count-same (λ l. is_none (kept_among names es es l)) (λ l. is_none (kept_among others es es l)) (λ l. sym (ap is_none (among-same es l k))) (links es));
    doubled = are.doubled ∙ sym (count-same (λ l. is_parted (kept_among names es es l)) (λ l. is_parted (kept_among others es es l)) (λ l. sym (ap is_parted (among-same es l k))) (links es));
    pages = are.pages;
  }

-- One more page.

-- which page comes next makes no difference to the names of those that are there
name-before : (pages : List Page) (a b : List ℕ) (i : ℕ) → i < length pages → names_with pages a i ≡ names_with pages b i
name-before [] a b i h = absurd (omega arith)
name-before (p ∷ pages) a b zero h = refl
name-before (p ∷ pages) a b (suc i) h = name-before pages a b i (omega arith)

-- the page that comes next has its name once it is there
name-after : (pages : List Page) (p : Page) (i : ℕ) → i < length pages + 1 → names_with pages p.name i ≡ names_with (pages ++ p ∷ []) [] i
name-after [] p zero h = refl
name-after [] p (suc i) h = absurd (omega arith)
name-after (q ∷ pages) p zero h = refl
name-after (q ∷ pages) p (suc i) h = name-after pages p i (omega arith)

all-named : (names others : ℕ → List ℕ) (es : List Located) → ((e : Located) → Contains es e → NamesSame names others e) → AllNamed names others es
all-named names others [] h = tt
all-named names others (e ∷ es) h = (h e (Contains-first e es), all-named names others es (λ x c. h x (Contains-later e es x c)))

-- the elements of the pages before keep their names while one comes
pub named-before : (pages : List Page) (next : List ℕ) → AllNamed (names_with pages []) (names_with pages next) (marked (map as_paged pages))
named-before pages next = all-named (names_with pages []) (names_with pages next) (marked (map as_paged pages)) (λ e c.
    let within = marked_from-numbered 0 (map as_paged pages) e c in
    let count : length (map as_paged pages) ≡ length pages = length-map pages as_paged in
    name-before pages [] next e.page (omega arith))

-- and all have theirs once it is there
pub named-after : (pages all : List Page) (p : Page) → all ≡ pages ++ p ∷ [] → AllNamed (names_with pages p.name) (names_with all []) (marked (map as_paged all))
named-after pages all p is = all-named (names_with pages p.name) (names_with all []) (marked (map as_paged all)) (λ e c.
    let within = marked_from-numbered 0 (map as_paged all) e c in
    let count : length (map as_paged all) ≡ length all = length-map all as_paged in
    let more : length all ≡ length pages + 1 = ap length is ∙ length-append pages (p ∷ []) in
    name-after pages p e.page (omega arith) ∙ ap (λ (ps : List Page). names_with ps [] e.page) (sym is))
