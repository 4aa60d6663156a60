-- What is kept of links with one more element, and with one more link.
use Rattle.std.proofs.Common.{◌≡◌, ◌∙◌, ap, refl, subst, sym, ℕ, ◌+◌, ◌≤◌, Bool, true, false, cond, List, [], ◌∷◌, ◌++◌, length, Option, Some, None, arith, append-nil}
use Rattle.std.specs.Prelude.{bytes_eq, if◌then◌else◌}
use Rattle.std.specs.List.{filter}
use Rattle.std.specs.Option.{option_map_or}
use Rattle.std.proofs.lemmas.List.Elements.{filter-append}
use Rattle.std.proofs.lemmas.Slice.Eq.{bytes_eq-Decides}
use Rattle.ix_base.specs.Alike.{alike}
use Rattle.ix_base.specs.Ids.{id_of, tuple_id_of}
use Rattle.ix_base.specs.LocatedElements.{Located, is_text}
use Rattle.text_map.specs.Texts.{Texts}
use Rattle.page_links.specs.declared.standing.Links.{Links}
use Rattle.page_links.specs.declared.met_ids.Named.{Named}
use Rattle.page_links.specs.LinkStates.{is_tuple_ref}
use Rattle.link_ids.specs.Links.{Link}
use Rattle.page_links.specs.LinkTables.{AreFirstOnPages, AreLinked, Counts, IsFirstOnPage, Kept, Known, none, is_none, is_parted, counts_of, found_in, kept_among, kept_from, kept_of, kept_with, named_in, named_of, named_once_more, never, nothing, link_by, with_holder, with_link, names_id, names_tuple_id}
use Rattle.page_links.proofs.CountLaws.{IsHeld, count-same, counts-held, counts-linked, leads-with, link-ends, wait-within}
use Rattle.page_links.proofs.KeptLaws.{kept-append}

-- How ids stand with one more element.

same-text : (a b : List ℕ) → bytes_eq a b ≡ true → b ≡ a
same-text a b h = sym ((bytes_eq-Decides a b).0 h)

module _ (like : Located → Located → Bool) (names : ℕ → List ℕ) (own : Located → Option (List ℕ)) (es : List Located) (e : Located) where
  abbrev before : List ℕ → Kept
  before q = kept_of like names own es q

  abbrev after : List ℕ → Kept
  after q = kept_of like names own (es ++ e ∷ []) q

  -- what is kept of an id with one more element
  pub stands-more : (q : List ℕ) → after q ≡ (if is_text q (own e) then kept_with like names (before q) e else before q)
  stands-more q = ap (kept_from like names none) (filter-append (λ x. is_text q (own x)) es (e ∷ [])) ∙ by (is_text q (own e))
    where
      by : (b : Bool) → kept_from like names none (filter (λ x. is_text q (own x)) es ++ cond b (e ∷ []) []) ≡ (if b then kept_with like names (before q) e else before q)
      by true = kept-append like names none (filter (λ x. is_text q (own x)) es) (e ∷ [])
      by false = ap (kept_from like names none) (append-nil (filter (λ x. is_text q (own x)) es))

  pub stands-none : own e ≡ None → (q : List ℕ) → after q ≡ before q
  stands-none h q = stands-more q ∙ ap (λ o. if is_text q o then kept_with like names (before q) e else before q) h

  pub stands-some : (id q : List ℕ) → own e ≡ Some id → after q ≡ (if bytes_eq q id then kept_with like names (before q) e else before q)
  stands-some id q h = stands-more q ∙ ap (λ o. if is_text q o then kept_with like names (before q) e else before q) h

  pub stands-own : (id q : List ℕ) → own e ≡ Some id → bytes_eq id q ≡ true → after q ≡ kept_with like names (before id) e
  stands-own id q h k =
      let same : q ≡ id = same-text id q k in
      let self : bytes_eq id id ≡ true = (bytes_eq-Decides id id).1 refl in
      subst (λ x. after x ≡ kept_with like names (before id) e) (sym same)
      (stands-some id id h ∙ ap (λ b. if b then kept_with like names (before id) e else before id) self)

  pub stands-other : (id q : List ℕ) → own e ≡ Some id → bytes_eq id q ≡ false → after q ≡ before q
  stands-other id q h k =
      let no : bytes_eq q id ≡ false = apart q id (bytes_eq q id) refl k in
      stands-some id q h ∙ ap (λ b. if b then kept_with like names (before q) e else before q) no
    where
      apart : (a b : List ℕ) (x : Bool) → bytes_eq a b ≡ x → bytes_eq b a ≡ false → x ≡ false
      apart a b true u v = absurd (let z : bytes_eq b a ≡ true = (bytes_eq-Decides b a).1 (sym ((bytes_eq-Decides a b).0 u)) in cc)
      apart a b false u v = refl

-- Links to ids, and to tuple ids.

by-tuple : {X : Type 0} (b : Bool) (x y : X) → b ≡ true → (if b then x else y) ≡ x
by-tuple true x y h = refl
by-tuple false x y h = absurd (cc)

by-id : {X : Type 0} (b : Bool) (x y : X) → b ≡ false → (if b then x else y) ≡ y
by-id true x y h = absurd (cc)
by-id false x y h = refl

id-named : (b c : Bool) → (if b then false else c) ≡ true → (b ≡ false) × (c ≡ true)
id-named true c h = absurd (cc)
id-named false c h = (refl, h)

tuple-named : (b c : Bool) → (if b then c else false) ≡ true → (b ≡ true) × (c ≡ true)
tuple-named true c h = (refl, h)
tuple-named false c h = absurd (cc)

module _ (names : ℕ → List ℕ) (es ts : List Located) (e : Located) (id : List ℕ) where
  pub id-held : id_of e ≡ Some id → IsHeld (kept_among names es ts) (kept_among names (es ++ e ∷ []) ts) (names_id id)
      (kept_of alike names id_of es id) (kept_with alike names (kept_of alike names id_of es id) e)
  id-held h = record {
    was = λ l k. (let p = id-named (is_tuple_ref l.attribute) (bytes_eq id l.id) k in
        by-id (is_tuple_ref l.attribute) (kept_of never names tuple_id_of ts l.id) (kept_of alike names id_of es l.id) p.0 ∙ ap (kept_of alike names id_of es) (same-text id l.id p.1));
    now = λ l k. (let p = id-named (is_tuple_ref l.attribute) (bytes_eq id l.id) k in
        by-id (is_tuple_ref l.attribute) (kept_of never names tuple_id_of ts l.id) (kept_of alike names id_of (es ++ e ∷ []) l.id) p.0 ∙ stands-own alike names id_of es e id l.id h p.1);
    others = λ l k. by l (is_tuple_ref l.attribute) k;
  }
    where
      by : (l : Link) (b : Bool) → (if b then false else bytes_eq id l.id) ≡ false
          → (if b then kept_of never names tuple_id_of ts l.id else kept_of alike names id_of (es ++ e ∷ []) l.id) ≡ (if b then kept_of never names tuple_id_of ts l.id else kept_of alike names id_of es l.id)
      by l true k = refl
      by l false k = stands-other alike names id_of es e id l.id h k

  pub tuple-held : tuple_id_of e ≡ Some id → IsHeld (kept_among names es ts) (kept_among names es (ts ++ e ∷ [])) (names_tuple_id id)
      (kept_of never names tuple_id_of ts id) (kept_with never names (kept_of never names tuple_id_of ts id) e)
  tuple-held h = record {
    was = λ l k. (let p = tuple-named (is_tuple_ref l.attribute) (bytes_eq id l.id) k in
        by-tuple (is_tuple_ref l.attribute) (kept_of never names tuple_id_of ts l.id) (kept_of alike names id_of es l.id) p.0 ∙ ap (kept_of never names tuple_id_of ts) (same-text id l.id p.1));
    now = λ l k. (let p = tuple-named (is_tuple_ref l.attribute) (bytes_eq id l.id) k in
        by-tuple (is_tuple_ref l.attribute) (kept_of never names tuple_id_of (ts ++ e ∷ []) l.id) (kept_of alike names id_of es l.id) p.0 ∙ stands-own never names tuple_id_of ts e id l.id h p.1);
    others = λ l k. by l (is_tuple_ref l.attribute) k;
  }
    where
      by : (l : Link) (b : Bool) → (if b then bytes_eq id l.id else false) ≡ false
          → (if b then kept_of never names tuple_id_of (ts ++ e ∷ []) l.id else kept_of alike names id_of es l.id) ≡ (if b then kept_of never names tuple_id_of ts l.id else kept_of alike names id_of es l.id)
      by l true k = stands-other never names tuple_id_of ts e id l.id h k
      by l false k = refl

-- What is kept.

-- with what is kept of an id the first of each is on one page
pub pages-kept : (old new : Texts Named) (id : List ℕ) (now : Named)
    → ((q : List ℕ) → found_in new q ≡ (if bytes_eq q id then Some now else found_in old q)) → IsFirstOnPage now.standing → AreFirstOnPages old → AreFirstOnPages new
pages-kept old new id now is page h q n e = by (bytes_eq q id) (sym (is q) ∙ e)
  where
    by : (b : Bool) → (if b then Some now else found_in old q) ≡ Some n → IsFirstOnPage n.standing
    by true f = let z : now ≡ n = (let y : Some now ≡ Some n = f in cc) in subst (λ (m : Named). IsFirstOnPage m.standing) z page
    by false f = h q n f

-- what is kept with one more element that has an id
module _ (like : Located → Located → Bool) (names : ℕ → List ℕ) (old new : Texts Named) (own : Located → Option (List ℕ)) (es : List Located) (e : Located) (n : List ℕ → Link → Bool) (ls : List Link) (id : List ℕ) (kept : Named) where
  pub names-held : own e ≡ Some id
      → ((q : List ℕ) → named_in old q ≡ record { kept = kept_of like names own es q; links = length (filter (n q) ls) })
      → ((q : List ℕ) → found_in new q ≡ (if bytes_eq q id then Some kept else found_in old q))
      → named_of kept ≡ record { kept = kept_with like names (named_in old id).kept e; links = (named_in old id).links }
      → (q : List ℕ) → named_in new q ≡ record { kept = kept_of like names own (es ++ e ∷ []) q; links = length (filter (n q) ls) }
  names-held h was is k q = ap (λ o. option_map_or named_of o nothing) (is q) ∙ by (bytes_eq q id) refl
    where
      by : (b : Bool) → bytes_eq q id ≡ b
          → option_map_or named_of (if b then Some kept else found_in old q) nothing ≡ record { kept = kept_of like names own (es ++ e ∷ []) q; links = length (filter (n q) ls) }
      by true u =
          let same : q ≡ id = (bytes_eq-Decides q id).0 u in
          k ∙ (λ i. record { kept = kept_with like names ((was id) i).kept e; links = ((was id) i).links })
          ∙ (λ i. record { kept = sym (stands-some like names own es e id q h ∙ ap (λ b. if b then kept_with like names (kept_of like names own es q) e else kept_of like names own es q) u ∙ ap (λ x. kept_with like names (kept_of like names own es x) e) same) i; links = length (filter (n (sym same i)) ls) })
      by false u = was q ∙ (λ i. record { kept = sym (stands-some like names own es e id q h ∙ ap (λ b. if b then kept_with like names (kept_of like names own es q) e else kept_of like names own es q) u) i; links = length (filter (n q) ls) })

module _ (names : ℕ → List ℕ) (es ts : List Located) (ls : List Link) (kept : Links) (are : AreLinked names es ts ls kept) (e : Located) where
  counts-are : counts_of kept ≡ record { pending = length (filter (λ l. is_none (kept_among names es ts l)) ls); doubled = length (filter (λ l. is_parted (kept_among names es ts l)) ls) }
  counts-are = λ i. record { pending = are.pending i; doubled = are.doubled i }

  pub id-none : id_of e ≡ None → AreLinked names (es ++ e ∷ []) ts ls kept
  id-none h =
      let same : (l : Link) → kept_among names (es ++ e ∷ []) ts l ≡ kept_among names es ts l =
      λ l. ap (λ s. if is_tuple_ref l.attribute then kept_of never names tuple_id_of ts l.id else s) (stands-none alike names id_of es e h l.id) in
      record {
        ids = λ q. are.ids q ∙ (λ i. record { kept = sym (stands-none alike names id_of es e h q) i; links = length (filter (names_id q) ls) });
        tuple_ids = are.tuple_ids;
        pending = are.pending ∙ sym (count-same (λ l. is_none (kept_among names es ts l)) (λ l. is_none (kept_among names (es ++ e ∷ []) ts l)) (λ l. ap is_none (same l)) ls);
        doubled = are.doubled ∙ sym (count-same (λ l. is_parted (kept_among names es ts l)) (λ l. is_parted (kept_among names (es ++ e ∷ []) ts l)) (λ l. ap is_parted (same l)) ls);
        pages = are.pages;
      }

  pub tuple-none : tuple_id_of e ≡ None → AreLinked names es (ts ++ e ∷ []) ls kept
  tuple-none h =
      let same : (l : Link) → kept_among names es (ts ++ e ∷ []) l ≡ kept_among names es ts l =
      λ l. ap (λ s. if is_tuple_ref l.attribute then s else kept_of alike names id_of es l.id) (stands-none never names tuple_id_of ts e h l.id) in
      record {
        ids = are.ids;
        tuple_ids = λ q. are.tuple_ids q ∙ (λ i. record { kept = sym (stands-none never names tuple_id_of ts e h q) i; links = length (filter (names_tuple_id q) ls) });
        pending = are.pending ∙ sym (count-same (λ l. is_none (kept_among names es ts l)) (λ l. is_none (kept_among names es (ts ++ e ∷ []) l)) (λ l. ap is_none (same l)) ls);
        doubled = are.doubled ∙ sym (count-same (λ l. is_parted (kept_among names es ts l)) (λ l. is_parted (kept_among names es (ts ++ e ∷ []) l)) (λ l. ap is_parted (same l)) ls);
        pages = are.pages;
      }

  module _ (id : List ℕ) where
    abbrev of_id : Kept
    of_id = kept_of alike names id_of es id

    abbrev of_tuple_id : Kept
    of_tuple_id = kept_of never names tuple_id_of ts id

    pub id-waits : id_of e ≡ Some id → is_none (named_in kept.ids id).kept ≡ true → (named_in kept.ids id).links ≤ kept.pending
    id-waits h p =
        let own : is_none of_id ≡ true = subst (λ (k : Known). is_none k.kept ≡ true) (are.ids id) p in
        let within = wait-within (kept_among names es ts) (kept_among names (es ++ e ∷ []) ts) (names_id id) of_id (kept_with alike names of_id e) (id-held names es ts e id h) own ls in
        let links : (named_in kept.ids id).links ≡ length (filter (names_id id) ls) = ap (λ (k : Known). k.links) (are.ids id) in
        subst (λ n. n ≤ kept.pending) (sym links) (subst (λ n. length (filter (names_id id) ls) ≤ n) (sym are.pending) within)

    pub tuple-waits : tuple_id_of e ≡ Some id → is_none (named_in kept.tuple_ids id).kept ≡ true → (named_in kept.tuple_ids id).links ≤ kept.pending
    tuple-waits h p =
        let own : is_none of_tuple_id ≡ true = subst (λ (k : Known). is_none k.kept ≡ true) (are.tuple_ids id) p in
        let within = wait-within (kept_among names es ts) (kept_among names es (ts ++ e ∷ [])) (names_tuple_id id) of_tuple_id (kept_with never names of_tuple_id e)
        (tuple-held names es ts e id h) own ls in
        let links : (named_in kept.tuple_ids id).links ≡ length (filter (names_tuple_id id) ls) = ap (λ (k : Known). k.links) (are.tuple_ids id) in
        subst (λ n. n ≤ kept.pending) (sym links) (subst (λ n. length (filter (names_tuple_id id) ls) ≤ n) (sym are.pending) within)

    pub id-kept : (new : Links) (now : Named) → id_of e ≡ Some id → new.tuple_ids ≡ kept.tuple_ids
        → ((q : List ℕ) → found_in new.ids q ≡ (if bytes_eq q id then Some now else found_in kept.ids q)) → IsFirstOnPage now.standing
        → named_of now ≡ record { kept = kept_with alike names (named_in kept.ids id).kept e; links = (named_in kept.ids id).links }
        → counts_of new ≡ with_holder (named_in kept.ids id) (kept_with alike names (named_in kept.ids id).kept e) (counts_of kept)
        → AreLinked names (es ++ e ∷ []) ts ls new
    id-kept new now h same is page k counts =
        let whole = counts ∙ (λ i. with_holder (are.ids id i) (kept_with alike names (are.ids id i).kept e) (counts-are i))
        ∙ sym (counts-held (kept_among names es ts) (kept_among names (es ++ e ∷ []) ts) (names_id id) of_id (kept_with alike names of_id e)
        (leads-with alike names of_id e) (id-held names es ts e id h) ls) in
        record {
          ids = names-held alike names kept.ids new.ids id_of es e names_id ls id now h are.ids is k;
          tuple_ids = λ q. ap (λ m. named_in m q) same ∙ are.tuple_ids q;
          pending = ap (λ (c : Counts). c.pending) whole;
          doubled = ap (λ (c : Counts). c.doubled) whole;
          pages = pages-kept kept.ids new.ids id now is page are.pages;
        }

    pub tuple-kept : (new : Links) (now : Named) → tuple_id_of e ≡ Some id → new.ids ≡ kept.ids
        → ((q : List ℕ) → found_in new.tuple_ids q ≡ (if bytes_eq q id then Some now else found_in kept.tuple_ids q))
        → named_of now ≡ record { kept = kept_with never names (named_in kept.tuple_ids id).kept e; links = (named_in kept.tuple_ids id).links }
        → counts_of new ≡ with_holder (named_in kept.tuple_ids id) (kept_with never names (named_in kept.tuple_ids id).kept e) (counts_of kept)
        → AreLinked names es (ts ++ e ∷ []) ls new
    tuple-kept new now h same is k counts =
        let whole = counts ∙ (λ i. with_holder (are.tuple_ids id i) (kept_with never names (are.tuple_ids id i).kept e) (counts-are i))
        ∙ sym (counts-held (kept_among names es ts) (kept_among names es (ts ++ e ∷ [])) (names_tuple_id id) of_tuple_id (kept_with never names of_tuple_id e)
        (leads-with never names of_tuple_id e) (tuple-held names es ts e id h) ls) in
        record {
          ids = λ q. ap (λ m. named_in m q) same ∙ are.ids q;
          tuple_ids = names-held never names kept.tuple_ids new.tuple_ids tuple_id_of ts e names_tuple_id ls id now h are.tuple_ids is k;
          pending = ap (λ (c : Counts). c.pending) whole;
          doubled = ap (λ (c : Counts). c.doubled) whole;
          pages = subst AreFirstOnPages (sym same) are.pages;
        }

-- One more link.

module _ (old new : Texts Named) (st : List ℕ → Kept) (n : List ℕ → Link → Bool) (ls : List Link) (l : Link) where
  -- what is kept of ids with one more link that names one of them
  names-linked : ((q : List ℕ) → n q l ≡ bytes_eq q l.id)
      → ((q : List ℕ) → named_in old q ≡ record { kept = st q; links = length (filter (n q) ls) })
      → ((q : List ℕ) → named_in new q ≡ (if bytes_eq q l.id then named_once_more (named_in old q) else named_in old q))
      → (q : List ℕ) → named_in new q ≡ record { kept = st q; links = length (filter (n q) (ls ++ l ∷ [])) }
  names-linked own was is q =
      is q ∙ by (bytes_eq q l.id)
      ∙ (λ i. record { kept = st q; links = sym (link-ends (n q) ls l ∙ ap (λ b. length (filter (n q) ls) + (if b then 1 else 0)) (own q)) i })
    where
      by : (b : Bool) → (if b then named_once_more (named_in old q) else named_in old q) ≡ record { kept = st q; links = length (filter (n q) ls) + (if b then 1 else 0) }
      by true = λ i. named_once_more (was q i)
      by false = was q ∙ (λ i. record { kept = st q; links = none i })
        where
          none : length (filter (n q) ls) ≡ length (filter (n q) ls) + 0
          none = omega arith

  -- with one more link that names none
  names-passed : ((q : List ℕ) → n q l ≡ false) → new ≡ old
      → ((q : List ℕ) → named_in old q ≡ record { kept = st q; links = length (filter (n q) ls) })
      → (q : List ℕ) → named_in new q ≡ record { kept = st q; links = length (filter (n q) (ls ++ l ∷ [])) }
  names-passed other same was q =
      ap (λ m. named_in m q) same ∙ was q
      ∙ (λ i. record { kept = st q; links = sym (link-ends (n q) ls l ∙ ap (λ b. length (filter (n q) ls) + (if b then 1 else 0)) (other q) ∙ none) i })
    where
      none : length (filter (n q) ls) + 0 ≡ length (filter (n q) ls)
      none = omega arith

module _ (names : ℕ → List ℕ) (es ts : List Located) (ls : List Link) (kept : Links) (are : AreLinked names es ts ls kept) (l : Link) (new : Links) where
  ends : counts_of new ≡ link_by (kept_among names es ts l) (counts_of kept)
      → (new.pending ≡ length (filter (λ k. is_none (kept_among names es ts k)) (ls ++ l ∷ []))) × (new.doubled ≡ length (filter (λ k. is_parted (kept_among names es ts k)) (ls ++ l ∷ [])))
  ends counts =
      let whole = counts ∙ counts-linked (kept_among names es ts l) (counts_of kept) (length (filter (λ k. is_none (kept_among names es ts k)) ls)) (length (filter (λ k. is_parted (kept_among names es ts k)) ls)) (counts-are names es ts ls kept are l.element) in (
        ap (λ (c : Counts). c.pending) whole ∙ sym (link-ends (λ k. is_none (kept_among names es ts k)) ls l),
        ap (λ (c : Counts). c.doubled) whole ∙ sym (link-ends (λ k. is_parted (kept_among names es ts k)) ls l),
      )

  pub id-linked : is_tuple_ref l.attribute ≡ false → new.tuple_ids ≡ kept.tuple_ids
      → ((q : List ℕ) → named_in new.ids q ≡ (if bytes_eq q l.id then named_once_more (named_in kept.ids q) else named_in kept.ids q)) → AreFirstOnPages new.ids
      → counts_of new ≡ with_link (named_in kept.ids l.id) (counts_of kept) → AreLinked names es ts (ls ++ l ∷ []) new
  id-linked own same is pages counts =
      let stands : (named_in kept.ids l.id).kept ≡ kept_among names es ts l =
      ap (λ (k : Known). k.kept) (are.ids l.id) ∙ sym (by-id (is_tuple_ref l.attribute) (kept_of never names tuple_id_of ts l.id) (kept_of alike names id_of es l.id) own) in
      let last = ends (counts ∙ ap (λ s. link_by s (counts_of kept)) stands) in
      record {
        ids = names-linked kept.ids new.ids (kept_of alike names id_of es) names_id ls l (λ q. by-id (is_tuple_ref l.attribute) false (bytes_eq q l.id) own) are.ids is;
        tuple_ids = names-passed kept.tuple_ids new.tuple_ids (kept_of never names tuple_id_of ts) names_tuple_id ls l (λ q. by-id (is_tuple_ref l.attribute) (bytes_eq q l.id) false own) same are.tuple_ids;
        pending = last.0;
        doubled = last.1;
        pages = pages;
      }

  pub tuple-linked : is_tuple_ref l.attribute ≡ true → new.ids ≡ kept.ids
      → ((q : List ℕ) → named_in new.tuple_ids q ≡ (if bytes_eq q l.id then named_once_more (named_in kept.tuple_ids q) else named_in kept.tuple_ids q))
      → counts_of new ≡ with_link (named_in kept.tuple_ids l.id) (counts_of kept) → AreLinked names es ts (ls ++ l ∷ []) new
  tuple-linked own same is counts =
      let stands : (named_in kept.tuple_ids l.id).kept ≡ kept_among names es ts l =
      ap (λ (k : Known). k.kept) (are.tuple_ids l.id) ∙ sym (by-tuple (is_tuple_ref l.attribute) (kept_of never names tuple_id_of ts l.id) (kept_of alike names id_of es l.id) own) in
      let last = ends (counts ∙ ap (λ s. link_by s (counts_of kept)) stands) in
      record {
        ids = names-passed kept.ids new.ids (kept_of alike names id_of es) names_id ls l (λ q. by-tuple (is_tuple_ref l.attribute) false (bytes_eq q l.id) own) same are.ids;
        tuple_ids = names-linked kept.tuple_ids new.tuple_ids (kept_of never names tuple_id_of ts) names_tuple_id ls l (λ q. by-tuple (is_tuple_ref l.attribute) (bytes_eq q l.id) false own) are.tuple_ids is;
        pending = last.0;
        doubled = last.1;
        pages = subst AreFirstOnPages (sym same) are.pages;
      }
