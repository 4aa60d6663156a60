-- An arranged content has the lines of the content, but for repeats within footnote links.
use Rattle.std.proofs.Common.{◌≡◌, ◌∙◌, ap, sym, refl, Bool, true, false, cond, List, [], ◌∷◌, ◌++◌, map, append_assoc, append-nil, rules}
use Rattle.std.specs.Prelude.{ℕ, flat_map}
use Rattle.std.specs.Cmp.{IsTotalOrder}
use Rattle.std.specs.List.Sorted.{IsStrictlySortedBy}
use Rattle.std.specs.declared.cmp.Ordering.{Ordering}
use Rattle.std.specs.declared.cmp.Ordering.TheVariants.{Less, Equal, Greater}
use Rattle.std.specs.Ordering.{on, ordering_reverse}
use Rattle.std.proofs.lemmas.Cmp.{nat_list_cmp_total, on_total}
use Rattle.std.proofs.lemmas.List.Sorted.{IsPermutation-append_comm, IsPermutation-append_left}
use Rattle.ix_base.specs.declared.content.Content.{Content}
use Rattle.ix_base.specs.declared.content.Context.{Context}
use Rattle.ix_base.specs.declared.content.Fact.{Fact, out-Fact, the_lemmas}
use Rattle.ix_base.specs.declared.content.Fact.TheOpen.{Fact-F}
use Rattle.ix_base.specs.declared.content.Fact.TheVariants as fact
use Rattle.ix_base.specs.declared.content.Fact.TheFolds.{fold_out-Fact}
use Rattle.ix_base.specs.declared.content.NoteLink.{NoteLink}
use Rattle.ix_base.specs.declared.content.OwnName.{OwnName}
use Rattle.ix_base.specs.declared.content.Tuple.{Tuple}
use Rattle.ix_base.specs.declared.content.Unit.{Unit as UnitContent}
use Rattle.ix_base.specs.Facts.{Facts, before, facts_of, none}
use Rattle.ix_base.specs.Once.{in_order, put as put_once, put_by as put_once_by}
use Rattle.ix_base.specs.SortedLists.{put, put_by, sorted, text_cmp}
use Rattle.ix_base.specs.WrittenMarkup.{Markup}
use Rattle.ix_base.proofs.FactLaws.{before-Tuple}
use Rattle.ix_base.proofs.OnceLemmas.{SameMembers-permutation, in_order-same, in_order-sorted}
use Rattle.ix_base.proofs.OnceOrdered.{same_text}
use Rattle.instance_lines.specs.Arrangement.{arranged, arranged_link, by_line, with_arranged_links}
use Rattle.instance_lines.specs.Canonical.{Spaces, arcrole_markup, canon_lines, children, content_spaces, context_markup, context_names}
use Rattle.instance_lines.specs.Canonical.{fact_markups, fact_names, first_line, last_line, line, line_cmp, linkbase_markup, lines_with}
use Rattle.instance_lines.specs.Canonical.{link_markup, role_markup, root_line, schema_markup, unit_markup, unit_names}
use Rattle.instance_lines.specs.Elements.{fact_line, fact_markup, lines_of_facts, ordered_lines}
use Rattle.instance_lines.specs.Prefixes.{is_known, spaces_of, with_space}
use Rattle.instance_lines.specs.Tables.{own_spaces}
use Rattle.instance_lines.proofs.MarkupLaws.{fact_markups-are}
use Rattle.instance_lines.proofs.PrefixLaws.{spaces_of-in_order}
use Rattle.instance_lines.proofs.Sorting.{in_order-map, sorted-map}

-- What is in order stays.
module _ {X : Type 0} {R : X → X → Ordering} (o : IsTotalOrder R) where
  abbrev pub IsFront : X → List X → Type 0
  IsFront x [] = Unit {0}
  IsFront x (y ∷ ys) = R x y ≡ Greater → ⊥

  abbrev pub Rises : List X → Type 0
  Rises [] = Unit {0}
  Rises (x ∷ xs) = IsFront x xs × Rises xs

  put-front : (x : X) (ys : List X) → IsFront x ys → put R x ys ≡ x ∷ ys
  put-front x [] h = refl
  put-front x (y ∷ ys) h = by (R x y) h
    where
      by : (r : Ordering) → (r ≡ Greater → ⊥) → put_by r x y ys (put R x ys) ≡ x ∷ y ∷ ys
      by Less f = refl
      by Equal f = refl
      by Greater f = absurd (f refl)

  pub sorted-risen : (xs : List X) → Rises xs → sorted R xs ≡ xs
  unfolding sorted
  sorted-risen [] h = refl
  sorted-risen (x ∷ xs) h = ap (put R x) (sorted-risen xs h.1) ∙ put-front x xs h.0

  other_way : (x y : X) → R x y ≡ Greater → R y x ≡ Greater → ⊥
  other_way x y e f = let q : Less ≡ Greater = sym (o.antisymm y x ∙ ap ordering_reverse e) ∙ f in cc

  front_put : (x y : X) (ys : List X) → R x y ≡ Greater → IsFront y ys → IsFront y (put R x ys)
  front_put x y [] e h = other_way x y e
  front_put x y (z ∷ zs) e h = by (R x z)
    where
      by : (r : Ordering) → IsFront y (put_by r x z zs (put R x zs))
      by Less = other_way x y e
      by Equal = other_way x y e
      by Greater = h

  put-rises : (x : X) (ys : List X) → Rises ys → Rises (put R x ys)
  put-rises x [] h = (tt, tt)
  put-rises x (y ∷ ys) h = by (R x y) refl (put-rises x ys h.1)
    where
      by : (r : Ordering) → R x y ≡ r → Rises (put R x ys) → Rises (put_by r x y ys (put R x ys))
      by Less e k = ((λ f. let q : Less ≡ Greater = sym e ∙ f in cc), h)
      by Equal e k = ((λ f. let q : Equal ≡ Greater = sym e ∙ f in cc), h)
      by Greater e k = (front_put x y ys e h.0, k)

  pub sorted-rises : (xs : List X) → Rises (sorted R xs)
  unfolding sorted
  sorted-rises [] = tt
  sorted-rises (x ∷ xs) = put-rises x (sorted R xs) (sorted-rises xs)

  pub sorted-sorted : (xs : List X) → sorted R (sorted R xs) ≡ sorted R xs
  sorted-sorted xs = sorted-risen (sorted R xs) (sorted-rises xs)

  in_order-strict : (xs : List X) → IsStrictlySortedBy R xs → in_order R xs ≡ xs
  unfolding in_order IsStrictlySortedBy
  in_order-strict [] h = refl
  in_order-strict (x ∷ []) h = refl
  in_order-strict (x ∷ y ∷ ys) h = ap (put_once R x) (in_order-strict (y ∷ ys) h.1) ∙ ap (λ r. put_once_by r x y ys (put_once R x ys)) h.0.0

  pub in_order-in_order : (xs : List X) → in_order R (in_order R xs) ≡ in_order R xs
  in_order-in_order xs = in_order-strict (in_order R xs) (in_order-sorted o xs)

-- The namespaces don't depend on the order of names.

own_spaces-append : (ms ns : List OwnName) → own_spaces (ms ++ ns) ≡ own_spaces ms ++ own_spaces ns
own_spaces-append [] ns = refl
own_spaces-append (m ∷ ms) ns = by (is_known m.ns) (own_spaces-append ms ns)
  where
    by : (b : Bool) → own_spaces (ms ++ ns) ≡ own_spaces ms ++ own_spaces ns
        → cond b (own_spaces (ms ++ ns)) (m.ns ∷ own_spaces (ms ++ ns)) ≡ cond b (own_spaces ms) (m.ns ∷ own_spaces ms) ++ own_spaces ns
    by true e = e
    by false e = ap (λ l. m.ns ∷ l) e

exchanged : (xs ys zs : List (List ℕ)) → in_order text_cmp ((xs ++ ys) ++ zs) ≡ in_order text_cmp ((ys ++ xs) ++ zs)
exchanged xs ys zs =
    in_order-same same_text nat_list_cmp_total ((xs ++ ys) ++ zs) ((ys ++ xs) ++ zs)
    (SameMembers-permutation ((xs ++ ys) ++ zs) ((ys ++ xs) ++ zs) (IsPermutation-append_left zs (xs ++ ys) (ys ++ xs)
    (IsPermutation-append_comm xs ys)))

spaces-apart : (xs ys zs : List OwnName)
    → spaces_of (xs ++ (ys ++ zs)) ≡ in_order text_cmp ((own_spaces xs ++ own_spaces ys) ++ own_spaces zs)
spaces-apart xs ys zs =
    sym (spaces_of-in_order (xs ++ (ys ++ zs)))
    ∙ ap (in_order text_cmp) (own_spaces-append xs (ys ++ zs) ∙ ap (λ l. own_spaces xs ++ l) (own_spaces-append ys zs)
    ∙ sym (append_assoc (own_spaces xs) (own_spaces ys) (own_spaces zs)))

spaces-exchanged : (xs ys zs : List OwnName) → spaces_of (xs ++ (ys ++ zs)) ≡ spaces_of (ys ++ (xs ++ zs))
spaces-exchanged xs ys zs = spaces-apart xs ys zs ∙ exchanged (own_spaces xs) (own_spaces ys) (own_spaces zs) ∙ sym (spaces-apart ys xs zs)

pub spaces-behind : (xs ms ns : List OwnName) → spaces_of ms ≡ spaces_of ns → spaces_of (xs ++ ms) ≡ spaces_of (xs ++ ns)
spaces-behind [] ms ns e = e
spaces-behind (x ∷ xs) ms ns e = ap (λ ss. cond (is_known x.ns) ss (with_space x.ns ss)) (spaces-behind xs ms ns e)

module _ {X : Type 0} (names : X → List OwnName) (R : X → X → Ordering) where
  spaces-put : (x : X) (ys : List X) (more : List OwnName)
      → spaces_of (flat_map names (put R x ys) ++ more) ≡ spaces_of (names x ++ (flat_map names ys ++ more))
  spaces-put x [] more = ap spaces_of (append_assoc (names x) [] more)
  spaces-put x (y ∷ ys) more = by (R x y) (spaces-put x ys more)
    where
      by : (r : Ordering) → spaces_of (flat_map names (put R x ys) ++ more) ≡ spaces_of (names x ++ (flat_map names ys ++ more))
          → spaces_of (flat_map names (put_by r x y ys (put R x ys)) ++ more)
          ≡ spaces_of (names x ++ ((names y ++ flat_map names ys) ++ more))
      by Less e = ap spaces_of (append_assoc (names x) (names y ++ flat_map names ys) more)
      by Equal e = ap spaces_of (append_assoc (names x) (names y ++ flat_map names ys) more)
      by Greater e =
          ap spaces_of (append_assoc (names y) (flat_map names (put R x ys)) more)
          ∙ spaces-behind (names y) (flat_map names (put R x ys) ++ more) (names x ++ (flat_map names ys ++ more)) e
          ∙ spaces-exchanged (names y) (names x) (flat_map names ys ++ more)
          ∙ ap (λ l. spaces_of (names x ++ l)) (sym (append_assoc (names y) (flat_map names ys) more))

  spaces-sorted : (xs : List X) (more : List OwnName)
      → spaces_of (flat_map names (sorted R xs) ++ more) ≡ spaces_of (flat_map names xs ++ more)
  unfolding sorted
  spaces-sorted [] more = refl
  spaces-sorted (x ∷ xs) more =
      spaces-put x (sorted R xs) more
      ∙ spaces-behind (names x) (flat_map names (sorted R xs) ++ more) (flat_map names xs ++ more) (spaces-sorted xs more)
      ∙ ap spaces_of (sym (append_assoc (names x) (flat_map names xs) more))

abbrev pub names_in : Fact → List OwnName
names_in f = fact_names (before f none)

name_front : (n : OwnName) (ms ns : List OwnName) → n ∷ (ms ++ ns) ≡ (n ∷ (ms ++ [])) ++ ns
name_front n ms ns = ap (λ l. n ∷ (l ++ ns)) (sym (append-nil ms))

names-by : (f : Fact) (rest : Facts) (o : Fact-F Fact Tuple) → out-Fact f ≡ o → fact_names (before f rest) ≡ names_in f ++ fact_names rest
names-by f rest (Fact-F.Item i) e = rw (fold_out-Fact, e) refl
names-by f rest (Fact-F.Tuple t) e =
    let same : f ≡ fact.Tuple t = search (rules, the_lemmas) in
    ap (λ g. fact_names (before g rest)) same ∙ ap fact_names (before-Tuple t rest)
    ∙ name_front t.name (fact_names (facts_of t.members)) (fact_names rest)
    ∙ ap (λ l. l ++ fact_names rest) (sym (ap names_in same ∙ ap fact_names (before-Tuple t none)))

-- the names of a fact and of those after it
pub names-before : (f : Fact) (rest : Facts) → fact_names (before f rest) ≡ names_in f ++ fact_names rest
names-before f rest = names-by f rest (out-Fact f) refl

pub names_of : (fs : List Fact) → fact_names (facts_of fs) ≡ flat_map names_in fs
names_of [] = refl
names_of (f ∷ fs) = names-before f (facts_of fs) ∙ ap (λ l. names_in f ++ l) (names_of fs)

-- the namespaces of an arranged content
pub spaces-arranged : (c : Content) → content_spaces (arranged c) (facts_of (arranged c).facts) ≡ content_spaces c (facts_of c.facts)
unfolding content_spaces arranged
spaces-arranged c =
    let by_id = on (λ (x : Context). x.id) text_cmp in
    let by_unit = on (λ (u : UnitContent). u.id) text_cmp in
    let R = by_line (fact_markup (content_spaces c (facts_of c.facts))) in
    let units = flat_map unit_names (sorted by_unit c.units) in
    let contexts = flat_map context_names c.contexts in
    spaces-sorted context_names by_id c.contexts (units ++ fact_names (facts_of (sorted R c.facts)))
    ∙ spaces-behind contexts (units ++ fact_names (facts_of (sorted R c.facts))) (flat_map unit_names c.units ++ fact_names
    (facts_of c.facts))
    (spaces-sorted unit_names by_unit c.units (fact_names (facts_of (sorted R c.facts)))
    ∙ spaces-behind (flat_map unit_names c.units) (fact_names (facts_of (sorted R c.facts))) (fact_names (facts_of c.facts))
    (ap spaces_of (names_of (sorted R c.facts) ∙ sym (append-nil (flat_map names_in (sorted R c.facts))))
    ∙ spaces-sorted names_in R c.facts []
    ∙ ap spaces_of (append-nil (flat_map names_in c.facts) ∙ sym (names_of c.facts))))

-- The lines.

once_again : {X : Type 0} (f : X → Markup) (xs : List X)
    → in_order line_cmp (map f (in_order (by_line f) xs)) ≡ in_order line_cmp (map f xs)
once_again f xs =
    in_order-map f line_cmp (in_order (by_line f) xs)
    ∙ ap (map f) (in_order-in_order (on_total f (on_total line nat_list_cmp_total)) xs)
    ∙ sym (in_order-map f line_cmp xs)

facts_again : (spaces : Spaces) (fs : List Fact)
    → sorted line_cmp (fact_markups spaces (facts_of (sorted (by_line (fact_markup spaces)) fs)))
    ≡ sorted line_cmp (fact_markups spaces (facts_of fs))
facts_again spaces fs =
    let f = fact_markup spaces in
    ap (sorted line_cmp) (fact_markups-are spaces (sorted (by_line f) fs))
    ∙ sorted-map f line_cmp (sorted (by_line f) fs)
    ∙ ap (map f) (sorted-sorted (on_total f (on_total line nat_list_cmp_total)) fs)
    ∙ sym (ap (sorted line_cmp) (fact_markups-are spaces fs) ∙ sorted-map f line_cmp fs)

-- the lines of facts that are in the order of these
lines_again : (spaces : Spaces) (fs : List Fact) → ordered_lines spaces (sorted (by_line (fact_markup spaces)) fs) ≡ ordered_lines spaces fs
lines_again spaces fs =
    let key = fact_line spaces in
    let R : Fact → Fact → Ordering = on key text_cmp in
    sorted-map key text_cmp (sorted R fs) ∙ ap (map key) (sorted-sorted (on_total key nat_list_cmp_total) fs) ∙ sym (sorted-map key text_cmp fs)

-- the lines of the facts of an arranged content
pub fact_lines-arranged : (c : Content) → lines_of_facts (arranged c) ≡ ordered_lines (content_spaces c (facts_of c.facts)) c.facts
unfolding arranged
fact_lines-arranged c =
    let spaces = content_spaces c (facts_of c.facts) in
    ap (λ (s : Spaces). ordered_lines s (arranged c).facts) (spaces-arranged c) ∙ lines_again spaces c.facts

links_again : (ls : List NoteLink)
    → sorted (on (λ (l : NoteLink). l.role) text_cmp) (map arranged_link (sorted (on (λ (l : NoteLink). l.role) text_cmp) ls))
    ≡ sorted (on (λ (l : NoteLink). l.role) text_cmp) (map arranged_link ls)
unfolding arranged_link
links_again ls =
    let R = on (λ (l : NoteLink). l.role) text_cmp in
    sorted-map arranged_link R (sorted R ls)
    ∙ ap (map arranged_link) (sorted-sorted (on_total (λ (l : NoteLink). l.role) nat_list_cmp_total) ls)
    ∙ sym (sorted-map arranged_link R ls)

children-arranged : (c : Content) (spaces : Spaces) → spaces ≡ content_spaces c (facts_of c.facts)
    → children spaces (arranged c) (facts_of (arranged c).facts) ≡ children spaces (with_arranged_links c) (facts_of c.facts)
unfolding children arranged
children-arranged c spaces e =
    let contexts = sorted-sorted (on_total (λ (x : Context). x.id) nat_list_cmp_total) c.contexts in
    let units = sorted-sorted (on_total (λ (u : UnitContent). u.id) nat_list_cmp_total) c.units in
    let facts : sorted line_cmp (fact_markups spaces (facts_of (sorted (by_line (fact_markup (content_spaces c
    (facts_of c.facts)))) c.facts))) ≡ sorted line_cmp (fact_markups spaces (facts_of c.facts)) =
    ap (λ s. sorted line_cmp (fact_markups spaces (facts_of (sorted (by_line (fact_markup s)) c.facts)))) (sym e)
    ∙ facts_again spaces c.facts in
    λ i.
    once_again schema_markup c.schemas i
    ++ (once_again linkbase_markup c.linkbases i
    ++ (once_again role_markup c.roles i
    ++ (once_again arcrole_markup c.arcroles i
    ++ (map (context_markup spaces) (contexts i)
    ++ (map (unit_markup spaces) (units i)
    ++ (facts i
    ++ map link_markup (links_again c.notes i)))))))

-- an arranged content has the lines of the content in which the footnote links alone are arranged
pub lines-arranged : (c : Content) → canon_lines (arranged c) ≡ canon_lines (with_arranged_links c)
unfolding lines_with content_spaces
lines-arranged c =
    let facts = facts_of (arranged c).facts in
    ap (λ (s : Spaces). first_line ∷ root_line s ∷ (map line (children s (arranged c) facts) ++ last_line ∷ [])) (spaces-arranged c)
    ∙ ap (λ (ms : List Markup). first_line ∷ root_line (content_spaces c (facts_of c.facts)) ∷ (map line ms ++ last_line ∷ []))
    (children-arranged c (content_spaces c (facts_of c.facts)) refl)
