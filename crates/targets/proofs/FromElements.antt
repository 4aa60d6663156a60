-- What a content says is said by elements of its set: contexts, units, items and the names and ids of tuples, one by one.
use Rattle.std.proofs.Common.{◌≡◌, ◌∙◌, ap, sym, subst, refl, ℕ, zero, suc, Bool, true, false, cond, List, [], ◌∷◌, ◌++◌, Option, None, Some, rules}
use Rattle.std.specs.List.{All, Contains, cons_option, filter, filter_map, list_all}
use Rattle.std.specs.Ordering.{on}
use Rattle.std.specs.Prelude.{◌&&◌, ◌||◌, bytes_eq, is_some, not, option_and_then}
use Rattle.std.specs.declared.cmp.Ordering.{Ordering}
use Rattle.std.proofs.lemmas.Bool.{and_from, and_parts}
use Rattle.std.proofs.lemmas.List.Elements.{All-append, All-cons, All-contains_itself, All-head, All-nil, All-tail, All-weaker}
use Rattle.ix_base.proofs.FactLaws.{before-Item, before-Tuple}
use Rattle.ix_base.proofs.OnceLemmas.{Contains-from_filter}
use Rattle.ix_base.specs.declared.content.Content.{Content}
use Rattle.ix_base.specs.declared.content.Context.{Context}
use Rattle.ix_base.specs.declared.content.Fact.{Fact, out-Fact, the_lemmas}
use Rattle.ix_base.specs.declared.content.Fact.TheOpen.{Fact-F}
use Rattle.ix_base.specs.declared.content.Fact.TheVariants as fact
use Rattle.ix_base.specs.declared.content.Item.{Item}
use Rattle.ix_base.specs.declared.content.OwnName.{OwnName}
use Rattle.ix_base.specs.declared.content.Tuple.{Tuple}
use Rattle.ix_base.specs.declared.content.Unit.{Unit as UnitContent}
use Rattle.ix_base.specs.declared.kind.Kind.{Kind}
use Rattle.ix_base.specs.declared.kind.Kind.TheVariants as kind
use Rattle.ix_base.specs.Asks.{asks, if_such, only}
use Rattle.ix_base.specs.Facts.{Facts, none, item, tuple, before, facts_of}
use Rattle.ix_base.specs.Ids.{id_of, speaker}
use Rattle.ix_base.specs.Kinds as kinds
use Rattle.ix_base.specs.Kinds.{kind_of, same_kind}
use Rattle.ix_base.specs.LinkRules.{target_of}
use Rattle.ix_base.specs.LocatedElements.{Located, is_fact, is_item, is_kind, is_tuple}
use Rattle.ix_base.specs.Membership.{deepest, fact_name, owner}
use Rattle.ix_base.specs.SortedLists.{sorted, text_cmp}
use Rattle.instance_lines.specs.Arrangement.{arranged, by_line}
use Rattle.instance_lines.specs.Canonical.{content_spaces, fact_names}
use Rattle.instance_lines.specs.Elements.{fact_markup}
use Rattle.instance_lines.specs.Holdings.{fact_ids, items_in}
use Rattle.instance_lines.specs.Lists.{of_option}
use Rattle.target_contents.specs.Contents.{IsContent, IsGathered, SaysItem, context_at, contexts_of, is_outer, unit_at, units_of}
use Rattle.target_contents.specs.TargetFacts.{AreFacts, members_read, one_less}
use Rattle.targets.proofs.AboveLaws.{only-there}
use Rattle.target_contents.proofs.AmongLaws.{all-sorted, members-among}
use Rattle.targets.proofs.HolderLaws.{speaker-parts, speaker_such}
use Rattle.target_contents.proofs.SaidLaws.{said}

-- Each of some facts, and of those within tuples.

-- what holds of each item, and of the name and the id of each tuple
abbrev pub Every : (Item → Type 0) → (OwnName → Option (List ℕ) → Type 0) → Facts → Type 0
Every P Q none = Unit {0}
Every P Q (item i rest) = P i × Every P Q rest
Every P Q (tuple name id nil within rest) = Q name id × Every P Q within × Every P Q rest

module _ (P : Item → Type 0) (Q : OwnName → Option (List ℕ) → Type 0) where
  abbrev Here : Fact → Type 0
  Here f = Every P Q (before f none)

  split-by : (f : Fact) (rest : Facts) (o : Fact-F Fact Tuple) → out-Fact f ≡ o → Every P Q (before f rest) → Here f × Every P Q rest
  split-by f rest (Fact-F.Item i) e h =
      let same : f ≡ fact.Item i = search (rules, the_lemmas) in
      let all : before f rest ≡ item i rest = ap (λ g. before g rest) same ∙ before-Item i rest in
      let here : before f none ≡ item i none = ap (λ g. before g none) same ∙ before-Item i none in
      let parts = subst (Every P Q) all h in
      (subst (Every P Q) (sym here) (parts.0, tt), parts.1)
  split-by f rest (Fact-F.Tuple t) e h =
      let same : f ≡ fact.Tuple t = search (rules, the_lemmas) in
      let all : before f rest ≡ tuple t.name t.id t.nil (facts_of t.members) rest = ap (λ g. before g rest) same ∙ before-Tuple t rest in
      let here : before f none ≡ tuple t.name t.id t.nil (facts_of t.members) none = ap (λ g. before g none) same ∙ before-Tuple t none in
      let parts = subst (Every P Q) all h in
      (subst (Every P Q) (sym here) (parts.0, parts.1, tt), parts.2)

  join-by : (f : Fact) (rest : Facts) (o : Fact-F Fact Tuple) → out-Fact f ≡ o → Here f → Every P Q rest → Every P Q (before f rest)
  join-by f rest (Fact-F.Item i) e h k =
      let same : f ≡ fact.Item i = search (rules, the_lemmas) in
      let all : before f rest ≡ item i rest = ap (λ g. before g rest) same ∙ before-Item i rest in
      let here : before f none ≡ item i none = ap (λ g. before g none) same ∙ before-Item i none in
      let parts = subst (Every P Q) here h in
      subst (Every P Q) (sym all) (parts.0, k)
  join-by f rest (Fact-F.Tuple t) e h k =
      let same : f ≡ fact.Tuple t = search (rules, the_lemmas) in
      let all : before f rest ≡ tuple t.name t.id t.nil (facts_of t.members) rest = ap (λ g. before g rest) same ∙ before-Tuple t rest in
      let here : before f none ≡ tuple t.name t.id t.nil (facts_of t.members) none = ap (λ g. before g none) same ∙ before-Tuple t none in
      let parts = subst (Every P Q) here h in
      subst (Every P Q) (sym all) (parts.0, parts.1, k)

  each-here : (fs : List Fact) → Every P Q (facts_of fs) → All Here fs
  each-here [] h = All-nil Here
  each-here (f ∷ fs) h =
      let parts = split-by f (facts_of fs) (out-Fact f) refl h in
      All-cons Here f fs parts.0 (each-here fs parts.1)

  all-here : (fs : List Fact) → All Here fs → Every P Q (facts_of fs)
  all-here [] h = tt
  all-here (f ∷ fs) h = join-by f (facts_of fs) (out-Fact f) refl (All-head Here f fs h) (all-here fs (All-tail Here f fs h))

  -- what holds of each fact holds of each in order
  pub every-sorted : (R : Fact → Fact → Ordering) (fs : List Fact) → Every P Q (facts_of fs) → Every P Q (facts_of (sorted R fs))
  every-sorted R fs h = all-here (sorted R fs) (all-sorted Here R fs (each-here fs h))

  pub every-item : (facts : Facts) → Every P Q facts → All P (items_in facts)
  every-item none h = All-nil P
  every-item (item i rest) h = All-cons P i (items_in rest) h.0 (every-item rest h.1)
  every-item (tuple name id nil within rest) h =
      All-append P (items_in within) (items_in rest) (every-item within h.1) (every-item rest h.2)

-- what holds of each in one way holds of each in another
pub every-weaker : (P P2 : Item → Type 0) (Q Q2 : OwnName → Option (List ℕ) → Type 0) → ((i : Item) → P i → P2 i)
    → ((name : OwnName) (id : Option (List ℕ)) → Q name id → Q2 name id) → (facts : Facts) → Every P Q facts → Every P2 Q2 facts
every-weaker P P2 Q Q2 f g none h = tt
every-weaker P P2 Q Q2 f g (item i rest) h = (f i h.0, every-weaker P P2 Q Q2 f g rest h.1)
every-weaker P P2 Q Q2 f g (tuple name id nil within rest) h =
    (g name id h.0, every-weaker P P2 Q Q2 f g within h.1, every-weaker P P2 Q Q2 f g rest h.2)

-- the names and the ids of facts
pub every-name : (N : OwnName → Type 0) (facts : Facts) → Every (λ i. N i.name) (λ name id. N name) facts → All N (fact_names facts)
every-name N none h = All-nil N
every-name N (item i rest) h = All-cons N i.name (fact_names rest) h.0 (every-name N rest h.1)
every-name N (tuple name id nil within rest) h =
    All-cons N name (fact_names within ++ fact_names rest) h.0
    (All-append N (fact_names within) (fact_names rest) (every-name N within h.1) (every-name N rest h.2))

pub every-id : (N : List ℕ → Type 0) (facts : Facts) → Every (λ i. All N (of_option i.id)) (λ name id. All N (of_option id)) facts → All N (fact_ids facts)
every-id N none h = All-nil N
every-id N (item i rest) h = All-append N (of_option i.id) (fact_ids rest) h.0 (every-id N rest h.1)
every-id N (tuple name id nil within rest) h =
    All-append N (of_option id) (fact_ids within ++ fact_ids rest) h.0
    (All-append N (fact_ids within) (fact_ids rest) (every-id N within h.1) (every-id N rest h.2))

-- a test that each passes
pub all-pass : {X : Type 0} (p : X → Bool) (xs : List X) → All (λ x. p x ≡ true) xs → list_all p xs ≡ true
all-pass p [] h = refl
all-pass p (x ∷ xs) h = and_from (p x) (list_all p xs) (All-head (λ y. p y ≡ true) x xs h) (all-pass p xs (All-tail (λ y. p y ≡ true) x xs h))

-- The elements that say facts.

module _ (bases : Located → List ℕ) (es : List Located) where
  -- an item of the set says this
  abbrev pub FromItem : Item → Type 0
  FromItem i = (e : Located) × Contains es e × (is_item e ≡ true) × SaysItem bases es e i

  -- a tuple of the set has this name and id
  abbrev pub FromTuple : OwnName → Option (List ℕ) → Type 0
  FromTuple name id = (e : Located) × Contains es e × (is_tuple e ≡ true) × (name ≡ fact_name e) × (id ≡ id_of e)

  abbrev IsThere : Located → Type 0
  IsThere e = Contains es e × (is_fact e ≡ true)

  item-kind : (k : Kind) → kinds.is_fact k ≡ true → same_kind k kind.Tuple ≡ false
      → (same_kind k kind.NonNumeric || same_kind k kind.NonFraction || same_kind k kind.Fraction) ≡ true
  item-kind kind.NonNumeric h t = refl
  item-kind kind.NonFraction h t = refl
  item-kind kind.Fraction h t = refl
  item-kind kind.Tuple h t = absurd (cc)
  item-kind k h t = absurd (cc)

  read-there : (n : ℕ) (t : Located) → All IsThere (members_read n es t)
  read-there zero t = All-nil IsThere
  read-there (suc n) t = members-among es t

  every-from : (n : ℕ) (xs : List Located) → All IsThere xs → (facts : Facts) → AreFacts (SaysItem bases es) es n xs facts → Every FromItem FromTuple facts
  every-from n [] there none h = tt
  every-from n [] there (item i rest) h = absurd h
  every-from n [] there (tuple name id nil within rest) h = absurd h
  every-from n (x ∷ xs) there none h = absurd h
  every-from n (x ∷ xs) there (item i rest) h =
      let here = All-head IsThere x xs there in (
        (x, here.0, item-kind (kind_of x.placed) here.1 h.0, h.1),
        every-from n xs (All-tail IsThere x xs there) rest h.2,
      )
  every-from n (x ∷ xs) there (tuple name id nil within rest) h =
      let here = All-head IsThere x xs there in (
        (x, here.0, h.0, h.1, h.2),
        every-from (one_less n) (members_read n es x) (read-there n x) within h.4,
        every-from n xs (All-tail IsThere x xs there) rest h.5,
      )

  outer-there : (target : List ℕ) → All IsThere (filter (is_outer (asks es) target) es)
  outer-there target =
      let p = is_outer (asks es) target in
      All-weaker (Contains (filter p es)) IsThere
      (λ e at. let kept = Contains-from_filter p es e at in
      let both = and_parts (is_fact e && bytes_eq target (target_of e)) (not (is_some (owner (asks es) e))) kept.1 in
      (kept.0, (and_parts (is_fact e) (bytes_eq target (target_of e)) both.0).0))
      (filter p es) (All-contains_itself (filter p es))

  facts-gathered : (target : List ℕ) (c : Content) → IsGathered bases es target c → Every FromItem FromTuple (facts_of c.facts)
  facts-gathered target c g = every-from deepest (filter (is_outer (asks es) target) es) (outer-there target) (facts_of c.facts) g.facts

  facts-arranged : (c : Content) → Every FromItem FromTuple (facts_of c.facts) → Every FromItem FromTuple (facts_of (arranged c).facts)
  unfolding arranged
  facts-arranged c h = every-sorted FromItem FromTuple (by_line (fact_markup (content_spaces c (facts_of c.facts)))) c.facts h

  -- the facts of a content are said by elements of the set
  pub facts-from : (target : List ℕ) (c : Content) → IsContent bases es target c → Every FromItem FromTuple (facts_of c.facts)
  facts-from target c h =
      subst (λ (x : Content). Every FromItem FromTuple (facts_of x.facts)) (sym h.2) (facts-arranged h.0 (facts-gathered target h.0 h.1))

  -- what each item that an element says passes is passed by each item of a content
  pub items-pass : (p : Item → Bool) → ((i : Item) → FromItem i → p i ≡ true) → (target : List ℕ) (c : Content) → IsContent bases es target c
      → list_all p (items_in (facts_of c.facts)) ≡ true
  items-pass p h target c is =
      all-pass p (items_in (facts_of c.facts))
      (All-weaker FromItem (λ i. p i ≡ true) h (items_in (facts_of c.facts))
      (every-item FromItem FromTuple (facts_of c.facts) (facts-from target c is)))

  -- The elements that say contexts and units.

  -- an element of this kind says this
  abbrev pub FromPart : {X : Type 0} → Kind → (Located → Option X) → X → Type 0
  FromPart k f x = (e : Located) × Contains es e × (is_kind k e ≡ true) × (f e ≡ Some x)

  such-by : (k : Kind) (e x : Located) (b : Bool) → is_kind k x ≡ b → Contains es x → cond b (Some x) None ≡ Some e → Contains es e × (is_kind k e ≡ true)
  such-by k e x true p c h = let same : x ≡ e = cc in (subst (Contains es) same c, ap (is_kind k) (sym same) ∙ p)
  such-by k e x false p c h = absurd (cc)

  pub such-there : (k : Kind) (e : Located) (p : Located → Bool) (o : Option Located) → only (filter p es) ≡ o → if_such (is_kind k) o ≡ Some e
      → Contains es e × (is_kind k e ≡ true)
  such-there k e p None found h = absurd (cc)
  such-there k e p (Some x) found h =
      such-by k e x (is_kind k x) refl (Contains-from_filter p es x (only-there (filter p es) x found)).0 h

  abbrev IsOf : Kind → Located → Type 0
  IsOf k e = Contains es e × (is_kind k e ≡ true)

  part-said : {X : Type 0} (k : Kind) (f : Located → Option X) (e : Located) (rest : List X) (o : Option X) → f e ≡ o → IsOf k e
      → All (FromPart k f) rest → All (FromPart k f) (cons_option o rest)
  part-said k f e rest None h at all = all
  part-said k f e rest (Some x) h at all = All-cons (FromPart k f) x rest (e, at.0, at.1, h) all

  part-one : {X : Type 0} (k : Kind) (f : Located → Option X) (id : List ℕ) (rest : List X) (o : Option Located) → speaker_such k es id ≡ o
      → All (FromPart k f) rest → All (FromPart k f) (cons_option (option_and_then f o) rest)
  part-one k f id rest None h all = all
  part-one k f id rest (Some e) h all = let at = speaker-parts es id k e h in part-said k f e rest (f e) refl (at.0, at.2) all

  -- what is said of some ids
  parts-there : {X : Type 0} (k : Kind) (f : Located → Option X) (ids : List (List ℕ)) → All (FromPart k f) (filter_map (λ id. said k f (speaker es id)) ids)
  parts-there k f [] = All-nil (FromPart k f)
  parts-there k f (id ∷ ids) =
      part-one k f id (filter_map (λ i. said k f (speaker es i)) ids) (speaker_such k es id) refl (parts-there k f ids)

  abbrev pub FromContext : Context → Type 0
  FromContext = FromPart kind.Context context_at

  abbrev pub FromUnit : UnitContent → Type 0
  FromUnit = FromPart kind.Unit unit_at

  contexts-arranged : (target : List ℕ) (c : Content) → c.contexts ≡ contexts_of es target → All FromContext (arranged c).contexts
  unfolding arranged
  contexts-arranged target c e =
      all-sorted FromContext (on (λ x. x.id) text_cmp) c.contexts
      (subst (All FromContext) (sym e) (parts-there kind.Context context_at _))

  units-arranged : (target : List ℕ) (c : Content) → c.units ≡ units_of es target → All FromUnit (arranged c).units
  unfolding arranged
  units-arranged target c e =
      all-sorted FromUnit (on (λ u. u.id) text_cmp) c.units
      (subst (All FromUnit) (sym e) (parts-there kind.Unit unit_at _))

  -- the contexts and the units of a content are said by elements of the set
  pub contexts-from : (target : List ℕ) (c : Content) → IsContent bases es target c → All FromContext c.contexts
  contexts-from target c h = subst (λ (x : Content). All FromContext x.contexts) (sym h.2) (contexts-arranged target h.0 h.1.contexts)

  pub units-from : (target : List ℕ) (c : Content) → IsContent bases es target c → All FromUnit c.units
  units-from target c h = subst (λ (x : Content). All FromUnit x.units) (sym h.2) (units-arranged target h.0 h.1.units)
