-- The body of a footnote is the markup of some sound nodes with the empty namespace around them, links as they are written.
use Rattle.std.proofs.Common.{◌≡◌, ◌≢◌, ◌∙◌, ap, sym, subst, refl, ℕ, zero, suc, ◌≤◌, ◌==◌, Bool, true, false, not, ◌&&◌, ◌||◌, cond, List, [], ◌∷◌, ◌++◌, All, length, map, Option, Some, None, append_assoc, append-nil, arith, ⊎_elim, inl, inr, ◌⊎◌}
use Rattle.std.specs.List.{Contains, filter}
use Rattle.std.specs.Prelude.{if◌then◌else◌, is_some, nat_lt}
use Rattle.ix_base.specs.declared.limits.TheConstants.{DEEPEST_ELEMENT}
use Rattle.std.proofs.lemmas.Bool.{and_parts}
use Rattle.std.proofs.lemmas.Bool.Decides.{nat_tests}
use Rattle.std.proofs.lemmas.List.Elements.{All-cons, All-filter, All-head, All-map, All-tail, All-weaker, Contains-append_cases}
use Rattle.url.specs.Parts.{Parts, serialize}
use Rattle.ix_base.specs.Address.{is_link, joined_url, link_or, longest_link, resolved, url_of}
use Rattle.ix_base.specs.Elements.{Placed, below, elements_of, placed_at, tree_at}
use Rattle.ix_base.specs.LocatedElements.{Located, Paged, marked_from, page_marked}
use Rattle.ix_base.specs.Markup.{Kept, LeftOut, Manner, Opened, attribute_cmp, attribute_of, base_below, body, body_along, declaration, element_by, ends_short, is_link_of, is_silent, is_written, manner, markup_along, own_attributes, put_words, silent_by, value_by}
use Rattle.ix_base.specs.NcName.{are_allowed}
use Rattle.ix_base.specs.SortedLists.{sorted}
use Rattle.ix_base.specs.Sound.{AreDistinct, AreSound, IsSoundAttribute, IsSoundHead, IsSoundTree}
use Rattle.ix_base.specs.Token.{is_token}
use Rattle.ix_base.specs.Trees.{Head, Named, Nodes, Tree, Valued, none, chars, elem}
use Rattle.ix_base.specs.WrittenMarkup.{Markup, nothing, words, node, leaf, verbatim, written}
use Rattle.ix_base.proofs.OnceLemmas.{Contains-cases, Contains-first, Contains-later, Contains-nil}
use Rattle.instance_out.specs.Proper.{IsBody}
use Rattle.targets.proofs.AllowedLaws.{allowed-append}
use Rattle.targets.proofs.PlaceLaws.{page_marked-on}

-- one of the three manners
manner-cases : (m : Manner) → (m ≡ LeftOut) ⊎ ((m ≡ Opened) ⊎ (m ≡ Kept))
manner-cases LeftOut = inl refl
manner-cases Opened = inr (inl refl)
manner-cases Kept = inr (inr refl)

-- The nodes that markup means.

-- a text in front of other nodes, so that no text is empty and no two are neighbours
abbrev put_chars : List ℕ → Nodes → Nodes
put_chars [] rest = rest
put_chars (c ∷ cs) none = chars (c ∷ cs) none
put_chars (c ∷ cs) (chars text rest) = chars ((c ∷ cs) ++ text) rest
put_chars (c ∷ cs) (elem head children rest) = chars (c ∷ cs) (elem head children rest)

-- an attribute with the value that is written
abbrev said : Option (List ℕ) → Named → Valued → Valued
said base element a = record { name = a.name; value = value_by (is_link_of element a.name) base a.value }

abbrev said_head : Option (List ℕ) → Head → Head
said_head base h = record h { attrs = map (said base h.name) (filter is_written h.attrs) }

-- what some nodes mean in front of others
abbrev meant : Option (List ℕ) → Nodes → Nodes → Nodes
meant base none rest = rest
meant base (chars text more) rest = put_chars text (meant base more rest)
meant base (elem head children more) rest = elim (manner head.name) [
  | LeftOut ↦ meant base more rest
  | Opened ↦ meant (base_below base head) children (meant base more rest)
  | Kept ↦ elem (said_head (base_below base head) head) (meant (base_below base head) children none) (meant base more rest)
]

abbrev meant_along : (Located → Option (List ℕ)) → List Located → Nodes
meant_along bases [] = none
meant_along bases (e ∷ es) = meant (bases e) e.placed.tree.children (meant_along bases es)

-- What is written of an element, by its manner.

module _ (base : Option (List ℕ)) (h : Head) (kids more : Nodes) where
  left-meant : (rest : Nodes) → manner h.name ≡ LeftOut → meant base (elem h kids more) rest ≡ meant base more rest
  left-meant rest e = rw (e, meant) refl

  opened-meant : (rest : Nodes) → manner h.name ≡ Opened → meant base (elem h kids more) rest ≡ meant (base_below base h) kids (meant base more rest)
  opened-meant rest e = rw (e, meant) refl

  kept-meant : (rest : Nodes) → manner h.name ≡ Kept
      → meant base (elem h kids more) rest ≡ elem (said_head (base_below base h) h) (meant (base_below base h) kids none) (meant base more rest)
  kept-meant rest e = rw (e, meant) refl

  left-body : (n : List ℕ) (rest : Markup) → manner h.name ≡ LeftOut → body base n (elem h kids more) rest ≡ body base n more rest
  left-body n rest e = rw (e, body) refl

  opened-body : (n : List ℕ) (rest : Markup) → manner h.name ≡ Opened
      → body base n (elem h kids more) rest ≡ body (base_below base h) n kids (body base n more rest)
  opened-body n rest e = rw (e, body) refl

  kept-body : (n : List ℕ) (rest : Markup) → manner h.name ≡ Kept
      → body base n (elem h kids more) rest ≡ element_by (ends_short h.name && is_silent kids) h.name.local
      (declaration n h.name.ns ++ own_attributes (base_below base h) h) (body (base_below base h) h.name.ns kids nothing) (body base n more rest)
  kept-body n rest e = rw (e, body) refl

  silent-elem : (m : Manner) → manner h.name ≡ m → is_silent (elem h kids more) ≡ (silent_by m (is_silent kids) && is_silent more)
  silent-elem m e = ap (λ x. silent_by x (is_silent kids) && is_silent more) e

-- Texts that are put together.

words-both : (t u : List ℕ) (m : Markup) → put_words t (put_words u m) ≡ put_words (t ++ u) m
words-both [] u m = refl
words-both (c ∷ t) [] m = ap (λ x. put_words x m) (sym (append-nil (c ∷ t)))
words-both (c ∷ t) (d ∷ u) nothing = refl
words-both (c ∷ t) (d ∷ u) (words text rest) = ap (λ x. words x rest) (sym (append_assoc (c ∷ t) (d ∷ u) text))
words-both (c ∷ t) (d ∷ u) (node name attrs kids rest) = refl
words-both (c ∷ t) (d ∷ u) (leaf name attrs rest) = refl
words-both (c ∷ t) (d ∷ u) (verbatim bytes rest) = refl

chars-body : (n : List ℕ) (t : List ℕ) (ns : Nodes) (rest : Markup) → body None n (put_chars t ns) rest ≡ put_words t (body None n ns rest)
chars-body n [] ns rest = refl
chars-body n (c ∷ t) none rest = refl
chars-body n (c ∷ t) (chars u more) rest = sym (words-both (c ∷ t) u (body None n more rest))
chars-body n (c ∷ t) (elem h kids more) rest = refl

-- Attributes that are written.

as_is : (b : Bool) (base : Option (List ℕ)) (text : List ℕ) → value_by b None (value_by b base text) ≡ value_by b base text
as_is true base text = refl
as_is false base text = refl

said-written : (base : Option (List ℕ)) (n : Named) (as' : List Valued)
    → map (attribute_of None n) (filter is_written (map (said base n) (filter is_written as'))) ≡ map (attribute_of base n) (filter is_written as')
said-written base n [] = refl
said-written base n (a ∷ as') = by (is_written a) refl (said-written base n as')
  where
    one : attribute_of None n (said base n a) ≡ attribute_of base n a
    one = ap (λ v. record { name = (attribute_of base n a).name; value = v }) (as_is (is_link_of n a.name) base a.value)

    more : List Valued
    more = filter is_written as'

    by : (b : Bool) → is_written a ≡ b
        → map (attribute_of None n) (filter is_written (map (said base n) (filter is_written as'))) ≡ map (attribute_of base n) (filter is_written as')
        → map (attribute_of None n) (filter is_written (map (said base n) (cond b (a ∷ filter is_written as') (filter is_written as'))))
        ≡ map (attribute_of base n) (cond b (a ∷ filter is_written as') (filter is_written as'))
    by true e k =
        ap (λ b. map (attribute_of None n) (cond b (said base n a ∷ filter is_written (map (said base n) (filter is_written as'))) (filter is_written (map (said base n) (filter is_written as'))))) e
        ∙ ap (λ y. y ∷ map (attribute_of None n) (filter is_written (map (said base n) (filter is_written as')))) one
        ∙ ap (λ ys. attribute_of base n a ∷ ys) k
    by false e k = k

own-said : (base : Option (List ℕ)) (h : Head) → own_attributes None (said_head base h) ≡ own_attributes base h
own-said base h = ap (sorted attribute_cmp) (said-written base h.name h.attrs)

-- Silence.

not-none : (n : ℕ) → (suc n == 0) ≡ false
not-none n = grind (arith, nat_tests)

chars-silent : (t : List ℕ) (ns : Nodes) → is_silent (put_chars t ns) ≡ ((length t == 0) && is_silent ns)
chars-silent [] ns = refl
chars-silent (c ∷ t) none = refl
chars-silent (c ∷ t) (chars u more) =
    ap (λ b. b && is_silent more) (not-none (length (t ++ u))) ∙ sym (ap (λ b. b && is_silent (chars u more)) (not-none (length t)))
chars-silent (c ∷ t) (elem h kids more) = refl

and-assoc : (a b c : Bool) → (a && (b && c)) ≡ ((a && b) && c)
and-assoc true b c = refl
and-assoc false b c = refl

meant-silent : (base : Option (List ℕ)) (ns rest : Nodes) → is_silent (meant base ns rest) ≡ (is_silent ns && is_silent rest)
meant-silent base none rest = refl
meant-silent base (chars t more) rest =
    chars-silent t (meant base more rest) ∙ ap (λ x. (length t == 0) && x) (meant-silent base more rest)
    ∙ and-assoc (length t == 0) (is_silent more) (is_silent rest)
meant-silent base (elem h kids more) rest =
    by (manner-cases (manner h.name)) (meant-silent (base_below base h) kids (meant base more rest)) (meant-silent base more rest)
  where
    by : (manner h.name ≡ LeftOut) ⊎ ((manner h.name ≡ Opened) ⊎ (manner h.name ≡ Kept))
        → is_silent (meant (base_below base h) kids (meant base more rest)) ≡ (is_silent kids && is_silent (meant base more rest))
        → is_silent (meant base more rest) ≡ (is_silent more && is_silent rest)
        → is_silent (meant base (elem h kids more) rest) ≡ (is_silent (elem h kids more) && is_silent rest)
    by (inl m) k l =
        ap is_silent (left-meant base h kids more rest m) ∙ l
        ∙ sym (ap (λ x. x && is_silent rest) (silent-elem base h kids more LeftOut m))
    by (inr (inl m)) k l =
        ap is_silent (opened-meant base h kids more rest m) ∙ k ∙ ap (λ x. is_silent kids && x) l
        ∙ and-assoc (is_silent kids) (is_silent more) (is_silent rest)
        ∙ sym (ap (λ x. x && is_silent rest) (silent-elem base h kids more Opened m))
    by (inr (inr m)) k l =
        ap is_silent (kept-meant base h kids more rest m)
        ∙ silent-elem None (said_head (base_below base h) h) (meant (base_below base h) kids none) (meant base more rest) Kept m
        ∙ sym (ap (λ x. x && is_silent rest) (silent-elem base h kids more Kept m))

with-true : (b : Bool) → (b && true) ≡ b
with-true true = refl
with-true false = refl

-- The markup of the nodes that are meant is that of the nodes.
meant-body : (base : Option (List ℕ)) (n : List ℕ) (ns rest : Nodes) (out : Markup)
    → body None n (meant base ns rest) out ≡ body base n ns (body None n rest out)
meant-body base n none rest out = refl
meant-body base n (chars t more) rest out = chars-body n t (meant base more rest) out ∙ ap (put_words t) (meant-body base n more rest out)
meant-body base n (elem h kids more) rest out =
    by (manner-cases (manner h.name)) (meant-body (base_below base h) n kids (meant base more rest) out) (meant-body base n more rest out)
    (meant-body (base_below base h) h.name.ns kids none nothing)
  where
    B : Option (List ℕ)
    B = base_below base h

    by : (manner h.name ≡ LeftOut) ⊎ ((manner h.name ≡ Opened) ⊎ (manner h.name ≡ Kept))
        → body None n (meant (base_below base h) kids (meant base more rest)) out ≡ body (base_below base h) n kids (body None n (meant base more rest) out)
        → body None n (meant base more rest) out ≡ body base n more (body None n rest out)
        → body None h.name.ns (meant (base_below base h) kids none) nothing ≡ body (base_below base h) h.name.ns kids nothing
        → body None n (meant base (elem h kids more) rest) out ≡ body base n (elem h kids more) (body None n rest out)
    by (inl m) k l i =
        ap (λ x. body None n x out) (left-meant base h kids more rest m) ∙ l ∙ sym (left-body base h kids more n (body None n rest out) m)
    by (inr (inl m)) k l i =
        ap (λ x. body None n x out) (opened-meant base h kids more rest m) ∙ k ∙ ap (body (base_below base h) n kids) l
        ∙ sym (opened-body base h kids more n (body None n rest out) m)
    by (inr (inr m)) k l i =
        let inner = meant (base_below base h) kids none in
        let head = said_head (base_below base h) h in
        let tags = declaration n h.name.ns in
        ap (λ x. body None n x out) (kept-meant base h kids more rest m)
        ∙ kept-body None head inner (meant base more rest) n out m
        ∙ ap (λ q. element_by (ends_short h.name && q) h.name.local (tags ++ own_attributes None head) (body None h.name.ns inner nothing) (body None n (meant base more rest) out))
        (meant-silent (base_below base h) kids none ∙ with-true (is_silent kids))
        ∙ ap (λ a. element_by (ends_short h.name && is_silent kids) h.name.local (tags ++ a) (body None h.name.ns inner nothing) (body None n (meant base more rest) out))
        (own-said (base_below base h) h)
        ∙ ap (λ x. element_by (ends_short h.name && is_silent kids) h.name.local (tags ++ own_attributes (base_below base h) h) x (body None n (meant base more rest) out)) i
        ∙ ap (element_by (ends_short h.name && is_silent kids) h.name.local (tags ++ own_attributes (base_below base h) h) (body (base_below base h) h.name.ns kids nothing)) l
        ∙ sym (kept-body base h kids more n (body None n rest out) m)

along-body : (bases : Located → Option (List ℕ)) (n : List ℕ) (es : List Located) → body None n (meant_along bases es) nothing ≡ body_along bases n es
along-body bases n [] = refl
along-body bases n (e ∷ es) =
    meant-body (bases e) n e.placed.tree.children (meant_along bases es) nothing ∙ ap (body (bases e) n e.placed.tree.children) (along-body bases n es)

-- Soundness.

-- nodes are sound where deeper ones may be
sound-deeper : (ns : Nodes) (d k : ℕ) → d ≤ k → AreSound d ns → AreSound k ns
sound-deeper none d k l s = tt
sound-deeper (chars t more) d k l s = (s.0, s.1, s.2, sound-deeper more d k l s.3)
sound-deeper (elem h kids more) d zero l s = absurd (let e : d ≡ suc s.0 = s.1 in omega arith)
sound-deeper (elem h kids more) d (suc k) l s =
    let e : d ≡ suc s.0 = s.1 in
    (k, refl, s.2, sound-deeper kids s.0 k (omega (arith, e)) s.3, sound-deeper more d (suc k) l s.4)

chars-sound : (d : ℕ) (t : List ℕ) (ns : Nodes) → t ≢ [] → are_allowed t ≡ true → AreSound d ns → AreSound d (put_chars t ns)
chars-sound d [] ns h a s = absurd (h refl)
chars-sound d (c ∷ t) none h a s = (h, a, tt, tt)
chars-sound d (c ∷ t) (chars u more) h a s = ((λ e. cc), allowed-append (c ∷ t) u a s.1, s.2, s.3)
chars-sound d (c ∷ t) (elem k kids more) h a s = (h, a, tt, s)

or-allowed : (t : List ℕ) (o : Option Parts) → are_allowed t ≡ true → are_allowed (link_or t o) ≡ true
or-allowed t None h = h
or-allowed t (Some url) h = by (is_link (serialize url)) refl
  where
    by : (b : Bool) → is_link (serialize url) ≡ b → are_allowed (if b then serialize url else t) ≡ true
    by true e =
        let some = and_parts (not (length (serialize url) == 0)) (is_token (serialize url) && are_allowed (serialize url)) e in
        (and_parts (is_token (serialize url)) (are_allowed (serialize url)) some.1).1
    by false e = h

pub resolved-allowed : (base t : List ℕ) → are_allowed t ≡ true → are_allowed (resolved base t) ≡ true
resolved-allowed base t h = by (nat_lt longest_link (length t) || is_some (url_of t))
  where
    by : (b : Bool) → are_allowed (if b then t else link_or t (joined_url base t)) ≡ true
    by true = h
    by false = or-allowed t (joined_url base t) h

said-allowed : (b : Bool) (base : Option (List ℕ)) (t : List ℕ) → are_allowed t ≡ true → are_allowed (value_by b base t) ≡ true
said-allowed false base t h = h
said-allowed true None t h = h
said-allowed true (Some base) t h = resolved-allowed base t h

said-sound : (base : Option (List ℕ)) (n : Named) (a : Valued) → IsSoundAttribute a → IsSoundAttribute (said base n a)
said-sound base n a s = record {
  name = s.name;
  undeclaring = s.undeclaring;
  allowed = said-allowed (is_link_of n a.name) base a.value s.allowed;
}

said-apart : (base : Option (List ℕ)) (n m : Named) (as' : List Valued) → All (λ k. m ≢ k) (map (λ a. a.name) as')
    → All (λ k. m ≢ k) (map (λ a. a.name) (map (said base n) (filter is_written as')))
said-apart base n m [] h = h
said-apart base n m (a ∷ as') h = by (is_written a) (All-head (λ k. m ≢ k) a.name (map (λ x. x.name) as') h)
    (said-apart base n m as' (All-tail (λ k. m ≢ k) a.name (map (λ x. x.name) as') h))
  where
    by : (b : Bool) → m ≢ a.name → All (λ k. m ≢ k) (map (λ x. x.name) (map (said base n) (filter is_written as')))
        → All (λ k. m ≢ k) (map (λ x. x.name) (map (said base n) (cond b (a ∷ filter is_written as') (filter is_written as'))))
    by true d k = All-cons (λ x. m ≢ x) a.name (map (λ x. x.name) (map (said base n) (filter is_written as'))) d k
    by false d k = k

said-distinct : (base : Option (List ℕ)) (n : Named) (as' : List Valued) → AreDistinct (map (λ a. a.name) as')
    → AreDistinct (map (λ a. a.name) (map (said base n) (filter is_written as')))
said-distinct base n [] h = tt
said-distinct base n (a ∷ as') h = by (is_written a) (said-apart base n a.name as' h.0) (said-distinct base n as' h.1)
  where
    by : (b : Bool) → All (λ k. a.name ≢ k) (map (λ x. x.name) (map (said base n) (filter is_written as')))
        → AreDistinct (map (λ x. x.name) (map (said base n) (filter is_written as')))
        → AreDistinct (map (λ x. x.name) (map (said base n) (cond b (a ∷ filter is_written as') (filter is_written as'))))
    by true d k = (d, k)
    by false d k = k

head-sound : (base : Option (List ℕ)) (h : Head) → IsSoundHead h → IsSoundHead (said_head base h)
head-sound base h s = record {
  name = s.name;
  attributes = All-map IsSoundAttribute (said base h.name) (filter is_written h.attrs)
      (All-filter is_written (λ a. IsSoundAttribute (said base h.name a)) h.attrs
      (All-weaker IsSoundAttribute (λ a. IsSoundAttribute (said base h.name a)) (said-sound base h.name) h.attrs s.attributes));
  distinct = said-distinct base h.name h.attrs s.distinct;
  bindings = s.bindings;
  sorted = s.sorted;
  xml = s.xml;
}

-- what sound nodes mean is sound
meant-sound : (d : ℕ) (base : Option (List ℕ)) (ns rest : Nodes) → AreSound d ns → AreSound d rest → AreSound d (meant base ns rest)
meant-sound d base none rest s r = r
meant-sound d base (chars t more) rest s r = chars-sound d t (meant base more rest) s.0 s.1 (meant-sound d base more rest s.3 r)
meant-sound d base (elem h kids more) rest s r =
    by (manner-cases (manner h.name)) (meant-sound d base more rest s.4 r) (meant-sound d (base_below base h) kids (meant base more rest))
    (meant-sound s.0 (base_below base h) kids none s.3 tt)
  where
    deep : s.0 ≤ d
    deep = let e : d ≡ suc s.0 = s.1 in omega arith

    by : (manner h.name ≡ LeftOut) ⊎ ((manner h.name ≡ Opened) ⊎ (manner h.name ≡ Kept)) → AreSound d (meant base more rest)
        → (AreSound d kids → AreSound d (meant base more rest) → AreSound d (meant (base_below base h) kids (meant base more rest)))
        → AreSound s.0 (meant (base_below base h) kids none) → AreSound d (meant base (elem h kids more) rest)
    by (inl m) l o k = subst (AreSound d) (sym (left-meant base h kids more rest m)) l
    by (inr (inl m)) l o k = subst (AreSound d) (sym (opened-meant base h kids more rest m)) (o (sound-deeper kids s.0 d deep s.3) l)
    by (inr (inr m)) l o k = subst (AreSound d) (sym (kept-meant base h kids more rest m)) (s.0, s.1, head-sound (base_below base h) h s.2, k, l)

-- Elements of sound pages.

below-sound : (d : ℕ) (above : List Tree) (ns : Nodes) (p : Placed) → AreSound (suc d) ns → Contains (below above ns) p → AreSound d p.tree.children
below-sound d above none p s h = absurd (Contains-nil p h)
below-sound d above (chars text rest) p s h = below-sound d above rest p s.3 h
below-sound d above (elem head kids rest) p s h =
    let t = tree_at head kids in
    let depth : suc d ≡ suc s.0 = s.1 in
    ⊎_elim
    (λ e. subst (λ (q : Placed). AreSound d q.tree.children) e (sound-deeper kids s.0 d (omega (arith, depth)) s.3))
    (λ k. ⊎_elim
    (λ c. below-sound d (t ∷ above) kids p (sound-deeper kids s.0 (suc d) (omega (arith, depth)) s.3) c)
    (λ c. below-sound d above rest p s.4 c)
    (Contains-append_cases (below (t ∷ above) kids) (below above rest) p k))
    (Contains-cases (placed_at t above) (below (t ∷ above) kids ++ below above rest) p h)

element-sound : (t : Tree) (p : Placed) → IsSoundTree t DEEPEST_ELEMENT → Contains (elements_of t) p → AreSound 255 p.tree.children
element-sound t p s h =
    let n = s.nodes in
    let depth : DEEPEST_ELEMENT ≡ suc n.0 = n.1 in
    ⊎_elim
    (λ e. subst (λ (q : Placed). AreSound 255 q.tree.children) e (sound-deeper t.children n.0 255 (omega (arith, depth)) n.3))
    (λ k. below-sound 255 (t ∷ []) t.children p (sound-deeper t.children n.0 DEEPEST_ELEMENT (omega (arith, depth)) n.3) k)
    (Contains-cases (placed_at t []) (below (t ∷ []) t.children) p h)

pub children-sound : (n : ℕ) (pages : List Paged) → All (λ p. IsSoundTree p.tree DEEPEST_ELEMENT) pages → (e : Located) → Contains (marked_from n pages) e
    → AreSound 255 e.placed.tree.children
children-sound n [] s e h = absurd (Contains-nil e h)
children-sound n (p ∷ pages) s e h = ⊎_elim
    (λ here. element-sound p.tree e.placed (All-head (λ (q : Paged). IsSoundTree q.tree DEEPEST_ELEMENT) p pages s) (page_marked-on n p.tree e here).1)
    (λ later. children-sound (suc n) pages (All-tail (λ (q : Paged). IsSoundTree q.tree DEEPEST_ELEMENT) p pages s) e later)
    (Contains-append_cases (page_marked n p.tree) (marked_from (suc n) pages) e h)

along-sound : (bases : Located → Option (List ℕ)) (es : List Located) → ((e : Located) → Contains es e → AreSound 255 e.placed.tree.children)
    → AreSound 255 (meant_along bases es)
along-sound bases [] h = tt
along-sound bases (e ∷ es) h =
    meant-sound 255 (bases e) e.placed.tree.children (meant_along bases es) (h e (Contains-first e es))
    (along-sound bases es (λ x k. h x (Contains-later e es x k)))

-- a body along elements whose children are sound
pub body-is : (bases : Located → Option (List ℕ)) (es : List Located) → ((e : Located) → Contains es e → AreSound 255 e.placed.tree.children)
    → IsBody (markup_along bases [] es)
body-is bases es h = record {
  nodes = meant_along bases es;
  sound = along-sound bases es h;
  is = ap (λ m. written m []) (sym (along-body bases [] es));
}
