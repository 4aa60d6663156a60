-- What the machine builds, the constructs spell.
use Rattle.std.proofs.Common.{◌≡◌, ◌≢◌, ℕ, suc, ◌-◌, ◌<◌, inl, inr, Bool, true, false, ◌&&◌, not, List, [], ◌∷◌, ◌++◌, length, Option, Some, None, option_and_then, refl, sym, ap, ◌∙◌, arith, append_assoc, append-nil, subst}
use Rattle.std.specs.List.{list_all}
use Rattle.ix_base.specs.NcName.{is_white}
use Rattle.ix_base.specs.Sound.{IsApart}
use Rattle.ix_base.specs.Scope.{outermost}
use Rattle.ix_base.specs.Trees.{Head, Bound, Nodes, none, chars, elem, Tree}
use Rattle.ix_base.specs.declared.rule.Rule.{Rule}
use Rattle.page_constructs.specs.Tokens.{Tag, Token, start, empty, close, words, refer, section, declaration, doctype, silent}
use Rattle.page_tree.specs.Tags.{opened, head_of}
use Rattle.page_tree.specs.Page.{is_within, AreRuns, AreBefore, AreBehind, Joins, IsElement, Spells, SpellsPage}
use Rattle.page_tree.specs.Break.{broken_or, broken_by, broken_by_tag, matches}
use Rattle.page_tree.specs.Machine.{Frame, State, begin, outline_of, is_rooted, append, flush, flushed, scope_in, closed, moved, unless_broken, step, steps, whole, built}
use Rattle.page_tree.proofs.TagLaws.{tag_kept, or_none, fair-opened, one_name}
use Rattle.page_constructs.proofs.BoolLaws.{not_false}
use Rattle.page_tree.proofs.Spelled.{st, scope-outlined, length-outlined, length-flushed, scope-flushed, MayBegin}

runs-join : (ts us : List Token) (s t : List ℕ) → AreRuns s ts → AreRuns t us → AreRuns (s ++ t) (ts ++ us)
runs-join [] us s t e q = rw e q
runs-join (words cs ∷ ts) us s t r q = (r.0 ++ t, ap (λ x. x ++ t) r.1 ∙ append_assoc cs r.0 t, runs-join ts us r.0 t r.2 q)
runs-join (refer None ∷ ts) us s t r q = absurd r
runs-join (refer (Some cs) ∷ ts) us s t r q = (r.0 ++ t, ap (λ x. x ++ t) r.1 ∙ append_assoc cs r.0 t, runs-join ts us r.0 t r.2 q)
runs-join (section cs ∷ ts) us s t r q = (r.0 ++ t, ap (λ x. x ++ t) r.1 ∙ append_assoc cs r.0 t, runs-join ts us r.0 t r.2 q)
runs-join (declaration v e ∷ ts) us s t r q = (r.0, runs-join ts us s t r.1 q)
runs-join (silent ∷ ts) us s t r q = runs-join ts us s t r q
runs-join (doctype b ∷ ts) us s t r q = absurd r
runs-join (start g ∷ ts) us s t r q = absurd r
runs-join (empty g ∷ ts) us s t r q = absurd r
runs-join (close m ∷ ts) us s t r q = absurd r

behind-join : (ts us : List Token) → AreBehind ts → AreBehind us → AreBehind (ts ++ us)
behind-join [] us r q = q
behind-join (words cs ∷ ts) us r q = (r.0, behind-join ts us r.1 q)
behind-join (silent ∷ ts) us r q = behind-join ts us r q
behind-join (declaration v e ∷ ts) us r q = (r.0, behind-join ts us r.1 q)
behind-join (refer c ∷ ts) us r q = absurd r
behind-join (section cs ∷ ts) us r q = absurd r
behind-join (doctype b ∷ ts) us r q = absurd r
behind-join (start g ∷ ts) us r q = absurd r
behind-join (empty g ∷ ts) us r q = absurd r
behind-join (close m ∷ ts) us r q = absurd r

-- the nodes don't end in a text; where there is none, P holds
abbrev EndsIn : Type 0 → Nodes → Type 0
EndsIn P none = P
EndsIn P (chars s rest) = EndsIn ⊥ rest
EndsIn P (elem h k rest) = EndsIn (Unit {0}) rest

ends-elem : (P : Type 0) (d : Nodes) (h : Head) (k : Nodes) → EndsIn P (append d (elem h k none))
ends-elem P none h k = tt
ends-elem P (chars s rest) h k = ends-elem ⊥ rest h k
ends-elem P (elem g j rest) h k = ends-elem (Unit {0}) rest h k

apart-text : (rest more : Nodes) → IsApart rest → EndsIn ⊥ rest → IsApart (append rest more)
apart-text none more a e = absurd e
apart-text (chars s rest) more a e = absurd a
apart-text (elem h k rest) more a e = tt

apart-elem : (rest : Nodes) (h : Head) (k : Nodes) → IsApart rest → IsApart (append rest (elem h k none))
apart-elem none h k a = tt
apart-elem (chars s rest) h k a = absurd a
apart-elem (elem g j rest) h k a = tt

-- more behind the second part
longer : {F R S : List Token → Type 0} (ts us : List Token) (j : Joins F R ts) → S (j.rest ++ us) → Joins F S (ts ++ us)
longer ts us j s = record { front = j.front; rest = j.rest ++ us; splits = ap (λ x. x ++ us) j.splits ∙ append_assoc j.front j.rest us; first = j.first; second = s }

silent-after : (d : Nodes) (n : ℕ) (sc : List Bound) (ts us : List Token) → Spells d n sc ts → AreRuns [] us → Spells d n sc (ts ++ us)
silent-after none n sc ts us s q = runs-join ts us [] [] s q
silent-after (chars x rest) n sc ts us s q = (s.0, s.1, longer ts us s.2 (silent-after rest n sc s.2.rest us s.2.second q))
silent-after (elem h k rest) n sc ts us s q =
    longer ts us s (longer s.rest us s.second (silent-after rest n sc s.second.rest us s.second.second q))

text-after : (P : Type 0) (d : Nodes) (n : ℕ) (sc : List Bound) (ts us : List Token) (t : List ℕ) → Spells d n sc ts → EndsIn P d → t ≢ [] → AreRuns t us
    → Spells (append d (chars t none)) n sc (ts ++ us)
text-after P none n sc ts us t s e h q = (h, tt, record { front = ts ++ us; rest = []; splits = sym (append-nil (ts ++ us)); first = runs-join ts us [] t s q; second = refl })
text-after P (chars x rest) n sc ts us t s e h q =
    (s.0, apart-text rest (chars t none) s.1 e, longer ts us s.2 (text-after ⊥ rest n sc s.2.rest us t s.2.second e h q))
text-after P (elem g k rest) n sc ts us t s e h q =
    longer ts us s (longer s.rest us s.second (text-after (Unit {0}) rest n sc s.second.rest us t s.second.second e h q))

element-after : (d : Nodes) (n : ℕ) (sc : List Bound) (ts own : List Token) (h : Head) (k : Nodes) → Spells d n sc ts
    → IsElement n sc h k (λ below. Spells k below h.scope) own → Spells (append d (elem h k none)) n sc (ts ++ own)
element-after none n sc ts own h k s e =
    record { front = ts; rest = own; splits = refl; first = s; second = record { front = own; rest = []; splits = sym (append-nil own); first = e; second = refl } }
element-after (chars x rest) n sc ts own h k s e = (s.0, apart-elem rest h k s.1, longer ts own s.2 (element-after rest n sc s.2.rest own h k s.2.second e))
element-after (elem g j rest) n sc ts own h k s e =
    longer ts own s (longer s.rest own s.second (element-after rest n sc s.second.rest own h k s.second.second e))

flush-after : (d : Nodes) (n : ℕ) (sc : List Bound) (ts us : List Token) (t : List ℕ) → Spells d n sc ts → EndsIn (Unit {0}) d → AreRuns t us
    → Spells (flush d t) n sc (ts ++ us)
flush-after d n sc ts us [] s e q = silent-after d n sc ts us s q
flush-after d n sc ts us (c ∷ cs) s e q = text-after (Unit {0}) d n sc ts us (c ∷ cs) s e (λ z. cc) q

pub and-then-some : {A B : Type 0} (o : Option A) (f : A → Option B) (y : B) → option_and_then f o ≡ Some y → (x : A) × (o ≡ Some x) × (f x ≡ Some y)
and-then-some None f y e = absurd (cc)
and-then-some (Some x) f y e = (x, refl, e)

pub unbroken : (o : Option Rule) (s next : State) → unless_broken o s ≡ Some next → (o ≡ None) × (s ≡ next)
unbroken None s next e = (refl, cc)
unbroken (Some r) s next e = absurd (cc)

-- what came before the innermost open element, its start tag, and what came since, which spells its children so far
record In (depth : ℕ) (outer : List Bound) (g : Frame) (Before : List Token → Type 0) (ts : List Token) : Type 0 where
  tag : Tag
  before : List Token
  inner : List Token
  splits : ts ≡ before ++ start tag ∷ inner
  name : tag.name ≡ g.written
  heads : opened outer tag ≡ Some g.head
  outside : Before before
  spelled : Spells g.done depth g.head.scope inner

-- the tokens may stand before the root, and what may follow may follow still
abbrev Opens : Bool → List Token → Type 0
Opens d ts = (us : List Token) → AreBefore d us → AreBefore false (ts ++ us)

module _ (n : ℕ) where
  -- the tokens so far, where these elements are open and no text is pending
  abbrev Around : List Frame → Bool → List Token → Type 0
  Around [] d ts = Opens d ts
  Around (g ∷ gs) d ts = (length gs < n) × In (n - length (g ∷ gs)) (scope_in gs) g (Around gs d) ts

  abbrev Reached : List Frame → List ℕ → Option Tree → Bool → List Token → Type 0
  Reached [] text None d ts = Opens d ts
  Reached [] text (Some t) d ts = SpellsPage t n ts
  Reached (g ∷ gs) text root d ts = (root ≡ None) × EndsIn (Unit {0}) g.done × Joins (Around (g ∷ gs) d) (AreRuns text) ts

  abbrev Then : State → List Token → Type 0
  Then s ts = Reached s.frames s.text s.root s.doctyped ts

  -- the pending text becomes a node
  around-flush : (g : Frame) (gs : List Frame) (d : Bool) (text : List ℕ) (ts us : List Token) → EndsIn (Unit {0}) g.done → Around (g ∷ gs) d ts → AreRuns text us
      → Around (record g { done = flush g.done text } ∷ gs) d (ts ++ us)
  around-flush g gs d text ts us e a q = (
    a.0,
    record {
      tag = a.1.tag;
      before = a.1.before;
      inner = a.1.inner ++ us;
      splits = ap (λ x. x ++ us) a.1.splits ∙ append_assoc a.1.before (start a.1.tag ∷ a.1.inner) us;
      name = a.1.name;
      heads = a.1.heads;
      outside = a.1.outside;
      spelled = flush-after g.done _ _ a.1.inner us text a.1.spelled e q;
    },
  )

  may : (fs : List Frame) (text : List ℕ) (root : Option Tree) (d : Bool) → (Rattle.page_tree.specs.Break.is_outside (outline_of (st fs text root d)) && is_rooted fs root) ≡ false → MayBegin fs root
  may [] text None d h = tt
  may [] text (Some t) d h = absurd (cc)
  may (f ∷ fs) text root d h = tt

  -- an element begins
  placed : (fs : List Frame) (text : List ℕ) (root : Option Tree) (d : Bool) (ts : List Token) → Reached fs text root d ts → MayBegin fs root → Around (flushed fs text) d ts × (root ≡ None)
  placed [] text None d ts r m = (r, refl)
  placed [] text (Some t) d ts r m = absurd m
  placed (g ∷ gs) text root d ts r m = (rw r.2.splits (around-flush g gs d text r.2.front r.2.rest r.1 r.2.first r.2.second), r.0)

  before-root : (d : Bool) (ts : List Token) → Opens d ts → AreBefore false ts
  before-root d ts o = subst (λ x. AreBefore false x) (append-nil ts) (o [] (nothing d)) where
    nothing : (d : Bool) → AreBefore d []
    nothing true = tt
    nothing false = tt

  -- a whole element goes to where it stands
  put : (ps : List Frame) (d : Bool) (h : Head) (k : Nodes) (ts own : List Token) → Around ps d ts → (length ps < n)
      → IsElement (n - length ps) (scope_in ps) h k (λ below. Spells k below h.scope) own
      → Then (closed ps h k None d) (ts ++ own)
  put [] d h k ts own a room e = record { front = ts; rest = own; splits = refl; first = before-root d ts a; second = record { front = own; rest = []; splits = sym (append-nil own); first = subst (λ m. IsElement m outermost h k (λ below. Spells k below h.scope) own) (omega arith) e; second = tt } }
  put (g ∷ gs) d h k ts own a room e = (
    refl,
    ends-elem (Unit {0}) g.done h k,
    record {
      front = ts ++ own;
      rest = [];
      splits = sym (append-nil (ts ++ own));
      first = (
        a.0,
        record {
          tag = a.1.tag;
          before = a.1.before;
          inner = a.1.inner ++ own;
          splits = ap (λ x. x ++ own) a.1.splits ∙ append_assoc a.1.before (start a.1.tag ∷ a.1.inner) own;
          name = a.1.name;
          heads = a.1.heads;
          outside = a.1.outside;
          spelled = element-after g.done _ _ a.1.inner own h k a.1.spelled e;
        },
      );
      second = refl;
    },
  )

  record Begins (fs : List Frame) (root : Option Tree) (t : Tag) : Type 0 where
    room : length fs < n
    heads : opened (scope_in fs) t ≡ Some (head_of (scope_in fs) t)
    first : MayBegin fs root

  begins : (fs : List Frame) (text : List ℕ) (root : Option Tree) (d : Bool) (t : Tag) → broken_by_tag n (outline_of (st fs text root d)) t ≡ None → Begins fs root t
  begins fs text root d t e =
      let k = tag_kept n (outline_of (st fs text root d)) t e in
      record {
        room = let r = k.room in rw (length-outlined fs) at r;
        heads = fair-opened (scope_in fs) t (let f = k.fair in rw (scope-outlined fs) at f);
        first = may fs text root d k.first;
      }

  opens-more : (d e : Bool) (ts : List Token) (t : Token) → Opens d ts → ((us : List Token) → AreBefore e us → AreBefore d (t ∷ us)) → Opens e (ts ++ t ∷ [])
  opens-more d e ts t o m us b = subst (λ x. AreBefore false x) (sym (append_assoc ts (t ∷ []) us)) (o (t ∷ us) (m us b))

  page-more : (x : Tree) (ts : List Token) (t : Token) → SpellsPage x n ts → AreBehind (t ∷ []) → SpellsPage x n (ts ++ t ∷ [])
  page-more x ts t p b = longer ts (t ∷ []) p (longer p.rest (t ∷ []) p.second (behind-join p.second.rest (t ∷ []) p.second.second b))

  text-more : (f : Frame) (fs : List Frame) (text cs : List ℕ) (root : Option Tree) (d : Bool) (ts : List Token) (t : Token) → Reached (f ∷ fs) text root d ts → AreRuns cs (t ∷ []) → Reached (f ∷ fs) (text ++ cs) root d (ts ++ t ∷ [])
  text-more f fs text cs root d ts t r a = (r.0, r.1, longer ts (t ∷ []) r.2 (runs-join r.2.rest (t ∷ []) text cs r.2.second a))

  one-run : (cs : List ℕ) → (cs ≡ cs ++ [])
  one-run cs = sym (append-nil cs)

  -- a text outside the root
  words-step : (fs : List Frame) (text : List ℕ) (root : Option Tree) (d : Bool) (ts : List Token) (cs : List ℕ) → Reached fs text root d ts
      → broken_by n (outline_of (st fs text root d)) (words cs) ≡ None → Then (moved (st fs text root d) (words cs)) (ts ++ words cs ∷ [])
  unfolding broken_by moved
  words-step [] text None d ts cs r e = opens-more d d ts (words cs) r (λ us b. before-white d us b) where
    white : list_all is_white cs ≡ true
    white = not_false (list_all is_white cs) (or_none (not (list_all is_white cs)) _ _ e).0

    before-white : (d : Bool) (us : List Token) → AreBefore d us → AreBefore d (words cs ∷ us)
    before-white true us b = (white, b)
    before-white false us b = (white, b)
  words-step [] text (Some t) d ts cs r e = page-more t ts (words cs) r (not_false (list_all is_white cs) (or_none (not (list_all is_white cs)) _ _ e).0, tt)
  words-step (f ∷ fs) text root d ts cs r e = text-more f fs text cs root d ts (words cs) r ([], one-run cs, refl)

  refer-step : (fs : List Frame) (text : List ℕ) (root : Option Tree) (d : Bool) (ts : List Token) (c : Option (List ℕ)) → Reached fs text root d ts
      → broken_by n (outline_of (st fs text root d)) (refer c) ≡ None → Then (moved (st fs text root d) (refer c)) (ts ++ refer c ∷ [])
  unfolding broken_by moved
  refer-step fs text root d ts None r e = absurd (cc)
  refer-step [] text root d ts (Some cs) r e = absurd (cc)
  refer-step (f ∷ fs) text root d ts (Some cs) r e = text-more f fs text cs root d ts (refer (Some cs)) r ([], one-run cs, refl)

  section-step : (fs : List Frame) (text : List ℕ) (root : Option Tree) (d : Bool) (ts : List Token) (cs : List ℕ) → Reached fs text root d ts
      → broken_by n (outline_of (st fs text root d)) (section cs) ≡ None → Then (moved (st fs text root d) (section cs)) (ts ++ section cs ∷ [])
  unfolding broken_by moved
  section-step [] text root d ts cs r e = absurd (cc)
  section-step (f ∷ fs) text root d ts cs r e = text-more f fs text cs root d ts (section cs) r ([], one-run cs, refl)

  silent-step : (fs : List Frame) (text : List ℕ) (root : Option Tree) (d : Bool) (ts : List Token) → Reached fs text root d ts → Reached fs text root d (ts ++ silent ∷ [])
  silent-step [] text None d ts r = opens-more d d ts silent r (λ us b. still d us b) where
    still : (d : Bool) (us : List Token) → AreBefore d us → AreBefore d (silent ∷ us)
    still true us b = b
    still false us b = b
  silent-step [] text (Some t) d ts r = page-more t ts silent r tt
  silent-step (f ∷ fs) text root d ts r = (r.0, r.1, longer ts (silent ∷ []) r.2 (subst (λ x. AreRuns x (r.2.rest ++ silent ∷ [])) (append-nil text) (runs-join r.2.rest (silent ∷ []) text [] r.2.second refl)))

  declaration-step : (fs : List Frame) (text : List ℕ) (root : Option Tree) (d : Bool) (ts : List Token) (v : List ℕ) (c : Option (List ℕ)) → Reached fs text root d ts
      → is_within v c ≡ true → Reached fs text root d (ts ++ declaration v c ∷ [])
  declaration-step [] text None d ts v c r w = opens-more d d ts (declaration v c) r (λ us b. still d us b) where
    still : (d : Bool) (us : List Token) → AreBefore d us → AreBefore d (declaration v c ∷ us)
    still true us b = (w, b)
    still false us b = (w, b)
  declaration-step [] text (Some t) d ts v c r w = page-more t ts (declaration v c) r (w, tt)
  declaration-step (f ∷ fs) text root d ts v c r w = (r.0, r.1, longer ts (declaration v c ∷ []) r.2 (subst (λ x. AreRuns x (r.2.rest ++ declaration v c ∷ [])) (append-nil text) (runs-join r.2.rest (declaration v c ∷ []) text [] r.2.second (w, refl))))

  doctype-step : (fs : List Frame) (text : List ℕ) (root : Option Tree) (d s : Bool) (ts : List Token) → Reached fs text root d ts
      → broken_by n (outline_of (st fs text root d)) (doctype s) ≡ None → Then (moved (st fs text root d) (doctype s)) (ts ++ doctype s ∷ [])
  unfolding broken_by moved
  doctype-step fs text root d true ts r e = absurd (cc)
  doctype-step [] text None true false ts r e = absurd (cc)
  doctype-step [] text None false false ts r e = opens-more false true ts (doctype false) r (λ us b. b)
  doctype-step [] text (Some t) true false ts r e = absurd (cc)
  doctype-step [] text (Some t) false false ts r e = absurd (cc)
  doctype-step (f ∷ fs) text root true false ts r e = absurd (cc)
  doctype-step (f ∷ fs) text root false false ts r e = absurd (cc)

  close-step : (fs : List Frame) (text : List ℕ) (root : Option Tree) (d : Bool) (ts : List Token) (m : List ℕ) → Reached fs text root d ts
      → broken_by n (outline_of (st fs text root d)) (close m) ≡ None → Then (moved (st fs text root d) (close m)) (ts ++ close m ∷ [])
  unfolding broken_by moved
  close-step [] text root d ts m r e = absurd (cc)
  close-step (f ∷ fs) text root d ts m r e =
      let same : f.written ≡ m = one_name f.written m (not_false _ (or_none (not (Rattle.std.specs.Prelude.bytes_eq f.written m)) _ _ e).0) in
      let a = around-flush f fs d text r.2.front r.2.rest r.1 r.2.first r.2.second in
      let g = a.1 in
      let at = put fs d f.head (flush f.done text) g.before (start g.tag ∷ (g.inner ++ close m ∷ [])) g.outside a.0
      (record {
        tag = g.tag;
        below = n - length (f ∷ fs);
        deep = omega (arith, a.0);
        heads = g.heads;
        tags = inr (g.inner, ap (λ x. start g.tag ∷ (g.inner ++ close x ∷ [])) (sym same ∙ sym g.name), g.spelled);
      }) in
      let tokens : ts ++ close m ∷ [] ≡ g.before ++ start g.tag ∷ (g.inner ++ close m ∷ []) =
      ap (λ x. x ++ close m ∷ []) (r.2.splits ∙ g.splits) ∙ append_assoc g.before (start g.tag ∷ g.inner) (close m ∷ []) in
      subst (λ o. Then (closed fs f.head (flush f.done text) o d) (ts ++ close m ∷ [])) (sym r.0)
      (subst (λ x. Then (closed fs f.head (flush f.done text) None d) x) (sym tokens) at)

  start-step : (fs : List Frame) (text : List ℕ) (root : Option Tree) (d : Bool) (ts : List Token) (t : Tag) → Reached fs text root d ts
      → broken_by n (outline_of (st fs text root d)) (start t) ≡ None → Then (moved (st fs text root d) (start t)) (ts ++ start t ∷ [])
  unfolding broken_by moved
  start-step fs text root d ts t r e =
      let b = begins fs text root d t e in
      let p = placed fs text root d ts r b.first in (
        p.1,
        tt,
        record {
          front = ts ++ start t ∷ [];
          rest = [];
          splits = sym (append-nil (ts ++ start t ∷ []));
          first = (rw (length-flushed fs text) b.room, record { tag = t; before = ts; inner = []; splits = refl; name = refl; heads = rw (scope-flushed fs text) b.heads; outside = p.0; spelled = refl });
          second = refl;
        },
      )

  empty-step : (fs : List Frame) (text : List ℕ) (root : Option Tree) (d : Bool) (ts : List Token) (t : Tag) → Reached fs text root d ts
      → broken_by n (outline_of (st fs text root d)) (empty t) ≡ None → Then (moved (st fs text root d) (empty t)) (ts ++ empty t ∷ [])
  unfolding broken_by moved
  empty-step fs text root d ts t r e =
      let b = begins fs text root d t e in
      let p = placed fs text root d ts r b.first in
      let room : length (flushed fs text) < n = rw (length-flushed fs text) b.room in
      let at = put (flushed fs text) d (head_of (scope_in fs) t) none ts (empty t ∷ []) p.0 room
      (record { tag = t; below = n - suc (length (flushed fs text)); deep = omega arith; heads = rw (scope-flushed fs text) b.heads; tags = inl (refl, refl) }) in
      subst (λ o. Then (closed (flushed fs text) (head_of (scope_in fs) t) none o d) (ts ++ empty t ∷ [])) (sym p.1) at

  within : (fs : List Frame) (text : List ℕ) (root : Option Tree) (d : Bool) (v : List ℕ) (c : Option (List ℕ)) → broken_by n (outline_of (st fs text root d)) (declaration v c) ≡ None → is_within v c ≡ true
  unfolding broken_by
  within fs text root d v c q = not_false (is_within v c) (or_none (not (is_within v c)) _ _ q).0

  one-step : (fs : List Frame) (text : List ℕ) (root : Option Tree) (d : Bool) (ts : List Token) (t : Token) → Reached fs text root d ts
      → broken_by n (outline_of (st fs text root d)) t ≡ None → Then (moved (st fs text root d) t) (ts ++ t ∷ [])
  unfolding moved
  one-step fs text root d ts (start t) r e = start-step fs text root d ts t r e
  one-step fs text root d ts (empty t) r e = empty-step fs text root d ts t r e
  one-step fs text root d ts (close m) r e = close-step fs text root d ts m r e
  one-step fs text root d ts (words cs) r e = words-step fs text root d ts cs r e
  one-step fs text root d ts (refer c) r e = refer-step fs text root d ts c r e
  one-step fs text root d ts (section cs) r e = section-step fs text root d ts cs r e
  one-step fs text root d ts (declaration v c) r e = declaration-step fs text root d ts v c r (within fs text root d v c e)
  one-step fs text root d ts (doctype s) r e = doctype-step fs text root d s ts r e
  one-step fs text root d ts silent r e = silent-step fs text root d ts r

  all-steps : (us : List Token) (fs : List Frame) (text : List ℕ) (root : Option Tree) (d : Bool) (ts : List Token) (next : State) → Reached fs text root d ts
      → steps n (st fs text root d) us ≡ Some next → Then next (ts ++ us)
  all-steps [] fs text root d ts next r e = let q : st fs text root d ≡ next = cc in
      subst (λ m. Then m (ts ++ [])) q (rw append-nil r)
  all-steps (t ∷ us) fs text root d ts next r e =
      let m = and-then-some (step n (st fs text root d) t) _ next e in
      let s = m.0 in
      let u = unbroken (broken_by n (outline_of (st fs text root d)) t) (moved (st fs text root d) t) s m.1 in
      let one : Then s (ts ++ t ∷ []) = subst (λ x. Then x (ts ++ t ∷ [])) u.1 (one-step fs text root d ts t r u.0) in
      subst (λ x. Then next x) (append_assoc ts (t ∷ []) us) (all-steps us s.frames s.text s.root s.doctyped (ts ++ t ∷ []) next one m.2)

  pub page_of_built : (ts : List Token) (t : Tree) → built n ts ≡ Some t → SpellsPage t n ts
  page_of_built ts t e =
      let m = and-then-some (steps n begin ts) _ t e in
      ended m.0.frames m.0.text m.0.root m.0.doctyped (all-steps ts [] [] None false [] m.0 (λ us b. b) m.1) m.2
    where
      ended : (fs : List Frame) (text : List ℕ) (root : Option Tree) (d : Bool) → Reached fs text root d ts → whole fs root ≡ Some t → SpellsPage t n ts
      ended [] text None d r q = absurd (cc)
      ended [] text (Some u) d r q = let same : u ≡ t = cc in subst (λ x. SpellsPage x n ts) same r
      ended (f ∷ fs) text root d r q = absurd (cc)
