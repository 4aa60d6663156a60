-- The constructs of each element of a page stand among those of the page, from its offset on.
use Rattle.std.proofs.Common.{◌≡◌, ◌≢◌, ◌∙◌, ℕ, suc, ◌≤◌, Bool, true, List, [], ◌∷◌, ◌++◌, length, map, All, inl, inr, is_none, refl, sym, ap, subst, append_assoc, append-nil, arith}
use Rattle.std.specs.List.{flat_map}
use Rattle.ix_base.specs.Elements.{Placed, below, elements_of}
use Rattle.ix_base.specs.Markup.{plain}
use Rattle.ix_base.specs.Scope.{outermost}
use Rattle.ix_base.specs.Sound.{offsets_of}
use Rattle.ix_base.specs.Trees.{Bound, Head, Nodes, none, chars, elem, Tree}
use Rattle.page_text.specs.Characters.{stop}
use Rattle.page_constructs.specs.Constructs.{Construct, cut, text_of}
use Rattle.page_constructs.specs.Forms.{HasForm}
use Rattle.page_tree.specs.Page.{HasTags, Spells, SpellsPage, page}
use Rattle.page_constructs.specs.Tokens.{Tag, Token, start, empty, close}
use Rattle.page_constructs.specs.declared.kind.Kind.{Kind}
use Rattle.page_constructs.specs.declared.kind.Kind.TheVariants.{StartTag}
use Rattle.page_tree.proofs.PageMarks.{page-climbs}
use Rattle.page_tree.proofs.RisingOffsets.{Climb, starts_of, cut-climbs, tokens-climb, page-offsets}
use Rattle.page_constructs.proofs.SizeLaws.{other-number, same-number}
use Rattle.page_tree.proofs.TagLaws.{opened-fair}
use Rattle.page_tree.specs.Reaches.{Reach, reaches_to, reaches}
use Rattle.fact_trace.specs.Spans.{move_by, move, heard, held_by, heard_at, left_out, is_among, element_spans, says}
use Rattle.fact_trace.specs.declared.moves.Move.TheVariants.{Closes}
use Rattle.fact_trace.proofs.AgreeLaws.{Each, each-both, each-mapped, each-joined, each-all, left-agrees, HasClimb, all-climb, climb-parts}
use Rattle.fact_trace.proofs.HeardLaws.{saying, AreMeant, meant-from, meant-of, parted, one-of, tagged, step, Agrees, nodes-heard}

starts-at : (kind : Kind) (at : ℕ) (text : List ℕ) (t : Tag) → HasForm kind at text (start t) → t.offset ≡ at
starts-at StartTag at text t h = h.3
starts-at kind at text t h = absurd h

stands-at : (kind : Kind) (at : ℕ) (text : List ℕ) (t : Tag) → HasForm kind at text (empty t) → t.offset ≡ at
stands-at StartTag at text t h = h.3
stands-at kind at text t h = absurd h

-- the tag of an element among some constructs, from which on its plain text is heard, whatever comes behind them
pub record IsFound (rs : List Reach) (p : Placed) : Type 0 where
  pub front : List Reach
  pub tag : Reach
  pub rest : List Reach
  pub splits : rs ≡ front ++ tag ∷ rest
  pub at : tag.what.start ≡ p.tree.head.offset
  pub says_is : (out : ℕ → Bool) → Agrees out p.tree.children → (more : List Reach) → saying (held_by (move tag) (heard out 0 0 (rest ++ more))) ≡ plain p.tree.children

embed : (a b rs : List Reach) (p : Placed) → IsFound rs p → IsFound (a ++ (rs ++ b)) p
embed a b rs p f = record {
  front = a ++ f.front;
  tag = f.tag;
  rest = f.rest ++ b;
  splits = ap (λ l. a ++ (l ++ b)) f.splits ∙ ap (λ l. a ++ l) (append_assoc f.front (f.tag ∷ f.rest) b) ∙ sym (append_assoc a f.front (f.tag ∷ (f.rest ++ b)));
  at = f.at;
  says_is = λ out g more. ap (λ l. saying (held_by (move f.tag) (heard out 0 0 l))) (append_assoc f.rest b more) ∙ f.says_is out g (b ++ more);
}

-- an element itself, and those that it holds
own-found : (tag : Tag) (head : Head) (children : Nodes) (above : List Tree) (Inner : List Token → Type 0) (ts : List Token) (rs : List Reach) → HasTags tag children Inner ts → AreMeant rs ts
    → tag.offset ≡ head.offset
    → ((inner : List Token) (within : List Reach) → Inner inner → AreMeant within inner → (out : ℕ → Bool) → Agrees out children → (more : List Reach)
    → saying (heard out 0 0 (within ++ more)) ≡ plain children ++ saying (heard out 0 0 more))
    → ((inner : List Token) (within : List Reach) → Inner inner → AreMeant within inner → Each (IsFound within) (below (record { head = head; children = children } ∷ above) children))
    → IsFound rs (record { tree = record { head = head; children = children }; above = above }) × Each (IsFound rs) (below (record { head = head; children = children } ∷ above) children)
own-found tag head children above Inner ts rs (inl h) m e f g =
    let o = one-of rs (empty tag) (subst (AreMeant rs) h.0 m) in (
      record {
        front = [];
        tag = o.one;
        rest = [];
        splits = o.is;
        at = sym (stands-at o.one.what.kind o.one.what.start o.one.what.text tag o.means) ∙ e;
        says_is = λ out a more.
            ap (λ x. saying (held_by x (heard out 0 0 more))) (ap move_by (meant-of o.one (empty tag) o.means)) ∙ sym (ap plain h.1);
      },
      subst (λ c. Each (IsFound rs) (below (record { head = head; children = children } ∷ above) c)) (sym h.1) tt,
    )
own-found tag head children above Inner ts rs (inr h) m e f g =
    let k = tagged rs tag h.0 (subst (AreMeant rs) h.1 m) in (
      record {
        front = [];
        tag = k.open_tag;
        rest = k.within ++ k.close_tag ∷ [];
        splits = k.is;
        at = sym (starts-at k.open_tag.what.kind k.open_tag.what.start k.open_tag.what.text tag k.opens) ∙ e;
        says_is = λ out a more.
            ap (λ x. saying (held_by x (heard out 0 0 ((k.within ++ k.close_tag ∷ []) ++ more)))) (ap move_by (meant-of k.open_tag (start tag) k.opens))
            ∙ ap (λ l. saying (heard out 0 0 l)) (append_assoc k.within (k.close_tag ∷ []) more)
            ∙ f h.0 k.within h.2 k.spelled out a (k.close_tag ∷ more)
            ∙ ap (λ l. plain children ++ l) (ap saying (step Closes out 0 0 k.close_tag more (ap move_by (meant-of k.close_tag (close tag.name) k.closes))))
            ∙ append-nil (plain children);
      },
      each-mapped (IsFound k.within) (IsFound rs)
          (λ p x. subst (λ l. IsFound l p) (sym k.is) (embed (k.open_tag ∷ []) (k.close_tag ∷ []) k.within p x))
          (below (record { head = head; children = children } ∷ above) children) (g h.0 k.within h.2 k.spelled),
    )

pub all-found : (ns : Nodes) (depth : ℕ) (scope : List Bound) (ts : List Token) (rs : List Reach) (above : List Tree) → Spells ns depth scope ts → AreMeant rs ts → Each (IsFound rs) (below above ns)
all-found none depth scope ts rs above s m = tt
all-found (chars text rest) depth scope ts rs above s m =
    let j = s.2 in
    let p = parted j.front j.rest rs (subst (AreMeant rs) j.splits m) in
    each-mapped (IsFound p.rest) (IsFound rs) (λ x f. subst (λ l. IsFound l x) (ap (λ l. p.front ++ l) (append-nil p.rest) ∙ sym p.splits) (embed p.front [] p.rest x f))
    (below above rest) (all-found rest depth scope j.rest p.rest above j.second p.second)
all-found (elem head children rest) depth scope ts rs above j m =
    let p = parted j.front j.rest rs (subst (AreMeant rs) j.splits m) in
    let i = j.second in
    let q = parted i.front i.rest p.rest (subst (AreMeant p.rest) i.splits p.second) in
    let e = i.first in
    let t : Tree = record { head = head; children = children } in
    let at : e.tag.offset ≡ head.offset = ap (λ x. x.offset) (opened-fair scope e.tag head e.heads).1 in
    let own = own-found e.tag head children above (Spells children e.below head.scope) i.front q.front e.tags q.first at
    (λ inner within s w out a more. nodes-heard children e.below head.scope inner within out s w a 0 more)
    (λ inner within s w. all-found children e.below head.scope inner within (t ∷ above) s w) in
    let whole : p.front ++ (q.front ++ q.rest) ≡ rs = ap (λ l. p.front ++ l) (sym q.splits) ∙ sym p.splits in
    let first = (λ (x : Placed) (f : IsFound q.front x). subst (λ l. IsFound l x) whole (embed p.front q.rest q.front x f)) in
    let later = (λ (x : Placed) (f : IsFound q.rest x). subst (λ l. IsFound l x) (append_assoc p.front q.front (q.rest ++ []) ∙ ap (λ l. p.front ++ (q.front ++ l)) (append-nil q.rest) ∙ whole)
    (embed (p.front ++ q.front) [] q.rest x f)) in (
      first (record { tree = t; above = above }) own.0,
      each-both (IsFound rs) (below (t ∷ above) children) (below above rest)
          (each-mapped (IsFound q.front) (IsFound rs) first (below (t ∷ above) children) own.1)
          (each-mapped (IsFound q.rest) (IsFound rs) later (below above rest) (all-found rest depth scope i.rest q.rest above i.second q.second)),
    )

pub page-found : (t : Tree) (depth : ℕ) (ts : List Token) (rs : List Reach) → SpellsPage t depth ts → AreMeant rs ts → Each (IsFound rs) (elements_of t)
page-found t depth ts rs j m =
    let p = parted j.front j.rest rs (subst (AreMeant rs) j.splits m) in
    let i = j.second in
    let q = parted i.front i.rest p.rest (subst (AreMeant p.rest) i.splits p.second) in
    let e = i.first in
    let at : e.tag.offset ≡ t.head.offset = ap (λ x. x.offset) (opened-fair outermost e.tag t.head e.heads).1 in
    let own = own-found e.tag t.head t.children [] (Spells t.children e.below t.head.scope) i.front q.front e.tags q.first at
    (λ inner within s w out a more. nodes-heard t.children e.below t.head.scope inner within out s w a 0 more)
    (λ inner within s w. all-found t.children e.below t.head.scope inner within (t ∷ []) s w) in
    let whole : p.front ++ (q.front ++ q.rest) ≡ rs = ap (λ l. p.front ++ l) (sym q.splits) ∙ sym p.splits in
    let first = (λ (x : Placed) (f : IsFound q.front x). subst (λ l. IsFound l x) whole (embed p.front q.rest q.front x f)) in (
      first (record { tree = t; above = [] }) own.0,
      each-mapped (IsFound q.front) (IsFound rs) first (below (t ∷ []) t.children) own.1,
    )

-- a tag is found by its start
abbrev pub starts : List Reach → List ℕ
starts rs = map (λ r. r.what.start) rs

pub same-starts : (end : ℕ) (cs : List Construct) → starts (reaches_to end cs) ≡ starts_of cs
same-starts end [] = refl
same-starts end (c ∷ []) = refl
same-starts end (c ∷ d ∷ cs) = ap (λ l. c.start ∷ l) (same-starts end (d ∷ cs))

climb-above : (low : ℕ) (front : List Reach) (x : Reach) (rest : List Reach) → Climb low (starts (front ++ x ∷ rest)) → low ≤ x.what.start
climb-above low [] x rest c = c.0
climb-above low (r ∷ front) x rest c = let h = climb-above (suc r.what.start) front x rest c.1 in let k = c.0 in omega arith

found-at : (out : ℕ → Bool) (low : ℕ) (front : List Reach) (x : Reach) (rest : List Reach) → Climb low (starts (front ++ x ∷ rest))
    → heard_at out x.what.start (front ++ x ∷ rest) ≡ held_by (move x) (heard out 0 0 rest)
found-at out low [] x rest c = rw (same-number x.what.start x.what.start refl) refl
found-at out low (r ∷ front) x rest c =
    let h = climb-above (suc r.what.start) front x rest c.1 in
    let d : r.what.start ≢ x.what.start = (λ e. (omega arith)) in
    rw (other-number r.what.start x.what.start d) (found-at out (suc r.what.start) front x rest c.1)

-- the law
pub spans-say : (b : List ℕ) (n : ℕ) (t : Tree) → page b n t → All (λ e. flat_map says (element_spans b e.tree) ≡ plain e.tree.children) (elements_of t)
spans-say b n t p =
    let cs = (cut b).constructs in
    let rs = reaches b in
    let climbs : Climb 0 (starts_of cs) = cut-climbs (length (text_of b)) 0 (is_none (stop b)) true (text_of b) (page-climbs b) in
    let spelled : Climb 0 (offsets_of (elem t.head t.children none)) = subst (Climb 0) (sym (page-offsets t n p.tokens p.spell)) (tokens-climb 0 cs p.tokens p.mean climbs) in
    let own = climb-parts (suc t.head.offset) (offsets_of t.children) [] spelled.1 in
    let kids : Each HasClimb (elements_of t) = (record { low = suc t.head.offset; climbs = own.0 }, all-climb t.children (suc t.head.offset) (t ∷ []) own.0) in
    let all = page-found t n p.tokens rs p.spell (meant-from (length b) cs p.tokens p.mean) in
    each-all (λ e. flat_map says (element_spans b e.tree) ≡ plain e.tree.children) (elements_of t)
    (each-joined (IsFound rs) HasClimb (λ e. flat_map says (element_spans b e.tree) ≡ plain e.tree.children)
    (λ e f c.
    (let out = is_among (left_out e.tree.children) in
    let up : Climb 0 (starts (f.front ++ f.tag ∷ f.rest)) = subst (λ l. Climb 0 (starts l)) f.splits (subst (Climb 0) (sym (same-starts (length b) cs)) climbs) in
    ap (λ at. saying (heard_at out at rs)) (sym f.at)
    ∙ ap (λ l. saying (heard_at out f.tag.what.start l)) f.splits
    ∙ ap saying (found-at out 0 f.front f.tag f.rest up)
    ∙ ap (λ l. saying (held_by (move f.tag) (heard out 0 0 l))) (sym (append-nil f.rest))
    ∙ f.says_is out (left-agrees e.tree.children c.low c.climbs) []))
    (elements_of t) all kids)
