-- An element of a page: where its tag stands, and what is left out of it.
use Rattle.ix_base.specs.declared.limits.TheConstants.{DEEPEST_ELEMENT}
use Rattle.std.proofs.Common.{◌≡◌, ◌∙◌, ℕ, suc, ◌<◌, ◌≤◌, ◌⊎◌, inl, inr, ◌==◌, Bool, true, false, List, [], ◌∷◌, ◌++◌, length, map, Contains, is_none, refl, sym, ap, subst, ⊎_elim, arith, if◌then◌else◌}
use Rattle.ix_base.specs.Elements.{elements_of, placed_at}
use Rattle.ix_base.specs.Sound.{Rise, offsets_of}
use Rattle.ix_base.specs.Trees.{Nodes, none, chars, elem, Tree, tree_of}
use Rattle.ix_base.specs.declared.tree.Element.{Element}
use Rattle.ix_base.specs.declared.tree.Node.TheFolds.{fold_out-Element}
use Rattle.ix_base.proofs.OnceLemmas.{Contains-cases, Contains-later, Contains-nil, Contains-same}
use Rattle.page_text.specs.Characters.{stop}
use Rattle.page_constructs.specs.Constructs.{cut, text_of}
use Rattle.page_tree.specs.Page.{page}
use Rattle.page_tree.specs.Reaches.{Reach, StandsAt, reaches}
use Rattle.page_tree.proofs.PageMarks.{page-climbs}
use Rattle.page_tree.proofs.RisingOffsets.{Climb, climb-rise, cut-climbs, page-offsets, starts_of, tokens-climb}
use Rattle.fact_trace.specs.Spans.{element_spans, heard, heard_at, held_by, is_among, is_left_out, left_out, move, span_of}
use Rattle.fact_trace.specs.Walks.{IsOfPage, IsWhole, from_on}
use Rattle.fact_trace.specs.declared.moves.Move.{Move}
use Rattle.fact_trace.specs.declared.moves.Move.TheVariants.{Opens, Closes, Says, Passes}
use Rattle.fact_trace.specs.declared.moves.Step.{Step}
use Rattle.fact_trace.specs.declared.span.Span.{Span}
use Rattle.fact_trace.proofs.AgreeLaws.{Each, HasClimb, after, after-low, all-climb, climb-highs, climb-parts, left-in}
use Rattle.fact_trace.proofs.FoundLaws.{IsFound, page-found, same-starts, starts}
use Rattle.fact_trace.proofs.HeardLaws.{meant-from}
use Rattle.fact_trace.proofs.WayLaws.{IsOn, ahead}

pub each-there : {X : Type 0} (P : X → Type 0) (xs : List X) (x : X) → Each P xs → Contains xs x → P x
each-there P [] x h k = absurd (Contains-nil x k)
each-there P (y ∷ xs) x (h, hs) k = ⊎_elim (λ e. subst P e h) (λ m. each-there P xs x hs m) (Contains-cases y xs x k)

-- numbers that climb
climb-lower : (low more : ℕ) (ns : List ℕ) → low ≤ more → Climb more ns → Climb low ns
climb-lower low more [] l c = tt
climb-lower low more (n ∷ ns) l c = (let k = c.0 in (omega arith), c.1)

climb-join : (low mid : ℕ) (a b : List ℕ) → Climb low a → Each (λ o. o < mid) a → low ≤ mid → Climb mid b → Climb low (a ++ b)
climb-join low mid [] b c h l d = climb-lower low mid b l d
climb-join low mid (n ∷ a) b c (h, hs) l d = (c.0, climb-join (suc n) mid a b c.1 hs (omega arith) d)

left-climbs : (ns : Nodes) (low : ℕ) → Climb low (offsets_of ns) → Climb low (left_out ns)
left-climbs none low c = tt
left-climbs (chars text rest) low c = left-climbs rest low c
left-climbs (elem head children rest) low c =
    let at = head.offset in
    let ok = offsets_of children in
    let z = climb-parts (suc at) ok (offsets_of rest) c.1 in
    let mid = after (suc at) ok in
    let up : suc at ≤ mid = after-low (suc at) ok z.0 in
    let both : Climb (suc at) (left_out children ++ left_out rest) =
    climb-join (suc at) mid (left_out children) (left_out rest) (left-climbs children (suc at) z.0) (left-in (λ o. o < mid) children (climb-highs (suc at) ok z.0)) up (left-climbs rest mid z.1) in
    own (is_left_out head.name) c.0 both where
      own : (b : Bool) → low ≤ head.offset → Climb (suc head.offset) (left_out children ++ left_out rest)
          → Climb low ((if b then head.offset ∷ [] else []) ++ (left_out children ++ left_out rest))
      own true l d = (l, d)
      own false l d = climb-lower low (suc head.offset) (left_out children ++ left_out rest) (omega arith) d

-- each element of a page rises
pub all-rise : (b : List ℕ) (t : Tree) → page b DEEPEST_ELEMENT t → Each HasClimb (elements_of t)
all-rise b t p =
    let cs = (cut b).constructs in
    let climbs : Climb 0 (starts_of cs) = cut-climbs (length (text_of b)) 0 (is_none (stop b)) true (text_of b) (page-climbs b) in
    let spelled : Climb 0 (offsets_of (elem t.head t.children none)) = subst (Climb 0) (sym (page-offsets t DEEPEST_ELEMENT p.tokens p.spell)) (tokens-climb 0 cs p.tokens p.mean climbs) in
    let own = climb-parts (suc t.head.offset) (offsets_of t.children) [] spelled.1 in
    (record { low = suc t.head.offset; climbs = own.0 }, all-climb t.children (suc t.head.offset) (t ∷ []) own.0)

-- where an element of a page stands
pub record IsStanding (b : List ℕ) (t : Tree) : Type 0 where
  pub whole : IsWhole b
  pub stands : StandsAt b t.head.offset
  pub rises : Rise (left_out t.children)

start-there : (front : List Reach) (tag : Reach) (rest : List Reach) → Contains (starts (front ++ tag ∷ rest)) tag.what.start
start-there [] tag rest = Contains-same tag.what.start (starts rest) tag.what.start refl
start-there (r ∷ front) tag rest = Contains-later r.what.start (starts (front ++ tag ∷ rest)) tag.what.start (start-there front tag rest)

pub is-standing : (b : List ℕ) (t : Tree) → IsOfPage b t → IsStanding b t
is-standing b t h =
    let cs = (cut b).constructs in
    let p = h.is in
    let e = placed_at t h.above in
    let f = each-there (IsFound (reaches b)) (elements_of h.root) e (page-found h.root DEEPEST_ELEMENT p.tokens (reaches b) p.spell (meant-from (length b) cs p.tokens p.mean)) h.there in
    let r = each-there HasClimb (elements_of h.root) e (all-rise b h.root p) h.there in
    record {
      whole = record { root = h.root; is = p };
      stands = inl (subst (Contains (starts_of cs)) f.at (subst (λ l. Contains l f.tag.what.start) (ap starts (sym f.splits) ∙ same-starts (length b) cs) (start-there f.front f.tag f.rest)));
      rises = climb-rise r.low (left_out t.children) (left-climbs t.children r.low r.climbs);
    }

-- What is heard of an element, by its tag.

abbrev on_tag : (ℕ → Bool) → List Reach → List Reach
on_tag out [] = []
on_tag out (r ∷ rs) = held_by (move r) (heard out 0 0 rs)

heard-on : (out : ℕ → Bool) (at : ℕ) (rs : List Reach) → heard_at out at rs ≡ on_tag out (from_on rs at)
heard-on out at [] = refl
heard-on out at (r ∷ rs) = by (r.what.start == at) (heard-on out at rs) where
  by : (b : Bool) → heard_at out at rs ≡ on_tag out (from_on rs at)
      → (if b then held_by (move r) (heard out 0 0 rs) else heard_at out at rs) ≡ on_tag out (if b then r ∷ rs else from_on rs at)
  by true h = refl
  by false h = h

module _ (name b : List ℕ) (t : Tree) where
  abbrev due : List Span
  due = map (span_of name) (element_spans b t)

  pub none-due : from_on (reaches b) t.head.offset ≡ [] → [] ≡ map (span_of name) (element_spans b t)
  none-due e = sym (ap (map (span_of name)) (heard-on (is_among (left_out t.children)) t.head.offset (reaches b) ∙ ap (on_tag (is_among (left_out t.children))) e))

  module _ (s : Step) (o : IsOn b t.head.offset s) where
    tagged : (m : Move) → s.does ≡ m → map (span_of name) (element_spans b t)
        ≡ map (span_of name) (held_by m (heard (is_among (left_out t.children)) 0 0 (from_on (reaches b) s.end)))
    tagged m e =
        ap (map (span_of name)) (heard-on (is_among (left_out t.children)) t.head.offset (reaches b) ∙ ap (on_tag (is_among (left_out t.children))) o.next)
        ∙ ap (λ x. map (span_of name) (held_by x (heard (is_among (left_out t.children)) 0 0 (from_on (reaches b) s.end)))) (sym (ap (λ x. x.does) o.is) ∙ e)

    pub opens-due : (a : ℕ) → s.does ≡ Opens a → ahead name b (left_out t.children) 0 0 s.end ≡ map (span_of name) (element_spans b t)
    opens-due a e = sym (tagged (Opens a) e)

  pub nothing-due : (s : Step) → IsOn b t.head.offset s → (s.does ≡ Closes) ⊎ ((s.does ≡ Says) ⊎ (s.does ≡ Passes)) → [] ≡ map (span_of name) (element_spans b t)
  nothing-due s o (inl e) = sym (tagged s o Closes e)
  nothing-due s o (inr (inl e)) = sym (tagged s o Says e)
  nothing-due s o (inr (inr e)) = sym (tagged s o Passes e)

-- an element's place is that of its tree
pub offset-is : (e : Element) → e.place.offset ≡ (tree_of e).head.offset
offset-is e = rw (fold_out-Element) refl
