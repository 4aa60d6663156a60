-- From one construct of a page to the next.
use Rattle.ix_base.specs.declared.limits.TheConstants.{DEEPEST_ELEMENT}
use Rattle.std.proofs.Common.{◌≡◌, ◌∙◌, ◌⊎◌, inl, inr, ⊎_elim, ℕ, zero, suc, ◌+◌, ◌-◌, ◌<◌, ◌≤◌, ◌==◌, Bool, true, false, ◌&&◌, List, [], ◌∷◌, ◌++◌, length, drop, get_or, map, Contains, Option, Some, None, option_map, is_none, refl, sym, ap, subst, add-one, arith, if◌then◌else◌}
use Rattle.std.proofs.lemmas.List.{length-drop}
use Rattle.std.proofs.Math.Seq.{drop-cons}
use Rattle.ix_base.specs.Sound.{Rise}
use Rattle.ix_base.proofs.OnceLemmas.{Contains-cases, Contains-later, Contains-nil, Contains-same}
use Rattle.page_text.specs.Characters.{stop}
use Rattle.page_tree.specs.Break.{w}
use Rattle.page_constructs.specs.Constructs.{Construct, cut, text_of}
use Rattle.page_tree.specs.Raw.{mark_size}
use Rattle.page_tree.specs.Reaches.{Reach, StandsAt, reach_at, reaches, reaches_to}
use Rattle.page_tree.proofs.PageMarks.{page-climbs}
use Rattle.page_tree.proofs.PieceLaws.{whole-takes}
use Rattle.page_tree.proofs.RisingOffsets.{Climb, cut-climbs, starts_of}
use Rattle.page_constructs.proofs.SizeLaws.{other-number, same-number}
use Rattle.fact_trace.specs.Spans.{closing, fewer, heard, heard_by, is_among, muted_in, span_of}
use Rattle.fact_trace.specs.Walks.{IsFrontPassed, IsWhole, from_on, heard_at_step, stepped}
use Rattle.fact_trace.specs.declared.moves.Move.{Move}
use Rattle.fact_trace.specs.declared.moves.Move.TheVariants.{Opens, Closes, Says, Passes}
use Rattle.fact_trace.specs.declared.moves.Step.{Step}
use Rattle.fact_trace.specs.declared.span.Span.{Span}
use Rattle.fact_trace.proofs.AgreeLaws.{Each, each-mapped}
use Rattle.fact_trace.proofs.HeardLaws.{by_move, step}
use Rattle.fact_trace.proofs.MoveLaws.{opens-at, whole-unbroken}
use Rattle.fact_trace.proofs.SpeltLaws.{IsSpelt, all-spelt, is-there}

-- Numbers that rise.

pub rise-rest : (n : ℕ) (ns : List ℕ) → Rise (n ∷ ns) → Rise ns
rise-rest n [] up = tt
rise-rest n (m ∷ ns) up = up.1

pub rise-drop : (i : ℕ) (ns : List ℕ) → Rise ns → Rise (drop i ns)
rise-drop zero ns up = up
rise-drop (suc i) [] up = tt
rise-drop (suc i) (n ∷ ns) up = rise-drop i ns (rise-rest n ns up)

none-above : (n at : ℕ) (ns : List ℕ) → at < n → Rise (n ∷ ns) → is_among (n ∷ ns) at ≡ false
none-above n at [] l up = rw (other-number n at (λ e. (omega arith))) refl
none-above n at (m ∷ ns) l up = rw (other-number n at (λ e. (omega arith))) (none-above m at ns (let z = up.0 in omega arith) up.1)

cut-at : (ns : List ℕ) (i : ℕ) → i < length ns → drop i ns ≡ get_or ns i 0 ∷ drop (i + 1) ns
cut-at ns i l = drop-cons ns i 0 l ∙ ap (λ k. get_or ns i 0 ∷ drop k ns) (sym (add-one i))

pub passes-on : (ns : List ℕ) (next at : ℕ) → next < length ns → get_or ns next 0 < at → IsFrontPassed ns next at → IsFrontPassed ns (next + 1) at
passes-on ns next at l less h x k =
    h x k ∙ ap (λ os. is_among os x) (cut-at ns next l) ∙ rw (other-number (get_or ns next 0) x (λ e. (omega arith))) refl

pub none-left : (ns : List ℕ) (next at : ℕ) → length ns ≤ next → IsFrontPassed ns next at → false ≡ is_among ns at
none-left ns next at l h = sym (h at (omega arith) ∙ ap (λ os. is_among os at) (gone next ns l)) where
  gone : (i : ℕ) (os : List ℕ) → length os ≤ i → drop i os ≡ []
  gone zero [] k = refl
  gone (suc i) [] k = refl
  gone zero (o ∷ os) k = absurd (omega arith)
  gone (suc i) (o ∷ os) k = gone i os (omega arith)

less-or : (m n : ℕ) → m ≤ n → (m < n) ⊎ (m ≡ n)
less-or zero zero k = inr refl
less-or zero (suc n) k = inl (omega arith)
less-or (suc m) zero k = absurd (omega arith)
less-or (suc m) (suc n) k = ⊎_elim (λ z. inl (omega arith)) (λ z. inr (ap suc z)) (less-or m n (omega arith))

more-than : (at n : ℕ) → (n == at) ≡ false → at ≤ n → at < n
more-than at n f k = ⊎_elim (λ z. z) (λ z. absurd (let s = same-number n at (sym z) in (cc))) (less-or at n k)

pub next-is : (ns : List ℕ) (next at : ℕ) → next < length ns → at ≤ get_or ns next 0 → Rise ns → IsFrontPassed ns next at → (get_or ns next 0 == at) ≡ is_among ns at
next-is ns next at l low up h = sym (h at (omega arith) ∙ ap (λ os. is_among os at) cut ∙ by (get_or ns next 0 == at) refl) where
  cut : drop next ns ≡ get_or ns next 0 ∷ drop (next + 1) ns
  cut = cut-at ns next l

  by : (b : Bool) → (get_or ns next 0 == at) ≡ b → is_among (get_or ns next 0 ∷ drop (next + 1) ns) at ≡ (get_or ns next 0 == at)
  by true e = rw e refl
  by false e =
      let above : at < get_or ns next 0 = more-than at (get_or ns next 0) e low in
      none-above (get_or ns next 0) at (drop (next + 1) ns) above (subst Rise cut (rise-drop next ns up)) ∙ sym e

pub further : (ns : List ℕ) (next at more : ℕ) → at ≤ more → IsFrontPassed ns next at → IsFrontPassed ns next more
further ns next at more l h x k = h x (omega arith)

-- The way through a page.

-- the next construct stands where one ends
record GoesOn (end low : ℕ) (cs : List Construct) (from : ℕ) (r : Reach) : Type 0 where
  next : from_on (reaches_to end cs) from ≡ r ∷ from_on (reaches_to end cs) r.end
  above : low < r.end
  stands : Contains (starts_of cs) r.end ⊎ (r.end ≡ end)

abbrev AreBelow : ℕ → List Construct → Type 0
AreBelow end cs = Each (λ c. c.start < end) cs

from-own : (end : ℕ) (d : Construct) (cs : List Construct) → from_on (reaches_to end (d ∷ cs)) d.start ≡ reaches_to end (d ∷ cs)
from-own end d [] = rw (same-number d.start d.start refl) refl
from-own end d (x ∷ cs) = rw (same-number d.start d.start refl) refl

goes-on : (end low : ℕ) (cs : List Construct) (from : ℕ) (r : Reach) → Climb low (starts_of cs) → AreBelow end cs → reach_at (reaches_to end cs) from ≡ Some r → GoesOn end low cs from r
goes-on end low [] from r c h e = absurd (cc)
goes-on end low (x ∷ []) from r c h e = by (x.start == from) refl e where
  own : Reach
  own = record { what = x; end = end }

  by : (b : Bool) → (x.start == from) ≡ b → (if b then Some (record { what = x; end = end }) else None) ≡ Some r → GoesOn end low (x ∷ []) from r
  by false t f = absurd (cc)
  by true t f =
      let g : record { what = x; end = end } ≡ r = cc in
      let l = h.0 in
      let k = c.0 in
      subst (GoesOn end low (x ∷ []) from) g (record {
        next = rw (t, other-number x.start end (λ z. (omega arith))) refl;
        above = omega arith;
        stands = inr refl;
      })
goes-on end low (x ∷ d ∷ cs) from r c h e = by (x.start == from) refl e (goes-on end (suc x.start) (d ∷ cs) from r c.1 h.1) where
  rest : List Reach
  rest = reaches_to end (d ∷ cs)

  by : (b : Bool) → (x.start == from) ≡ b → (if b then Some (record { what = x; end = d.start }) else reach_at (reaches_to end (d ∷ cs)) from) ≡ Some r
      → (reach_at (reaches_to end (d ∷ cs)) from ≡ Some r → GoesOn end (suc x.start) (d ∷ cs) from r) → GoesOn end low (x ∷ d ∷ cs) from r
  by true t f ih =
      let g : record { what = x; end = d.start } ≡ r = cc in
      let k = c.0 in
      let m = c.1.0 in
      subst (GoesOn end low (x ∷ d ∷ cs) from) g (record {
        next = rw (t, other-number x.start d.start (λ z. (omega arith)))
            (ap (λ l. record { what = x; end = d.start } ∷ l) (sym (from-own end d cs)));
        above = omega arith;
        stands = inl (Contains-later x.start (starts_of (d ∷ cs)) d.start (Contains-same d.start (starts_of cs) d.start refl));
      })
  by false t f ih =
      let z = ih f in
      let k = c.0 in
      let m = z.above in
      record {
        next = rw (t, other-number x.start r.end (λ y. (omega arith))) z.next;
        above = omega arith;
        stands = ⊎_elim (λ y. inl (Contains-later x.start (starts_of (d ∷ cs)) r.end y)) inr z.stands;
      }

-- each construct of a page begins before the page ends
all-below : (b : List ℕ) → w b DEEPEST_ELEMENT ≡ None → AreBelow (length b) (cut b).constructs
all-below b u =
    let m = mark_size b in
    each-mapped (IsSpelt true m (drop m b)) (λ c. c.start < length b)
    (λ c x.
    (let t = whole-takes true (true && (x.front == 0)) (drop x.front (drop m b)) x.bytes x.whole in
    let some = t.0 in
    let room = t.1 in
    let is = x.is in
    omega (arith, length-drop x.front (drop m b), length-drop m b)))
    (cut b).constructs (all-spelt b u)

listed-below : (end : ℕ) (cs : List Construct) (from : ℕ) → AreBelow end cs → Contains (starts_of cs) from → from < end
listed-below end [] from h k = absurd (Contains-nil from k)
listed-below end (c ∷ cs) from h k = ⊎_elim (λ e. subst (λ n. n < end) e h.0) (λ m. listed-below end cs from h.1 m) (Contains-cases c.start (starts_of cs) from k)

pub stands-room : (b : List ℕ) (from : ℕ) → IsWhole b → StandsAt b from → from ≤ length b
stands-room b from h s =
    ⊎_elim (λ k. (let l = listed-below (length b) (cut b).constructs from (all-below b (whole-unbroken b h)) k in omega arith)) (λ e. (omega arith)) s

-- A construct of a page, and where the next one stands.
pub record IsOn (b : List ℕ) (at : ℕ) (s : Step) : Type 0 where
  pub reach : Reach
  pub is : s ≡ stepped reach
  pub next : from_on (reaches b) at ≡ reach ∷ from_on (reaches b) s.end
  pub above : at < s.end
  pub fits : s.end ≤ length b
  pub stands : StandsAt b s.end
  pub opens : (a : ℕ) → s.does ≡ Opens a → a ≡ at

on-reach : (b : List ℕ) (at : ℕ) (r : Reach) → IsWhole b → reach_at (reaches b) at ≡ Some r → IsOn b at (stepped r)
on-reach b at r h f =
    let u = whole-unbroken b h in
    let cs = (cut b).constructs in
    let climbs = cut-climbs (length (text_of b)) 0 (is_none (stop b)) true (text_of b) (page-climbs b) in
    let g = goes-on (length b) 0 cs at r climbs (all-below b u) f in
    let t = is-there b at r u f in
    let end = t.end in
    let some = t.some in
    let fits = t.fits in
    record {
      reach = r;
      is = refl;
      next = g.next;
      above = omega arith;
      fits = omega arith;
      stands = g.stands;
      opens = λ a e. opens-at b at r a h f e;
    }

pub is-on : (b : List ℕ) (at : ℕ) (s : Step) → IsWhole b → Some s ≡ option_map stepped (reach_at (reaches b) at) → IsOn b at s
is-on b at s h e = by (reach_at (reaches b) at) refl e where
  by : (o : Option Reach) → reach_at (reaches b) at ≡ o → Some s ≡ option_map stepped o → IsOn b at s
  by None f g = absurd (cc)
  by (Some r) f g = (let is : stepped r ≡ s = cc in subst (IsOn b at) is (on-reach b at r h f))

-- less of the page is left behind a construct
pub nearer : (b : List ℕ) (at : ℕ) (s : Step) → IsWhole b → Some s ≡ option_map stepped (reach_at (reaches b) at) → length b - s.end < length b - at
nearer b at s h e =
    let o = is-on b at s h e in
    let above = o.above in
    let fits = o.fits in
    omega arith

none-on : (rs : List Reach) (at : ℕ) → reach_at rs at ≡ None → from_on rs at ≡ []
none-on [] at e = refl
none-on (r ∷ rs) at e = by (r.what.start == at) e (none-on rs at) where
  by : (b : Bool) → (if b then Some r else reach_at rs at) ≡ None → (reach_at rs at ≡ None → from_on rs at ≡ []) → (if b then r ∷ rs else from_on rs at) ≡ []
  by true f ih = absurd (cc)
  by false f ih = ih f

pub is-off : (b : List ℕ) (at : ℕ) → None ≡ option_map stepped (reach_at (reaches b) at) → from_on (reaches b) at ≡ []
is-off b at e = by (reach_at (reaches b) at) refl e where
  by : (o : Option Reach) → reach_at (reaches b) at ≡ o → None ≡ option_map stepped o → from_on (reaches b) at ≡ []
  by None f g = none-on (reaches b) at f
  by (Some r) f g = absurd (cc)

-- What is heard from an offset on, with so many elements open and so many muted, as spans of a page.
abbrev pub ahead : List ℕ → List ℕ → List ℕ → ℕ → ℕ → ℕ → List Span
ahead name b offsets deep muted at = map (span_of name) (heard (is_among offsets) deep muted (from_on (reaches b) at))

module _ (name b offsets : List ℕ) (deep muted at : ℕ) (s : Step) (o : IsOn b at s) where
  moved : (m : Move) → s.does ≡ m → ahead name b offsets deep muted at ≡ map (span_of name) (by_move m (is_among offsets) deep muted o.reach (from_on (reaches b) s.end))
  moved m e =
      ap (λ rs. map (span_of name) (heard (is_among offsets) deep muted rs)) o.next
      ∙ ap (map (span_of name)) (step m (is_among offsets) deep muted o.reach (from_on (reaches b) s.end) (sym (ap (λ x. x.does) o.is) ∙ e))

  pub way-opens : (a : ℕ) → s.does ≡ Opens a → ahead name b offsets deep muted at ≡ ahead name b offsets (deep + 1) (muted_in (is_among offsets a) muted) s.end
  way-opens a e = moved (Opens a) e ∙ ap (λ n. ahead name b offsets n (muted_in (is_among offsets a) muted) s.end) (sym (add-one deep))

  pub way-passes : s.does ≡ Passes → ahead name b offsets deep muted at ≡ ahead name b offsets deep muted s.end
  way-passes e = moved Passes e

  pub way-ends : s.does ≡ Closes → deep ≡ 0 → ahead name b offsets deep muted at ≡ []
  way-ends e z = moved Closes e ∙ ap (λ n. map (span_of name) (closing n (λ d. heard (is_among offsets) d (fewer muted) (from_on (reaches b) s.end)))) z

  pub way-closes : s.does ≡ Closes → 0 < deep → ahead name b offsets deep muted at ≡ ahead name b offsets (deep - 1) (muted - 1) s.end
  way-closes e l =
      moved Closes e
      ∙ ap (λ n. map (span_of name) (closing n (λ d. heard (is_among offsets) d (fewer muted) (from_on (reaches b) s.end)))) (let z : deep ≡ suc (deep - 1) = omega arith in z)
      ∙ ap (λ n. ahead name b offsets (deep - 1) n s.end) (less muted)
    where
      less : (n : ℕ) → fewer n ≡ n - 1
      less zero = refl
      less (suc n) = (let z : n ≡ suc n - 1 = omega arith in z)

  pub way-says : s.does ≡ Says → ahead name b offsets deep muted at ≡ heard_at_step name s muted ++ ahead name b offsets deep muted s.end
  way-says e = moved Says e ∙ by muted (heard (is_among offsets) deep muted (from_on (reaches b) s.end)) where
    by : (n : ℕ) (rest : List Reach) → map (span_of name) (heard_by n o.reach rest) ≡ heard_at_step name s n ++ map (span_of name) rest
    by zero rest = ap (λ x. record { page = name; start = x.start; end = x.end } ∷ map (span_of name) rest) (sym o.is)
    by (suc n) rest = rw (other-number (suc n) 0 (λ z. (omega arith))) refl

pub muted-less : (b : Bool) (n : ℕ) → muted_in b n ≤ n + 1
muted-less true zero = omega arith
muted-less false zero = omega arith
muted-less b (suc n) = omega arith
