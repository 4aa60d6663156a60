use Rattle.std.proofs.Common.{◌≡◌, ◌∙◌, ◌+◌, ◌≤◌, List, Option, ℕ, length, drop, refl, subst, rules, inl, inr, arith}
use Rattle.std.proofs.Math.ListN.{drop_of_length-le}
use Rattle.ix_base.specs.Outside.{TellsAlso}
use Rattle.page_verdicts.proofs.ForestLaws.{asked_on, before_next, next_among, next_read, next_stopped, over_is_sound, names_over, next_started, none_started, one_started, read_none, read_more, some_is_sound, some_over, some_read, last_among, last_is, stops_at_end}
use Rattle.page_verdicts.proofs.read_pages.read_all.Goals as goal

pub loop-number-init : goal.loop-number-init
loop-number-init g c =
    let none = c.no_pages-forest.ensures in
    record {
      faults = refl;
      numbers = refl;
      page = refl;
      room = search rules;
      most = omega (arith, none.bytes);
      tags = omega (arith, none.bytes, none.tags);
      read = read_none _ _ _ none.bytes none.tags none.found none.roots none.texts;
      starts = none_started _;
      keeps = none.keeps;
      same = λ e. refl;
      stops = inl refl;
    }

pub loop-number-preserved : goal.loop-number-preserved
loop-number-preserved g c =
    let names = c.args.names.now in
    let n = c.loop-number.number in
    let name = c.index-names-number.result in
    let next = next_read _ _ names n name _ _ _ (omega arith) c.index-names-number.is c.loop-number.invariant.page c.in_ok-read_next.ensures.reads c.loop-number.invariant.read in
    record {
      faults = c.in_ok-read_next.ensures.tries.ok ∙ c.loop-number.invariant.faults;
      numbers = c.in_ok-read_next.ensures.tries.numbers ∙ c.loop-number.invariant.numbers;
      page = c.in_ok-read_next.ensures.tries.pages ∙ c.loop-number.invariant.page;
      room = c.loop-number.invariant.room;
      most = omega arith;
      tags = c.in_ok-read_next.ensures.sums.1;
      read = read_more _ names name _ n _ _ _ (omega arith) next.0
          (subst (λ (pg : List ℕ → Option (List ℕ)). TellsAlso pg name) c.loop-number.invariant.page c.in_ok-read_next.ensures.tries.told) next.1;
      starts = one_started names n name _ _ _ (omega arith) c.index-names-number.is c.loop-number.invariant.starts c.in_ok-read_next.ensures.tries.started;
      keeps = c.in_ok-read_next.ensures.keeps ∙ c.loop-number.invariant.keeps;
      same = λ e. absurd (let z : n + 1 ≡ 0 = e in omega arith);
      stops = inr (last_is _ names name _ n _ _ _ _ c.loop-number.invariant.most c.in_ok-read_next.ensures.sums.0 c.in_ok-read_next.ensures.tries.named next.0 next.1);
    }

pub returns-then-forest-gt-MOST_BYTES-clause-reads : goal.returns-then-forest-gt-MOST_BYTES-clause-reads
returns-then-forest-gt-MOST_BYTES-clause-reads g c =
    let names = c.args.names.now in
    let n = c.loop-number.number in
    let name = c.index-names-number.result in
    let next = next_read _ _ names n name _ _ _ (omega arith) c.index-names-number.is c.loop-number.invariant.page c.in_ok-read_next.ensures.reads c.loop-number.invariant.read in
    some_over _ names name _ n _ _ _ c.if-forest-gt-MOST_BYTES.true next.0 next.1

pub returns-then-forest-gt-MOST_BYTES-clause-sound : goal.returns-then-forest-gt-MOST_BYTES-clause-sound
returns-then-forest-gt-MOST_BYTES-clause-sound g c = over_is_sound _ _ c.if-forest-gt-MOST_BYTES.true

pub returns-then-forest-gt-MOST_BYTES-clause-stops : goal.returns-then-forest-gt-MOST_BYTES-clause-stops
returns-then-forest-gt-MOST_BYTES-clause-stops g c =
    let names = c.args.names.now in
    let n = c.loop-number.number in
    let name = c.index-names-number.result in
    let next = next_read _ _ names n name _ _ _ (omega arith) c.index-names-number.is c.loop-number.invariant.page c.in_ok-read_next.ensures.reads c.loop-number.invariant.read in (
      drop (n + 1) names,
      last_is _ names name _ n _ _ _ _ c.loop-number.invariant.most c.in_ok-read_next.ensures.sums.0 c.in_ok-read_next.ensures.tries.named next.0 next.1,
      inr (names_over _ names name _ n _ _ _ c.if-forest-gt-MOST_BYTES.true next.0 next.1),
    )

pub returns-then-forest-gt-MOST_BYTES-clause-asks : goal.returns-then-forest-gt-MOST_BYTES-clause-asks
returns-then-forest-gt-MOST_BYTES-clause-asks g c =
    let names = c.args.names.now in
    let n = c.loop-number.number in
    let name = c.index-names-number.result in
    let before = before_next _ names n name _ (omega arith) c.index-names-number.is c.loop-number.invariant.read in
    record {
      ok = c.in_ok-read_next.ensures.tries.ok ∙ c.loop-number.invariant.faults;
      stopped = tt;
      asked = inr (name, next_among _ names name _ n _ _ c.loop-number.invariant.most c.in_ok-read_next.ensures.tries.named before);
      starts = (n + 1, one_started names n name _ _ _ (omega arith) c.index-names-number.is c.loop-number.invariant.starts c.in_ok-read_next.ensures.tries.started);
      pages = c.in_ok-read_next.ensures.tries.pages ∙ c.loop-number.invariant.page;
      numbers = c.in_ok-read_next.ensures.tries.numbers ∙ c.loop-number.invariant.numbers;
    }

pub returns-clause-reads : goal.returns-clause-reads
returns-clause-reads g c =
    let page : List ℕ → Option (List ℕ) = g.P.PageSource.page c.args.pages.now in
    let names = c.args.names.now in
    let n = c.loop-number.number in
    let past : length names ≤ n = omega arith in
    some_read page names (drop n names) n _ (drop_of_length-le names past) c.loop-number.invariant.read

pub returns-clause-sound : goal.returns-clause-sound
returns-clause-sound g c = some_is_sound _ c.args.names.now _ c.loop-number.number _ (omega arith) c.loop-number.invariant.read

pub returns-clause-stops : goal.returns-clause-stops
returns-clause-stops g c =
    let names = c.args.names.now in
    let past : length names ≤ c.loop-number.number = omega arith in
    let some = c.requires.some in
    stops_at_end _ names (drop c.loop-number.number names) _ _ c.loop-number.number (omega arith) (drop_of_length-le names past) c.loop-number.invariant.stops

pub returns-clause-asks : goal.returns-clause-asks
returns-clause-asks g c = record {
  ok = c.loop-number.invariant.faults;
  stopped = tt;
  asked = elim c.loop-number.invariant.stops [ inl none ↦ inl (c.loop-number.invariant.same none) | inr last ↦ inr (last_among _ _ _ _ _ last) ];
  starts = (c.loop-number.number, c.loop-number.invariant.starts);
  pages = c.loop-number.invariant.page;
  numbers = c.loop-number.invariant.numbers;
}

pub returns-in_err-read_next-clause-asks : goal.returns-in_err-read_next-clause-asks
returns-in_err-read_next-clause-asks g c =
    let names = c.args.names.now in
    let n = c.loop-number.number in
    let name = c.index-names-number.result in
    let before = before_next _ names n name _ (omega arith) c.index-names-number.is c.loop-number.invariant.read in
    let why = next_stopped _ names name _ n _ c.loop-number.forest _ _ _ _ _ c.loop-number.invariant.most c.loop-number.invariant.faults before
    c.in_err-read_next.ensures.tries.stopped in
    record {
      ok = search rules;
      stopped = search rules;
      asked = asked_on _ g.P.PageSource.asked _ names name _ _ n _ c.loop-number.pages c.args.pages.now c.read_next.new.pages _
          c.loop-number.invariant.most c.loop-number.invariant.same c.loop-number.invariant.stops before c.in_err-read_next.ensures.tries.asked;
      starts = next_started names n name _ _ _ (omega arith) c.index-names-number.is c.loop-number.invariant.starts c.in_err-read_next.ensures.tries.starts;
      pages = c.in_err-read_next.ensures.tries.pages ∙ c.loop-number.invariant.page;
      numbers = c.in_err-read_next.ensures.tries.numbers ∙ c.loop-number.invariant.numbers;
    }

pub returns-in_default-clause-asks : goal.returns-in_default-clause-asks
returns-in_default-clause-asks g c =
    record { ok = tt; stopped = refl; asked = inl refl; starts = (0, none_started _); pages = refl; numbers = refl }
