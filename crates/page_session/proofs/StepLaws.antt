-- What a session stands for, after steps.
use Rattle.std.proofs.Common.{◌≡◌, ◌∙◌, ap, sym, refl, ℕ, Bool, true, false, ◌||◌, if◌then◌else◌, List, [], ◌∷◌, ◌++◌, bytes_eq, subst, arith}
use Rattle.std.specs.List.{fold, list_any}
use Rattle.std.proofs.lemmas.List.Sums.{fold-append}
use Rattle.std.proofs.lemmas.Slice.Eq.{bytes_eq-Decides}
use Rattle.page_session.specs.HandedPages.{Handed, handed, bytes_of, names_of, put_in, drop_in}
use Rattle.targets.specs.Breaches.{PagesComeTo}
use Rattle.target_contents.specs.declared.outcome.Outcome.{Outcome}
use Rattle.page_names.specs.Names.{has_repeat}
use Rattle.page_session.specs.Sessions.{AreKept, IsSame, StandsFor, base_of}
use Rattle.page_session.specs.Steps.{Does, Goes, Step, puts, drops, after, stepped}
use Rattle.page_session.specs.declared.kept.Kept.{Kept}
use Rattle.page_session.specs.declared.session.Session.{Session}

-- a step leads from what a session stood for to what it stands for
pub stands_after : (pages : List Handed) (step : Step) (old new : Session) → StandsFor old pages → Does step old new → StandsFor new (stepped pages step)
stands_after pages (puts name bytes) old new s d = d.stands pages s
stands_after pages (drops name) old new s d = d.stands pages s

pub one_more : (steps : List Step) (step : Step) (old new : Session) → StandsFor old (after steps) → Does step old new → StandsFor new (after (steps ++ step ∷ []))
one_more steps step old new s d =
    subst (λ pages. StandsFor new pages) (sym (fold-append stepped [] steps (step ∷ []))) (stands_after (after steps) step old new s d)

-- nothing changed
pub same_stands : (old new : Session) (pages : List Handed) → IsSame old new → StandsFor old pages → StandsFor new pages
same_stands old new pages same s = record {
  kept = subst (λ (ks : List Kept). AreKept ks pages) (sym same.kept) s.kept;
  bytes = let was = s.bytes in let is = ap (λ x. x.bytes) same.sums in omega arith;
  tags = let was = s.tags in let is = ap (λ x. x.tags) same.sums in omega arith;
}

-- steps lead on from any pages
pub lead_on : (pages : List Handed) (old new : Session) (steps : List Step) → StandsFor old pages → Goes old steps new → StandsFor new (fold stepped pages steps)
lead_on pages old new [] s g = same_stands old new pages g s
lead_on pages old new (step ∷ steps) s (here, next, on, does, goes) =
    lead_on (stepped pages step) next new steps (stands_after pages step here next (same_stands old here pages on s) does) goes

step_base : (step : Step) (old new : Session) → Does step old new → base_of new ≡ base_of old
step_base (puts name bytes) old new d = d.base
step_base (drops name) old new d = d.base

pub same_base : (old new : Session) (steps : List Step) → Goes old steps new → base_of new ≡ base_of old
same_base old new [] g = g.base
same_base old new (step ∷ steps) (here, next, on, does, goes) = same_base next new steps goes ∙ step_base step here next does ∙ on.base

-- the names of pages differ, whatever is put and dropped

or_front : (a b : Bool) → (a || b) ≡ false → a ≡ false
or_front true b e = e
or_front false b e = refl

or_back : (a b : Bool) → (a || b) ≡ false → b ≡ false
or_back true b e = absurd cc
or_back false b e = e

neither : (a b : Bool) → a ≡ false → b ≡ false → (a || b) ≡ false
neither a b e f = (λ i. e i || f i)

any_step : (v : Bool) (f : List ℕ → Bool) (p q : Handed) (qs : List Handed) → f p.name ≡ false → (f q.name || list_any f (names_of qs)) ≡ false
    → (list_any f (names_of qs) ≡ false → list_any f (names_of (put_in p qs)) ≡ false) → list_any f (names_of (if v then p ∷ qs else q ∷ put_in p qs)) ≡ false
any_step true f p q qs none all more = (λ i. none i || list_any f (names_of qs)) ∙ or_back (f q.name) (list_any f (names_of qs)) all
any_step false f p q qs none all more = neither (f q.name) (list_any f (names_of (put_in p qs))) (or_front (f q.name) (list_any f (names_of qs)) all)
    (more (or_back (f q.name) (list_any f (names_of qs)) all))

any_put : (f : List ℕ → Bool) (p : Handed) (qs : List Handed) → f p.name ≡ false → list_any f (names_of qs) ≡ false → list_any f (names_of (put_in p qs)) ≡ false
any_put f p [] none all = neither (f p.name) false none refl
any_put f p (q ∷ qs) none all = any_step (bytes_eq q.name p.name) f p q qs none all (any_put f p qs none)

put_step : (p q : Handed) (qs : List Handed) (v : Bool) → bytes_eq q.name p.name ≡ v → list_any (bytes_eq q.name) (names_of qs) ≡ false
    → has_repeat (names_of qs) ≡ false → has_repeat (names_of (put_in p qs)) ≡ false → has_repeat (names_of (if v then p ∷ qs else q ∷ put_in p qs)) ≡ false
unfolding has_repeat
put_step p q qs true e none all more =
    neither (list_any (bytes_eq p.name) (names_of qs)) (has_repeat (names_of qs))
    (subst (λ (n : List ℕ). list_any (bytes_eq n) (names_of qs) ≡ false) ((bytes_eq-Decides q.name p.name).0 e) none) all
put_step p q qs false e none all more =
    neither (list_any (bytes_eq q.name) (names_of (put_in p qs))) (has_repeat (names_of (put_in p qs))) (any_put (bytes_eq q.name) p qs e none) more

put_differ : (p : Handed) (qs : List Handed) → has_repeat (names_of qs) ≡ false → has_repeat (names_of (put_in p qs)) ≡ false
unfolding has_repeat
put_differ p [] all = refl
put_differ p (q ∷ qs) all =
    let rest = or_back (list_any (bytes_eq q.name) (names_of qs)) (has_repeat (names_of qs)) all in
    put_step p q qs (bytes_eq q.name p.name) refl (or_front (list_any (bytes_eq q.name) (names_of qs)) (has_repeat (names_of qs)) all) rest (put_differ p qs rest)

fewer_step : (v : Bool) (f : List ℕ → Bool) (name : List ℕ) (q : Handed) (qs : List Handed) → (f q.name || list_any f (names_of qs)) ≡ false
    → (list_any f (names_of qs) ≡ false → list_any f (names_of (drop_in name qs)) ≡ false) → list_any f (names_of (if v then qs else q ∷ drop_in name qs)) ≡ false
fewer_step true f name q qs all more = or_back (f q.name) (list_any f (names_of qs)) all
fewer_step false f name q qs all more = neither (f q.name) (list_any f (names_of (drop_in name qs))) (or_front (f q.name) (list_any f (names_of qs)) all)
    (more (or_back (f q.name) (list_any f (names_of qs)) all))

any_drop : (f : List ℕ → Bool) (name : List ℕ) (qs : List Handed) → list_any f (names_of qs) ≡ false → list_any f (names_of (drop_in name qs)) ≡ false
any_drop f name [] all = refl
any_drop f name (q ∷ qs) all = fewer_step (bytes_eq q.name name) f name q qs all (any_drop f name qs)

drop_step : (v : Bool) (name : List ℕ) (q : Handed) (qs : List Handed) → list_any (bytes_eq q.name) (names_of qs) ≡ false
    → has_repeat (names_of qs) ≡ false → has_repeat (names_of (drop_in name qs)) ≡ false → has_repeat (names_of (if v then qs else q ∷ drop_in name qs)) ≡ false
unfolding has_repeat
drop_step true name q qs none all more = all
drop_step false name q qs none all more =
    neither (list_any (bytes_eq q.name) (names_of (drop_in name qs))) (has_repeat (names_of (drop_in name qs))) (any_drop (bytes_eq q.name) name qs none) more

drop_differ : (name : List ℕ) (qs : List Handed) → has_repeat (names_of qs) ≡ false → has_repeat (names_of (drop_in name qs)) ≡ false
unfolding has_repeat
drop_differ name [] all = refl
drop_differ name (q ∷ qs) all =
    let rest = or_back (list_any (bytes_eq q.name) (names_of qs)) (has_repeat (names_of qs)) all in
    drop_step (bytes_eq q.name name) name q qs (or_front (list_any (bytes_eq q.name) (names_of qs)) (has_repeat (names_of qs)) all) rest (drop_differ name qs rest)

differ_from : (pages : List Handed) (steps : List Step) → has_repeat (names_of pages) ≡ false → has_repeat (names_of (fold stepped pages steps)) ≡ false
differ_from pages [] all = all
differ_from pages (puts name bytes ∷ steps) all = differ_from (put_in (handed name bytes) pages) steps (put_differ (handed name bytes) pages all)
differ_from pages (drops name ∷ steps) all = differ_from (drop_in name pages) steps (drop_differ name pages all)

pub differ : (steps : List Step) → has_repeat (names_of (after steps)) ≡ false
unfolding has_repeat
differ steps = differ_from [] steps refl

-- what is true of all pages for which a session stands is true of those that steps lead to
pub answered : (old new : Session) (steps : List Step) (o : Outcome) → StandsFor old [] → Goes old steps new
    → ((pages : List Handed) → StandsFor new pages → PagesComeTo (base_of new) (names_of pages) (bytes_of pages) o)
    → PagesComeTo (base_of old) (names_of (after steps)) (bytes_of (after steps)) o
answered old new steps o s g all =
    subst (λ (base : List ℕ). PagesComeTo base (names_of (after steps)) (bytes_of (after steps)) o) (same_base old new steps g)
    (all (after steps) (lead_on [] old new steps s g))
