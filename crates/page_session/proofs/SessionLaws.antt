-- What a session stands for, as pages are put and taken away.
use Rattle.std.proofs.Common.{◌≡◌, ◌∙◌, ap, sym, refl, ℕ, ◌+◌, ◌≤◌, ◌<◌, Bool, true, false, nat_lt, if◌then◌else◌, List, [], ◌∷◌, ◌++◌, length, slice_set, Option, Some, None, IfOk, Result, Ok, Err, subst, arith}
use Rattle.std.specs.List.{remove}
use Rattle.std.proofs.lemmas.Bool.{le-ltb}
use Rattle.ix_base.specs.declared.limits.TheConstants.{MOST_BYTES, MOST_TAGS}
use Rattle.ix_base.specs.declared.rule.Rule.TheVariants.{S1, S2}
use Rattle.ix_base.specs.declared.NoMemory.{NoMemory}
use Rattle.page_session.specs.HandedPages.{Handed, handed, bytes_of, names_of, drop_in, place_of}
use Rattle.targets.specs.Breaches.{PagesComeTo}
use Rattle.page_session.specs.Sessions.{AreKept, HasDropped, HasPut, IsHeld, OfPage, StandsFor, names_in, names_kept}
use Rattle.targets.specs.Breaches.{bytes_in, all_tags_in, tags_in, set_rule}
use Rattle.page_session.specs.declared.kept.Kept.{Kept}
use Rattle.page_session.specs.declared.session.Session.{Session}
use Rattle.target_contents.specs.declared.outcome.Outcome.{Outcome}
use Rattle.page_session.proofs.KeptLaws.{kept_more, more_bytes, more_tags, fewer_bytes, fewer_tags, drop_at, drop_none}
use Rattle.page_session.proofs.ReadLaws.{held_bytes, held_tags}

pub of_page : (told : Option (List ℕ)) (P Q : List ℕ → Type 0) → ((b : List ℕ) → P b → Q b) → OfPage told P → OfPage told Q
of_page told P Q step h = (h.0, h.1, step h.0 h.2)

-- this was put
pub put_session : (old new : Session) (k : Kept) (at : ℕ) → at ≡ place_of (names_in old) k.name → at ≤ length old.kept.items
    → (at < length old.kept.items → new.kept.items ≡ slice_set old.kept.items at k) → (at ≡ length old.kept.items → new.kept.items ≡ old.kept.items ++ k ∷ [])
    → new.base ≡ old.base
    → (b : List ℕ) → IsHeld k.held b × (new.sums.bytes ≡ old.sums.bytes + length b) × (new.sums.tags ≡ old.sums.tags + tags_in b) → HasPut (handed k.name b) old new
put_session old new k at is within replaced added base b h = record {
  stands = λ pages s. record {
    kept = kept_more old.kept.items new.kept.items k at is within replaced added b h.0 pages s.kept;
    bytes = let more = more_bytes (handed k.name b) pages in let was = s.bytes in let now = h.1 in omega arith;
    tags = let more = more_tags (handed k.name b) pages in let was = s.tags in let now = h.2 in omega arith;
  };
  bytes = h.1;
  tags = h.2;
  base = base;
}

-- this was taken away
pub drop_session : (old new : Session) (name : List ℕ) (at : ℕ) → at ≡ place_of (names_in old) name → at < length old.kept.items
    → new.kept.items ≡ remove old.kept.items at → new.sums ≡ old.sums → new.base ≡ old.base → HasDropped name old new
drop_session old new name at is within kept sums base = record {
  stands = λ pages s. record {
    kept =
        let now : new.kept.items ≡ remove old.kept.items (place_of (names_kept old.kept.items) name) = kept ∙ ap (remove old.kept.items) is in
        subst (λ ks. AreKept ks (drop_in name pages)) (sym now)
        (drop_at old.kept.items pages name s.kept (subst (λ n. n < length old.kept.items) is within));
    bytes = let less = fewer_bytes name pages in let was = s.bytes in let same = ap (λ x. x.bytes) sums in omega arith;
    tags = let less = fewer_tags name pages in let was = s.tags in let same = ap (λ x. x.tags) sums in omega arith;
  };
  sums = sums;
  base = base;
}

-- nothing was there to take away
pub drop_nothing : (s : Session) (name : List ℕ) (at : ℕ) → at ≡ place_of (names_in s) name → at ≡ length s.kept.items → HasDropped name s s
drop_nothing s name at is end = record {
  stands = λ pages h. subst (λ ps. StandsFor s ps) (sym (drop_none s.kept.items pages name h.kept (sym is ∙ end))) h;
  sums = refl;
  base = refl;
}

-- the pages for which a session stands break no size rule

small_rule : (v u : Bool) → v ≡ false → u ≡ false → (if v then Some S1 else (if u then Some S2 else None)) ≡ None
small_rule false false e f = refl
small_rule true u e f = absurd cc
small_rule false true e f = absurd cc

pub small : (s : Session) (pages : List Handed) → StandsFor s pages → set_rule (bytes_of pages) ≡ None
small s pages h =
    let bytes = held_bytes s.sums.bytes s.sums.tags s.within in
    let tags = held_tags s.sums.bytes s.sums.tags s.within in
    let few : bytes_in (bytes_of pages) ≤ MOST_BYTES = let was = h.bytes in omega arith in
    let less : all_tags_in (bytes_of pages) ≤ MOST_TAGS = let was = h.tags in omega arith in
    small_rule (nat_lt MOST_BYTES (bytes_in (bytes_of pages))) (nat_lt MOST_TAGS (all_tags_in (bytes_of pages)))
    (le-ltb MOST_BYTES (bytes_in (bytes_of pages)) few) (le-ltb MOST_TAGS (all_tags_in (bytes_of pages)) less)

-- what the kept pages come to is what those come to for which the session stands
pub all_stand : (s : Session) (base : List ℕ) (ks : List Kept) (r : Result Outcome NoMemory) → base ≡ s.base → ks ≡ s.kept.items
    → IfOk r (λ o. (pages : List Handed) → AreKept ks pages → set_rule (bytes_of pages) ≡ None → PagesComeTo base (names_of pages) (bytes_of pages) o)
    → IfOk r (λ o. (pages : List Handed) → StandsFor s pages → PagesComeTo s.base (names_of pages) (bytes_of pages) o)
all_stand s base ks (Ok o) b k says = λ pages h.
    subst (λ x. PagesComeTo x (names_of pages) (bytes_of pages) o) b (says pages (subst (λ xs. AreKept xs pages) (sym k) h.kept) (small s pages h))
all_stand s base ks (Err e) b k says = tt
