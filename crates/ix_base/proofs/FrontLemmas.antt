-- Lists that grow part by part, up to want of memory.
use Rattle.std.proofs.Common.{◌≡◌, ◌∙◌, ◌++◌, List, [], length, take, drop, ap, sym, append_assoc, append-nil, take-append-drop}
use Rattle.std.proofs.Math.Seq.{take-append_seam}
use Rattle.std.specs.Prelude.{Result, Ok, Err}
use Rattle.std.specs.Result.{OnErr}
use Rattle.ix_base.specs.Fronts.{AppendsFront}
use Rattle.ix_base.specs.declared.NoMemory.{NoMemory}

-- so much of all was appended, and this is left
pub record Grows {X : Type 0} (old now left all : List X) : Type 0 where
  pub done : List X
  pub is : now ≡ old ++ done
  pub whole : done ++ left ≡ all

pub grows-start : {X : Type 0} (old left all : List X) → left ≡ all → Grows old old left all
grows-start old left all e = record { done = []; is = sym (append-nil old); whole = e }

pub grows-more : {X : Type 0} (old now new part left rest all : List X) → Grows old now left all → left ≡ part ++ rest → new ≡ now ++ part → Grows old new rest all
grows-more old now new part left rest all g l n = record {
  done = g.done ++ part;
  is = n ∙ ap (λ x. x ++ part) g.is ∙ append_assoc old g.done part;
  whole = append_assoc g.done part rest ∙ ap (λ x. g.done ++ x) (sym l) ∙ g.whole;
}

pub grows-end : {X : Type 0} (old now left all : List X) → Grows old now left all → left ≡ [] → now ≡ old ++ all
grows-end old now left all g e = g.is ∙ ap (λ x. old ++ x) (sym (append-nil g.done) ∙ ap (λ x. g.done ++ x) (sym e) ∙ g.whole)

-- a front of what is left is a front of all
front-of : {X : Type 0} (old now done left all : List X) → now ≡ old ++ done → done ++ left ≡ all → AppendsFront all old now
front-of old now done left all i w = (length done, i ∙ ap (λ x. old ++ x) (sym (take-append_seam done left) ∙ ap (take (length done)) w))

pub grows-front : {X : Type 0} (old now new part left rest all : List X) → Grows old now left all → left ≡ part ++ rest → AppendsFront part now new → AppendsFront all old new
grows-front old now new part left rest all g l f =
    let h : Grows old new (drop f.0 part ++ rest) all =
    grows-more old now new (take f.0 part) left (drop f.0 part ++ rest) all g
    (l ∙ ap (λ x. x ++ rest) (sym (take-append-drop f.0 part)) ∙ append_assoc (take f.0 part) (drop f.0 part) rest) f.1 in
    front-of old new h.done (drop f.0 part ++ rest) all h.is h.whole

-- nothing is a front
pub front-none : {X : Type 0} (all old new : List X) → new ≡ old → AppendsFront all old new
front-none all old new e = (0, e ∙ sym (append-nil old))

-- the front of the first part is a front of both
pub front-first : {X : Type 0} (old new part rest : List X) → AppendsFront part old new → AppendsFront (part ++ rest) old new
front-first old new part rest f = grows-front old old new part (part ++ rest) rest (part ++ rest) (grows-start old (part ++ rest) (part ++ rest) (λ i. part ++ rest)) (λ i. part ++ rest) f

-- behind the whole first part, a front of the second is a front of both
pub front-second : {X : Type 0} (old now new part rest : List X) → now ≡ old ++ part → AppendsFront rest now new → AppendsFront (part ++ rest) old new
front-second old now new part rest n f =
    grows-front old now new rest (rest ++ []) [] (part ++ rest)
    (record { done = part; is = n; whole = ap (λ x. part ++ x) (append-nil rest) }) (λ i. rest ++ []) f

pub on-err : {P : Type 0} (r : Result (Unit {0}) NoMemory) → P → OnErr r P
on-err (Ok u) p = tt
on-err (Err e) p = p
