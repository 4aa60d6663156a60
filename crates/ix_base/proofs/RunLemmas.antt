-- Texts that are written run by run.
use Rattle.std.proofs.Common.{◌≡◌, ◌∙◌, ap, sym, ℕ, ◌+◌, ◌-◌, ◌<◌, ◌≤◌, List, [], ◌∷◌, ◌++◌, length, take, drop, get_or, Option, Some, None, option_map, refl, ⊎_elim, append_assoc, append-nil, get_or-drop, length-drop, drop_of_length-le, arith}
use Rattle.std.specs.List.{slice_range}
use Rattle.std.specs.Str.{IsUtf8, IsCharBoundary}
use Rattle.std.proofs.lemmas.Bool.{cases_lt}
use Rattle.std.proofs.lemmas.List.{drop_more, take_more}
use Rattle.std.proofs.lemmas.List.Folds.{drop_split}
use Rattle.std.proofs.lemmas.Str.{encode_ascii, IsCharBoundary-after_ascii}
use Rattle.ix_base.specs.Escapes.{put, escaped}
use Rattle.ix_base.proofs.EscapeLemmas.{IsLow, HasFront, te_low, ae_low, front-start, front-next, front-end}
use Rattle.ix_base.specs.Manners.{ref_in}
use Rattle.ix_base.specs.declared.escape.Manner.{Manner}
use Rattle.ix_base.specs.declared.escape.Manner.TheVariants as manner

pub ref-low : (m : Manner) → IsLow (ref_in m)
ref-low manner.Text = te_low
ref-low manner.Value = ae_low

abbrev whole : Option (List ℕ) → Option (List ℕ)
whole = option_map (λ r. 38 ∷ r)

-- a text stands written up to one place, and from there to another all bytes are written as themselves
pub record HasRun (table : ℕ → Option (List ℕ)) (old new text : List ℕ) (from at : ℕ) : Type 0 where
  pub front : HasFront table old new text (drop from text)
  pub run : escaped table (drop from text) ≡ slice_range text from at ++ escaped table (drop at text)
  pub ordered : from ≤ at
  pub cut : 0 < from → IsCharBoundary text from

pub run-start : (table : ℕ → Option (List ℕ)) (old text : List ℕ) → HasRun table old old text 0 0
run-start table old text = record {
  front = front-start table old text text refl;
  run = refl;
  ordered = omega arith;
  cut = λ h. absurd (omega arith);
}

slice-more : (text : List ℕ) (from at : ℕ) → from ≤ at → at < length text → slice_range text from (at + 1) ≡ slice_range text from at ++ get_or text at 0 ∷ []
slice-more text from at o l =
    let n : at + 1 - from ≡ (at - from) + 1 = omega arith in
    let place : from + (at - from) ≡ at = omega arith in
    let inside : at - from < length (drop from text) = omega (arith, length-drop from text) in
    let last : get_or (drop from text) (at - from) 0 ≡ get_or text at 0 = get_or-drop from text (at - from) 0 ∙ ap (λ k. get_or text k 0) place in
    ap (λ k. take k (drop from text)) n ∙ take_more (drop from text) (at - from) 0 inside ∙ ap (λ b. slice_range text from at ++ b ∷ []) last

-- a byte that is written as itself
pub run-same : (table : ℕ → Option (List ℕ)) (old new text : List ℕ) (from at b : ℕ) → HasRun table old new text from at → at < length text → b ≡ get_or text at 0 → None ≡ whole (table b)
    → HasRun table old new text from (at + 1)
run-same table old new text from at b had l e none =
    let here : escaped table (drop at text) ≡ b ∷ escaped table (drop (at + 1) text) =
    ap (escaped table) (drop_more text at 0 l ∙ ap (λ x. x ∷ drop (at + 1) text) (sym e)) ∙ itself (table b) b (escaped table (drop (at + 1) text)) none in record {
      front = had.front;
      run = had.run ∙ ap (λ x. slice_range text from at ++ x) here ∙ sym (append_assoc (slice_range text from at) (b ∷ []) (escaped table (drop (at + 1) text)))
          ∙ ap (λ x. x ++ escaped table (drop (at + 1) text)) (sym (slice-more text from at had.ordered l ∙ ap (λ x. slice_range text from at ++ x ∷ []) (sym e)));
      ordered = let o = had.ordered in omega arith;
      cut = had.cut;
    }
  where
    itself : (r : Option (List ℕ)) (c : ℕ) (more : List ℕ) → None ≡ whole r → put r c more ≡ c ∷ more
    itself None c more h = refl
    itself (Some r) c more h = absurd (cc)

-- the run is appended
pub front-run : (table : ℕ → Option (List ℕ)) (old new more text : List ℕ) (from at : ℕ) → HasRun table old new text from at → more ≡ new ++ slice_range text from at → HasFront table old more text (drop at text)
front-run table old new more text from at had e =
    let run = slice_range text from at in record {
      done = had.front.done ++ run;
      is = e ∙ ap (λ x. x ++ run) had.front.is ∙ append_assoc old had.front.done run;
      all = append_assoc had.front.done run (escaped table (drop at text)) ∙ ap (λ x. had.front.done ++ x) (sym had.run) ∙ had.front.all;
    }

-- behind it, the reference of the next byte
pub run-over : (table : ℕ → Option (List ℕ)) → IsLow table → (old new more most text r : List ℕ) (from at b : ℕ) → HasRun table old new text from at → at < length text → IsUtf8 text → b ≡ get_or text at 0
    → Some r ≡ whole (table b) → more ≡ new ++ slice_range text from at → most ≡ more ++ r → HasRun table old most text (at + 1) (at + 1)
run-over table low old new more most text r from at b had l u e some m k =
    let small : b < 128 = ⊎_elim (λ h. h) (λ h. absurd (not-none (table b) (low.high b h) some)) (cases_lt b 128) in
    let nothing : at + 1 - (at + 1) ≡ 0 = omega arith in
    let first = drop_more text at 0 l ∙ ap (λ x. x ∷ drop (at + 1) text) (sym e) ∙ ap (λ x. x ++ drop (at + 1) text) (sym (encode_ascii b small)) in record {
      front = front-next table low old more most text (drop at text) (drop (at + 1) text) b (Some r) (front-run table old new more text from at had m) first some k;
      run = ap (λ n. take n (drop (at + 1) text) ++ escaped table (drop (at + 1) text)) (sym nothing);
      ordered = omega arith;
      cut = λ h. IsCharBoundary-after_ascii text at u l (omega arith);
    }
  where
    not-none : (o : Option (List ℕ)) → o ≡ None → Some r ≡ whole o → ⊥
    not-none None n h = cc
    not-none (Some x) n h = cc

-- the last run is appended
pub run-end : (table : ℕ → Option (List ℕ)) (old new most text : List ℕ) (from at : ℕ) → HasRun table old new text from at → length text ≤ at → most ≡ new ++ drop from text → most ≡ old ++ escaped table text
run-end table old new most text from at had l e =
    let end : drop at text ≡ [] = drop_of_length-le text l in
    let all : drop from text ≡ slice_range text from at = drop_split text from at had.ordered ∙ ap (λ x. slice_range text from at ++ x) end ∙ append-nil (slice_range text from at) in
    front-end table old most text (drop at text) (front-run table old new most text from at had (e ∙ ap (λ x. new ++ x) all)) end
