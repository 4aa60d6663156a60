-- What the calls of a sink make of the target begun last.
use Rattle.std.proofs.Common.{◌≡◌, ◌∙◌, ap, sym, ℕ, List, [], ◌∷◌, ◌++◌, length, take, Option, Some, None, IfSome, true, false, option_map, refl, inr, suc, ◌+◌, ◌<◌, drop, get_or, map, append_assoc, add-one}
use Rattle.std.proofs.Math.Seq.{take-length, take-suc, drop-cons}
use Rattle.std.proofs.lemmas.List.{append-nil, map-append, take-append-drop}
use Rattle.ixds_run.specs.DueTables.{ready}
use Rattle.ixds_run.specs.declared.due.DueTarget.{DueTarget}
use Rattle.ix_base.specs.Outside.{Begun, begun, last_grown, last_finished, GainsFront}
use Rattle.page_verdicts.specs.Gains.{GainsAll, GainsCut, GainsPart, Words}

-- a target with these bytes, unfinished and finished
abbrev pub unfinished : List ℕ → List ℕ → List ℕ → Begun
unfinished dir name bytes = record { dir = dir; name = name; bytes = bytes; finished = false }

abbrev pub finished_with : List ℕ → List ℕ → List ℕ → Begun
finished_with dir name bytes = record { dir = dir; name = name; bytes = bytes; finished = true }

grown_last : (p : List ℕ) (t : Begun) (ts : List Begun) → last_grown p (ts ++ t ∷ []) ≡ ts ++ (record t { bytes = t.bytes ++ p }) ∷ []
grown_last p t [] = refl
grown_last p t (u ∷ []) = refl
grown_last p t (u ∷ v ∷ ts) = ap (λ x. u ∷ x) (grown_last p t (v ∷ ts))

finished_last : (t : Begun) (ts : List Begun) → last_finished (ts ++ t ∷ []) ≡ ts ++ (record t { finished = true }) ∷ []
finished_last t [] = refl
finished_last t (u ∷ []) = refl
finished_last t (u ∷ v ∷ ts) = ap (λ x. u ∷ x) (finished_last t (v ∷ ts))

grown_begun : (dir name p : List ℕ) (o : Option (List Begun)) → option_map (last_grown p) (option_map (λ ts. ts ++ begun dir name ∷ []) o) ≡ option_map (λ ts. ts ++ unfinished dir name p ∷ []) o
grown_begun dir name p None = refl
grown_begun dir name p (Some ts) = ap Some (grown_last p (begun dir name) ts)

finished_is : (dir name p : List ℕ) (o : Option (List Begun)) → option_map last_finished (option_map (λ ts. ts ++ unfinished dir name p ∷ []) o) ≡ option_map (λ ts. ts ++ finished_with dir name p ∷ []) o
finished_is dir name p None = refl
finished_is dir name p (Some ts) = ap Some (finished_last (unfinished dir name p) ts)

-- the write behind a begin failed
pub write_failed : (dir name text : List ℕ) (old b new : Option (List Begun)) → b ≡ option_map (λ ts. ts ++ begun dir name ∷ []) old → GainsFront text b new
    → GainsCut (finished_with dir name text) old new
write_failed dir name text old b new at gains =
    let p = take gains.0 text in
    (unfinished dir name p ∷ [], inr (gains.0, refl), gains.1 ∙ ap (option_map (last_grown p)) at ∙ grown_begun dir name p old)

-- the write behind a begin was done
pub written : (dir name text : List ℕ) (old b new : Option (List Begun)) → b ≡ option_map (λ ts. ts ++ begun dir name ∷ []) old → new ≡ option_map (last_grown text) b → new ≡ option_map (λ ts. ts ++ unfinished dir name text ∷ []) old
written dir name text old b new at grown = grown ∙ ap (option_map (last_grown text)) at ∙ grown_begun dir name text old

pub finish_done : (dir name text : List ℕ) (old w new : Option (List Begun)) → w ≡ option_map (λ ts. ts ++ unfinished dir name text ∷ []) old → new ≡ option_map last_finished w → GainsAll (finished_with dir name text ∷ []) old new
finish_done dir name text old w new at done = done ∙ ap (option_map last_finished) at ∙ finished_is dir name text old

pub finish_failed : (dir name text : List ℕ) (old w new : Option (List Begun)) → w ≡ option_map (λ ts. ts ++ unfinished dir name text ∷ []) old → new ≡ w
    → GainsCut (finished_with dir name text) old new
finish_failed dir name text old w new at same =
    (unfinished dir name text ∷ [], inr (length text, ap (λ t. unfinished dir name t ∷ []) (sym (take-length text))), same ∙ at)

pub gains_none : (o : Option (List Begun)) → GainsAll [] o o
gains_none None = refl
gains_none (Some ts) = ap Some (sym (append-nil ts))

-- targets were added, and then others
pub gains_both : (xs ys : List Begun) (old mid new : Option (List Begun)) → GainsAll xs old mid → GainsAll ys mid new → GainsAll (xs ++ ys) old new
gains_both xs ys None mid new a b = b ∙ ap (option_map (λ ts. ts ++ ys)) a
gains_both xs ys (Some ts) mid new a b = b ∙ ap (option_map (λ us. us ++ ys)) a ∙ ap Some (append_assoc ts xs ys)

-- what is ready of the targets up to this one, of it, and of those behind it
pub ready_up_to : (dir : List ℕ) (ts : List DueTarget) (n : ℕ) (t : DueTarget) → n < length ts → t ≡ get_or ts n t
    → map (ready dir) ts ≡ map (ready dir) (take n ts) ++ ready dir t ∷ map (ready dir) (drop (suc n) ts)
ready_up_to dir ts n t h e =
    let split : take n ts ++ t ∷ drop (suc n) ts ≡ ts = ap (λ r. take n ts ++ r) ((λ i. e i ∷ drop (suc n) ts) ∙ sym (drop-cons ts n t h)) ∙ take-append-drop n ts in
    ap (map (ready dir)) (sym split) ∙ map-append (ready dir) (take n ts) (t ∷ drop (suc n) ts)

pub ready_more : (dir : List ℕ) (ts : List DueTarget) (n : ℕ) (t : DueTarget) → n < length ts → t ≡ get_or ts n t
    → map (ready dir) (take (n + 1) ts) ≡ map (ready dir) (take n ts) ++ ready dir t ∷ []
ready_more dir ts n t h e =
    let more : take (n + 1) ts ≡ take n ts ++ t ∷ [] = ap (λ k. take k ts) (add-one n) ∙ take-suc ts n t h ∙ (λ i. take n ts ++ sym e i ∷ []) in
    ap (map (ready dir)) more ∙ map-append (ready dir) (take n ts) (t ∷ [])

-- targets were added whole, and then nothing of the next or a front
pub gains_part : (dir : List ℕ) (ts : List DueTarget) (n : ℕ) (t : DueTarget) (old mid new : Option (List Begun)) (asked : Words)
    → n < length ts → t ≡ get_or ts n t → GainsAll (map (ready dir) (take n ts)) old mid → GainsCut (ready dir t) mid new
    → IfSome asked.told (λ words. words ≡ (dir, t.name)) → asked.len ≡ length dir + length t.name → GainsPart (map (ready dir) ts) old new asked
gains_part dir ts n t old mid new asked h e before cut at len = record {
  whole = map (ready dir) (take n ts);
  target = ready dir t;
  behind = map (ready dir) (drop (suc n) ts);
  splits = ready_up_to dir ts n t h e;
  part = cut.0;
  cut = cut.1;
  gained = gains_both (map (ready dir) (take n ts)) cut.0 old mid new before cut.2;
  asked_is = at;
  asked_len = len;
}
