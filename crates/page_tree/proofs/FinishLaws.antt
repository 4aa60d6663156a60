-- What the end of a page tells of what was built.
use Rattle.std.proofs.Common.{◌≡◌, ℕ, Bool, true, false, List, [], ◌∷◌, ◌++◌, length, Option, Some, None, is_none, Result, Ok, Err, refl, sym, ap, ◌∙◌, append-nil, option_and_then}
use Rattle.ix_base.specs.Trees.{Tree}
use Rattle.ix_base.specs.declared.rule.Rule.{Rule}
use Rattle.page_text.specs.Characters.{chars, begun, stop}
use Rattle.page_text.specs.declared.TextFault.{TextFault}
use Rattle.page_text.proofs.Readings.{chars-begun}
use Rattle.page_tree.specs.MachineSteps.{judged_by, behind_by, act_past, acted, acted_on, Leads, Breaks, ended_by, end_of}
use Rattle.page_tree.specs.Break.{Outline, Fault, broken_by, outline_behind, walk_past, walk_on, walked, verdict, w}
use Rattle.page_constructs.specs.Constructs.{Construct, Byte, spread, cut, finished}
use Rattle.page_tree.specs.Machine.{State, begin, outline_of, moved, unless_broken, steps, whole}
use Rattle.page_constructs.specs.Meanings.{meant}
use Rattle.page_tree.specs.Page.{page}
use Rattle.page_constructs.specs.Tokens.{Token}
use Rattle.page_tree.proofs.Building.{page_of_built}
use Rattle.page_tree.proofs.PageLaws.{read-mean, cut-ends}
use Rattle.page_tree.proofs.Walking.{AllMeant, outline-moved}

abbrev pub outlined_result : Result State Fault → Result Outline Fault
outlined_result (Ok s) = Ok (outline_of s)
outlined_result (Err f) = Err f

-- the walk goes as the machine acts
pub walked-acted : (n : ℕ) (cs : List Construct) (s : State) → walked n (outline_of s) cs ≡ outlined_result (acted n s cs)
unfolding walked acted
walked-acted n [] s = refl
walked-acted n (c ∷ cs) s = by_meaning (λ t. walked-acted n cs (moved s t)) (meant c) where
  by_rule : (t : Token) → walked n (outline_of (moved s t)) cs ≡ outlined_result (acted n (moved s t) cs) → (o : Option Rule) → broken_by n (outline_of s) t ≡ o
      → walk_past o c (walked n (outline_behind (outline_of s) t) cs) ≡ outlined_result (act_past o c (acted n (moved s t) cs))
  by_rule t ih None e = ap (λ p. walked n p cs) (sym (outline-moved n s.frames s.text s.root s.doctyped t e)) ∙ ih
  by_rule t ih (Some r) e = refl

  by_meaning : ((t : Token) → walked n (outline_of (moved s t)) cs ≡ outlined_result (acted n (moved s t) cs)) → (m : Option Token)
      → walk_on n (outline_of s) c (λ p. walked n p cs) m ≡ outlined_result (act_past (judged_by n s m) c (acted n (behind_by s m) cs))
  by_meaning ih None = refl
  by_meaning ih (Some t) = by_rule t (ih t) (broken_by n (outline_of s) t) refl

ended-verdict : (size : ℕ) (z : Option TextFault) (rest : List Byte) (r : Result State Fault) → verdict size z rest (outlined_result r) ≡ ended_by size z rest r
ended-verdict size z rest (Ok s) = refl
ended-verdict size z rest (Err f) = refl

module _ (b : List ℕ) (n : ℕ) (s : State) (first : Bool) (us : List Byte) (leads : Leads false n begin true (spread (begun b)) s first us) where
  cut-begun : (e : Bool) → finished e true (spread (chars b)) ≡ finished e true (spread (begun b) ++ [])
  cut-begun e = ap (finished e true) (ap spread (chars-begun b) ∙ sym (append-nil (spread (begun b))))

  acts : (e : Bool) → acted n begin (finished e true (spread (chars b))).constructs ≡ acted_on n s e first us
  acts e = ap (λ c. acted n begin c.constructs) (cut-begun e) ∙ leads.acts e [] tt ∙ ap (acted_on n s e first) (append-nil us)

  rests : (e : Bool) → (finished e true (spread (chars b))).rest ≡ (finished e first us).rest
  rests e = ap (λ c. c.rest) (cut-begun e) ∙ leads.rests e [] tt ∙ ap (λ x. (finished e first x).rest) (append-nil us)

  -- the break of the page is what the bytes that are left tell
  pub w-end : w b n ≡ end_of n s first us (stop b) (length b)
  w-end =
      ap (verdict (length b) (stop b) (cut b).rest) (walked-acted n (cut b).constructs begin)
      ∙ ended-verdict (length b) (stop b) (cut b).rest (acted n begin (cut b).constructs)
      ∙ (λ i. ended_by (length b) (stop b) (rests (is_none (stop b)) i) (acts (is_none (stop b)) i))

-- a page that has a break among the constructs that were built in
pub w-breaks : (b : List ℕ) (n : ℕ) (f : Fault) → Breaks false n begin true (spread (begun b)) f → w b n ≡ Some f
w-breaks b n f h =
    ap (verdict (length b) (stop b) (cut b).rest) (walked-acted n (cut b).constructs begin)
    ∙ ended-verdict (length b) (stop b) (cut b).rest (acted n begin (cut b).constructs)
    ∙ ap (ended_by (length b) (stop b) (cut b).rest)
    (ap (λ us. acted_on n begin (is_none (stop b)) true us) (ap spread (chars-begun b) ∙ sym (append-nil (spread (begun b)))) ∙ h (is_none (stop b)) [] tt)

-- the machine's steps
record Steps (n : ℕ) (s : State) (cs : List Construct) (t : State) : Type 0 where
  tokens : List Token
  meant : AllMeant cs tokens
  steps : steps n s tokens ≡ Some t

acted-steps : (n : ℕ) (cs : List Construct) (s t : State) → acted n s cs ≡ Ok t → Steps n s cs t
unfolding acted
acted-steps n [] s t e = record { tokens = []; meant = tt; steps = (let z : s ≡ t = cc in ap Some z) }
acted-steps n (c ∷ cs) s t e = by_meaning (λ u q. acted-steps n cs (moved s u) t q) (meant c) refl e where
  by_rule : (u : Token) → meant c ≡ Some u → ((q : acted n (moved s u) cs ≡ Ok t) → Steps n (moved s u) cs t) → (o : Option Rule) → broken_by n (outline_of s) u ≡ o
      → act_past o c (acted n (moved s u) cs) ≡ Ok t → Steps n s (c ∷ cs) t
  by_rule u m ih (Some r) b q = absurd (cc)
  by_rule u m ih None b q =
      let rest = ih q in
      record {
        tokens = u ∷ rest.tokens;
        meant = (m, rest.meant);
        steps = ap (λ r. option_and_then (λ x. steps n x rest.tokens) (unless_broken r (moved s u))) b ∙ rest.steps;
      }

  by_meaning : ((u : Token) (q : acted n (moved s u) cs ≡ Ok t) → Steps n (moved s u) cs t) → (m : Option Token) → meant c ≡ m → act_past (judged_by n s m) c (acted n (behind_by s m) cs) ≡ Ok t → Steps n s (c ∷ cs) t
  by_meaning ih None m q = absurd (cc)
  by_meaning ih (Some u) m q = by_rule u m (ih u) (broken_by n (outline_of s) u) refl q

-- a page whose constructs are all built in, of which none is left open
pub page-acted : (b : List ℕ) (n : ℕ) (t : State) (tree : Tree) → stop b ≡ None → (cut b).rest ≡ [] → acted n begin (cut b).constructs ≡ Ok t → whole t.frames t.root ≡ Some tree → page b n tree
page-acted b n t tree good rest e last =
    let s = acted-steps n (cut b).constructs begin t e in
    record {
      good = good;
      whole = rest;
      tokens = s.tokens;
      mean = read-mean (cut b).constructs s.tokens (cut-ends _ (is_none (stop b)) true _) s.meant;
      spell = page_of_built n s.tokens tree (ap (option_and_then (λ x. whole x.frames x.root)) s.steps ∙ last);
    }

pub page-end : (b : List ℕ) (n : ℕ) (s : State) (first : Bool) (us : List Byte) → Leads false n begin true (spread (begun b)) s first us
    → (t : State) (tree : Tree) → stop b ≡ None → (finished true first us).rest ≡ [] → acted_on n s true first us ≡ Ok t → whole t.frames t.root ≡ Some tree → page b n tree
page-end b n s first us leads t tree good rest e last =
    let ended : is_none (stop b) ≡ true = ap is_none good in
    page-acted b n t tree good
    (ap (λ x. (finished x true (spread (chars b))).rest) ended ∙ rests b n s first us leads true ∙ rest)
    (ap (λ x. acted n begin (finished x true (spread (chars b))).constructs) ended ∙ acts b n s first us leads true ∙ e) last
