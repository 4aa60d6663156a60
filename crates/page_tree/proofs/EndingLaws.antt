-- What is left at the end of a page.
use Rattle.std.proofs.Common.{◌≡◌, ℕ, Bool, true, false, List, [], ◌∷◌, length, drop, Option, Some, None, is_none, Ok, Err, refl, sym, ap, ◌∙◌, subst, append-nil}
use Rattle.page_text.specs.Model.{answer}
use Rattle.page_text.specs.declared.TextFault.{TextFault}
use Rattle.page_text.specs.declared.TextFault.TheVariants.{BadBytes, BadChar, NoMemory}
use Rattle.ix_base.specs.Trees.{Tree}
use Rattle.page_tree.specs.MachineSteps.{acted_on, acted, MayFollow, Leads, Breaks, ended_by, end_of}
use Rattle.page_tree.specs.Break.{Fault, behind_constructs, ended}
use Rattle.page_constructs.specs.Constructs.{Byte, values, first_offset, whole_size, cut_at, cut_from, finished}
use Rattle.page_tree.specs.Machine.{Frame, State, outline_of, whole}
use Rattle.page_tree.specs.TextPlaces.{IsPlaced}
use Rattle.page_tree.specs.declared.pending.Places.{Places}
use Rattle.page_tree.proofs.PlacingLaws.{says-behind}
use Rattle.page_tree.proofs.Spelled.{st}

pub may-end : (z : Option TextFault) → MayFollow (is_none z) (is_none z) []
may-end None = (refl, refl)
may-end (Some f) = tt

-- nothing is cut from what isn't whole
pub finished-none : (e first : Bool) (us : List Byte) → whole_size e first (values us) ≡ None → finished e first us ≡ record { constructs = []; rest = us }
unfolding cut_from
finished-none e first [] h = refl
finished-none e first (u ∷ us) h = ap (λ o. cut_at o first (u ∷ us) (cut_from (length us) e false)) h

module _ (z : Option TextFault) (closed : Bool) (n : ℕ) (s : State) (first : Bool) (us : List Byte) (size : ℕ) (is : closed ≡ is_none z) where
  pub end-breaks : (f : Fault) → Breaks closed n s first us f → Some f ≡ end_of n s first us z size
  end-breaks f b =
      let at : Breaks (is_none z) n s first us f = subst (λ c. Breaks c n s first us f) is b in
      sym (ap (ended_by size z (finished (is_none z) first us).rest) (ap (acted_on n s (is_none z) first) (sym (append-nil us)) ∙ at (is_none z) [] (may-end z)))

  module _ (t : State) (next : Bool) (vs : List Byte) (leads : Leads closed n s first us t next vs) (left : whole_size closed next (values vs) ≡ None) where
    nothing : finished (is_none z) next vs ≡ record { constructs = []; rest = vs }
    nothing = finished-none (is_none z) next vs (ap (λ c. whole_size c next (values vs)) (sym is) ∙ left)

    at : Leads (is_none z) n s first us t next vs
    at = subst (λ c. Leads c n s first us t next vs) is leads

    pub end-acts : acted_on n s (is_none z) first us ≡ Ok t
    unfolding acted
    end-acts =
        ap (acted_on n s (is_none z) first) (sym (append-nil us)) ∙ at.acts (is_none z) [] (may-end z) ∙ ap (acted_on n t (is_none z) next) (append-nil vs)
        ∙ ap (λ c. acted n t c.constructs) nothing

    pub end-rests : (finished (is_none z) first us).rest ≡ vs
    end-rests =
        ap (λ x. (finished (is_none z) first x).rest) (sym (append-nil us)) ∙ at.rests (is_none z) [] (may-end z) ∙ ap (λ x. (finished (is_none z) next x).rest) (append-nil vs)
        ∙ ap (λ c. c.rest) nothing

    pub end-leads : behind_constructs size z vs (outline_of t) ≡ end_of n s first us z size
    end-leads = sym (λ i. ended_by size z (end-rests i) (end-acts i))

pub answer-none : (z : Option TextFault) → Rattle.std.specs.Result.is_ok (answer z) ≡ is_none z
answer-none None = refl
answer-none (Some f) = refl

-- the answer tells the fault that it knows of, or that there is none
pub answer-good : (z : Option TextFault) (u : Unit) → answer z ≡ Ok u → z ≡ None
answer-good None u e = refl
answer-good (Some f) u e = absurd (cc)

pub answer-fault : (z : Option TextFault) (f : TextFault) → answer z ≡ Err f → z ≡ Some f
answer-fault None f e = absurd (cc)
answer-fault (Some g) f e = cc

-- nothing is broken at the end
pub record Ends (z : Option TextFault) (us : List Byte) (s : State) : Type 0 where
  pub good : z ≡ None
  pub none_left : us ≡ []
  pub whole : whole s.frames s.root ≡ s.root

ended-none : (size : ℕ) (fs : List Frame) (text : List ℕ) (root : Option Tree) (d : Bool) → ended size (outline_of (st fs text root d)) ≡ None → whole fs root ≡ root
ended-none size [] text root d e = refl
ended-none size (f ∷ fs) text root d e = absurd (cc)

pub behind-none : (size : ℕ) (z : Option TextFault) (us : List Byte) (s : State) → behind_constructs size z us (outline_of s) ≡ None → Ends z us s
behind-none size (Some (BadBytes at)) us s e = absurd (cc)
behind-none size (Some (BadChar at)) us s e = absurd (cc)
behind-none size (Some NoMemory) us s e = absurd (cc)
behind-none size None (u ∷ us) s e = absurd (cc)
behind-none size None [] s e = record { good = refl; none_left = refl; whole = ended-none size s.frames s.text s.root s.doctyped e }

module _ (z : Option TextFault) (closed : Bool) (n : ℕ) (s : State) (first : Bool) (size : ℕ) (is : closed ≡ is_none z) (text : List ℕ) (p : Places) (us : List Byte) (placed : IsPlaced text p us)
    (k : ℕ) (t : State) (next : Bool) (leads : Leads closed n s first us t next (drop k us)) (whole_ : whole_size closed next (drop k text) ≡ None)
    (rest : Option ℕ) (at : first_offset (drop k us) ≡ rest) where
  left : whole_size closed next (values (drop k us)) ≡ None
  left = ap (whole_size closed next) (says-behind text p us k placed) ∙ whole_

  -- what is judged of the bytes that are left is the break of the whole
  pub judged-end : (r : Option Fault) → ((w : List Byte) → first_offset w ≡ rest → r ≡ behind_constructs size z w (outline_of t)) → r ≡ end_of n s first us z size
  judged-end r f = f (drop k us) at ∙ end-leads z closed n s first us size is t next (drop k us) leads left

  pub root-end : ((w : List Byte) → first_offset w ≡ rest → None ≡ behind_constructs size z w (outline_of t))
      → (z ≡ None) × ((finished true first us).rest ≡ []) × (acted_on n s true first us ≡ Ok t) × (whole t.frames t.root ≡ t.root)
  root-end f =
      let e = behind-none size z (drop k us) t (sym (f (drop k us) at)) in
      let g : is_none z ≡ true = ap is_none e.good in (
        e.good,
        ap (λ b. (finished b first us).rest) (sym g) ∙ end-rests z closed n s first us size is t next (drop k us) leads left ∙ e.none_left,
        ap (λ b. acted_on n s b first us) (sym g) ∙ end-acts z closed n s first us size is t next (drop k us) leads left,
        e.whole,
      )
