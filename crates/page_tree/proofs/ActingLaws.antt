-- How bytes lead from one state to another, construct by construct.
use Rattle.std.proofs.Common.{◌≡◌, ℕ, ◌&&◌, Bool, true, false, List, ◌++◌, length, drop, Option, Some, None, refl, sym, ap, ◌∙◌, subst, arith, append_assoc, append-nil}
use Rattle.std.proofs.lemmas.List.{drop-append-le, map-append}
use Rattle.ix_base.specs.declared.rule.Rule.{Rule}
use Rattle.page_tree.specs.MachineSteps.{judged, state_behind, act_past, acted, acted_on, MayFollow, Leads, Breaks}
use Rattle.page_tree.specs.Break.{Fault, fault}
use Rattle.page_constructs.specs.Constructs.{Byte, values, size, is_run, settled_or, whole_size, kind_of, construct, offset_of, finished}
use Rattle.page_tree.specs.Machine.{State}
use Rattle.page_tree.specs.Spellings.{put_first}
use Rattle.page_constructs.proofs.CutLaws.{size_by-takes, size-append}
use Rattle.page_tree.proofs.PieceLaws.{length-values, finished-step, same-construct}

-- a construct that is whole comes first, whatever may follow
pub whole-follow : (closed ended first : Bool) (us more : List Byte) (k : ℕ) → MayFollow closed ended more → whole_size closed first (values us) ≡ Some k
    → finished ended first (us ++ more) ≡ put_first (construct first k us) (finished ended false (drop k us ++ more))
whole-follow true ended first us more k m e =
    subst (λ x. finished x first (us ++ more) ≡ put_first (construct first k us) (finished x false (drop k us ++ more))) (sym m.0)
    (subst (λ x. finished true first (us ++ x) ≡ put_first (construct first k us) (finished true false (drop k us ++ x))) (sym m.1)
    (ap (finished true first) (append-nil us) ∙ finished-step true first us k e ∙ ap (λ x. put_first (construct first k us) (finished true false x)) (sym (append-nil (drop k us)))))
whole-follow false ended first us more k m e = by_size (size first (values us)) refl e where
  by_size : (o : Option ℕ) → size first (values us) ≡ o → settled_or o false (length (values us)) ≡ Some k
      → finished ended first (us ++ more) ≡ put_first (construct first k us) (finished ended false (drop k us ++ more))
  by_size None s q = absurd (cc)
  by_size (Some j) s q =
      let z : size first (values us) ≡ Some k = s ∙ q in
      let t = size_by-takes (kind_of first (values us)) (values us) k z in
      let l = length-values us in
      let p = t.1 in
      let whole : whole_size ended first (values (us ++ more)) ≡ Some k =
      ap (λ o. settled_or o (ended && is_run (values (us ++ more))) (length (values (us ++ more)))) (ap (size first) (map-append (λ u. u.value) us more) ∙ size-append first (values us) (values more) k z) in
      finished-step ended first (us ++ more) k whole
      ∙ ap (λ c. put_first c (finished ended false (drop k (us ++ more)))) (same-construct first k us more z)
      ∙ ap (λ x. put_first (construct first k us) (finished ended false x)) (drop-append-le k us more (omega arith))

module _ (closed : Bool) (n : ℕ) where
  pub leads-stay : (s : State) (first : Bool) (us : List Byte) → Leads closed n s first us s first us
  leads-stay s first us = record { acts = λ e m f. refl; rests = λ e m f. refl }

  pub leads-on : (s t u : State) (first next last : Bool) (us vs ws : List Byte) → Leads closed n s first us t next vs → Leads closed n t next vs u last ws → Leads closed n s first us u last ws
  leads-on s t u first next last us vs ws a b = record { acts = λ e m f. a.acts e m f ∙ b.acts e m f; rests = λ e m f. a.rests e m f ∙ b.rests e m f }

  pub breaks-on : (s t : State) (first next : Bool) (us vs : List Byte) (r : Fault) → Leads closed n s first us t next vs → Breaks closed n t next vs r → Breaks closed n s first us r
  breaks-on s t first next us vs r a b = λ e m f. a.acts e m f ∙ b e m f

  first-acts : (s : State) (first ended : Bool) (us more : List Byte) (k : ℕ) → MayFollow closed ended more → whole_size closed first (values us) ≡ Some k
      → acted_on n s ended first (us ++ more)
      ≡ act_past (judged n s (construct first k us)) (construct first k us) (acted_on n (state_behind s (construct first k us)) ended false (drop k us ++ more))
  unfolding acted
  first-acts s first ended us more k f e = ap (λ c. acted n s c.constructs) (whole-follow closed ended first us more k f e)

  pub one-step : (s : State) (first : Bool) (us : List Byte) (k : ℕ) → whole_size closed first (values us) ≡ Some k → judged n s (construct first k us) ≡ None
      → Leads closed n s first us (state_behind s (construct first k us)) false (drop k us)
  one-step s first us k e j = record {
    acts = λ ended more f. first-acts s first ended us more k f e
        ∙ ap (λ o. act_past o (construct first k us) (acted_on n (state_behind s (construct first k us)) ended false (drop k us ++ more))) j;
    rests = λ ended more f. ap (λ c. c.rest) (whole-follow closed ended first us more k f e);
  }

  pub one-break : (s : State) (first : Bool) (us : List Byte) (k : ℕ) (r : Rule) → whole_size closed first (values us) ≡ Some k → judged n s (construct first k us) ≡ Some r
      → Breaks closed n s first us (fault (offset_of us) r)
  one-break s first us k r e j = λ ended more f.
      first-acts s first ended us more k f e
      ∙ ap (λ o. act_past o (construct first k us) (acted_on n (state_behind s (construct first k us)) ended false (drop k us ++ more))) j

-- bytes that come behind others
pub leads-more : (n : ℕ) (s t : State) (first next : Bool) (us vs ws : List Byte) → Leads false n s first us t next vs → Leads false n s first (us ++ ws) t next (vs ++ ws)
leads-more n s t first next us vs ws a = record {
  acts = λ e m f. ap (acted_on n s e first) (append_assoc us ws m) ∙ a.acts e (ws ++ m) tt ∙ ap (acted_on n t e next) (sym (append_assoc vs ws m));
  rests = λ e m f. ap (λ x. (finished e first x).rest) (append_assoc us ws m) ∙ a.rests e (ws ++ m) tt ∙ ap (λ x. (finished e next x).rest) (sym (append_assoc vs ws m));
}

pub breaks-more : (n : ℕ) (s : State) (first : Bool) (us ws : List Byte) (r : Fault) → Breaks false n s first us r → Breaks false n s first (us ++ ws) r
breaks-more n s first us ws r b = λ e m f. ap (acted_on n s e first) (append_assoc us ws m) ∙ b e (ws ++ m) tt
