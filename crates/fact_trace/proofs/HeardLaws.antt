-- What is heard on the way through nodes is their plain text.
use Rattle.std.proofs.Common.{◌≡◌, ◌∙◌, ℕ, suc, Bool, true, false, ◌&&◌, if◌then◌else◌, List, [], ◌∷◌, ◌++◌, inl, inr, Some, None, refl, sym, ap, subst, append_assoc, bytes_eq, codes}
use Rattle.std.specs.List.{flat_map}
use Rattle.ix_base.specs.Markup.{Manner, LeftOut, Opened, Kept, manner, plain_by, plain}
use Rattle.ix_base.specs.Namespaces.{ix_namespace}
use Rattle.ix_base.specs.Trees.{Named, Bound, Nodes, none, chars, elem}
use Rattle.page_constructs.specs.Constructs.{Construct}
use Rattle.page_constructs.specs.Forms.{Means}
use Rattle.page_constructs.specs.Meanings.{meant}
use Rattle.page_tree.specs.Page.{AreRuns, HasTags, Spells, AllMean}
use Rattle.page_constructs.specs.Tokens.{Tag, Token, start, empty, close, words, refer, section, declaration, doctype, silent}
use Rattle.page_tree.proofs.FormLaws.{form-meant}
use Rattle.page_tree.proofs.TagLaws.{opened-fair}
use Rattle.page_tree.specs.Reaches.{Reach, reaches_to}
use Rattle.fact_trace.specs.Spans.{says_by, says, move_by, move, muted_in, fewer, heard_by, closing, heard, is_left_out}
use Rattle.fact_trace.specs.declared.moves.Move.{Move}
use Rattle.fact_trace.specs.declared.moves.Move.TheVariants.{Opens, Closes, Says, Passes}

abbrev pub saying : List Reach → List ℕ
saying rs = flat_map says rs

-- constructs mean tokens
abbrev pub AreMeant : List Reach → List Token → Type 0
AreMeant [] [] = Unit {0}
AreMeant (r ∷ rs) (t ∷ ts) = Means r.what t × AreMeant rs ts
AreMeant rs ts = ⊥

pub meant-from : (end : ℕ) (cs : List Construct) (ts : List Token) → AllMean cs ts → AreMeant (reaches_to end cs) ts
meant-from end [] [] m = tt
meant-from end [] (t ∷ ts) m = absurd m
meant-from end (c ∷ cs) [] m = absurd m
meant-from end (c ∷ []) (t ∷ []) m = (m.0, tt)
meant-from end (c ∷ []) (t ∷ u ∷ ts) m = absurd (m.1)
meant-from end (c ∷ d ∷ cs) (t ∷ ts) m = (m.0, meant-from end (d ∷ cs) ts m.1)

pub record Parts (rs : List Reach) (a b : List Token) : Type 0 where
  pub front : List Reach
  pub rest : List Reach
  pub splits : rs ≡ front ++ rest
  pub first : AreMeant front a
  pub second : AreMeant rest b

pub parted : (a b : List Token) (rs : List Reach) → AreMeant rs (a ++ b) → Parts rs a b
parted [] b rs m = record { front = []; rest = rs; splits = refl; first = tt; second = m }
parted (t ∷ a) b [] m = absurd m
parted (t ∷ a) b (r ∷ rs) m =
    let p = parted a b rs m.1 in
    record { front = r ∷ p.front; rest = p.rest; splits = ap (λ l. r ∷ l) p.splits; first = (m.0, p.first); second = p.second }

-- one step
abbrev pub by_move : Move → (ℕ → Bool) → ℕ → ℕ → Reach → List Reach → List Reach
by_move (Opens at) out deep muted r rs = heard out (suc deep) (muted_in (out at) muted) rs
by_move Closes out deep muted r rs = closing deep (λ d. heard out d (fewer muted) rs)
by_move Says out deep muted r rs = heard_by muted r (heard out deep muted rs)
by_move Passes out deep muted r rs = heard out deep muted rs

of-move : (m : Move) (out : ℕ → Bool) (deep muted : ℕ) (r : Reach) (rs : List Reach)
    → ◌≡◌ {A = List Reach} (elim m as (λ _. List Reach) [
      | Opens at ↦ heard out (suc deep) (muted_in (out at) muted) rs
      | Closes ↦ closing deep (λ d. heard out d (fewer muted) rs)
      | Says ↦ heard_by muted r (heard out deep muted rs)
      | Passes ↦ heard out deep muted rs
    ]) (by_move m out deep muted r rs)
of-move (Opens at) out deep muted r rs = refl
of-move Closes out deep muted r rs = refl
of-move Says out deep muted r rs = refl
of-move Passes out deep muted r rs = refl

pub step : (m : Move) (out : ℕ → Bool) (deep muted : ℕ) (r : Reach) (rs : List Reach) → move r ≡ m → heard out deep muted (r ∷ rs) ≡ by_move m out deep muted r rs
step m out deep muted r rs e = of-move (move r) out deep muted r rs ∙ ap (λ x. by_move x out deep muted r rs) e

pub meant-of : (r : Reach) (t : Token) → Means r.what t → meant r.what ≡ Some t
meant-of r t m = form-meant r.what.kind r.what.start r.what.text t m

passes : (t : Token) (out : ℕ → Bool) (deep : ℕ) (r : Reach) (rs : List Reach) → Means r.what t → move_by (Some t) ≡ Passes → saying (heard out deep 0 (r ∷ rs)) ≡ saying (heard out deep 0 rs)
passes t out deep r rs m e = ap saying (step Passes out deep 0 r rs (ap move_by (meant-of r t m) ∙ e))

speaks : (t : Token) (out : ℕ → Bool) (deep : ℕ) (r : Reach) (rs : List Reach) → Means r.what t → move_by (Some t) ≡ Says
    → saying (heard out deep 0 (r ∷ rs)) ≡ says_by (Some t) ++ saying (heard out deep 0 rs)
speaks t out deep r rs m e = ap saying (step Says out deep 0 r rs (ap move_by (meant-of r t m) ∙ e)) ∙ ap (λ x. x ++ saying (heard out deep 0 rs)) (ap says_by (meant-of r t m))

skips : (t : Token) (out : ℕ → Bool) (deep k : ℕ) (r : Reach) (rs : List Reach) → Means r.what t → (move_by (Some t) ≡ Passes) → heard out deep (suc k) (r ∷ rs) ≡ heard out deep (suc k) rs
skips t out deep k r rs m e = step Passes out deep (suc k) r rs (ap move_by (meant-of r t m) ∙ e)

hushes : (t : Token) (out : ℕ → Bool) (deep k : ℕ) (r : Reach) (rs : List Reach) → Means r.what t → (move_by (Some t) ≡ Says) → heard out deep (suc k) (r ∷ rs) ≡ heard out deep (suc k) rs
hushes t out deep k r rs m e = step Says out deep (suc k) r rs (ap move_by (meant-of r t m) ∙ e)

-- a text that a first part begins
joined : (w more text rest all : List ℕ) → all ≡ w ++ (more ++ rest) → text ≡ w ++ more → all ≡ text ++ rest
joined w more text rest all e t = e ∙ sym (append_assoc w more rest) ∙ ap (λ x. x ++ rest) (sym t)

-- runs
runs-heard : (text : List ℕ) (ts : List Token) (rs : List Reach) → AreRuns text ts → AreMeant rs ts → (out : ℕ → Bool) (deep : ℕ) (more : List Reach)
    → saying (heard out deep 0 (rs ++ more)) ≡ text ++ saying (heard out deep 0 more)
runs-heard text [] [] a m out deep more = ap (λ x. x ++ saying (heard out deep 0 more)) (sym a)
runs-heard text [] (r ∷ rs) a m out deep more = absurd m
runs-heard text (t ∷ ts) [] a m out deep more = absurd m
runs-heard text (declaration v e ∷ ts) (r ∷ rs) a m out deep more = passes (declaration v e) out deep r (rs ++ more) m.0 refl ∙ runs-heard text ts rs a.1 m.1 out deep more
runs-heard text (silent ∷ ts) (r ∷ rs) a m out deep more = passes silent out deep r (rs ++ more) m.0 refl ∙ runs-heard text ts rs a m.1 out deep more
runs-heard text (words w ∷ ts) (r ∷ rs) a m out deep more =
    joined w a.0 text (saying (heard out deep 0 more)) _ (speaks (words w) out deep r (rs ++ more) m.0 refl ∙ ap (λ l. w ++ l) (runs-heard a.0 ts rs a.2 m.1 out deep more)) a.1
runs-heard text (refer (Some c) ∷ ts) (r ∷ rs) a m out deep more =
    joined c a.0 text (saying (heard out deep 0 more)) _ (speaks (refer (Some c)) out deep r (rs ++ more) m.0 refl ∙ ap (λ l. c ++ l) (runs-heard a.0 ts rs a.2 m.1 out deep more)) a.1
runs-heard text (section w ∷ ts) (r ∷ rs) a m out deep more =
    joined w a.0 text (saying (heard out deep 0 more)) _ (speaks (section w) out deep r (rs ++ more) m.0 refl ∙ ap (λ l. w ++ l) (runs-heard a.0 ts rs a.2 m.1 out deep more)) a.1
runs-heard text (refer None ∷ ts) (r ∷ rs) a m out deep more = absurd a
runs-heard text (start t ∷ ts) (r ∷ rs) a m out deep more = absurd a
runs-heard text (empty t ∷ ts) (r ∷ rs) a m out deep more = absurd a
runs-heard text (close n ∷ ts) (r ∷ rs) a m out deep more = absurd a
runs-heard text (doctype b ∷ ts) (r ∷ rs) a m out deep more = absurd a

runs-hushed : (text : List ℕ) (ts : List Token) (rs : List Reach) → AreRuns text ts → AreMeant rs ts → (out : ℕ → Bool) (deep k : ℕ) (more : List Reach)
    → heard out deep (suc k) (rs ++ more) ≡ heard out deep (suc k) more
runs-hushed text [] [] a m out deep k more = refl
runs-hushed text [] (r ∷ rs) a m out deep k more = absurd m
runs-hushed text (t ∷ ts) [] a m out deep k more = absurd m
runs-hushed text (declaration v e ∷ ts) (r ∷ rs) a m out deep k more = skips (declaration v e) out deep k r (rs ++ more) m.0 refl ∙ runs-hushed text ts rs a.1 m.1 out deep k more
runs-hushed text (silent ∷ ts) (r ∷ rs) a m out deep k more = skips silent out deep k r (rs ++ more) m.0 refl ∙ runs-hushed text ts rs a m.1 out deep k more
runs-hushed text (words w ∷ ts) (r ∷ rs) a m out deep k more = hushes (words w) out deep k r (rs ++ more) m.0 refl ∙ runs-hushed a.0 ts rs a.2 m.1 out deep k more
runs-hushed text (refer (Some c) ∷ ts) (r ∷ rs) a m out deep k more = hushes (refer (Some c)) out deep k r (rs ++ more) m.0 refl ∙ runs-hushed a.0 ts rs a.2 m.1 out deep k more
runs-hushed text (section w ∷ ts) (r ∷ rs) a m out deep k more = hushes (section w) out deep k r (rs ++ more) m.0 refl ∙ runs-hushed a.0 ts rs a.2 m.1 out deep k more
runs-hushed text (refer None ∷ ts) (r ∷ rs) a m out deep k more = absurd a
runs-hushed text (start t ∷ ts) (r ∷ rs) a m out deep k more = absurd a
runs-hushed text (empty t ∷ ts) (r ∷ rs) a m out deep k more = absurd a
runs-hushed text (close n ∷ ts) (r ∷ rs) a m out deep k more = absurd a
runs-hushed text (doctype b ∷ ts) (r ∷ rs) a m out deep k more = absurd a

-- what a construct list is, where its tokens are known
pub record IsOne (rs : List Reach) (t : Token) : Type 0 where
  pub one : Reach
  pub is : rs ≡ one ∷ []
  pub means : Means one.what t

pub one-of : (rs : List Reach) (t : Token) → AreMeant rs (t ∷ []) → IsOne rs t
one-of [] t m = absurd m
one-of (r ∷ []) t m = record { one = r; is = refl; means = m.0 }
one-of (r ∷ s ∷ rs) t m = absurd (m.1)

-- an element by its tags: a tag alone, or a tag, what its children are spelled by, and an end tag
pub record IsTagged (rs : List Reach) (tag : Tag) (inner : List Token) : Type 0 where
  pub open_tag : Reach
  pub within : List Reach
  pub close_tag : Reach
  pub is : rs ≡ open_tag ∷ (within ++ close_tag ∷ [])
  pub opens : Means open_tag.what (start tag)
  pub closes : Means close_tag.what (close tag.name)
  pub spelled : AreMeant within inner

pub tagged : (rs : List Reach) (tag : Tag) (inner : List Token) → AreMeant rs (start tag ∷ (inner ++ close tag.name ∷ [])) → IsTagged rs tag inner
tagged [] tag inner m = absurd m
tagged (r ∷ rs) tag inner m =
    let p = parted inner (close tag.name ∷ []) rs m.1 in
    let o = one-of p.rest (close tag.name) p.second in
    record {
      open_tag = r;
      within = p.front;
      close_tag = o.one;
      is = ap (λ l. r ∷ l) (p.splits ∙ ap (λ l. p.front ++ l) o.is);
      opens = m.0;
      closes = o.means;
      spelled = p.first;
    }

-- the test tells the elements that are left out, among some nodes and below
abbrev pub Agrees : (ℕ → Bool) → Nodes → Type 0
Agrees out none = Unit {0}
Agrees out (chars text rest) = Agrees out rest
Agrees out (elem head children rest) = (out head.offset ≡ is_left_out head.name) × Agrees out children × Agrees out rest

left-manner : (n : Named) (inner : List ℕ) (b : Bool) → is_left_out n ≡ b → plain_by (manner n) inner ≡ (if b then [] else inner)
left-manner n inner b e = by (bytes_eq n.ns ix_namespace) (bytes_eq n.local (codes "exclude")) e where
  by : (x y : Bool) → (x && y) ≡ b → plain_by (if x then (if y then LeftOut else Opened) else Kept) inner ≡ (if b then [] else inner)
  by true true h = rw (← h) refl
  by true false h = rw (← h) refl
  by false y h = rw (← h) refl

-- through an element whose tags are known
element-heard : (rs : List Reach) (tag : Tag) (inner : List Token) (out : ℕ → Bool) (deep : ℕ) (more : List Reach) (b : Bool) (text : List ℕ) (k : IsTagged rs tag inner) → out tag.offset ≡ b
    → ((d : ℕ) (m : List Reach) → saying (heard out d 0 (k.within ++ m)) ≡ text ++ saying (heard out d 0 m))
    → ((d j : ℕ) (m : List Reach) → heard out d (suc j) (k.within ++ m) ≡ heard out d (suc j) m)
    → saying (heard out deep 0 (rs ++ more)) ≡ (if b then [] else text) ++ saying (heard out deep 0 more)
element-heard rs tag inner out deep more b text k e loud hush =
    ap (λ l. saying (heard out deep 0 l)) (ap (λ l. l ++ more) k.is ∙ ap (λ l. k.open_tag ∷ l) (append_assoc k.within (k.close_tag ∷ []) more))
    ∙ ap saying (step (Opens tag.offset) out deep 0 k.open_tag (k.within ++ (k.close_tag ∷ more)) (ap move_by (meant-of k.open_tag (start tag) k.opens)))
    ∙ ap (λ x. saying (heard out (suc deep) (muted_in x 0) (k.within ++ (k.close_tag ∷ more)))) e
    ∙ by b where
      by : (x : Bool) → saying (heard out (suc deep) (muted_in x 0) (k.within ++ (k.close_tag ∷ more))) ≡ (if x then [] else text) ++ saying (heard out deep 0 more)
      by true = ap saying (hush (suc deep) 0 (k.close_tag ∷ more) ∙ step Closes out (suc deep) 1 k.close_tag more (ap move_by (meant-of k.close_tag (close tag.name) k.closes)))
      by false = loud (suc deep) (k.close_tag ∷ more) ∙ ap (λ l. text ++ l) (ap saying (step Closes out (suc deep) 0 k.close_tag more (ap move_by (meant-of k.close_tag (close tag.name) k.closes))))

element-hushed : (rs : List Reach) (tag : Tag) (inner : List Token) (out : ℕ → Bool) (deep j : ℕ) (more : List Reach) (k : IsTagged rs tag inner)
    → ((d i : ℕ) (m : List Reach) → heard out d (suc i) (k.within ++ m) ≡ heard out d (suc i) m)
    → heard out deep (suc j) (rs ++ more) ≡ heard out deep (suc j) more
element-hushed rs tag inner out deep j more k hush =
    ap (heard out deep (suc j)) (ap (λ l. l ++ more) k.is ∙ ap (λ l. k.open_tag ∷ l) (append_assoc k.within (k.close_tag ∷ []) more))
    ∙ step (Opens tag.offset) out deep (suc j) k.open_tag (k.within ++ (k.close_tag ∷ more)) (ap move_by (meant-of k.open_tag (start tag) k.opens))
    ∙ hush (suc deep) (suc j) (k.close_tag ∷ more)
    ∙ step Closes out (suc deep) (suc (suc j)) k.close_tag more (ap move_by (meant-of k.close_tag (close tag.name) k.closes))

-- nodes that are left out are passed over
pub nodes-hushed : (ns : Nodes) (depth : ℕ) (scope : List Bound) (ts : List Token) (rs : List Reach) → Spells ns depth scope ts → AreMeant rs ts → (out : ℕ → Bool) (deep k : ℕ) (more : List Reach)
    → heard out deep (suc k) (rs ++ more) ≡ heard out deep (suc k) more
nodes-hushed none depth scope ts rs s m out deep k more = runs-hushed [] ts rs s m out deep k more
nodes-hushed (chars text rest) depth scope ts rs s m out deep k more =
    let j = s.2 in
    let p = parted j.front j.rest rs (subst (AreMeant rs) j.splits m) in
    ap (λ l. heard out deep (suc k) (l ++ more)) p.splits ∙ ap (heard out deep (suc k)) (append_assoc p.front p.rest more)
    ∙ runs-hushed text j.front p.front j.first p.first out deep k (p.rest ++ more)
    ∙ nodes-hushed rest depth scope j.rest p.rest j.second p.second out deep k more
nodes-hushed (elem head children rest) depth scope ts rs j m out deep k more =
    let p = parted j.front j.rest rs (subst (AreMeant rs) j.splits m) in
    let i = j.second in
    let q = parted i.front i.rest p.rest (subst (AreMeant p.rest) i.splits p.second) in
    let e = i.first in
    let own : heard out deep (suc k) (q.front ++ (q.rest ++ more)) ≡ heard out deep (suc k) (q.rest ++ more) =
    hushed e.tag (Spells children e.below head.scope) i.front q.front (q.rest ++ more) e.tags q.first (λ inner within s w d n x. nodes-hushed children e.below head.scope inner within s w out d n x) in
    ap (λ l. heard out deep (suc k) (l ++ more)) p.splits ∙ ap (heard out deep (suc k)) (append_assoc p.front p.rest more)
    ∙ runs-hushed [] j.front p.front j.first p.first out deep k (p.rest ++ more)
    ∙ ap (λ l. heard out deep (suc k) (l ++ more)) q.splits ∙ ap (heard out deep (suc k)) (append_assoc q.front q.rest more)
    ∙ own
    ∙ nodes-hushed rest depth scope i.rest q.rest i.second q.second out deep k more where
      hushed : (tag : Tag) (Inner : List Token → Type 0) (us : List Token) (vs xs : List Reach) → HasTags tag children Inner us → AreMeant vs us
          → ((inner : List Token) (within : List Reach) → Inner inner → AreMeant within inner → (d n : ℕ) (x : List Reach) → heard out d (suc n) (within ++ x) ≡ heard out d (suc n) x)
          → heard out deep (suc k) (vs ++ xs) ≡ heard out deep (suc k) xs
      hushed tag Inner us vs xs (inl h) w f =
          let o = one-of vs (empty tag) (subst (AreMeant vs) h.0 w) in
          ap (λ l. heard out deep (suc k) (l ++ xs)) o.is ∙ skips (empty tag) out deep k o.one xs o.means refl
      hushed tag Inner us vs xs (inr h) w f =
          let t = tagged vs tag h.0 (subst (AreMeant vs) h.1 w) in
          element-hushed vs tag h.0 out deep k xs t (λ d n x. f h.0 t.within h.2 t.spelled d n x)

-- and what is heard of others is their plain text
pub nodes-heard : (ns : Nodes) (depth : ℕ) (scope : List Bound) (ts : List Token) (rs : List Reach) (out : ℕ → Bool) → Spells ns depth scope ts → AreMeant rs ts → Agrees out ns
    → (deep : ℕ) (more : List Reach) → saying (heard out deep 0 (rs ++ more)) ≡ plain ns ++ saying (heard out deep 0 more)
nodes-heard none depth scope ts rs out s m a deep more = runs-heard [] ts rs s m out deep more
nodes-heard (chars text rest) depth scope ts rs out s m a deep more =
    let j = s.2 in
    let p = parted j.front j.rest rs (subst (AreMeant rs) j.splits m) in
    ap (λ l. saying (heard out deep 0 (l ++ more))) p.splits ∙ ap (λ l. saying (heard out deep 0 l)) (append_assoc p.front p.rest more)
    ∙ runs-heard text j.front p.front j.first p.first out deep (p.rest ++ more)
    ∙ ap (λ l. text ++ l) (nodes-heard rest depth scope j.rest p.rest out j.second p.second a deep more)
    ∙ sym (append_assoc text (plain rest) (saying (heard out deep 0 more)))
nodes-heard (elem head children rest) depth scope ts rs out j m a deep more =
    let p = parted j.front j.rest rs (subst (AreMeant rs) j.splits m) in
    let i = j.second in
    let q = parted i.front i.rest p.rest (subst (AreMeant p.rest) i.splits p.second) in
    let e = i.first in
    let at : e.tag.offset ≡ head.offset = ap (λ x. x.offset) (opened-fair scope e.tag head e.heads).1 in
    let own : saying (heard out deep 0 (q.front ++ (q.rest ++ more))) ≡ plain_by (manner head.name) (plain children) ++ saying (heard out deep 0 (q.rest ++ more)) =
    loud e.tag (Spells children e.below head.scope) i.front q.front (q.rest ++ more) e.tags q.first (ap out at ∙ a.0) (λ inner within s w d x. nodes-heard children e.below head.scope inner within out s w a.1 d x)
    (λ inner within s w d n x. nodes-hushed children e.below head.scope inner within s w out d n x) in
    ap (λ l. saying (heard out deep 0 (l ++ more))) p.splits ∙ ap (λ l. saying (heard out deep 0 l)) (append_assoc p.front p.rest more)
    ∙ runs-heard [] j.front p.front j.first p.first out deep (p.rest ++ more)
    ∙ ap (λ l. saying (heard out deep 0 (l ++ more))) q.splits ∙ ap (λ l. saying (heard out deep 0 l)) (append_assoc q.front q.rest more)
    ∙ own
    ∙ ap (λ l. plain_by (manner head.name) (plain children) ++ l) (nodes-heard rest depth scope i.rest q.rest out i.second q.second a.2 deep more)
    ∙ sym (append_assoc (plain_by (manner head.name) (plain children)) (plain rest) (saying (heard out deep 0 more))) where
      none-said : (n : Named) → plain_by (manner n) [] ≡ []
      none-said n = by (manner n) where
        by : (m : Manner) → plain_by m [] ≡ []
        by LeftOut = refl
        by Opened = refl
        by Kept = refl

      loud : (tag : Tag) (Inner : List Token → Type 0) (us : List Token) (vs xs : List Reach) → HasTags tag children Inner us → AreMeant vs us → out tag.offset ≡ is_left_out head.name
          → ((inner : List Token) (within : List Reach) → Inner inner → AreMeant within inner → (d : ℕ) (x : List Reach) → saying (heard out d 0 (within ++ x)) ≡ plain children ++ saying (heard out d 0 x))
          → ((inner : List Token) (within : List Reach) → Inner inner → AreMeant within inner → (d n : ℕ) (x : List Reach) → heard out d (suc n) (within ++ x) ≡ heard out d (suc n) x)
          → saying (heard out deep 0 (vs ++ xs)) ≡ plain_by (manner head.name) (plain children) ++ saying (heard out deep 0 xs)
      loud tag Inner us vs xs (inl h) w b f g =
          let o = one-of vs (empty tag) (subst (AreMeant vs) h.0 w) in
          ap (λ l. saying (heard out deep 0 (l ++ xs))) o.is ∙ passes (empty tag) out deep o.one xs o.means refl
          ∙ ap (λ l. l ++ saying (heard out deep 0 xs)) (sym (ap (λ c. plain_by (manner head.name) (plain c)) h.1 ∙ none-said head.name))
      loud tag Inner us vs xs (inr h) w b f g =
          let t = tagged vs tag h.0 (subst (AreMeant vs) h.1 w) in
          element-heard vs tag h.0 out deep xs (is_left_out head.name) (plain children) t b (λ d x. f h.0 t.within h.2 t.spelled d x) (λ d n x. g h.0 t.within h.2 t.spelled d n x)
          ∙ ap (λ l. l ++ saying (heard out deep 0 xs)) (sym (left-manner head.name (plain children) (is_left_out head.name) refl))
