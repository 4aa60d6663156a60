-- Reading pages one behind another.
use Rattle.ix_base.specs.declared.limits.TheConstants.{DEEPEST_ELEMENT, MOST_BYTES, MOST_TAGS, PIECE}
use Rattle.std.proofs.Common.{◌≡◌, ◌⊎◌, inl, inr, ◌∙◌, ap, sym, refl, ℕ, suc, ◌+◌, ◌≤◌, ◌<◌, nat_le, nat_lt, Bool, cond, List, [], ◌∷◌, ◌++◌, length, drop, take, Option, Some, None, IfSome, IsTrue, OnOk, Result, Ok, Err, is_some, true, map, option_map, append_assoc, append-nil, subst, arith, length-append, add-zero, add_assoc, zero-add, add-one, get_or}
use Rattle.std.proofs.Math.Seq.{drop-cons, take-suc}
use Rattle.std.proofs.lemmas.Bool.{and_from, le-leb, lt-ltb}
use Rattle.std.specs.Borrow.{Bor}
use Rattle.ix_base.specs.Spaces.{AreNumbered, spaces_of}
use Rattle.ix_base.specs.Elements.{pages_of}
use Rattle.ix_base.specs.Trees.{tree_of}
use Rattle.ix_base.specs.declared.rule.Rule.{Rule}
use Rattle.ix_base.specs.declared.tree.Element.{Element}
use Rattle.page_tree.specs.Break.{fault, w}
use Rattle.page_tree.specs.Page.{page as page_with}
use Rattle.page_tree.specs.Stacks.{AreAll}
use Rattle.page_tree.specs.Model.{StandsFor}
use Rattle.ix_base.specs.declared.NoMemory.{NoMemory}
use Rattle.page_session.specs.PieceReads.{HasFed, IsWhole}
use Rattle.page_session.specs.Sources.{IsTelling, told, told_both}
use Rattle.page_session.specs.declared.reading.Sums.{Sums}
use Rattle.page_verdicts.specs.Gains.{GainsStarts}
use Rattle.page_verdicts.specs.CommandBytes.{AreSome}
use Rattle.ix_base.specs.Outside.{TellsAlso}
use Rattle.page_verdicts.specs.PageReads.{Holds, IsReadWhole, HasGained, HasGainedTree, HasRead, HasReadSome, IsRead, IsRoot, AreRoots, IsSound, IsAmong, IsLast, ReadsOn, StopsAt, StopsInTime, WhyStopped, kept_texts}
use Rattle.page_verdicts.specs.declared.read_pages.Stopped.{Stopped}
use Rattle.page_verdicts.specs.declared.read_pages.Stopped.TheVariants as stopped
use Rattle.page_verdicts.specs.declared.open_page.OpenPage.{OpenPage}
use Rattle.ix_base.specs.declared.rule.Rule.TheVariants.{S1, S2}
use Rattle.page_tree.specs.Break.{Fault}
use Rattle.targets.specs.Breaches.{size_rule, tags_in, all_tags_in, bytes_in, fault_row, on_page, text_fault, text_faults}
use Rattle.page_verdicts.specs.declared.read_pages.Forest.{Forest}

-- a page that has a tree was ended
pub gained_root : (n : ℕ) (b : List ℕ) (limit : ℕ) (f f' : Forest) (e : Bor Element) {k : ℕ} → limit ≡ DEEPEST_ELEMENT → None ≡ w b limit → f'.found ≡ f.found
    → f'.roots.items ≡ f.roots.items ++ e ∷ [] → page_with b limit (tree_of e.now) → AreAll k (pages_of e.now) → AreNumbered (spaces_of e.now) → k ≡ n → HasGainedTree n b f f'
gained_root n b limit f f' e {k} deep none kept roots is_page pages numbered at =
    let good : w b DEEPEST_ELEMENT ≡ None = ap (w b) (sym deep) ∙ sym none in
    record {
      found = kept ∙ sym (append-nil f.found) ∙ ap (λ o. f.found ++ fault_row n o) (sym good);
      root = λ h. (e, roots, (subst (λ m. page_with b m (tree_of e.now)) deep is_page, subst (λ m. AreAll m (pages_of e.now)) at pages, numbered));
    }

-- a page that has a break was ended
pub gained_fault : (n : ℕ) (b : List ℕ) (limit : ℕ) (f f' : Forest) (offset : ℕ) (rule : Rule) → limit ≡ DEEPEST_ELEMENT → Some (fault offset rule) ≡ w b limit
    → f'.found ≡ f.found ++ on_page n offset rule ∷ [] → HasGainedTree n b f f'
gained_fault n b limit f f' offset rule deep broken found =
    let bad : w b DEEPEST_ELEMENT ≡ Some (fault offset rule) = ap (w b) (sym deep) ∙ sym broken in
    record {
      found = found ∙ ap (λ o. f.found ++ fault_row n o) (sym bad);
      root = λ h. absurd (let z : None ≡ Some (fault offset rule) = sym h ∙ bad in cc);
    }

-- a page was ended whose bytes are kept, where bytes are kept
pub page_gained : (r : Result Unit NoMemory) (n most : ℕ) (p : OpenPage) (f m g : Forest) (text : List ℕ) → m.found ≡ f.found → m.roots ≡ f.roots → m.keeps ≡ f.keeps
    → p.keeps ≡ f.keeps → text ≡ p.bytes.items → (p.keeps ≡ true → kept_texts m ≡ kept_texts f ++ text ∷ []) → g.keeps ≡ m.keeps → g.texts ≡ m.texts
    → OnOk r ((b : List ℕ) → StandsFor p.tree b → HasGainedTree n b m g)
    → OnOk r (f.sums.bytes ≤ most → (b : List ℕ) → Holds p b → HasGained n b f g)
page_gained (Ok u) n most p f m g text found roots keeps same is kept keeps' texts tree = λ within b h.
    let t = tree b h.built in
    record {
      tree = record {
        found = t.found ∙ ap (λ xs. xs ++ text_fault n b) found;
        root = λ e. (let r = t.root e in (r.0, r.1 ∙ (λ i. (roots i).items ++ r.0 ∷ []), r.2));
      };
      keeps = keeps' ∙ keeps;
      texts = λ k.
          let on : p.keeps ≡ true = same ∙ k in
          (λ i. map (λ t. t.now) (texts i).items) ∙ kept on ∙ (λ i. kept_texts f ++ (is ∙ h.kept on) i ∷ []);
    }
page_gained (Err x) n most p f m g text found roots keeps same is kept keeps' texts tree = tt

-- a page was read and ended
pub reads_on : (took : List ℕ → Type 0) (page left : Option (List ℕ)) (n : ℕ) (t : OpenPage) (sums : Sums) (f g : Forest)
    → ((b : List ℕ) → took b → Holds t b) → HasFed took page left f.sums sums → IsReadWhole page left sums → g.sums ≡ sums
    → (sums.bytes ≤ MOST_BYTES → (b : List ℕ) → Holds t b → HasGained n b (record f { sums = sums }) g) → ReadsOn page left n f g
reads_on took page left n t sums f g holds fed whole same gained = record {
  front = fed.front;
  bytes = ap (λ (s : Sums). s.bytes) same ∙ fed.bytes;
  tags = ap (λ (s : Sums). s.tags) same ∙ fed.tags;
  told = fed.told;
  whole = λ most. whole (subst (λ (s : Sums). s.bytes ≤ MOST_BYTES) same most);
  gained = λ most.
      let h = gained (subst (λ (s : Sums). s.bytes ≤ MOST_BYTES) same most) fed.front (holds fed.front fed.taken) in
      record { tree = record { found = h.tree.found; root = h.tree.root }; keeps = h.keeps; texts = h.texts };
}

-- a page that lies in memory was built and ended
pub built_on : (b : List ℕ) (n : ℕ) (t : OpenPage) (sums : Sums) (f g : Forest)
    → Holds t b → sums.bytes ≡ f.sums.bytes + length b → sums.tags ≡ f.sums.tags + tags_in b → g.sums ≡ sums
    → (sums.bytes ≤ MOST_BYTES → (c : List ℕ) → Holds t c → HasGained n c (record f { sums = sums }) g) → ReadsOn (Some b) (Some []) n f g
built_on b n t sums f g built bytes tags same gained =
    let fed : HasFed (Holds t) (Some b) (Some []) f.sums sums =
    record { front = b; taken = built; bytes = bytes; tags = tags; told = ([], sym (append-nil b), refl) } in
    reads_on (Holds t) (Some b) (Some []) n t sums f g (λ c h. h) fed (λ most. refl) same gained

-- a page is read whole whose bytes are within the limit, since its bytes `<` are no more
pub whole_read : (page left : Option (List ℕ)) (s : Sums) → s.tags ≤ s.bytes
    → IsWhole page left s (record { bytes = MOST_BYTES; tags = 18446744073709551615 }) → IsReadWhole page left s
whole_read page left s tags whole = λ most.
    whole (and_from (nat_le s.bytes MOST_BYTES) (nat_le s.tags 18446744073709551615) (le-leb s.bytes MOST_BYTES most) (le-leb s.tags 18446744073709551615 (omega arith)))

-- what is told of names and one more
told_more : (page : List ℕ → Option (List ℕ)) (xs : List (List ℕ)) (n : List ℕ)
    → IfSome (told page (xs ++ n ∷ [])) (λ all. (front : List (List ℕ)) × (told page xs ≡ Some front) × ((b : List ℕ) × (page n ≡ Some b) × (all ≡ front ++ b ∷ [])))
told_more page [] n = told_one (page n)
  where
    told_one : (o : Option (List ℕ)) → IfSome (told_both o (Some [])) (λ all. (front : List (List ℕ)) × (Some [] ≡ Some front) × ((b : List ℕ) × (o ≡ Some b) × (all ≡ front ++ b ∷ [])))
    told_one None = tt
    told_one (Some b) = ([], refl, (b, refl, refl))
told_more page (x ∷ xs) n = step (page x) (told page xs) (told page (xs ++ n ∷ [])) (told_more page xs n)
  where
    step : (o : Option (List ℕ)) (p q : Option (List (List ℕ)))
        → IfSome q (λ all. (front : List (List ℕ)) × (p ≡ Some front) × ((b : List ℕ) × (page n ≡ Some b) × (all ≡ front ++ b ∷ [])))
        → IfSome (told_both o q) (λ all. (front : List (List ℕ)) × (told_both o p ≡ Some front) × ((b : List ℕ) × (page n ≡ Some b) × (all ≡ front ++ b ∷ [])))
    step None p q h = tt
    step (Some a) p None h = tt
    step (Some a) p (Some all) h = (a ∷ h.0, ap (told_both (Some a)) h.1, (h.2.0, h.2.1, ap (λ r. a ∷ r) h.2.2))

faults-more : (n : ℕ) (bs : List (List ℕ)) (b : List ℕ) → text_faults n (bs ++ b ∷ []) ≡ text_faults n bs ++ text_fault (n + length bs) b
faults-more n [] b = append-nil (text_fault n b) ∙ ap (λ k. text_fault k b) (sym (add-zero n))
faults-more n (x ∷ bs) b =
    ap (λ r. text_fault n x ++ r) (faults-more (suc n) bs b ∙ ap (λ k. text_faults (suc n) bs ++ text_fault k b) (let e : suc n + length bs ≡ n + suc (length bs) = omega arith in e))
    ∙ sym (append_assoc (text_fault n x) (text_faults (suc n) bs) (text_fault (n + suc (length bs)) b))

roots-more : (n : ℕ) (bs : List (List ℕ)) (es : List (Bor Element)) (b : List ℕ) (e : Bor Element) → AreRoots n bs es → IsRoot (n + length bs) b e → AreRoots n (bs ++ b ∷ []) (es ++ e ∷ [])
roots-more n [] [] b e all one = (subst (λ k. IsRoot k b e) (add-zero n) one, tt)
roots-more n [] (x ∷ es) b e all one = absurd all
roots-more n (x ∷ bs) [] b e all one = absurd all
roots-more n (x ∷ bs) (y ∷ es) b e all one =
    (all.0, roots-more (suc n) bs es b e all.1 (subst (λ k. IsRoot k b e) (let z : n + suc (length bs) ≡ suc n + length bs = omega arith in z) one))

both_empty : {X : Type 0} (xs ys : List X) → xs ++ ys ≡ [] → (xs ≡ []) × (ys ≡ [])
both_empty [] ys e = (refl, e)
both_empty (x ∷ xs) ys e = absurd (let z = e in cc)

no_row : (n : ℕ) (o : Option Fault) → fault_row n o ≡ [] → o ≡ None
no_row n None e = refl
no_row n (Some f) e = absurd (let z = e in cc)

bytes-append : (bs cs : List (List ℕ)) → bytes_in (bs ++ cs) ≡ bytes_in bs + bytes_in cs
bytes-append [] cs = sym (zero-add (bytes_in cs))
bytes-append (b ∷ bs) cs = ap (λ k. length b + k) (bytes-append bs cs) ∙ sym (add_assoc (length b) (bytes_in bs) (bytes_in cs))

tags-append : (bs cs : List (List ℕ)) → all_tags_in (bs ++ cs) ≡ all_tags_in bs + all_tags_in cs
tags-append [] cs = sym (zero-add (all_tags_in cs))
tags-append (b ∷ bs) cs = ap (λ k. tags_in b + k) (tags-append bs cs) ∙ sym (add_assoc (tags_in b) (all_tags_in bs) (all_tags_in cs))

pub bytes-more : (bs : List (List ℕ)) (b : List ℕ) → bytes_in (bs ++ b ∷ []) ≡ bytes_in bs + length b
bytes-more bs b = bytes-append bs (b ∷ []) ∙ ap (λ k. bytes_in bs + k) (add-zero (length b))

tags-more : (bs : List (List ℕ)) (b : List ℕ) → all_tags_in (bs ++ b ∷ []) ≡ all_tags_in bs + tags_in b
tags-more bs b = tags-append bs (b ∷ []) ∙ ap (λ k. all_tags_in bs + k) (add-zero (tags_in b))

-- one more whole page was read
has_read_more : (bs : List (List ℕ)) (b : List ℕ) (n : ℕ) (f g : Forest) → length bs ≡ n → g.sums.bytes ≡ f.sums.bytes + length b → g.sums.tags ≡ f.sums.tags + tags_in b
    → HasGained n b f g → HasRead bs f → HasRead (bs ++ b ∷ []) g
has_read_more bs b n f g count bytes tags gained read =
    let at : text_faults 0 (bs ++ b ∷ []) ≡ text_faults 0 bs ++ text_fault n b
    = faults-more 0 bs b ∙ ap (λ k. text_faults 0 bs ++ text_fault k b) (zero-add (length bs) ∙ count) in
    record {
      bytes = bytes ∙ ap (λ k. k + length b) read.bytes ∙ sym (bytes-more bs b);
      tags = tags ∙ ap (λ k. k + tags_in b) read.tags ∙ sym (tags-more bs b);
      found = gained.tree.found ∙ ap (λ r. r ++ text_fault n b) read.found ∙ sym at;
      roots = λ none.
          let two = both_empty (text_faults 0 bs) (text_fault n b) (sym at ∙ none) in
          let good = no_row n (w b DEEPEST_ELEMENT) two.1 in
          let root = gained.tree.root good in
          subst (λ (es : List (Bor Element)). AreRoots 0 (bs ++ b ∷ []) es) (sym root.1)
          (roots-more 0 bs f.roots.items b root.0 (read.roots two.0) (subst (λ k. IsRoot k b root.0) (sym (zero-add (length bs) ∙ count)) root.2));
      texts = λ keeps.
          let was : f.keeps ≡ true = sym gained.keeps ∙ keeps in
          gained.texts was ∙ ap (λ ts. ts ++ b ∷ []) (read.texts was);
    }

-- what is told of a page that was read to its end
whole_is : (o left : Option (List ℕ)) (front : List ℕ) → IfSome o (λ b. left ≡ Some []) → IfSome o (λ b. (rest : List ℕ) × (b ≡ front ++ rest) × (left ≡ Some rest)) → IfSome o (λ b. b ≡ front)
whole_is None left front whole t = tt
whole_is (Some b) left front whole t =
    let none : t.0 ≡ [] = let z : Some t.0 ≡ Some [] = sym t.2 ∙ whole in cc in
    t.1 ∙ ap (λ r. front ++ r) none ∙ append-nil front

told_next : (o : Option (List ℕ)) (t : Option (List (List ℕ))) (more bs : List (List ℕ)) (b : List ℕ) → told_both o t ≡ Some more → IfSome o (λ x. x ≡ b)
    → (rest : List (List ℕ)) × (bs ++ more ≡ (bs ++ b ∷ []) ++ rest) × (t ≡ Some rest)
told_next None t more bs b e h = absurd (let z = e in cc)
told_next (Some x) None more bs b e h = absurd (let z = e in cc)
told_next (Some x) (Some rest) more bs b e h =
    let is : more ≡ b ∷ rest = let z : Some (x ∷ rest) ≡ Some more = e in let y : x ≡ b = h in cc in
    (rest, ap (λ r. bs ++ r) is ∙ sym (append_assoc bs (b ∷ []) rest), refl)

-- what is so of all pages is so of those that are told
pub if_told : (o : Option (List (List ℕ))) (From To : List (List ℕ) → Type 0) → ((b : List (List ℕ)) → From b → To b) → IfSome o From → IfSome o To
if_told None From To step h = tt
if_told (Some b) From To step h = step b h

-- names and one more are told
told_snoc : (page : List ℕ → Option (List ℕ)) (xs : List (List ℕ)) (n : List ℕ) → IsTrue (is_some (told page xs)) → IsTrue (is_some (page n))
    → IsTrue (is_some (told page (xs ++ n ∷ [])))
told_snoc page [] n h k = one (page n) k
  where
    one : (o : Option (List ℕ)) → IsTrue (is_some o) → IsTrue (is_some (told_both o (Some [])))
    one None k = absurd cc
    one (Some b) k = refl
told_snoc page (x ∷ xs) n h k = step (page x) (told page xs) (told page (xs ++ n ∷ [])) h (λ was. told_snoc page xs n was k)
  where
    step : (o : Option (List ℕ)) (p q : Option (List (List ℕ))) → IsTrue (is_some (told_both o p)) → (IsTrue (is_some p) → IsTrue (is_some q))
        → IsTrue (is_some (told_both o q))
    step None p q h on = absurd cc
    step (Some b) None q h on = absurd cc
    step (Some b) (Some bs) None h on = absurd (let z = on refl in cc)
    step (Some b) (Some bs) (Some cs) h on = refl

pub telling_more : (page : List ℕ → Option (List ℕ)) (xs : List (List ℕ)) (n : List ℕ) → IsTelling page xs → TellsAlso page n → IsTelling page (xs ++ n ∷ [])
telling_more page xs n all one = λ m some. told_snoc page xs n (all m some) (one m some)

-- one more page was read, and the limit isn't passed
pub read_more : (page : List ℕ → Option (List ℕ)) (names : List (List ℕ)) (name : List ℕ) (rest : List (List ℕ)) (n : ℕ) (left : Option (List ℕ)) (f g : Forest)
    → g.sums.bytes ≤ MOST_BYTES → ReadsOn (page name) left n f g → TellsAlso page name → HasReadSome page names (name ∷ rest) n f → HasReadSome page names rest (n + 1) g
read_more page names name rest n left f g most on also h =
    let whole = whole_is (page name) left on.front (on.whole most) on.told in
    record {
      front = h.front ++ name ∷ [];
      splits = h.splits ∙ sym (append_assoc h.front (name ∷ []) rest);
      bs = h.bs ++ on.front ∷ [];
      count = length-append h.bs (on.front ∷ []) ∙ ap (λ k. k + 1) h.count;
      read = has_read_more h.bs on.front n f g h.count on.bytes on.tags (on.gained most) h.read;
      front_is = if_told (told page (h.front ++ name ∷ [])) _ _ (λ all t.
          let was : t.0 ≡ h.bs = subst (λ (o : Option (List (List ℕ))). IfSome o (λ done. done ≡ h.bs)) t.1 h.front_is in
          let now : t.2.0 ≡ on.front = subst (λ (o : Option (List ℕ)). IfSome o (λ x. x ≡ on.front)) t.2.1 whole in
          t.2.2 ∙ (λ i. was i ++ now i ∷ [])) (told_more page h.front name);
      told_is = if_told (told page names) _ _ (λ all t.
          let next = told_next (page name) (told page rest) t.0 h.bs on.front t.2 whole in
          (next.0, t.1 ∙ next.1, next.2)) h.told_is;
      telling = telling_more page h.front name h.telling also;
    }

over : (n m : ℕ) → MOST_BYTES < n → size_rule n m ≡ Some S1
over n m h = ap (λ (t : Bool). cond t (Some S1) (cond (nat_lt MOST_TAGS m) (Some S2) None)) (lt-ltb MOST_BYTES n h)

-- what is read of a set that is too long
over_is : (bs : List (List ℕ)) (g : Forest) → MOST_BYTES < g.sums.bytes → g.sums.bytes ≤ bytes_in bs → IsRead bs g
over_is bs g long most =
    let more : MOST_BYTES < bytes_in bs = omega arith in
    let broken = over g.sums.bytes g.sums.tags long in
    record { size = over (bytes_in bs) (all_tags_in bs) more ∙ sym broken; read = λ e. absurd (let z : None ≡ Some S1 = sym e ∙ broken in cc) }

told_front : (o : Option (List ℕ)) (t : Option (List (List ℕ))) (left : Option (List ℕ)) (more bs : List (List ℕ)) (front : List ℕ) → told_both o t ≡ Some more
    → IfSome o (λ b. (rest : List ℕ) × (b ≡ front ++ rest) × (left ≡ Some rest)) → bytes_in bs + length front ≤ bytes_in (bs ++ more)
told_front None t left more bs front e h = absurd (let z = e in cc)
told_front (Some x) None left more bs front e h = absurd (let z = e in cc)
told_front (Some x) (Some rest) left more bs front e h =
    let is : more ≡ x ∷ rest = let z : Some (x ∷ rest) ≡ Some more = e in cc in
    let sum : bytes_in (bs ++ more) ≡ bytes_in bs + bytes_in more = bytes-append bs more in
    let one : bytes_in more ≡ length x + bytes_in rest = ap bytes_in is in
    let two : length x ≡ length front + length h.0 = ap length h.1 ∙ length-append front h.0 in
    omega arith

-- the limit is passed
read_over : (page : List ℕ → Option (List ℕ)) (names : List (List ℕ)) (name : List ℕ) (rest : List (List ℕ)) (n : ℕ) (left : Option (List ℕ)) (f g : Forest)
    → MOST_BYTES < g.sums.bytes → ReadsOn (page name) left n f g → HasReadSome page names (name ∷ rest) n f → IfSome (told page names) (λ bs. IsRead bs g)
read_over page names name rest n left f g long on h = if_told (told page names) _ _ (λ all t.
    let size = told_front (page name) (told page rest) left t.0 h.bs on.front t.2 on.told in
    let same : bytes_in all ≡ bytes_in (h.bs ++ t.0) = ap bytes_in t.1 in
    let was = h.read.bytes in
    let now = on.bytes in
    let most : g.sums.bytes ≤ bytes_in all = omega arith in
    over_is all g long most) h.told_is

-- some bytes were read, which are those that the source tells, where it tells them
pub read_some : (all : Option (List (List ℕ))) (g : Forest) (bs : List (List ℕ)) → IsRead bs g → IfSome all (λ told. IsRead told g) → AreSome all (λ told. IsRead told g)
read_some None g bs read t = (bs, tt, read)
read_some (Some all) g bs read t = (all, refl, t)

-- the limit is passed, also where the source tells nothing
pub some_over : (page : List ℕ → Option (List ℕ)) (names : List (List ℕ)) (name : List ℕ) (rest : List (List ℕ)) (n : ℕ) (left : Option (List ℕ)) (f g : Forest)
    → MOST_BYTES < g.sums.bytes → ReadsOn (page name) left n f g → HasReadSome page names (name ∷ rest) n f → AreSome (told page names) (λ bs. IsRead bs g)
some_over page names name rest n left f g long on h =
    let bs = h.bs ++ on.front ∷ [] in
    let most : g.sums.bytes ≤ bytes_in bs =
    let sum = bytes-more h.bs on.front in
    let was = h.read.bytes in
    let now = on.bytes in
    omega arith in
    read_some (told page names) g bs (over_is bs g long most) (read_over page names name rest n left f g long on h)

-- where the limit is passed, the pages that are told pass it
pub names_over : (page : List ℕ → Option (List ℕ)) (names : List (List ℕ)) (name : List ℕ) (rest : List (List ℕ)) (n : ℕ) (left : Option (List ℕ)) (f g : Forest)
    → MOST_BYTES < g.sums.bytes → ReadsOn (page name) left n f g → HasReadSome page names (name ∷ rest) n f → IfSome (told page names) (λ bs. MOST_BYTES < bytes_in bs)
names_over page names name rest n left f g long on h = if_told (told page names) _ _ (λ all t.
    let size = told_front (page name) (told page rest) left t.0 h.bs on.front t.2 on.told in
    let same : bytes_in all ≡ bytes_in (h.bs ++ t.0) = ap bytes_in t.1 in
    let was = h.read.bytes in
    let now = on.bytes in
    omega arith) h.told_is

pub over_is_sound : (names : List (List ℕ)) (g : Forest) → MOST_BYTES < g.sums.bytes → IsSound names g
over_is_sound names g long = λ e. absurd (let z : None ≡ Some S1 = sym e ∙ over g.sums.bytes g.sums.tags long in cc)

-- pages that were read whole are read
read_is : (bs : List (List ℕ)) (f : Forest) → HasRead bs f → IsRead bs f
read_is bs f read = record { size = λ i. size_rule (sym read.bytes i) (sym read.tags i); read = λ e. read }

-- all pages were read
read_all_is : (page : List ℕ → Option (List ℕ)) (names rest : List (List ℕ)) (n : ℕ) (f : Forest) → rest ≡ [] → HasReadSome page names rest n f → IfSome (told page names) (λ bs. IsRead bs f)
read_all_is page names rest n f none h = if_told (told page names) _ _ (λ all t.
    let empty : t.0 ≡ [] = let z : Some t.0 ≡ Some [] = sym t.2 ∙ ap (told page) none in cc in
    let is : h.bs ≡ all = sym (t.1 ∙ ap (λ r. h.bs ++ r) empty ∙ append-nil h.bs) in
    read_is all f (subst (λ (bs : List (List ℕ)). HasRead bs f) is h.read)) h.told_is

-- all pages were read, also where the source tells nothing
pub some_read : (page : List ℕ → Option (List ℕ)) (names rest : List (List ℕ)) (n : ℕ) (f : Forest) → rest ≡ [] → HasReadSome page names rest n f
    → AreSome (told page names) (λ bs. IsRead bs f)
some_read page names rest n f none h = read_some (told page names) f h.bs (read_is h.bs f h.read) (read_all_is page names rest n f none h)

pub some_is_sound : (page : List ℕ → Option (List ℕ)) (names rest : List (List ℕ)) (n : ℕ) (f : Forest) → n ≡ length names → HasReadSome page names rest n f → IsSound names f
some_is_sound page names rest n f all h = λ e. (h.bs, h.read, h.count ∙ all)

-- nothing was read yet
pub read_none : (page : List ℕ → Option (List ℕ)) (names : List (List ℕ)) (f : Forest) → f.sums.bytes ≡ 0 → f.sums.tags ≡ 0 → f.found ≡ [] → f.roots.items ≡ [] → f.texts.items ≡ []
    → HasReadSome page names names 0 f
read_none page names f bytes tags found roots texts = record {
  front = [];
  splits = refl;
  bs = [];
  count = refl;
  read = record { bytes = bytes; tags = tags; found = found; roots = λ e. subst (λ (es : List (Bor Element)). AreRoots 0 [] es) (sym roots) tt; texts = λ e. ap (map (λ t. t.now)) texts };
  front_is = refl;
  told_is = none_of (told page names);
  telling = λ n some. refl;
}
  where
    none_of : (o : Option (List (List ℕ))) → IfSome o (λ all. (more : List (List ℕ)) × (all ≡ [] ++ more) × (o ≡ Some more))
    none_of None = tt
    none_of (Some all) = (all, refl, refl)

-- those that were read before are within the limit
within_of : (page : List ℕ → Option (List ℕ)) (names rest : List (List ℕ)) (n : ℕ) (f : Forest) → f.sums.bytes ≤ MOST_BYTES → (h : HasReadSome page names rest n f)
    → IfSome (told page h.front) (λ bs. bytes_in bs ≤ MOST_BYTES)
within_of page names rest n f most h = if_told (told page h.front) _ _ (λ all was.
    let same : bytes_in all ≡ f.sums.bytes = ap bytes_in was ∙ sym h.read.bytes in
    omega arith) h.front_is

-- the page that was asked for last
pub last_is : (page : List ℕ → Option (List ℕ)) (names : List (List ℕ)) (name : List ℕ) (rest : List (List ℕ)) (n : ℕ) (left asked : Option (List ℕ)) (f g : Forest)
    → f.sums.bytes ≤ MOST_BYTES → g.sums.bytes ≤ MOST_BYTES + PIECE → IfSome asked (λ k. k ≡ name) → ReadsOn (page name) left n f g
    → HasReadSome page names (name ∷ rest) n f → IsLast page names rest left asked
last_is page names name rest n left asked f g before most at on h = record {
  front = h.front;
  name = name;
  splits = h.splits;
  asked_is = at;
  within = within_of page names (name ∷ rest) n f before h;
  telling = h.telling;
  most = if_told (told page (h.front ++ name ∷ [])) _ _ (λ all t.
      let was : t.0 ≡ h.bs = subst (λ (o : Option (List (List ℕ))). IfSome o (λ done. done ≡ h.bs)) t.1 h.front_is in
      let one = subst (λ (o : Option (List ℕ)). IfSome o (λ b. (more : List ℕ) × (b ≡ on.front ++ more) × (left ≡ Some more))) t.2.1 on.told in
      subst (λ (l : Option (List ℕ)). IfSome l (λ more. bytes_in all ≤ length more + (MOST_BYTES + PIECE))) (sym one.2)
      (let sum : bytes_in all ≡ bytes_in t.0 + length t.2.0 = ap bytes_in t.2.2 ∙ bytes-more t.0 t.2.0 in
      let first : bytes_in t.0 ≡ f.sums.bytes = ap bytes_in was ∙ sym h.read.bytes in
      let last : length t.2.0 ≡ length on.front + length one.0 = ap length one.1 ∙ length-append on.front one.0 in
      let now = on.bytes in
      omega arith)) (told_more page h.front name);
}

-- the next page was asked for
pub next_among : (page : List ℕ → Option (List ℕ)) (names : List (List ℕ)) (name : List ℕ) (rest : List (List ℕ)) (n : ℕ) (asked : Option (List ℕ)) (f : Forest)
    → f.sums.bytes ≤ MOST_BYTES → IfSome asked (λ k. k ≡ name) → HasReadSome page names (name ∷ rest) n f → IsAmong page names asked name
next_among page names name rest n asked f before at h = record {
  front = h.front;
  back = rest;
  splits = h.splits;
  asked_is = at;
  within = within_of page names (name ∷ rest) n f before h;
  telling = h.telling;
}

pub last_among : (page : List ℕ → Option (List ℕ)) (names back : List (List ℕ)) (left asked : Option (List ℕ)) → (l : IsLast page names back left asked)
    → (name : List ℕ) × IsAmong page names asked name
last_among page names back left asked l =
    (l.name, record { front = l.front; back = back; splits = l.splits; asked_is = l.asked_is; within = l.within; telling = l.telling })

pub stops_among : (page : List ℕ → Option (List ℕ)) (names : List (List ℕ)) (left asked : Option (List ℕ)) → StopsInTime page names left asked
    → (name : List ℕ) × IsAmong page names asked name
stops_among page names left asked s = last_among page names s.0 left asked s.1

-- the next page wasn't read
pub next_stopped : (page : List ℕ → Option (List ℕ)) (names : List (List ℕ)) (name : List ℕ) (rest : List (List ℕ)) (n : ℕ) (asked : Option (List ℕ)) (f : Forest)
    (before mid now : ℕ) (failed : Bool) (why : Stopped) → f.sums.bytes ≤ MOST_BYTES → mid ≡ before → HasReadSome page names (name ∷ rest) n f
    → StopsAt name asked mid now failed why → WhyStopped page names asked before now failed why
next_stopped page names name rest n asked f before mid now failed (stopped.Failed line) most same h s =
    (subst (λ k. k < now) same s.0, (name, next_among page names name rest n asked f most s.1 h, s.2, s.3))
next_stopped page names name rest n asked f before mid now failed stopped.NoMemory most same h s = s ∙ same

-- the name at this index and those behind it
pub next_of : (names : List (List ℕ)) (n : ℕ) (name : List ℕ) → n < length names → name ≡ get_or names n name → drop n names ≡ name ∷ drop (n + 1) names
next_of names n name h e = drop-cons names n name h ∙ (λ i. sym e i ∷ drop (sym (add-one n) i) names)

-- what was read before a name, which stands in front of those that are left
pub before_next : (page : List ℕ → Option (List ℕ)) (names : List (List ℕ)) (n : ℕ) (name : List ℕ) (f : Forest) → n < length names
    → name ≡ get_or names n name → HasReadSome page names (drop n names) n f → HasReadSome page names (name ∷ drop (n + 1) names) n f
before_next page names n name f within is h =
    subst (λ (rest : List (List ℕ)). HasReadSome page names rest n f) (next_of names n name within is) h

-- a page that was read on, of a source that tells what it told at first, and what was read before it
pub next_read : (page now : List ℕ → Option (List ℕ)) (names : List (List ℕ)) (n : ℕ) (name : List ℕ) (left : Option (List ℕ)) (f g : Forest)
    → n < length names → name ≡ get_or names n name → now ≡ page → ReadsOn (now name) left n f g → HasReadSome page names (drop n names) n f
    → ReadsOn (page name) left n f g × HasReadSome page names (name ∷ drop (n + 1) names) n f
next_read page now names n name left f g within is same on h =
    (subst (λ (source : List ℕ → Option (List ℕ)). ReadsOn (source name) left n f g) same on, before_next page names n name f within is h)

-- no name is left
pub stops_at_end : (page : List ℕ → Option (List ℕ)) (names back : List (List ℕ)) (left asked : Option (List ℕ)) (n : ℕ) → 0 < n → back ≡ []
    → (n ≡ 0) ⊎ IsLast page names back left asked → StopsInTime page names left asked
stops_at_end page names back left asked n some end (inl none) = absurd (omega arith)
stops_at_end page names back left asked n some end (inr last) = (back, last, inl end)

-- the next page was asked for, or nothing more was
pub asked_on : (P : Type 0) (asked : P → Option (List ℕ)) (page : List ℕ → Option (List ℕ)) (names : List (List ℕ)) (name : List ℕ) (back rest : List (List ℕ)) (n : ℕ)
    (left : Option (List ℕ)) (p old new : P) (f : Forest) → f.sums.bytes ≤ MOST_BYTES → (n ≡ 0 → p ≡ old) → (n ≡ 0) ⊎ IsLast page names back left (asked p)
    → HasReadSome page names (name ∷ rest) n f → (new ≡ p) ⊎ IfSome (asked new) (λ k. k ≡ name)
    → (new ≡ old) ⊎ ((k : List ℕ) × IsAmong page names (asked new) k)
asked_on P asked page names name back rest n left p old new f most same (inl none) h (inl kept) = inl (kept ∙ same none)
asked_on P asked page names name back rest n left p old new f most same (inr last) h (inl kept) =
    inr (subst (λ (q : P). (k : List ℕ) × IsAmong page names (asked q) k) (sym kept) (last_among page names back left (asked p) last))
asked_on P asked page names name back rest n left p old new f most same stops h (inr named) =
    inr (name, next_among page names name rest n (asked new) f most named h)

-- no page was started
pub none_started : (old : Option (List (List ℕ))) → old ≡ option_map (λ starts. starts ++ []) old
none_started None = refl
none_started (Some starts) = ap Some (sym (append-nil starts))

-- one more page was started
pub one_started : (names : List (List ℕ)) (n : ℕ) (name : List ℕ) (old mid new : Option (List (List ℕ))) → n < length names → name ≡ get_or names n name
    → mid ≡ option_map (λ starts. starts ++ take n names) old → new ≡ option_map (λ starts. starts ++ name ∷ []) mid
    → new ≡ option_map (λ starts. starts ++ take (n + 1) names) old
one_started names n name None mid new h e before after = after ∙ ap (option_map (λ starts. starts ++ name ∷ [])) before
one_started names n name (Some starts) mid new h e before after =
    let more : take (n + 1) names ≡ take n names ++ name ∷ [] = ap (λ k. take k names) (add-one n) ∙ take-suc names n name h ∙ (λ i. take n names ++ sym e i ∷ []) in
    after ∙ ap (option_map (λ s. s ++ name ∷ [])) before ∙ ap Some (append_assoc starts (take n names) (name ∷ []) ∙ ap (λ r. starts ++ r) (sym more))

-- the next page was started, or nothing more was
pub next_started : (names : List (List ℕ)) (n : ℕ) (name : List ℕ) (old mid new : Option (List (List ℕ))) → n < length names → name ≡ get_or names n name
    → mid ≡ option_map (λ starts. starts ++ take n names) old → (new ≡ mid) ⊎ (new ≡ option_map (λ starts. starts ++ name ∷ []) mid)
    → GainsStarts names old new
next_started names n name old mid new h e before (inl kept) = (n, kept ∙ before)
next_started names n name old mid new h e before (inr more) = (n + 1, one_started names n name old mid new h e before more)
