-- Pages that lie in memory, as a source would tell them.
use Rattle.std.proofs.Common.{◌≡◌, ◌∙◌, ap, sym, refl, subst, ℕ, ◌+◌, ◌≤◌, ◌<◌, List, [], ◌∷◌, length, map, drop, get_or, Option, Some}
use Rattle.std.proofs.Math.ListN.{drop_of_length-le}
use Rattle.std.proofs.lemmas.List.{get_or-map, length-map}
use Rattle.ix_base.specs.declared.limits.TheConstants.{MOST_BYTES}
use Rattle.ix_base.specs.declared.memory.pages.MemPage.{MemPage}
use Rattle.page_verdicts.specs.CommandBytes.{AreSome}
use Rattle.page_verdicts.specs.PageReads.{HasReadSome, IsRead, IsSound, ReadsOn}
use Rattle.page_session.specs.Sources.{told, told_both}
use Rattle.page_verdicts.specs.declared.read_pages.Forest.{Forest}
use Rattle.page_verdicts.proofs.ForestLaws.{next_of, read_more, some_is_sound, some_over, some_read}

-- a source that tells of each name the name itself
told_self : (bs : List (List ℕ)) → told Some bs ≡ Some bs
told_self [] = refl
told_self (b ∷ bs) = ap (told_both (Some b)) (told_self bs)

pub some_is : (o : Option (List (List ℕ))) (bs : List (List ℕ)) (P : List (List ℕ) → Type 0) → o ≡ Some bs → AreSome o P → P bs
some_is o bs P e some =
    let h : AreSome (Some bs) P = subst (λ (x : Option (List (List ℕ))). AreSome x P) e some in
    subst P (sym h.1) h.2

-- what is so of what it tells is so of the pages
of_all : (bs : List (List ℕ)) (P : List (List ℕ) → Type 0) → AreSome (told Some bs) P → P bs
of_all bs P some = some_is (told Some bs) bs P (told_self bs) some

-- what the pages from this one on hold
cut_page : (pages : List MemPage) (n : ℕ) (page : MemPage) → n < length pages → page ≡ get_or pages n page
    → drop n (map (λ p. p.bytes) pages) ≡ page.bytes ∷ drop (n + 1) (map (λ p. p.bytes) pages)
cut_page pages n page h e =
    let all = map (λ (p : MemPage). p.bytes) pages in
    let within : n < length all = subst (λ k. n < k) (sym (length-map pages (λ p. p.bytes))) h in
    next_of all n page.bytes within (ap (λ (p : MemPage). p.bytes) e ∙ sym (get_or-map (λ p. p.bytes) pages n page page.bytes h))

module _ (pages : List MemPage) (n : ℕ) (page : MemPage) (f g : Forest) (within : n < length pages) (is : page ≡ get_or pages n page)
    (on : ReadsOn (Some page.bytes) (Some []) n f g)
    (before : HasReadSome Some (map (λ p. p.bytes) pages) (drop n (map (λ p. p.bytes) pages)) n f)
  where
    cut_before : HasReadSome Some (map (λ p. p.bytes) pages) (page.bytes ∷ drop (n + 1) (map (λ p. p.bytes) pages)) n f
    cut_before = subst (λ (r : List (List ℕ)). HasReadSome Some (map (λ p. p.bytes) pages) r n f) (cut_page pages n page within is) before

    -- one more page was built
    pub built_more : g.sums.bytes ≤ MOST_BYTES
        → HasReadSome Some (map (λ p. p.bytes) pages) (drop (n + 1) (map (λ p. p.bytes) pages)) (n + 1) g
    built_more most = read_more Some (map (λ p. p.bytes) pages) page.bytes (drop (n + 1) (map (λ p. p.bytes) pages)) n (Some []) f g most on (λ m some. refl) cut_before

    -- the limit is passed
    pub built_over : MOST_BYTES < g.sums.bytes → IsRead (map (λ p. p.bytes) pages) g
    built_over over = of_all (map (λ p. p.bytes) pages) (λ bs. IsRead bs g)
        (some_over Some (map (λ p. p.bytes) pages) page.bytes (drop (n + 1) (map (λ p. p.bytes) pages)) n (Some []) f g over on cut_before)

-- all pages were built
pub built_all : (pages : List MemPage) (n : ℕ) (f : Forest) → length pages ≤ n
    → HasReadSome Some (map (λ p. p.bytes) pages) (drop n (map (λ p. p.bytes) pages)) n f → IsRead (map (λ p. p.bytes) pages) f
built_all pages n f past h =
    let all = map (λ (p : MemPage). p.bytes) pages in
    let behind : length all ≤ n = subst (λ k. k ≤ n) (sym (length-map pages (λ p. p.bytes))) past in
    of_all all (λ bs. IsRead bs f) (some_read Some all (drop n all) n f (drop_of_length-le all behind) h)

-- they are as many as their names
pub built_sound : (pages : List MemPage) (n : ℕ) (f : Forest) → n ≡ length pages
    → HasReadSome Some (map (λ p. p.bytes) pages) (drop n (map (λ p. p.bytes) pages)) n f → IsSound (map (λ p. p.name) pages) f
built_sound pages n f end h = λ e.
    let all = map (λ (p : MemPage). p.bytes) pages in
    let whole : n ≡ length all = end ∙ sym (length-map pages (λ p. p.bytes)) in
    let read = some_is_sound Some all (drop n all) n f whole h e in
    (read.0, read.1, read.2 ∙ (length-map pages (λ p. p.bytes) ∙ sym (length-map pages (λ p. p.name))))
