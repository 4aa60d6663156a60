-- How the code that finds a construct's end meets its definition.
use Rattle.std.proofs.Common.{◌≡◌, ◌≢◌, ℕ, suc, ◌+◌, ◌<◌, ◌≤◌, ◌==◌, Bool, true, false, ◌&&◌, ◌||◌, if◌then◌else◌, List, [], ◌∷◌, ◌++◌, zero, length, take, drop, Option, Some, None, option_map, is_none, refl, sym, ap, ◌∙◌, subst, arith, rules, bytes_eq, get_or, drop-cons, add-one, append_assoc, append-nil, length-append, length-drop, codes, ⊎_elim, inl, inr}
use Rattle.std.proofs.lemmas.Bool.{and_parts, cases_lt, not-true}
use Rattle.std.proofs.lemmas.List.{get_or_append_left, drop-append-le}
use Rattle.std.proofs.Math.ListN.{drop_of_length-le}
use Rattle.std.specs.List.{list_all}
use Rattle.page_constructs.specs.Stops.{is_text, is_plain, flipped, flips, double}
use Rattle.page_constructs.specs.Constructs.{starts, starts_white, after, after_tag, text_size, kind_of, with_front, size_by, size}
use Rattle.page_constructs.specs.Searches.{seek, skipped, further, GoesOn, IsSought}
use Rattle.page_constructs.specs.declared.kind.Kind.{Kind}
use Rattle.page_constructs.specs.declared.kind.Kind.TheVariants.{Declaration, Instruction, Comment, Cdata, Doctype, Unknown, EndTag, StartTag, Reference, Text}
use Rattle.page_constructs.specs.declared.size.Sought.{Sought}
use Rattle.std.proofs.lemmas.Bool.Decides.{Decides-eqb}
use Rattle.page_constructs.proofs.CutLaws.{starts-append, after-length}
use Rattle.page_constructs.proofs.SpanLaws.{one_number, same_or, or_left, or_right}

pub starts_bytes : (p t : List ℕ) → starts p t ≡ bytes_eq (take (length p) t) p
starts_bytes [] t = refl
starts_bytes (p ∷ ps) [] = refl
starts_bytes (p ∷ ps) (c ∷ t) = ap (λ b. c == p && b) (starts_bytes ps t)

pub drop-next : (t : List ℕ) (i : ℕ) → i < length t → drop i t ≡ get_or t i 0 ∷ drop (i + 1) t
drop-next t i h = rw add-one (drop-cons t i 0 h)

-- one byte more of a text that others follow
at-more : (t ds : List ℕ) (i : ℕ) → i < length t → drop i (t ++ ds) ≡ get_or t i 0 ∷ drop (i + 1) (t ++ ds)
at-more t ds i h =
    let l = length-append t ds in
    drop-next (t ++ ds) i (omega arith) ∙ ap (λ c. c ∷ drop (i + 1) (t ++ ds)) (search (rules, get_or_append_left))

pub further-zero : (o : Option ℕ) → further 0 o ≡ o
further-zero None = refl
further-zero (Some k) = ap Some (omega arith)

further-suc : (n : ℕ) (o : Option ℕ) → further n (option_map suc o) ≡ further (n + 1) o
further-suc n None = refl
further-suc n (Some k) = ap Some (omega arith)

-- a search goes past a byte
pub past-byte : (f g : List ℕ → Option ℕ) (t : List ℕ) (i : ℕ) → i < length t → ((cs : List ℕ) → f (get_or t i 0 ∷ cs) ≡ option_map suc (g cs)) → GoesOn f i g (i + 1) t
past-byte f g t i h e ds =
    ap (λ x. further i (f x)) (at-more t ds i h) ∙ ap (further i) (e (drop (i + 1) (t ++ ds))) ∙ further-suc i (g (drop (i + 1) (t ++ ds)))

-- a text goes on through bytes that don't end it
pub past-text : (n : ℕ) (t : List ℕ) (i : ℕ) → i + n ≤ length t → list_all is_text (take n (drop i t)) ≡ true → GoesOn text_size i text_size (i + n) t
past-text zero t i h a = λ more. let same : i ≡ i + 0 = omega arith in ap (λ k. further k (text_size (drop k (t ++ more)))) same
past-text (suc n) t i h a =
    let d : drop i t ≡ get_or t i 0 ∷ drop (i + 1) t = drop-next t i (omega arith) in
    let both : (is_text (get_or t i 0) && list_all is_text (take n (drop (i + 1) t))) ≡ true = rw d at a in
    let parts = and_parts (is_text (get_or t i 0)) (list_all is_text (take n (drop (i + 1) t))) both in
    let other = not-true (get_or t i 0 == 60 || get_or t i 0 == 38) parts.0 in
    let on = past-byte text_size text_size t i (omega arith) (λ cs. ap (λ b. if b then Some 0 else option_map suc (text_size cs)) other) in
    let rest = past-text n t (i + 1) (omega arith) parts.1 in
    let place : i + 1 + n ≡ i + suc n = omega arith in
    λ more. on more ∙ rest more ∙ ap (λ k. further k (text_size (drop k (t ++ more)))) place

-- a byte of a tag that isn't `>` or `'`
plain-byte : (inside : Bool) (b : ℕ) → (b == 62 || b == 39) ≡ false → (cs : List ℕ) → after_tag (double inside) (b ∷ cs) ≡ option_map suc (after_tag (double (flipped inside b)) cs)
plain-byte true b e cs = elim (b == 34) as (λ x. option_map suc (if x then after_tag None cs else after_tag (Some 34) cs) ≡ option_map suc (after_tag (double (if x then false else true)) cs)) [ true ↦ refl | false ↦ refl ]
plain-byte false b e cs = elim (same_or b 34) as (λ x. after_tag None (b ∷ cs) ≡ option_map suc (after_tag (double (flipped false b)) cs)) [
  | inl same ↦ subst (λ x. after_tag None (x ∷ cs) ≡ option_map suc (after_tag (double (flipped false x)) cs)) (sym same) refl
  | inr n ↦ rw (or_left (b == 62) (b == 39) e, n, or_right (b == 62) (b == 39) e) refl
]

-- a tag goes on through such bytes
pub past-tag : (n : ℕ) (t : List ℕ) (i : ℕ) (inside : Bool) → i + n ≤ length t → list_all is_plain (take n (drop i t)) ≡ true
    → GoesOn (after_tag (double inside)) i (after_tag (double (flips inside (take n (drop i t))))) (i + n) t
past-tag zero t i inside h a = λ more. let same : i ≡ i + 0 = omega arith in ap (λ k. further k (after_tag (double inside) (drop k (t ++ more)))) same
past-tag (suc n) t i inside h a =
    let b = get_or t i 0 in
    let left = drop (i + 1) t in
    let next = flipped inside b in
    let d : drop i t ≡ b ∷ left = drop-next t i (omega arith) in
    let both : (is_plain b && list_all is_plain (take n left)) ≡ true = rw d at a in
    let parts = and_parts (is_plain b) (list_all is_plain (take n left)) both in
    let other = not-true (b == 62 || b == 39) parts.0 in
    let on = past-byte (after_tag (double inside)) (after_tag (double next)) t i (omega arith) (λ cs. plain-byte inside b other cs) in
    let rest = past-tag n t (i + 1) next (omega arith) parts.1 in
    let place : i + 1 + n ≡ i + suc n = omega arith in
    let whole : flips inside (take (suc n) (drop i t)) ≡ flips next (take n left) = ap (λ x. flips inside (take (suc n) x)) d in
    λ more. on more ∙ rest more ∙ ap (λ k. further k (after_tag (double (flips next (take n left))) (drop k (t ++ more)))) place
    ∙ ap (λ q. further (i + suc n) (after_tag (double q) (drop (i + suc n) (t ++ more)))) (sym whole)

-- it ends at a byte
pub at-byte : (f : List ℕ → Option ℕ) (t : List ℕ) (i k : ℕ) → i < length t → ((cs : List ℕ) → f (get_or t i 0 ∷ cs) ≡ Some k) → further i (f (drop i t)) ≡ Some (i + k)
at-byte f t i k h e = ap (λ x. further i (f x)) (drop-next t i h) ∙ ap (further i) (e (drop (i + 1) t))

-- nothing is found where nothing is left
pub at-end : (f : List ℕ → Option ℕ) (t : List ℕ) (i : ℕ) → f [] ≡ None → length t ≤ i → further i (f (drop i t)) ≡ None
at-end f t i n h = ap (λ x. further i (f x)) (drop_of_length-le t h) ∙ ap (further i) n

-- what goes on whatever follows goes on with nothing
pub goes-here : (f g : List ℕ → Option ℕ) (t : List ℕ) (i j : ℕ) → GoesOn f i g j t → further i (f (drop i t)) ≡ further j (g (drop j t))
goes-here f g t i j e =
    ap (λ x. further i (f (drop i x))) (sym (append-nil t)) ∙ e [] ∙ ap (λ x. further j (g (drop j x))) (append-nil t)

pub after-next : (ends t : List ℕ) (i : ℕ) → i < length t → length ends + i ≤ length t → starts ends (drop i t) ≡ false → GoesOn (after ends) i (after ends) (i + 1) t
after-next ends t i h room s ds =
    let d = at-more t ds i h in
    let l = length-drop i t in
    let here : starts ends (drop i (t ++ ds)) ≡ false = ap (starts ends) (drop-append-le i t ds (omega arith)) ∙ starts-append ends (drop i t) ds (omega arith) ∙ s in
    let q : starts ends (get_or t i 0 ∷ drop (i + 1) (t ++ ds)) ≡ false = ap (starts ends) (sym d) ∙ here in
    ap (λ x. further i (after ends x)) d
    ∙ ap (λ b. further i (if b then Some (length ends) else option_map suc (after ends (drop (i + 1) (t ++ ds))))) q
    ∙ further-suc i (after ends (drop (i + 1) (t ++ ds)))

pub after-here : (ends t : List ℕ) (i : ℕ) → i < length t → starts ends (drop i t) ≡ true → further i (after ends (drop i t)) ≡ Some (i + length ends)
after-here ends t i h s =
    let d = drop-next t i h in
    let q : starts ends (get_or t i 0 ∷ drop (i + 1) t) ≡ true = ap (starts ends) (sym d) ∙ s in
    ap (further i) (ap (after ends) d ∙ ap (λ b. if b then Some (length ends) else option_map suc (after ends (drop (i + 1) t))) q)

-- too few bytes are left
pub after-short : (ends t : List ℕ) (i : ℕ) → (i < length t → length t < length ends + i) → further i (after ends (drop i t)) ≡ None
after-short ends t i h = (elim (after ends (drop i t)) as (λ o. after ends (drop i t) ≡ o → further i o ≡ None) [
  | None ↦ λ e. refl
  | Some k ↦ λ e. absurd (let b = after-length ends (drop i t) k e in let l = length-drop i t in let c = cases_lt i (length t) in
      ⊎_elim (λ few. let m = h few in omega (arith, b.0, b.1)) (λ none. let z : after ends (drop i t) ≡ None = ap (after ends) (drop_of_length-le t none) in cc) c)
]) refl

-- a construct's size is what is found behind its first bytes
behind-further : (n : ℕ) (o : Option ℕ) → with_front n o ≡ further n o
behind-further n None = refl
behind-further n (Some k) = ap Some (omega arith)

pub size-found : (kind : Kind) (cs : List ℕ) → size_by kind cs ≡ further (skipped kind) (seek kind None (drop (skipped kind) cs))
unfolding size_by
size-found Declaration cs = behind-further 1 _
size-found Instruction cs = behind-further 1 _
size-found Comment cs = behind-further 4 _
size-found Cdata cs = behind-further 9 _
size-found Doctype cs = behind-further 9 _
size-found Unknown cs = behind-further 2 _
size-found EndTag cs = behind-further 2 _
size-found StartTag cs = behind-further 1 _
size-found Reference cs = behind-further 1 _
size-found Text cs = behind-further 1 _

-- nine bytes say what a construct is
white-stays : (cs more : List ℕ) → 5 < length cs → starts_white (drop 5 (cs ++ more)) ≡ starts_white (drop 5 cs)
white-stays cs more h = ap starts_white (drop-append-le 5 cs more (omega arith)) ∙ by_rest (drop 5 cs) (let l = length-drop 5 cs in omega arith) where
  by_rest : (r : List ℕ) → 0 < length r → starts_white (r ++ more) ≡ starts_white r
  by_rest [] p = absurd (omega arith)
  by_rest (c ∷ r) p = refl

pub kind-stays : (first : Bool) (cs more : List ℕ) → 9 ≤ length cs → kind_of first (cs ++ more) ≡ kind_of first cs
unfolding kind_of
kind-stays first cs more h =
    rw (
      starts-append (codes "<?") cs more (omega arith),
      starts-append (codes "<?xml") cs more (omega arith),
      white-stays cs more (omega arith),
      starts-append (codes "<!--") cs more (omega arith),
      starts-append (codes "<![CDATA[") cs more (omega arith),
      starts-append (codes "<!DOCTYPE") cs more (omega arith),
      starts-append (codes "<!") cs more (omega arith),
      starts-append (codes "</") cs more (omega arith),
      starts-append (codes "<") cs more (omega arith),
      starts-append (codes "&") cs more (omega arith),
    ) refl

-- what was looked for stays so when more bytes come
pub sought-more : (first : Bool) (cs ds : List ℕ) (s : Sought) → IsSought first cs s → IsSought first (cs ++ ds) s
sought-more first cs ds s h n =
    let q = h n in
    let kind = q.stays ds in
    record {
      stays = λ more. ap (kind_of first) (append_assoc cs ds more) ∙ q.stays (ds ++ more) ∙ sym kind;
      goes = λ more. ap (λ x. size_by x ((cs ++ ds) ++ more)) kind
          ∙ subst (λ x. size_by (kind_of first cs) x ≡ further s.at (seek (kind_of first cs) s.quote (drop s.at x))) (sym (append_assoc cs ds more)) (q.goes (ds ++ more))
          ∙ ap (λ x. further s.at (seek x s.quote (drop s.at ((cs ++ ds) ++ more)))) (sym kind);
    }

pub sought-none : (first : Bool) (cs : List ℕ) (s : Sought) → s.at ≡ 0 → IsSought first cs s
sought-none first cs s e n = absurd (n e)

pub same-number : (a b : ℕ) → a ≡ b → (a == b) ≡ true
same-number a b e = (Decides-eqb a b).1 e

pub other-number : (a b : ℕ) → a ≢ b → (a == b) ≡ false
other-number a b n = (elim (a == b) as (λ t. (a == b) ≡ t → t ≡ false) [ true ↦ λ e. absurd (n (one_number a b e)) | false ↦ λ e. refl ]) refl

pub tag-ends : (quote : Option ℕ) (b : ℕ) → (is_none quote && (b == 62)) ≡ true → (cs : List ℕ) → after_tag quote (b ∷ cs) ≡ Some 1
tag-ends None b e cs = ap (λ t. if t then Some 1 else option_map suc (if b == 34 || b == 39 then after_tag (Some b) cs else after_tag None cs)) e
tag-ends (Some q) b e cs = absurd (cc)

pub tag-none : (quote : Option ℕ) → after_tag quote [] ≡ None
tag-none None = refl
tag-none (Some q) = refl

-- what is found from a place on is the size of the first construct
pub found-size : (first : Bool) (cs : List ℕ) (old from : Sought) (kind : Kind) → kind ≡ kind_of first cs
    → ((more : List ℕ) → size_by kind (cs ++ more) ≡ further from.at (seek kind from.quote (drop from.at (cs ++ more))))
    → further from.at (seek kind from.quote (drop from.at cs)) ≡ size first cs
found-size first cs old from kind k h =
    sym (subst (λ x. size_by kind x ≡ further from.at (seek kind from.quote (drop from.at x))) (append-nil cs) (h [])) ∙ ap (λ x. size_by x cs) k

-- a search that goes on is one of the first construct
pub seeks-on : (first : Bool) (cs : List ℕ) (from to : Sought) (kind : Kind) → kind ≡ kind_of first cs → 9 ≤ length cs
    → ((more : List ℕ) → size_by kind (cs ++ more) ≡ further from.at (seek kind from.quote (drop from.at (cs ++ more))))
    → GoesOn (seek kind from.quote) from.at (seek kind to.quote) to.at cs → IsSought first cs to
seeks-on first cs from to kind k long h g n = record {
  stays = λ more. kind-stays first cs more long;
  goes = λ more. subst (λ x. size_by x (cs ++ more) ≡ further to.at (seek x to.quote (drop to.at (cs ++ more)))) k (h more ∙ g more);
}
