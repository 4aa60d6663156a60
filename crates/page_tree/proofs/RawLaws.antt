-- Constructs end at the same bytes of a page whether its line ends are unified or not.
use Rattle.std.proofs.Common.{◌≡◌, ◌∙◌, ℕ, suc, ◌+◌, ◌==◌, Bool, true, false, ◌&&◌, ◌||◌, not, if◌then◌else◌, List, [], ◌∷◌, length, drop, Option, Some, None, option_map, refl, sym, ap, subst, arith, codes}
use Rattle.std.specs.List.{list_all}
use Rattle.std.proofs.lemmas.Bool.{and_parts, not-true}
use Rattle.std.proofs.lemmas.List.{drop-map}
use Rattle.std.proofs.Math.ListN.{drop_of_length-le}
use Rattle.std.proofs.lemmas.Bool.Decides.{nat_tests}
use Rattle.ix_base.specs.NcName.{is_white}
use Rattle.page_constructs.specs.Constructs.{Byte, values, starts, after, after_tag, text_size, reference_size, starts_white, kind_of, with_front, size_by, size, is_run, settled_or, whole_size}
use Rattle.page_tree.specs.Raw.{raw}
use Rattle.page_constructs.specs.declared.kind.Kind.{Kind}
use Rattle.page_constructs.specs.declared.kind.Kind.TheVariants.{Declaration, Instruction, Comment, Cdata, Doctype, Unknown, EndTag, StartTag, Reference, Text}
use Rattle.page_tree.proofs.EndLaws.{front_of, kind-starts}
use Rattle.page_tree.proofs.PlacingLaws.{drop-behind}
use Rattle.page_constructs.proofs.SpanLaws.{one_number, clash}

-- What is behind a number of bytes, where the unified text has so many and the bytes so many: nothing of either, or the same.
abbrev pub IsPast : ℕ → List Byte → List ℕ → Option ℕ → Option ℕ → Type 0
IsPast at us bs None None = Unit {0}
IsPast at us bs (Some k) (Some j) = drop k us ≡ raw false (at + j) (drop j bs)
IsPast at us bs o p = ⊥

-- one byte further, and a byte that the unified text hasn't
further : (at : ℕ) (u : Byte) (us : List Byte) (c : ℕ) (bs : List ℕ) (o p : Option ℕ) → IsPast (at + 1) us bs o p → IsPast at (u ∷ us) (c ∷ bs) (option_map suc o) (option_map suc p)
further at u us c bs None None h = tt
further at u us c bs (Some k) (Some j) h = h ∙ ap (λ n. raw false n (drop j bs)) (omega arith)
further at u us c bs None (Some j) h = absurd h
further at u us c bs (Some k) None h = absurd h

skipped : (at : ℕ) (us : List Byte) (c : ℕ) (bs : List ℕ) (o p : Option ℕ) → IsPast (at + 1) us bs o p → IsPast at us (c ∷ bs) o (option_map suc p)
skipped at us c bs None None h = tt
skipped at us c bs (Some k) (Some j) h = h ∙ ap (λ n. raw false n (drop j bs)) (omega arith)
skipped at us c bs None (Some j) h = absurd h
skipped at us c bs (Some k) None h = absurd h

-- a byte in front of the others, by what it is

pub data Byte_case (cr : Bool) (c : ℕ) : Type 0 where
  returns : (c == 13) ≡ true → Byte_case cr c
  skips : cr ≡ true → (c == 13) ≡ false → (c == 10) ≡ true → Byte_case cr c
  stays : (c == 13) ≡ false → (cr && (c == 10)) ≡ false → Byte_case cr c

pub byte-case : (cr : Bool) (c : ℕ) → Byte_case cr c
byte-case true c = by (c == 13) (c == 10) refl refl where
  by : (x y : Bool) → (c == 13) ≡ x → (c == 10) ≡ y → Byte_case true c
  by true y e f = returns e
  by false true e f = skips refl e f
  by false false e f = stays e f
byte-case false c = by (c == 13) refl where
  by : (x : Bool) → (c == 13) ≡ x → Byte_case false c
  by true e = returns e
  by false e = stays e refl

pub raw-returns : (cr : Bool) (c at : ℕ) (bs : List ℕ) → (c == 13) ≡ true → raw cr at (c ∷ bs) ≡ record { value = 10; at = at } ∷ raw true (at + 1) bs
raw-returns cr c at bs e = rw e refl

pub raw-skips : (cr : Bool) (c at : ℕ) (bs : List ℕ) → cr ≡ true → (c == 13) ≡ false → (c == 10) ≡ true → raw cr at (c ∷ bs) ≡ raw false (at + 1) bs
raw-skips cr c at bs g e f = rw (g, e, f) refl

pub raw-stays : (cr : Bool) (c at : ℕ) (bs : List ℕ) → (c == 13) ≡ false → (cr && (c == 10)) ≡ false → raw cr at (c ∷ bs) ≡ record { value = c; at = at } ∷ raw false (at + 1) bs
raw-stays cr c at bs e f = rw (e, f) refl

-- what ends before a byte, or with it
ends-here : (cr : Bool) (c at : ℕ) (bs : List ℕ) → (c == 13) ≡ false → (c == 10) ≡ false → IsPast at (raw cr at (c ∷ bs)) (c ∷ bs) (Some 0) (Some 0)
ends-here cr c at bs e f = raw-stays cr c at bs e (any cr f) ∙ sym (raw-stays false c (at + 0) bs e refl ∙ ap (λ n. record { value = c; at = n } ∷ raw false (n + 1) bs) (omega arith)) where
  any : (b : Bool) → (c == 10) ≡ false → (b && (c == 10)) ≡ false
  any true g = g
  any false g = refl

ends-with : (cr : Bool) (c at : ℕ) (bs : List ℕ) → (c == 13) ≡ false → (c == 10) ≡ false → IsPast at (raw cr at (c ∷ bs)) (c ∷ bs) (Some 1) (Some 1)
ends-with cr c at bs e f = ap (drop 1) (raw-stays cr c at bs e (any cr f)) where
  any : (b : Bool) → (c == 10) ≡ false → (b && (c == 10)) ≡ false
  any true g = g
  any false g = refl

-- The same end of two searches: the bytes of the one, where they are known to be these.
same-past : (at : ℕ) (us vs : List Byte) (bs : List ℕ) (o p q r : Option ℕ) → us ≡ vs → o ≡ q → p ≡ r → IsPast at vs bs q r → IsPast at us bs o p
same-past at us vs bs o p q r e f g h =
    let x : IsPast at us bs q r = subst (λ l. IsPast at l bs q r) (sym e) h in
    let y : IsPast at us bs o r = subst (λ z. IsPast at us bs z r) (sym f) x in
    subst (λ z. IsPast at us bs o z) (sym g) y

-- a byte over which a search goes, to another
over : (f g : List ℕ → Option ℕ) (cr : Bool) (c at : ℕ) (bs : List ℕ) → ((cs : List ℕ) → f (c ∷ cs) ≡ option_map suc (g cs)) → ((cs : List ℕ) → f (10 ∷ cs) ≡ option_map suc (f cs))
    → ((c == 13) ≡ true → (cs : List ℕ) → f (c ∷ cs) ≡ option_map suc (f cs)) → ((c == 10) ≡ true → (cs : List ℕ) → f (c ∷ cs) ≡ option_map suc (f cs))
    → ((b : Bool) → IsPast (at + 1) (raw b (at + 1) bs) bs (f (values (raw b (at + 1) bs))) (f bs)) → IsPast (at + 1) (raw false (at + 1) bs) bs (g (values (raw false (at + 1) bs))) (g bs)
    → IsPast at (raw cr at (c ∷ bs)) (c ∷ bs) (f (values (raw cr at (c ∷ bs)))) (f (c ∷ bs))
over f g cr c at bs on feed return_ line ih jh = by (byte-case cr c) where
  by : Byte_case cr c → IsPast at (raw cr at (c ∷ bs)) (c ∷ bs) (f (values (raw cr at (c ∷ bs)))) (f (c ∷ bs))
  by (returns e) =
      same-past at (raw cr at (c ∷ bs)) (record { value = 10; at = at } ∷ raw true (at + 1) bs) (c ∷ bs) (f (values (raw cr at (c ∷ bs)))) (f (c ∷ bs))
      (option_map suc (f (values (raw true (at + 1) bs)))) (option_map suc (f bs)) (raw-returns cr c at bs e)
      (ap (λ l. f (values l)) (raw-returns cr c at bs e) ∙ feed (values (raw true (at + 1) bs))) (return_ e bs)
      (further at (record { value = 10; at = at }) (raw true (at + 1) bs) c bs (f (values (raw true (at + 1) bs))) (f bs) (ih true))
  by (skips h e k) =
      same-past at (raw cr at (c ∷ bs)) (raw false (at + 1) bs) (c ∷ bs) (f (values (raw cr at (c ∷ bs)))) (f (c ∷ bs))
      (f (values (raw false (at + 1) bs))) (option_map suc (f bs)) (raw-skips cr c at bs h e k)
      (ap (λ l. f (values l)) (raw-skips cr c at bs h e k)) (line k bs)
      (skipped at (raw false (at + 1) bs) c bs (f (values (raw false (at + 1) bs))) (f bs) (ih false))
  by (stays e k) =
      same-past at (raw cr at (c ∷ bs)) (record { value = c; at = at } ∷ raw false (at + 1) bs) (c ∷ bs) (f (values (raw cr at (c ∷ bs)))) (f (c ∷ bs))
      (option_map suc (g (values (raw false (at + 1) bs)))) (option_map suc (g bs)) (raw-stays cr c at bs e k)
      (ap (λ l. f (values l)) (raw-stays cr c at bs e k) ∙ on (values (raw false (at + 1) bs))) (on bs)
      (further at (record { value = c; at = at }) (raw false (at + 1) bs) c bs (g (values (raw false (at + 1) bs))) (g bs) jh)

-- where a search ends at a byte that is no line end
at-byte : (f : List ℕ → Option ℕ) (n : ℕ) (cr : Bool) (c at : ℕ) (bs : List ℕ) → (c == 13) ≡ false → (c == 10) ≡ false → ((cs : List ℕ) → f (c ∷ cs) ≡ Some n)
    → IsPast at (raw cr at (c ∷ bs)) (c ∷ bs) (Some n) (Some n) → IsPast at (raw cr at (c ∷ bs)) (c ∷ bs) (f (values (raw cr at (c ∷ bs)))) (f (c ∷ bs))
at-byte f n cr c at bs e k on h =
    same-past at (raw cr at (c ∷ bs)) (raw cr at (c ∷ bs)) (c ∷ bs) (f (values (raw cr at (c ∷ bs)))) (f (c ∷ bs)) (Some n) (Some n) refl
    (ap (λ l. f (values l)) (raw-stays cr c at bs e (any cr k)) ∙ on (values (raw false (at + 1) bs))) (on bs) h where
      any : (b : Bool) → (c == 10) ≡ false → (b && (c == 10)) ≡ false
      any true g = g
      any false g = refl

-- texts
stops-text : (c : ℕ) → (c == 60 || c == 38) ≡ true → ((c == 13) ≡ false) × ((c == 10) ≡ false)
stops-text c h = (grind (arith, nat_tests), grind (arith, nat_tests))

pub text-past : (bs : List ℕ) (cr : Bool) (at : ℕ) → IsPast at (raw cr at bs) bs (text_size (values (raw cr at bs))) (text_size bs)
text-past [] cr at = tt
text-past (c ∷ bs) cr at = by (c == 60 || c == 38) refl (λ b. text-past bs b (at + 1)) where
  by : (b : Bool) → (c == 60 || c == 38) ≡ b → ((b : Bool) → IsPast (at + 1) (raw b (at + 1) bs) bs (text_size (values (raw b (at + 1) bs))) (text_size bs))
      → IsPast at (raw cr at (c ∷ bs)) (c ∷ bs) (text_size (values (raw cr at (c ∷ bs)))) (text_size (c ∷ bs))
  by true e ih =
      let s = stops-text c e in
      at-byte text_size 0 cr c at bs s.0 s.1 (λ cs. rw e refl) (ends-here cr c at bs s.0 s.1)
  by false e ih = over text_size text_size cr c at bs (λ cs. rw e refl) (λ cs. refl) (λ k cs. rw e refl) (λ k cs. rw e refl) ih (ih false)

-- tags, inside a quote or outside
after-none : (c : ℕ) (cs : List ℕ) → (c == 62) ≡ false → (c == 34 || c == 39) ≡ false → after_tag None (c ∷ cs) ≡ option_map suc (after_tag None cs)
after-none c cs e f = rw (e, f) refl

pub tag-past : (bs : List ℕ) (quote : Option ℕ) (cr : Bool) (at : ℕ) → ((q : ℕ) → quote ≡ Some q → ((10 == q) ≡ false) × ((13 == q) ≡ false))
    → IsPast at (raw cr at bs) bs (after_tag quote (values (raw cr at bs))) (after_tag quote bs)
tag-past [] quote cr at h = tt
tag-past (c ∷ bs) None cr at h = by (c == 62) refl (c == 34 || c == 39) refl (λ b. tag-past bs None b (at + 1) h) (λ q. tag-past bs (Some c) false (at + 1) q) where
  none-end : (c == 62) ≡ true → ((c == 13) ≡ false) × ((c == 10) ≡ false)
  none-end e = (grind (arith, nat_tests), grind (arith, nat_tests))

  quoted : (c == 34 || c == 39) ≡ true → (q : ℕ) → Some c ≡ Some q → ((10 == q) ≡ false) × ((13 == q) ≡ false)
  quoted e q k = (let s : c ≡ q = cc in subst (λ x. ((10 == x) ≡ false) × ((13 == x) ≡ false)) s (grind (arith, nat_tests), grind (arith, nat_tests)))

  not-line : (c == 34 || c == 39) ≡ true → ((c == 13) ≡ false) × ((c == 10) ≡ false)
  not-line e = (grind (arith, nat_tests), grind (arith, nat_tests))

  by : (x : Bool) → (c == 62) ≡ x → (y : Bool) → (c == 34 || c == 39) ≡ y
      → ((b : Bool) → IsPast (at + 1) (raw b (at + 1) bs) bs (after_tag None (values (raw b (at + 1) bs))) (after_tag None bs))
      → (((q : ℕ) → Some c ≡ Some q → ((10 == q) ≡ false) × ((13 == q) ≡ false)) → IsPast (at + 1) (raw false (at + 1) bs) bs (after_tag (Some c) (values (raw false (at + 1) bs))) (after_tag (Some c) bs))
      → IsPast at (raw cr at (c ∷ bs)) (c ∷ bs) (after_tag None (values (raw cr at (c ∷ bs)))) (after_tag None (c ∷ bs))
  by true e y f ih jh = at-byte (after_tag None) 1 cr c at bs (none-end e).0 (none-end e).1 (λ cs. rw e refl) (ends-with cr c at bs (none-end e).0 (none-end e).1)
  by false e true f ih jh =
      over (after_tag None) (after_tag (Some c)) cr c at bs (λ cs. rw (e, f) refl) (λ cs. refl)
      (λ k cs. clash (c == 13) k (not-line f).0) (λ k cs. clash (c == 10) k (not-line f).1) ih (jh (quoted f))
  by false e false f ih jh = over (after_tag None) (after_tag None) cr c at bs (λ cs. after-none c cs e f) (λ cs. refl) (λ k cs. after-none c cs e f) (λ k cs. after-none c cs e f) ih (ih false)
tag-past (c ∷ bs) (Some q) cr at h = by (c == q) refl (λ b. tag-past bs (Some q) b (at + 1) h) (tag-past bs None false (at + 1) (λ x k. absurd (cc))) where
  line-feed : (10 == q) ≡ false
  line-feed = (h q refl).0

  by : (x : Bool) → (c == q) ≡ x → ((b : Bool) → IsPast (at + 1) (raw b (at + 1) bs) bs (after_tag (Some q) (values (raw b (at + 1) bs))) (after_tag (Some q) bs))
      → IsPast (at + 1) (raw false (at + 1) bs) bs (after_tag None (values (raw false (at + 1) bs))) (after_tag None bs)
      → IsPast at (raw cr at (c ∷ bs)) (c ∷ bs) (after_tag (Some q) (values (raw cr at (c ∷ bs)))) (after_tag (Some q) (c ∷ bs))
  by true e ih jh =
      over (after_tag (Some q)) (after_tag None) cr c at bs (λ cs. rw e refl) (λ cs. rw (line-feed) refl)
      (λ k cs. clash (13 == q) (ap (λ x. x == q) (sym (one_number c 13 k)) ∙ e) (h q refl).1) (λ k cs. clash (10 == q) (ap (λ x. x == q) (sym (one_number c 10 k)) ∙ e) line-feed) ih jh
  by false e ih jh = over (after_tag (Some q)) (after_tag (Some q)) cr c at bs (λ cs. rw e refl) (λ cs. rw (line-feed) refl) (λ k cs. rw e refl) (λ k cs. rw e refl) ih (ih false)

-- references, in which no line end stands
pub reference-past : (bs : List ℕ) (at : ℕ) → IsPast at (raw false at bs) bs (reference_size (values (raw false at bs))) (reference_size bs)
reference-past [] at = tt
reference-past (c ∷ bs) at = by (byte-case false c) (reference-past bs (at + 1)) where
  by : Byte_case false c → IsPast (at + 1) (raw false (at + 1) bs) bs (reference_size (values (raw false (at + 1) bs))) (reference_size bs)
      → IsPast at (raw false at (c ∷ bs)) (c ∷ bs) (reference_size (values (raw false at (c ∷ bs)))) (reference_size (c ∷ bs))
  by (returns e) ih =
      let is : c ≡ 13 = one_number c 13 e in
      same-past at (raw false at (c ∷ bs)) (raw false at (c ∷ bs)) (c ∷ bs) (reference_size (values (raw false at (c ∷ bs)))) (reference_size (c ∷ bs)) (Some 0) (Some 0) refl
      (ap (λ l. reference_size (values l)) (raw-returns false c at bs e)) (ap (λ x. reference_size (x ∷ bs)) is) (ap (λ n. raw false n (c ∷ bs)) (omega arith))
  by (skips h e k) ih = absurd (cc)
  by (stays e k) ih = on (c == 59) refl (is_white c || c == 60 || c == 38) refl where
    on : (x : Bool) → (c == 59) ≡ x → (y : Bool) → (is_white c || c == 60 || c == 38) ≡ y
        → IsPast at (raw false at (c ∷ bs)) (c ∷ bs) (reference_size (values (raw false at (c ∷ bs)))) (reference_size (c ∷ bs))
    on true f y g =
        same-past at (raw false at (c ∷ bs)) (record { value = c; at = at } ∷ raw false (at + 1) bs) (c ∷ bs) (reference_size (values (raw false at (c ∷ bs)))) (reference_size (c ∷ bs)) (Some 1) (Some 1)
        (raw-stays false c at bs e refl) (ap (λ l. reference_size (values l)) (raw-stays false c at bs e refl) ∙ rw f refl) (rw f refl) refl
    on false f true g =
        same-past at (raw false at (c ∷ bs)) (raw false at (c ∷ bs)) (c ∷ bs) (reference_size (values (raw false at (c ∷ bs)))) (reference_size (c ∷ bs)) (Some 0) (Some 0)
        refl (ap (λ l. reference_size (values l)) (raw-stays false c at bs e refl) ∙ rw (f, g) refl) (rw (f, g) refl) (ap (λ n. raw false n (c ∷ bs)) (omega arith))
    on false f false g =
        same-past at (raw false at (c ∷ bs)) (record { value = c; at = at } ∷ raw false (at + 1) bs) (c ∷ bs) (reference_size (values (raw false at (c ∷ bs)))) (reference_size (c ∷ bs))
        (option_map suc (reference_size (values (raw false (at + 1) bs)))) (option_map suc (reference_size bs))
        (raw-stays false c at bs e refl) (ap (λ l. reference_size (values l)) (raw-stays false c at bs e refl) ∙ rw (f, g) refl) (rw (f, g) refl)
        (further at (record { value = c; at = at }) (raw false (at + 1) bs) c bs (reference_size (values (raw false (at + 1) bs))) (reference_size bs) ih)

-- patterns without a line end
abbrev pub is_even : ℕ → Bool
is_even p = not (10 == p) && not (13 == p)

even-parts : (p : ℕ) (ps : List ℕ) → list_all is_even (p ∷ ps) ≡ true → ((10 == p) ≡ false) × ((13 == p) ≡ false) × (list_all is_even ps ≡ true)
even-parts p ps h =
    let z = and_parts (is_even p) (list_all is_even ps) h in
    let y = and_parts (not (10 == p)) (not (13 == p)) z.0 in
    (not-true (10 == p) y.0, not-true (13 == p) y.1, z.1)

pub starts-raw : (ps bs : List ℕ) (at : ℕ) → list_all is_even ps ≡ true → starts ps (values (raw false at bs)) ≡ starts ps bs
starts-raw [] bs at h = refl
starts-raw (p ∷ ps) [] at h = refl
starts-raw (p ∷ ps) (c ∷ bs) at h = by (byte-case false c) (even-parts p ps h) (λ k. starts-raw ps bs (at + 1) k) where
  by : Byte_case false c → ((10 == p) ≡ false) × ((13 == p) ≡ false) × (list_all is_even ps ≡ true) → (list_all is_even ps ≡ true → starts ps (values (raw false (at + 1) bs)) ≡ starts ps bs)
      → starts (p ∷ ps) (values (raw false at (c ∷ bs))) ≡ starts (p ∷ ps) (c ∷ bs)
  by (returns e) q ih =
      ap (λ l. starts (p ∷ ps) (values l)) (raw-returns false c at bs e) ∙ ap (λ b. b && starts ps (values (raw true (at + 1) bs))) q.0
      ∙ sym (ap (λ x. (x == p) && starts ps bs) (one_number c 13 e) ∙ ap (λ b. b && starts ps bs) q.1)
  by (skips x e k) q ih = absurd (cc)
  by (stays e k) q ih = ap (λ l. starts (p ∷ ps) (values l)) (raw-stays false c at bs e refl) ∙ ap (λ b. (c == p) && b) (ih q.2)

pub starts-drop : (ps bs : List ℕ) (at : ℕ) → list_all is_even ps ≡ true → starts ps bs ≡ true → drop (length ps) (raw false at bs) ≡ raw false (at + length ps) (drop (length ps) bs)
starts-drop [] bs at h s = ap (λ n. raw false n bs) (omega arith)
starts-drop (p ∷ ps) [] at h s = absurd (cc)
starts-drop (p ∷ ps) (c ∷ bs) at h s =
    let q = even-parts p ps h in
    let z = and_parts (c == p) (starts ps bs) s in
    let is : c ≡ p = one_number c p z.0 in
    let other : (c == 13) ≡ false = swap (ap (λ x. 13 == x) is ∙ q.1) in
    ap (drop (suc (length ps))) (raw-stays false c at bs other refl)
    ∙ starts-drop ps bs (at + 1) q.2 z.1
    ∙ ap (λ n. raw false n (drop (length ps) bs)) (omega arith) where
      swap : (13 == c) ≡ false → (c == 13) ≡ false
      swap e = grind (arith, nat_tests)

-- the end of a pattern
pub after-past : (p : ℕ) (ps bs : List ℕ) (cr : Bool) (at : ℕ) → list_all is_even (p ∷ ps) ≡ true → IsPast at (raw cr at bs) bs (after (p ∷ ps) (values (raw cr at bs))) (after (p ∷ ps) bs)
after-past p ps [] cr at h = tt
after-past p ps (c ∷ bs) cr at h = by (byte-case cr c) (λ b. after-past p ps bs b (at + 1) h) (even-parts p ps h) where
  none-at : (x : ℕ) (l : List ℕ) → (x == p) ≡ false → after (p ∷ ps) (x ∷ l) ≡ option_map suc (after (p ∷ ps) l)
  none-at x l e = rw e refl

  by : Byte_case cr c → ((b : Bool) → IsPast (at + 1) (raw b (at + 1) bs) bs (after (p ∷ ps) (values (raw b (at + 1) bs))) (after (p ∷ ps) bs))
      → ((10 == p) ≡ false) × ((13 == p) ≡ false) × (list_all is_even ps ≡ true) → IsPast at (raw cr at (c ∷ bs)) (c ∷ bs) (after (p ∷ ps) (values (raw cr at (c ∷ bs)))) (after (p ∷ ps) (c ∷ bs))
  by (returns e) ih q =
      same-past at (raw cr at (c ∷ bs)) (record { value = 10; at = at } ∷ raw true (at + 1) bs) (c ∷ bs) (after (p ∷ ps) (values (raw cr at (c ∷ bs)))) (after (p ∷ ps) (c ∷ bs))
      (option_map suc (after (p ∷ ps) (values (raw true (at + 1) bs)))) (option_map suc (after (p ∷ ps) bs)) (raw-returns cr c at bs e)
      (ap (λ l. after (p ∷ ps) (values l)) (raw-returns cr c at bs e) ∙ none-at 10 (values (raw true (at + 1) bs)) q.0)
      (none-at c bs (ap (λ x. x == p) (one_number c 13 e) ∙ q.1))
      (further at (record { value = 10; at = at }) (raw true (at + 1) bs) c bs (after (p ∷ ps) (values (raw true (at + 1) bs))) (after (p ∷ ps) bs) (ih true))
  by (skips x e k) ih q =
      same-past at (raw cr at (c ∷ bs)) (raw false (at + 1) bs) (c ∷ bs) (after (p ∷ ps) (values (raw cr at (c ∷ bs)))) (after (p ∷ ps) (c ∷ bs))
      (after (p ∷ ps) (values (raw false (at + 1) bs))) (option_map suc (after (p ∷ ps) bs)) (raw-skips cr c at bs x e k)
      (ap (λ l. after (p ∷ ps) (values l)) (raw-skips cr c at bs x e k)) (none-at c bs (ap (λ y. y == p) (one_number c 10 k) ∙ q.0))
      (skipped at (raw false (at + 1) bs) c bs (after (p ∷ ps) (values (raw false (at + 1) bs))) (after (p ∷ ps) bs) (ih false))
  by (stays e k) ih q = on (starts (p ∷ ps) (c ∷ bs)) refl where
    same : raw cr at (c ∷ bs) ≡ raw false at (c ∷ bs)
    same = raw-stays cr c at bs e k ∙ sym (raw-stays false c at bs e refl)

    own : values (raw cr at (c ∷ bs)) ≡ c ∷ values (raw false (at + 1) bs)
    own = ap values (raw-stays cr c at bs e k)

    first : starts (p ∷ ps) (c ∷ values (raw false (at + 1) bs)) ≡ starts (p ∷ ps) (c ∷ bs)
    first = ap (starts (p ∷ ps)) (sym own ∙ ap values same) ∙ starts-raw (p ∷ ps) (c ∷ bs) at h

    on : (b : Bool) → starts (p ∷ ps) (c ∷ bs) ≡ b → IsPast at (raw cr at (c ∷ bs)) (c ∷ bs) (after (p ∷ ps) (values (raw cr at (c ∷ bs)))) (after (p ∷ ps) (c ∷ bs))
    on true s =
        same-past at (raw cr at (c ∷ bs)) (raw false at (c ∷ bs)) (c ∷ bs) (after (p ∷ ps) (values (raw cr at (c ∷ bs)))) (after (p ∷ ps) (c ∷ bs)) (Some (length (p ∷ ps))) (Some (length (p ∷ ps)))
        same (ap (after (p ∷ ps)) own ∙ ap (λ b. if b then Some (length (p ∷ ps)) else option_map suc (after (p ∷ ps) (values (raw false (at + 1) bs)))) (first ∙ s))
        (ap (λ b. if b then Some (length (p ∷ ps)) else option_map suc (after (p ∷ ps) bs)) s) (starts-drop (p ∷ ps) (c ∷ bs) at h s)
    on false s =
        same-past at (raw cr at (c ∷ bs)) (record { value = c; at = at } ∷ raw false (at + 1) bs) (c ∷ bs) (after (p ∷ ps) (values (raw cr at (c ∷ bs)))) (after (p ∷ ps) (c ∷ bs))
        (option_map suc (after (p ∷ ps) (values (raw false (at + 1) bs)))) (option_map suc (after (p ∷ ps) bs)) (raw-stays cr c at bs e k)
        (ap (after (p ∷ ps)) own ∙ ap (λ b. if b then Some (length (p ∷ ps)) else option_map suc (after (p ∷ ps) (values (raw false (at + 1) bs)))) (first ∙ s))
        (ap (λ b. if b then Some (length (p ∷ ps)) else option_map suc (after (p ∷ ps) bs)) s)
        (further at (record { value = c; at = at }) (raw false (at + 1) bs) c bs (after (p ∷ ps) (values (raw false (at + 1) bs))) (after (p ∷ ps) bs) (ih false))

-- what a construct is
white-first : (bs : List ℕ) (at : ℕ) → starts_white (values (raw false at bs)) ≡ starts_white bs
white-first [] at = refl
white-first (c ∷ bs) at = by (byte-case false c) where
  by : Byte_case false c → starts_white (values (raw false at (c ∷ bs))) ≡ starts_white (c ∷ bs)
  by (returns e) = ap (λ l. starts_white (values l)) (raw-returns false c at bs e) ∙ sym (ap is_white (one_number c 13 e))
  by (skips x e k) = absurd (cc)
  by (stays e k) = ap (λ l. starts_white (values l)) (raw-stays false c at bs e refl)

declared-raw : (first : Bool) (bs : List ℕ) (at : ℕ)
    → (first && starts (codes "<?xml") (values (raw false at bs)) && starts_white (drop 5 (values (raw false at bs)))) ≡ (first && starts (codes "<?xml") bs && starts_white (drop 5 bs))
declared-raw first bs at = by (starts (codes "<?xml") bs) refl where
  by : (b : Bool) → starts (codes "<?xml") bs ≡ b
      → (first && starts (codes "<?xml") (values (raw false at bs)) && starts_white (drop 5 (values (raw false at bs)))) ≡ (first && starts (codes "<?xml") bs && starts_white (drop 5 bs))
  by true e =
      ap (λ b. first && b && starts_white (drop 5 (values (raw false at bs)))) (starts-raw (codes "<?xml") bs at refl)
      ∙ ap (λ w. first && starts (codes "<?xml") bs && w) (ap starts_white (drop-map (λ (u : Byte). u.value) 5 (raw false at bs) ∙ ap values (starts-drop (codes "<?xml") bs at refl e)) ∙ white-first (drop 5 bs) (at + 5))
  by false e =
      ap (λ b. first && b && starts_white (drop 5 (values (raw false at bs)))) (starts-raw (codes "<?xml") bs at refl ∙ e)
      ∙ off first (starts_white (drop 5 (values (raw false at bs)))) ∙ sym (ap (λ b. first && b && starts_white (drop 5 bs)) e ∙ off first (starts_white (drop 5 bs))) where
        off : (x y : Bool) → (x && false && y) ≡ false
        off true y = refl
        off false y = refl

pub kind-raw : (first : Bool) (bs : List ℕ) (at : ℕ) → kind_of first (values (raw false at bs)) ≡ kind_of first bs
unfolding kind_of
kind-raw first bs at =
    rw (
      starts-raw (codes "<?") bs at refl,
      declared-raw first bs at,
      starts-raw (codes "<!--") bs at refl,
      starts-raw (codes "<![CDATA[") bs at refl,
      starts-raw (codes "<!DOCTYPE") bs at refl,
      starts-raw (codes "<!") bs at refl,
      starts-raw (codes "</") bs at refl,
      starts-raw (codes "<") bs at refl,
      starts-raw (codes "&") bs at refl,
    ) refl

-- where it ends
front-past : (ps bs : List ℕ) (at n : ℕ) (f : List ℕ → Option ℕ) → n ≡ length ps → list_all is_even ps ≡ true → starts ps bs ≡ true
    → ((at : ℕ) (rest : List ℕ) → IsPast at (raw false at rest) rest (f (values (raw false at rest))) (f rest))
    → IsPast at (raw false at bs) bs (with_front n (f (drop n (values (raw false at bs))))) (with_front n (f (drop n bs)))
front-past ps bs at n f e h s g =
    let split : drop n (raw false at bs) ≡ raw false (at + n) (drop n bs) = ap (λ m. drop m (raw false at bs)) e ∙ starts-drop ps bs at h s ∙ ap (λ m. raw false (at + m) (drop m bs)) (sym e) in
    let said : drop n (values (raw false at bs)) ≡ values (raw false (at + n) (drop n bs)) = drop-map (λ (u : Byte). u.value) n (raw false at bs) ∙ ap values split in
    subst (λ o. IsPast at (raw false at bs) bs (with_front n o) (with_front n (f (drop n bs)))) (sym (ap f said))
    (shifted (f (values (raw false (at + n) (drop n bs)))) (f (drop n bs)) split (g (at + n) (drop n bs))) where
      shifted : (o p : Option ℕ) → drop n (raw false at bs) ≡ raw false (at + n) (drop n bs) → IsPast (at + n) (raw false (at + n) (drop n bs)) (drop n bs) o p
          → IsPast at (raw false at bs) bs (with_front n o) (with_front n p)
      shifted None None x y = tt
      shifted None (Some j) x y = absurd y
      shifted (Some k) None x y = absurd y
      shifted (Some k) (Some j) x y =
          ap (λ m. drop m (raw false at bs)) (flip k n) ∙ sym (drop-behind k n (raw false at bs)) ∙ ap (drop k) x ∙ y
          ∙ ap (λ l. raw false (at + n + j) l) (drop-behind j n bs ∙ ap (λ m. drop m bs) (flip n j)) ∙ ap (λ m. raw false m (drop (j + n) bs)) (omega arith) where
            flip : (a b : ℕ) → a + b ≡ b + a
            flip a b = omega arith

starts-less : (p : ℕ) (ps bs : List ℕ) → starts (p ∷ ps) bs ≡ true → starts (p ∷ []) bs ≡ true
starts-less p ps [] h = absurd (cc)
starts-less p ps (c ∷ bs) h = rw ((and_parts (c == p) (starts ps bs) h).0) refl

-- the text begins with any byte but two
text-first : (bs : List ℕ) (at : ℕ) → IsPast at (raw false at bs) bs (with_front 1 (text_size (drop 1 (values (raw false at bs))))) (with_front 1 (text_size (drop 1 bs)))
text-first [] at = tt
text-first (c ∷ bs) at = by (byte-case false c) where
  one-more : (u : Byte) (us : List Byte) (b : Bool) → raw false at (c ∷ bs) ≡ u ∷ us → us ≡ raw b (at + 1) bs
      → IsPast at (raw false at (c ∷ bs)) (c ∷ bs) (with_front 1 (text_size (drop 1 (values (raw false at (c ∷ bs)))))) (with_front 1 (text_size bs))
  one-more u us b r e =
      same-past at (raw false at (c ∷ bs)) (u ∷ us) (c ∷ bs) (with_front 1 (text_size (drop 1 (values (raw false at (c ∷ bs)))))) (with_front 1 (text_size bs))
      (option_map suc (text_size (values us))) (option_map suc (text_size bs)) r
      (ap (λ l. with_front 1 (text_size (drop 1 (values l)))) r ∙ plus (text_size (values us))) (plus (text_size bs))
      (further at u us c bs (text_size (values us)) (text_size bs) (subst (λ l. IsPast (at + 1) l bs (text_size (values l)) (text_size bs)) (sym e) (text-past bs b (at + 1)))) where
        plus : (o : Option ℕ) → with_front 1 o ≡ option_map suc o
        plus None = refl
        plus (Some k) = ap Some (omega arith)

  by : Byte_case false c → IsPast at (raw false at (c ∷ bs)) (c ∷ bs) (with_front 1 (text_size (drop 1 (values (raw false at (c ∷ bs)))))) (with_front 1 (text_size bs))
  by (returns e) = one-more (record { value = 10; at = at }) (raw true (at + 1) bs) true (raw-returns false c at bs e) refl
  by (skips x e k) = absurd (cc)
  by (stays e k) = one-more (record { value = c; at = at }) (raw false (at + 1) bs) false (raw-stays false c at bs e refl) refl

no-quote : (q : ℕ) → None ≡ Some q → ((10 == q) ≡ false) × ((13 == q) ≡ false)
no-quote q e = absurd (cc)

size-by-past : (k : Kind) (bs : List ℕ) (at : ℕ) → starts (front_of k) bs ≡ true → IsPast at (raw false at bs) bs (size_by k (values (raw false at bs))) (size_by k bs)
unfolding size_by
size-by-past Declaration bs at s = front-past (codes "<") bs at 1 (after (codes "?>")) refl refl (starts-less 60 (codes "?xml") bs s) (λ a r. after-past 63 (codes ">") r false a refl)
size-by-past Instruction bs at s = front-past (codes "<") bs at 1 (after (codes "?>")) refl refl (starts-less 60 (codes "?") bs s) (λ a r. after-past 63 (codes ">") r false a refl)
size-by-past Comment bs at s = front-past (codes "<!--") bs at 4 (after (codes "-->")) refl refl s (λ a r. after-past 45 (codes "->") r false a refl)
size-by-past Cdata bs at s = front-past (codes "<![CDATA[") bs at 9 (after (codes "]]>")) refl refl s (λ a r. after-past 93 (codes "]>") r false a refl)
size-by-past Doctype bs at s = front-past (codes "<!DOCTYPE") bs at 9 (after_tag None) refl refl s (λ a r. tag-past r None false a no-quote)
size-by-past Unknown bs at s = front-past (codes "<!") bs at 2 (after (codes ">")) refl refl s (λ a r. after-past 62 [] r false a refl)
size-by-past EndTag bs at s = front-past (codes "</") bs at 2 (after (codes ">")) refl refl s (λ a r. after-past 62 [] r false a refl)
size-by-past StartTag bs at s = front-past (codes "<") bs at 1 (after_tag None) refl refl s (λ a r. tag-past r None false a no-quote)
size-by-past Reference bs at s = front-past (codes "&") bs at 1 reference_size refl refl s (λ a r. reference-past r a)
size-by-past Text bs at s = text-first bs at

run-raw : (bs : List ℕ) (at : ℕ) → is_run (values (raw false at bs)) ≡ is_run bs
run-raw [] at = refl
run-raw (c ∷ bs) at = by (byte-case false c) where
  by : Byte_case false c → is_run (values (raw false at (c ∷ bs))) ≡ is_run (c ∷ bs)
  by (returns e) = ap (λ l. is_run (values l)) (raw-returns false c at bs e) ∙ sym (ap (λ x. not (x == 60)) (one_number c 13 e))
  by (skips x e k) = absurd (cc)
  by (stays e k) = ap (λ l. is_run (values l)) (raw-stays false c at bs e refl)

pub same-length : (us : List Byte) → length (values us) ≡ length us
same-length [] = refl
same-length (u ∷ us) = ap suc (same-length us)

pub whole-past : (first : Bool) (bs : List ℕ) (at : ℕ) → IsPast at (raw false at bs) bs (whole_size true first (values (raw false at bs))) (whole_size true first bs)
whole-past first bs at =
    let k = kind_of first bs in
    let h : IsPast at (raw false at bs) bs (size first (values (raw false at bs))) (size first bs) =
    subst (λ x. IsPast at (raw false at bs) bs (size_by x (values (raw false at bs))) (size first bs)) (sym (kind-raw first bs at)) (size-by-past k bs at (kind-starts first bs)) in
    ended (size first (values (raw false at bs))) (size first bs) h where
      all-gone : drop (length (values (raw false at bs))) (raw false at bs) ≡ raw false (at + length bs) (drop (length bs) bs)
      all-gone = drop_of_length-le (raw false at bs) (omega (arith, same-length (raw false at bs))) ∙ sym (ap (raw false (at + length bs)) (drop_of_length-le bs (omega arith)))

      ended : (o p : Option ℕ) → IsPast at (raw false at bs) bs o p
          → IsPast at (raw false at bs) bs (settled_or o (true && is_run (values (raw false at bs))) (length (values (raw false at bs)))) (settled_or p (true && is_run bs) (length bs))
      ended (Some i) (Some j) h = h
      ended None (Some j) h = absurd h
      ended (Some i) None h = absurd h
      ended None None h = by (is_run bs) refl where
        by : (b : Bool) → is_run bs ≡ b → IsPast at (raw false at bs) bs (settled_or None (true && is_run (values (raw false at bs))) (length (values (raw false at bs)))) (settled_or None (true && is_run bs) (length bs))
        by true e = rw (run-raw bs at, e) all-gone
        by false e = rw (run-raw bs at, e) tt
