-- An empty-element tag is told from a start tag by the byte in front of its last.
use Rattle.std.proofs.Common.{◌≡◌, ◌∙◌, ℕ, suc, ◌+◌, ◌≤◌, ◌==◌, Bool, true, false, if◌then◌else◌, List, [], ◌∷◌, ◌++◌, length, take, drop, Some, refl, sym, ap, append_assoc, length-append, arith}
use Rattle.std.specs.List.{list_all}
use Rattle.std.proofs.lemmas.Bool.{and_parts}
use Rattle.std.proofs.lemmas.Bool.Decides.{nat_tests}
use Rattle.std.proofs.lemmas.List.{length-drop}
use Rattle.ix_base.specs.NcName.{is_white, is_name_start, is_name_char}
use Rattle.page_constructs.specs.Constructs.{Byte, values}
use Rattle.page_constructs.specs.Forms.{AreAttributes, IsInTag, is_quote, HasForm}
use Rattle.page_tree.specs.Raw.{raw}
use Rattle.page_constructs.specs.Tokens.{Attribute, Tag, Token, start, empty, close, words, refer, section, declaration, doctype, silent}
use Rattle.page_constructs.specs.declared.kind.Kind.{Kind}
use Rattle.page_constructs.specs.declared.kind.Kind.TheVariants.{Declaration, Instruction, Comment, Cdata, Doctype, EndTag, StartTag, Reference, Text}
use Rattle.page_constructs.proofs.NameBytes.{is_name_byte, is_qname_byte, name-not, qname-bytes}
use Rattle.page_tree.proofs.RawLaws.{byte-case, Byte_case, returns, skips, stays, raw-returns, raw-skips, raw-stays}
use Rattle.page_constructs.proofs.SpanLaws.{one_number}
use Rattle.fact_trace.specs.Spans.{move_by}
use Rattle.fact_trace.specs.declared.moves.Move.{Move}
use Rattle.fact_trace.specs.declared.moves.Move.TheVariants.{Opens, Closes, Says, Passes}

-- the last of some bytes, behind this one
abbrev pub last_or : ℕ → List ℕ → ℕ
last_or d [] = d
last_or d (c ∷ cs) = last_or c cs

-- all but the last
abbrev pub front_part : List ℕ → List ℕ
front_part [] = []
front_part (c ∷ []) = []
front_part (c ∷ d ∷ cs) = c ∷ front_part (d ∷ cs)

-- the byte in front of the last is a `/`
abbrev pub slashes : List ℕ → Bool
slashes text = last_or 0 (front_part text) == 47

pub front-push : (xs : List ℕ) (c : ℕ) → front_part (xs ++ c ∷ []) ≡ xs
front-push [] c = refl
front-push (x ∷ []) c = refl
front-push (x ∷ y ∷ xs) c = ap (λ l. x ∷ l) (front-push (y ∷ xs) c)

pub last-append : (d : ℕ) (xs ys : List ℕ) → last_or d (xs ++ ys) ≡ last_or (last_or d xs) ys
last-append d [] ys = refl
last-append d (x ∷ xs) ys = last-append x xs ys

last-all : (p : ℕ → Bool) → ((c : ℕ) → p c ≡ true → (c == 47) ≡ false) → (d : ℕ) (cs : List ℕ) → (d == 47) ≡ false → list_all p cs ≡ true → (last_or d cs == 47) ≡ false
last-all p f d [] h k = h
last-all p f d (c ∷ cs) h k = let z = and_parts (p c) (list_all p cs) k in last-all p f c cs (f c z.0) z.1

white-not : (c : ℕ) → is_white c ≡ true → (c == 47) ≡ false
white-not c h = grind (arith, nat_tests)

quote-not : (c : ℕ) → is_quote c ≡ true → (c == 47) ≡ false
quote-not c h = grind (arith, nat_tests)

attributes-last : (attrs : List Attribute) (text : List ℕ) (d : ℕ) → (d == 47) ≡ false → AreAttributes attrs text → (last_or d text == 47) ≡ false
attributes-last [] text d h w = last-all is_white white-not d text h w
attributes-last (a ∷ more) text d h i =
    let e = i.equal in
    let q : last_or d text ≡ last_or e.quote i.more =
    ap (last_or d) (i.splits ∙ ap (λ x. i.white ++ (a.name ++ x)) e.splits)
    ∙ last-append d i.white (a.name ++ (e.front ++ 61 ∷ (e.back ++ e.quote ∷ (i.raw ++ e.quote ∷ i.more))))
    ∙ last-append (last_or d i.white) a.name (e.front ++ 61 ∷ (e.back ++ e.quote ∷ (i.raw ++ e.quote ∷ i.more)))
    ∙ last-append (last_or (last_or d i.white) a.name) e.front (61 ∷ (e.back ++ e.quote ∷ (i.raw ++ e.quote ∷ i.more)))
    ∙ last-append 61 e.back (e.quote ∷ (i.raw ++ e.quote ∷ i.more))
    ∙ last-append e.quote i.raw (e.quote ∷ i.more) in
    ap (λ n. n == 47) q ∙ attributes-last more i.more e.quote (quote-not e.quote e.quotes) i.rest

tag-last : (t : Tag) (inner : List ℕ) → IsInTag t inner → (last_or 60 inner == 47) ≡ false
unfolding is_name_byte is_name_char is_name_start
tag-last t inner i =
    let n : (last_or 60 t.name == 47) ≡ false = last-all is_qname_byte (λ c h. name-not 47 c refl h) 60 t.name refl (qname-bytes t.name i.name) in
    ap (λ x. x == 47) (ap (last_or 60) i.splits ∙ last-append 60 t.name i.rest) ∙ attributes-last t.attrs i.rest (last_or 60 t.name) n i.attributes

-- what a construct does, by its kind
abbrev pub kind_move : Kind → Bool → ℕ → Move
kind_move StartTag slash at = if slash then Passes else Opens at
kind_move EndTag slash at = Closes
kind_move Text slash at = Says
kind_move Reference slash at = Says
kind_move Cdata slash at = Says
kind_move kind slash at = Passes

pub kind-moves : (kind : Kind) (at : ℕ) (text : List ℕ) (token : Token) → HasForm kind at text token → move_by (Some token) ≡ kind_move kind (slashes text) at
kind-moves Declaration at text (declaration v e) h = refl
kind-moves Instruction at text silent h = refl
kind-moves Comment at text silent h = refl
kind-moves Cdata at text (section w) h = refl
kind-moves Doctype at text (doctype s) h = refl
kind-moves EndTag at text (close n) h = refl
kind-moves StartTag at text (start t) h =
    let f : front_part text ≡ 60 ∷ h.0 = ap front_part h.1 ∙ front-push (60 ∷ h.0) 62 in
    let s : slashes text ≡ false = ap (λ x. last_or 0 x == 47) f ∙ tag-last t h.0 h.2 in
    ap Opens h.3 ∙ sym (ap (λ b. if b then Passes else Opens at) s)
kind-moves StartTag at text (empty t) h =
    let f : front_part text ≡ 60 ∷ (h.0 ++ 47 ∷ []) = ap front_part (h.1 ∙ ap (λ l. 60 ∷ l) (sym (append_assoc h.0 (47 ∷ []) (62 ∷ [])))) ∙ front-push (60 ∷ (h.0 ++ 47 ∷ [])) 62 in
    let s : slashes text ≡ true = ap (λ x. last_or 0 x == 47) f ∙ ap (λ x. x == 47) (last-append 60 h.0 (47 ∷ [])) in
    sym (ap (λ b. if b then Passes else Opens at) s)
kind-moves Reference at text (refer c) h = refl
kind-moves Text at text (words w) h = refl
kind-moves kind at text token h = absurd h

-- the same byte of the bytes as they stand
last-raw : (cs : List ℕ) (cr : Bool) (at d e : ℕ) → (d == 47) ≡ (e == 47) → (cr ≡ true → (d == 47) ≡ false) → (last_or d (values (raw cr at cs)) == 47) ≡ (last_or e cs == 47)
last-raw [] cr at d e h k = h
last-raw (c ∷ cs) cr at d e h k = by (byte-case cr c) (last-raw cs true (at + 1)) (last-raw cs false (at + 1)) where
  by : Byte_case cr c → ((d e : ℕ) → (d == 47) ≡ (e == 47) → (true ≡ true → (d == 47) ≡ false) → (last_or d (values (raw true (at + 1) cs)) == 47) ≡ (last_or e cs == 47))
      → ((d e : ℕ) → (d == 47) ≡ (e == 47) → (false ≡ true → (d == 47) ≡ false) → (last_or d (values (raw false (at + 1) cs)) == 47) ≡ (last_or e cs == 47))
      → (last_or d (values (raw cr at (c ∷ cs))) == 47) ≡ (last_or c cs == 47)
  by (returns x) ih jh =
      let n : (10 == 47) ≡ (c == 47) = ap (λ y. y == 47) (sym (one_number c 13 x)) in
      ap (λ us. last_or d (values us) == 47) (raw-returns cr c at cs x) ∙ ih 10 c n (λ _. refl)
  by (skips x y z) ih jh =
      let n : (d == 47) ≡ (c == 47) = k x ∙ ap (λ y. y == 47) (sym (one_number c 10 z)) in
      ap (λ us. last_or d (values us) == 47) (raw-skips cr c at cs x y z) ∙ jh d c n (λ q. absurd (cc))
  by (stays x y) ih jh = ap (λ us. last_or d (values us) == 47) (raw-stays cr c at cs x y) ∙ jh c c refl (λ q. absurd (cc))

-- a `>` ends what was read before it
ends-raw : (xs ys : List ℕ) (cr : Bool) (at : ℕ) → raw cr at (xs ++ 62 ∷ ys) ≡ raw cr at xs ++ record { value = 62; at = at + length xs } ∷ raw false (at + suc (length xs)) ys
ends-raw [] ys true at = (λ i. record { value = 62; at = (let e : at ≡ at + 0 = omega arith in e) i } ∷ raw false (at + 1) ys)
ends-raw [] ys false at = (λ i. record { value = 62; at = (let e : at ≡ at + 0 = omega arith in e) i } ∷ raw false (at + 1) ys)
ends-raw (c ∷ xs) ys cr at = by (byte-case cr c) (ends-raw xs ys true (at + 1)) (ends-raw xs ys false (at + 1)) where
  there : (us : List Byte) → us ++ record { value = 62; at = at + 1 + length xs } ∷ raw false (at + 1 + suc (length xs)) ys ≡ us ++ record { value = 62; at = at + suc (length xs) } ∷ raw false (at + suc (suc (length xs))) ys
  there us =
      let e : at + 1 + length xs ≡ at + suc (length xs) = omega arith in
      let f : at + 1 + suc (length xs) ≡ at + suc (suc (length xs)) = omega arith in
      λ i. us ++ record { value = 62; at = e i } ∷ raw false (f i) ys

  by : Byte_case cr c → raw true (at + 1) (xs ++ 62 ∷ ys) ≡ raw true (at + 1) xs ++ record { value = 62; at = at + 1 + length xs } ∷ raw false (at + 1 + suc (length xs)) ys
      → raw false (at + 1) (xs ++ 62 ∷ ys) ≡ raw false (at + 1) xs ++ record { value = 62; at = at + 1 + length xs } ∷ raw false (at + 1 + suc (length xs)) ys
      → raw cr at (c ∷ (xs ++ 62 ∷ ys)) ≡ raw cr at (c ∷ xs) ++ record { value = 62; at = at + suc (length xs) } ∷ raw false (at + suc (suc (length xs))) ys
  by (returns x) ih jh =
      raw-returns cr c at (xs ++ 62 ∷ ys) x ∙ ap (λ l. record { value = 10; at = at } ∷ l) (ih ∙ there (raw true (at + 1) xs))
      ∙ ap (λ l. l ++ record { value = 62; at = at + suc (length xs) } ∷ raw false (at + suc (suc (length xs))) ys) (sym (raw-returns cr c at xs x))
  by (skips x y z) ih jh =
      raw-skips cr c at (xs ++ 62 ∷ ys) x y z ∙ (jh ∙ there (raw false (at + 1) xs))
      ∙ ap (λ l. l ++ record { value = 62; at = at + suc (length xs) } ∷ raw false (at + suc (suc (length xs))) ys) (sym (raw-skips cr c at xs x y z))
  by (stays x y) ih jh =
      raw-stays cr c at (xs ++ 62 ∷ ys) x y ∙ ap (λ l. record { value = c; at = at } ∷ l) (jh ∙ there (raw false (at + 1) xs))
      ∙ ap (λ l. l ++ record { value = 62; at = at + suc (length xs) } ∷ raw false (at + suc (suc (length xs))) ys) (sym (raw-stays cr c at xs x y))

-- what stands in front of a known end
front-is : (us A R : List Byte) (k : ℕ) → us ≡ A ++ R → k ≤ length us → drop k us ≡ R → take k us ≡ A
front-is us A R k e l d =
    let n : length us ≡ length (A ++ R) = ap length e in
    let m : length (drop k us) ≡ length R = ap length d in
    let s : k ≡ length A = omega (arith, length-drop k us, length-append A R) in
    λ i. (ap (take k) e ∙ ap (λ x. take x (A ++ R)) s ∙ taken A R) i
  where
    taken : (p t : List Byte) → take (length p) (p ++ t) ≡ p
    taken [] t = refl
    taken (c ∷ p) t = ap (λ l. c ∷ l) (taken p t)

values-append : (us vs : List Byte) → values (us ++ vs) ≡ values us ++ values vs
values-append [] vs = refl
values-append (u ∷ us) vs = ap (λ l. u.value ∷ l) (values-append us vs)

-- so a tag's text has a `/` there exactly where the bytes have one
pub slashes-raw : (at k j : ℕ) (bs xs ys text : List ℕ) → bs ≡ xs ++ 62 ∷ ys → j ≡ suc (length xs) → text ≡ values (take k (raw false at bs)) → k ≤ length (raw false at bs)
    → drop k (raw false at bs) ≡ raw false (at + j) (drop j bs) → slashes text ≡ (last_or 0 xs == 47)
slashes-raw at k j bs xs ys text e l t f d =
    let us = raw false at bs in
    let z : Byte = record { value = 62; at = at + length xs } in
    let A = raw false at xs ++ z ∷ [] in
    let R = raw false (at + suc (length xs)) ys in
    let whole : us ≡ A ++ R = ap (raw false at) e ∙ ends-raw xs ys false at ∙ sym (append_assoc (raw false at xs) (z ∷ []) R) in
    let left : drop j bs ≡ ys = ap (λ n. drop n bs) l ∙ ap (drop (suc (length xs))) e ∙ behind xs ys in
    let rest : drop k us ≡ R = d ∙ ap (λ n. raw false (at + n) (drop j bs)) l ∙ ap (raw false (at + suc (length xs))) left in
    let own : text ≡ values (raw false at xs) ++ 62 ∷ [] = t ∙ ap values (front-is us A R k whole f rest) ∙ values-append (raw false at xs) (z ∷ []) in
    ap (λ x. last_or 0 x == 47) (ap front_part own ∙ front-push (values (raw false at xs)) 62) ∙ last-raw xs false at 0 0 refl (λ q. absurd (cc))
  where
    behind : (p t : List ℕ) → drop (suc (length p)) (p ++ 62 ∷ t) ≡ t
    behind [] t = refl
    behind (c ∷ p) t = behind p t
