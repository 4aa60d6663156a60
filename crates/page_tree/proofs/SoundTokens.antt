-- The names and texts of tokens are of their forms, where the characters of the constructs are allowed ones.
use Rattle.std.proofs.Common.{◌≡◌, ◌≢◌, ℕ, ◌-◌, ◌<◌, ◌==◌, Bool, true, false, ◌||◌, if◌then◌else◌, List, [], ◌∷◌, ◌++◌, length, take, drop, Option, Some, None, option_map, refl, sym, ap, ◌∙◌, subst, arith, append_assoc, All, codes, bytes_eq, encode_utf8}
use Rattle.std.specs.List.{list_all}
use Rattle.std.specs.Option.{option_and_then}
use Rattle.std.proofs.lemmas.Bool.{and_parts}
use Rattle.std.proofs.lemmas.Bool.Decides.{nat_tests}
use Rattle.std.proofs.lemmas.List.Elements.{All-nil, All-cons}
use Rattle.ix_base.specs.NcName.{is_white, is_allowed, are_allowed}
use Rattle.page_constructs.specs.Constructs.{starts}
use Rattle.page_constructs.specs.Forms.{AreWhite, IsEqual, AreAttributes, IsInTag, HasForm, is_quote}
use Rattle.page_constructs.specs.Values.{number_in, allowed, referred, spelled, meant_in, value_of, referred_by}
use Rattle.page_constructs.specs.Tokens.{Attribute, Tag, Token, start, empty, close, words, refer, section, declaration, doctype, silent}
use Rattle.page_constructs.specs.declared.kind.Kind.{Kind}
use Rattle.page_constructs.specs.declared.kind.Kind.TheVariants.{Declaration, Instruction, Comment, Cdata, Doctype, EndTag, StartTag, Reference, Text}
use Rattle.page_constructs.proofs.AllowedText.{allowed-append, allowed-before, allowed-tail, allowed-behind, allowed-char, low-allowed, is_low}
use Rattle.page_tree.proofs.SoundNames.{IsFormed}
use Rattle.page_tree.proofs.SoundHeads.{IsFormedTag}
use Rattle.page_tree.proofs.SoundTrees.{IsFormedToken}
use Rattle.page_constructs.proofs.SpanLaws.{one_number}
use Rattle.page_tree.proofs.Building.{and-then-some}

-- a reference means an allowed character
allowed-some : (o : Option ℕ) (c : ℕ) → option_and_then allowed o ≡ Some c → is_allowed c ≡ true
allowed-some None c e = absurd (cc)
allowed-some (Some d) c e = by_test (is_allowed d) refl e where
  by_test : (b : Bool) → is_allowed d ≡ b → (if b then Some d else None) ≡ Some c → is_allowed c ≡ true
  by_test true h q = let z : d ≡ c = cc in ap is_allowed (sym z) ∙ h
  by_test false h q = absurd (cc)

known : (c d : ℕ) → is_allowed d ≡ true → Some d ≡ Some c → is_allowed c ≡ true
known c d h e = let z : d ≡ c = cc in ap is_allowed (sym z) ∙ h

referred-allowed : (inner : List ℕ) (c : ℕ) → referred inner ≡ Some c → is_allowed c ≡ true
unfolding referred is_allowed
referred-allowed inner c = by1 (bytes_eq inner (codes "lt")) where
  by7 : (b : Bool) → (if b then option_and_then allowed (number_in 10 (drop 1 inner)) else None) ≡ Some c → is_allowed c ≡ true
  by7 true e = allowed-some (number_in 10 (drop 1 inner)) c e
  by7 false e = absurd (cc)

  by6 : (b : Bool) → (if b then option_and_then allowed (number_in 16 (drop 2 inner)) else (if starts (codes "#") inner then option_and_then allowed (number_in 10 (drop 1 inner)) else None)) ≡ Some c → is_allowed c ≡ true
  by6 true e = allowed-some (number_in 16 (drop 2 inner)) c e
  by6 false e = by7 (starts (codes "#") inner) e

  by5 : (b : Bool) → (if b then Some 34 else (if starts (codes "#x") inner then option_and_then allowed (number_in 16 (drop 2 inner)) else (if starts (codes "#") inner then option_and_then allowed (number_in 10 (drop 1 inner)) else None))) ≡ Some c → is_allowed c ≡ true
  by5 true e = known c 34 refl e
  by5 false e = by6 (starts (codes "#x") inner) e

  by4 : (b : Bool) → (if b then Some 39 else (if bytes_eq inner (codes "quot") then Some 34 else (if starts (codes "#x") inner then option_and_then allowed (number_in 16 (drop 2 inner)) else (if starts (codes "#") inner then option_and_then allowed (number_in 10 (drop 1 inner)) else None)))) ≡ Some c → is_allowed c ≡ true
  by4 true e = known c 39 refl e
  by4 false e = by5 (bytes_eq inner (codes "quot")) e

  by3 : (b : Bool) → (if b then Some 38 else (if bytes_eq inner (codes "apos") then Some 39 else (if bytes_eq inner (codes "quot") then Some 34 else (if starts (codes "#x") inner then option_and_then allowed (number_in 16 (drop 2 inner)) else (if starts (codes "#") inner then option_and_then allowed (number_in 10 (drop 1 inner)) else None))))) ≡ Some c → is_allowed c ≡ true
  by3 true e = known c 38 refl e
  by3 false e = by4 (bytes_eq inner (codes "apos")) e

  by2 : (b : Bool) → (if b then Some 62 else (if bytes_eq inner (codes "amp") then Some 38 else (if bytes_eq inner (codes "apos") then Some 39 else (if bytes_eq inner (codes "quot") then Some 34 else (if starts (codes "#x") inner then option_and_then allowed (number_in 16 (drop 2 inner)) else (if starts (codes "#") inner then option_and_then allowed (number_in 10 (drop 1 inner)) else None)))))) ≡ Some c → is_allowed c ≡ true
  by2 true e = known c 62 refl e
  by2 false e = by3 (bytes_eq inner (codes "amp")) e

  by1 : (b : Bool) → (if b then Some 60 else (if bytes_eq inner (codes "gt") then Some 62 else (if bytes_eq inner (codes "amp") then Some 38 else (if bytes_eq inner (codes "apos") then Some 39 else (if bytes_eq inner (codes "quot") then Some 34 else (if starts (codes "#x") inner then option_and_then allowed (number_in 16 (drop 2 inner)) else (if starts (codes "#") inner then option_and_then allowed (number_in 10 (drop 1 inner)) else None))))))) ≡ Some c → is_allowed c ≡ true
  by1 true e = known c 60 refl e
  by1 false e = by2 (bytes_eq inner (codes "gt")) e

spelled-some : (o : Option ℕ) (char : List ℕ) → spelled o ≡ Some char → (c : ℕ) × (o ≡ Some c) × (encode_utf8 c ≡ char)
spelled-some None char e = absurd (cc)
spelled-some (Some c) char e = (c, refl, cc)

spelled-allowed : (inner char : List ℕ) → spelled (referred inner) ≡ Some char → are_allowed char ≡ true
spelled-allowed inner char e =
    let z = spelled-some (referred inner) char e in
    subst (λ x. are_allowed x ≡ true) z.2 (allowed-char z.0 (referred-allowed inner z.0 z.1))

pub referred-by-allowed : (text char : List ℕ) → referred_by text ≡ Some char → are_allowed char ≡ true
referred-by-allowed text char = by_end (bytes_eq (drop (length text - 1) text) (59 ∷ [])) where
  by_end : (b : Bool) → (if b then spelled (referred (take (length text - 2) (drop 1 text))) else None) ≡ Some char → are_allowed char ≡ true
  by_end true e = spelled-allowed (take (length text - 2) (drop 1 text)) char e
  by_end false e = absurd (cc)

-- a value means allowed characters: behind the first bytes of a character that has begun, or inside a reference
abbrev kept_front : Option (List ℕ) → List ℕ → List ℕ
kept_front None p = p
kept_front (Some inner) p = []

mapped : (f : List ℕ → List ℕ) (o : Option (List ℕ)) (v : List ℕ) → option_map f o ≡ Some v → (w : List ℕ) × (o ≡ Some w) × (f w ≡ v)
mapped f None v e = absurd (cc)
mapped f (Some w) v e = (w, refl, cc)

one-more : (p : List ℕ) (c : ℕ) (t : List ℕ) → p ++ c ∷ t ≡ (p ++ c ∷ []) ++ t
one-more p c t = sym (append_assoc p (c ∷ []) t)

space-allowed : are_allowed (32 ∷ []) ≡ true
unfolding is_allowed
space-allowed = low-allowed (32 ∷ []) refl refl

meant-allowed : (o : Option (List ℕ)) (raw p v : List ℕ) → are_allowed (p ++ raw) ≡ true → meant_in o raw ≡ Some v → are_allowed (kept_front o p ++ v) ≡ true
unfolding meant_in
meant-allowed None [] p v a e = let z : [] ≡ v = cc in subst (λ x. are_allowed (p ++ x) ≡ true) z a
meant-allowed (Some inner) [] p v a e = absurd (cc)
meant-allowed (Some inner) (c ∷ cs) p v a e = by_end (λ w b q. meant-allowed None cs [] w b q) (λ i b q. meant-allowed (Some i) cs (p ++ c ∷ []) v b q) (c == 59) refl e where
  by_end : ((w : List ℕ) → are_allowed cs ≡ true → meant_in None cs ≡ Some w → are_allowed w ≡ true) → ((i : List ℕ) → are_allowed ((p ++ c ∷ []) ++ cs) ≡ true → meant_in (Some i) cs ≡ Some v → are_allowed v ≡ true)
      → (b : Bool) → (c == 59) ≡ b → (if b then option_and_then (λ char. option_map (λ more. char ++ more) (meant_in None cs)) (spelled (referred inner)) else meant_in (Some (inner ++ c ∷ [])) cs) ≡ Some v → are_allowed v ≡ true
  by_end done on true h e =
      let l : c < 128 = subst (λ x. x < 128) (sym (one_number c 59 h)) (omega arith) in
      let z = and-then-some (spelled (referred inner)) (λ char. option_map (λ more. char ++ more) (meant_in None cs)) v e in
      let m = mapped (λ more. z.0 ++ more) (meant_in None cs) v z.2 in
      subst (λ x. are_allowed x ≡ true) m.2 (allowed-append z.0 m.0 (spelled-allowed inner z.0 z.1) (done m.0 (allowed-behind p c cs l a) m.1))
  by_end done on false h e = on (inner ++ c ∷ []) (ap are_allowed (sym (one-more p c cs)) ∙ a) e
meant-allowed None (c ∷ cs) p v a e = by_kind (λ q b w r. meant-allowed None cs q w b r) (λ b r. meant-allowed (Some []) cs (p ++ c ∷ []) v b r) (c == 38) refl e where
  by_white : ((q : List ℕ) → are_allowed (q ++ cs) ≡ true → (w : List ℕ) → meant_in None cs ≡ Some w → are_allowed (q ++ w) ≡ true) → (b : Bool) → (c == 9 || c == 10) ≡ b
      → option_map (λ more. (if b then 32 else c) ∷ more) (meant_in None cs) ≡ Some v → are_allowed (p ++ v) ≡ true
  by_white on true h e =
      let l : c < 128 = white-low c h in
      let m = mapped (λ more. 32 ∷ more) (meant_in None cs) v e in
      let z = allowed-before p c cs l a in
      subst (λ x. are_allowed (p ++ x) ≡ true) m.2 (allowed-append p (32 ∷ m.0) z.0 (allowed-append (32 ∷ []) m.0 space-allowed (on [] (allowed-tail c cs l z.1) m.0 m.1)))
    where
      white-low : (c : ℕ) → (c == 9 || c == 10) ≡ true → c < 128
      white-low c h = grind (arith, nat_tests)
  by_white on false h e =
      let m = mapped (λ more. c ∷ more) (meant_in None cs) v e in
      subst (λ x. are_allowed (p ++ x) ≡ true) m.2 (ap are_allowed (one-more p c m.0) ∙ on (p ++ c ∷ []) (ap are_allowed (sym (one-more p c cs)) ∙ a) m.0 m.1)

  by_kind : ((q : List ℕ) → are_allowed (q ++ cs) ≡ true → (w : List ℕ) → meant_in None cs ≡ Some w → are_allowed (q ++ w) ≡ true) → (are_allowed ((p ++ c ∷ []) ++ cs) ≡ true → meant_in (Some []) cs ≡ Some v → are_allowed v ≡ true)
      → (b : Bool) → (c == 38) ≡ b → (if b then meant_in (Some []) cs else option_map (λ more. (if c == 9 || c == 10 then 32 else c) ∷ more) (meant_in None cs)) ≡ Some v → are_allowed (p ++ v) ≡ true
  by_kind on ref true h e =
      let l : c < 128 = subst (λ x. x < 128) (sym (one_number c 38 h)) (omega arith) in
      allowed-append p v (allowed-before p c cs l a).0 (ref (ap are_allowed (sym (one-more p c cs)) ∙ a) e)
  by_kind on ref false h e = by_white on (c == 9 || c == 10) refl e

pub value-allowed : (raw v : List ℕ) → are_allowed raw ≡ true → value_of raw ≡ Some v → are_allowed v ≡ true
value-allowed raw v a e = meant-allowed None raw [] v a e

white-low : (c : ℕ) → is_white c ≡ true → c < 128
white-low c h = grind (arith, nat_tests)

-- behind white space
behind-white : (w t : List ℕ) → AreWhite w → are_allowed (w ++ t) ≡ true → are_allowed t ≡ true
behind-white [] t h a = a
behind-white (c ∷ w) t h a =
    let z = and_parts (is_white c) (list_all is_white w) h in
    behind-white w t z.1 (allowed-tail c (w ++ t) (white-low c z.0) a)

quote-low : (c : ℕ) → is_quote c ≡ true → c < 128
quote-low c h = grind (arith, nat_tests)

-- a value in quotes, and what follows it
record Quoted (raw more : List ℕ) : Type 0 where
  raw_allowed : are_allowed raw ≡ true
  more_allowed : are_allowed more ≡ true

equal-allowed : (name raw more behind : List ℕ) → IsEqual raw more behind → are_allowed (name ++ behind) ≡ true → Quoted raw more
equal-allowed name raw more behind e a =
    let whole : name ++ behind ≡ (name ++ e.front) ++ 61 ∷ (e.back ++ e.quote ∷ (raw ++ e.quote ∷ more)) =
    ap (λ x. name ++ x) e.splits ∙ sym (append_assoc name e.front (61 ∷ (e.back ++ e.quote ∷ (raw ++ e.quote ∷ more)))) in
    let l = quote-low e.quote e.quotes in
    let x = allowed-behind (name ++ e.front) 61 (e.back ++ e.quote ∷ (raw ++ e.quote ∷ more)) (omega arith) (ap are_allowed (sym whole) ∙ a) in
    let y = allowed-tail e.quote (raw ++ e.quote ∷ more) l (behind-white e.back (e.quote ∷ (raw ++ e.quote ∷ more)) e.back_white x) in
    let z = allowed-before raw e.quote more l y in
    record { raw_allowed = z.0; more_allowed = allowed-tail e.quote more l z.1 }

attributes-formed : (as' : List Attribute) (text : List ℕ) → AreAttributes as' text → are_allowed text ≡ true → All IsFormed as'
attributes-formed [] text h a = All-nil IsFormed
attributes-formed (x ∷ as') text h a =
    let named = behind-white h.white (x.name ++ h.behind) h.are_white (ap are_allowed (sym h.splits) ∙ a) in
    let q = equal-allowed x.name h.raw h.more h.behind h.equal named in
    All-cons IsFormed x as' (record { name = h.name; value = λ v e. value-allowed h.raw v q.raw_allowed (sym h.value ∙ e) })
    (attributes-formed as' h.more h.rest q.more_allowed)

-- attributes behind a name: the first begins with white space
behind-name : (name : List ℕ) (as' : List Attribute) (rest : List ℕ) → AreAttributes as' rest → are_allowed (name ++ rest) ≡ true → All IsFormed as'
behind-name name [] rest h a = All-nil IsFormed
behind-name name (x ∷ as') rest h a = by_white h.white h.apart h.are_white h.splits where
  by_white : (w : List ℕ) → w ≢ [] → AreWhite w → rest ≡ w ++ (x.name ++ h.behind) → All IsFormed (x ∷ as')
  by_white [] some white s = absurd (some refl)
  by_white (c ∷ w) some white s =
      let z = and_parts (is_white c) (list_all is_white w) white in
      let y : are_allowed (name ++ c ∷ (w ++ (x.name ++ h.behind))) ≡ true = ap (λ r. are_allowed (name ++ r)) (sym s) ∙ a in
      attributes-formed (x ∷ as') rest h (ap are_allowed s ∙ (allowed-before name c (w ++ (x.name ++ h.behind)) (white-low c z.0) y).1)

tag-formed : (t : Tag) (inner : List ℕ) → IsInTag t inner → are_allowed inner ≡ true → IsFormedTag t
tag-formed t inner h a = record { name = h.name; attrs = behind-name t.name t.attrs h.rest h.attributes (ap are_allowed (sym h.splits) ∙ a) }

-- what a whole tag holds between `<` and its end
inside-tag : (inner : List ℕ) (c : ℕ) (more : List ℕ) → c < 128 → are_allowed (60 ∷ (inner ++ c ∷ more)) ≡ true → are_allowed inner ≡ true
inside-tag inner c more l a = (allowed-before inner c more l (allowed-tail 60 (inner ++ c ∷ more) (omega arith) a)).0

low-front : (front t : List ℕ) → list_all is_low front ≡ true → are_allowed (front ++ t) ≡ true → are_allowed t ≡ true
low-front [] t h a = a
low-front (c ∷ front) t h a =
    let z = and_parts (is_low c) (list_all is_low front) h in
    let y = z.0 in
    low-front front t z.1 (allowed-tail c (front ++ t) (grind (arith, nat_tests)) a)

pub means-formed : (kind : Kind) (at : ℕ) (text : List ℕ) (token : Token) → HasForm kind at text token → are_allowed text ≡ true → IsFormedToken token
means-formed StartTag at text (start tag) h a = tag-formed tag h.0 h.2 (inside-tag h.0 62 [] (omega arith) (ap are_allowed (sym h.1) ∙ a))
means-formed StartTag at text (empty tag) h a = tag-formed tag h.0 h.2 (inside-tag h.0 47 (62 ∷ []) (omega arith) (ap are_allowed (sym h.1) ∙ a))
means-formed Cdata at text (section inner) h a =
    (allowed-before inner 93 (93 ∷ 62 ∷ []) (omega arith) (low-front (codes "<![CDATA[") (inner ++ codes "]]>") refl (ap are_allowed (sym h) ∙ a))).0
means-formed Text at text (words w) h a = ap are_allowed h.0 ∙ a
means-formed Reference at text (refer None) h a = tt
means-formed Reference at text (refer (Some char)) h a = referred-by-allowed text char (sym h)
means-formed Declaration at text (declaration version encoding) h a = tt
means-formed Instruction at text silent h a = tt
means-formed Comment at text silent h a = tt
means-formed Doctype at text (doctype b) h a = tt
means-formed EndTag at text (close name) h a = tt
means-formed kind at text token h a = absurd h
