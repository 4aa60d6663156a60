-- A construct's form, and how it is read: the reading finds what the form says.
use Rattle.std.proofs.Common.{◌≡◌, ◌≢◌, ℕ, ◌-◌, ◌<◌, ◌==◌, nat_lt, Bool, true, false, ◌&&◌, ◌||◌, not, if◌then◌else◌, ◌⊎◌, inl, inr, List, [], ◌∷◌, ◌++◌, length, take, map, Option, Some, None, refl, sym, ap, ◌∙◌, arith, subst, append_assoc, append-nil, length-append, bytes_eq, codes}
use Rattle.std.specs.List.{list_all}
use Rattle.std.specs.Char.{to_ascii_lowercase}
use Rattle.std.proofs.lemmas.Bool.{lt-ltb, and_parts, or_cases, not-true}
use Rattle.ix_base.specs.NcName.{is_white, is_ncname}
use Rattle.ix_base.specs.Scope.{is_qname}
use Rattle.page_constructs.specs.Constructs.{starts}
use Rattle.page_constructs.specs.Ends.{HasEnds}
use Rattle.page_constructs.specs.Forms.{AreWhite, holds, has_bracket, between, IsPart, IsStandalone, IsDeclared, IsInstruction, IsInTag, HasForm}
use Rattle.page_constructs.specs.Meanings.{given, ◌>>=◌, before, from, is_dark, behind_white, is_white_text, behind_front, equalled, inside, slash, tag, start_tag, end_tag, part_at, is_answer, ends_standalone, ends_declaration, declared_behind, declared, instructed, commented, doctyped, meant_by}
use Rattle.page_constructs.specs.Tokens.{Tag, Token, start, empty, close, words, refer, section, declaration, doctype, silent}
use Rattle.page_constructs.specs.Values.{referred_by}
use Rattle.page_constructs.specs.declared.kind.Kind.{Kind}
use Rattle.page_constructs.specs.declared.kind.Kind.TheVariants.{Declaration, Instruction, Comment, Cdata, Doctype, Unknown, EndTag, StartTag, Reference, Text}
use Rattle.page_constructs.proofs.SpanLaws.{and_both, NoneStops, Stops, before-span, from-span, before-from, before-none, from-stops, none-all, bind-some, given-some, starts-append, drop-front, take-front}
use Rattle.page_constructs.proofs.NameBytes.{is_name_byte, is_qname_byte, ncname-bytes, ncname-some, qname-bytes, name-not-white}
use Rattle.page_constructs.proofs.TagForms.{white-dark, dark-white, equal-in, equal-out, behind-is, some-same, end_of, tag-in, tag-out, white-some}

-- what stands between two texts
pub inside-between : (front inner back : List ℕ) → inside (length front) (length back) (between front inner back) ≡ inner
inside-between front inner back =
    let l : length (front ++ (inner ++ back)) - length front - length back ≡ length inner = omega (arith, length-append front (inner ++ back), length-append inner back) in
    ap (λ x. take (length (front ++ (inner ++ back)) - length front - length back) x) (drop-front front (inner ++ back))
    ∙ ap (λ m. take m (inner ++ back)) l ∙ take-front inner back

-- white space before a text
white-before : (white : List ℕ) (c : ℕ) (x : List ℕ) → AreWhite white → is_white c ≡ false → behind_white (white ++ c ∷ x) ≡ c ∷ x
white-before white c x w d = from-span is_dark white (c ∷ x) (white-dark white w) (rw d refl)

some-length : (t : List ℕ) → t ≢ [] → 0 < length t
some-length [] h = absurd (h refl)
some-length (c ∷ t) h = omega arith

-- a part of a declaration, whose name begins with a byte that is no white space
pub part-in : (c : ℕ) (name raw more text : List ℕ) → is_white c ≡ false → IsPart (c ∷ name) raw more text → part_at (c ∷ name) text ≡ Some (raw, more)
part-in c name raw more text d p =
    let e : behind_white text ≡ c ∷ (name ++ p.behind) = ap behind_white p.splits ∙ white-before p.white c (name ++ p.behind) p.are_white d in
    let l : length text ≡ length (p.white ++ (c ∷ name ++ p.behind)) = ap length p.splits in
    let apart = lt-ltb (length (behind_white text)) (length text) (let w = some-length p.white p.apart in let z : length (behind_white text) ≡ length (c ∷ name ++ p.behind) = ap length e in omega (arith, length-append p.white (c ∷ name ++ p.behind))) in
    let rest : behind_front (c ∷ name) (behind_white text) ≡ Some p.behind = ap (behind_front (c ∷ name)) e ∙ rw (starts-append (c ∷ name) p.behind, drop-front (c ∷ name) p.behind) refl in
    rw (apart, rest) (equal-in raw more p.behind p.equal)

pub part-out : (name text : List ℕ) (q : List ℕ × List ℕ) → part_at name text ≡ Some q → IsPart name q.0 q.1 text
part-out name text q e =
    let a = given-some (nat_lt (length (behind_white text)) (length text)) _ q e in
    let b = bind-some (behind_front name (behind_white text)) _ q a.1 in
    record {
      white = before is_dark text;
      behind = b.0;
      splits = before-from is_dark text ∙ ap (λ x. before is_dark text ++ x) (behind-is name (behind_white text) b.0 b.1);
      apart = white-some text a.0;
      are_white = dark-white (before is_dark text) (before-none is_dark text);
      equal = equal-out b.0 q b.2;
    }

or-left : (a b : Bool) → a ≡ true → (a || b) ≡ true
or-left a b h = rw h refl

or-right : (a b : Bool) → b ≡ true → (a || b) ≡ true
or-right true b h = refl
or-right false b h = h

standalone-in : (text : List ℕ) → IsStandalone text → ends_declaration text ≡ true
standalone-in text (inl w) = or-left (is_white_text text) _ w
standalone-in text (inr p) =
    or-right (is_white_text text) _ (ap ends_standalone (part-in 115 (codes "tandalone") p.0 p.1 text refl p.2) ∙ and_both (is_answer p.0) (is_white_text p.1) p.3 p.4)

standalone-out : (text : List ℕ) → ends_declaration text ≡ true → IsStandalone text
standalone-out text h = cases (or_cases (is_white_text text) (ends_standalone (part_at (codes "standalone") text)) h) where
  found : (o : Option (List ℕ × List ℕ)) → part_at (codes "standalone") text ≡ o → ends_standalone o ≡ true → IsStandalone text
  found None e q = absurd (cc)
  found (Some p) e q =
      let k = and_parts (is_answer p.0) (is_white_text p.1) q in
      inr (p.0, p.1, part-out (codes "standalone") text p e, k.0, k.1)

  cases : (is_white_text text ≡ true) ⊎ (ends_standalone (part_at (codes "standalone") text) ≡ true) → IsStandalone text
  cases (inl w) = inl w
  cases (inr q) = found (part_at (codes "standalone") text) refl q

part-none : (name text : List ℕ) → starts name (behind_white text) ≡ false → part_at name text ≡ None
part-none name text h =
    elim (nat_lt (length (behind_white text)) (length text)) as (λ b. (given b >>= (λ apart. behind_front name (behind_white text) >>= (λ rest. equalled rest))) ≡ None) [
      | true ↦ rw h refl
      | false ↦ refl
    ]

white-behind : (text : List ℕ) → AreWhite text → behind_white text ≡ []
white-behind text w = ap behind_white (sym (append-nil text)) ∙ from-span is_dark text [] (white-dark text w) tt

-- where no encoding is declared, there is no such part
no-encoding : (text : List ℕ) → IsStandalone text → part_at (codes "encoding") text ≡ None
no-encoding text (inl w) = part-none (codes "encoding") text (ap (starts (codes "encoding")) (white-behind text w))
no-encoding text (inr p) =
    part-none (codes "encoding") text (ap (λ x. starts (codes "encoding") (behind_white x)) p.2.splits
    ∙ ap (starts (codes "encoding")) (white-before p.2.white 115 (codes "tandalone" ++ p.2.behind) p.2.are_white refl))

declared-in : (version : List ℕ) (encoding : Option (List ℕ)) (inner : List ℕ) → IsDeclared version encoding inner → declared inner ≡ Some (declaration version encoding)
declared-in version None inner d =
    rw (part-in 118 (codes "ersion") version d.0 inner refl d.1)
    (ap (declared_behind version d.0) (no-encoding d.0 d.2) ∙ rw (standalone-in d.0 d.2) refl)
declared-in version (Some encoding) inner d =
    rw (part-in 118 (codes "ersion") version d.0 inner refl d.2)
    (ap (declared_behind version d.0) (part-in 101 (codes "ncoding") encoding d.1 d.0 refl d.3) ∙ rw (standalone-in d.1 d.4) refl)

pub record WasDeclared (inner : List ℕ) (token : Token) : Type 0 where
  pub version : List ℕ
  pub encoding : Option (List ℕ)
  pub is : token ≡ declaration version encoding
  pub form : IsDeclared version encoding inner

declared-out : (inner : List ℕ) (token : Token) → declared inner ≡ Some token → WasDeclared inner token
declared-out inner token e =
    let v = bind-some (part_at (codes "version") inner) _ token e in
    behind_version v.0 (part-out (codes "version") inner v.0 v.1) (part_at (codes "encoding") v.0.1) refl v.2
  where
    without : (v : List ℕ × List ℕ) → IsPart (codes "version") v.0 v.1 inner → (b : Bool) → ends_declaration v.1 ≡ b → (if b then Some (declaration v.0 None) else None) ≡ Some token → WasDeclared inner token
    without v p false b q = absurd (cc)
    without v p true b q = record { version = v.0; encoding = None; is = sym (some-same (declaration v.0 None) token q); form = (v.1, p, standalone-out v.1 b) }

    with_ : (v c : List ℕ × List ℕ) → IsPart (codes "version") v.0 v.1 inner → IsPart (codes "encoding") c.0 c.1 v.1 → (b : Bool) → ends_declaration c.1 ≡ b → (if b then Some (declaration v.0 (Some c.0)) else None) ≡ Some token → WasDeclared inner token
    with_ v c p k false b q = absurd (cc)
    with_ v c p k true b q = record { version = v.0; encoding = Some c.0; is = sym (some-same (declaration v.0 (Some c.0)) token q); form = (v.1, c.1, p, k, standalone-out c.1 b) }

    behind_version : (v : List ℕ × List ℕ) → IsPart (codes "version") v.0 v.1 inner → (o : Option (List ℕ × List ℕ)) → part_at (codes "encoding") v.1 ≡ o → declared_behind v.0 v.1 o ≡ Some token → WasDeclared inner token
    behind_version v p None o q = without v p (ends_declaration v.1) refl q
    behind_version v p (Some c) o q = with_ v c p (part-out (codes "encoding") v.1 c o) (ends_declaration c.1) refl q

name-dark : (t : List ℕ) → is_ncname t ≡ true → NoneStops is_white t
name-dark t h = none-all is_white is_name_byte (λ c k. name-not-white c (or-left (is_name_byte c) (c == 58) k)) t (ncname-bytes t h)

instructed-in : (inner : List ℕ) → IsInstruction inner → instructed inner ≡ Some silent
instructed-in inner i =
    let e = ap (before is_white) i.splits ∙ before-span is_white i.target i.rest (name-dark i.target i.name) (stops i.rest i.apart) in
    rw (e, i.name, i.plain) refl
  where
    stops : (rest : List ℕ) → (rest ≡ []) ⊎ ((c : ℕ) × (more : List ℕ) × (rest ≡ c ∷ more) × (is_white c ≡ true)) → Stops is_white rest
    stops rest (inl e) = subst (Stops is_white) (sym e) tt
    stops rest (inr p) = subst (Stops is_white) (sym p.2) p.3

instructed-out : (inner : List ℕ) (token : Token) → instructed inner ≡ Some token → (token ≡ silent) × IsInstruction inner
instructed-out inner token e = found (is_ncname (before is_white inner) && not (bytes_eq (map to_ascii_lowercase (before is_white inner)) (codes "xml"))) refl e where
  ends : (rest : List ℕ) → Stops is_white rest → (rest ≡ []) ⊎ ((c : ℕ) × (more : List ℕ) × (rest ≡ c ∷ more) × (is_white c ≡ true))
  ends [] s = inl refl
  ends (c ∷ rest) s = inr (c, rest, refl, s)

  found : (b : Bool) → (is_ncname (before is_white inner) && not (bytes_eq (map to_ascii_lowercase (before is_white inner)) (codes "xml"))) ≡ b → (if b then Some silent else None) ≡ Some token → (token ≡ silent) × IsInstruction inner
  found false b q = absurd (cc)
  found true b q =
      let k = and_parts (is_ncname (before is_white inner)) (not (bytes_eq (map to_ascii_lowercase (before is_white inner)) (codes "xml"))) b in (
        sym (some-same silent token q),
        record {
          target = before is_white inner;
          rest = from is_white inner;
          splits = before-from is_white inner;
          name = k.0;
          plain = not-true (bytes_eq (map to_ascii_lowercase (before is_white inner)) (codes "xml")) k.1;
          apart = ends (from is_white inner) (from-stops is_white inner);
        },
      )

qname-dark : (t : List ℕ) → is_qname t ≡ true → NoneStops is_white t
qname-dark t h = none-all is_white is_qname_byte (λ c k. name-not-white c k) t (qname-bytes t h)

end-in : (name white : List ℕ) → is_qname name ≡ true → AreWhite white → end_tag (name ++ white) ≡ Some (close name)
end-in name white n w =
    let none = qname-dark name n in
    let stops = white-stops white w in
    rw (before-span is_white name white none stops, from-span is_white name white none stops, n, w) refl
  where
    white-stops : (p : List ℕ) → list_all is_white p ≡ true → Stops is_white p
    white-stops [] h = tt
    white-stops (c ∷ p) h = (and_parts (is_white c) (list_all is_white p) h).0

pub record WasEnd (inner : List ℕ) (token : Token) : Type 0 where
  pub name : List ℕ
  pub white : List ℕ
  pub is : token ≡ close name
  pub splits : inner ≡ name ++ white
  pub named : is_qname name ≡ true
  pub are_white : AreWhite white

end-out : (inner : List ℕ) (token : Token) → end_tag inner ≡ Some token → WasEnd inner token
end-out inner token e =
    let n = given-some (is_qname (before is_white inner)) _ token e in
    let r = given-some (is_white_text (from is_white inner)) _ token n.1 in
    record {
      name = before is_white inner;
      white = from is_white inner;
      is = sym (some-same (close (before is_white inner)) token r.1);
      splits = before-from is_white inner;
      named = n.0;
      are_white = r.0;
    }

declaration-form : (at : ℕ) (text : List ℕ) (token : Token) → HasEnds Declaration text → meant_by Declaration at text ≡ Some token → HasForm Declaration at text token
unfolding meant_by
declaration-form at text token h e =
    let i : inside 5 2 text ≡ h.0 = ap (inside 5 2) h.1 ∙ inside-between (codes "<?xml") h.0 (codes "?>") in
    let d = declared-out (inside 5 2 text) token e in
    subst (HasForm Declaration at text) (sym d.is) (h.0, h.1, subst (IsDeclared d.version d.encoding) i d.form)

instruction-form : (at : ℕ) (text : List ℕ) (token : Token) → HasEnds Instruction text → meant_by Instruction at text ≡ Some token → HasForm Instruction at text token
unfolding meant_by
instruction-form at text token (inl h) e =
    let i : inside 2 2 text ≡ h.0 = ap (inside 2 2) h.1 ∙ inside-between (codes "<?") h.0 (codes "?>") in
    let d = instructed-out (inside 2 2 text) token e in
    subst (HasForm Instruction at text) (sym d.0) (h.0, h.1, subst IsInstruction i d.1)
instruction-form at text token (inr h) e =
    let d = instructed-out (inside 2 2 text) token e in
    let i : inside 2 2 text ≡ [] = ap (inside 2 2) h in
    absurd (no-instruction (subst IsInstruction i d.1)) where
      no-instruction : IsInstruction [] → ⊥
      no-instruction i = nothing i.target i.rest i.splits i.name
        where
          nothing : (t r : List ℕ) → [] ≡ t ++ r → is_ncname t ≡ true → ⊥
          nothing [] r s n = ncname-some [] n refl
          nothing (c ∷ t) r s n = cc

comment-form : (at : ℕ) (text : List ℕ) (token : Token) → HasEnds Comment text → meant_by Comment at text ≡ Some token → HasForm Comment at text token
unfolding meant_by
comment-form at text token h e = found (holds (codes "--") (inside 4 3 text ++ codes "-")) refl e where
  i : inside 4 3 text ≡ h.0
  i = ap (inside 4 3) h.1 ∙ inside-between (codes "<!--") h.0 (codes "-->")

  found : (b : Bool) → holds (codes "--") (inside 4 3 text ++ codes "-") ≡ b → (if b then None else Some silent) ≡ Some token → HasForm Comment at text token
  found true b q = absurd (cc)
  found false b q = subst (HasForm Comment at text) (some-same silent token q) (h.0, h.1, ap (λ x. holds (codes "--") (x ++ codes "-")) (sym i) ∙ b)

section-form : (at : ℕ) (text : List ℕ) (token : Token) → HasEnds Cdata text → meant_by Cdata at text ≡ Some token → HasForm Cdata at text token
unfolding meant_by
section-form at text token h e =
    let i : inside 9 3 text ≡ h.0 = ap (inside 9 3) h.1 ∙ inside-between (codes "<![CDATA[") h.0 (codes "]]>") in
    subst (HasForm Cdata at text) (some-same (section (inside 9 3 text)) token e) (h.1 ∙ ap (λ x. between (codes "<![CDATA[") x (codes "]]>")) (sym i))

doctype-form : (at : ℕ) (text : List ℕ) (token : Token) → HasEnds Doctype text → meant_by Doctype at text ≡ Some token → HasForm Doctype at text token
unfolding meant_by
doctype-form at text token h e =
    let i : inside 9 1 text ≡ h.0 = ap (inside 9 1) h.1 ∙ inside-between (codes "<!DOCTYPE") h.0 (codes ">") in
    first h.0 h.1 (ap doctyped (sym i) ∙ e)
  where
    first : (inner : List ℕ) → text ≡ between (codes "<!DOCTYPE") inner (codes ">") → doctyped inner ≡ Some token → HasForm Doctype at text token
    first [] t q = absurd (cc)
    first (c ∷ inner) t q = found (is_white c) refl q where
      found : (b : Bool) → is_white c ≡ b → (if b then Some (doctype (has_bracket None inner)) else None) ≡ Some token → HasForm Doctype at text token
      found false w r = absurd (cc)
      found true w r = subst (HasForm Doctype at text) (some-same (doctype (has_bracket None inner)) token r) (c, inner, t, w, refl)

end-form : (at : ℕ) (text : List ℕ) (token : Token) → HasEnds EndTag text → meant_by EndTag at text ≡ Some token → HasForm EndTag at text token
unfolding meant_by
end-form at text token h e =
    let i : inside 2 1 text ≡ h.0 = ap (inside 2 1) h.1 ∙ inside-between (codes "</") h.0 (codes ">") in
    let d = end-out (inside 2 1 text) token e in
    subst (HasForm EndTag at text) (sym d.is) (d.white, h.1 ∙ ap (λ x. between (codes "</") x (codes ">")) (sym i ∙ d.splits), d.named, d.are_white)

start-form : (at : ℕ) (text : List ℕ) (token : Token) → HasEnds StartTag text → meant_by StartTag at text ≡ Some token → HasForm StartTag at text token
unfolding meant_by
start-form at text token h e =
    let i : inside 1 1 text ≡ h.0 = ap (inside 1 1) h.1 ∙ inside-between (codes "<") h.0 (codes ">") in
    let d = tag-out at (inside 1 1 text) token e in
    subst (HasForm StartTag at text) (sym d.2) (ends d.0 d.1 d.3.front (h.1 ∙ ap (λ x. between (codes "<") x (codes ">")) (sym i ∙ d.3.splits)) d.3.holds d.3.offset)
  where
    ends : (s : Bool) (t : Tag) (front : List ℕ) → text ≡ between (codes "<") (front ++ end_of s) (codes ">") → IsInTag t front → t.offset ≡ at → HasForm StartTag at text (tag s t)
    ends false t front x i o = (front, x ∙ ap (λ y. between (codes "<") y (codes ">")) (append-nil front), i, o)
    ends true t front x i o = (front, x ∙ ap (λ y. codes "<" ++ y) (append_assoc front slash (codes ">")), i, o)

text-form : (at : ℕ) (text : List ℕ) (token : Token) → meant_by Text at text ≡ Some token → HasForm Text at text token
unfolding meant_by
text-form at text token e = found (holds (codes "]]>") text) refl e where
  found : (b : Bool) → holds (codes "]]>") text ≡ b → (if b then None else Some (words text)) ≡ Some token → HasForm Text at text token
  found true b q = absurd (cc)
  found false b q = subst (HasForm Text at text) (some-same (words text) token q) (refl, b)

reference-form : (at : ℕ) (text : List ℕ) (token : Token) → meant_by Reference at text ≡ Some token → HasForm Reference at text token
unfolding meant_by
reference-form at text token e = subst (HasForm Reference at text) (some-same (refer (referred_by text)) token e) refl

unknown-form : (at : ℕ) (text : List ℕ) (token : Token) → meant_by Unknown at text ≡ Some token → HasForm Unknown at text token
unfolding meant_by
unknown-form at text token e = absurd (cc)

-- what is read of a construct that is cut as its kind says is its form
pub form-read : (kind : Kind) (at : ℕ) (text : List ℕ) (token : Token) → HasEnds kind text → meant_by kind at text ≡ Some token → HasForm kind at text token
form-read Declaration at text token h e = declaration-form at text token h e
form-read Instruction at text token h e = instruction-form at text token h e
form-read Comment at text token h e = comment-form at text token h e
form-read Cdata at text token h e = section-form at text token h e
form-read Doctype at text token h e = doctype-form at text token h e
form-read Unknown at text token h e = unknown-form at text token e
form-read EndTag at text token h e = end-form at text token h e
form-read StartTag at text token h e = start-form at text token h e
form-read Reference at text token h e = reference-form at text token e
form-read Text at text token h e = text-form at text token e

-- what a construct means by its form is read of it
pub form-meant : (kind : Kind) (at : ℕ) (text : List ℕ) (token : Token) → HasForm kind at text token → meant_by kind at text ≡ Some token
unfolding meant_by
form-meant Declaration at text (start g) h = absurd h
form-meant Declaration at text (empty g) h = absurd h
form-meant Declaration at text (close m) h = absurd h
form-meant Declaration at text (words w) h = absurd h
form-meant Declaration at text (refer c) h = absurd h
form-meant Declaration at text (section w) h = absurd h
form-meant Declaration at text (declaration v x) h = ap declared (ap (inside 5 2) h.1 ∙ inside-between (codes "<?xml") h.0 (codes "?>")) ∙ declared-in v x h.0 h.2
form-meant Declaration at text (doctype s) h = absurd h
form-meant Declaration at text silent h = absurd h
form-meant Instruction at text (start g) h = absurd h
form-meant Instruction at text (empty g) h = absurd h
form-meant Instruction at text (close m) h = absurd h
form-meant Instruction at text (words w) h = absurd h
form-meant Instruction at text (refer c) h = absurd h
form-meant Instruction at text (section w) h = absurd h
form-meant Instruction at text (declaration v x) h = absurd h
form-meant Instruction at text (doctype s) h = absurd h
form-meant Instruction at text silent h = ap instructed (ap (inside 2 2) h.1 ∙ inside-between (codes "<?") h.0 (codes "?>")) ∙ instructed-in h.0 h.2
form-meant Comment at text (start g) h = absurd h
form-meant Comment at text (empty g) h = absurd h
form-meant Comment at text (close m) h = absurd h
form-meant Comment at text (words w) h = absurd h
form-meant Comment at text (refer c) h = absurd h
form-meant Comment at text (section w) h = absurd h
form-meant Comment at text (declaration v x) h = absurd h
form-meant Comment at text (doctype s) h = absurd h
form-meant Comment at text silent h = ap commented (ap (inside 4 3) h.1 ∙ inside-between (codes "<!--") h.0 (codes "-->")) ∙ rw h.2 refl
form-meant Cdata at text (start g) h = absurd h
form-meant Cdata at text (empty g) h = absurd h
form-meant Cdata at text (close m) h = absurd h
form-meant Cdata at text (words w) h = absurd h
form-meant Cdata at text (refer c) h = absurd h
form-meant Cdata at text (section w) h = ap (λ y. Some (section y)) (ap (inside 9 3) h ∙ inside-between (codes "<![CDATA[") w (codes "]]>"))
form-meant Cdata at text (declaration v x) h = absurd h
form-meant Cdata at text (doctype s) h = absurd h
form-meant Cdata at text silent h = absurd h
form-meant Doctype at text (start g) h = absurd h
form-meant Doctype at text (empty g) h = absurd h
form-meant Doctype at text (close m) h = absurd h
form-meant Doctype at text (words w) h = absurd h
form-meant Doctype at text (refer c) h = absurd h
form-meant Doctype at text (section w) h = absurd h
form-meant Doctype at text (declaration v x) h = absurd h
form-meant Doctype at text (doctype s) h = ap doctyped (ap (inside 9 1) h.2 ∙ inside-between (codes "<!DOCTYPE") (h.0 ∷ h.1) (codes ">")) ∙ rw h.3 (ap (λ y. Some (doctype y)) (sym h.4))
form-meant Doctype at text silent h = absurd h
form-meant Unknown at text (start g) h = absurd h
form-meant Unknown at text (empty g) h = absurd h
form-meant Unknown at text (close m) h = absurd h
form-meant Unknown at text (words w) h = absurd h
form-meant Unknown at text (refer c) h = absurd h
form-meant Unknown at text (section w) h = absurd h
form-meant Unknown at text (declaration v x) h = absurd h
form-meant Unknown at text (doctype s) h = absurd h
form-meant Unknown at text silent h = absurd h
form-meant EndTag at text (start g) h = absurd h
form-meant EndTag at text (empty g) h = absurd h
form-meant EndTag at text (close m) h = ap end_tag (ap (inside 2 1) h.1 ∙ inside-between (codes "</") (m ++ h.0) (codes ">")) ∙ end-in m h.0 h.2 h.3
form-meant EndTag at text (words w) h = absurd h
form-meant EndTag at text (refer c) h = absurd h
form-meant EndTag at text (section w) h = absurd h
form-meant EndTag at text (declaration v x) h = absurd h
form-meant EndTag at text (doctype s) h = absurd h
form-meant EndTag at text silent h = absurd h
form-meant StartTag at text (start g) h = ap (start_tag at) (ap (inside 1 1) h.1 ∙ inside-between (codes "<") h.0 (codes ">") ∙ sym (append-nil h.0)) ∙ tag-in at g h.0 false h.2 h.3
form-meant StartTag at text (empty g) h = ap (start_tag at) (ap (inside 1 1) (h.1 ∙ ap (λ y. codes "<" ++ y) (sym (append_assoc h.0 slash (codes ">")))) ∙ inside-between (codes "<") (h.0 ++ slash) (codes ">")) ∙ tag-in at g h.0 true h.2 h.3
form-meant StartTag at text (close m) h = absurd h
form-meant StartTag at text (words w) h = absurd h
form-meant StartTag at text (refer c) h = absurd h
form-meant StartTag at text (section w) h = absurd h
form-meant StartTag at text (declaration v x) h = absurd h
form-meant StartTag at text (doctype s) h = absurd h
form-meant StartTag at text silent h = absurd h
form-meant Reference at text (start g) h = absurd h
form-meant Reference at text (empty g) h = absurd h
form-meant Reference at text (close m) h = absurd h
form-meant Reference at text (words w) h = absurd h
form-meant Reference at text (refer c) h = ap (λ y. Some (refer y)) (sym h)
form-meant Reference at text (section w) h = absurd h
form-meant Reference at text (declaration v x) h = absurd h
form-meant Reference at text (doctype s) h = absurd h
form-meant Reference at text silent h = absurd h
form-meant Text at text (start g) h = absurd h
form-meant Text at text (empty g) h = absurd h
form-meant Text at text (close m) h = absurd h
form-meant Text at text (words w) h = rw h.1 (ap (λ y. Some (words y)) (sym h.0))
form-meant Text at text (refer c) h = absurd h
form-meant Text at text (section w) h = absurd h
form-meant Text at text (declaration v x) h = absurd h
form-meant Text at text (doctype s) h = absurd h
form-meant Text at text silent h = absurd h
