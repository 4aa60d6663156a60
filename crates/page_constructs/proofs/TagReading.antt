-- How the code that reads tags meets its definitions.
use Rattle.std.proofs.Common.{◌≡◌, ◌≢◌, ℕ, suc, zero, ◌+◌, ◌<◌, ◌≤◌, ◌==◌, inl, inr, nat_lt, Bool, true, false, drop, List, [], ◌∷◌, ◌++◌, map, length, Option, Some, None, option_map, refl, sym, ap, ◌∙◌, arith, bytes_eq, append_assoc, append-nil, length-append}
use Rattle.std.proofs.lemmas.Bool.{lt-ltb}
use Rattle.std.proofs.lemmas.Bool.Decides.{nat_tests}
use Rattle.ix_base.specs.Scope.{is_qname}
use Rattle.page_constructs.specs.Meanings.{◌>>=◌, is_dark, behind_white, is_white_text, equalled, slash, attribute_at, attributes_in, before, from, ends_name, ends_tag_name, tag, start_tag, end_tag, behind_front, part_at}
use Rattle.page_constructs.specs.Forms.{has}
use Rattle.page_constructs.specs.Tokens.{Attribute, close}
use Rattle.ix_base.specs.NcName.{is_white}
use Rattle.page_constructs.proofs.Parting.{from-short}
use Rattle.page_constructs.specs.Constructs.{starts}
use Rattle.page_constructs.proofs.BoolLaws.{and_left}
use Rattle.page_constructs.proofs.SpanLaws.{Stops, before-span, from-span, either, none-all, one_number, starts-front}
use Rattle.page_constructs.proofs.NameBytes.{is_qname_byte, qname-bytes, name-not-white}
use Rattle.page_constructs.proofs.TagForms.{equal-out, name-none, tag-name-none, behind-is}

-- what is behind a quoted value
pub equalled-short : (text : List ℕ) (p : List ℕ × List ℕ) → Some p ≡ equalled text → length p.1 ≤ length text
equalled-short text p e =
    let q = equal-out text p (sym e) in
    let l : length text ≡ length (q.front ++ 61 ∷ (q.back ++ q.quote ∷ (p.0 ++ q.quote ∷ p.1))) = ap length q.splits in
    omega (arith, length-append q.front (61 ∷ (q.back ++ q.quote ∷ (p.0 ++ q.quote ∷ p.1))), length-append q.back (q.quote ∷ (p.0 ++ q.quote ∷ p.1)), length-append p.0 (q.quote ∷ p.1))

-- a qualified name at the front, and a `=` behind it
pub name-known : (name text rest : List ℕ) → is_qname name ≡ true → Some rest ≡ behind_front name text → starts (61 ∷ []) rest ≡ true
    → (name ≡ before ends_name text) × (rest ≡ from ends_name text)
name-known name text rest q b e =
    let splits = behind-splits name text rest b in
    let free = name-none name q in
    let ends = equal-stops rest e in
    (sym (ap (before ends_name) splits ∙ before-span ends_name name rest free ends), sym (ap (from ends_name) splits ∙ from-span ends_name name rest free ends)) where
      behind-splits : (front text rest : List ℕ) → Some rest ≡ behind_front front text → text ≡ front ++ rest
      behind-splits front text rest b = elim (either (starts front text)) as (λ x. text ≡ front ++ rest) [
        | inl y ↦ let z : Some rest ≡ Some (drop (length front) text) = b ∙ rw y refl in let same : rest ≡ drop (length front) text = cc in starts-front front text y ∙ ap (λ r. front ++ r) (sym same)
        | inr n ↦ let z : Some rest ≡ None = b ∙ rw n refl in absurd (cc)
      ]

      equal-stops : (rest : List ℕ) → starts (61 ∷ []) rest ≡ true → Stops ends_name rest
      equal-stops [] e = absurd (cc)
      equal-stops (c ∷ rest) e = let same : c ≡ 61 = one_number c 61 (and_left (c == 61) true e) in rw same refl

-- what no tag's name stands in front of
none-before : (rest : List ℕ) → before ends_tag_name rest ≡ [] → Stops ends_tag_name rest
none-before [] e = tt
none-before (c ∷ rest) e = elim (either (ends_tag_name c)) as (λ x. Stops ends_tag_name (c ∷ rest)) [
  | inl y ↦ y
  | inr n ↦ let z : c ∷ before ends_tag_name rest ≡ [] = rw n at e in absurd (cc)
]

-- a qualified name at the front of a tag, and what may follow it
pub tag-name-known : (name text rest : List ℕ) → is_qname name ≡ true → Some rest ≡ behind_front name text → before ends_tag_name rest ≡ []
    → (name ≡ before ends_tag_name text) × (rest ≡ from ends_tag_name text)
tag-name-known name text rest q b e =
    let splits = behind-is name text rest (sym b) in
    let free = tag-name-none name q in
    let ends = none-before rest e in
    (sym (ap (before ends_tag_name) splits ∙ before-span ends_tag_name name rest free ends), sym (ap (from ends_tag_name) splits ∙ from-span ends_tag_name name rest free ends))

-- a qualified name alone in an end tag
pub closed_name : (name : List ℕ) → is_qname name ≡ true → Some (close name) ≡ end_tag name
closed_name name q =
    let free = none-all is_white is_qname_byte (λ c k. name-not-white c k) name (qname-bytes name q) in
    let front : before is_white name ≡ name = ap (before is_white) (sym (append-nil name)) ∙ before-span is_white name [] free tt in
    let back : from is_white name ≡ [] = ap (from is_white) (sym (append-nil name)) ∙ from-span is_white name [] free tt in
    rw (front, q, back) refl

-- no attribute
module _ (text name rest : List ℕ) (b : before ends_name text ≡ name) (f : from ends_name text ≡ rest) (n : is_qname name ≡ true) where
  pub attribute-open : (p : List ℕ × List ℕ) → Some p ≡ equalled rest → has 60 p.0 ≡ true → None ≡ attribute_at text
  attribute-open p e h = rw (b, f, n, ← e, h) refl

  pub attribute-unequalled : None ≡ equalled rest → None ≡ attribute_at text
  attribute-unequalled e = rw (b, f, n, ← e) refl

-- white space in front
pub apart : (text : List ℕ) → length (behind_white text) ≢ length text → nat_lt (length (behind_white text)) (length text) ≡ true
apart text h = lt-ltb (length (behind_white text)) (length text) (let s = from-short is_dark text in omega arith)

pub joined : (text : List ℕ) → length (behind_white text) ≡ length text → nat_lt (length (behind_white text)) (length text) ≡ false
joined text h = rw h (let z : nat_lt (length text) (length text) ≡ false = grind (arith, nat_tests) in z)

pub map-push : {A B : Type 0} (f : A → B) (xs : List A) (x : A) → map f (xs ++ x ∷ []) ≡ map f xs ++ f x ∷ []
map-push f [] x = refl
map-push f (y ∷ xs) x = ap (λ z. f y ∷ z) (map-push f xs x)

-- attributes behind others
abbrev pub Behind : List Attribute → Option (List Attribute × Bool) → Option (List Attribute × Bool)
Behind first more = option_map (λ r. (first ++ r.0, r.1)) more

pub behind-none : (o : Option (List Attribute × Bool)) → Behind [] o ≡ o
behind-none None = refl
behind-none (Some r) = refl

-- the attributes so far, and what is left to be read
pub record SoFar (first : List Attribute) (rest text : List ℕ) (n : ℕ) : Type 0 where
  pub count : ℕ
  pub enough : length rest < count
  pub same : Behind first (attributes_in count rest) ≡ attributes_in n text

pub so-far-none : (text : List ℕ) (n : ℕ) → length text < n → SoFar [] text text n
so-far-none text n h = record { count = n; enough = h; same = behind-none (attributes_in n text) }

white-end : (m : ℕ) (rest : List ℕ) → length rest < m → is_white_text rest ≡ true → attributes_in m rest ≡ Some ([], false)
unfolding attributes_in
white-end zero rest l w = absurd (omega arith)
white-end (suc m) rest l w = rw w refl

slash-end : (m : ℕ) (rest : List ℕ) → length rest < m → is_white_text rest ≡ false → bytes_eq (behind_white rest) slash ≡ true → attributes_in m rest ≡ Some ([], true)
unfolding attributes_in
slash-end zero rest l w s = absurd (omega arith)
slash-end (suc m) rest l w s = rw (w, s) refl

joined-on : (m : ℕ) (rest : List ℕ) → is_white_text rest ≡ false → bytes_eq (behind_white rest) slash ≡ false → nat_lt (length (behind_white rest)) (length rest) ≡ false → attributes_in m rest ≡ None
unfolding attributes_in
joined-on zero rest w s a = refl
joined-on (suc m) rest w s a = rw (w, s, a) refl

bad-next : (m : ℕ) (rest : List ℕ) → is_white_text rest ≡ false → bytes_eq (behind_white rest) slash ≡ false → nat_lt (length (behind_white rest)) (length rest) ≡ true → attribute_at (behind_white rest) ≡ None → attributes_in m rest ≡ None
unfolding attributes_in
bad-next zero rest w s a e = refl
bad-next (suc m) rest w s a e = rw (w, s, a, e) refl

one-more : Attribute → Option (List Attribute × Bool) → Option (List Attribute × Bool)
one-more a o = option_map (λ r. (a ∷ r.0, r.1)) o

good-next : (m : ℕ) (rest : List ℕ) (a : Attribute) (more : List ℕ) → is_white_text rest ≡ false → bytes_eq (behind_white rest) slash ≡ false → nat_lt (length (behind_white rest)) (length rest) ≡ true → attribute_at (behind_white rest) ≡ Some (a, more)
    → attributes_in (suc m) rest ≡ one-more a (attributes_in m more)
unfolding attributes_in one-more
good-next m rest a more w s p e = rw (w, s, p, e) (bound (attributes_in m more)) where
  bound : (o : Option (List Attribute × Bool)) → (o >>= (λ r. Some (a ∷ r.0, r.1))) ≡ one-more a o
  bound None = refl
  bound (Some r) = refl

behind-more : (first : List Attribute) (a : Attribute) (o : Option (List Attribute × Bool)) → Behind (first ++ a ∷ []) o ≡ Behind first (one-more a o)
unfolding one-more
behind-more first a None = refl
behind-more first a (Some r) = ap (λ x. Some (x, r.1)) (append_assoc first (a ∷ []) r.0)

module _ (first : List Attribute) (rest text : List ℕ) (n : ℕ) (f : SoFar first rest text n) where
  pub end-white : is_white_text rest ≡ true → Some (first, false) ≡ attributes_in n text
  end-white w = ap (λ x. Some (x, false)) (sym (append-nil first)) ∙ sym (ap (Behind first) (white-end f.count rest f.enough w)) ∙ f.same

  pub end-slash : is_white_text rest ≡ false → bytes_eq (behind_white rest) slash ≡ true → Some (first, true) ≡ attributes_in n text
  end-slash w s = ap (λ x. Some (x, true)) (sym (append-nil first)) ∙ sym (ap (Behind first) (slash-end f.count rest f.enough w s)) ∙ f.same

  pub end-joined : is_white_text rest ≡ false → bytes_eq (behind_white rest) slash ≡ false → nat_lt (length (behind_white rest)) (length rest) ≡ false → None ≡ attributes_in n text
  end-joined w s a = sym (ap (Behind first) (joined-on f.count rest w s a)) ∙ f.same

  pub end-bad : is_white_text rest ≡ false → bytes_eq (behind_white rest) slash ≡ false → nat_lt (length (behind_white rest)) (length rest) ≡ true → attribute_at (behind_white rest) ≡ None → None ≡ attributes_in n text
  end-bad w s a e = sym (ap (Behind first) (bad-next f.count rest w s a e)) ∙ f.same

  pub so-far-more : (a : Attribute) (more : List ℕ) → is_white_text rest ≡ false → bytes_eq (behind_white rest) slash ≡ false → nat_lt (length (behind_white rest)) (length rest) ≡ true → attribute_at (behind_white rest) ≡ Some (a, more)
      → length more < length rest → SoFar (first ++ a ∷ []) more text n
  so-far-more a more w s p e l = by_count f.count f.enough f.same where
    by_count : (m : ℕ) → length rest < m → Behind first (attributes_in m rest) ≡ attributes_in n text → SoFar (first ++ a ∷ []) more text n
    by_count zero q t = absurd (omega arith)
    by_count (suc m) q t = record {
      count = m;
      enough = omega arith;
      same = behind-more first a (attributes_in m more) ∙ ap (Behind first) (sym (good-next m rest a more w s p e)) ∙ t;
    }

-- what stands in a tag
module _ (at : ℕ) (inner name rest : List ℕ) (b : before ends_tag_name inner ≡ name) (f : from ends_tag_name inner ≡ rest) (n : is_qname name ≡ true) (read : Option (List Attribute × Bool))
    (a : (m : ℕ) → length rest < m → read ≡ attributes_in m rest) where
  read-whole : read ≡ attributes_in (length inner + 1) (from ends_tag_name inner)
  read-whole = a (length inner + 1) (let s = from-short ends_tag_name inner in let e = ap length f in omega arith) ∙ ap (attributes_in (length inner + 1)) (sym f)

  pub tag-none : read ≡ None → None ≡ start_tag at inner
  tag-none e = let whole = sym e ∙ read-whole in rw (b, n, ← whole) refl

  pub tag-some : (as' : List Attribute) (s : Bool) → read ≡ Some (as', s) → Some (tag s (record { offset = at; name = name; attrs = as' })) ≡ start_tag at inner
  tag-some as' s e = let whole = sym e ∙ read-whole in rw (b, n, ← whole) refl

-- a part of a declaration
pub part-some : (name text rest : List ℕ) → nat_lt (length (behind_white text)) (length text) ≡ true → behind_front name (behind_white text) ≡ Some rest → equalled rest ≡ part_at name text
part-some name text rest a e = rw (a, e) refl
