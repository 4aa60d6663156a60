-- The constructs of a page (XML 1.0 sections 2.4 to 2.8, 3.1 and 4.1): each is decided by its first characters, and ends
-- where the table of its kind says. A page's text is a list of bytes in UTF-8, with the line ends unified.
use Rattle.std.specs.Prelude.{ℕ, zero, suc, ◌+◌, ◌==◌, Bool, true, false, ◌&&◌, ◌||◌, not, List, [], ◌∷◌, ◌++◌, map, length, take, drop, Option, Some, None, option_map, is_none, if◌then◌else◌, codes, encode_utf8}
use Rattle.ix_base.specs.NcName.{is_white}
use Rattle.page_text.specs.Characters.{chars, stop}
use Rattle.page_text.specs.declared.Mark.{Mark}
use Rattle.page_constructs.specs.declared.kind.Kind.{Kind}
use Rattle.page_constructs.specs.declared.kind.Kind.TheVariants.{Declaration, Instruction, Comment, Cdata, Doctype, Unknown, EndTag, StartTag, Reference, Text}

-- the bytes begin so
abbrev pub starts : List ℕ → List ℕ → Bool
starts [] cs = true
starts (p ∷ ps) [] = false
starts (p ∷ ps) (c ∷ cs) = c == p && starts ps cs

-- how many bytes end with the first of these
abbrev pub after : List ℕ → List ℕ → Option ℕ
after ends [] = None
after ends (c ∷ cs) = if starts ends (c ∷ cs) then Some (length ends) else option_map suc (after ends cs)

-- how many bytes end with the first `>` outside quotes, inside an open quote where there is one
abbrev pub after_tag : Option ℕ → List ℕ → Option ℕ
after_tag quote [] = None
after_tag (Some q) (c ∷ cs) = option_map suc (if c == q then after_tag None cs else after_tag (Some q) cs)
after_tag None (c ∷ cs) =
    if c == 62 then Some 1 else option_map suc (if c == 34 || c == 39 then after_tag (Some c) cs else after_tag None cs)

-- how many bytes a text goes on: up to the next `<` or `&`
abbrev pub text_size : List ℕ → Option ℕ
text_size [] = None
text_size (c ∷ cs) = if c == 60 || c == 38 then Some 0 else option_map suc (text_size cs)

-- how many bytes a reference goes on behind its `&`: through the first `;`, or up to white space, `<` or `&`
abbrev pub reference_size : List ℕ → Option ℕ
reference_size [] = None
reference_size (c ∷ cs) =
    if c == 59 then Some 1 else (if is_white c || c == 60 || c == 38 then Some 0 else option_map suc (reference_size cs))

abbrev pub starts_white : List ℕ → Bool
starts_white [] = false
starts_white (c ∷ cs) = is_white c

-- what the first construct is, where it is neither a declaration nor an instruction
abbrev pub kind_else : List ℕ → Kind
kind_else cs =
    if starts (codes "<!--") cs then Comment
    else (if starts (codes "<![CDATA[") cs then Cdata
    else (if starts (codes "<!DOCTYPE") cs then Doctype
    else (if starts (codes "<!") cs then Unknown
    else (if starts (codes "</") cs then EndTag
    else (if starts (codes "<") cs then StartTag
    else (if starts (codes "&") cs then Reference
    else Text))))))

-- what the first construct is, by its first characters, at the page's start or not
unfoldable pub kind_of : Bool → List ℕ → Kind
kind_of first cs =
    if starts (codes "<?") cs
    then (if first && starts (codes "<?xml") cs && starts_white (drop 5 cs) then Declaration else Instruction)
    else kind_else cs

-- a size, with that of a front
abbrev pub with_front : ℕ → Option ℕ → Option ℕ
with_front n size = option_map (λ k. k + n) size

-- how many bytes a construct of a kind takes, where it ends whatever follows; the `?` of `<?` may be that of its `?>`
unfoldable pub size_by : Kind → List ℕ → Option ℕ
size_by Declaration cs = with_front 1 (after (codes "?>") (drop 1 cs))
size_by Instruction cs = with_front 1 (after (codes "?>") (drop 1 cs))
size_by Comment cs = with_front 4 (after (codes "-->") (drop 4 cs))
size_by Cdata cs = with_front 9 (after (codes "]]>") (drop 9 cs))
size_by Doctype cs = with_front 9 (after_tag None (drop 9 cs))
size_by Unknown cs = with_front 2 (after (codes ">") (drop 2 cs))
size_by EndTag cs = with_front 2 (after (codes ">") (drop 2 cs))
size_by StartTag cs = with_front 1 (after_tag None (drop 1 cs))
size_by Reference cs = with_front 1 (reference_size (drop 1 cs))
size_by Text cs = with_front 1 (text_size (drop 1 cs))

-- how many bytes the first construct takes, where it ends whatever follows
abbrev pub size : Bool → List ℕ → Option ℕ
size first cs = size_by (kind_of first cs) cs

-- a text or a reference
abbrev pub is_run : List ℕ → Bool
is_run [] = false
is_run (c ∷ cs) = not (c == 60)

abbrev pub settled_or : Option ℕ → Bool → ℕ → Option ℕ
settled_or (Some k) rest n = Some k
settled_or None rest n = if rest then Some n else None

-- how many bytes the first construct takes; at the page's good end a text or a reference is whole as it stands
abbrev pub whole_size : Bool → Bool → List ℕ → Option ℕ
whole_size ended first cs = settled_or (size first cs) (ended && is_run cs) (length cs)

-- a byte of a page's text, and the offset at which it stands in the page
pub record Byte : Type 0 where
  pub value : ℕ
  pub at : ℕ

abbrev pub counted : ℕ → List ℕ → List Byte
counted at [] = []
counted at (x ∷ xs) = record { value = x; at = at } ∷ counted (at + 1) xs

-- the bytes of some characters
abbrev pub spread : List Mark → List Byte
spread [] = []
spread (m ∷ ms) = counted m.offset (encode_utf8 m.ch) ++ spread ms

abbrev pub values : List Byte → List ℕ
values us = map (λ u. u.value) us

-- where the first byte stands
abbrev pub offset_of : List Byte → ℕ
offset_of [] = 0
offset_of (u ∷ us) = u.at

abbrev pub first_offset : List Byte → Option ℕ
first_offset [] = None
first_offset (u ∷ us) = Some u.at

-- A construct: what it is, the offset where it starts, and its text. It ends where the next one starts, or else where the
-- characters end.
pub record Construct : Type 0 where
  pub kind : Kind
  pub start : ℕ
  pub text : List ℕ

-- the first k bytes as a construct: are they the page's first
abbrev pub construct : Bool → ℕ → List Byte → Construct
construct first k us = record { kind = kind_of first (values us); start = offset_of us; text = values (take k us) }

-- some bytes as whole constructs, and the bytes behind the last
pub record Cut : Type 0 where
  pub constructs : List Construct
  pub rest : List Byte

abbrev pub cut_at : Option ℕ → Bool → List Byte → (List Byte → Cut) → Cut
cut_at None first us more = record { constructs = []; rest = us }
cut_at (Some k) first us more =
    record { constructs = construct first k us ∷ (more (drop k us)).constructs; rest = (more (drop k us)).rest }

-- at most n constructs from the front of these bytes: do they end well, and are they the page's first
unfoldable pub cut_from : ℕ → Bool → Bool → List Byte → Cut
cut_from zero ended first us = record { constructs = []; rest = us }
cut_from (suc n) ended first us = cut_at (whole_size ended first (values us)) first us (cut_from n ended false)

-- the bytes of a page's characters
abbrev pub text_of : List ℕ → List Byte
text_of b = spread (chars b)

-- the whole constructs of a page from the front, and what stands behind them
abbrev pub cut : List ℕ → Cut
cut b = cut_from (length (text_of b)) (is_none (stop b)) true (text_of b)

-- the constructs of some bytes that end whatever follows, and what stands behind them
abbrev pub settled : Bool → List Byte → Cut
settled first us = cut_from (length us) false first us

-- the constructs of some bytes that no others follow: do they end well
abbrev pub finished : Bool → Bool → List Byte → Cut
finished ended first us = cut_from (length us) ended first us

abbrev pub is_first : Bool → List Construct → Bool
is_first first [] = first
is_first first (c ∷ cs) = false

-- the constructs of a cut, and then those of its rest and of what follows it
abbrev pub continued : Bool → Bool → Cut → List Byte → Cut
continued ended first c more = record {
  constructs = c.constructs ++ (finished ended (is_first first c.constructs) (c.rest ++ more)).constructs;
  rest = (finished ended (is_first first c.constructs) (c.rest ++ more)).rest;
}
