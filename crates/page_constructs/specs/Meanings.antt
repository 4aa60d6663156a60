-- What a construct means, found from its front; none where it isn't of its form.
use Rattle.std.specs.Prelude.{ℕ, zero, suc, ◌+◌, ◌-◌, ◌==◌, nat_lt, Bool, true, false, ◌&&◌, ◌||◌, not, List, [], ◌∷◌, ◌++◌, map, length, take, drop, Option, Some, None, if◌then◌else◌, bytes_eq, codes}
use Rattle.std.specs.List.{list_all}
use Rattle.std.specs.Char.{to_ascii_lowercase}
use Rattle.ix_base.specs.NcName.{is_white, is_ncname}
use Rattle.ix_base.specs.Scope.{is_qname}
use Rattle.page_constructs.specs.Constructs.{starts, Construct}
use Rattle.page_constructs.specs.Forms.{has, holds, is_quote, has_bracket}
use Rattle.page_constructs.specs.Tokens.{Attribute, Tag, Token, start, empty, close, words, refer, section, declaration, doctype, silent}
use Rattle.page_constructs.specs.Values.{value_of, referred_by}
use Rattle.page_constructs.specs.declared.kind.Kind.{Kind}
use Rattle.page_constructs.specs.declared.kind.Kind.TheVariants.{Declaration, Instruction, Comment, Cdata, Doctype, Unknown, EndTag, StartTag, Reference, Text}

infixl 10 ◌>>=◌
abbrev pub ◌>>=◌ : {A B : Type 0} → Option A → (A → Option B) → Option B
None >>= f = None
(Some x) >>= f = f x

abbrev pub given : Bool → Option (Unit {0})
given true = Some tt
given false = None

-- what stands before the first byte that passes a test, and what stands from it on
abbrev pub before : (ℕ → Bool) → List ℕ → List ℕ
before stops [] = []
before stops (c ∷ cs) = if stops c then [] else c ∷ before stops cs

abbrev pub from : (ℕ → Bool) → List ℕ → List ℕ
from stops [] = []
from stops (c ∷ cs) = if stops c then c ∷ cs else from stops cs

abbrev pub is_dark : ℕ → Bool
is_dark c = not (is_white c)

abbrev pub behind_white : List ℕ → List ℕ
behind_white text = from is_dark text

abbrev pub is_white_text : List ℕ → Bool
is_white_text text = list_all is_white text

-- what stands behind this text at the front
abbrev pub behind_front : List ℕ → List ℕ → Option (List ℕ)
behind_front front text = if starts front text then Some (drop (length front) text) else None

-- a value in the quotes that stand at the front, as it is written, and what is behind it
abbrev pub quoted : List ℕ → Option (List ℕ × List ℕ)
quoted [] = None
quoted (q ∷ text) =
    if is_quote q && has q text then Some (before (λ c. c == q) text, drop 1 (from (λ c. c == q) text)) else None

-- the same behind `=`, with white space allowed around that
abbrev pub equalled : List ℕ → Option (List ℕ × List ℕ)
equalled text = do
  value ← behind_front (codes "=") (behind_white text)
  quoted (behind_white value)

-- what ends the name of an attribute, and what ends that of a tag
abbrev pub ends_name : ℕ → Bool
ends_name c = is_white c || c == 61

abbrev pub ends_tag_name : ℕ → Bool
ends_tag_name c = is_white c || c == 47

-- an attribute at the front, and what is behind it
abbrev pub attribute_at : List ℕ → Option (Attribute × List ℕ)
attribute_at text = do
  named ← given (is_qname (before ends_name text))
  value ← equalled (from ends_name text)
  closed ← given (not (has 60 value.0))
  Some (record { name = before ends_name text; value = value_of value.0 }, value.1)

abbrev pub slash : List ℕ
slash = 47 ∷ []

-- attributes, each behind white space, and whether a `/` ends them: the number is above that of the bytes
unfoldable pub attributes_in : ℕ → List ℕ → Option (List Attribute × Bool)
attributes_in zero text = None
attributes_in (suc n) text =
    if is_white_text text then Some ([], false)
    else (if bytes_eq (behind_white text) slash then Some ([], true)
    else (do
      apart ← given (nat_lt (length (behind_white text)) (length text))
      first ← attribute_at (behind_white text)
      more ← attributes_in n first.1
      Some (first.0 ∷ more.0, more.1)))

abbrev pub tag : Bool → Tag → Token
tag true t = empty t
tag false t = start t

-- what stands in a tag
abbrev pub start_tag : ℕ → List ℕ → Option Token
start_tag at inner = do
  named ← given (is_qname (before ends_tag_name inner))
  attrs ← attributes_in (length inner + 1) (from ends_tag_name inner)
  Some (tag attrs.1 (record { offset = at; name = before ends_tag_name inner; attrs = attrs.0 }))

-- what stands between a front and a back of these lengths
abbrev pub inside : ℕ → ℕ → List ℕ → List ℕ
inside front back text = take (length text - front - back) (drop front text)

abbrev pub end_tag : List ℕ → Option Token
end_tag inner = do
  named ← given (is_qname (before is_white inner))
  rest ← given (is_white_text (from is_white inner))
  Some (close (before is_white inner))

-- a part of a declaration at the front, and what is behind it
abbrev pub part_at : List ℕ → List ℕ → Option (List ℕ × List ℕ)
part_at name text = do
  apart ← given (nat_lt (length (behind_white text)) (length text))
  rest ← behind_front name (behind_white text)
  equalled rest

abbrev pub is_answer : List ℕ → Bool
is_answer raw = bytes_eq raw (codes "yes") || bytes_eq raw (codes "no")

abbrev pub ends_standalone : Option (List ℕ × List ℕ) → Bool
ends_standalone None = false
ends_standalone (Some value) = is_answer value.0 && is_white_text value.1

abbrev pub ends_declaration : List ℕ → Bool
ends_declaration text = is_white_text text || ends_standalone (part_at (codes "standalone") text)

abbrev pub declared_behind : List ℕ → List ℕ → Option (List ℕ × List ℕ) → Option Token
declared_behind version rest (Some encoding) = if ends_declaration encoding.1 then Some (declaration version (Some encoding.0)) else None
declared_behind version rest None = if ends_declaration rest then Some (declaration version None) else None

abbrev pub declared : List ℕ → Option Token
declared inner = do
  version ← part_at (codes "version") inner
  declared_behind version.0 version.1 (part_at (codes "encoding") version.1)

abbrev pub instructed : List ℕ → Option Token
instructed inner =
    if is_ncname (before is_white inner) && not (bytes_eq (map to_ascii_lowercase (before is_white inner)) (codes "xml")) then Some silent
    else None

abbrev pub commented : List ℕ → Option Token
commented inner = if holds (codes "--") (inner ++ codes "-") then None else Some silent

abbrev pub doctyped : List ℕ → Option Token
doctyped [] = None
doctyped (c ∷ inner) = if is_white c then Some (doctype (has_bracket None inner)) else None

unfoldable pub meant_by : Kind → ℕ → List ℕ → Option Token
meant_by Declaration at text = declared (inside 5 2 text)
meant_by Instruction at text = instructed (inside 2 2 text)
meant_by Comment at text = commented (inside 4 3 text)
meant_by Cdata at text = Some (section (inside 9 3 text))
meant_by Doctype at text = doctyped (inside 9 1 text)
meant_by Unknown at text = None
meant_by EndTag at text = end_tag (inside 2 1 text)
meant_by StartTag at text = start_tag at (inside 1 1 text)
meant_by Reference at text = Some (refer (referred_by text))
meant_by Text at text = if holds (codes "]]>") text then None else Some (words text)

abbrev pub meant : Construct → Option Token
meant c = meant_by c.kind c.start c.text
