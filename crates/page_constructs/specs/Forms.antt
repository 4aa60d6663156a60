-- The forms of constructs (XML 1.0 productions 15 to 24, 28 and 40 to 44; Namespaces in XML 1.0 productions 7 to 15), and
-- what a construct of its form means.
use Rattle.std.specs.Prelude.{◌≡◌, ◌≢◌, ◌⊎◌, ℕ, ◌==◌, Bool, true, false, ◌||◌, List, [], ◌∷◌, ◌++◌, map, Option, Some, None, if◌then◌else◌, bytes_eq, codes}
use Rattle.std.specs.List.{list_all, list_any}
use Rattle.std.specs.Char.{to_ascii_lowercase}
use Rattle.ix_base.specs.NcName.{is_white, is_ncname}
use Rattle.ix_base.specs.Scope.{is_qname}
use Rattle.page_constructs.specs.Constructs.{starts, Construct}
use Rattle.page_constructs.specs.Tokens.{Attribute, Tag, Token, start, empty, close, words, refer, section, declaration, doctype, silent}
use Rattle.page_constructs.specs.Values.{value_of, referred_by}
use Rattle.page_constructs.specs.declared.kind.Kind.{Kind}
use Rattle.page_constructs.specs.declared.kind.Kind.TheVariants.{Declaration, Instruction, Comment, Cdata, Doctype, EndTag, StartTag, Reference, Text}

abbrev pub AreWhite : List ℕ → Type 0
AreWhite text = list_all is_white text ≡ true

abbrev pub has : ℕ → List ℕ → Bool
has c text = list_any (λ x. x == c) text

-- the text stands somewhere in the other
abbrev pub holds : List ℕ → List ℕ → Bool
holds part [] = false
holds part (c ∷ cs) = starts part (c ∷ cs) || holds part cs

abbrev pub is_quote : ℕ → Bool
is_quote c = c == 34 || c == 39

-- `=`, with white space allowed around it, and a value in quotes, before what follows
pub record IsEqual (raw : List ℕ) (more : List ℕ) (text : List ℕ) : Type 0 where
  pub front : List ℕ
  pub back : List ℕ
  pub quote : ℕ
  pub splits : text ≡ front ++ 61 ∷ (back ++ quote ∷ (raw ++ quote ∷ more))
  pub front_white : AreWhite front
  pub back_white : AreWhite back
  pub quotes : is_quote quote ≡ true
  pub unquoted : has quote raw ≡ false

-- white space, a qualified name, `=`, a quoted value without `<`, and then the rest
pub record IsAttribute (a : Attribute) (Rest : List ℕ → Type 0) (text : List ℕ) : Type 0 where
  pub white : List ℕ
  pub behind : List ℕ
  pub raw : List ℕ
  pub more : List ℕ
  pub splits : text ≡ white ++ (a.name ++ behind)
  pub apart : white ≢ []
  pub are_white : AreWhite white
  pub name : is_qname a.name ≡ true
  pub equal : IsEqual raw more behind
  pub closed : has 60 raw ≡ false
  pub value : a.value ≡ value_of raw
  pub rest : Rest more

-- attributes, and optional white space
abbrev pub AreAttributes : List Attribute → List ℕ → Type 0
AreAttributes [] text = AreWhite text
AreAttributes (a ∷ more) text = IsAttribute a (AreAttributes more) text

-- what a tag holds: a qualified name and attributes
pub record IsInTag (t : Tag) (text : List ℕ) : Type 0 where
  pub rest : List ℕ
  pub splits : text ≡ t.name ++ rest
  pub name : is_qname t.name ≡ true
  pub attributes : AreAttributes t.attrs rest

-- a name of a declaration's part, its `=` and its quoted value, each behind white space
pub record IsPart (name : List ℕ) (raw : List ℕ) (more : List ℕ) (text : List ℕ) : Type 0 where
  pub white : List ℕ
  pub behind : List ℕ
  pub splits : text ≡ white ++ (name ++ behind)
  pub apart : white ≢ []
  pub are_white : AreWhite white
  pub equal : IsEqual raw more behind

-- optionally `standalone`, and optional white space
abbrev pub IsStandalone : List ℕ → Type 0
IsStandalone text = AreWhite text
    ⊎ ((raw more : List ℕ) × IsPart (codes "standalone") raw more text × ((bytes_eq raw (codes "yes") || bytes_eq raw (codes "no")) ≡ true) × AreWhite more)

-- what a declaration holds behind `<?xml`: a version, optionally an encoding, optionally `standalone`
abbrev pub IsDeclared : List ℕ → Option (List ℕ) → List ℕ → Type 0
IsDeclared version None text = (more : List ℕ) × IsPart (codes "version") version more text × IsStandalone more
IsDeclared version (Some encoding) text =
    (more rest : List ℕ) × IsPart (codes "version") version more text × IsPart (codes "encoding") encoding rest more × IsStandalone rest

-- what an instruction holds: a name that isn't xml in any case, and nothing or white space behind it
pub record IsInstruction (text : List ℕ) : Type 0 where
  pub target : List ℕ
  pub rest : List ℕ
  pub splits : text ≡ target ++ rest
  pub name : is_ncname target ≡ true
  pub plain : bytes_eq (map to_ascii_lowercase target) (codes "xml") ≡ false
  pub apart : (rest ≡ []) ⊎ ((c : ℕ) × (more : List ℕ) × (rest ≡ c ∷ more) × (is_white c ≡ true))

-- a `[` outside quotes, inside an open quote where there is one
abbrev pub has_bracket : Option ℕ → List ℕ → Bool
has_bracket quote [] = false
has_bracket (Some q) (c ∷ cs) = if c == q then has_bracket None cs else has_bracket (Some q) cs
has_bracket None (c ∷ cs) = c == 91 || (if is_quote c then has_bracket (Some c) cs else has_bracket None cs)

-- the texts that stand around what a construct holds
abbrev pub between : List ℕ → List ℕ → List ℕ → List ℕ
between front inner back = front ++ (inner ++ back)

-- the construct is of its form, and means this
abbrev pub HasForm : Kind → ℕ → List ℕ → Token → Type 0
HasForm Declaration at text (declaration version encoding) =
    (inner : List ℕ) × (text ≡ between (codes "<?xml") inner (codes "?>")) × IsDeclared version encoding inner
HasForm Instruction at text silent = (inner : List ℕ) × (text ≡ between (codes "<?") inner (codes "?>")) × IsInstruction inner
HasForm Comment at text silent =
    (inner : List ℕ) × (text ≡ between (codes "<!--") inner (codes "-->")) × (holds (codes "--") (inner ++ codes "-") ≡ false)
HasForm Cdata at text (section inner) = text ≡ between (codes "<![CDATA[") inner (codes "]]>")
HasForm Doctype at text (doctype has_subset) =
    (c : ℕ) × (inner : List ℕ) × (text ≡ between (codes "<!DOCTYPE") (c ∷ inner) (codes ">")) × (is_white c ≡ true)
    × (has_subset ≡ has_bracket None inner)
HasForm EndTag at text (close name) =
    (white : List ℕ) × (text ≡ between (codes "</") (name ++ white) (codes ">")) × (is_qname name ≡ true) × AreWhite white
HasForm StartTag at text (start tag) =
    (inner : List ℕ) × (text ≡ between (codes "<") inner (codes ">")) × IsInTag tag inner × (tag.offset ≡ at)
HasForm StartTag at text (empty tag) =
    (inner : List ℕ) × (text ≡ between (codes "<") inner (codes "/>")) × IsInTag tag inner × (tag.offset ≡ at)
HasForm Reference at text (refer char) = char ≡ referred_by text
HasForm Text at text (words w) = (w ≡ text) × (holds (codes "]]>") text ≡ false)
HasForm kind at text token = ⊥

abbrev pub Means : Construct → Token → Type 0
Means c token = HasForm c.kind c.start c.text token
