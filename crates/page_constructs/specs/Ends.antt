-- How constructs begin and end: what a page's constructs keep, whether they are of their form or not.
use Rattle.std.specs.Prelude.{◌≡◌, ◌⊎◌, List, [], ℕ, ◌+◌, ◌<◌, length, codes}
use Rattle.page_constructs.specs.Forms.{between}
use Rattle.page_constructs.specs.declared.kind.Kind.{Kind}
use Rattle.page_constructs.specs.declared.kind.Kind.TheVariants.{Declaration, Instruction, Comment, Cdata, Doctype, Unknown, EndTag, StartTag, Reference, Text}

-- the texts with which a construct of a kind begins and ends
abbrev pub HasEnds : Kind → List ℕ → Type 0
HasEnds Declaration text = (inner : List ℕ) × (text ≡ between (codes "<?xml") inner (codes "?>"))
HasEnds Instruction text = ((inner : List ℕ) × (text ≡ between (codes "<?") inner (codes "?>"))) ⊎ (text ≡ codes "<?>")
HasEnds Comment text = (inner : List ℕ) × (text ≡ between (codes "<!--") inner (codes "-->"))
HasEnds Cdata text = (inner : List ℕ) × (text ≡ between (codes "<![CDATA[") inner (codes "]]>"))
HasEnds Doctype text = (inner : List ℕ) × (text ≡ between (codes "<!DOCTYPE") inner (codes ">"))
HasEnds Unknown text = Unit {0}
HasEnds EndTag text = (inner : List ℕ) × (text ≡ between (codes "</") inner (codes ">"))
HasEnds StartTag text = (inner : List ℕ) × (text ≡ between (codes "<") inner (codes ">"))
HasEnds Reference text = Unit {0}
HasEnds Text text = Unit {0}

-- a front and a back stand around something, or are longer than the text
abbrev pub IsAround : List ℕ → List ℕ → List ℕ → Type 0
IsAround front back text = ((inner : List ℕ) × (text ≡ between front inner back)) ⊎ (length text < length front + length back)

-- what stands in front of what a construct says, and behind it
abbrev pub front_around : Kind → List ℕ
front_around Declaration = codes "<?xml"
front_around Instruction = codes "<?"
front_around Comment = codes "<!--"
front_around Cdata = codes "<![CDATA["
front_around Doctype = codes "<!DOCTYPE"
front_around Unknown = []
front_around EndTag = codes "</"
front_around StartTag = codes "<"
front_around Reference = []
front_around Text = []

abbrev pub back_around : Kind → List ℕ
back_around Declaration = codes "?>"
back_around Instruction = codes "?>"
back_around Comment = codes "-->"
back_around Cdata = codes "]]>"
back_around Doctype = codes ">"
back_around Unknown = []
back_around EndTag = codes ">"
back_around StartTag = codes ">"
back_around Reference = []
back_around Text = []
