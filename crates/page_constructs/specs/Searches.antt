-- How far the end of a construct was looked for, so that the search goes on from there when more bytes come.
use Rattle.std.specs.Prelude.{◌≡◌, ◌≢◌, ℕ, ◌+◌, Bool, List, ◌++◌, drop, Option, Some, None, option_map, codes}
use Rattle.page_constructs.specs.Constructs.{after, after_tag, text_size, reference_size, kind_of, size_by}
use Rattle.page_constructs.specs.declared.kind.Kind.{Kind}
use Rattle.page_constructs.specs.declared.kind.Kind.TheVariants.{Declaration, Instruction, Comment, Cdata, Doctype, Unknown, EndTag, StartTag, Reference, Text}
use Rattle.page_constructs.specs.declared.size.Sought.{Sought}
use Rattle.page_constructs.specs.declared.size.End.{End}
use Rattle.page_constructs.specs.declared.size.End.TheVariants.{At, Beyond}

-- with how many bytes a construct of a kind begins, in which its end isn't looked for
abbrev pub skipped : Kind → ℕ
skipped Declaration = 1
skipped Instruction = 1
skipped Comment = 4
skipped Cdata = 9
skipped Doctype = 9
skipped Unknown = 2
skipped EndTag = 2
skipped StartTag = 1
skipped Reference = 1
skipped Text = 1

-- how many bytes end with what ends a construct of a kind, inside an open quote where there is one
abbrev pub seek : Kind → Option ℕ → List ℕ → Option ℕ
seek Declaration quote cs = after (codes "?>") cs
seek Instruction quote cs = after (codes "?>") cs
seek Comment quote cs = after (codes "-->") cs
seek Cdata quote cs = after (codes "]]>") cs
seek Doctype quote cs = after_tag quote cs
seek Unknown quote cs = after (codes ">") cs
seek EndTag quote cs = after (codes ">") cs
seek StartTag quote cs = after_tag quote cs
seek Reference quote cs = reference_size cs
seek Text quote cs = text_size cs

-- so many bytes, and what was found behind them
abbrev pub further : ℕ → Option ℕ → Option ℕ
further n size = option_map (λ k. n + k) size

abbrev pub found : End → Option ℕ
found (At k) = Some k
found (Beyond s) = None

-- whatever follows the text, the one search from the one place on finds what the other does from the other
abbrev pub GoesOn : (List ℕ → Option ℕ) → ℕ → (List ℕ → Option ℕ) → ℕ → List ℕ → Type 0
GoesOn f from g to text = (more : List ℕ) → further from (f (drop from (text ++ more))) ≡ further to (g (drop to (text ++ more)))

-- Whatever follows, the first construct stays what it is, and its end is the one that is found from there on.
pub record Seeks (first : Bool) (cs : List ℕ) (s : Sought) : Type 0 where
  pub stays : (more : List ℕ) → kind_of first (cs ++ more) ≡ kind_of first cs
  pub goes : (more : List ℕ) → size_by (kind_of first cs) (cs ++ more) ≡ further s.at (seek (kind_of first cs) s.quote (drop s.at (cs ++ more)))

-- the same where an end was looked for at all
abbrev pub IsSought : Bool → List ℕ → Sought → Type 0
IsSought first cs s = s.at ≢ 0 → Seeks first cs s
