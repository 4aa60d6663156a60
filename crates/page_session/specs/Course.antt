-- What a script comes to: the first rule that it breaks, or the pages that are there where it asks.
use Rattle.std.specs.Prelude.{◌≡◌, ℕ, ◌+◌, List, [], ◌∷◌, ◌++◌, length, Option, IfSome, if◌then◌else◌}
use Rattle.ix_base.specs.declared.rule.Rule.{Rule}
use Rattle.ix_base.specs.declared.rule.Rule.TheVariants.{X2, X3, X4}
use Rattle.targets.specs.Breaches.{tags_in}
use Rattle.page_session.specs.HandedPages.{Handed, handed, names_of, put_in, drop_in, is_there, is_one_too_many}
use Rattle.page_session.specs.Limits.{may_hold}
use Rattle.page_session.specs.Sessions.{StandsFor, bytes_put, tags_put}
use Rattle.page_session.specs.declared.script.Line.{Line}
use Rattle.page_session.specs.declared.script.Line.TheVariants as line
use Rattle.page_session.specs.declared.script.ScriptLine.{ScriptLine}
use Rattle.page_session.specs.declared.session.Session.{Session}

-- the pages that are there, and how many bytes those that were put had and how many of them are `<`, replaced and dropped ones too
pub record Standing : Type 0 where
  pub pages : List Handed
  pub bytes : ℕ
  pub tags : ℕ

abbrev pub nothing_put : Standing
nothing_put = record { pages = []; bytes = 0; tags = 0 }

abbrev pub with_page : Standing → List ℕ → List ℕ → Standing
with_page s name b = record { pages = put_in (handed name b) s.pages; bytes = s.bytes + length b; tags = s.tags + tags_in b }

abbrev pub without_page : Standing → List ℕ → Standing
without_page s name = record { pages = drop_in name s.pages; bytes = s.bytes; tags = s.tags }

-- How a script goes: it breaks a rule at the line that starts here; it ends, and these pages were there at its checks and at its
-- end; or it wants the bytes of a page that aren't given.
pub data Course : Type 0 where
  breaks : (start : ℕ) → (rule : Rule) → Course
  ends : (checks : List (List Handed)) → (last : List Handed) → Course
  wants : Course

abbrev pub with_check : List Handed → Course → Course
with_check pages (breaks n rule) = breaks n rule
with_check pages (ends checks last) = ends (pages ∷ checks) last
with_check pages wants = wants

-- what one line does: it ends the course, it leads to other pages, it asks what the pages come to, or it asks so for the last time
pub data Effect : Type 0 where
  stops : Course → Effect
  leads : Standing → Effect
  asks : Effect
  closes : Effect

abbrev pub put_effect : Standing → ℕ → List ℕ → List (List ℕ) → Effect
put_effect s n name [] = stops wants
put_effect s n name (b ∷ bs) =
    if may_hold (s.bytes + length b) (s.tags + tags_in b) then leads (with_page s name b) else stops (breaks n X4)

abbrev pub effect_of : Standing → ℕ → Line → List (List ℕ) → Effect
effect_of s n (line.Put name) bs = if is_one_too_many (names_of s.pages) name then stops (breaks n X3) else put_effect s n name bs
effect_of s n (line.Drop name) bs = if is_there (names_of s.pages) name then leads (without_page s name) else stops (breaks n X2)
effect_of s n line.Check bs = asks
effect_of s n line.Extract bs = closes

-- the bytes of the pages of the put lines behind a line
abbrev pub bytes_behind : Line → List (List ℕ) → List (List ℕ)
bytes_behind (line.Put name) [] = []
bytes_behind (line.Put name) (b ∷ bs) = bs
bytes_behind (line.Drop name) bs = bs
bytes_behind line.Check bs = bs
bytes_behind line.Extract bs = bs

abbrev pub course_by : Effect → Standing → (Standing → Course) → Course
course_by (stops c) s rest = c
course_by (leads t) s rest = rest t
course_by asks s rest = with_check s.pages (rest s)
course_by closes s rest = ends [] s.pages

-- the course of these lines from here on, where the pages of the put lines, in their order, have these bytes
abbrev pub course_from : List ScriptLine → Standing → List (List ℕ) → Course
course_from [] s bs = wants
course_from (l ∷ ls) s bs = course_by (effect_of s l.start l.line bs) s (λ t. course_from ls t (bytes_behind l.line bs))

abbrev pub course : List ScriptLine → List (List ℕ) → Course
course lines bs = course_from lines nothing_put bs

-- the name of the page that a line reads
abbrev pub name_read : Standing → Line → List (List ℕ)
name_read s (line.Put name) = if is_one_too_many (names_of s.pages) name then [] else name ∷ []
name_read s (line.Drop name) = []
name_read s line.Check = []
name_read s line.Extract = []

abbrev pub names_by : Effect → Standing → (Standing → List (List ℕ)) → List (List ℕ)
names_by (stops c) s rest = []
names_by (leads t) s rest = rest t
names_by asks s rest = rest s
names_by closes s rest = []

-- the names of the pages that the course reads, in order: those of the put lines up to the first breach, the one with which too much
-- was read included
abbrev pub names_read_from : List ScriptLine → Standing → List (List ℕ) → List (List ℕ)
names_read_from [] s bs = []
names_read_from (l ∷ ls) s bs =
    name_read s l.line ++ names_by (effect_of s l.start l.line bs) s (λ t. names_read_from ls t (bytes_behind l.line bs))

abbrev pub names_read : List ScriptLine → List (List ℕ) → List (List ℕ)
names_read lines bs = names_read_from lines nothing_put bs

-- these are the bytes of the first of these names, as the source tells them, where it tells them
abbrev pub AreTold : (List ℕ → Option (List ℕ)) → List (List ℕ) → List (List ℕ) → Type 0
AreTold page names [] = Unit {0}
AreTold page [] (b ∷ bs) = ⊥
AreTold page (n ∷ ns) (b ∷ bs) = IfSome (page n) (λ t. t ≡ b) × AreTold page ns bs

-- a session stands as a script's course does: for its pages, and with its sums
pub record StandsAs (s : Session) (t : Standing) : Type 0 where
  pub stands : StandsFor s t.pages
  pub bytes : bytes_put s ≡ t.bytes
  pub tags : tags_put s ≡ t.tags
