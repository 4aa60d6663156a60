-- The bytes of the pages of a command, where the source tells them.
use Rattle.std.specs.Prelude.{◌≡◌, ℕ, List, [], ◌∷◌, Option, Some, IfSome}
use Rattle.sample_page.specs.Sample.{sample_bytes}
use Rattle.page_session.specs.Sources.{told}
use Rattle.command_words.specs.declared.command.Command.{Command}
use Rattle.command_words.specs.declared.command.Command.TheVariants.{Extract, Check, Sample, Plain, Trace, Session}

-- the bytes of the pages that a command names, where the source tells them all; those of a sample are made
abbrev pub bytes_told : (List ℕ → Option (List ℕ)) → Command → Option (List (List ℕ))
bytes_told page (Extract base dir pages) = told page pages
bytes_told page (Check base pages) = told page pages
bytes_told page (Sample number) = Some (sample_bytes number)
bytes_told page (Plain name) = told page (name ∷ [])
bytes_told page (Trace base pages) = told page pages
bytes_told page (Session base dir script) = told page (script ∷ [])

-- a fact of the command and of the bytes of its pages, where the words give one and the source tells them all
abbrev pub IfTold : Option Command → (List ℕ → Option (List ℕ)) → (Command → List (List ℕ) → Type 0) → Type 0
IfTold command page fact = IfSome command (λ c. IfSome (bytes_told page c) (fact c))

-- a fact of some bytes, which are these, where there are any
abbrev pub AreSome : Option (List (List ℕ)) → (List (List ℕ) → Type 0) → Type 0
AreSome all fact = (bs : List (List ℕ)) × IfSome all (λ told. told ≡ bs) × fact bs

-- A fact of the command and of the bytes of its pages, where the words give one. The source may not tell these bytes; where it
-- tells them all, they are those that it tells.
abbrev pub OfBytes : Option Command → (List ℕ → Option (List ℕ)) → (Command → List (List ℕ) → Type 0) → Type 0
OfBytes command page fact = IfSome command (λ c. AreSome (bytes_told page c) (fact c))
