-- What is to be known of a page's first bytes so that its reading can go on without them.
use Rattle.std.specs.Prelude.{◌≡◌, ℕ, ◌+◌, ◌-◌, ◌==◌, Bool, false, List, [], ◌∷◌, ◌++◌, length, Option, Some, None, Result, Ok, Err}
use Rattle.page_text.specs.declared.Mark.{Mark}
use Rattle.page_text.specs.declared.TextFault.{TextFault}
use Rattle.page_text.specs.Characters.{Scan, scan, unified}

-- how many bytes there were, those at the end that begin a character and don't end it, whether the last character is
-- a carriage return, and what the reading ended with
pub record Reading : Type 0 where
  pub pushed : ℕ
  pub part : List ℕ
  pub after_cr : Bool
  pub fault : Option TextFault

-- whether the last of these characters is a carriage return
unfoldable pub ends_in_cr : Bool → List Mark → Bool
ends_in_cr after_cr [] = after_cr
ends_in_cr after_cr (m ∷ ms) = ends_in_cr (m.ch == 0xD) ms

abbrev pub begin : Reading
begin = record { pushed = 0; part = []; after_cr = false; fault = None }

abbrev pub reading_of : ℕ → Scan → Reading
reading_of size s = record { pushed = size; part = s.part; after_cr = ends_in_cr false s.marks; fault = s.stop }

-- the reading that was given these bytes, and no others
abbrev pub Stands : Reading → List ℕ → Type 0
Stands r b = r ≡ reading_of (length b) (scan false 0 b)

-- the bytes of a piece, behind those that wait for it
abbrev pub seen : Reading → List ℕ → Scan
seen r piece = scan false (r.pushed - length r.part) (r.part ++ piece)

abbrev pub after_on : Option TextFault → Reading → ℕ → Scan → Reading
after_on (Some f) r size s = record { pushed = r.pushed + size; part = r.part; after_cr = r.after_cr; fault = Some f }
after_on None r size s = record { pushed = r.pushed + size; part = s.part; after_cr = ends_in_cr r.after_cr s.marks; fault = s.stop }

-- the reading behind a piece: what ended stays so
unfoldable pub after : Reading → List ℕ → Reading
after r piece = after_on r.fault r (length piece) (seen r piece)

abbrev pub due_on : Option TextFault → List Mark → List Mark
due_on (Some f) ms = []
due_on None ms = ms

-- the characters that a piece makes certain
unfoldable pub due : Reading → List ℕ → List Mark
due r piece = due_on r.fault (unified r.after_cr (seen r piece).marks)

-- the answer of a call that knows of this fault
abbrev pub answer : Option TextFault → Result Unit TextFault
answer None = Ok tt
answer (Some f) = Err f
