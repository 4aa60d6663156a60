-- The pages that are there after steps, and sessions that went through them.
use Rattle.std.specs.Prelude.{ℕ, List, [], ◌∷◌, fold}
use Rattle.page_session.specs.HandedPages.{Handed, handed, put_in, drop_in}
use Rattle.page_session.specs.Sessions.{HasDropped, HasPut, IsSame}
use Rattle.page_session.specs.declared.session.Session.{Session}

-- a page of this name and these bytes is put, or the page of this name is dropped
pub data Step : Type 0 where
  puts : (name bytes : List ℕ) → Step
  drops : (name : List ℕ) → Step

-- the pages that are there after a step
abbrev pub stepped : List Handed → Step → List Handed
stepped pages (puts name bytes) = put_in (handed name bytes) pages
stepped pages (drops name) = drop_in name pages

-- the pages that are there after these steps
abbrev pub after : List Step → List Handed
after steps = fold stepped [] steps

-- a session did a step
abbrev pub Does : Step → Session → Session → Type 0
Does (puts name bytes) old new = HasPut (handed name bytes) old new
Does (drops name) old new = HasDropped name old new

-- A session went through these steps, in order. Before each it may have refused pages.
abbrev pub Goes : Session → List Step → Session → Type 0
Goes old [] new = IsSame old new
Goes old (s ∷ ss) new = (here : Session) × (next : Session) × IsSame old here × Does s here next × Goes next ss new
