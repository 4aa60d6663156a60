-- What a tree builder stands for, between the pieces of its page.
use Rattle.std.specs.Prelude.{◌≡◌, ℕ, Bool, true, false, List, length, string_bytes, Option, Some, None, Result, Ok, Err}
use Rattle.std.specs.Borrow.{Bor}
use Rattle.ix_base.specs.declared.tree.Element.{Element}
use Rattle.page_text.specs.Characters.{begun}
use Rattle.page_text.specs.Model.{Stands}
use Rattle.page_tree.specs.MachineSteps.{Leads, Breaks}
use Rattle.page_tree.specs.Break.{Fault, fault}
use Rattle.page_tree.specs.Buildings.{state_of, IsOnPage}
use Rattle.page_constructs.specs.Constructs.{Byte, spread, whole_size}
use Rattle.page_tree.specs.Machine.{begin}
use Rattle.page_tree.specs.PendingText.{Waits, fault_at}
use Rattle.page_tree.specs.declared.builder.TreeBuilder.{TreeBuilder}
use Rattle.page_tree.specs.declared.builder.PageFault.{PageFault}
use Rattle.page_tree.specs.declared.builder.PageFault.TheVariants as page
use Rattle.page_tree.specs.declared.pending.Pending.{Pending}
use Rattle.page_tree.specs.declared.setting.Setting.{Setting}
use Rattle.page_tree.specs.declared.settle.Break.{Break}
use Rattle.page_tree.specs.declared.tree.Building.{Building}

-- the limit of depth
abbrev pub limit : TreeBuilder → ℕ
limit t = t.setting.depth

-- the page number of its elements
abbrev pub page_number : TreeBuilder → ℕ
page_number t = t.setting.page

-- how many bytes it was given
abbrev pub fed_bytes : TreeBuilder → ℕ
fed_bytes t = t.fed

-- want of memory was answered
abbrev pub is_spent : TreeBuilder → Bool
is_spent t = t.is_spent

-- some bytes wait, to which these lead behind what is built
pub record LeadsTo (setting : Setting) (built : Building) (p : Pending) (us : List Byte) : Type 0 where
  pub left : List Byte
  pub waits : Waits p left
  pub leads : Leads false setting.depth begin true us (state_of built) p.is_first left

-- The characters that these bytes make certain lead to what is built and to what waits, or they have the break that was
-- found.
pub record HasLedTo (setting : Setting) (built : Building) (p : Pending) (broken : Option Break) (b : List ℕ) : Type 0 where
  pub leads : broken ≡ None → LeadsTo setting built p (spread (begun b))
  pub breaks : (f : Break) → broken ≡ Some f → Breaks false setting.depth begin true (spread (begun b)) (fault_at f)
  pub on_page : IsOnPage setting.page built

abbrev pub HasLed : TreeBuilder → List ℕ → Type 0
HasLed t b = HasLedTo t.setting t.building t.pending t.broken b

-- and the bytes are those that were read
pub record HasRead (t : TreeBuilder) (b : List ℕ) : Type 0 where
  pub reads : t.broken ≡ None → Stands t.feed b
  pub led : HasLed t b

-- besides, no construct of what waits ends whatever follows
pub record HasBuilt (t : TreeBuilder) (b : List ℕ) : Type 0 where
  pub read : HasRead t b
  pub waits : t.broken ≡ None → whole_size false t.pending.is_first (string_bytes t.pending.text) ≡ None

-- the setting, the count of bytes and whether memory was wanting are the same
pub record IsSameBut (old new : TreeBuilder) : Type 0 where
  pub setting : new.setting ≡ old.setting
  pub fed : new.fed ≡ old.fed
  pub spent : new.is_spent ≡ old.is_spent

-- it was given these bytes, and no others
pub record StandsFor (t : TreeBuilder) (b : List ℕ) : Type 0 where
  pub counted : t.fed ≡ length b
  pub built : HasBuilt t b

-- the break that the end of a page tells
abbrev pub verdict_of : Result (Bor Element) PageFault → Option Fault
verdict_of (Ok e) = None
verdict_of (Err (page.Broken offset rule)) = Some (fault offset rule)
verdict_of (Err page.NoMemory) = None
