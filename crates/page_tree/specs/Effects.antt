-- What becomes of a construct and of what was built before it.
use Rattle.std.specs.Prelude.{◌≡◌, ℕ, Option, Some, None, Result, Ok, Err}
use Rattle.ix_base.specs.declared.rule.Rule.{Rule}
use Rattle.page_tree.specs.Break.{broken_by}
use Rattle.page_tree.specs.Buildings.{state_of, IsOnPage}
use Rattle.page_tree.specs.Machine.{State, outline_of, moved}
use Rattle.page_constructs.specs.Tokens.{Token}
use Rattle.page_tree.specs.declared.refusal.Refusal.{Refusal}
use Rattle.page_tree.specs.declared.refusal.Refusal.TheVariants.{Breaks, NoMemory}
use Rattle.page_tree.specs.declared.setting.Setting.{Setting}
use Rattle.page_tree.specs.declared.tree.Building.{Building}

-- the refusal tells the lowest rule that is broken; want of memory tells nothing
abbrev pub Refuses : Option Rule → Refusal → Type 0
Refuses broken (Breaks rule) = broken ≡ Some rule
Refuses broken NoMemory = Unit {0}

-- the answer tells the lowest rule that is broken, or that none is
abbrev pub Judges : {A : Type 0} → Option Rule → Result A Refusal → Type 0
Judges broken (Ok x) = broken ≡ None
Judges broken (Err refusal) = Refuses broken refusal

-- What is built stands for this state, and where all of it carried this page number before, all of it does.
pub record Becomes (page : ℕ) (old new : Building) (s : State) : Type 0 where
  pub state : state_of new ≡ s
  pub on_page : IsOnPage page old → IsOnPage page new

-- the answer to what breaks this rule, or else leads to this state: what is refused changes nothing
abbrev pub Meets : ℕ → Building → Building → Option Rule → State → Result Unit Refusal → Type 0
Meets page old new broken s (Ok x) = (broken ≡ None) × Becomes page old new s
Meets page old new broken s (Err (Breaks rule)) = (broken ≡ Some rule) × Becomes page old new (state_of old)
Meets page old new broken s (Err NoMemory) = Unit {0}

-- a construct is taken in, unless it breaks a rule
abbrev pub Takes : Setting → Building → Building → Token → Result Unit Refusal → Type 0
Takes setting old new token answer =
    Meets setting.page old new (broken_by setting.depth (outline_of (state_of old)) token) (moved (state_of old) token) answer
