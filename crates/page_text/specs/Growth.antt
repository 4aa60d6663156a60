-- What a list of marks gains.
use Rattle.std.specs.Prelude.{◌≡◌, List, ◌++◌}
use Rattle.page_text.specs.declared.Mark.{Mark}

-- the list gains exactly what the one text of a page has beyond the other
pub record Gains (old new : List Mark) (fewer more : List Mark) : Type 0 where
  pub gained : List Mark
  pub beyond : more ≡ fewer ++ gained
  pub added : new ≡ old ++ gained

-- the list gains the front of that, or all of it
pub record GainsFront (old new : List Mark) (fewer more : List Mark) : Type 0 where
  pub gained : List Mark
  pub left : List Mark
  pub beyond : more ≡ fewer ++ gained ++ left
  pub added : new ≡ old ++ gained
