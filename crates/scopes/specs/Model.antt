-- What is to be known of the bases of pages.
use Rattle.std.specs.Prelude.{ℕ, Bool, List}

-- the base of each page, in the order in which they were added, and whether memory was wanting
pub record Kept : Type 0 where
  pub pages : List (List ℕ)
  pub is_spent : Bool
