-- What a read of a page does to the file of the page.
use Rattle.std.specs.Prelude.{◌≡◌, ℕ, List, take, Option, Result, IfOk, OnErr, IfSome}
use Rattle.std.specs.Io.KnownBytes.{Consumes, IsAtEnd, Keeps}

-- The bytes given are the next ones of the file, none at its end alone; a read that failed has lost none of them.
pub record ReadsFile {F E : Type 0} (remaining : F → Option (List ℕ)) (old new : Option F)
    (buf : List ℕ) (result : Result ℕ E) : Type 0 where
  pub given : IfOk result (λ n. IfSome old (λ f. IfSome new (λ g. Consumes (remaining f) (remaining g) (take n buf))))
  pub end : IfOk result (λ n. n ≡ 0 → IfSome new (λ g. IsAtEnd (remaining g)))
  pub lost : OnErr result (IfSome old (λ f. IfSome new (λ g. Keeps (remaining f) (remaining g))))
