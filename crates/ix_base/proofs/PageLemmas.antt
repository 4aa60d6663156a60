-- Look-ups in pages.
use Rattle.std.proofs.Common.{◌≡◌, ℕ, zero, suc, ◌<◌, List, [], ◌∷◌, length, get_or, drop, Some, true, bytes_eq, refl, arith}
use Rattle.ix_base.specs.declared.memory.pages.MemPage.{MemPage}
use Rattle.ix_base.specs.Pages.{page_of, bytes_at}

pub bytes_at_read : (ps : List MemPage) (i : ℕ) (d : MemPage) → i < length ps → bytes_at ps i ≡ (get_or ps i d).bytes
bytes_at_read [] i d h = absurd (omega (arith, h))
bytes_at_read (p ∷ ps) zero d h = refl
bytes_at_read (p ∷ ps) (suc i) d h = bytes_at_read ps i d (omega arith)

pub page_found : (ps : List MemPage) (i : ℕ) (d : MemPage) (name : List ℕ) → i < length ps → bytes_eq (get_or ps i d).name name ≡ true
    → page_of (drop i ps) name ≡ Some (bytes_at ps i)
page_found [] i d name h e = absurd (omega (arith, h))
page_found (p ∷ ps) zero d name h e = rw e refl
page_found (p ∷ ps) (suc i) d name h e = page_found ps i d name (omega arith) e
