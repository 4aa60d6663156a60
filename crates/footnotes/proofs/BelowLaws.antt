-- Elements whose pages were tried.
use Rattle.std.proofs.Common.{◌≡◌, ◌<◌, ℕ, Bool, true, false, List, [], ◌∷◌, refl}
use Rattle.std.proofs.lemmas.Bool.{ltb-true}
use Rattle.std.proofs.lemmas.List.Elements.{All-cons, All-nil}
use Rattle.std.specs.Borrow.{Bor}
use Rattle.std.specs.List.{All, list_all}
use Rattle.std.specs.Prelude.{◌&&◌, nat_lt}
use Rattle.ix_base.specs.declared.tree.Spot.{Spot}
use Rattle.ix_base.specs.Elements.{place_of}
use Rattle.id_table.specs.Tables.{all_located}

parts : (b c : Bool) → (b && c) ≡ true → (b ≡ true) × (c ≡ true)
parts true c h = (refl, h)
parts false c h = absurd (cc)

pub all-below : (spots : List (Bor Spot)) (count : ℕ) → list_all (λ s. nat_lt (place_of s.now).page count) spots ≡ true
    → All (λ e. e.page < count) (all_located spots)
all-below [] count h = All-nil (λ e. e.page < count)
all-below (s ∷ spots) count h =
    let both = parts (nat_lt (place_of s.now).page count) (list_all (λ (s : Bor Spot). nat_lt (place_of s.now).page count) spots) h in
    All-cons (λ e. e.page < count) _ (all_located spots) (ltb-true (place_of s.now).page count both.0) (all-below spots count both.1)
