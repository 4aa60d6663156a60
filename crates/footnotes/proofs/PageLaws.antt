-- The pages on which the elements of a chain stand.
use Rattle.std.proofs.Common.{◌≡◌, ◌<◌, ℕ, List, [], ◌∷◌, subst, sym, Option, Some, None}
use Rattle.std.proofs.lemmas.List.Elements.{All-cons, All-head, All-nil, All-tail}
use Rattle.std.specs.Borrow.{Bor}
use Rattle.std.specs.List.{All}
use Rattle.std.specs.Option.{option_map_or}
use Rattle.std.specs.Prelude.{IfSome, map}
use Rattle.ix_base.specs.declared.tree.Spot.{Spot}
use Rattle.ix_base.specs.Elements.{place_of}
use Rattle.ix_base.specs.LocatedElements.{Located, located, offset_of}
use Rattle.id_table.specs.Tables.{all_located}
use Rattle.continuations.specs.Model.{chain_at}
use Rattle.footnotes.specs.Model.{AreOnPages}
use Rattle.footnotes.specs.ArcLinks.{chain_kept}

pub All-from_map : {X Y : Type 0} (P : Y → Type 0) (f : X → Y) (xs : List X) → All P (map f xs) → All (λ x. P (f x)) xs
All-from_map P f [] h = All-nil (λ x. P (f x))
All-from_map P f (x ∷ xs) h = All-cons (λ x. P (f x)) x xs (All-head P (f x) (map f xs) h) (All-from_map P f xs (All-tail P (f x) (map f xs) h))

all-or : (P : Located → Type 0) (o : Option (List Located)) → IfSome o (All P) → All P (option_map_or (λ l. l) o [])
all-or P None h = All-nil P
all-or P (Some l) h = h

-- the elements of a chain that is kept are on pages that have bases
pub on_pages : (chains : List ((ℕ × ℕ) × List Located)) (pages : ℕ) (e : Located) (spots : List (Bor Spot)) → AreOnPages chains pages
    → all_located spots ≡ chain_kept chains e → All (λ s. (place_of s.now).page < pages) spots
on_pages chains pages e spots h is =
    All-from_map (λ x. x.page < pages) (λ (s : Bor Spot). located s.now) spots
    (subst (All (λ x. x.page < pages)) (sym is) (all-or (λ x. x.page < pages) (chain_at chains e.page (offset_of e)) (h e.page (offset_of e))))
