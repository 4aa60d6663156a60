-- The namespaces that are declared at a level and above it.
use Rattle.std.proofs.Common.{◌≡◌, ◌∙◌, ◌++◌, ap, arith, map, refl, subst, sym, List, Option, None, Some}
use Rattle.std.proofs.lemmas.List.{get_or-map, length-map}
use Rattle.std.proofs.lemmas.List.Elements.{Contains-append_left, Contains-append_right}
use Rattle.std.specs.Borrow.{Bor}
use Rattle.std.specs.List.{Contains}
use Rattle.ix_base.specs.declared.tree.Binding.{Binding}
use Rattle.ix_base.specs.declared.tree.Level.{Level, out-Level}
use Rattle.ix_base.specs.declared.tree.Level.TheFolds.{fold_out-Level}
use Rattle.ix_base.specs.Spaces.{Space, space_bound, spaces_above, spaces_at}

-- one level at a time
pub spaces-is : (l : Level) → spaces_at l ≡ map space_bound (out-Level l).own.list.now ++ spaces_above (out-Level l).above
spaces-is l = by_above (out-Level l).above refl where
  by_above : (o : Option (Bor Level)) → (out-Level l).above ≡ o → spaces_at l ≡ map space_bound (out-Level l).own.list.now ++ spaces_above (out-Level l).above
  by_above None e = rw (fold_out-Level, e) refl
  by_above (Some p) e = rw (fold_out-Level, e) refl

pub contains-map : {X Y : Type 0} (f : X → Y) (xs : List X) (x : X) → Contains xs x → Contains (map f xs) (f x)
contains-map f xs x h = let lt = h.1 in let long = length-map xs f in (h.0, omega arith, get_or-map f xs h.0 x (f x) lt ∙ ap f h.2)

pub space_own : (l : Level) (b : Binding) → Contains (out-Level l).own.list.now b → Contains (spaces_at l) (space_bound b)
space_own l b h =
    subst (λ spaces. Contains spaces (space_bound b)) (sym (spaces-is l))
    (Contains-append_left (map space_bound (out-Level l).own.list.now) (spaces_above (out-Level l).above) (space_bound b) (contains-map space_bound (out-Level l).own.list.now b h))

pub space_up : (l : Level) (x : Space) → Contains (spaces_above (out-Level l).above) x → Contains (spaces_at l) x
space_up l x h =
    subst (λ spaces. Contains spaces x) (sym (spaces-is l)) (Contains-append_right (map space_bound (out-Level l).own.list.now) (spaces_above (out-Level l).above) x h)
