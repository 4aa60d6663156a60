use Rattle.std.proofs.Common.{◌≡◌, ◌++◌, drop, map, Some}
use Rattle.ix_base.specs.LocatedElements.{located, base_in}
use Rattle.ix_base.specs.Markup.{markup_along}
use Rattle.escape_text.proofs.marked_text.chain_markup.Given as goal

-- what is appended and what is left are what is due
abbrev pub invariant-loop-spot : goal.invariant-loop-spot
invariant-loop-spot l = l.text ++ markup_along (λ e. Some (base_in l.bases.pages e)) l.start_ns (map (λ s. located s.now) (drop l.spot-index l.chain))
    ≡ l.initial.text ++ markup_along (λ e. Some (base_in l.bases.pages e)) l.start_ns (map (λ s. located s.now) l.chain)
