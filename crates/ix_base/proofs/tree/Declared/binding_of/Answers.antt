use Rattle.std.proofs.Common.{◌≡◌, ◌∙◌, false, true, sym, ap, map}
use Rattle.std.proofs.lemmas.Slice.Eq.{bytes_eq-Decides}
use Rattle.ix_base.specs.Bindings.{bound, place_of, has_at}
use Rattle.ix_base.proofs.ScopeLemmas.{found-code, has_at-index, missed-at}
use Rattle.ix_base.proofs.tree.Declared.binding_of.Goals as goal

pub returns-then-is_bound_at-clause-value : goal.returns-then-is_bound_at-clause-value
returns-then-is_bound_at-clause-value c =
    found-code c.args.self.list.now c.args.prefix.now c.place_in-at.result _ c.place_in-at.ensures.value (sym c.is_bound_at.ensures.value ∙ c.if-is_bound_at.true)

pub returns-clause-value : goal.returns-clause-value
returns-clause-value c =
    let missed : has_at (map bound c.args.self.list.now) (place_of (map bound c.args.self.list.now) c.args.prefix.now) c.args.prefix.now ≡ false =
    ap (λ at. has_at (map bound c.args.self.list.now) at c.args.prefix.now) (sym c.place_in-at.ensures.value) ∙ sym c.is_bound_at.ensures.value ∙ c.if-is_bound_at.false in
    sym (missed-at (map bound c.args.self.list.now) c.args.prefix.now c.args.self.ordered missed)

pub returns-then-is_bound_at-clause-prefix : goal.returns-then-is_bound_at-clause-prefix
returns-then-is_bound_at-clause-prefix c =
    let list = c.args.self.list.now in
    let p = c.args.prefix.now in
    let at = c.place_in-at.result in
    let here : has_at (map bound list) at p ≡ true = sym c.is_bound_at.ensures.value ∙ c.if-is_bound_at.true in
    (bytes_eq-Decides _ p).0 (sym (has_at-index list at p _ (c.is_bound_at.ensures.within c.if-is_bound_at.true)) ∙ here)
