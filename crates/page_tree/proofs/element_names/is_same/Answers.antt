use Rattle.std.proofs.Common.{◌≡◌, ◌∙◌, rules, sym}
use Rattle.std.proofs.lemmas.Bool.{and_parts}
use Rattle.std.proofs.lemmas.Slice.Eq.{bytes_eq-Decides}
use Rattle.ix_base.specs.declared.tree.Name.{Name}
use Rattle.page_tree.specs.Names.{IsSameName}
use Rattle.page_tree.proofs.element_names.is_same.Goals as goal

same : (a b : Name) → a.number ≡ b.number → a.local.now ≡ b.local.now → a.ns.now ≡ b.ns.now → IsSameName a b
same a b n l s = record {
  name = λ i. record { ns = s i; local = l i };
  space = λ i. record { number = n i; text = s i };
}

pub returns : goal.returns
returns c = λ t.
    let both = and_parts _ _ (sym c.has_texts.ensures ∙ t) in
    same c.args.known.now c.args.own.now (search rules)
    ((bytes_eq-Decides c.args.known.now.local.now c.args.own.now.local.now).0 both.0)
    ((bytes_eq-Decides c.args.known.now.ns.now c.args.own.now.ns.now).0 both.1)
