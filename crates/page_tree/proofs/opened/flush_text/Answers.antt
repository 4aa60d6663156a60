use Rattle.std.proofs.Common.{◌≡◌, ◌∙◌, ◌++◌, ◌∷◌, [], ℕ, List, ap, append-nil, flat_map, rules, string_bytes}
use Rattle.std.specs.Borrow.{Bor}
use Rattle.std.proofs.lemmas.Grind.{flat_map-append}
use Rattle.ix_base.specs.Elements.{pages_in}
use Rattle.ix_base.specs.Spaces.{spaces_in}
use Rattle.ix_base.specs.declared.tree.Node.{Node, the_lemmas}
use Rattle.ix_base.specs.declared.tree.Node.TheVariants.{Chars}
use Rattle.page_tree.proofs.Children.{flush-push}
use Rattle.page_tree.proofs.opened.flush_text.Goals as goal

-- a text that is put behind some children adds neither page numbers nor namespaces

none-more : {X : Type 0} (of : Node → List X) (ns more : List Node) (t : Bor (List ℕ)) → of (Chars t) ≡ [] → more ≡ ns ++ Chars t ∷ []
    → flat_map of more ≡ flat_map of ns
none-more of ns more t none m =
    ap (flat_map of) m ∙ flat_map-append of ns (Chars t ∷ []) ∙ ap (λ p. flat_map of ns ++ p) (append-nil (of (Chars t)) ∙ none)
    ∙ append-nil (flat_map of ns)

pages-Chars : (t : Bor (List ℕ)) → pages_in (Chars t) ≡ []
pages-Chars t = search (rules, the_lemmas)

spaces-Chars : (t : Bor (List ℕ)) → spaces_in (Chars t) ≡ []
spaces-Chars t = search (rules, the_lemmas)

pub returns-clause-nodes : goal.returns-clause-nodes
returns-clause-nodes c =
    flush-push c.args.children.now.items _ c.in-Ok.chars (string_bytes c.args.text.now) (search rules) (search rules) (search rules)

pub returns-clause-pages : goal.returns-clause-pages
returns-clause-pages c = none-more pages_in c.args.children.now.items c.push.new.self.items c.in-Ok.chars (pages-Chars c.in-Ok.chars) (search rules)

pub returns-clause-spaces : goal.returns-clause-spaces
returns-clause-spaces c = none-more spaces_in c.args.children.now.items c.push.new.self.items c.in-Ok.chars (spaces-Chars c.in-Ok.chars) (search rules)
