use Rattle.std.proofs.Common.{◌≡◌, ◌≢◌, ◌++◌, ◌∙◌, [], rules, refl, sym, ap, string_bytes}
use Rattle.page_tree.specs.Buildings.{state_of}
use Rattle.page_tree.proofs.StackLaws.{running-some}
use Rattle.page_tree.proofs.tree.Building.run.Goals as goal

pub returns : goal.returns
returns c = λ page.
    let s = state_of c.args.self.now in
    let os = c.args.self.now.elements.items in
    let some : os ≢ [] = search rules in
    let text : string_bytes c.push_str.new.self ≡ s.text ++ c.args.chars.now = search rules in
    record { state = ap (λ x. record s { text = x }) text ∙ sym (running-some os s c.args.chars.now some refl); on_page = λ all. record { pages = all.pages; spaces = all.spaces } }
