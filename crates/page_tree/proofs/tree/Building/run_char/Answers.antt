use Rattle.std.proofs.Common.{◌≡◌, ◌≢◌, ◌++◌, ◌∙◌, [], rules, refl, sym, ap, string_bytes, encode_utf8}
use Rattle.page_tree.specs.Buildings.{state_of}
use Rattle.page_tree.proofs.StackLaws.{running-some}
use Rattle.page_tree.proofs.tree.Building.run_char.Goals as goal

pub returns : goal.returns
returns c = λ page.
    let s = state_of c.args.self.now in
    let os = c.args.self.now.elements.items in
    let some : os ≢ [] = search rules in
    let text : string_bytes c.push.new.self ≡ s.text ++ encode_utf8 c.args.ch = search rules in
    record { state = ap (λ x. record s { text = x }) text ∙ sym (running-some os s (encode_utf8 c.args.ch) some refl); on_page = λ all. record { pages = all.pages; spaces = all.spaces } }
