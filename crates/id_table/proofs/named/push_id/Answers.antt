use Rattle.std.proofs.Common.{[], List, Option, ℕ, option_map, subst, sym}
use Rattle.std.specs.Borrow.{Bor}
use Rattle.std.specs.List.{cons_option}
use Rattle.std.specs.Prelude.{OnOk}
use Rattle.id_table.specs.Gathered.{Gathers, texts_of}
use Rattle.id_table.proofs.named.push_id.Goals as goal

pub returns-in-Some : goal.returns-in-Some
returns-in-Some c =
    subst (λ (o : Option (Bor (List ℕ))). OnOk c.push_unlike.result (Gathers (texts_of c.args.ids.now.items) (texts_of c.push_unlike.new.texts.items)
    (cons_option (option_map (λ (s : Bor (List ℕ)). s.now) o) []))) (sym c.in-Some.is) c.push_unlike.ensures
