use Rattle.std.proofs.Common.{◌≡◌, ◌∙◌, ap, cond, true}
use Rattle.std.specs.Prelude.{bytes_eq, not, string_bytes}
use Rattle.std.specs.BTreeSet.{contains_text}
use Rattle.std.proofs.lemmas.Map.Text.{btree_set_updates_text}
use Rattle.instance_lines.specs.Elements.{footnote_text}
use Rattle.instance_lines.proofs.arranged_note.is_first.Goals as goal

pub returns : goal.returns
returns c =
    let key : string_bytes c.in_ok-key.key ≡ footnote_text c.args.footnote.now = c.in_ok-key.ensures.ok ∙ c.as_str.ensures ∙ c.in_ok-text.ensures in
    record {
      told = c.in_ok-first.ensures.added ∙ ap (λ t. not (contains_text c.args.seen.now t)) key;
      noted = λ t. btree_set_updates_text
          (string_bytes c.in_ok-key.key) c.args.seen.now c.insert.new.self true c.in_ok-first.ensures.updates t
          ∙ ap (λ s. cond (bytes_eq s t) true (contains_text c.args.seen.now t)) key;
    }
