use Rattle.std.proofs.Common.{◌∙◌, ap, sym}
use Rattle.std.specs.Prelude.{codes, unwrap_or}
use Rattle.ix_base.specs.Readers as reader
use Rattle.footnotes.proofs.SpotLaws.{tree-is}
use Rattle.footnotes.proofs.footnotes.footnote_role.Goals as goal

pub returns-in-Some : goal.returns-in-Some
returns-in-Some c =
    ap (λ o. unwrap_or o (codes "http://www.xbrl.org/2003/role/footnote"))
    (c.in-Some.ensures ∙ ap (reader.token_at (codes "footnoteRole")) (sym (tree-is c.args.spot.now)))

pub returns-in-None : goal.returns-in-None
returns-in-None c =
    ap (λ o. unwrap_or o (codes "http://www.xbrl.org/2003/role/footnote"))
    (c.in-None.ensures ∙ ap (reader.token_at (codes "footnoteRole")) (sym (tree-is c.args.spot.now)))
