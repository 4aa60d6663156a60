use Rattle.std.proofs.Common.{◌∙◌, ◌&&◌, ap}
use Rattle.std.specs.List.{list_all}
use Rattle.ix_base.specs.NcName.{is_ncname}
use Rattle.ix_base.specs.PlainContents.{said_of}
use Rattle.instance_lines.specs.Lists.{are_apart}
use Rattle.instance_lines.specs.Tables.{values_of}
use Rattle.proper_content.proofs.IdLaws.{ids_told}
use Rattle.proper_content.proofs.ids.ids_fit.Goals as goal

pub returns-then-not-are_ncnames : goal.returns-then-not-are_ncnames
returns-then-not-are_ncnames c =
    let ids = values_of c.in_ok-ids.ids.items in
    ap (λ b. b && are_apart ids) (c.if-not-are_ncnames.ensures ∙ ap (λ l. list_all is_ncname (values_of l)) c.as_slice.ensures.value)
    ∙ ids_told (said_of c.args.content.now) ids c.in_ok-ids.ensures

pub returns : goal.returns
returns c =
    let ids = values_of c.in_ok-ids.ids.items in
    c.are_apart.ensures
    ∙ ap (λ b. b && are_apart ids) (c.if-not-are_ncnames.ensures ∙ ap (λ l. list_all is_ncname (values_of l)) c.as_slice.ensures.value)
    ∙ ids_told (said_of c.args.content.now) ids c.in_ok-ids.ensures
