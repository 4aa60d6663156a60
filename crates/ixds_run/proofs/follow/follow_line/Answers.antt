use Rattle.std.proofs.Common.{◌∙◌, ap, sym, refl}
use Rattle.page_session.specs.declared.script.Line.TheVariants as line
use Rattle.ixds_run.proofs.LineLaws.{along_end, check_goes, drop_goes, drop_misses, extract_ends, line_wanted, put_line}
use Rattle.ixds_run.proofs.follow.follow_line.Goals as goal

pub returns-in-Put-clause-follows : goal.returns-in-Put-clause-follows
returns-in-Put-clause-follows g c =
    put_line _ _ _ _ _ _ _ _ c.as_str.result.now _ (c.in-Put.is ∙ ap line.Put (sym c.as_str.ensures)) refl (c.put_page.ensures.follows c.args.text.now)

pub returns-then-remove-clause-follows : goal.returns-then-remove-clause-follows
returns-then-remove-clause-follows g c =
    drop_goes _ _ _ _ _ _ _ _ c.lines_by_calls.ensures.drops c.as_str-in-Drop.result.now (c.in-Drop.is ∙ ap line.Drop (sym c.as_str-in-Drop.ensures))
    c.if-remove.ensures.dropped (sym c.if-remove.ensures.there) refl refl refl

pub returns-else-remove-clause-follows : goal.returns-else-remove-clause-follows
returns-else-remove-clause-follows g c =
    along_end _ _ _ _ _ _ _ _ _ _ c.end.ensures
    (drop_misses _ _ _ _ _ _ _ _ c.lines_by_calls.ensures.misses c.as_str-in-Drop.result.now (c.in-Drop.is ∙ ap line.Drop (sym c.as_str-in-Drop.ensures))
    (sym c.if-remove.ensures.there) refl refl _ c.due_of_line.ensures.silent c.due_of_line.ensures.due)

pub returns-in-Ok-clause-follows : goal.returns-in-Ok-clause-follows
returns-in-Ok-clause-follows g c = check_goes _ _ _ _ _ _ _ _ c.in-Check.is refl refl refl c.in-Ok.ensures

pub returns-in-Err-clause-follows : goal.returns-in-Err-clause-follows
returns-in-Err-clause-follows g c = line_wanted _ _ _ _ _ _ _ _ refl refl

pub returns-in-Extract-clause-follows : goal.returns-in-Extract-clause-follows
returns-in-Extract-clause-follows g c =
    along_end _ _ _ _ _ _ _ _ _ _ c.end-in-Extract.ensures
    (extract_ends _ _ _ _ _ _ _ _ c.in-Extract.is refl refl _ c.extracted.ensures.silent (rw c.as_str-in-Extract.ensures at c.extracted.ensures.due))
