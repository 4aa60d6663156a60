use Rattle.std.proofs.Common.{ap, refl}
use Rattle.ixds_run.proofs.LineLaws.{along_end, has_space, none_wanted, put_fails, put_full, put_goes, put_passes, put_wanted}
use Rattle.ixds_run.proofs.follow.put_page.Goals as goal

pub returns-in_default-clause-follows : goal.returns-in_default-clause-follows
returns-in_default-clause-follows g c = λ text. none_wanted _ _ _ _ _ _ _ text refl refl

pub returns-in-Ok-put-clause-follows : goal.returns-in-Ok-put-clause-follows
returns-in-Ok-put-clause-follows g c = λ text.
    let put = c.in-Ok-put.ensures in
    put_goes _ _ _ _ _ _ _ text c.lines_by_calls.ensures.puts (has_space _ _ (λ e. cc) put.many) put.ok put.within put.told put.started put.cause

pub returns-in-Err-TooMany-clause-follows : goal.returns-in-Err-TooMany-clause-follows
returns-in-Err-TooMany-clause-follows g c = λ text.
    let put = rw c.in-Err-TooMany.field-0-is at c.in-Err-TooMany.ensures in
    along_end _ _ _ _ _ _ text text _ _ c.end.ensures
    (put_full _ _ _ _ _ _ _ text c.lines_by_calls.ensures.fills (put.many.0 refl) put.cause (ap g.P.PageSource.starts (put.unasked refl)) _
    c.due_of_line.ensures.silent c.due_of_line.ensures.due)

pub returns-in-Err-Spent-clause-follows : goal.returns-in-Err-Spent-clause-follows
returns-in-Err-Spent-clause-follows g c = λ text.
    let put = rw c.in-Err-Spent.field-0-is at c.in-Err-Spent.ensures in
    along_end _ _ _ _ _ _ text text _ _ c.end-in-Err-Spent.ensures
    (put_passes _ _ _ _ _ _ _ text c.lines_by_calls.ensures.passes (has_space _ _ (λ e. cc) put.many) (put.spent refl) (put.started_spent refl) put.cause _
    c.due_of_line-in-Err-Spent.ensures.silent c.due_of_line-in-Err-Spent.ensures.due)

pub returns-in-Err-ReadFault-clause-follows : goal.returns-in-Err-ReadFault-clause-follows
returns-in-Err-ReadFault-clause-follows g c = λ text.
    let put = rw c.in-Err-ReadFault.field-0-is at c.in-Err-ReadFault.ensures in
    put_fails _ _ _ _ _ _ _ text c.in-Ok.line (has_space _ _ (λ e. cc) put.many) put.starts put.cause (put.named refl) (put.failed refl) c.in-Ok.ensures

pub returns-in-Err-NoMemory-clause-follows : goal.returns-in-Err-NoMemory-clause-follows
returns-in-Err-NoMemory-clause-follows g c = λ text.
    let put = rw c.in-Err-NoMemory.field-0-is at c.in-Err-NoMemory.ensures in
    put_wanted _ _ _ _ _ _ _ text (has_space _ _ (λ e. cc) put.many) put.starts put.cause
