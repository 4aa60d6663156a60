use Rattle.std.proofs.Common.{◌≡◌, List, Option, ℕ, refl, subst}
use Rattle.ixds_run.specs.Answers.{Outside, outside}
use Rattle.ixds_run.proofs.DueLaws.{dir_none}
use Rattle.ixds_run.proofs.ReadyLaws.{Delivered, Told, due_answered, fault_answered, memory_answered}
use Rattle.ixds_run.proofs.answer.answer.Goals as goal

pub returns-in-Err-NoMemory : goal.returns-in-Err-NoMemory
returns-in-Err-NoMemory g c =
    memory_answered _ _ _ _ _ refl refl refl refl c.args.command.now (rw c.in-Err-NoMemory.field-0-is at c.in-Err-NoMemory.ensures)

pub returns-in-Err-Failed : goal.returns-in-Err-Failed
returns-in-Err-Failed g c =
    let old : Outside = outside g.P.PageSource g.S.TargetSink g.T.TextSink c.args.pages.now c.args.sink.now c.args.out.now in
    let new : Outside = outside g.P.PageSource g.S.TargetSink g.T.TextSink c.made_ready.new.pages c.args.sink.now c.put_read_fault.new.out in
    let put = c.put_read_fault.ensures in
    let line = c.in-Err-Failed.line in
    let told : Told line.items old new c.put_read_fault.result =
    subst (λ (l : List ℕ). Told l old new c.put_read_fault.result) c.as_slice.ensures.value
    (record { either = put.either; read = put.read; quiet = put.quiet; cause = put.cause; last = put.last; front = put.front }) in
    fault_answered old new (c.made_ready.new.pages ≡ c.args.pages.now) (c.args.sink.now ≡ c.args.sink.now) (c.put_read_fault.new.out ≡ c.args.out.now)
    c.put_read_fault.result line told refl refl refl put.numbers c.args.command.now (rw c.in-Err-Failed.field-0-is at c.in-Err-Failed.ensures)

pub returns-in-Ok : goal.returns-in-Ok
returns-in-Ok g c =
    let old : Outside = outside g.P.PageSource g.S.TargetSink g.T.TextSink c.args.pages.now c.args.sink.now c.args.out.now in
    let new : Outside = outside g.P.PageSource g.S.TargetSink g.T.TextSink c.made_ready.new.pages c.deliver-status.new.sink c.deliver-status.new.out in
    let put = c.deliver-status.ensures in
    due_answered old new (c.made_ready.new.pages ≡ c.args.pages.now) (c.deliver-status.new.sink ≡ c.args.sink.now) (c.deliver-status.new.out ≡ c.args.out.now) c.in-Ok.due c.deliver-status.result c.args.command.now c.in-Ok.ensures
    (subst (λ (d : Option (List ℕ)). Delivered c.in-Ok.due d old new (c.deliver-status.new.sink ≡ c.args.sink.now) (c.deliver-status.new.out ≡ c.args.out.now) c.deliver-status.result) c.dir.ensures (record {
      either = put.either;
      targets = λ e. (put.whole e).0;
      text = λ e. (put.whole e).1;
      quiet = λ e. ((put.whole e).2, (put.whole e).3);
      cause = put.cause;
      last = λ e f. (put.cut e f).0;
      last_text = λ e f. (put.front e f).0;
      numbers = put.numbers;
      part = λ e f. ((put.cut e f).1, (put.cut e f).2);
      all = λ e f. ((put.front e f).1, (put.front e f).2);
      no_dir = λ e. put.still.0 (dir_none c.dir.result e);
      none = put.still.1;
    }))
