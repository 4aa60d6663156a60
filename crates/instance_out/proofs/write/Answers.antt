use Rattle.std.proofs.Common.{◌≡◌, ◌∙◌, ap, Ok, Err, option_map}
use Rattle.std.specs.List.{concat}
use Rattle.std.specs.Result.{OnOk}
use Rattle.std.specs.Prelude.{Result}
use Rattle.ix_base.specs.Outside.{last_grown}
use Rattle.instance_out.proofs.BackLaws.{lines-read_back}
use Rattle.instance_out.proofs.write.Goals as goal

then : {T E : Type 0} (r : Result T E) (A B : Type 0) → (A → B) → OnOk r A → OnOk r B
then (Ok v) A B f h = f h
then (Err e) A B f h = h

pub returns-clause-read_back : goal.returns-clause-read_back
returns-clause-read_back g c content proper is =
    let lines = c.args.prepared.now in
    let same : c.as_slice.result.now ≡ lines = c.as_slice.ensures ∙ c.prepared.view_is in
    let targets = g.S.TargetSink.targets in
    then c.put_lines.result _ _
    (λ e. (concat lines, e ∙ ap (λ ls. option_map (last_grown (concat ls)) (targets c.args.sink.now)) same, lines-read_back content lines proper is))
    c.put_lines.ensures.ok
