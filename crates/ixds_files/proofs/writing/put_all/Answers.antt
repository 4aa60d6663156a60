use Rattle.std.proofs.Common.{◌≡◌, drop}
use Rattle.ixds_files.proofs.WrittenLaws.{rest_whole, has_put_more, has_put_kept, has_put_front}
use Rattle.ixds_files.proofs.writing.put_all.Goals as goal
use Rattle.ixds_files.proofs.writing.put_all.Goals.{in-Ok, in-Err}

pub returns-then-is_empty-clause-front : goal.returns-then-is_empty-clause-front
returns-then-is_empty-clause-front g c = has_put_front _ _ c.args.piece.now c.tries.rest.now c.tries.invariant

pub returns-in-Ok-eq0-clause-front : goal.returns-in-Ok-eq0-clause-front
returns-in-Ok-eq0-clause-front g c =
    let put = rw c.in-Ok-eq0.is at c.write.ensures.bytes in
    has_put_front _ _ c.args.piece.now _ (has_put_more _ _ _ c.args.piece.now c.tries.rest.now c.in-Ok-eq0.field-0 c.tries.invariant put)

pub returns-in-Err-2-clause-front : goal.returns-in-Err-2-clause-front
returns-in-Err-2-clause-front g c =
    has_put_front _ _ c.args.piece.now c.tries.rest.now (has_put_kept _ _ _ c.args.piece.now c.tries.rest.now c.tries.invariant c.in-Err-2.ensures.bytes)

pub returns-clause-front : goal.returns-clause-front
returns-clause-front g c = has_put_front _ _ c.args.piece.now c.tries.rest.now c.tries.invariant

pub tries-preserved : goal.tries-preserved
tries-preserved g c =
    elim c.match-write.branch [
      | in-Ok w ↦
          let part : c.match-write.rest.now ≡ drop w.in-Ok.n c.tries.rest.now = rw w.rest-is (rest_whole w.in-Ok.n c.tries.rest.now) in
          rw part (has_put_more _ _ _ c.args.piece.now c.tries.rest.now w.in-Ok.n c.tries.invariant w.in-Ok.ensures.bytes)
      | in-Err w ↦ rw w.rest-is (has_put_kept _ _ _ c.args.piece.now c.tries.rest.now c.tries.invariant w.in-Err.ensures.bytes)
    ]
