use Rattle.std.proofs.Common.{arith, sym}
use Rattle.std.proofs.lemmas.Bool.{eqb-true}
use Rattle.text_map.proofs.Classes.{kept-made, room-made, small-made}
use Rattle.text_map.proofs.class.make_tables.Goals as goal

pub returns-clause-texts : goal.returns-clause-texts
returns-clause-texts g c =
    let e = eqb-true c.args.tables.now.len 0 (sym c.if-not-is_empty.ensures) in
    kept-made c.args.tables.now.items c.in_ok-tables.field-0.items (omega arith) c.in_ok-tables.ensures.blank

pub returns-clause-room : goal.returns-clause-room
returns-clause-room g c =
    let e = eqb-true c.args.tables.now.len 0 (sym c.if-not-is_empty.ensures) in
    room-made c.args.tables.now.items c.in_ok-tables.field-0.items (omega arith) c.in_ok-tables.ensures.blank

pub returns-clause-small : goal.returns-clause-small
returns-clause-small g c = λ _. small-made c.in_ok-tables.field-0.items c.in_ok-tables.ensures.blank
