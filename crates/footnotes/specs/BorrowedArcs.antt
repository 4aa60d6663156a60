-- Arcs whose texts are borrowed.
use Rattle.ix_base.specs.declared.content.Arc.{Arc}
use Rattle.footnotes.specs.declared.arcs.BorrowedArc.{BorrowedArc}

abbrev pub as_arc : BorrowedArc → Arc
as_arc b = record { arcrole = b.arcrole.now; from_id = b.from_id.now; to_id = b.to_id.now; order = b.order.now }
