-- Breaches whose pages' names are borrowed.
use Rattle.ix_base.specs.declared.breach.Breach.{Breach}
use Rattle.ix_base.specs.declared.breach.Line.{Line}

abbrev pub breach_of : Line → Breach
breach_of l = record { page = l.page.now; offset = l.offset; rule = l.rule }
