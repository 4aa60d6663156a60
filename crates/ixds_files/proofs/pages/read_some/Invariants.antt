use Rattle.std.proofs.Common.{◌≡◌, length}
use Rattle.std.specs.Io.KnownBytes.{Keeps}
use Rattle.ixds_files.proofs.pages.read_some.Given as goal

abbrev pub invariant-tries : goal.invariant-tries
invariant-tries g l = (length l.buf ≡ length l.fn.buf) × Keeps (g.F.Read.remaining l.fn.file) (g.F.Read.remaining l.file)
