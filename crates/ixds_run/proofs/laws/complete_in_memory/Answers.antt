use Rattle.ixds_run.proofs.MemoryLaws.{fit-completes}
use Rattle.ixds_run.proofs.laws.complete_in_memory.Goals as goal

pub returns : goal.returns
returns c = λ command bs p q s u t v status fit answers. fit-completes command bs p q s u t v fit status answers
