use Rattle.std.proofs.Common.{[], false, length, ◌++◌, ◌∙◌, ap, sym}
use Rattle.page_text.specs.Characters.{begun, scan}
use Rattle.page_text.specs.Model.{begin, reading_of}
use Rattle.page_text.specs.Cuts.{due_all}
use Rattle.page_text.proofs.Readings.{stands-begin, stands-after_all, begun-due_all, begun-nil}
use Rattle.page_text.proofs.laws.any_pieces.Goals as goal

pub returns-clause-stands : goal.returns-clause-stands
returns-clause-stands c pieces = stands-after_all begin [] pieces stands-begin

pub returns-clause-marks : goal.returns-clause-marks
returns-clause-marks c pieces = sym (begun-due_all begin [] pieces stands-begin ∙ ap (λ t. t ++ due_all begin pieces) begun-nil)

pub returns-clause-same : goal.returns-clause-same
returns-clause-same c ps qs e =
    stands-after_all begin [] ps stands-begin ∙ ap (λ b. reading_of (length b) (scan false 0 b)) e ∙ sym (stands-after_all begin [] qs stands-begin)

pub returns-clause-same_marks : goal.returns-clause-same_marks
returns-clause-same_marks c ps qs e = returns-clause-marks c ps ∙ ap begun e ∙ sym (returns-clause-marks c qs)
