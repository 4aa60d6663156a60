-- What is known of the courses of walks.
use Rattle.std.specs.Prelude.{◌≡◌, length}
use Rattle.continuations.specs.declared.walks.Courses.{Courses}
use Rattle.continuations.specs.Visits.{AreFar, Met}

-- each walk went as far as no walk before it did, and each number has its far one
pub record AreCourses (w : Courses) : Type 0 where
  pub met : Met w.nexts.now w.first (length w.nexts.now) w.visits.now w.meets.now
  pub far : AreFar w.nexts.now w.first w.visits.now w.fars.now
  pub meets : length w.meets.now ≡ length w.nexts.now
  pub fars : length w.fars.now ≡ length w.nexts.now
