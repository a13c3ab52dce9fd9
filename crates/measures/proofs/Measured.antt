-- What holds of a figure as its measure reads it.
use Rattle.std.proofs.Common.{◌≡◌, ℕ, ◌≤◌, arith}
use Rattle.measures.specs.Ranges.{read_as}
use Rattle.measures.specs.declared.measure.Measure.{Measure}

pub read_as_again : (m : Measure) (n : ℕ) → m.least ≤ m.most → read_as m (read_as m n) ≡ read_as m n
read_as_again m n h = omega arith
