-- A draw is known by what it holds, whatever proof of its invariant it has.
use Rattle.std.specs.Prelude.{◌≡◌, ◌<◌, ◌≤◌}
use mathlib.Core.HLevel.{is_prop→PathP}
use Rattle.std.proofs.Math.Bridge.{le_prop}
use Rattle.draw.specs.declared.rounds.Rounds.{Rounds}
use Rattle.draw.specs.declared.wheel.Wheel.{Wheel}

-- a wheel is known by its place
pub same_wheel : (v w : Wheel) → v.place ≡ w.place → v ≡ w
same_wheel v w e = λ i. record { place = e i; inside = is_prop→PathP (λ j. e j < 16) (λ j. le_prop) v.inside w.inside i }

-- rounds are known by how many lots they are of, and by the draw below
pub same_rounds : {D : Type 0} (s t : Rounds D) → s.most ≡ t.most → s.below ≡ t.below → s ≡ t
same_rounds s t e f = λ i. record { most = e i; below = f i; some = is_prop→PathP (λ j. 1 ≤ e j) (λ j. le_prop) s.some t.some i }
