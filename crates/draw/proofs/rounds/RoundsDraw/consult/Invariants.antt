use Rattle.std.proofs.Common.{◌≡◌}
use Rattle.draw.specs.Rounds.{rounds, rounds_end, standing}
use Rattle.draw.proofs.rounds.RoundsDraw.consult.Given as goal

-- what the rounds to come make of this standing is what all of them make of the first one
abbrev pub invariant-loop-self : goal.invariant-loop-self
invariant-loop-self g l =
    (rounds g.D.Draw.awards g.D.Draw.next l.fn.self.most l.left.demand (standing l.self.below l.left.claims l.left.demand)
    ≡ rounds_end g.D.Draw.awards g.D.Draw.next l.fn.self.most l.fn.self.below l.exercise.claims l.exercise.demand)
    × (l.self.most ≡ l.fn.self.most)

abbrev pub decreases-loop-self : goal.decreases-loop-self
decreases-loop-self g l = l.left.demand
