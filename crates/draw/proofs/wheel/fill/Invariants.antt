use Rattle.std.proofs.Common.{◌≡◌, ◌-◌, ◌++◌, take, drop}
use Rattle.measures.specs.Sums.{total}
use Rattle.draw.specs.Wheel.{filled}
use Rattle.draw.proofs.wheel.fill.Given as goal

-- the awards so far, and those of what is left
abbrev pub invariant-loop-claim : goal.invariant-loop-claim
invariant-loop-claim l =
    (take l.claim-index l.claims ++ filled (drop l.claim-index l.claims) l.left ≡ filled l.initial.claims l.demand)
    × (l.left - total (drop l.claim-index l.claims) ≡ l.demand - total l.initial.claims)
