use Rattle.std.proofs.Common.{◌≡◌, ◌+◌, ◌-◌}
use Rattle.draw.specs.Lottery.{left_after, x_after}
use Rattle.draw.proofs.lottery.Lottery.draw_lots.Given as goal

-- the lots still to be drawn lead to the same end
abbrev pub invariant-loop : goal.invariant-loop
invariant-loop l =
    (x_after (l.lots - l.counter) l.self.x ≡ x_after l.lots l.fn.self.x)
    × (left_after (l.lots - l.counter) l.self.x l.left.claims ≡ left_after l.lots l.fn.self.x l.fn.left.claims)
    × (l.left.lots + l.counter ≡ l.fn.left.lots)
