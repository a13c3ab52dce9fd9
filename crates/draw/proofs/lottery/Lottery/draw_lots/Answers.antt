use Rattle.std.proofs.Common.{◌≡◌, suc, ◌+◌, ◌-◌, ap, arith}
use Rattle.measures.specs.Sums.{total}
use Rattle.draw.specs.Lottery.{drawn, left_after, stepped, x_after}
use Rattle.draw.specs.Drawn.{ticket_drawn}
use Rattle.draw.proofs.lottery.Lottery.draw_lots.Goals as goal

pub loop-preserved : goal.loop-preserved
loop-preserved c =
    let x = c.loop.self.x in
    let left = c.loop.left.claims in
    let here = c.args.lots - c.loop.counter in
    let rest = c.args.lots - (c.loop.counter + 1) in
    let count : here ≡ suc rest = omega arith in
    let of-x : x_after here x ≡ x_after rest (stepped x) = ap (λ n. x_after n x) count in
    let of_left : left_after here x left ≡ left_after rest (stepped x) (drawn left (stepped x)) = ap (λ n. left_after n x left) count in
    let one = ticket_drawn left (stepped x) (omega arith) in
    (cc, cc, omega (arith, one.whole, ap total c.draw_lot.ensures.remaining))
