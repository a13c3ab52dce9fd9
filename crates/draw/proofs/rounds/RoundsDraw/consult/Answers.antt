use Rattle.std.proofs.Common.{sym, ap, ◌∙◌, arith}
use Rattle.draw.specs.Rounds.{standing}
use Rattle.draw.specs.Held.{round_takes, rounds_ended}
use Rattle.draw.proofs.RoundOn.{round_on}
use Rattle.draw.proofs.Known.{same_rounds}
use Rattle.draw.proofs.rounds.RoundsDraw.consult.Goals as goal

pub loop-self-smaller : goal.loop-self-smaller
loop-self-smaller g c =
    let rounds = c.loop-self.self in
    let s = standing rounds.below c.loop-self.left.claims c.loop-self.left.demand in
    omega (arith, ap (λ t. t.rest) c.round-left.ensures.held, round_takes g.D.Draw.awards g.D.Draw.next rounds.most rounds.some g.met.D.Draw.fair s (sym c.loop-self-test.ensures))

pub loop-self-preserved : goal.loop-self-preserved
loop-self-preserved g c =
    let rounds = c.loop-self.self in
    let s = standing rounds.below c.loop-self.left.claims c.loop-self.left.demand in
    let was = c.loop-self.invariant in
    let now = c.round-left.ensures in (
      round_on g.D.Draw.awards g.D.Draw.next rounds.most rounds.some g.met.D.Draw.fair s _ _ c.args.self.now.most was.1 (sym c.loop-self-test.ensures) now.held was.0,
      now.most ∙ was.1,
    )

pub returns-clause-moved : goal.returns-clause-moved
returns-clause-moved g c =
    let first = c.args.self.now in
    let s = standing c.loop-self.self.below c.loop-self.left.claims c.loop-self.left.demand in
    let ended = rounds_ended g.D.Draw.awards g.D.Draw.next first.most first.some g.met.D.Draw.fair s.rest s (sym c.loop-self-test.ensures) in
    same_rounds _ _ c.loop-self.invariant.1 (ap (λ t. t.below) (sym ended ∙ c.loop-self.invariant.0))
