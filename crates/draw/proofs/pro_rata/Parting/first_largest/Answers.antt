use Rattle.std.proofs.Common.{◌≡◌, length, arith, rules}
use Rattle.std.proofs.lemmas.List.{length-map}
use Rattle.draw.proofs.Proportion.{is_first_largest}
use Rattle.draw.specs.Shares.{rests_of}
use Rattle.draw.proofs.pro_rata.Parting.first_largest.Goals as goal

pub returns-clause-place : goal.returns-clause-place
returns-clause-place c =
    let shares = c.args.self.now.shares in
    let inv = c.loop-k.invariant in
    let long : length shares ≡ 16 = search rules in
    is_first_largest (rests_of shares) c.loop-k.place (λ j inside. inv.2 j (omega (arith, length-map shares (λ share. share.rest)))) inv.3
