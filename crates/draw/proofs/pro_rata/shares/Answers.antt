use Rattle.std.proofs.Common.{◌≡◌, ℕ, ◌<◌, length, get_or, ap, ◌∙◌, arith, rules}
use Rattle.std.proofs.lemmas.List.{ext_get_or, length-map}
use Rattle.draw.proofs.Shares.{award_at, nothing, rest_at}
use Rattle.draw.specs.Shares.{awards_of, rests_of}
use Rattle.draw.specs.declared.pro_rata.Share.{Share}
use Rattle.measures.proofs.Arrays.{made_at}
use Rattle.draw.proofs.pro_rata.shares.Goals as goal

pub returns : goal.returns
returns c =
    let parts = c.args.parts.now in
    let rests = c.args.rests.now in
    let shares = c.from_fn.result in
    let made = c.from_fn.ensures.items in
    let share : ℕ → Share = λ k. record { award = get_or parts k 0; rest = get_or rests k 0 } in
    let at : (k : ℕ) → k < 16 → get_or shares k nothing ≡ share k =
    λ k inside. made_at _ share _ (λ k y q call. search rules) shares 0 16 k k nothing inside (omega arith) made.each
    in
    let long_parts : length parts ≡ 16 = search rules in
    let long_rests : length rests ≡ 16 = search rules in
    let awards_long = length-map shares (λ s. s.award) in
    let all_rests_long = length-map shares (λ s. s.rest) in
    record {
      parted =
          ext_get_or 0 (awards_of shares) parts (omega (arith, made.long, awards_long))
          (λ k h. let inside : k < 16 = omega (arith, made.long, awards_long) in award_at shares k (omega (arith, made.long)) ∙ ap (λ s. s.award) (at k inside));
      remaining =
          ext_get_or 0 (rests_of shares) rests (omega (arith, made.long, all_rests_long))
          (λ k h. let inside : k < 16 = omega (arith, made.long, all_rests_long) in rest_at shares k (omega (arith, made.long)) ∙ ap (λ s. s.rest) (at k inside));
    }
