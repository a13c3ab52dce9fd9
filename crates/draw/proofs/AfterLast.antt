-- The account after the last one awarded.
use Rattle.std.proofs.Common.{◌≡◌, ℕ, zero, suc, ◌+◌, ◌<◌, cond, eqb, List, [], ◌∷◌, length, get_or, refl, arith}
use Rattle.std.proofs.lemmas.Bool.Decides.{nat_tests}
use Rattle.draw.specs.Wheel.{after_last}

-- none is awarded
pub after_none : (place account : ℕ) (xs : List ℕ) → ((j : ℕ) → j < length xs → get_or xs j 0 ≡ 0) → after_last place account xs ≡ place
after_none place account [] none = refl
after_none place account (x ∷ xs) none =
    let x-none : x ≡ 0 = none 0 (omega arith) in
    let rest = after_none place (account + 1) xs (λ j l. none (suc j) (omega arith)) in
    grind (arith, nat_tests)

-- the last one awarded
pub after_some : (place account : ℕ) (xs : List ℕ) (k : ℕ) → 0 < get_or xs k 0 → ((j : ℕ) → k < j → j < length xs → get_or xs j 0 ≡ 0) → after_last place account xs ≡ account + k + 1
after_some place account [] k some none = absurd (omega arith)
after_some place account (x ∷ xs) zero some none =
    let rest = after_none (account + 1) (account + 1) xs (λ j l. none (suc j) (omega arith) (omega arith)) in
    grind (arith, nat_tests)
after_some place account (x ∷ xs) (suc k) some none =
    let after = cond (eqb x 0) place (account + 1) in
    omega (arith, after_some after (account + 1) xs k some (λ j h l. none (suc j) (omega arith) (omega arith)))
