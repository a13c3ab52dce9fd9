-- Two functions that agree at each number below a bound, shown by one test that antt computes.
use Rattle.std.proofs.Common.{◌≡◌, ℕ, zero, suc, ◌<◌, Bool, true, ◌&&◌, eqb, refl}
use Rattle.std.proofs.lemmas.Bool.Decides.{Decides-below_and, Decides-eqb}

abbrev pub passes : (ℕ → Bool) → ℕ → Bool
passes p zero = true
passes p (suc n) = p n && passes p n

pub equal_below : (f g : ℕ → ℕ) (n : ℕ) → passes (λ k. eqb (f k) (g k)) n ≡ true → (k : ℕ) → k < n → f k ≡ g k
equal_below f g n all =
    (Decides-below_and (λ k. eqb (f k) (g k)) (λ k. f k ≡ g k) (passes (λ k. eqb (f k) (g k)))
    (λ k. Decides-eqb (f k) (g k)) refl (λ _. refl) n).0 all
