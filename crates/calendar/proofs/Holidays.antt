-- A test of whether a day is listed, by the answer of `contains`.
use Rattle.std.proofs.Common.{◌≡◌, ℕ, Bool, eqb, List, refl}
use Rattle.std.specs.List.{IsAnyAnswer}
use Rattle.std.proofs.lemmas.List.Elements.{contains_decides}
use Rattle.std.proofs.lemmas.Bool.Decides.{Decides-by_or, Decides-eqb, same_from_decides}
use Rattle.calendar.specs.Expiry.{listed}

pub listed_is : (d : ℕ) (hs : List ℕ) (r : Bool) → IsAnyAnswer (λ y t. eqb y d ≡ t) hs r → r ≡ listed d hs
listed_is d hs r h =
    same_from_decides r (listed d hs) (contains_decides eqb Decides-eqb hs d r h)
    (Decides-by_or (λ x. eqb x d) (λ x. x ≡ d) (listed d) (λ x. Decides-eqb x d) refl (λ _ _. refl) hs)
