-- An array that a closure made, each element of another, or each of its place.
use Rattle.std.proofs.Common.{◌≡◌, ℕ, zero, suc, ◌+◌, ◌<◌, List, [], ◌∷◌, map, length, get_or, sym, refl, subst, ◌∙◌, arith}
use Rattle.std.proofs.lemmas.List.{ext_get_or, get_or-map, length-map}
use Rattle.std.proofs.lemmas.Fn.{serves_by}
use Rattle.std.specs.Array.{IsFromFnResult, IsFromFnResultFrom, IsMapOf, MapsFrom, index_steps, list_steps}
use Rattle.std.specs.Fn.{Mut}
use Rattle.std.specs.Iterator.{ActsAs, CallableAtEachTurn, Yields}
use Rattle.std.specs.List.{FoldsTo}

-- a list is a map where each entry is
pub is_map : {A B : Type 0} (f : A → B) (d : A) (e : B) (xs : List A) (ys : List B) → length ys ≡ length xs → ((k : ℕ) → k < length xs → get_or ys k e ≡ f (get_or xs k d)) → ys ≡ map f xs
is_map f d e xs ys long each =
    ext_get_or e ys (map f xs) (long ∙ sym (length-map xs f))
    (λ k h. let inside : k < length xs = omega arith in each k inside ∙ sym (get_or-map f xs k d e inside))

module _ {F A B : Type 0} (g : Mut F (A × Unit {0}) B) (h : A → B) (f : F) (each : ActsAs g f h) (xs : List A) (ys : List B) where
  mapped_at : (i n j k : ℕ) (d : A) (e : B) → j < n → k ≡ i + j → MapsFrom g f xs ys i n → get_or ys k e ≡ h (get_or xs k d)
  mapped_at i zero j k d e l at m = absurd (omega arith)
  mapped_at i (suc n) zero k d e l at m =
      let here : k ≡ i = omega arith in
      let x = m.3.1 d in
      let y = m.4.1 e in
      let call = (each m.1 m.2 m.0 m.5).1 in
      cc
  mapped_at i (suc n) (suc j) k d e l at m =
      mapped_at (i + 1) n j k d e (omega arith) (omega arith) (subst (λ q. MapsFrom g q xs ys (i + 1) n) (each m.1 m.2 m.0 m.5).0 m.6)

  -- a map of a list
  pub mapped : (n : ℕ) (d : A) → length xs ≡ n → IsMapOf g f xs ys n → ys ≡ map h xs
  mapped n d long m =
      is_map h d (h d) xs ys (m.long ∙ sym long) (λ k inside. mapped_at 0 n k k d (h d) (omega arith) (omega arith) m.each)

module _ {F B : Type 0} (g : Mut F (ℕ × Unit {0}) B) (h : ℕ → B) (f : F) (each : ActsAs g f h) (ys : List B) where
  -- what is at each place
  pub made_at : (i n j k : ℕ) (e : B) → j < n → k ≡ i + j → IsFromFnResultFrom g f ys i n → get_or ys k e ≡ h k
  made_at i zero j k e l at m = absurd (omega arith)
  made_at i (suc n) zero k e l at m =
      let here : k ≡ i = omega arith in
      let y = m.2.1 e in
      let call = (each i m.1 m.0 m.3).1 in
      cc
  made_at i (suc n) (suc j) k e l at m =
      made_at (i + 1) n j k e (omega arith) (omega arith) (subst (λ q. IsFromFnResultFrom g q ys (i + 1) n) (each i m.1 m.0 m.3).0 m.4)

-- a map of a list, place by place
pub made_map : {F A B : Type 0} (g : Mut F (ℕ × Unit {0}) B) (h : A → B) (f : F) (d : A) → (xs : List A) (ys : List B) (n : ℕ) → ActsAs g f (λ k. h (get_or xs k d)) → length xs ≡ n → IsFromFnResult g f ys n → ys ≡ map h xs
made_map g h f d xs ys n each long m =
    is_map h d (h d) xs ys (m.long ∙ sym long) (λ k inside. made_at g (λ j. h (get_or xs j d)) f each ys 0 n k k (h d) (omega arith) (omega arith) m.each)

-- a closure that each call leaves as it was may be called at each item, where it may be called at any
module _ {A F : Type 0} (R : F → A → F → Type 0) (Q : F → A → Type 0) (f : F) (same : (x : A) (q : F) → R f x q → q ≡ f) where
  callable_at : (ys xs t : List A) (q : F) (x : A) (u : List A) → ((k : ℕ) → k < length xs → Q f (get_or xs k x)) → Yields list_steps xs ys t → FoldsTo R f ys q → t ≡ x ∷ u → Q q x
  callable_at [] xs t q x u all yields folds next =
      let front : xs ≡ x ∷ u = yields ∙ next in
      subst (λ p. Q p x) folds (subst (λ zs. (k : ℕ) → k < length zs → Q f (get_or zs k x)) front all 0 (omega arith))
  callable_at (y ∷ ys) xs t q x u all yields folds next =
      let rest : (k : ℕ) → k < length (y ∷ yields.0) → Q f (get_or (y ∷ yields.0) k x) = subst (λ zs. (k : ℕ) → k < length zs → Q f (get_or zs k x)) yields.1 all in
      callable_at ys yields.0 t q x u (λ k l. rest (suc k) (omega arith)) yields.2 (subst (λ p. FoldsTo R p ys q) (same y folds.0 folds.1) folds.2) next

  pub callable : (xs : List A) → ((k : ℕ) (d : A) → k < length xs → Q f (get_or xs k d)) → CallableAtEachTurn list_steps R Q xs f
  callable xs all = record { at = λ ys t q x u yields folds next. callable_at ys xs t q x u (λ k. all k x) yields folds next }

-- and likewise at each place of an array that it makes
pub callable_places : {F : Type 0} (R : F → ℕ → F → Type 0) (Q : F → ℕ → Type 0) (f : F) → ((x : ℕ) (q : F) → R f x q → q ≡ f) → (n : ℕ) → ((k : ℕ) → k < n → Q f k) → CallableAtEachTurn (index_steps n) R Q 0 f
callable_places R Q f same n each =
    serves_by R (λ _ q. q ≡ f) (λ xs q x v kept r. same x v (subst (λ p. R p x v) kept r)) (index_steps n) Q 0 f refl
    (λ xs t q x u yields step kept. subst (λ p. Q p x) (sym kept) (each x (omega arith)))
