-- The first word of a text: it begins at the first byte that is no blank, and ends before the next blank.
use Rattle.std.proofs.Common.{◌≡◌, ℕ, ◌<◌, ◌≤◌, true, false, not, None, Some, List, [], ◌∷◌, ◌++◌, length, take, drop, position, sym, refl, ap, ⊎_elim, arith}
use Rattle.std.specs.List.{before_first, position_or_len}
use Rattle.std.proofs.Math.Numerals.{one-add}
use Rattle.std.proofs.lemmas.Bool.{cases_Bool}
use Rattle.std.proofs.lemmas.Bool.Decides.{nat_tests}
use Rattle.std.proofs.lemmas.List.{append-nil, append_assoc}
use Rattle.std.proofs.lemmas.List.Folds.{length-prefix_len}
use Rattle.language.specs.Text.{blank, split, words}

-- where the first word begins, or the length where there is none
abbrev start_of : List ℕ → ℕ
start_of bs = position_or_len (λ b. not (blank b)) bs

-- a word that has begun goes on to the next blank
word_ends : (w bs : List ℕ) → 0 < length w → split w bs ≡ (w ++ before_first blank bs) ∷ words (drop (position_or_len blank bs) bs)
word_ends [] bs h = absurd (omega arith)
word_ends (x ∷ w) [] h = ap (λ v. (x ∷ v) ∷ []) (sym (append-nil w))
word_ends (x ∷ w) (b ∷ bs) h = ⊎_elim
    (λ (e : blank b ≡ true). simp e (ap (λ v. (x ∷ v) ∷ words bs) (sym (append-nil w))))
    (λ (e : blank b ≡ false). simp (e, one-add, word_ends (x ∷ (w ++ (b ∷ []))) bs (omega arith), append_assoc))
    (cases_Bool (blank b))

-- the first word of bs is what rest begins with, up to the next blank
abbrev FirstWord : List ℕ → List ℕ → Type 0
FirstWord bs rest = (words bs ≡ before_first blank rest ∷ words (drop (position_or_len blank rest) rest)) × (0 < position_or_len blank rest)

none_left : (bs : List ℕ) → length bs ≤ start_of bs → words bs ≡ []
none_left [] h = refl
none_left (b ∷ bs) h = ⊎_elim
    (λ (e : blank b ≡ true). let n = simp e at h in simp e (none_left bs (omega arith)))
    (λ (e : blank b ≡ false). let n = simp e at h in absurd (omega arith))
    (cases_Bool (blank b))

one_found : (bs : List ℕ) → start_of bs < length bs → FirstWord bs (drop (start_of bs) bs)
one_found [] h = absurd (omega arith)
one_found (b ∷ bs) h = ⊎_elim
    (λ (e : blank b ≡ true). let n = simp e at h in simp (e, one-add) (one_found bs (omega arith)))
    (λ (e : blank b ≡ false). simp (e, one-add) (word_ends (b ∷ []) bs (omega arith), omega arith))
    (cases_Bool (blank b))

pub no_word : (bs : List ℕ) → position (λ b. not (blank b)) bs ≡ None → words bs ≡ []
no_word bs e = none_left bs (grind (arith, nat_tests))

pub first_word : (bs : List ℕ) (start : ℕ) → position (λ b. not (blank b)) bs ≡ Some start
    → let rest = drop start bs in let n = length (before_first blank rest) in (words bs ≡ take n rest ∷ words (drop n rest)) × (0 < n)
first_word bs start e =
    let is : start_of bs ≡ start = grind (arith, nat_tests) in
    let first = rw is at (one_found bs (grind (arith, nat_tests))) in
    simp length-prefix_len first
