-- Sums over the entries of a table.
use Rattle.std.specs.Prelude.{ℕ, ◌+◌, List, [], ◌∷◌}

abbrev pub total : List ℕ → ℕ
total [] = 0
total (x ∷ xs) = x + total xs
