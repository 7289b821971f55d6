-- Tables: the values of a function at consecutive numbers.
use Rattle.std.specs.Prelude.{ℕ, zero, suc, List, [], ◌∷◌}

-- The values of f at n numbers from i on.
abbrev pub values_from : (ℕ → ℕ) → ℕ → ℕ → List ℕ
values_from f i zero = []
values_from f i (suc n) = f i ∷ values_from f (suc i) n

-- The table of f with n entries, that of 0 first.
abbrev pub table_of : (ℕ → ℕ) → ℕ → List ℕ
table_of f n = values_from f 0 n
