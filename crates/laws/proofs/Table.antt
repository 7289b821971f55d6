-- A rule of a table, or of all numbers below a bound: one computed test over the whole, and the law that gives it at each place.
use mathlib.Core.Path.{◌≡◌, ◌∙◌, refl, sym, subst}
use mathlib.Core.Bool.{Bool, beq, true, false, ◌&&◌}
use mathlib.Core.List.{List, [], ◌∷◌}
use Prim.Native.Nat.{ℕ, zero, suc, ◌+◌, ◌<◌}
use native.Mathlib.Nat.{add-zero, zero-add, add-suc, suc-add, le_of_suc-le-suc, not-suc-le-zero}
use lib.Dec.{T, eqb, ltb, eqb→eq, ltb→lt}
use lib.ListN.{length, get_or, replicate, length-replicate}

-- The two halves of a conjunction.
and_left : (a b : Bool) → T (a && b) → T a
and_left true b t = tt
and_left false b t = t

and_right : (a b : Bool) → T (a && b) → T b
and_right true b t = t
and_right false b t = absurd t

-- The test passes at each entry of the table and its place, counted from i.
abbrev pub every : (ℕ → ℕ → Bool) → ℕ → List ℕ → Bool
every test i [] = true
every test i (x ∷ xs) = test i x && every test (suc i) xs

from :
    (test : ℕ → ℕ → Bool) (xs : List ℕ) (i : ℕ) → T (every test i xs) → (k : ℕ) → k < length xs →
    T (test (i + k) (get_or xs k 0))
from test [] i t k h = absurd (not-suc-le-zero h)
from test (x ∷ xs) i t zero h = rw add-zero (and_left (test i x) (every test (suc i) xs) t)
from test (x ∷ xs) i t (suc k) h =
    subst (λ (m : ℕ). T (test m (get_or xs k 0))) (suc-add i k ∙ sym (add-suc i k))
    (from test xs (suc i) (and_right (test i x) (every test (suc i) xs) t) k (le_of_suc-le-suc h))

-- The law of a table: a test that passes over the whole passes at each place.
pub at : (test : ℕ → ℕ → Bool) (xs : List ℕ) → T (every test 0 xs) → (k : ℕ) → k < length xs → T (test k (get_or xs k 0))
at test xs t k h = rw zero-add at (from test xs 0 t k h)

-- The same law for the numbers below a bound.
abbrev pub every_below : ℕ → (ℕ → Bool) → Bool
every_below n test = every (λ k x. test k) 0 (replicate n 0)

pub below : (n : ℕ) (test : ℕ → Bool) → T (every_below n test) → (k : ℕ) → k < n → T (test k)
below n test t k h = at (λ k x. test k) (replicate n 0) t k (rw length-replicate h)

-- Two functions compared by the computed test at each number below n.
pub below_equal : (n : ℕ) (f g : ℕ → ℕ) → T (every_below n (λ k. eqb (f k) (g k))) → (k : ℕ) → k < n → f k ≡ g k
below_equal n f g t k h = eqb→eq (f k) (g k) (below n (λ k. eqb (f k) (g k)) t k h)

pub below_less : (n : ℕ) (f g : ℕ → ℕ) → T (every_below n (λ k. ltb (f k) (g k))) → (k : ℕ) → k < n → f k < g k
below_less n f g t k h = ltb→lt (f k) (g k) (below n (λ k. ltb (f k) (g k)) t k h)

pub same : (a b : Bool) → T (beq a b) → a ≡ b
same true true t = refl
same true false t = absurd t
same false true t = absurd t
same false false t = refl

pub below_same : (n : ℕ) (f g : ℕ → Bool) → T (every_below n (λ k. beq (f k) (g k))) → (k : ℕ) → k < n → f k ≡ g k
below_same n f g t k h = same (f k) (g k) (below n (λ k. beq (f k) (g k)) t k h)
