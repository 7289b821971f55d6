-- Refusal 10 is given exactly when its row of the table holds.
use mathlib.Core.Path.{◌≡◌, refl}
use mathlib.Core.Logic.{◌⊎◌}
use mathlib.Core.List.{[], ◌∷◌}
use mathlib.Core.Bool.{Bool, true, false, cond}
use Prim.Native.Nat.{ℕ, ◌<◌}
use lib.Dec.{ltb, eqb}
use Rattle.laws.specs.Refusal.{row, GivenInOrder}
use Rattle.laws.proofs.Decides.{Decides, less, equal, either}
use Rattle.laws.proofs.Refusals.{check, in_order}
use Rattle.laws.specs.Numbers.{for_no_such}
use Rattle.counter.specs.Kind.{Kind}
use Rattle.counter.specs.Answers.{given, refused, no_such_count, no_such_value, no_such_conversion, step_answer, value_answer, count_answer}

-- The number of an answer that one test decides.
number_is : (test : Bool) (v : ℕ) → (cond test (refused for_no_such) (given v)).number ≡ cond test for_no_such 0
number_is true v = refl
number_is false v = refl

-- Refusal 10 alone, decided by one test.
one_row : {When : Type 0} (test : Bool) → Decides test When → GivenInOrder (row for_no_such When ∷ []) (cond test for_no_such 0)
one_row test d = in_order (check for_no_such test d ∷ []) refl

-- The step refuses a value over 63.
pub step_refused_exactly : (k : Kind) (v : ℕ) → GivenInOrder (row for_no_such (63 < v) ∷ []) (step_answer k v).number
unfolding step_answer
step_refused_exactly k v = rw number_is (one_row (no_such_value v) (less 63 v))

-- The value of a count is refused for a count over 62.
pub value_refused_exactly : (n : ℕ) → GivenInOrder (row for_no_such (62 < n) ∷ []) (value_answer n).number
unfolding value_answer
value_refused_exactly n = rw number_is (one_row (no_such_count n) (less 62 n))

-- The count of a value is refused for a value over 63 and for 111111.
pub count_refused_exactly : (v : ℕ) → GivenInOrder (row for_no_such ((63 < v) ⊎ (v ≡ 0b111111)) ∷ []) (count_answer v).number
unfolding count_answer
count_refused_exactly v =
    rw number_is (one_row (no_such_conversion v) (either (ltb 63 v) (eqb v 63) (less 63 v) (equal v 63)))
