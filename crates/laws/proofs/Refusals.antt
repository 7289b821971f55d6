-- A chain of tests gives its refusals as the rows that the tests decide, in their order.
use mathlib.Core.Path.{◌≡◌, refl, sym}
use mathlib.Core.List.{List, [], ◌∷◌}
use mathlib.Core.Bool.{Bool, true, false, cond, ◌&&◌, not, true≢false}
use Prim.Native.Nat.{ℕ}
use lib.Dec.{eqb}
use borrow.Author.Tests.{eq-eqb}
use Rattle.laws.specs.Refusal.{Row, row, NoneHolds, GivenAfter, GivenInOrder}
use Rattle.laws.proofs.Bools.{and_first, and_second}
use Rattle.laws.proofs.Decides.{Decides}

-- A row of the table with the test that decides it.
pub record Check : Type 1 where
  pub of : Row
  pub test : Bool
  pub decides : Decides test of.when

abbrev pub check : {When : Type 0} (n : ℕ) (test : Bool) → Decides test When → Check
check {When} n test d = record { of = row n When; test = test; decides = d }

abbrev pub rows_of : List {1} Check → List {1} Row
rows_of [] = []
rows_of (c ∷ cs) = c.of ∷ rows_of cs

-- The number of the first test that passes; 0 where none does.
abbrev pub first_of : List {1} Check → ℕ
first_of [] = 0
first_of (c ∷ cs) = cond c.test c.of.number (first_of cs)

-- A number is not 0 and none of the rows has it; the rows' numbers are so, each of those after it.
abbrev pub fresh : ℕ → List {1} Check → Bool
fresh n [] = not (eqb n 0)
fresh n (c ∷ cs) = not (eqb n c.of.number) && fresh n cs

abbrev pub distinct : List {1} Check → Bool
distinct [] = true
distinct (c ∷ cs) = fresh c.of.number cs && distinct cs

differs : (n m : ℕ) → not (eqb n m) ≡ true → n ≡ m → ⊥
differs n m ne e = true≢false (sym (rw (eq-eqb n m e) at ne))

-- A fresh number is not the one given.
not_first : (n : ℕ) (cs : List {1} Check) → fresh n cs ≡ true → n ≡ first_of cs → ⊥
not_first n [] ok = differs n 0 ok
not_first n (c ∷ cs) ok = by_test c.test (not_first n cs (and_second (not (eqb n c.of.number)) _ ok))
  where
    by_test : (b : Bool) → (n ≡ first_of cs → ⊥) → n ≡ cond b c.of.number (first_of cs) → ⊥
    by_test true later = differs n c.of.number (and_first _ (fresh n cs) ok)
    by_test false later = later

-- Where a row before holds, no later row gives the number, and neither is it 0.
blocked :
    (before : List {1} Row) → (NoneHolds before → ⊥) → (n : ℕ) (cs : List {1} Check) → fresh n cs ≡ true →
    GivenAfter before (rows_of cs) n
blocked before held n [] ok = (λ e. absurd (differs n 0 ok e), λ none. absurd (held none))
blocked before held n (c ∷ cs) ok = (
  (λ e. absurd (differs n c.of.number (and_first _ (fresh n cs) ok) e), λ both. absurd (held both.0)),
  blocked (c.of ∷ before) (λ none. held none.1) n cs (and_second (not (eqb n c.of.number)) _ ok),
)

-- Where none before holds, the first test that passes gives its number.
open_to :
    (before : List {1} Row) → NoneHolds before → (cs : List {1} Check) → distinct cs ≡ true →
    GivenAfter before (rows_of cs) (first_of cs)
open_to before none [] ok = (λ e. none, λ n. refl)
open_to before none (c ∷ cs) ok =
    by_test c.test c.decides (λ no. open_to (c.of ∷ before) no cs (and_second (fresh c.of.number cs) _ ok))
  where
    by_test :
        (b : Bool) → Decides b c.of.when →
        (NoneHolds (c.of ∷ before) → GivenAfter (c.of ∷ before) (rows_of cs) (first_of cs)) →
        GivenAfter before (rows_of (c ∷ cs)) (cond b c.of.number (first_of cs))
    by_test true d later = (
      (λ e. (none, d.holds refl), λ both. refl),
      blocked (c.of ∷ before) (λ no. no.0 (d.holds refl)) c.of.number cs (and_first _ (distinct cs) ok),
    )
    by_test false d later = (
      (λ e. absurd (not_first c.of.number cs (and_first _ (distinct cs) ok) (sym e)), λ both. absurd (d.fails refl both.1)),
      later (d.fails refl, none),
    )

-- A chain of tests with different numbers gives them in the order of their rows.
pub in_order : (cs : List {1} Check) → distinct cs ≡ true → GivenInOrder (rows_of cs) (first_of cs)
in_order cs ok = open_to [] tt cs ok

-- No other number is given so.
first_after :
    (before : List {1} Row) → NoneHolds before → (cs : List {1} Check) (n : ℕ) → GivenAfter before (rows_of cs) n → n ≡ first_of cs
first_after before none [] n given = given.1 none
first_after before none (c ∷ cs) n given =
    by_test c.test c.decides (λ no. first_after (c.of ∷ before) no cs n given.1)
  where
    by_test :
        (b : Bool) → Decides b c.of.when → (NoneHolds (c.of ∷ before) → n ≡ first_of cs) →
        n ≡ cond b c.of.number (first_of cs)
    by_test true d later = given.0.1 (none, d.holds refl)
    by_test false d later = later (d.fails refl, none)

pub only_first : (cs : List {1} Check) (n : ℕ) → GivenInOrder (rows_of cs) n → n ≡ first_of cs
only_first cs n given = first_after [] tt cs n given
