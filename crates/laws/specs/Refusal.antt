-- The words "given exactly when" of the refusal table, and its order of checks.
use Rattle.std.specs.Prelude.{ℕ, ◌≡◌, List, [], ◌∷◌, ◌↔◌}

-- A row of the table: a refusal number, and when it is given.
pub record Row : Type 1 where
  pub number : ℕ
  pub when : Type 0

abbrev pub row : ℕ → Type 0 → Row
row n P = record { number = n; when = P }

-- None of these rows holds.
abbrev pub NoneHolds : List {1} Row → Type 0
NoneHolds [] = Unit {0}
NoneHolds (r ∷ rs) = (r.when → ⊥) × NoneHolds rs

-- The rows of a call in their order of checks: a row's number is given exactly when it holds and no row before it does, and
-- 0, no refusal, exactly when none holds.
abbrev pub GivenAfter : List {1} Row → List {1} Row → ℕ → Type 0
GivenAfter before [] given = (given ≡ 0) ↔ NoneHolds before
GivenAfter before (r ∷ rs) given = ((given ≡ r.number) ↔ (NoneHolds before × r.when)) × GivenAfter (r ∷ before) rs given

abbrev pub GivenInOrder : List {1} Row → ℕ → Type 0
GivenInOrder rows given = GivenAfter [] rows given
