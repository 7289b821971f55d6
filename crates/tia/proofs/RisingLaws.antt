-- A list that passed its check: its clocks rise, and the write on a clock is found in what is left of the list.
use mathlib.Core.Path.{◌≡◌, ◌∙◌, refl}
use mathlib.Core.List.{List, [], ◌∷◌}
use mathlib.Core.Bool.{true}
use Prim.Native.Nat.{ℕ, suc, ◌+◌, ◌%◌, ◌≤◌}
use native.Mathlib.Omega.{arith}
use borrow.Author.Tests.{eq-eqb, ne_eqb}
use lib.ListN.{length}
use Rattle.std.proofs.lemmas.Bool.Decides.{nat_tests}
use Rattle.tia.specs.declared.write.Write.TheVariants.{Nothing, Register}
use Rattle.tia.specs.Write.{known}
use Rattle.tia.specs.WriteList.{TimedWrite, records_of, record_fault, first_fault, list_fault, write_at}

-- Clocks from the least on, strictly rising and below 228, and known registers.
abbrev pub Rising : ℕ → List TimedWrite → Type 0
Rising least [] = Unit {0}
Rising least (r ∷ rs) = (least ≤ r.clock) × ((r.clock ≤ 227) × ((known r.address ≡ true) × Rising (r.clock + 1) rs))

pub rising_from : (m n : ℕ) (rs : List TimedWrite) → m ≤ n → Rising n rs → Rising m rs
rising_from m n [] h rise = tt
rising_from m n (r ∷ rs) h rise = (omega (arith, rise.0), rise.1)

-- What a record without fault shows.
pub record Faultless (least clock address : ℕ) : Type 0 where
  pub above : least ≤ clock
  pub within : clock ≤ 227
  pub listed : known address ≡ true

pub faultless : (least clock address : ℕ) → record_fault least clock address ≡ 0 → Faultless least clock address
unfolding record_fault
faultless least clock address e =
    record { above = grind (arith, nat_tests); within = grind (arith, nat_tests); listed = grind (arith, nat_tests) }

-- A list without fault rises.
pub rising_by : (index least : ℕ) (rs : List TimedWrite) → (first_fault index least rs).number ≡ 0 → Rising least rs
unfolding first_fault
rising_by index least [] e = tt
rising_by index least (r ∷ rs) e =
    let here = faultless least r.clock r.address (grind (arith, nat_tests)) in
    (here.above, (here.within, (here.listed, rising_by (suc index) (r.clock + 1) rs (grind (arith, nat_tests)))))

-- What the check of a whole list shows.
pub record Sound (ws : List ℕ) : Type 0 where
  pub whole : length ws % 3 ≡ 0
  pub short : length ws ≤ 684
  pub rises : Rising 0 (records_of ws)

pub sound_by : (ws : List ℕ) → (list_fault ws).number ≡ 0 → Sound ws
unfolding list_fault
sound_by ws e =
    record {
      whole = grind (arith, nat_tests);
      short = grind (arith, nat_tests);
      rises = rising_by 0 0 (records_of ws) (grind (arith, nat_tests));
    }

-- Before the list's first clock nothing is written; on it, its record; after it, what the rest of the list has.
pub writes_later : (r : TimedWrite) (rs : List TimedWrite) (n : ℕ) → (r.clock ≡ n → ⊥) → write_at (r ∷ rs) n ≡ write_at rs n
unfolding write_at
writes_later r rs n ne = rw (ne_eqb r.clock n ne)

pub writes_here :
    (r : TimedWrite) (rs : List TimedWrite) (n : ℕ) → r.clock ≡ n → write_at (r ∷ rs) n ≡ Register r.address r.value
unfolding write_at
writes_here r rs n e = rw (eq-eqb r.clock n e)

pub writes_none : (n : ℕ) (rs : List TimedWrite) → Rising (n + 1) rs → write_at rs n ≡ Nothing
unfolding write_at
writes_none n [] rise = refl
writes_none n (r ∷ rs) rise =
    writes_later r rs n (λ e. omega (arith, e, rise.0))
    ∙ writes_none n rs (rising_from (n + 1) (r.clock + 1) rs (omega (arith, rise.0)) rise.1.1.1)
