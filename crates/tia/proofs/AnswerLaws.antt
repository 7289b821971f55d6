-- The answers by cases: what the code returns in each branch.
use mathlib.Core.Path.{◌≡◌}
use mathlib.Core.Bool.{false}
use mathlib.Core.List.{List}
use Prim.Native.Nat.{ℕ}
use native.Mathlib.Omega.{arith}
use Rattle.std.proofs.lemmas.Bool.Decides.{nat_tests}
use Rattle.tia.specs.declared.state.State.{State}
use Rattle.tia.specs.declared.write.Write.{Write}
use Rattle.tia.specs.Write.{unknown}
use Rattle.tia.specs.State.{bad_state}
use Rattle.tia.specs.Clock.{clock_of}
use Rattle.tia.specs.WriteList.{list_fault}
use Rattle.tia.specs.Line.{Rooms}
use Rattle.tia.specs.Answers.{given_clock, clock_answer, line_fault}

-- A clock from a good state with a known register is given.
pub clock_given : (s : State) (w : Write) → bad_state s ≡ false → unknown w ≡ false → clock_answer s w ≡ given_clock (clock_of s w)
unfolding clock_answer
clock_given s w good k = rw (good, k)

-- What a line call without fault shows.
pub record NoFault (s : State) (ws : List ℕ) (room : Rooms) : Type 0 where
  pub good : bad_state s ≡ false
  pub clock : s.timing.h ≡ 0
  pub full : room.objects ≡ 160
  pub colours : room.colours ≡ 160
  pub list : (list_fault ws).number ≡ 0

pub no_fault : (s : State) (ws : List ℕ) (room : Rooms) → (line_fault s ws room).number ≡ 0 → NoFault s ws room
unfolding line_fault
no_fault s ws room e =
    record {
      good = grind (arith, nat_tests);
      clock = grind (arith, nat_tests);
      full = grind (arith, nat_tests);
      colours = grind (arith, nat_tests);
      list = grind (arith, nat_tests);
    }
