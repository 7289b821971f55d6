-- The refusals of the public calls are given exactly when their rows of the table hold, in their order.
use mathlib.Core.Path.{◌≡◌, refl}
use mathlib.Core.List.{List, [], ◌∷◌}
use mathlib.Core.Bool.{not}
use Prim.Native.Nat.{ℕ}
use native.Mathlib.Omega.{arith}
use borrow.Author.Tests.{ne_eqb}
use lib.Dec.{eqb, ltb}
use Rattle.std.proofs.lemmas.Bool.Decides.{nat_tests}
use lib.ListN.{length}
use Rattle.laws.specs.Refusal.{GivenInOrder}
use Rattle.laws.proofs.Decides.{Decides, less, differs, either, passes, misses, length_decided}
use Rattle.laws.proofs.Refusals.{Check, check, first_of, in_order}
use Rattle.tia.specs.declared.state.State.{State}
use Rattle.tia.specs.declared.write.Write.{Write}
use Rattle.tia.specs.Write.{unknown}
use Rattle.tia.specs.State.{in_range, live_at_rest, bad_state}
use Rattle.laws.specs.Numbers.{bad_length, for_bad_state, for_line_clock, for_buffer_length, for_list_length}
use Rattle.laws.specs.Numbers.{for_clock_over, for_clock_order, for_unknown_register, for_no_such, for_colour_length}
use Rattle.tia.specs.WriteList.{records_of, first_fault, list_fault}
use Rattle.tia.specs.FirstLit.{first_lit_of, first_lit_answer}
use Rattle.tia.specs.Answers.{bad_state_row, unknown_register_row, clock_answer}
use Rattle.tia.specs.Line.{Buffers, Rooms, rooms_of}
use Rattle.tia.specs.Answers.{read_out_answer, line_fault, line_answer, line_buffers}
use Rattle.tia.specs.LineRows.{IndexGiven, line_rows, first_lit_rows}
use Rattle.tia.proofs.FirstBadLaws.{list_decided, fault_number, list_index}

-- The state check decides row 1.
pub bad_decided : (s : State) → Decides (bad_state s) (bad_state_row s).when
unfolding bad_state
bad_decided s = either (not (in_range s)) (live_at_rest s) (misses (in_range s)) (passes (live_at_rest s))

-- One colour clock refuses by row 1, then row 7, and nothing else.
pub clock_refused_exactly :
    (s : State) (w : Write) →
    GivenInOrder (bad_state_row s ∷ unknown_register_row w ∷ []) (clock_answer s w).number
unfolding clock_answer
clock_refused_exactly s w =
    let checks = check for_bad_state (bad_state s) (bad_decided s) ∷ check for_unknown_register (unknown w) (passes (unknown w)) ∷ [] in
    let number : (clock_answer s w).number ≡ first_of checks = grind (arith, nat_tests) in
    rw number (in_order checks refl)

-- The read-out refuses by row 1, and nothing else.
pub read_out_refused_exactly : (s : State) → GivenInOrder (bad_state_row s ∷ []) (read_out_answer s).number
unfolding read_out_answer
read_out_refused_exactly s =
    let checks = check for_bad_state (bad_state s) (bad_decided s) ∷ [] in
    let number : (read_out_answer s).number ≡ first_of checks = grind (arith, nat_tests) in
    rw number (in_order checks refl)

-- The tests of a line call, in their order.
abbrev pub line_checks : State → List ℕ → (room : Rooms) → List {1} Check
line_checks s ws room =
    let number = (first_fault 0 0 (records_of ws)).number in
    check for_bad_state (bad_state s) (bad_decided s)
    ∷ check for_line_clock (not (eqb s.timing.h 0)) (differs s.timing.h 0)
    ∷ check for_buffer_length (not (eqb room.objects 160)) (differs room.objects 160)
    ∷ check for_colour_length (not (eqb room.colours 160)) (differs room.colours 160)
    ∷ check for_list_length (bad_length (length ws)) (length_decided (length ws))
    ∷ check for_clock_over (eqb number for_clock_over) (list_decided (records_of ws) for_clock_over (λ e. omega (arith, e)))
    ∷ check for_clock_order (eqb number for_clock_order) (list_decided (records_of ws) for_clock_order (λ e. omega (arith, e)))
    ∷ check for_unknown_register (eqb number for_unknown_register) (list_decided (records_of ws) for_unknown_register (λ e. omega (arith, e)))
    ∷ []

pub line_number : (s : State) (ws : List ℕ) (room : Rooms) → (line_answer s ws room).number ≡ first_of (line_checks s ws room)
unfolding line_answer line_fault list_fault
line_number s ws room =
    let later = fault_number 0 0 (records_of ws) in
    grind (arith, nat_tests)

-- A line call refuses by rows 1 to 3, 11, 4 and 5 to 7, and nothing else.
pub line_refused_exactly : (s : State) (ws : List ℕ) (room : Rooms) → GivenInOrder (line_rows s ws room) (line_answer s ws room).number
line_refused_exactly s ws room = rw (line_number s ws room) (in_order (line_checks s ws room) refl)

-- The index is exactly that of the first bad record with the numbers 5, 6 and 7, and 0 with every other.
pub line_index_exactly :
    (s : State) (ws : List ℕ) (room : Rooms) → IndexGiven (records_of ws) (line_answer s ws room).number (line_answer s ws room).index
unfolding line_answer line_fault list_fault
line_index_exactly s ws room =
    let later = list_index (records_of ws) in
    grind (arith, nat_tests)

-- A refused line call hands back the given state and leaves both buffers.
pub refused_line_state :
    (s : State) (ws : List ℕ) (room : Rooms) → ((line_answer s ws room).number ≡ 0 → ⊥) → (line_answer s ws room).state ≡ s
unfolding line_answer
refused_line_state s ws room refused = rw (ne_eqb (line_fault s ws room).number 0 refused)

pub refused_line_buffers :
    (s : State) (ws : List ℕ) (lent : Buffers) → ((line_answer s ws (rooms_of lent)).number ≡ 0 → ⊥) → line_buffers s ws lent ≡ lent
unfolding line_answer line_buffers
refused_line_buffers s ws lent refused = rw (ne_eqb (line_fault s ws (rooms_of lent)).number 0 refused)

-- The first lit column refuses by row 3, then row 10, and nothing else.
pub first_lit_refused_exactly :
    (buffer : List ℕ) (object : ℕ) → GivenInOrder (first_lit_rows buffer object) (first_lit_answer buffer object).number
unfolding first_lit_of
first_lit_refused_exactly buffer object =
    let checks =
    check for_buffer_length (not (eqb (length buffer) 160)) (differs (length buffer) 160)
    ∷ check for_no_such (ltb 5 object) (less 5 object)
    ∷ [] in
    let number : (first_lit_answer buffer object).number ≡ first_of checks = grind (arith, nat_tests) in
    rw number (in_order checks refl)
