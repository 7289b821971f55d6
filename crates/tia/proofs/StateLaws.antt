-- The state check: how the code decides it, and what it shows of a good state.
use mathlib.Core.Path.{◌≡◌, refl}
use mathlib.Core.Bool.{true, false, ◌&&◌}
use Prim.Native.Nat.{◌≤◌}
use native.Mathlib.Omega.{arith}
use lib.Dec.{leb}
use Rattle.std.proofs.lemmas.Bool.Decides.{nat_tests}
use Rattle.laws.proofs.Bools.{and_first}
use Rattle.tia.specs.declared.colours.Colours.{Colours}
use Rattle.tia.specs.declared.registers.Registers.{Registers}
use Rattle.tia.specs.declared.state.State.{State}
use Rattle.tia.specs.declared.timing.Timing.{Timing}
use Rattle.tia.specs.State.{timing_in_range, nusiz_in_range, playfield_in_range, graphic_in_range, registers_in_range, colours_in_range}
use Rattle.tia.specs.State.{in_range, any_live, live_at_rest, bad_state, start_state}
use Rattle.tia.proofs.Computing.{check}

-- Where the bytes are bytes, the registers are in range by copies, width codes and PF0.
pub registers_by_bytes :
    (r : Registers) →
    r.playfield.ctrlpf ≤ 255 → r.playfield.pf1 ≤ 255 → r.playfield.pf2 ≤ 255 →
    r.graphic0.new ≤ 255 → r.graphic0.old ≤ 255 → r.graphic1.new ≤ 255 → r.graphic1.old ≤ 255 →
    registers_in_range r ≡ (nusiz_in_range r.nusiz0 && (nusiz_in_range r.nusiz1 && leb r.playfield.pf0 15))
unfolding registers_in_range playfield_in_range graphic_in_range
registers_by_bytes r c p1 p2 n0 o0 n1 o1 = grind (arith, nat_tests)

-- Colours that are bytes are in range.
pub colour_bytes :
    (c : Colours) → c.colup0 ≤ 255 → c.colup1 ≤ 255 → c.colupf ≤ 255 → c.colubk ≤ 255 → colours_in_range c ≡ true
unfolding colours_in_range
colour_bytes c p0 p1 pf bk = grind (arith, nat_tests)

-- A good state is in range, ..
pub good_in_range : (s : State) → bad_state s ≡ false → in_range s ≡ true
unfolding bad_state
good_in_range s good = grind (arith, nat_tests)

-- .. so its timing is, ..
pub good_in_time : (s : State) → bad_state s ≡ false → timing_in_range s.timing ≡ true
unfolding in_range
good_in_time s good = and_first (timing_in_range s.timing) _ (good_in_range s good)

-- .. with h at most 227 and the slot at most 16, ..
pub in_time : (t : Timing) → timing_in_range t ≡ true → (t.h ≤ 227) × (t.slot ≤ 16)
in_time t ok = (grind (arith, nat_tests), grind (arith, nat_tests))

pub good_timing : (s : State) → bad_state s ≡ false → (s.timing.h ≤ 227) × (s.timing.slot ≤ 16)
good_timing s good = in_time s.timing (good_in_time s good)

-- .. and with slot 16 it has no live flag.
pub good_rest : (s : State) → bad_state s ≡ false → s.timing.slot ≡ 16 → any_live s.objects ≡ false
unfolding bad_state live_at_rest
good_rest s good e = grind (arith, nat_tests)

-- A state with both is good.
pub good_by : (s : State) → in_range s ≡ true → (s.timing.slot ≡ 16 → any_live s.objects ≡ false) → bad_state s ≡ false
unfolding bad_state live_at_rest
good_by s in-range rest = grind (arith, nat_tests)

-- The start state is good, at a line start.
pub start_good : bad_state start_state ≡ false
unfolding check start_state
start_good = refl

pub start_clock : start_state.timing.h ≡ 0
unfolding start_state
start_clock = refl
