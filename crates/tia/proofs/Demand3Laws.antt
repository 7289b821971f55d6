-- Demand 3 holds: the position after a run, and the picture of the lines without writes around it.
use mathlib.Core.Path.{◌≡◌, ◌∙◌, refl, sym, ap}
use mathlib.Core.List.{List, []}
use mathlib.Core.Bool.{false}
use Prim.Native.Nat.{ℕ, ◌+◌, ◌%◌, ◌<◌}
use native.Mathlib.Omega.{arith}
use lib.IntN.{ℤ, pos}
use lib.ListN.{get_or}
use Rattle.laws.specs.Bits.{bit}
use Rattle.tia.specs.declared.state.State.{State}
use Rattle.tia.specs.declared.write.Write.TheVariants.{Nothing}
use Rattle.tia.specs.State.{bad_state}
use Rattle.tia.specs.Signed.{mod160}
use Rattle.tia.specs.Clock.{clock_of}
use Rattle.tia.specs.WriteList.{records_of, write_at}
use Rattle.tia.specs.Line.{line_of, Buffers, pictures}
use Rattle.tia.specs.Movable.{Movable, DrawingRegisters, number_of, position_of, motion_of, motion_register_of, drawing_of}
use Rattle.tia.specs.Run.{Call, LineCall, Meets, state_after, accepted_lists, reckon_lines, sum_of}
use Rattle.tia.specs.Demand3.{turned, bit_at, Quiet, LineStart, PositionClaim, QuietLines, PictureClaim, Demand3}
use Rattle.tia.proofs.StateLaws.{good_timing}
use Rattle.tia.proofs.LineLaws.{line_state, line_byte}
use Rattle.tia.proofs.AcceptLaws.{Accepted, quiet_accepted}
use Rattle.tia.proofs.TurnLaws.{once_around, mod_below, turned_by}
use Rattle.tia.proofs.MoveLaws.{unmoved_line}
use Rattle.tia.proofs.DrawLaws.{Settled, drawn_at}
use Rattle.tia.proofs.QuietLaws.{quiet_at, QuietEnd, quiet_settles, quiet_keeps, quiet_shows}
use Rattle.tia.proofs.RunLaws.{AtRest, InRun, slice_bytes, line_good, position_below, idle_start, run_runs, run_starts}

-- The position after a run.
pub position_claim : (line : LineCall) → Meets line → (o : Movable) (s : State) (calls : List Call) → PositionClaim line o s calls
position_claim line meets o s calls at_start_lem slot ok =
    (run_runs line meets o (position_of o s) calls s _ (run_starts o s (record { good = at_start_lem.0; start = at_start_lem.1; rest = slot })) ok).at

-- A line without writes from a good state at a line start: it is accepted, ends every motion, settles the object, and keeps the
-- registers.
record QuietLine (line : LineCall) (o : Movable) (s : State) (c : Call) : Type 0 where
  number : (line s c).answer.number ≡ 0
  at_rest : AtRest (line s c).answer.state
  settled : Settled o (line s c).answer.state
  registers : (line s c).answer.state.registers ≡ s.registers
  next : (line s c).answer.state ≡ quiet_at s 228
  bytes : (x : ℕ) → x < 160 → get_or (line s c).after.objects x 0 ≡ (clock_of (quiet_at s (68 + x)) Nothing).byte

quiet_line : (line : LineCall) → Meets line → (o : Movable) (s : State) (c : Call) → Quiet c → LineStart s → QuietLine line o s c
unfolding records_of write_at
quiet_line line meets o s c quiet at_start_lem =
    record {
      number = a.number;
      at_rest = rw next (record { good = rw next at good; start = end.start; rest = end.rest });
      settled = rw next end.settled;
      registers = ap (λ (s : State). s.registers) next ∙ quiet_keeps s 228;
      next = next;
      bytes = λ x h.
          ap (λ (b : Buffers). get_or b.objects x 0) (a.after ∙ ap (λ (ws : List ℕ). pictures (line_of s ws)) quiet.0) ∙ line_byte s [] x h;
    }
  where
    a : Accepted line s c
    a = quiet_accepted line meets s c quiet.0 quiet.1.0 quiet.1.1 at_start_lem.0 at_start_lem.1

    next : (line s c).answer.state ≡ quiet_at s 228
    next = a.state ∙ ap (λ (ws : List ℕ). (line_of s ws).state) quiet.0 ∙ line_state s []

    good : bad_state (line s c).answer.state ≡ false
    good = rw a.state (line_good c.writes s (slice_bytes c.writes c.writes_slice) at_start_lem.0)

    end : QuietEnd o (quiet_at s 228)
    end = quiet_settles o s at_start_lem.1 (omega (arith, (good_timing s at_start_lem.0).1)) (position_below o s at_start_lem.0)

-- At rest it keeps the position, ..
quiet_stays :
    (line : LineCall) (o : Movable) (s : State) (c : Call) → AtRest s → QuietLine line o s c →
    position_of o (line s c).answer.state ≡ position_of o s
quiet_stays line o s c rest quiet =
    ap (position_of o) quiet.next
    ∙ (unmoved_line o (λ i. Nothing) s (position_of o s) s.timing.late (λ i. refl) (λ i. refl) (idle_start o s rest)).at
    ∙ once_around (position_below o s rest.good)

-- .. and shows a settled object in each column as it is drawn there.
quiet_picture :
    (line : LineCall) (o : Movable) (s : State) (c : Call) → AtRest s → Settled o s → QuietLine line o s c → (x : ℕ) → x < 160 →
    bit_at o (line s c).after.objects x ≡ drawn_at (drawing_of o s.registers) ((position_of o s + x + 1) % 160)
quiet_picture line o s c rest settled quiet x h =
    ap (bit (number_of o)) (quiet.bytes x h)
    ∙ quiet_shows o s x h (position_below o s rest.good) settled (idle_start o s rest)

-- Both lines show the object as drawn at the same position.
same_place : (p q x : ℕ) (sum : ℤ) → q ≡ turned p sum → (q + x + 1) % 160 ≡ (p + turned x sum + 1) % 160
same_place p q x sum e = e_turned (mod160 sum) (e ∙ turned_by p sum) (turned_by x sum)
  where
    e_turned : (n : ℕ) → q ≡ (p + n) % 160 → turned x sum ≡ (x + n) % 160 → (q + x + 1) % 160 ≡ (p + turned x sum + 1) % 160
    e_turned n f g = rw (f, g) (omega arith)

-- The picture of the lines without writes around a run.
pub picture_claim :
    (line : LineCall) → Meets line → (o : Movable) (s : State) (quiet : QuietLines) (calls : List Call) →
    PictureClaim line o s quiet calls
picture_claim line meets o s quiet calls at_start_lem ok drawn =
    ((one.number, (two.number, (three.number, four.number))), column)
  where
    one : QuietLine line o s quiet.first
    one = quiet_line line meets o s quiet.first quiet.first_quiet at_start_lem

    s1 : State
    s1 = (line s quiet.first).answer.state

    two : QuietLine line o s1 quiet.second
    two = quiet_line line meets o s1 quiet.second quiet.second_quiet (one.at_rest.good, one.at_rest.start)

    s2 : State
    s2 = (line s1 quiet.second).answer.state

    sum : ℤ
    sum = sum_of o s2 (accepted_lists line s2 calls)

    s3 : State
    s3 = state_after line s2 calls

    run : InRun o (position_of o s2) s3 (reckon_lines (motion_register_of o) (record { half = motion_of o s2; sum = pos 0 }) (accepted_lists line s2 calls))
    run = run_runs line meets o (position_of o s2) calls s2 (record { half = motion_of o s2; sum = pos 0 }) (run_starts o s2 two.at_rest) ok

    three : QuietLine line o s3 quiet.third
    three = quiet_line line meets o s3 quiet.third quiet.third_quiet (run.at_rest.good, run.at_rest.start)

    s4 : State
    s4 = (line s3 quiet.third).answer.state

    four : QuietLine line o s4 quiet.last
    four = quiet_line line meets o s4 quiet.last quiet.last_quiet (three.at_rest.good, three.at_rest.start)

    drawing : drawing_of o s4.registers ≡ drawing_of o s1.registers
    drawing =
        ap (drawing_of o) three.registers ∙ sym drawn ∙ ap (drawing_of o) (sym one.registers)

    place : position_of o s4 ≡ turned (position_of o s1) sum
    place =
        quiet_stays line o s3 quiet.third run.at_rest three ∙ run.at
        ∙ ap (λ (p : ℕ). turned p sum) (quiet_stays line o s1 quiet.second one.at_rest two)

    column : (x : ℕ) → x < 160 → bit_at o (line s4 quiet.last).after.objects x ≡ bit_at o (line s1 quiet.second).after.objects (turned x sum)
    column x h =
        quiet_picture line o s4 quiet.last three.at_rest three.settled four x h
        ∙ ap (λ (d : DrawingRegisters). drawn_at d ((position_of o s4 + x + 1) % 160)) drawing
        ∙ ap (drawn_at (drawing_of o s1.registers)) (same_place (position_of o s1) (position_of o s4) x sum place)
        ∙ sym (quiet_picture line o s1 quiet.second one.at_rest one.settled two (turned x sum) (mod_below _))

-- Demand 3.
pub demand_3 : Demand3
demand_3 line meets o s calls = (position_claim line meets o s calls, λ quiet. picture_claim line meets o s quiet calls)
