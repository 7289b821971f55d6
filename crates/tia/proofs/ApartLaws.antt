-- Colours disturb nothing: a clock, a line and a run with other colours, and other writes to the colour registers.
use mathlib.Core.Path.{◌≡◌, ◌∙◌, refl, sym, ap}
use mathlib.Core.Bool.{Bool, true, false, cond, ◌||◌, not, true≢false}
use mathlib.Core.List.{List, [], ◌∷◌}
use Prim.Native.Nat.{ℕ, zero, suc}
use native.Mathlib.Omega.{arith}
use borrow.Author.Tests.{eqb-true}
use lib.Dec.{eqb}
use lib.ListN.{drop}
use Rattle.std.proofs.lemmas.Bool.Decides.{nat_tests}
use Rattle.tia.specs.declared.clock.Clocked.{Clocked}
use Rattle.tia.specs.declared.state.State.{State}
use Rattle.tia.specs.declared.write.Write.{Write}
use Rattle.tia.specs.declared.write.Write.TheVariants.{Nothing, Register}
use Rattle.tia.specs.Write.{known, unknown}
use Rattle.tia.specs.State.{colours_in_range, in_range, live_at_rest, bad_state}
use Rattle.tia.specs.Latches.{latches_written}
use Rattle.tia.specs.Clock.{clock_of}
use Rattle.tia.specs.WriteList.{records_of, write_at}
use Rattle.tia.specs.Line.{Clocks, clocks_from, line_of, Buffers}
use Rattle.laws.specs.Numbers.{for_bad_state, for_unknown_register}
use Rattle.tia.specs.Answers.{refused_clock, given_clock, clock_answer}
use Rattle.tia.specs.Run.{Call, LineCall, Meets, is_accepted}
use Rattle.tia.specs.Apart.{SameButColours, is_colour, outside, AgreeOutside, ClockApart, LineApart, RunApart, ColoursApart}
use Rattle.tia.proofs.Computing.{object_steps}
use Rattle.tia.proofs.AcceptLaws.{accepted, refused_state}
use Rattle.tia.proofs.RunLaws.{call_good}

-- States equal but for their colour registers: an equivalence.
same_back : {s t : State} → SameButColours s t → SameButColours t s
same_back e =
    record { timing = sym e.timing; objects = sym e.objects; registers = sym e.registers; latches = sym e.latches }

same_on : {s t u : State} → SameButColours s t → SameButColours t u → SameButColours s u
same_on e f =
    record {
      timing = e.timing ∙ f.timing;
      objects = e.objects ∙ f.objects;
      registers = e.registers ∙ f.registers;
      latches = e.latches ∙ f.latches;
    }

-- Two clocks with the same answer byte and such states.
record Alike (c d : Clocked) : Type 0 where
  byte : c.byte ≡ d.byte
  state : SameButColours c.state d.state

alike :
    (c d : Clocked) → c.byte ≡ d.byte → c.state.timing ≡ d.state.timing → c.state.objects ≡ d.state.objects →
    c.state.registers ≡ d.state.registers → c.state.latches ≡ d.state.latches → Alike c d
alike c d byte timing objects registers latches =
    record { byte = byte; state = record { timing = timing; objects = objects; registers = registers; latches = latches } }

alike_back : {c d : Clocked} → Alike c d → Alike d c
alike_back a = record { byte = sym a.byte; state = same_back a.state }

alike_on : {c d e : Clocked} → Alike c d → Alike d e → Alike c e
alike_on a b = record { byte = a.byte ∙ b.byte; state = same_on a.state b.state }

-- What holds of 06, 07, 08 and 09 holds of every colour register's address.
each_colour : (P : ℕ → Type 0) → P 6 → P 7 → P 8 → P 9 → (a : ℕ) → is_colour a ≡ true → P a
each_colour P six seven eight nine a = by_tests (eqb a 6) (eqb a 7) (eqb a 8) (eqb a 9) refl refl refl refl
  where
    by_tests :
        (b c d e : Bool) → eqb a 6 ≡ b → eqb a 7 ≡ c → eqb a 8 ≡ d → eqb a 9 ≡ e → (b || (c || (d || (e || false)))) ≡ true → P a
    by_tests true c d e at6 at7 at8 at9 ok = rw (eqb-true a 6 at6) six
    by_tests false true d e at6 at7 at8 at9 ok = rw (eqb-true a 7 at7) seven
    by_tests false false true e at6 at7 at8 at9 ok = rw (eqb-true a 8 at8) eight
    by_tests false false false true at6 at7 at8 at9 ok = rw (eqb-true a 9 at9) nine
    by_tests false false false false at6 at7 at8 at9 ok = absurd (true≢false (sym ok))

-- A write to a colour register is to all else as no write.
colour_write : (s : State) (a v : ℕ) → is_colour a ≡ true → Alike (clock_of s (Register a v)) (clock_of s Nothing)
unfolding object_steps latches_written
colour_write s a v =
    each_colour
    (λ a. Alike (clock_of s (Register a v)) (clock_of s Nothing))
    (alike (clock_of s (Register 6 v)) quiet refl refl refl refl refl)
    (alike (clock_of s (Register 7 v)) quiet refl refl refl refl refl)
    (alike (clock_of s (Register 8 v)) quiet refl refl refl refl refl)
    (alike (clock_of s (Register 9 v)) quiet refl refl refl refl refl)
    a
  where
    quiet : Clocked
    quiet = clock_of s Nothing

clock_outside : (s : State) (w : Write) → Alike (clock_of s w) (clock_of s (outside is_colour w))
clock_outside s Nothing = alike _ _ refl refl refl refl refl
clock_outside s (Register a v) = by_test (is_colour a) refl
  where
    by_test : (b : Bool) → is_colour a ≡ b → Alike (clock_of s (Register a v)) (clock_of s (cond b Nothing (Register a v)))
    by_test true e = colour_write s a v e
    by_test false e = alike _ _ refl refl refl refl refl

-- No part of a clock but the colours reads the colour registers.
clock_reads : (s t : State) (w : Write) → SameButColours s t → Alike (clock_of s w) (clock_of t w)
unfolding clock_of
clock_reads s t w e =
    alike
    (clock_of s w)
    (clock_of t w)
    (rw (e.timing, e.objects, e.registers))
    (rw e.timing)
    (rw (e.timing, e.objects, e.registers))
    (rw e.registers)
    (rw (e.timing, e.objects, e.registers, e.latches))

clock_alike :
    (s t : State) (w v : Write) → SameButColours s t → outside is_colour w ≡ outside is_colour v → Alike (clock_of s w) (clock_of t v)
clock_alike s t w v same agree =
    alike_on (clock_outside s w)
    (alike_on
    (rw agree (clock_reads s t (outside is_colour v) same))
    (alike_back (clock_outside t v)))

-- The checks read them alike too: every byte is a colour, and 06 to 09 are registers.
same_bad :
    (s t : State) → SameButColours s t → colours_in_range s.colours ≡ true → colours_in_range t.colours ≡ true → bad_state s ≡ bad_state t
unfolding bad_state in_range live_at_rest
same_bad s t e cs ct = rw (cs, ct, e.timing, e.objects, e.registers)

known_colour : (a : ℕ) → is_colour a ≡ true → not (known a) ≡ false
unfolding known
known_colour = each_colour (λ a. not (known a) ≡ false) refl refl refl refl

unknown_outside : (w : Write) → unknown w ≡ unknown (outside is_colour w)
unfolding unknown
unknown_outside Nothing = refl
unknown_outside (Register a v) =
    let colour = known_colour a in
    grind (arith, nat_tests)

pub clock_apart : ClockApart
unfolding clock_answer
clock_apart s t w v same cs ct agree =
    rw (same_bad s t same cs ct, unknown_outside w, agree, ← unknown_outside v) (by_tests (bad_state t) (unknown v))
  where
    both : Alike (clock_of s w) (clock_of t v)
    both = clock_alike s t w v same agree

    by_tests :
        (bad new : Bool) →
        let one = cond bad (refused_clock for_bad_state s) (cond new (refused_clock for_unknown_register s) (given_clock (clock_of s w))) in
        let other = cond bad (refused_clock for_bad_state t) (cond new (refused_clock for_unknown_register t) (given_clock (clock_of t v))) in
        (one.number ≡ other.number) × ((one.byte ≡ other.byte) × SameButColours one.state other.state)
    by_tests true new = (refl, (refl, same))
    by_tests false true = (refl, (refl, same))
    by_tests false false = (refl, (both.byte, both.state))

-- So many clocks, and a line.
record AlikeClocks (c d : Clocks) : Type 0 where
  bytes : c.bytes ≡ d.bytes
  state : SameButColours c.state d.state

clocks_alike :
    (f g : ℕ → Write) → ((i : ℕ) → outside is_colour (f i) ≡ outside is_colour (g i)) → (count n : ℕ) (s t : State) → SameButColours s t →
    AlikeClocks (clocks_from f n count s) (clocks_from g n count t)
unfolding clocks_from
clocks_alike f g agree zero n s t same = record { bytes = refl; state = same }
clocks_alike f g agree (suc count) n s t same =
    let one = clock_alike s t (f n) (g n) same (agree n) in
    let rest = clocks_alike f g agree count (suc n) _ _ one.state in
    record { bytes = rw (one.byte, rest.bytes); state = rest.state }

line_alike :
    (s t : State) (ws vs : List ℕ) → SameButColours s t → AgreeOutside is_colour (records_of ws) (records_of vs) →
    AlikeClocks (line_of s ws) (line_of t vs)
unfolding line_of
line_alike s t ws vs same agree = clocks_alike (write_at (records_of ws)) (write_at (records_of vs)) agree 228 0 s t same

module _ (line : LineCall) (meets : Meets line) where
  pub line_apart : LineApart line
  line_apart s t c d same good-s good-t agree zero-s zero-t =
      let one = accepted line meets s c good-s zero-s in
      let other = accepted line meets t d good-t zero-t in
      let both = line_alike s t c.writes d.writes same agree in (
        ap (λ (b : Buffers). b.objects) one.after ∙ ap (drop 68) both.bytes ∙ sym (ap (λ (b : Buffers). b.objects) other.after),
        rw (one.state, other.state) both.state,
      )

  -- A pair of calls, both accepted or both refused.
  pair_apart :
      (s t : State) (c d : Call) → SameButColours s t → bad_state s ≡ false → bad_state t ≡ false →
      AgreeOutside is_colour (records_of c.writes) (records_of d.writes) → is_accepted line s c ≡ is_accepted line t d →
      (is_accepted line s c ≡ true → (line s c).after.objects ≡ (line t d).after.objects)
      × SameButColours (line s c).answer.state (line t d).answer.state
  pair_apart s t c d same good-s good-t agree alike = by_test (is_accepted line s c) refl
    where
      by_test :
          (b : Bool) → is_accepted line s c ≡ b →
          (is_accepted line s c ≡ true → (line s c).after.objects ≡ (line t d).after.objects)
          × SameButColours (line s c).answer.state (line t d).answer.state
      by_test true e =
          let both =
          line_apart s t c d same good-s good-t agree (eqb-true (line s c).answer.number 0 e) (eqb-true (line t d).answer.number 0 (sym alike ∙ e)) in
          (λ yes. both.0, both.1)
      by_test false e = (
        λ yes. absurd (true≢false (sym yes ∙ e)),
        rw (refused_state line meets s c good-s e, refused_state line meets t d good-t (sym alike ∙ e)) same,
      )

  -- A run.
  pub run_apart : RunApart line
  run_apart s t [] same good-s good-t agree = tt
  run_apart s t (p ∷ ps) same good-s good-t agree =
      let one = pair_apart s t p.one p.other same good-s good-t agree.0 agree.1.0 in (
        one.0,
        (
          one.1,
          run_apart (line s p.one).answer.state (line t p.other).answer.state ps one.1 (call_good line meets s p.one good-s)
              (call_good line meets t p.other good-t) agree.1.1,
        ),
      )

-- Colours disturb nothing.
pub colours_apart : ColoursApart
colours_apart = (clock_apart, λ line meets. (line_apart line meets, run_apart line meets))
