-- Colours disturb nothing: two states that are equal but for their colour registers, and writes that agree outside these, give the
-- same object bytes and latches, and states equal but for the colour registers.
use Rattle.std.specs.Prelude.{ℕ, ◌≡◌, Bool, true, false, cond, List, [], ◌∷◌}
use Rattle.tia.specs.declared.state.State.{State}
use Rattle.tia.specs.declared.write.Write.{Write}
use Rattle.tia.specs.declared.write.Write.TheVariants.{Nothing, Register}
use Rattle.tia.specs.Write.{COLUP0, COLUP1, COLUPF, COLUBK, listed}
use Rattle.tia.specs.State.{colours_in_range, bad_state}
use Rattle.tia.specs.WriteList.{TimedWrite, records_of, write_at}
use Rattle.tia.specs.Answers.{clock_answer}
use Rattle.tia.specs.Run.{Call, LineCall, Meets, is_accepted}

-- Two states that are equal but for their colour registers.
pub record SameButColours (s t : State) : Type 0 where
  pub timing : s.timing ≡ t.timing
  pub objects : s.objects ≡ t.objects
  pub registers : s.registers ≡ t.registers
  pub latches : s.latches ≡ t.latches

-- The addresses 06 to 09.
abbrev pub is_colour : ℕ → Bool
is_colour a = listed (COLUP0 ∷ COLUP1 ∷ COLUPF ∷ COLUBK ∷ []) a

-- What is written outside some addresses: nothing, where the write goes to one of them.
abbrev pub outside : (ℕ → Bool) → Write → Write
outside among Nothing = Nothing
outside among (Register a v) = cond (among a) Nothing (Register a v)

-- Outside these addresses both lists write the same at the same clocks.
abbrev pub AgreeOutside : (ℕ → Bool) → List TimedWrite → List TimedWrite → Type 0
AgreeOutside among rs qs = (n : ℕ) → outside among (write_at rs n) ≡ outside among (write_at qs n)

-- One clock: refused alike, the same answer byte. A colour register holds a byte.
abbrev pub ClockApart : Type 0
ClockApart =
    (s t : State) (w v : Write) → SameButColours s t →
    colours_in_range s.colours ≡ true → colours_in_range t.colours ≡ true → outside is_colour w ≡ outside is_colour v →
    let one = clock_answer s w in
    let other = clock_answer t v in
    (one.number ≡ other.number) × ((one.byte ≡ other.byte) × SameButColours one.state other.state)

-- One line that is accepted in both.
abbrev pub LineApart : LineCall → Type 0
LineApart line =
    (s t : State) (c d : Call) → SameButColours s t → bad_state s ≡ false → bad_state t ≡ false →
    AgreeOutside is_colour (records_of c.writes) (records_of d.writes) →
    let one = line s c in
    let other = line t d in
    one.answer.number ≡ 0 → other.answer.number ≡ 0 →
    (one.after.objects ≡ other.after.objects) × SameButColours one.answer.state other.answer.state

-- Two runs, paired call by call.
pub record Pair : Type 0 where
  pub one : Call
  pub other : Call

-- The lists of each pair agree outside the colour registers, and both calls are accepted or both refused.
abbrev pub RunsAgree : LineCall → State → State → List Pair → Type 0
RunsAgree line s t [] = Unit {0}
RunsAgree line s t (p ∷ ps) =
    AgreeOutside is_colour (records_of p.one.writes) (records_of p.other.writes)
    × ((is_accepted line s p.one ≡ is_accepted line t p.other)
    × RunsAgree line (line s p.one).answer.state (line t p.other).answer.state ps)

-- Each accepted pair gives the same object bytes, and after each pair the states are equal but for the colour registers.
abbrev pub RunsSame : LineCall → State → State → List Pair → Type 0
RunsSame line s t [] = Unit {0}
RunsSame line s t (p ∷ ps) =
    let one = line s p.one in
    let other = line t p.other in
    (is_accepted line s p.one ≡ true → one.after.objects ≡ other.after.objects)
    × (SameButColours one.answer.state other.answer.state × RunsSame line one.answer.state other.answer.state ps)

abbrev pub RunApart : LineCall → Type 0
RunApart line =
    (s t : State) (pairs : List Pair) → SameButColours s t → bad_state s ≡ false → bad_state t ≡ false →
    RunsAgree line s t pairs → RunsSame line s t pairs

abbrev pub ColoursApart : Type 0
ColoursApart = ClockApart × ((line : LineCall) → Meets line → LineApart line × RunApart line)
