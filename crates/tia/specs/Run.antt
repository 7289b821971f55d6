-- A run of lines: a list of line calls, each from the state that the call before handed back.
use Rattle.std.specs.Prelude.{ℕ, ◌^◌, ◌≡◌, Bool, true, false, cond, ◌&&◌, ◌||◌, not, List, [], ◌∷◌, eqb, ltb, leb, ℤ, pos, ◌+ℤ◌, length}
use Rattle.tia.specs.Answers.{LineAnswer}
use Rattle.tia.specs.declared.state.State.{State}
use Rattle.tia.specs.Write.{HMBL, HMCLR, HMOVE, HMP0}
use Rattle.tia.specs.Registers.{upper}
use Rattle.tia.specs.State.{is_byte, bad_state}
use Rattle.tia.specs.Signed.{signed}
use Rattle.tia.specs.WriteList.{TimedWrite, records_of}
use Rattle.tia.specs.Line.{Buffers, rooms_of}
use Rattle.tia.specs.Answers.{line_answer, line_buffers, LinePromise}
use Rattle.tia.specs.Movable.{Movable, strobe_of, motion_register_of, motion_of}

-- What a slice of bytes can be: bytes, fewer than 2 ^ 63.
abbrev pub all_bytes : List ℕ → Bool
all_bytes [] = true
all_bytes (v ∷ vs) = is_byte v && all_bytes vs

abbrev pub is_slice : List ℕ → Bool
is_slice vs = all_bytes vs && ltb (length vs) (2 ^ 63)

-- A line call's list, and the two buffers that are lent to it.
pub record Call : Type 0 where
  pub writes : List ℕ
  pub lent : Buffers
  pub writes_slice : is_slice writes ≡ true
  pub objects_slice : is_slice lent.objects ≡ true
  pub colours_slice : is_slice lent.colours ≡ true

-- What it returns: its answer, and the buffers.
pub record Returned : Type 0 where
  pub answer : LineAnswer
  pub after : Buffers

-- A function from states and calls, and that it meets the line call's promise. Nothing is asked of it for a bad state, which no run
-- comes to.
abbrev pub LineCall : Type 0
LineCall = State → Call → Returned

abbrev pub Meets : LineCall → Type 0
Meets line =
    (s : State) (c : Call) → bad_state s ≡ false →
    LinePromise s c.writes c.lent (line s c).answer (line s c).after

-- The line call as it is defined.
abbrev pub defined_line : LineCall
defined_line s c =
    record { answer = line_answer s c.writes (rooms_of c.lent); after = line_buffers s c.writes c.lent }

-- The state after a run: each call, refused or not, gets the state that the call before handed back.
abbrev pub state_after : LineCall → State → List Call → State
state_after line s [] = s
state_after line s (c ∷ cs) = state_after line (line s c).answer.state cs

-- Whether a call is accepted, and the records of the accepted lines, in their order.
abbrev pub is_accepted : LineCall → State → Call → Bool
is_accepted line s c = eqb (line s c).answer.number 0

unfoldable pub accepted_lists : LineCall → State → List Call → List (List TimedWrite)
accepted_lists line s [] = []
accepted_lists line s (c ∷ cs) =
    let later = accepted_lists line (line s c).answer.state cs in
    cond (is_accepted line s c) (records_of c.writes ∷ later) later

-- Signed motion value at an HMOVE: the object's half byte as last written, or cleared by HMCLR, before that clock in the run's
-- accepted lines, the HMOVE's own line among them; without such a write, the first state's. The half byte, and the sum of the
-- signed values so far, are reckoned record by record.
pub record Reckoning : Type 0 where
  pub half : ℕ
  pub sum : ℤ

unfoldable pub reckon : (motion_register : ℕ) → Reckoning → TimedWrite → Reckoning
reckon hm k r =
    record {
      half = cond (eqb r.address hm) (upper r.value) (cond (eqb r.address HMCLR) 0 k.half);
      sum = cond (eqb r.address HMOVE) (k.sum +ℤ signed k.half) k.sum;
    }

abbrev pub reckon_line : (motion_register : ℕ) → Reckoning → List TimedWrite → Reckoning
reckon_line hm k [] = k
reckon_line hm k (r ∷ rs) = reckon_line hm (reckon hm k r) rs

abbrev pub reckon_lines : (motion_register : ℕ) → Reckoning → List (List TimedWrite) → Reckoning
reckon_lines hm k [] = k
reckon_lines hm k (l ∷ ls) = reckon_lines hm (reckon_line hm k l) ls

-- The sum of an object's signed motion values, one for each HMOVE of an accepted line.
abbrev pub sum_of : Movable → State → List (List TimedWrite) → ℤ
sum_of o s ls = (reckon_lines (motion_register_of o) (record { half = motion_of o s; sum = pos 0 }) ls).sum

-- Whether a list has a record of some kind.
abbrev pub any_record : (TimedWrite → Bool) → List TimedWrite → Bool
any_record test [] = false
any_record test (r ∷ rs) = test r || any_record test rs

-- The clocks of a line's HMOVEs.
unfoldable pub hmove_clocks : List TimedWrite → List ℕ
hmove_clocks [] = []
hmove_clocks (r ∷ rs) =
    let later = hmove_clocks rs in
    cond (eqb r.address HMOVE) (r.clock ∷ later) later

-- A motion register or HMCLR, and such a register written after clock c, up to clock 75.
abbrev pub is_motion : (address : ℕ) → Bool
is_motion a = (leb HMP0 a && leb a HMBL) || eqb a HMCLR

abbrev pub disturbs : ℕ → TimedWrite → Bool
disturbs c r = is_motion r.address && (ltb c r.clock && leb r.clock 75)

-- A line has no HMOVE, or one at clocks 0 to 15 with no motion register or HMCLR written after it up to clock 75.
unfoldable pub moves_within : List ℕ → List TimedWrite → Bool
moves_within [] rs = true
moves_within (c ∷ []) rs = leb c 15 && not (any_record (disturbs c) rs)
moves_within (c ∷ d ∷ cs) rs = false

-- It does not use an object's position strobe.
abbrev pub strobe_unused : Movable → List TimedWrite → Bool
strobe_unused o rs = not (any_record (λ r. eqb r.address (strobe_of o)) rs)

-- Demand 3's premises for an object: these two of every accepted line.
unfoldable pub allowed : Movable → List (List TimedWrite) → Bool
allowed o [] = true
allowed o (l ∷ ls) = moves_within (hmove_clocks l) l && (strobe_unused o l && allowed o ls)
