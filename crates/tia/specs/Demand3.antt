-- Demand 3: over any run of lines an object moves left by the sum of its signed motion values, and its picture with it.
use Rattle.std.specs.Prelude.{ℕ, ◌<◌, ◌≡◌, Bool, true, false, List, [], ℤ, pos, ◌+ℤ◌, length, get_or}
use Rattle.laws.specs.Bits.{bit}
use Rattle.tia.specs.declared.state.State.{State}
use Rattle.tia.specs.State.{bad_state}
use Rattle.tia.specs.Timing.{no_motion}
use Rattle.tia.specs.Signed.{mod160}
use Rattle.tia.specs.Object.{columns}
use Rattle.tia.specs.Movable.{Movable, number_of, position_of, drawing_of}
use Rattle.tia.specs.Run.{Call, LineCall, Meets, state_after, accepted_lists, sum_of, allowed}

-- Take any function that meets the line call's promise for good states and for lists and buffers that a slice can be, any of the
-- five objects, and any run: a list of line calls, refused ones included, or none. Let each accepted line have no HMOVE, or one at
-- clocks 0 to 15 with no motion register or HMCLR written after it up to clock 75, and let no accepted line use the object's
-- position strobe. The sum is that of the object's signed motion values, one for each HMOVE of an accepted line, read off the
-- records of the accepted lists.
--
-- The position: from any good state at a line start with no motion under way, the run turns the object left by the sum, modulo
-- 160. The picture: put two lines without writes before the run and two after, in one chain from any good state at a line
-- start. They are accepted; and if the object's drawing registers before the first of them are those before the third, then
-- column x of the last line has the object's bit exactly where column (x + sum) modulo 160 of the second line had it.

-- Turned left by a sum: a position rises, and column x shows what column x + sum showed, modulo 160.
abbrev pub turned : ℕ → ℤ → ℕ
turned x sum = mod160 (pos x +ℤ sum)

-- Picture: the object's bit in each of the 160 object bytes as the call returns.
abbrev pub bit_at : Movable → List ℕ → (column : ℕ) → Bool
bit_at o bytes x = bit (number_of o) (get_or bytes x 0)

-- A line without writes: an empty list and two buffers of 160 bytes.
abbrev pub Quiet : Call → Type 0
Quiet c = (c.writes ≡ []) × ((length c.lent.objects ≡ columns) × (length c.lent.colours ≡ columns))

-- A good state at a line start.
abbrev pub LineStart : State → Type 0
LineStart s = (bad_state s ≡ false) × (s.timing.h ≡ 0)

abbrev pub PositionClaim : LineCall → Movable → State → List Call → Type 0
PositionClaim line o s calls =
    let lists = accepted_lists line s calls in
    LineStart s → s.timing.slot ≡ no_motion → allowed o lists ≡ true →
    position_of o (state_after line s calls) ≡ turned (position_of o s) (sum_of o s lists)

-- The four lines without writes around a run.
pub record QuietLines : Type 0 where
  pub first : Call
  pub second : Call
  pub third : Call
  pub last : Call
  pub first_quiet : Quiet first
  pub second_quiet : Quiet second
  pub third_quiet : Quiet third
  pub last_quiet : Quiet last

abbrev pub PictureClaim : LineCall → Movable → State → QuietLines → List Call → Type 0
PictureClaim line o s quiet calls =
    let one = line s quiet.first in
    let two = line one.answer.state quiet.second in
    let lists = accepted_lists line two.answer.state calls in
    let before = state_after line two.answer.state calls in
    let three = line before quiet.third in
    let four = line three.answer.state quiet.last in
    LineStart s → allowed o lists ≡ true → drawing_of o s.registers ≡ drawing_of o before.registers →
    ((one.answer.number ≡ 0) × ((two.answer.number ≡ 0) × ((three.answer.number ≡ 0) × (four.answer.number ≡ 0))))
    × ((x : ℕ) → x < columns →
    bit_at o four.after.objects x ≡ bit_at o two.after.objects (turned x (sum_of o two.answer.state lists)))

abbrev pub Demand3 : Type 0
Demand3 =
    (line : LineCall) → Meets line → (o : Movable) (s : State) (calls : List Call) →
    PositionClaim line o s calls × ((quiet : QuietLines) → PictureClaim line o s quiet calls)
