-- A line under way, clock by clock: its state, what is left of its list, and the columns of both buffers filled so far.
use mathlib.Core.Path.{◌≡◌, ◌∙◌, refl, sym, ap}
use mathlib.Core.Bool.{true}
use mathlib.Core.List.{List}
use mathlib.Core.Logic.{⊎_elim}
use Prim.Native.Nat.{ℕ, suc, ◌+◌, ◌-◌, ◌≤◌, ◌<◌}
use native.Mathlib.Numerals.{add-one}
use native.Mathlib.Omega.{arith}
use borrow.Author.Tests.{le-ltb}
use lib.ListN.{length, get_or, take, length-set}
use lib.Seq.{take_all, take-suc, take-suc-set}
use Rattle.std.proofs.lemmas.Bool.Decides.{nat_tests}
use Rattle.laws.proofs.Split.{split}
use Rattle.tia.specs.declared.clock.Clocked.{Clocked}
use Rattle.tia.specs.declared.state.State.{State}
use Rattle.tia.specs.declared.write.Write.{Write}
use Rattle.tia.specs.State.{timing_in_range}
use Rattle.tia.specs.Clock.{clock_of}
use Rattle.tia.specs.WriteList.{records_of}
use Rattle.tia.specs.Line.{line_of, picture, colour_picture, Buffers, buffers, rooms_of, pictures}
use Rattle.tia.specs.Cursor.{due_at, left_by, stored}
use Rattle.tia.specs.Answers.{line_fault}
use Rattle.tia.proofs.StateLaws.{good_in_time}
use Rattle.tia.proofs.RangeLaws.{timing_stays}
use Rattle.tia.proofs.AnswerLaws.{no_fault}
use Rattle.tia.proofs.LineLaws.{state_at, byte_out, colour_out, output_at, writes_of, columns_of, column_output, columns_length}
use Rattle.tia.proofs.LineLaws.{line_state, picture_columns, colour_columns}
use Rattle.tia.proofs.RisingLaws.{sound_by}
use Rattle.tia.proofs.CursorLaws.{Follows, follows_start, cursor_is_lookup}

-- Every clock keeps the timing in range, whatever is written.
clock_in_time : (s : State) (w : Write) → timing_in_range s.timing ≡ true → timing_in_range (clock_of s w).state.timing ≡ true
unfolding clock_of
clock_in_time s w ok = timing_stays w s.timing ok

-- A stored byte: the buffer keeps its length, and one more column is that of the picture.
stored_length : (n byte : ℕ) (buffer : List ℕ) → length (stored n byte buffer) ≡ length buffer
unfolding stored
stored_length n byte buffer = let kept = length-set buffer (n - 68) byte in grind (arith, nat_tests)

module _ (n byte : ℕ) (buffer columns : List ℕ) where
  before_columns : n < 68 → take (n + 1 - 68) (stored n byte buffer) ≡ take (n + 1 - 68) columns
  before_columns h =
      let none : n + 1 - 68 ≡ 0 = omega arith in
      rw none

  in_column :
      take (n - 68) buffer ≡ take (n - 68) columns →
      68 ≤ n → n - 68 < length buffer → n - 68 < length columns → byte ≡ get_or columns (n - 68) 0 →
      take (n + 1 - 68) (stored n byte buffer) ≡ take (n + 1 - 68) columns
  unfolding stored
  in_column done h room within e =
      let next : n + 1 - 68 ≡ suc (n - 68) = omega arith in
      rw (le-ltb n 68 h, next, take-suc-set buffer (n - 68) byte room, take-suc columns (n - 68) 0 within, done, e)

-- The columns of a buffer that are filled before clock h: those of one output of the line's clocks.
abbrev Filled : (Clocked → ℕ) → State → (writes buffer : List ℕ) → ℕ → Type 0
Filled out s ws buffer h = take (h - 68) buffer ≡ take (h - 68) (columns_of out s ws)

-- Each clock stores its output in its column.
column :
    (out : Clocked → ℕ) (s : State) (ws buffer : List ℕ) (h byte : ℕ) → length buffer ≡ 160 → Filled out s ws buffer h → h < 228 →
    byte ≡ output_at out (writes_of ws) s h → Filled out s ws (stored h byte buffer) (h + 1)
column out s ws buffer h byte room filled below e =
    ⊎_elim
    (λ (blank : h < 68). before_columns _ _ _ _ blank)
    (λ (shown : 68 ≤ h).
    let same : 68 + (h - 68) ≡ h = omega arith in
    in_column _ _ _ _ filled shown
    (omega arith)
    (omega (arith, columns_length out s ws))
    (e ∙ sym (column_output out s ws (h - 68) (omega arith) ∙ ap (output_at out (writes_of ws) s) same)))
    (split h 68)

-- At the end all of them are filled.
all_filled :
    (out : Clocked → ℕ) (s : State) (ws buffer : List ℕ) → length buffer ≡ 160 → Filled out s ws buffer 228 → buffer ≡ columns_of out s ws
all_filled out s ws buffer room filled =
    sym (take_all 160 buffer (omega arith)) ∙ filled ∙ take_all 160 (columns_of out s ws) (omega (arith, columns_length out s ws))

-- A line before clock h: the state, what is left of the list and stands for the lookup, and the columns of both buffers up to h filled.
pub record Running (s₀ : State) (ws : List ℕ) (s : State) (lent : Buffers) (rest : List ℕ) (h : ℕ) : Type 0 where
  pub within : h ≤ 228
  pub reached : s ≡ state_at (writes_of ws) s₀ h
  pub in_time : timing_in_range s.timing ≡ true
  pub follows : Follows ws h rest
  pub room : length lent.objects ≡ 160
  pub colour_room : length lent.colours ≡ 160
  pub filled : Filled byte_out s₀ ws lent.objects h
  pub coloured : Filled colour_out s₀ ws lent.colours h

pub line_starts :
    {s : State} {ws : List ℕ} {lent : Buffers} → (line_fault s ws (rooms_of lent)).number ≡ 0 → Running s ws s lent ws 0
unfolding state_at
line_starts {s} {ws} {lent} none =
    let call = no_fault s ws (rooms_of lent) none in
    let list = sound_by ws call.list in
    record {
      within = omega arith;
      reached = refl;
      in_time = good_in_time s call.good;
      follows = follows_start ws list.rises;
      room = call.full;
      colour_room = call.colours;
      filled = refl;
      coloured = refl;
    }

module _ {s₀ : State} {ws : List ℕ} {s : State} {lent : Buffers} {rest : List ℕ} {h : ℕ} (now : Running s₀ ws s lent rest h) where
  pub line_goes_on :
      {w : Write} {k : Clocked} {objects colours later : List ℕ} →
      h < 228 → w ≡ due_at (records_of rest) h → k ≡ clock_of s w →
      objects ≡ stored h k.byte lent.objects → colours ≡ stored h k.colour lent.colours → later ≡ left_by w rest →
      Running s₀ ws k.state (buffers objects colours) later (h + 1)
  unfolding state_at
  line_goes_on {w} {k} below due clocked put painted past =
      let found = cursor_is_lookup ws h rest now.follows in
      let one : k ≡ clock_of (state_at (writes_of ws) s₀ h) (writes_of ws h) = rw (← now.reached, ← found.0, ← due) clocked in
      record {
        within = omega arith;
        reached = rw add-one (ap (λ (k : Clocked). k.state) one);
        in_time = rw clocked (clock_in_time s w now.in_time);
        follows = rw (past, due) found.1;
        room = rw put (stored_length h k.byte lent.objects ∙ now.room);
        colour_room = rw painted (stored_length h k.colour lent.colours ∙ now.colour_room);
        filled =
            rw put
            (column byte_out s₀ ws lent.objects h k.byte now.room now.filled below (ap (λ (k : Clocked). k.byte) one));
        coloured =
            rw painted
            (column colour_out s₀ ws lent.colours h k.colour now.colour_room now.coloured below (ap (λ (k : Clocked). k.colour) one));
      }

  pub line_ends : 228 ≤ h → (s ≡ (line_of s₀ ws).state) × (lent ≡ pictures (line_of s₀ ws))
  line_ends over =
      let last : h ≡ 228 = omega arith in (
        rw last at now.reached ∙ sym (line_state s₀ ws),
        both
            (all_filled byte_out s₀ ws lent.objects now.room (rw last at now.filled) ∙ sym (picture_columns s₀ ws))
            (all_filled colour_out s₀ ws lent.colours now.colour_room (rw last at now.coloured) ∙ sym (colour_columns s₀ ws)),
      )
    where
      both : lent.objects ≡ picture (line_of s₀ ws) → lent.colours ≡ colour_picture (line_of s₀ ws) → lent ≡ pictures (line_of s₀ ws)
      both e c = λ i. record { objects = e i; colours = c i }
