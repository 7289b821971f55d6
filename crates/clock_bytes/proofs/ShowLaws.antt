-- The program's loops: the write on a clock is found in the list, the records of a line are those of its clocks in turn, and the
-- line with a number is the one after so many.
use mathlib.Core.Path.{◌≡◌, ◌∙◌, refl, sym, ap}
use mathlib.Core.List.{List, [], ◌∷◌, ◌++◌}
use Prim.Native.Nat.{ℕ, zero, suc, ◌+◌, ◌-◌, ◌≤◌, ◌<◌}
use native.Mathlib.Nat.{add-zero, zero-add, add-suc, suc-add}
use native.Mathlib.Omega.{arith}
use lib.ListN.{length, take, drop, get_or, length-drop}
use lib.Seq.{take_all, take-append_seam, drop-append_seam}
use Rattle.std.specs.Prelude.{Option, Some, Result, Ok, Err}
use Rattle.std.specs.Result.{result_unwrap_or}
use Rattle.refusal.specs.declared.Fault.{Fault}
use Rattle.refusal.specs.declared.Refusal.{Refusal}
use Rattle.tia.specs.declared.clock_call.Output.{Output}
use Rattle.tia.specs.declared.state.State.{State}
use Rattle.tia.specs.declared.write.Write.{Write}
use Rattle.tia.specs.declared.write.Write.TheVariants.{Nothing, Register}
use Rattle.tia.specs.State.{start_state}
use Rattle.tia.specs.Line.{Buffers, line_rooms}
use Rattle.tia.specs.WriteList.{records_of, write_at}
use Rattle.tia.specs.Answers.{ClockAnswer, clock_numbers, clock_answer}
use Rattle.tia.proofs.CursorLaws.{records_left, no_records}
use Rattle.tia.proofs.RisingLaws.{writes_here, writes_later}
use Rattle.tape.specs.Reading.{longest, stretch_at}
use Rattle.replay.specs.Verdict.{Played, PlayAnswer, verdict_of, played_answer}
use Rattle.replay.specs.Play.{play_answer, PlayPromise}
use Rattle.replay.proofs.PlayLaws.{play_answered}
use Rattle.replay.specs.Replay.{PlayedLine, state_after_lines, line_from, replay_of}
use Rattle.replay.proofs.ReplayLaws.{enough}
use Rattle.replay.proofs.FollowLaws.{Followed, followed_none, followed_here, followed_more}
use Rattle.clock_bytes.specs.ClockBytes.{shared_bytes, record_bytes_of, records_from, line_records, first_records}
use Rattle.clock_bytes.specs.ClockBytes.{tape_records, input_records, record_at}

-- The search for a clock's write in what is left of a list: its first record has it, or the bytes after that record decide, or
-- fewer than three bytes hold no record.
pub search_finds :
    (ws : List ℕ) (clock : ℕ) → 3 ≤ length ws → get_or ws 0 0 ≡ clock →
    Register (get_or ws 1 0) (get_or ws 2 0) ≡ write_at (records_of ws) clock
search_finds ws clock h e = rw (records_left ws h) (sym (writes_here _ _ clock e))

pub search_goes_on :
    (ws : List ℕ) (clock : ℕ) → 3 ≤ length ws → (get_or ws 0 0 ≡ clock → ⊥) →
    write_at (records_of (take (length ws - 3) (drop 3 ws))) clock ≡ write_at (records_of ws) clock
search_goes_on ws clock h ne =
    rw (take_all (length ws - 3) (drop 3 ws) (rw (length-drop 3 ws) (omega arith)), records_left ws h) (sym (writes_later _ _ clock ne))

pub search_ends : (ws : List ℕ) (clock : ℕ) → length ws < 3 → Nothing ≡ write_at (records_of ws) clock
unfolding write_at
search_ends ws clock h = rw (no_records ws h) refl

-- The clocks of a line in turn: the state before clock h, and its record.
unfoldable pub state_before : (ℕ → Write) → State → ℕ → State
state_before writes s zero = s
state_before writes s (suc n) = (clock_answer (state_before writes s n) (writes n)).state

pub before_first : (writes : ℕ → Write) (s : State) → s ≡ state_before writes s 0
unfolding state_before
before_first writes s = refl

pub before_next : (writes : ℕ → Write) (s : State) (n : ℕ) → (clock_answer (state_before writes s n) (writes n)).state ≡ state_before writes s (n + 1)
unfolding state_before
before_next writes s n = rw (add-suc n 0, add-zero)

record_of :
    (writes : ℕ → Write) (s : State) (count n i : ℕ) → i < count →
    get_or (records_from writes n count (state_before writes s n)) i []
    ≡ record_bytes_of (state_before writes s (n + i)) (clock_answer (state_before writes s (n + i)) (writes (n + i)))
unfolding records_from state_before
record_of writes s zero n i h = absurd (omega arith)
record_of writes s (suc count) n zero h = rw add-zero
record_of writes s (suc count) n (suc i) h =
    record_of writes s count (suc n) i (omega arith)
    ∙ ap
    (λ (k : ℕ). record_bytes_of (state_before writes s k) (clock_answer (state_before writes s k) (writes k)))
    (suc-add n i ∙ sym (add-suc n i))

-- The record of clock h of a line.
pub line_record :
    (s : State) (ws : List ℕ) (h : ℕ) → h < 228 →
    get_or (line_records s ws) h []
    ≡ record_bytes_of
    (state_before (write_at (records_of ws)) s h)
    (clock_answer (state_before (write_at (records_of ws)) s h) (write_at (records_of ws) h))
unfolding line_records state_before
line_record s ws h below = rw (zero-add h) at (record_of (write_at (records_of ws)) s 228 0 h below)

-- A refused clock is shown with byte 0, and leaves the state.
shown_with :
    (s after : State) (answer : Result Output Refusal) (output : Output) →
    output ≡ result_unwrap_or answer (record { byte = 0; colour = 0 }) →
    record_bytes_of s (clock_numbers (Ok output) after) ≡ record_bytes_of s (clock_numbers answer after)
unfolding record_bytes_of shared_bytes
shown_with s after (Ok given) output e = rw e
shown_with s after (Err refusal) output e = rw e

left_by : (answer : Result Output Refusal) (after : State) → after ≡ (clock_numbers answer after).state
left_by (Ok given) after = refl
left_by (Err refusal) after = refl

-- A clock of the line: its record is that of the line that the input names, and the next state is the one before the next clock.
module _
    (s₀ : State) (ws : List ℕ) (h : ℕ) (s : State) (w : Write) (answer : Result Output Refusal) (after : State)
    (reached : s ≡ state_before (write_at (records_of ws)) s₀ h) (found : w ≡ write_at (records_of ws) h)
    (answered : clock_numbers answer after ≡ clock_answer s w) where
  pub clock_record :
      (output : Output) → output ≡ result_unwrap_or answer (record { byte = 0; colour = 0 }) → (input : List ℕ) → h < 228 →
      line_records s₀ ws ≡ input_records input → record_bytes_of s (clock_numbers (Ok output) after) ≡ record_at input h
  clock_record output put input below same =
      shown_with s after answer output put
      ∙ rw (answered, found, reached) (sym (line_record s₀ ws h below) ∙ ap (λ (rs : List (List ℕ)). get_or rs h []) same)

  pub clock_next : after ≡ state_before (write_at (records_of ws)) s₀ (h + 1)
  clock_next =
      left_by answer after
      ∙ ap (λ (a : ClockAnswer). a.state) answered
      ∙ rw (found, reached) (before_next (write_at (records_of ws)) s₀ h)

-- The line after so many.
pub records_after :
    (lines passed later : List PlayedLine) (l : PlayedLine) (count : ℕ) (s : State) → lines ≡ passed ++ (l ∷ later) →
    length passed ≡ count → state_after_lines start_state passed ≡ s →
    line_records s l.writes ≡ first_records (state_after_lines start_state (take count lines)) (drop count lines)
records_after lines passed later l count s e counted reached =
    rw (e, ← counted, take-append_seam passed (l ∷ later), drop-append_seam passed (l ∷ later), reached)

records_here :
    (tape : List ℕ) (passed : List PlayedLine) (count : ℕ) (s : State) (place next : ℕ) → count < enough →
    Followed tape passed count s place → (play_answer s tape place line_rooms).verdict ≡ Played next →
    line_records s (stretch_at tape place) ≡ tape_records tape count
unfolding tape_records
records_here tape passed count s place next more now said =
    records_after
    (replay_of tape).lines
    passed
    _
    (line_from s tape place)
    count
    s
    (followed_here tape passed count s place next more now said)
    now.counted
    now.reached

-- Before a line: so many have been passed.
pub record Passed (tape : List ℕ) (count : ℕ) (s : State) (place : ℕ) : Type 0 where
  pub passed : List PlayedLine
  pub follows : Followed tape passed count s place

pub passed_none : (tape : List ℕ) → length tape ≤ longest → Passed tape 0 start_state 1
passed_none tape short = record { passed = []; follows = followed_none tape short }

-- A line that is played: its records are those of the tape's line with this number; after it one more is passed.
module _
    (tape : List ℕ) (s : State) (place count : ℕ) (held after : Buffers) (answer : Result (Option ℕ) Fault) (left : State) (next : ℕ)
    (more : count < enough) (room : length held.objects ≡ 160) (colours : length held.colours ≡ 160) (now : Passed tape count s place)
    (promise : PlayPromise s tape place held (played_answer answer left) after) (played : answer ≡ Ok (Some next)) where
  answered : played_answer answer left ≡ play_answer s tape place line_rooms
  answered = rw (room, colours) at (play_answered s tape place held (played_answer answer left) after promise)

  said : (play_answer s tape place line_rooms).verdict ≡ Played next
  said = sym (ap (λ (a : PlayAnswer). a.verdict) answered) ∙ ap verdict_of played

  pub records_played : line_records s (stretch_at tape place) ≡ tape_records tape count
  records_played = records_here tape now.passed count s place next more now.follows said

  pub passed_more : Passed tape (count + 1) left next
  passed_more =
      record {
        passed = now.passed ++ (line_from s tape place ∷ []);
        follows =
            rw (ap (λ (a : PlayAnswer). a.state) answered) (followed_more tape now.passed count s place next more now.follows said);
      }
