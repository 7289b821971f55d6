-- A replay line by line, and its end: each line takes two bytes or more, so a replay that may play more lines than the tape has
-- bytes stops at the tape's end or at a refusal, and then a higher limit changes nothing.
use mathlib.Core.Path.{◌≡◌, refl}
use mathlib.Core.List.{List, [], ◌∷◌}
use Prim.Native.Nat.{ℕ, zero, suc, ◌+◌, ◌-◌, ◌*◌, ◌≤◌, ◌<◌}
use native.Mathlib.Nat.{suc-add}
use native.Mathlib.Omega.{arith}
use borrow.Author.Tests.{eq-eqb}
use lib.ListN.{length}
use Rattle.tape.specs.declared.reading.Place.{Place}
use Rattle.tape.specs.declared.reading.Place.TheVariants as place
use Rattle.tape.specs.Reading.{longest, read_at, stretch_at}
use Rattle.tape.proofs.ReadingLaws.{line_there}
use Rattle.tia.specs.declared.state.State.{State}
use Rattle.tia.specs.State.{start_state}
use Rattle.tia.specs.Line.{Rooms, line_rooms}
use Rattle.tia.specs.Answers.{line_answer}
use Rattle.tia.proofs.RefusalLaws.{refused_line_state}
use Rattle.replay.specs.Verdict.{Verdict, Played, Ended, Refused}
use Rattle.replay.specs.Play.{played_at, play_answer}
use Rattle.replay.specs.Replay.{PlayedLine, Replay, line_from, and_then, replay_from, replay_of}
use Rattle.replay.proofs.PlayLaws.{played_here}

-- The verdict where no line is played.
abbrev pub Stopped : Verdict → Type 0
Stopped (Played next) = ⊥
Stopped Ended = Unit {0}
Stopped (Refused n i) = Unit {0}

-- Where no line is played the state is the given one.
pub unplayed_state :
    (s : State) (tape : List ℕ) (at : ℕ) (room : Rooms) → Stopped (play_answer s tape at room).verdict → (play_answer s tape at room).state ≡ s
unfolding play_answer
unplayed_state s tape at room = by_reading (read_at tape at)
  where
    by_reading :
        (found : Place) → Stopped (played_at s (stretch_at tape at) room found).verdict →
        (played_at s (stretch_at tape at) room found).state ≡ s
    by_reading (place.Line start end) stopped =
        let ws = stretch_at tape at in
        refused_line_state s ws room (λ zero. rw (eq-eqb (line_answer s ws room).number 0 zero) at stopped)
    by_reading place.Ended stopped = refl
    by_reading (place.Refused r) stopped = refl

-- What holds of no line, of one line before a replay of which it holds, and of a replay that stops, holds of every replay.
pub over_replay :
    (tape : List ℕ) (Holds : (limit : ℕ) → State → (at : ℕ) → Replay → Type 0) →
    ((s : State) (at : ℕ) → Holds 0 s at (record { lines = []; verdict = Played at })) →
    ((limit : ℕ) (s : State) (at next : ℕ) (later : Replay) →
    (play_answer s tape at line_rooms).verdict ≡ Played next → Holds limit (line_from s tape at).state next later →
    Holds (suc limit) s at (record { lines = line_from s tape at ∷ later.lines; verdict = later.verdict })) →
    ((limit : ℕ) (s : State) (at : ℕ) (v : Verdict) → (play_answer s tape at line_rooms).verdict ≡ v → Stopped v →
    Holds (suc limit) s at (record { lines = []; verdict = v })) →
    (limit : ℕ) (s : State) (at : ℕ) → Holds limit s at (replay_from limit s tape at)
unfolding replay_from
over_replay tape Holds none line stop zero s at = none s at
over_replay tape Holds none line stop (suc limit) s at =
    by_verdict (play_answer s tape at line_rooms).verdict refl (over_replay tape Holds none line stop limit (line_from s tape at).state)
  where
    rest : ℕ → Replay
    rest next = replay_from limit (line_from s tape at).state tape next

    by_verdict :
        (v : Verdict) → (play_answer s tape at line_rooms).verdict ≡ v →
        ((next : ℕ) → Holds limit (line_from s tape at).state next (rest next)) →
        Holds (suc limit) s at (and_then v (line_from s tape at) rest)
    by_verdict (Played next) e later = line limit s at next (rest next) e (later next)
    by_verdict Ended e later = stop limit s at Ended e tt
    by_verdict (Refused n i) e later = stop limit s at (Refused n i) e tt

-- The next place lies two bytes on or more, within the tape.
record Onward (tape : List ℕ) (at next : ℕ) : Type 0 where
  on : at + 2 ≤ next
  inside : next ≤ length tape

onward : (s : State) (tape : List ℕ) (at next : ℕ) → (play_answer s tape at line_rooms).verdict ≡ Played next → Onward tape at next
onward s tape at next e =
    let here = played_here s tape at line_rooms next e in
    let line = line_there tape at here.start next here.line in
    record { on = omega arith; inside = line.inside }

replay_stops :
    (tape : List ℕ) (limit : ℕ) (s : State) (at : ℕ) → 0 < limit → length tape < limit + at →
    Stopped (replay_from limit s tape at).verdict
replay_stops tape =
    over_replay
    tape
    (λ limit s at r. 0 < limit → length tape < limit + at → Stopped r.verdict)
    (λ s at some enough. absurd (omega arith))
    (λ limit s at next later e holds some enough.
    let go = onward s tape at next e in
    holds (omega arith) (omega arith))
    (λ limit s at v e stopped some enough. stopped)

-- A whole replay ends at the tape's end or at a refusal.
pub replay_ends : (tape : List ℕ) → Stopped (replay_of tape).verdict
unfolding replay_of
replay_ends tape = replay_stops tape (suc (length tape)) _ 1 (omega arith) (omega arith)

replay_fits :
    (tape : List ℕ) (limit : ℕ) (s : State) (at : ℕ) → at ≤ length tape →
    at + 2 * length (replay_from limit s tape at).lines ≤ length tape
replay_fits tape =
    over_replay
    tape
    (λ limit s at r. at ≤ length tape → at + 2 * length r.lines ≤ length tape)
    (λ s at within. omega arith)
    (λ limit s at next later e holds within.
    let go = onward s tape at next e in
    let fits = holds go.inside in
    omega arith)
    (λ limit s at v e stopped within. omega arith)

-- A tape has two bytes or more for each line after its version byte.
pub replay_lines : (tape : List ℕ) → 1 ≤ length tape → 1 + 2 * length (replay_of tape).lines ≤ length tape
unfolding replay_of
replay_lines tape some = replay_fits tape (suc (length tape)) start_state 1 some

-- A replay that has stopped is the same with a higher limit.
stops_there : (line : PlayedLine) (rest : ℕ → Replay) (v : Verdict) → Stopped v → and_then v line rest ≡ record { lines = []; verdict = v }
stops_there line rest (Played next) stopped = absurd stopped
stops_there line rest Ended stopped = refl
stops_there line rest (Refused n i) stopped = refl

replay_same :
    (tape : List ℕ) (limit : ℕ) (s : State) (at : ℕ) (more : ℕ) → Stopped (replay_from limit s tape at).verdict →
    replay_from (limit + more) s tape at ≡ replay_from limit s tape at
unfolding replay_from
replay_same tape =
    over_replay
    tape
    (λ limit s at r. (more : ℕ) → Stopped r.verdict → replay_from (limit + more) s tape at ≡ r)
    (λ s at more stopped. absurd stopped)
    (λ limit s at next later e holds more stopped. rw (suc-add limit more, e, holds more stopped))
    (λ limit s at v e stopped more again. rw (suc-add limit more, e) (stops_there (line_from s tape at) _ v stopped))

pub replay_limit : (tape : List ℕ) (more : ℕ) → replay_from (suc (length tape) + more) start_state tape 1 ≡ replay_of tape
unfolding replay_of
replay_limit tape more = replay_same tape (suc (length tape)) start_state 1 more (replay_ends tape)

-- More steps than the longest tape has lines: a tape that is no longer is replayed whole.
abbrev pub enough : ℕ
enough = suc longest

pub replay_enough : (tape : List ℕ) → length tape ≤ longest → replay_from enough start_state tape 1 ≡ replay_of tape
replay_enough tape short =
    let all : suc (length tape) + (longest - length tape) ≡ enough = omega arith in
    rw all at (replay_limit tape (longest - length tape))
