-- A program that follows a replay and shows each line: its buffers hold the line shown last.
use mathlib.Core.Path.{◌≡◌, ◌∙◌, refl, sym, ap}
use mathlib.Core.List.{List, [], ◌∷◌, ◌++◌}
use Prim.Native.Nat.{ℕ, suc, ◌+◌, ◌≤◌, ◌<◌}
use native.Mathlib.Omega.{arith}
use lib.ListN.{length}
use Rattle.std.specs.Prelude.{Option, Some, Result, Ok}
use Rattle.tape.specs.Reading.{longest}
use Rattle.tape.proofs.ReadingLaws.{line_there}
use Rattle.tia.specs.declared.state.State.{State}
use Rattle.tia.specs.State.{start_state}
use Rattle.tia.specs.Line.{Buffers, rooms_of}
use Rattle.refusal.specs.declared.Fault.{Fault}
use Rattle.replay.specs.Verdict.{Played, PlayAnswer, verdict_of, played_answer}
use Rattle.replay.specs.Play.{play_answer, PlayPromise}
use Rattle.replay.specs.Replay.{PlayedLine, line_from}
use Rattle.replay.proofs.PlayLaws.{play_answered, played_here, played_pictures}
use Rattle.replay.proofs.ReplayLaws.{enough}
use Rattle.replay.proofs.FollowLaws.{Followed, followed_none, followed_more}

-- What the last of some lines filled; before the first what the buffers held at the start.
abbrev pub last_filled : (start : Buffers) → List PlayedLine → Buffers
last_filled start [] = start
last_filled start (l ∷ ls) = last_filled l.filled ls

-- Before the line at a place: so many lines have been shown, fewer than the place, and the buffers hold the last of them.
pub record Shown (tape : List ℕ) (count : ℕ) (s : State) (place : ℕ) (held : Buffers) : Type 0 where
  pub start : Buffers
  pub shown : List PlayedLine
  pub fewer : count < place
  pub within : (place ≤ suc (length tape)) × (length tape ≤ longest)
  pub follows : Followed tape shown count s place
  pub last : held ≡ last_filled start shown

-- Before the first.
pub shown_none : (tape : List ℕ) (held : Buffers) → length tape ≤ longest → Shown tape 0 start_state 1 held
shown_none tape held short =
    record {
      start = held;
      shown = [];
      fewer = omega arith;
      within = (omega arith, short);
      follows = followed_none tape short;
      last = refl;
    }

-- The last of some lines and one more is that one.
last_of_more : (start : Buffers) (ls : List PlayedLine) (l : PlayedLine) → last_filled start (ls ++ (l ∷ [])) ≡ l.filled
last_of_more start [] l = refl
last_of_more start (k ∷ ks) l = last_of_more k.filled ks l

-- A line that is played.
module _
    (tape : List ℕ) (s : State) (place : ℕ) (held after : Buffers) (answer : Result (Option ℕ) Fault) (left : State) (next : ℕ)
    (promise : PlayPromise s tape place held (played_answer answer left) after) (played : answer ≡ Ok (Some next)) where
  answered : played_answer answer left ≡ play_answer s tape place (rooms_of held)
  answered = play_answered s tape place held (played_answer answer left) after promise

  said : (play_answer s tape place (rooms_of held)).verdict ≡ Played next
  said = sym (ap (λ (a : PlayAnswer). a.verdict) answered) ∙ ap verdict_of played

  -- It is in the buffers.
  pub played_line_lem : after ≡ (line_from s tape place).filled
  played_line_lem = promise.1 ∙ played_pictures s tape place held next said

  -- The next place lies further on, within the tape.
  pub place_rises : (place < next) × (next ≤ length tape)
  place_rises =
      let here = played_here s tape place (rooms_of held) next said in
      let line = line_there tape place here.start next here.line in
      (omega arith, line.inside)

  -- After it.
  pub shown_more :
      (count : ℕ) → length held.objects ≡ 160 → length held.colours ≡ 160 → Shown tape count s place held →
      Shown tape (count + 1) left next after
  shown_more count room colours before =
      let line = line_from s tape place in
      let more : count < enough = omega (arith, before.fewer, before.within.0, before.within.1) in
      record {
        start = before.start;
        shown = before.shown ++ (line ∷ []);
        fewer = omega (arith, before.fewer, place_rises.0);
        within = (omega (arith, place_rises.1), before.within.1);
        follows =
            rw (ap (λ (a : PlayAnswer). a.state) answered, room, colours)
            (followed_more tape before.shown count s place next more before.follows (rw (room, colours) at said));
        last = played_line_lem ∙ sym (last_of_more before.start before.shown line);
      }
