-- A program that follows a replay line by line: the lines it has passed and the lines from here on are those of the replay.
use mathlib.Core.Path.{◌≡◌, ◌∙◌, refl, sym, ap}
use mathlib.Core.List.{List, [], ◌∷◌, ◌++◌, append_assoc}
use Prim.Native.Nat.{ℕ, suc, ◌+◌, ◌-◌, ◌≤◌, ◌<◌}
use native.Mathlib.Omega.{arith}
use Rattle.std.proofs.lemmas.List.{length_push}
use lib.ListN.{length}
use Rattle.tape.specs.Reading.{longest}
use Rattle.tia.specs.declared.state.State.{State}
use Rattle.tia.specs.State.{start_state}
use Rattle.tia.specs.Line.{line_rooms}
use Rattle.replay.specs.Verdict.{Played}
use Rattle.replay.specs.Play.{play_answer}
use Rattle.replay.specs.Replay.{PlayedLine, state_after_lines, line_from, replay_from, replay_of}
use Rattle.replay.proofs.ReplayLaws.{enough, replay_enough}

-- Before a line: these have been passed, so many, and they lead to the state.
pub record Followed (tape : List ℕ) (passed : List PlayedLine) (count : ℕ) (s : State) (place : ℕ) : Type 0 where
  pub counted : length passed ≡ count
  pub reached : state_after_lines start_state passed ≡ s
  pub rest : (replay_of tape).lines ≡ passed ++ (replay_from (enough - count) s tape place).lines

-- Before the first.
pub followed_none : (tape : List ℕ) → length tape ≤ longest → Followed tape [] 0 start_state 1
followed_none tape short = record { counted = refl; reached = refl; rest = rw (replay_enough tape short) refl }

-- One line more: the state is the one after it.
state_of_more : (s : State) (ls : List PlayedLine) (l : PlayedLine) → state_after_lines s (ls ++ (l ∷ [])) ≡ l.state
state_of_more s [] l = refl
state_of_more s (k ∷ ks) l = state_of_more k.state ks l

-- A line that is played, then the rest from the next place.
line_first :
    (tape : List ℕ) (steps : ℕ) (s : State) (place next : ℕ) → (play_answer s tape place line_rooms).verdict ≡ Played next →
    (replay_from (suc steps) s tape place).lines
    ≡ line_from s tape place ∷ (replay_from steps (line_from s tape place).state tape next).lines
unfolding replay_from
line_first tape steps s place next said = rw said

module _
    (tape : List ℕ) (passed : List PlayedLine) (count : ℕ) (s : State) (place next : ℕ) (more : count < enough)
    (now : Followed tape passed count s place) (said : (play_answer s tape place line_rooms).verdict ≡ Played next) where
  -- The lines of the replay, in three parts: those passed, the one here, those after it.
  pub followed_here :
      (replay_of tape).lines
      ≡ passed ++ (line_from s tape place ∷ (replay_from (enough - (count + 1)) (line_from s tape place).state tape next).lines)
  followed_here =
      let one : enough - count ≡ suc (enough - (count + 1)) = omega arith in
      rw (one, line_first tape (enough - (count + 1)) s place next said) at now.rest

  -- After the line here.
  pub followed_more : Followed tape (passed ++ (line_from s tape place ∷ [])) (count + 1) (line_from s tape place).state next
  followed_more =
      let line = line_from s tape place in
      let later = (replay_from (enough - (count + 1)) line.state tape next).lines in
      record {
        counted = length_push passed line ∙ ap (λ (n : ℕ). n + 1) now.counted;
        reached = state_of_more start_state passed line;
        rest = followed_here ∙ sym (append_assoc passed (line ∷ []) later);
      }
