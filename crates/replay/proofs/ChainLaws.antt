-- The lines of a replay follow one another: each is an accepted line call from the state that the one before handed back.
use mathlib.Core.Path.{◌≡◌, refl}
use mathlib.Core.Bool.{true, false, not}
use mathlib.Core.List.{List, [], ◌∷◌, ◌++◌}
use Prim.Native.Nat.{ℕ, zero, suc, ◌-◌, ◌%◌, ◌^◌, ◌≤◌, ◌<◌}
use native.Mathlib.Omega.{arith}
use borrow.Author.Tests.{lt-ltb, ltb-false}
use lib.Dec.{eqb, ltb}
use lib.ListN.{length, take, drop}
use Rattle.laws.specs.Numbers.{bad_length}
use Rattle.laws.proofs.Bools.{and_both, and_first, and_second, or_second}
use Rattle.tape.specs.declared.reading.Place.{Place}
use Rattle.tape.specs.declared.reading.Place.TheVariants as place
use Rattle.tape.specs.Reading.{read_at, stretch_of, stretch_at}
use Rattle.tape.proofs.ReadingLaws.{line_there, stretch_length}
use Rattle.tia.specs.declared.state.State.{State}
use Rattle.tia.specs.State.{is_byte}
use Rattle.tia.specs.Line.{line_of, line_rooms, pictures}
use Rattle.tia.specs.Answers.{line_answer}
use Rattle.tia.specs.Run.{all_bytes, is_slice}
use Rattle.replay.specs.Replay.{PlayedLine, state_after_lines, replay_from}
use Rattle.replay.proofs.PlayLaws.{played_here}
use Rattle.replay.proofs.ReplayLaws.{over_replay}

-- A part of a list of bytes is of bytes.
bytes_take : (n : ℕ) (ws : List ℕ) → all_bytes ws ≡ true → all_bytes (take n ws) ≡ true
bytes_take zero ws all = refl
bytes_take (suc n) [] all = refl
bytes_take (suc n) (v ∷ vs) all =
    and_both (and_first (is_byte v) (all_bytes vs) all) (bytes_take n vs (and_second (is_byte v) (all_bytes vs) all))

bytes_drop : (n : ℕ) (ws : List ℕ) → all_bytes ws ≡ true → all_bytes (drop n ws) ≡ true
bytes_drop zero ws all = all
bytes_drop (suc n) [] all = refl
bytes_drop (suc n) (v ∷ vs) all = bytes_drop n vs (and_second (is_byte v) (all_bytes vs) all)

stretch_bytes : (tape : List ℕ) (at : ℕ) → all_bytes tape ≡ true → all_bytes (stretch_at tape at) ≡ true
unfolding stretch_at
stretch_bytes tape at all = by_reading (read_at tape at)
  where
    by_reading : (found : Place) → all_bytes (stretch_of tape found) ≡ true
    by_reading (place.Line start end) = bytes_take (end - start) (drop start tape) (bytes_drop start tape all)
    by_reading place.Ended = refl
    by_reading (place.Refused r) = refl

-- The stretch of a line that is read is a slice: 684 bytes at most.
stretch_slice :
    (tape : List ℕ) (at start end : ℕ) → all_bytes tape ≡ true → read_at tape at ≡ place.Line start end →
    is_slice (stretch_at tape at) ≡ true
stretch_slice tape at start end all line =
    let n = length (stretch_at tape at) in
    let good : bad_length n ≡ false = rw (stretch_length tape at start end line) (line_there tape at start end line).listed in
    let short = ltb-false 684 n (or_second (not (eqb (n % 3) 0)) (ltb 684 n) good) in
    and_both (stretch_bytes tape at all) (lt-ltb n (2 ^ 63) (below short))
  where
    below : {n : ℕ} → n ≤ 684 → n < 2 ^ 63
    below h = omega arith

-- A line as an accepted line call from a state.
pub record Follows (s : State) (l : PlayedLine) : Type 0 where
  pub slice : is_slice l.writes ≡ true
  pub number : (line_answer s l.writes line_rooms).number ≡ 0
  pub state : l.state ≡ (line_answer s l.writes line_rooms).state
  pub filled : l.filled ≡ pictures (line_of s l.writes)

abbrev pub Chained : State → List PlayedLine → Type 0
Chained s [] = Unit {0}
Chained s (l ∷ ls) = Follows s l × Chained l.state ls

pub replay_chained :
    (tape : List ℕ) → all_bytes tape ≡ true → (limit : ℕ) (s : State) (at : ℕ) → Chained s (replay_from limit s tape at).lines
replay_chained tape all =
    over_replay
    tape
    (λ limit s at r. Chained s r.lines)
    (λ s at. tt)
    (λ limit s at next later e chained.
    let here = played_here s tape at line_rooms next e in
    let slice = stretch_slice tape at here.start next all here.line in
    (record { slice = slice; number = here.number; state = here.state; filled = refl }, chained))
    (λ limit s at v e stopped. tt)

-- Lines that follow one another, in two parts.
pub chain_first : (s : State) (before after : List PlayedLine) → Chained s (before ++ after) → Chained s before
chain_first s [] after chain = tt
chain_first s (l ∷ ls) after chain = (chain.0, chain_first l.state ls after chain.1)

pub chain_second : (s : State) (before after : List PlayedLine) → Chained s (before ++ after) → Chained (state_after_lines s before) after
chain_second s [] after chain = chain
chain_second s (l ∷ ls) after chain = chain_second l.state ls after chain.1
