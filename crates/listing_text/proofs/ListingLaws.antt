-- The steps of a listing, one after another, print the listing.
use mathlib.Core.Path.{◌≡◌, ◌∙◌, refl, sym, ap}
use mathlib.Core.Bool.{Bool, true, false, cond}
use mathlib.Core.List.{List, [], ◌++◌, append_assoc, append-nil}
use Prim.Native.Nat.{ℕ, zero, suc, ◌+◌}
use native.Mathlib.Nat.{add-zero, zero-add}
use native.Mathlib.Omega.{arith}
use borrow.Author.Tests.{ltb-false}
use lib.Dec.{ltb}
use lib.ListN.{length}
use Rattle.tape.specs.Reading.{longest}
use Rattle.tia.specs.declared.state.State.{State}
use Rattle.tia.specs.Line.{line_rooms}
use Rattle.tia.specs.State.{start_state}
use Rattle.replay.specs.Verdict.{Verdict, Played, Ended, Refused}
use Rattle.replay.specs.Replay.{PlayedLine, Replay, state_after_lines, line_from, replay_from, replay_of}
use Rattle.replay.proofs.ReplayLaws.{Stopped, unplayed_state, over_replay, enough, replay_enough}
use Rattle.std.specs.Prelude.{Some, None}
use Rattle.listing_text.specs.LineText.{heading, too_long, row_text}
use Rattle.listing_text.specs.Listing.{rows_text, last_text, listing_of, opening_text, opening_next, line_text, line_next, steps_text}

-- Nothing is printed when the listing is done.
done : (steps line : ℕ) (s : State) (tape : List ℕ) → steps_text steps line s tape None ≡ []
unfolding steps_text
done zero line s tape = refl
done (suc steps) line s tape = refl

-- The rows of a replay and its last line.
abbrev replay_text : (line : ℕ) → State → Replay → List ℕ
replay_text line s r =
    rows_text line r.lines ++ last_text (line + length r.lines) (state_after_lines s r.lines) r.verdict

-- A line that is not played prints the last line.
last_step :
    (line steps : ℕ) (s : State) (tape : List ℕ) (at : ℕ) (v : Verdict) → Stopped v → (line_from s tape at).state ≡ s →
    line_text line (line_from s tape at) v ++ steps_text steps (suc line) (line_from s tape at).state tape (line_next v)
    ≡ last_text (line + 0) s v
last_step line steps s tape at (Played next) stopped same = absurd stopped
last_step line steps s tape at Ended stopped same = rw (done steps (suc line) (line_from s tape at).state tape, append-nil, same)
last_step line steps s tape at (Refused n i) stopped same =
    rw (done steps (suc line) (line_from s tape at).state tape, append-nil, add-zero)

steps_are_rows :
    (tape : List ℕ) (steps : ℕ) (s : State) (at : ℕ) (line : ℕ) →
    steps_text steps line s tape (Some at) ≡ replay_text line s (replay_from steps s tape at)
unfolding steps_text rows_text
steps_are_rows tape =
    over_replay
    tape
    (λ steps s at r. (line : ℕ) → steps_text steps line s tape (Some at) ≡ replay_text line s r)
    (λ s at line. refl)
    (λ steps s at next later e holds line.
    let row = row_text line (line_from s tape at).filled.objects in
    let rows = rows_text (suc line) later.lines in
    let after = state_after_lines (line_from s tape at).state later.lines in
    let counted : suc line + length later.lines ≡ line + suc (length later.lines) = omega arith in
    rw e
    (ap (λ (rest : List ℕ). row ++ rest) (holds (suc line))
    ∙ sym (append_assoc row rows _)
    ∙ ap (λ (n : ℕ). (row ++ rows) ++ last_text n after later.verdict) counted))
    (λ steps s at v e stopped line.
    let same = unplayed_state s tape at line_rooms (rw e stopped) in
    rw e (last_step line steps s tape at v stopped same))

-- A program that takes the first step and then enough more, each from where the one before left off, prints the listing.
pub steps_are_listing :
    (tape : List ℕ) → opening_text tape ++ steps_text enough 0 start_state tape (opening_next tape) ≡ listing_of tape
unfolding listing_of
steps_are_listing tape = by_length (ltb longest (length tape)) refl
  where
    lines : List PlayedLine
    lines = (replay_of tape).lines

    last : List ℕ
    last = last_text (length lines) (state_after_lines start_state lines) (replay_of tape).verdict

    by_length :
        (long : Bool) → ltb longest (length tape) ≡ long →
        cond long too_long heading ++ steps_text enough 0 start_state tape (cond long None (Some 1))
        ≡ cond long too_long (heading ++ (rows_text 0 lines ++ last))
    by_length true e = rw (done enough 0 start_state tape) (append-nil too_long)
    by_length false e =
        let same = replay_enough tape (ltb-false longest (length tape) e) in
        ap (λ (rest : List ℕ). heading ++ rest)
        (steps_are_rows tape enough start_state 1 0
        ∙ ap (replay_text 0 start_state) same
        ∙ ap (λ (n : ℕ). rows_text 0 lines ++ last_text n (state_after_lines start_state lines) (replay_of tape).verdict) (zero-add (length lines)))
