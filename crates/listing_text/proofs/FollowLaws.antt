-- A program that follows the steps: the bytes of the steps so far and what the steps from here print are the listing.
use mathlib.Core.Path.{◌≡◌, ◌∙◌, refl, sym}
use mathlib.Core.Bool.{Bool, true, false, cond}
use mathlib.Core.List.{List, ◌++◌, append_assoc}
use Prim.Native.Nat.{ℕ, suc, ◌+◌, ◌-◌, ◌≤◌, ◌<◌}
use native.Mathlib.Numerals.{add-one}
use native.Mathlib.Omega.{arith}
use borrow.Author.Tests.{ltb-false}
use lib.Dec.{ltb}
use lib.ListN.{length}
use Rattle.tape.specs.Reading.{longest}
use Rattle.tape.proofs.ReadingLaws.{line_there}
use Rattle.tia.specs.Line.{line_rooms}
use Rattle.tia.specs.declared.state.State.{State}
use Rattle.tia.specs.State.{start_state}
use Rattle.replay.specs.Replay.{line_from}
use Rattle.replay.specs.Verdict.{Verdict, Played, Ended, Refused}
use Rattle.replay.specs.Play.{play_answer}
use Rattle.replay.proofs.PlayLaws.{played_here}
use Rattle.replay.proofs.ReplayLaws.{enough}
use Rattle.std.specs.Prelude.{Option, Some, None}
use Rattle.listing_text.specs.declared.listing.Printed.{Printed}
use Rattle.listing_text.specs.Listing.{listing_of, Prints, printed_bytes, opening_text, opening_next, line_next}
use Rattle.listing_text.specs.Listing.{step_text, step_next, StepPrints, steps_text}
use Rattle.listing_text.proofs.ListingLaws.{steps_are_listing}
use Rattle.listing_text.proofs.StepLaws.{prints_answer, prints_text}

-- Before a line, with at most so many steps to come.
pub record Following (tape : List ℕ) (steps line : ℕ) (s : State) (next : Option ℕ) : Type 0 where
  pub printed : List ℕ
  pub rest : listing_of tape ≡ printed ++ steps_text steps line s tape next

-- After the first step.
pub follows_opening :
    (tape : List ℕ) (answer : Printed) → Prints (opening_text tape) (opening_next tape) start_state answer →
    Following tape enough 0 answer.state answer.next
follows_opening tape answer prints =
    record {
      printed = printed_bytes answer;
      rest =
          rw (
            prints_text (opening_text tape) (opening_next tape) start_state answer prints,
            prints_answer (opening_text tape) (opening_next tape) start_state answer prints,
          )
          (sym (steps_are_listing tape));
    }

-- After a later one.
pub follows_line :
    (tape : List ℕ) (s : State) (place line : ℕ) (answer : Printed) → line < enough →
    Following tape (enough - line) line s (Some place) → StepPrints s tape place line answer →
    Following tape (enough - (line + 1)) (line + 1) answer.state answer.next
unfolding steps_text
follows_line tape s place line answer more follows prints =
    let one : enough - line ≡ suc (enough - suc line) = omega arith in
    let text = step_text s tape place line in
    record {
      printed = follows.printed ++ printed_bytes answer;
      rest =
          rw (
            prints_text text (step_next s tape place) (line_from s tape place).state answer prints,
            prints_answer text (step_next s tape place) (line_from s tape place).state answer prints,
            add-one line,
          )
          (rw one at follows.rest ∙ sym (append_assoc follows.printed text _));
    }

-- The number of the line that comes next is below its place, which lies within a tape that is not too long.
abbrev pub Within : (tape : List ℕ) (line : ℕ) → Option ℕ → Type 0
Within tape line (Some place) = (line < place) × ((place ≤ suc (length tape)) × (length tape ≤ longest))
Within tape line None = Unit {0}

pub within_opening :
    (tape : List ℕ) (answer : Printed) → Prints (opening_text tape) (opening_next tape) start_state answer → Within tape 0 answer.next
within_opening tape answer prints =
    rw (prints_answer (opening_text tape) (opening_next tape) start_state answer prints) (by_length (ltb longest (length tape)) refl)
  where
    by_length : (long : Bool) → ltb longest (length tape) ≡ long → Within tape 0 (cond long None (Some 1))
    by_length true e = tt
    by_length false e = (omega arith, (omega arith, ltb-false longest (length tape) e))

-- A later step goes on to a place further on, if at all.
module _
    (tape : List ℕ) (s : State) (place line : ℕ) (answer : Printed) (prints : StepPrints s tape place line answer)
    (before : Within tape line (Some place)) where
  next_is : answer.next ≡ step_next s tape place
  next_is =
      rw (prints_answer (step_text s tape place line) (step_next s tape place) (line_from s tape place).state answer prints) refl

  pub within_line : Within tape (line + 1) answer.next
  within_line = rw next_is (by_verdict (play_answer s tape place line_rooms).verdict refl)
    where
      by_verdict : (v : Verdict) → (play_answer s tape place line_rooms).verdict ≡ v → Within tape (line + 1) (line_next v)
      by_verdict (Played next) e =
          let here = played_here s tape place line_rooms next e in
          let there = line_there tape place here.start next here.line in
          (omega (arith, before.0), (omega arith, before.1.1))
      by_verdict Ended e = tt
      by_verdict (Refused n i) e = tt
