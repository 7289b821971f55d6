-- The steps of a listing by cases, as the code takes them.
use mathlib.Core.Path.{◌≡◌, ◌∙◌, refl, sym, ap}
use mathlib.Core.Bool.{cond}
use mathlib.Core.List.{List}
use Prim.Native.Nat.{ℕ, ◌≤◌, ◌<◌}
use borrow.Author.Tests.{lt-ltb, le-ltb}
use lib.Dec.{eqb}
use lib.ListN.{length, replicate}
use Rattle.std.specs.Prelude.{Option, Some, None, Result, Ok, Err}
use Rattle.laws.proofs.OneToOne.{one_to_one}
use Rattle.tape.specs.Reading.{longest}
use Rattle.tia.specs.declared.state.State.{State}
use Rattle.tia.specs.State.{start_state}
use Rattle.tia.specs.Line.{Buffers, buffers, line_rooms}
use Rattle.refusal.specs.declared.Fault.{Fault}
use Rattle.refusal.specs.Refusal.{number_of}
use Rattle.replay.specs.Verdict.{Verdict, Played, Ended, Refused, PlayAnswer, verdict_of, played_answer}
use Rattle.replay.specs.Play.{play_answer, PlayPromise}
use Rattle.replay.specs.Replay.{line_from}
use Rattle.replay.proofs.PlayLaws.{play_answered, played_pictures}
use Rattle.listing_text.specs.declared.listing.Printed.{Printed}
use Rattle.listing_text.specs.LineText.{heading, too_long, row_text, latches_text, refused_text}
use Rattle.listing_text.specs.Listing.{printed, Prints, printed_bytes, opening_text, opening_next, line_text, line_next, StepPrints}
use Rattle.listing_text.specs.Listing.{NextNumbers, next_numbers, StepNumbers, step_numbers}

-- Equal numbers mean equal steps.
next_back : NextNumbers → Option ℕ
next_back n = cond (eqb n.case 0) (Some n.place) None

next_inverse : (n : Option ℕ) → next_back (next_numbers n) ≡ n
unfolding next_back
next_inverse (Some place) = refl
next_inverse None = refl

step_back : StepNumbers → Printed
step_back n = record { next = next_back n.next; state = n.state; text = n.text }

step_inverse : (p : Printed) → step_back (step_numbers p) ≡ p
unfolding step_back
step_inverse p = λ i. record { next = next_inverse p.next i; state = p.state; text = p.text }

pub same_step : {p q : Printed} → step_numbers p ≡ step_numbers q → p ≡ q
same_step e = one_to_one step_numbers step_back step_inverse e

-- What a step answers, by its promise; and that the bytes that it prints are its text.
module _ (text : List ℕ) (next : Option ℕ) (s : State) (answer : Printed) (p : Prints text next s answer) where
  pub prints_answer : answer ≡ printed text next s
  prints_answer = same_step p.answer_is

  pub prints_text : printed_bytes answer ≡ text
  prints_text = ap printed_bytes prints_answer

-- A step with its text.
prints :
    (next : Option ℕ) (s : State) {text shown : List ℕ} → shown ≡ text → length shown ≤ 64 → Prints text next s (printed shown next s)
prints next s e small = record { answer_is = rw e refl; fits = rw e at small }

-- The first step.
module _ (tape : List ℕ) (s : State) (start : s ≡ start_state) {shown : List ℕ} where
  pub opens_long :
      longest < length tape → shown ≡ too_long → length shown ≤ 64 →
      Prints (opening_text tape) (opening_next tape) start_state (record { next = None; state = s; text = shown })
  opens_long long e small = rw (start, lt-ltb longest (length tape) long) (prints None start_state e small)

  pub opens :
      length tape ≤ longest → shown ≡ heading → length shown ≤ 64 →
      Prints (opening_text tape) (opening_next tape) start_state (record { next = Some 1; state = s; text = shown })
  opens short e small = rw (start, le-ltb longest (length tape) short) (prints (Some 1) start_state e small)

-- A later step, by the verdict on its line.
abbrev empty : Buffers
empty = buffers (replicate 160 0) (replicate 160 0)

module _ (s : State) (tape : List ℕ) (place line : ℕ) (played : Result (Option ℕ) Fault) (left : State) (after : Buffers)
    (promise : PlayPromise s tape place empty (played_answer played left) after) where
  answered : played_answer played left ≡ play_answer s tape place line_rooms
  answered = play_answered s tape place empty (played_answer played left) after promise

  said : (v : Verdict) → verdict_of played ≡ v → (play_answer s tape place line_rooms).verdict ≡ v
  said v e = ap (λ (a : PlayAnswer). a.verdict) (sym answered) ∙ e

  -- What is printed for a verdict.
  module _ (shown : List ℕ) (small : length shown ≤ 64) where
    abbrev Goes : Option ℕ → Type 0
    Goes next = StepPrints s tape place line (record { next = next; state = left; text = shown })

    steps : (v : Verdict) → verdict_of played ≡ v → shown ≡ line_text line (line_from s tape place) v → Goes (line_next v)
    steps v e text =
        let left_is : left ≡ (line_from s tape place).state = ap (λ (a : PlayAnswer). a.state) answered in
        rw (left_is, said v e) (prints (line_next v) (line_from s tape place).state text small)

    pub step_row : (next : ℕ) → played ≡ Ok (Some next) → shown ≡ row_text line after.objects → Goes (Some next)
    step_row next e text =
        let verdict = ap verdict_of e in
        let pictures = promise.1 ∙ played_pictures s tape place empty next (said (Played next) verdict) in
        steps (Played next) verdict (rw pictures at text)

    pub step_ended : played ≡ Ok None → shown ≡ latches_text left → Goes None
    step_ended e text =
        let left_is : left ≡ (line_from s tape place).state = ap (λ (a : PlayAnswer). a.state) answered in
        steps Ended (ap verdict_of e) (rw left_is at text)

    pub step_refused :
        (fault : Fault) → played ≡ Err fault → shown ≡ refused_text (number_of fault.refusal) line fault.index → Goes None
    step_refused fault e text = steps (Refused (number_of fault.refusal) fault.index) (ap verdict_of e) text
