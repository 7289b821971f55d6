-- `list_line` meets its contract, by what the replay answers.
use Rattle.std.proofs.Common.{◌≡◌, ◌∙◌, ap, ℕ, Option, Result, Ok}
use Rattle.refusal.specs.declared.Fault.{Fault}
use Rattle.listing_text.proofs.StepLaws.{step_row, step_ended, step_refused}
use Rattle.listing_text.proofs.listing.list_line.Goals.{in-Ok-Some, in-Ok-None, in-Err}
use Rattle.listing_text.proofs.listing.list_line.Goals as goal

found : {played : Result (Option ℕ) Fault} {next is : Option ℕ} → played ≡ Ok next → next ≡ is → played ≡ Ok is
found e same = e ∙ ap Ok same

pub returns : goal.returns
returns c =
    let args = c.args in
    let played = c.play_line-played in
    elim c.match-played.branch [
      | in-Ok-Some w ↦
          rw w.next-is
          (step_row args.state args.tape.now args.place args.line played.result played.new.state _ played.ensures _ w.row_text.ensures.fits w.in-Ok-Some.next (found w.in-Ok-Some.is (rw w.in-Ok-Some.is at w.in-Ok-Some.field-0-is)) w.row_text.ensures.text)
      | in-Ok-None w ↦
          rw w.next-is
          (step_ended args.state args.tape.now args.place args.line played.result played.new.state _ played.ensures _ w.latches_text.ensures.fits (found w.in-Ok-None.is (rw w.in-Ok-None.is at w.in-Ok-None.field-0-is)) w.latches_text.ensures.text)
      | in-Err w ↦
          rw w.next-is
          (step_refused args.state args.tape.now args.place args.line played.result played.new.state _ played.ensures _ w.refused_text.ensures.fits _ w.in-Err.is w.refused_text.ensures.text)
    ]
