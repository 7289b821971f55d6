-- `show_clocks` is safe, ends, and follows the replay: before each turn the lines passed are those before the line at the place.
use mathlib.Core.Path.{◌≡◌, ◌∙◌, refl, ap}
use Prim.Native.Nat.{◌<◌}
use native.Mathlib.Omega.{arith}
use borrow.Author.Rules.{rules}
use Rattle.std.specs.Prelude.{Ok}
use Rattle.replay.proofs.ReplayLaws.{enough}
use Rattle.clock_bytes.proofs.ShowLaws.{passed_none, records_played, passed_more}
use Rattle.clock_bytes.proofs.show_clocks.Goals as goal

pub loop-line-init : goal.loop-line-init
loop-line-init g c =
    record { bytes = refl; colours = refl; passed = rw c.start-state.ensures (passed_none c.args.tape.now c.requires.0) }

pub loop-line-preserved : goal.loop-line-preserved
loop-line-preserved g c =
    let inv = c.loop-line.invariant in
    let more : c.loop-line.line < enough = omega (arith, c.ranges.number.fits) in
    record {
      bytes = search rules;
      colours = search rules;
      passed = passed_more _ _ _ _ _ _ c.play_line.result _ _ more inv.bytes inv.colours inv.passed c.play_line.ensures cc;
    }

pub show_line-requires : goal.show_line-requires
show_line-requires g c =
    let inv = c.loop-line.invariant in
    let last : c.loop-line.line ≡ c.args.number = omega arith in
    let more : c.loop-line.line < enough = omega (arith, c.ranges.number.fits) in
    let played = c.in-Ok-Some-play_line in
    rw (c.stretch_at.ensures.0, ← c.requires.1, ← last)
    (records_played
    _
    _
    _
    _
    _
    _
    c.play_line-2.result
    _
    _
    more
    inv.bytes
    inv.colours
    inv.passed
    c.play_line-2.ensures
    (played.is ∙ ap Ok played.field-0-is))
