-- `show_clocks` is safe, ends, and follows the replay: before each turn the lines passed are those before the line at the place.
use mathlib.Core.Path.{◌≡◌}
use lib.ListN.{length}
use Rattle.clock_bytes.proofs.ShowLaws.{Passed}
use Rattle.clock_bytes.proofs.show_clocks.Given as goal

abbrev pub invariant-loop-line : goal.invariant-loop-line
invariant-loop-line g l =
    record { bytes : length l.bytes ≡ 160; colours : length l.colours ≡ 160; passed : Passed l.tape l.line l.state l.place }
