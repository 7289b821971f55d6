-- `show_lines` is safe, ends, and follows the replay: before each turn the lines written and the lines from here on are those of
-- the replay of the tape; the turn's number is that of its line.
use mathlib.Core.Path.{◌≡◌}
use lib.ListN.{length}
use Rattle.tia.specs.Line.{buffers}
use Rattle.line_bytes.proofs.ShownLaws.{Shown}
use Rattle.line_bytes.proofs.show_lines.Given as goal

abbrev pub invariant-loop-line : goal.invariant-loop-line
invariant-loop-line g l =
    record {
      objects : length l.bytes ≡ 160;
      colours : length l.colours ≡ 160;
      shown : Shown l.tape l.line l.state l.place (buffers l.bytes l.colours);
    }
