-- `repeat` is safe, ends, and makes the calls: before each turn the calls from here give what all of them give.
use mathlib.Core.Path.{◌≡◌}
use Prim.Native.Nat.{◌≤◌, ◌-◌}
use lib.ListN.{length}
use Rattle.tia.specs.Line.{buffers}
use Rattle.repeat_line.proofs.RepeatedLaws.{Repeating}
use Rattle.repeat_line.proofs.repeat.Given as goal

abbrev pub invariant-loop-turn : goal.invariant-loop-turn
invariant-loop-turn l =
    (l.turn ≤ l.count)
    × (length l.buffer ≡ length l.initial.buffer)
    × (length l.colours ≡ length l.initial.colours)
    × Repeating l.count l.turn l.state l.writes (buffers l.initial.buffer l.initial.colours) (buffers l.buffer l.colours)

abbrev pub decreases-loop-turn : goal.decreases-loop-turn
decreases-loop-turn l = l.count - l.turn
