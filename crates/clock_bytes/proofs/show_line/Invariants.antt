-- `show_line` is safe, ends, and writes the records in turn: before each clock the state is that before it.
use Prim.Native.Nat.{◌≤◌, ◌-◌}
use mathlib.Core.Path.{◌≡◌}
use Rattle.tia.specs.WriteList.{records_of, write_at}
use Rattle.clock_bytes.proofs.ShowLaws.{state_before}
use Rattle.clock_bytes.proofs.show_line.Given as goal

abbrev pub invariant-loop-h : goal.invariant-loop-h
invariant-loop-h g l =
    (l.h ≤ 228) × (l.state ≡ state_before (write_at (records_of l.writes)) l.initial.state l.h)

abbrev pub decreases-loop-h : goal.decreases-loop-h
decreases-loop-h g l = 228 - l.h
