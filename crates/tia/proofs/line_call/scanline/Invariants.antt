-- `scanline` meets its contract.
use Prim.Native.Nat.{◌-◌}
use Rattle.tia.specs.Line.{buffers}
use Rattle.tia.proofs.ScanlineLaws.{Running}
use Rattle.tia.proofs.line_call.scanline.Given as goal

abbrev pub invariant-loop-h : goal.invariant-loop-h
invariant-loop-h l =
    Running l.initial.state l.writes l.state (buffers l.buffer l.colours) l.rest l.h

abbrev pub decreases-loop-h : goal.decreases-loop-h
decreases-loop-h l = 228 - l.h
