-- `rising` is safe: the buffer has as many bytes as the loop has made turns, and there is room for 255.
use mathlib.Core.Path.{◌≡◌}
use Rattle.arrayvec.specs.ArrayVec.{array_vec_len}
use Rattle.chip_report.proofs.buffers.rising.Given as goal

abbrev pub invariant-loop-index : goal.invariant-loop-index
invariant-loop-index l = array_vec_len l.buffer ≡ l.index
