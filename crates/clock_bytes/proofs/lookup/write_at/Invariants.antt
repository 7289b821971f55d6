-- `write_at` meets its contract. The loop's invariant: what is left of the list has the write of the whole.
use mathlib.Core.Path.{◌≡◌}
use lib.ListN.{length}
use Rattle.tia.specs.WriteList.{records_of, write_at}
use Rattle.clock_bytes.proofs.lookup.write_at.Given as goal

abbrev pub invariant-loop-rest : goal.invariant-loop-rest
invariant-loop-rest l = write_at (records_of l.rest) l.clock ≡ write_at (records_of l.writes) l.clock

abbrev pub decreases-loop-rest : goal.decreases-loop-rest
decreases-loop-rest l = length l.rest
