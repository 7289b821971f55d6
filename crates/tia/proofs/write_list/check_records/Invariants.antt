-- `check_records` meets its contract.
use lib.ListN.{length}
use Rattle.tia.proofs.CursorLaws.{Checking}
use Rattle.tia.proofs.write_list.check_records.Given as goal

abbrev pub invariant-loop-rest : goal.invariant-loop-rest
invariant-loop-rest l = Checking l.writes l.rest l.index l.least

abbrev pub decreases-loop-rest : goal.decreases-loop-rest
decreases-loop-rest l = length l.rest
