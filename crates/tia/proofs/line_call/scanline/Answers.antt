-- `scanline` meets its contract.
use Rattle.tia.proofs.ScanlineLaws.{line_starts, line_goes_on, line_ends}
use Rattle.tia.proofs.line_call.scanline.Goals as goal

pub loop-h-init : goal.loop-h-init
loop-h-init c = line_starts c.requires

pub loop-h-preserved : goal.loop-h-preserved
loop-h-preserved c =
    line_goes_on c.loop-h.invariant c.loop-h-test.true c.due-write.ensures.0 c.steps-clocked.ensures c.store.ensures c.store-in-loop-h.ensures
    c.due-write.ensures.1

pub returns : goal.returns
returns c = line_ends c.loop-h.invariant c.loop-h-test.false
