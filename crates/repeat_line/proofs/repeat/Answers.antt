-- `repeat` is safe, ends, and makes the calls: before each turn the calls from here give what all of them give.
use borrow.Author.Rules.{rules}
use Rattle.repeat_line.proofs.RepeatedLaws.{repeats}
use Rattle.repeat_line.proofs.repeat.Goals as goal

pub loop-turn-preserved : goal.loop-turn-preserved
loop-turn-preserved c =
    (search rules, search rules, search rules, repeats _ _ _ _ _ _ _ _ c.loop-turn-test.true c.loop-turn.invariant.3 c.line.ensures)
