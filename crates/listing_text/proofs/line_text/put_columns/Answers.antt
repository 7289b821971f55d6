-- `put_columns` meets its contract.
use native.Mathlib.Omega.{arith}
use borrow.Author.Rules.{rules}
use Rattle.listing_text.proofs.PutLaws.{spaced_more}
use Rattle.listing_text.proofs.line_text.put_columns.Goals as goal

pub loop-object-preserved : goal.loop-object-preserved
loop-object-preserved c =
    (search rules, spaced_more _ _ c.loop-object.invariant.1 c.put.ensures c.put_column.ensures (omega arith))
