-- `put_eight` meets its contract.
use native.Mathlib.Omega.{arith}
use borrow.Author.Rules.{rules}
use Rattle.listing_text.proofs.PutLaws.{spaced_more}
use Rattle.listing_text.proofs.line_text.put_eight.Goals as goal

pub loop-byte-preserved : goal.loop-byte-preserved
loop-byte-preserved c =
    (search rules, spaced_more _ _ c.loop-byte.invariant.1 c.put.ensures c.put_hex.ensures (omega arith))
