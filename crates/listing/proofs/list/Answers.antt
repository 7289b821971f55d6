-- `list` is safe, ends, and follows the steps of the listing: before each turn the bytes of the steps so far and what the steps from
-- here print are the listing of the tape; the turn's number is that of its line.
use native.Mathlib.Omega.{arith}
use Rattle.listing_text.proofs.FollowLaws.{follows_opening, follows_line, within_opening, within_line}
use Rattle.listing.proofs.list.Goals as goal

pub loop-line-init : goal.loop-line-init
loop-line-init g c =
    record { follows = follows_opening _ _ c.opening-printed.ensures; within = within_opening _ _ c.opening-printed.ensures }

pub loop-line-preserved : goal.loop-line-preserved
loop-line-preserved g c =
    let follows = rw c.in-Some.is at c.loop-line.invariant.follows in
    let within = rw c.in-Some.is at c.loop-line.invariant.within in
    record {
      follows = follows_line _ _ _ _ _ (omega arith) follows c.list_line-printed.ensures;
      within = within_line _ _ _ _ _ c.list_line-printed.ensures within;
    }
