-- `list` is safe, ends, and follows the steps of the listing: before each turn the bytes of the steps so far and what the steps from
-- here print are the listing of the tape; the turn's number is that of its line.
use Prim.Native.Nat.{◌-◌}
use Rattle.replay.proofs.ReplayLaws.{enough}
use Rattle.listing_text.proofs.FollowLaws.{Following, Within}
use Rattle.listing.proofs.list.Given as goal

abbrev pub invariant-loop-line : goal.invariant-loop-line
invariant-loop-line g l =
    record {
      follows : Following l.tape (enough - l.line) l.line l.printed.state l.printed.next;
      within : Within l.tape l.line l.printed.next;
    }
