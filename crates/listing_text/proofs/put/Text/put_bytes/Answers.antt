-- `put_bytes` leaves zeros after the text.
use mathlib.Core.Path.{ap}
use lib.ListN.{length}
use native.Mathlib.Omega.{arith}
use Rattle.listing_text.specs.TextRoom.{len_back}
use Rattle.listing_text.proofs.TextLaws.{filled_more}
use Rattle.listing_text.proofs.put.Text.put_bytes.Goals as goal

pub invariant_of-self : goal.invariant_of-self
invariant_of-self c =
    let before = ap length c.self.view_is in
    let room = c.requires in
    filled_more _ _ _ _ c.self.invariant (omega (arith, ap length c.copy_from_slice.ensures.after))
    (omega (arith, room, before, len_back _ _ c.self.invariant))
