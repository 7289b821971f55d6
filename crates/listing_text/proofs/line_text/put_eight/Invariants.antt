-- `put_eight` meets its contract.
use Prim.Native.Nat.{◌*◌, ◌≤◌}
use lib.ListN.{get_or}
use Rattle.listing_text.specs.Room.{Put}
use Rattle.listing_text.specs.Text.{hex_byte, spaced}
use Rattle.listing_text.proofs.line_text.put_eight.Given as goal

abbrev pub invariant-loop-byte : goal.invariant-loop-byte
invariant-loop-byte l =
    (l.byte-index ≤ 8) × Put (spaced (λ k. hex_byte (get_or l.fn.bytes k 0)) l.byte-index) (3 * l.byte-index) l.initial.text l.text
