-- `put_columns` meets its contract.
use Prim.Native.Nat.{◌*◌, ◌≤◌}
use Rattle.tia.specs.FirstLit.{first_lit_of}
use Rattle.listing_text.specs.Room.{Put}
use Rattle.listing_text.specs.Text.{spaced}
use Rattle.listing_text.specs.LineText.{column_text}
use Rattle.listing_text.proofs.line_text.put_columns.Given as goal

abbrev pub invariant-loop-object : goal.invariant-loop-object
invariant-loop-object l =
    (l.object ≤ 6) × Put (spaced (λ o. column_text (first_lit_of l.bytes o)) l.object) (4 * l.object) l.initial.text l.text
