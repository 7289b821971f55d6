-- The printed lines by parts, as the code puts them.
use mathlib.Core.Path.{◌≡◌, sym}
use mathlib.Core.List.{List}
use Prim.Native.Nat.{ℕ}
use Rattle.std.specs.Prelude.{Option, Result}
use Rattle.refusal.specs.declared.Refusal.{Refusal}
use Rattle.tia.specs.FirstLit.{first_lit_of, column_answer, first_lit_answer}
use Rattle.tia.proofs.FirstLitLaws.{same_column}
use Rattle.listing_text.specs.Room.{Put}
use Rattle.listing_text.specs.LineText.{column_text}

-- The text of a column that was found, by what it is.
pub found_text :
    (bytes : List ℕ) (object : ℕ) (found : Result (Option ℕ) Refusal) {is : Result (Option ℕ) Refusal} {most : ℕ}
    {before after : List ℕ} → column_answer found ≡ first_lit_answer bytes object → found ≡ is → Put (column_text is) most before after →
    Put (column_text (first_lit_of bytes object)) most before after
found_text bytes object found e same p =
    let answer : first_lit_of bytes object ≡ found = sym (same_column e) in
    rw (answer, same) p
