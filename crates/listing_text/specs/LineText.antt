-- The text of each kind of printed line.
use Rattle.std.specs.Prelude.{ℕ, List, [], ◌++◌, get_or, Option, Some, None, Result, Ok, Err}
use Rattle.refusal.specs.declared.Refusal.{Refusal}
use Rattle.tia.specs.declared.state.State.{State}
use Rattle.tia.specs.FirstLit.{first_lit_of}
use Rattle.tia.specs.Answers.{read_out_answer}
use Rattle.listing_text.specs.Text.{ascii, byte_text, number_text, hex_byte, spaced}

-- The heading comes first, before a refusal too.
abbrev pub heading : List ℕ
heading = ascii "line P0 P1 M0 M1 BL PF\n"

-- Input over 65,536 bytes.
abbrev pub too_long : List ℕ
too_long = ascii "tape too long\n"

-- A first lit column, `-` for none. (No column is refused: a line has 160 bytes, and the objects are 0 to 5.)
abbrev pub column_text : Result (Option ℕ) Refusal → List ℕ
column_text (Ok (Some x)) = byte_text x
column_text (Ok None) = ascii "-"
column_text (Err refusal) = []

-- The first lit columns of P0, P1, M0, M1, BL and PF in a line's bytes.
abbrev pub columns_text : List ℕ → List ℕ
columns_text bytes = spaced (λ object. column_text (first_lit_of bytes object)) 6

-- The row of a line: its number and the columns.
unfoldable pub row_text : (line : ℕ) (bytes : List ℕ) → List ℕ
row_text line bytes = number_text line ++ (columns_text bytes ++ ascii "\n")

-- Eight bytes, two upper-case hexadecimal digits each.
abbrev pub eight_text : List ℕ → List ℕ
eight_text bytes = spaced (λ i. hex_byte (get_or bytes i 0)) 8

-- The latch bytes of a state.
unfoldable pub latches_text : State → List ℕ
latches_text s = ascii "cx" ++ (eight_text (read_out_answer s).bytes ++ ascii "\n")

-- A refusal: its number, the line not run, and the record's index.
unfoldable pub refused_text : (number line index : ℕ) → List ℕ
refused_text number line index =
    (ascii "refused " ++ byte_text number)
    ++ ((ascii " line " ++ number_text line) ++ ((ascii " record " ++ byte_text index) ++ ascii "\n"))
