-- The first lit column of an object in a line's answer bytes.
use Rattle.std.specs.Prelude.{ℕ, suc, Bool, cond, ◌&&◌, not, List, [], ◌∷◌, eqb, ltb, length, get_or, Option, Some, None, Result, Ok, Err}
use Rattle.laws.specs.Bits.{bit}
use Rattle.refusal.specs.declared.Refusal.{Refusal}
use Rattle.refusal.specs.declared.Refusal.TheVariants.{BufferLength, NoSuch}
use Rattle.refusal.specs.Refusal.{number_of}
use Rattle.tia.specs.Object.{columns}

-- Objects are 0 to 5: P0, P1, M0, M1, BL, PF. An answer byte shows one if it has bits 6 and 7 clear and that object's bit set.
unfoldable pub shows : (object byte : ℕ) → Bool
shows object byte = (not (bit 6 byte) && not (bit 7 byte)) && bit object byte

-- Column x of a line's answer bytes shows an object.
abbrev pub shows_at : (object : ℕ) → List ℕ → ℕ → Bool
shows_at object bytes x = shows object (get_or bytes x 0)

-- The smallest column whose byte shows it, or none; columns are counted from x.
unfoldable pub first_from : (object x : ℕ) → List ℕ → Option ℕ
first_from object x [] = None
first_from object x (byte ∷ bytes) =
    let later = first_from object (suc x) bytes in
    cond (shows object byte) (Some x) later

-- Refusal 3, then 10, then the column.
unfoldable pub first_lit_of : List ℕ → ℕ → Result (Option ℕ) Refusal
first_lit_of buffer object =
    cond (not (eqb (length buffer) columns)) (Err BufferLength)
    (cond (ltb 5 object) (Err NoSuch) (Ok (first_from object 0 buffer)))

-- The paper's numbers for each case: the case (0 a column, 1 none, 2 refused), the refusal number (0: not refused), the index of
-- the record at fault, and the column. Different answers have different numbers (`same_column`).
pub record ColumnAnswer : Type 0 where
  pub case : ℕ
  pub number : ℕ
  pub index : ℕ
  pub column : ℕ

abbrev pub column_answer : Result (Option ℕ) Refusal → ColumnAnswer
column_answer (Ok (Some x)) = record { case = 0; number = 0; index = 0; column = x }
column_answer (Ok None) = record { case = 1; number = 0; index = 0; column = 0 }
column_answer (Err refusal) = record { case = 2; number = number_of refusal; index = 0; column = 0 }

abbrev pub first_lit_answer : List ℕ → (object : ℕ) → ColumnAnswer
first_lit_answer buffer object = column_answer (first_lit_of buffer object)
