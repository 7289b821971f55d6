-- The refusal numbers, in the order of documents 01 and 02; and row 4 with its test, which a line call and a tape share.
use Rattle.std.specs.Prelude.{ℕ, ◌%◌, ◌<◌, ◌≡◌, ◌⊎◌, Bool, ◌||◌, not, eqb, ltb}

-- 1: a state field is outside its range, or a live flag is set with slot 16.
abbrev pub for_bad_state : ℕ
for_bad_state = 1

-- 2: a line is asked for and h is not 0.
abbrev pub for_line_clock : ℕ
for_line_clock = 2

-- 3: line buffer not 160 bytes.
abbrev pub for_buffer_length : ℕ
for_buffer_length = 3

-- 4: write list not a multiple of 3, or over 684 bytes.
abbrev pub for_list_length : ℕ
for_list_length = 4

abbrev pub bad_length : ℕ → Bool
bad_length n = not (eqb (n % 3) 0) || ltb 684 n

abbrev pub BadLength : ℕ → Type 0
BadLength n = (n % 3 ≡ 0 → ⊥) ⊎ (684 < n)

-- 5: a clock over 227.
abbrev pub for_clock_over : ℕ
for_clock_over = 5

-- 6: a clock not above the one before.
abbrev pub for_clock_order : ℕ
for_clock_order = 6

-- 7: unknown register.
abbrev pub for_unknown_register : ℕ
for_unknown_register = 7

-- 8: tape empty or version not 1.
abbrev pub for_version : ℕ
for_version = 8

-- 9: tape cut short, or the place is 0 or past its end.
abbrev pub for_tape_end : ℕ
for_tape_end = 9

-- 10: no such count (over 62), value (over 63; in conversion also 111111) or object (over 5).
abbrev pub for_no_such : ℕ
for_no_such = 10

-- 11: colour buffer not 160 bytes; checked after 3 (document 02, One).
abbrev pub for_colour_length : ℕ
for_colour_length = 11
