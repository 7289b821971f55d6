-- The words of the listing: text as ASCII bytes, numbers in decimal and in hexadecimal.
use Rattle.std.specs.Prelude.{ℕ, zero, suc, ◌+◌, ◌-◌, ◌/◌, ◌%◌, cond, List, [], ◌∷◌, ◌++◌, ltb}
use Prim.Native.Char.{code}
use Prim.Native.String.{String, [] as end, ◌∷◌ as ◌followed-by◌}

-- The bytes of a text.
abbrev pub ascii : String → List ℕ
ascii end = []
ascii (c followed-by text) = code c ∷ ascii text

-- A number in decimal, without leading zeros, in at most so many digits.
unfoldable pub digits_of : (most : ℕ) → ℕ → List ℕ
digits_of zero n = []
digits_of (suc most) n = cond (ltb n 10) ((48 + n % 10) ∷ []) (digits_of most (n / 10) ++ ((48 + n % 10) ∷ []))

-- A byte has at most three digits, a number of 32 bits at most ten.
abbrev pub byte_text : ℕ → List ℕ
byte_text n = digits_of 3 n

abbrev pub number_text : ℕ → List ℕ
number_text n = digits_of 10 n

-- A byte in two upper-case hexadecimal digits.
abbrev pub hex_digit : ℕ → ℕ
hex_digit n = cond (ltb n 10) (48 + n) (65 + (n - 10))

abbrev pub hex_byte : ℕ → List ℕ
hex_byte b = hex_digit (b / 16) ∷ hex_digit (b % 16) ∷ []

-- A space and a part for each of the first so many numbers.
unfoldable pub spaced : (part : ℕ → List ℕ) (count : ℕ) → List ℕ
spaced part zero = []
spaced part (suc n) = spaced part n ++ (ascii " " ++ part n)
