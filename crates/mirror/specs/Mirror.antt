-- The mirrored byte, and the table of all 256 (document 02, Three).
use Rattle.std.specs.Prelude.{ℕ, ◌-◌, List}
use Rattle.laws.specs.Bits.{bit, byte_of}
use Rattle.laws.specs.Tables.{table_of}

-- Bit n of the mirrored byte is bit 7 - n of the byte.
unfoldable pub mirrored : ℕ → ℕ
mirrored byte = byte_of (λ n. bit (7 - n) byte)

-- The table of 256 mirrored bytes, that of 0 first.
unfoldable pub mirrored_bytes : List ℕ
mirrored_bytes = table_of mirrored 256
