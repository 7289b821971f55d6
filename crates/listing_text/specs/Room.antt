-- Text put after the text of a printed line, which has room for 64 bytes.
use Rattle.std.specs.Prelude.{ℕ, ◌+◌, ◌≡◌, ◌≤◌, List, ◌++◌, length}

-- So many more bytes fit.
abbrev pub HasRoom : (more : ℕ) (text : List ℕ) → Type 0
HasRoom more text = length text + more ≤ 64

-- The text after is the text before and the part that is put, which has at most so many bytes.
pub record Put (part : List ℕ) (most : ℕ) (before after : List ℕ) : Type 0 where
  pub after_is : after ≡ before ++ part
  pub within : length after ≤ length before + most
