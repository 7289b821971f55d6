-- The room of a text: 64 bytes, the text's first and zeros after them, so that the text gives the room back.
use Rattle.std.specs.Prelude.{ℕ, ◌≡◌, ◌-◌, ◌≤◌, List, ◌++◌, length, take, drop, replicate}
use mathlib.Core.Path.{◌∙◌, sym, ap}
use Rattle.std.proofs.lemmas.List.{length-take-le, take-append-drop}

-- A room with a text of this length.
abbrev pub Filled : (len : ℕ) (room : List ℕ) → Type 0
Filled len room = (length room ≡ 64) × (len ≤ length room) × (drop len room ≡ replicate (64 - len) 0)

-- The room of a text.
abbrev pub room_of : (text : List ℕ) → List ℕ
room_of text = text ++ replicate (64 - length text) 0

-- The text of a room gives back its length and the room.
pub len_back : (len : ℕ) (room : List ℕ) → Filled len room → length (take len room) ≡ len
len_back len room filled = length-take-le len room filled.1

pub room_back : (len : ℕ) (room : List ℕ) → Filled len room → room_of (take len room) ≡ room
room_back len room filled =
    ap (λ (n : ℕ). take len room ++ replicate (64 - n) 0) (len_back len room filled)
    ∙ (ap (λ (zeros : List ℕ). take len room ++ zeros) (sym filled.2) ∙ take-append-drop len room)
