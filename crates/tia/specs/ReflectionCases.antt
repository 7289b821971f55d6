-- Columns that a reflected player lights (document 02, Three), computed line by line from the start state.
use Rattle.std.specs.Prelude.{List, [], ◌∷◌, ◌++◌}
use Rattle.mirror.specs.Mirror.{mirrored}
use Rattle.tia.specs.Write.{GRP0, GRP1, REFP0, VDELP0}
use Rattle.tia.specs.StretchCases.{StretchCase, claim_lit, strobed_at}

-- Player 0 of size 1, strobed at clock 100, begins in column 37. Its graphic, 11010010, lights columns 37, 38, 40 and 43; mirrored, 01001011,
-- it lights columns 38, 41, 43 and 44.
abbrev pub reflection_cases : List StretchCase
reflection_cases =
    -- Reflected, and unreflected with the looked-up graphic.
    claim_lit ((strobed_at 100 0b11010010 0 ++ (101 ∷ REFP0 ∷ 8 ∷ [])) ∷ [] ∷ []) (38 ∷ 41 ∷ 43 ∷ 44 ∷ [])
    ∷ claim_lit (strobed_at 100 (mirrored 0b11010010) 0 ∷ [] ∷ []) (38 ∷ 41 ∷ 43 ∷ 44 ∷ [])
    -- The old graphic, with VDELP0.
    ∷ claim_lit
    ((strobed_at 100 0b11010010 0 ++ (101 ∷ REFP0 ∷ 8 ∷ 102 ∷ VDELP0 ∷ 1 ∷ 103 ∷ GRP1 ∷ 0 ∷ 104 ∷ GRP0 ∷ 255 ∷ [])) ∷ [] ∷ [])
    (38 ∷ 41 ∷ 43 ∷ 44 ∷ [])
    -- Reflected halfway, from column 41 on.
    ∷ claim_lit (strobed_at 100 0b11010010 0 ∷ (109 ∷ REFP0 ∷ 8 ∷ []) ∷ []) (37 ∷ 38 ∷ 40 ∷ 41 ∷ 43 ∷ 44 ∷ [])
    ∷ []
