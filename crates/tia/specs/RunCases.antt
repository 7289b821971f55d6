-- Runs that meet demand 3's premises, and runs that show that each premise is needed, with what comes of them.
use Rattle.std.specs.Prelude.{ℕ, ◌≡◌, refl, Bool, true, false, List, [], ◌∷◌, ℤ, pos, negsuc, length, replicate}
use Rattle.tia.specs.declared.state.State.{State}
use Rattle.tia.specs.Write.{HMCLR, HMM0, HMOVE, RESM0}
use Rattle.tia.specs.Object.{columns}
use Rattle.tia.specs.Line.{buffers}
use Rattle.tia.specs.Movable.{Movable, position_of}
use Rattle.tia.specs.Run.{is_slice, Call, defined_line, state_after, accepted_lists, sum_of, allowed}
use Rattle.tia.specs.Demand3.{turned}

-- A call with buffers of 160 bytes.
abbrev pub calling : (writes : List ℕ) → is_slice writes ≡ true → Call
calling writes slice =
    record {
      writes = writes;
      lent = buffers (replicate columns 0) (replicate columns 0);
      writes_slice = slice;
      objects_slice = refl;
      colours_slice = refl;
    }

-- What comes of a run: how many lines are accepted, whether the premises hold, the sum, the position that demand 3 claims and
-- the position itself.
pub record Outcome : Type 0 where
  pub accepted : ℕ
  pub premises : Bool
  pub sum : ℤ
  pub claimed : ℕ
  pub position : ℕ

unfoldable pub outcome_of : Movable → State → List Call → Outcome
outcome_of o s calls =
    let lists = accepted_lists defined_line s calls in
    record {
      accepted = length lists;
      premises = allowed o lists;
      sum = sum_of o s lists;
      claimed = turned (position_of o s) (sum_of o s lists);
      position = position_of o (state_after defined_line s calls);
    }

-- A run of missile 0 from the start state, at position 0, and its outcome.
pub record RunCase : Type 0 where
  pub calls : List Call
  pub outcome : Outcome

abbrev pub run : List Call → (accepted : ℕ) (sum : ℤ) (position : ℕ) → RunCase
run calls accepted sum position =
    record {
      calls = calls;
      outcome = record { accepted = accepted; premises = true; sum = sum; claimed = position; position = position };
    }

abbrev pub broken : List Call → (accepted : ℕ) (sum : ℤ) (claimed position : ℕ) → RunCase
broken calls accepted sum claimed position =
    record {
      calls = calls;
      outcome = record { accepted = accepted; premises = false; sum = sum; claimed = claimed; position = position };
    }

-- Calls for missile 0: motion values -1 and 7 with HMOVE at 9, HMOVE alone, and one that is refused for its last record.
abbrev pub right_by_one : Call
right_by_one = calling (0 ∷ HMM0 ∷ 0xF0 ∷ 9 ∷ HMOVE ∷ 0 ∷ []) refl

abbrev pub left_by_seven : Call
left_by_seven = calling (0 ∷ HMM0 ∷ 0x70 ∷ 9 ∷ HMOVE ∷ 0 ∷ []) refl

abbrev pub again_at_zero : Call
again_at_zero = calling (0 ∷ HMOVE ∷ 0 ∷ []) refl

abbrev pub again_at_fifteen : Call
again_at_fifteen = calling (15 ∷ HMOVE ∷ 0 ∷ []) refl

abbrev pub refused_call : Call
refused_call = calling (0 ∷ HMM0 ∷ 0x10 ∷ 9 ∷ HMOVE ∷ 0 ∷ 10 ∷ 0x00 ∷ 0 ∷ []) refl

-- The motion register written after a motion; HMCLR between the motion register and HMOVE.
abbrev pub rewritten_after : Call
rewritten_after = calling (0 ∷ HMM0 ∷ 0x70 ∷ 9 ∷ HMOVE ∷ 0 ∷ 76 ∷ HMM0 ∷ 0x80 ∷ []) refl

abbrev pub cleared_before : Call
cleared_before = calling (0 ∷ HMM0 ∷ 0x70 ∷ 3 ∷ HMCLR ∷ 0 ∷ 9 ∷ HMOVE ∷ 0 ∷ []) refl

-- HMOVE at 16; the motion register at clock 72 after HMOVE; the missile's own strobe.
abbrev pub hmove_at_sixteen : Call
hmove_at_sixteen = calling (0 ∷ HMM0 ∷ 0x70 ∷ 16 ∷ HMOVE ∷ 0 ∷ []) refl

abbrev pub rewritten_at72 : Call
rewritten_at72 = calling (0 ∷ HMM0 ∷ 0x70 ∷ 9 ∷ HMOVE ∷ 0 ∷ 72 ∷ HMM0 ∷ 0 ∷ []) refl

abbrev pub own_strobe : Call
own_strobe = calling (100 ∷ RESM0 ∷ 0 ∷ []) refl

abbrev pub run_cases : List RunCase
run_cases =
    run (right_by_one ∷ []) 1 (negsuc 0) 159
    -- Across column 0: from column 3 to 156.
    ∷ run (left_by_seven ∷ []) 1 (pos 7) 7
    -- A refused call in the middle counts for nothing.
    ∷ run (left_by_seven ∷ refused_call ∷ again_at_fifteen ∷ []) 2 (pos 14) 14
    -- The motion register rewritten before a second HMOVE, on a later line.
    ∷ run (rewritten_after ∷ right_by_one ∷ []) 2 (pos 6) 6
    ∷ run (left_by_seven ∷ again_at_zero ∷ again_at_fifteen ∷ []) 3 (pos 21) 21
    ∷ run (cleared_before ∷ []) 1 (pos 0) 0
    -- The empty run.
    ∷ run [] 0 (pos 0) 0
    -- Without a premise the claim is false.
    ∷ broken (hmove_at_sixteen ∷ []) 1 (pos 7) 7 6
    ∷ broken (rewritten_at72 ∷ []) 1 (pos 7) 7 8
    ∷ broken (own_strobe ∷ []) 1 (pos 0) 0 127
    ∷ []
