-- A card that is made entry by entry is the table that has these entries.
use mathlib.Core.Path.{◌≡◌, ◌∙◌}
use mathlib.Core.List.{List}
use Prim.Native.Nat.{ℕ, ◌<◌}
use native.Mathlib.Omega.{arith}
use borrow.Author.Tests.{le-ltb}
use denote.Param.Members.{Mut}
use lib.ListN.{length, get_or}
use Rattle.std.specs.Array.{IsFromFnResult}
use Rattle.std.specs.Fn.{Called}
use Rattle.std.proofs.lemmas.Grind.{same_number_lists}
use Rattle.counter.specs.Count.{card}
use Rattle.counter.specs.Answers.{value_answer}
use Rattle.counter.proofs.CountLaws.{card_agrees}

-- Each entry that is made is the table's, and so are all.
pub filled :
    {F : Type 0} {g : Mut F (ℕ × Unit {0}) ℕ} {f : F} (table made : List ℕ) → IsFromFnResult g f made (length table) →
    ((k entry : ℕ) (p q : F) → k < length table → Called g p (k, tt) entry q → entry ≡ get_or table k 0) → made ≡ table
filled table made is same =
    same_number_lists made table is.long
    (λ k h. let below : k < length table = omega (arith, is.long) in
    let call = is.at k 0 below in same k (get_or made k 0) call.0 call.1 below call.2)

-- The entries of the counter's card are the answers of its public call.
pub entry_is_value : (n : ℕ) → n < 63 → get_or card n 0 ≡ (value_answer n).value
unfolding value_answer
entry_is_value n h = card_agrees n h ∙ rw (le-ltb 62 n (omega arith))
