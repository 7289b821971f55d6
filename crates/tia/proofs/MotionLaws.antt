-- An object's motion and position: the slot that ends a motion as a natural number, and a pulse steps the position counter.
use mathlib.Core.Path.{◌≡◌, ◌∙◌, sym, ap}
use mathlib.Core.Logic.{⊎_elim}
use mathlib.Core.Bool.{Bool, true, cond}
use Prim.Native.Nat.{ℕ, ◌+◌, ◌%◌, ◌<◌, ◌≤◌}
use native.Mathlib.Omega.{arith}
use borrow.Author.Tests.{lt-ltb, le-ltb}
use lib.Dec.{eqb}
use lib.IntN.{ℤ, pos, ◌+ℤ◌, ◌-ℤ◌, neg_ℤ, pos-+ℤ-pos, +ℤ_assoc, +ℤ-neg_ℤ_cancel}
use Rattle.laws.specs.Steps.{after}
use Rattle.laws.proofs.Split.{split}
use Rattle.laws.proofs.Table.{below_equal}
use Rattle.counter.specs.Step.{plain_step, wrap_step}
use Rattle.counter.specs.Count.{value_of}
use Rattle.counter.specs.Kind.{position, step_of}
use Rattle.tia.specs.declared.object.Object.{Object}
use Rattle.tia.specs.Signed.{signed}
use Rattle.tia.specs.Object.{compare_value, counter_value, reached, pulsed_if}

-- The slot that ends a motion, 8 plus the signed motion value, is the remainder of 8 plus the motion value modulo 16.
abbrev pub end_slot : ℕ → ℕ
end_slot m = (m % 16 + 8) % 16

upward : (half : ℕ) → half < 8 → pos 8 +ℤ pos half ≡ pos ((half + 8) % 16)
upward half l = pos-+ℤ-pos 8 half ∙ ap pos (omega arith)

downward : (half : ℕ) → 8 ≤ half → half < 16 → pos 8 +ℤ (pos half -ℤ pos 16) ≡ pos ((half + 8) % 16)
downward half l h =
    sym (+ℤ_assoc (pos 8) (pos half) (neg_ℤ (pos 16)))
    ∙ ap (λ (k : ℤ). k -ℤ pos 16) (pos-+ℤ-pos 8 half ∙ ap pos (omega arith) ∙ sym (pos-+ℤ-pos ((half + 8) % 16) 16))
    ∙ +ℤ-neg_ℤ_cancel (pos ((half + 8) % 16)) (pos 16)

pub compare_is_remainder : (m : ℕ) → compare_value m ≡ pos (end_slot m)
unfolding signed
compare_is_remainder m =
    let half = m % 16 in
    ⊎_elim
    (λ (l : half < 8). rw (lt-ltb half 8 l) (upward half l))
    (λ (l : 8 ≤ half). rw (le-ltb half 8 l) (downward half l (omega arith)))
    (split half 8)

-- One pulse steps the position counter exactly when position modulo 4 is 3, and leaves it otherwise.
pub pulse_steps_counter :
    (start : Bool) (o : Object) → o.position < 160 →
    counter_value (pulsed_if true start o).position
    ≡ cond (eqb (o.position % 4) 3) (step_of position (counter_value o.position)) (counter_value o.position)
unfolding value_of after plain_step wrap_step
pulse_steps_counter start o =
    below_equal
    160
    (λ p. counter_value (reached true p))
    (λ p. cond (eqb (p % 4) 3) (step_of position (counter_value p)) (counter_value p))
    tt
    o.position
