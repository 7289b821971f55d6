-- A refusal's number is its own: it is not 0, and no other refusal has it.
use mathlib.Core.Path.{◌≡◌, refl}
use mathlib.Core.Bool.{cond}
use Prim.Native.Nat.{ℕ}
use native.Mathlib.Omega.{arith}
use lib.Dec.{eqb}
use Rattle.laws.proofs.OneToOne.{one_to_one}
use Rattle.refusal.specs.declared.Refusal.{Refusal}
use Rattle.refusal.specs.declared.Refusal.TheVariants as refusal
use Rattle.refusal.specs.Refusal.{number_of}

refusal_back : ℕ → Refusal
refusal_back n =
    cond (eqb n 1) refusal.BadState
    (cond (eqb n 2) refusal.LineClock
    (cond (eqb n 3) refusal.BufferLength
    (cond (eqb n 4) refusal.ListLength
    (cond (eqb n 5) refusal.ClockOver
    (cond (eqb n 6) refusal.ClockOrder
    (cond (eqb n 7) refusal.UnknownRegister
    (cond (eqb n 8) refusal.Version
    (cond (eqb n 9) refusal.TapeEnd (cond (eqb n 10) refusal.NoSuch refusal.ColourLength)))))))))

refusal_inverse : (r : Refusal) → refusal_back (number_of r) ≡ r
unfolding refusal_back
refusal_inverse refusal.BadState = refl
refusal_inverse refusal.LineClock = refl
refusal_inverse refusal.BufferLength = refl
refusal_inverse refusal.ListLength = refl
refusal_inverse refusal.ClockOver = refl
refusal_inverse refusal.ClockOrder = refl
refusal_inverse refusal.UnknownRegister = refl
refusal_inverse refusal.Version = refl
refusal_inverse refusal.TapeEnd = refl
refusal_inverse refusal.NoSuch = refl
refusal_inverse refusal.ColourLength = refl

pub same_refusal : {a b : Refusal} → number_of a ≡ number_of b → a ≡ b
same_refusal e = one_to_one number_of refusal_back refusal_inverse e

pub number_not_zero : (r : Refusal) → number_of r ≡ 0 → ⊥
number_not_zero refusal.BadState e = omega (arith, e)
number_not_zero refusal.LineClock e = omega (arith, e)
number_not_zero refusal.BufferLength e = omega (arith, e)
number_not_zero refusal.ListLength e = omega (arith, e)
number_not_zero refusal.ClockOver e = omega (arith, e)
number_not_zero refusal.ClockOrder e = omega (arith, e)
number_not_zero refusal.UnknownRegister e = omega (arith, e)
number_not_zero refusal.Version e = omega (arith, e)
number_not_zero refusal.TapeEnd e = omega (arith, e)
number_not_zero refusal.NoSuch e = omega (arith, e)
number_not_zero refusal.ColourLength e = omega (arith, e)
