-- A reflected player is lit as an unreflected one with the looked-up graphic.
use mathlib.Core.Path.{◌≡◌, ◌∙◌, refl, sym, ap}
use mathlib.Core.Logic.{⊎_elim}
use mathlib.Core.Bool.{Bool, true, false, cond, ◌&&◌}
use Prim.Native.Nat.{ℕ, ◌-◌, ◌<◌, ◌≤◌}
use borrow.Author.Tests.{le-ltb}
use lib.Dec.{ltb}
use Rattle.laws.specs.Bits.{bit}
use Rattle.laws.proofs.Bools.{cond_below}
use Rattle.laws.proofs.Split.{split}
use Rattle.mirror.specs.Mirror.{mirrored}
use Rattle.mirror.proofs.MirrorLaws.{mirrored_from_the_left}
use Rattle.tia.specs.declared.registers.Graphic.{Graphic}
use Rattle.tia.specs.Drawing.{shown_graphic, shown_bit, drawing_lit}
use Rattle.tia.specs.Reflection.{looked_up, LitAsLookedUp}

-- The looked-up graphic, read from bit 7 down, is the shown one read from bit 0 up: table and bit rule agree.
pub looked_up_is_shown :
    (g : Graphic) (n : ℕ) → g.new < 256 → g.old < 256 → g.reflected ≡ true → n < 8 →
    bit (7 - n) (mirrored (shown_graphic g)) ≡ shown_bit g n
looked_up_is_shown g n new old reflected h = rw reflected (mirrored_from_the_left (shown_graphic g) n (cond_below g.delayed old new) h)

-- A graphic is chosen and then looked up, or looked up and then chosen.
chosen_mirrored : (delayed : Bool) (old new : ℕ) → mirrored (cond delayed old new) ≡ cond delayed (mirrored old) (mirrored new)
chosen_mirrored true old new = refl
chosen_mirrored false old new = refl

pub lit_as_looked_up : LitAsLookedUp
unfolding drawing_lit
lit_as_looked_up g p new old reflected =
    ⊎_elim
    (λ (h : pixel < 8). ap (λ b. ltb pixel 8 && b) (same_bit h))
    (λ (h : 8 ≤ pixel). rw (le-ltb pixel 8 h))
    (split pixel 8)
  where
    pixel : ℕ
    pixel = p.drawing.pixel

    same_bit : pixel < 8 → shown_bit g pixel ≡ shown_bit (looked_up g) pixel
    same_bit h =
        sym (looked_up_is_shown g pixel new old reflected h) ∙ ap (bit (7 - pixel)) (chosen_mirrored g.delayed g.old g.new)
