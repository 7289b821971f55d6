-- What request Two means while a player's size stays: it is lit by its age alone, and at size 1 exactly as document 01's rule lit it.
use Rattle.std.specs.Prelude.{ℕ, ◌+◌, ◌-◌, ◌*◌, ◌/◌, ◌≡◌, Bool, true, false, cond, ◌&&◌, ◌||◌, List, [], ◌∷◌, eqb, leb}
use Rattle.tia.specs.declared.object.Moved.{Moved}
use Rattle.tia.specs.declared.object.Player.{Player}
use Rattle.tia.specs.declared.registers.Graphic.{Graphic}
use Rattle.tia.specs.declared.state.State.{State}
use Rattle.tia.specs.declared.write.Write.{Write}
use Rattle.tia.specs.Timing.{timing_written, tick_of}
use Rattle.tia.specs.Drawing.{shown_bit}
use Rattle.tia.specs.Object.{size_of, object_after}
use Rattle.tia.specs.Lit.{player_lit}
use Rattle.tia.specs.Clock.{clock_of}
use Rattle.tia.specs.Movable.{Movable, P0, P1, strobe_of, motion_register_of, body_of}

-- Lit from one age to another, each pixel at size ages, one after another: that is size columns wide where no blank and no extra pulse
-- comes between.
abbrev pub lit_between : Graphic → (size first last age : ℕ) → Bool
lit_between g size first last age = (leb first age && leb age last) && shown_bit g ((age - first) / size)

-- A copy of size 1, 2 or 4 lights its pixels at ages 5 to 12, 6 to 21 or 6 to 37.
abbrev pub lit_by_age : Graphic → (size age : ℕ) → Bool
lit_by_age g size =
    cond (eqb size 1) (lit_between g 1 5 12) (cond (eqb size 2) (lit_between g 2 6 21) (lit_between g 4 6 37))

-- Document 01's step 8, which the request replaces: lit at ages 5 to 4 + 8 x size, showing bit (age - 5) / size.
abbrev pub lit_by_document01 : Graphic → Player → Bool
lit_by_document01 g p = lit_between g p.size 5 (4 + 8 * p.size) p.body.age

-- The two players by name: the player, its copies and its graphic in a state, and what a clock does to its object.
pub data PlayerName : Type 0 where
  Player0 : PlayerName
  Player1 : PlayerName

abbrev pub movable_of : PlayerName → Movable
movable_of Player0 = P0
movable_of Player1 = P1

abbrev pub player_of : PlayerName → State → Player
player_of Player0 s = s.objects.p0
player_of Player1 s = s.objects.p1

abbrev pub copies_of : PlayerName → State → ℕ
copies_of Player0 s = s.registers.nusiz0.copies
copies_of Player1 s = s.registers.nusiz1.copies

abbrev pub graphic_of : PlayerName → State → Graphic
graphic_of Player0 s = s.registers.graphic0
graphic_of Player1 s = s.registers.graphic1

abbrev pub moved_on : PlayerName → State → Write → Moved
moved_on q s w =
    let o = movable_of q in
    let k = tick_of w (timing_written w s.timing) in
    object_after k (strobe_of o) (motion_register_of o) (copies_of q (clock_of s w).state) w (body_of o s.objects)

-- Clocks one after another, each with its write: the state after them.
abbrev pub after_clocks : State → List Write → State
after_clocks s [] = s
after_clocks s (w ∷ ws) = after_clocks (clock_of s w).state ws

-- On each of them the copies, after its write, are of a kind.
abbrev pub CopiesAlways : PlayerName → (ℕ → Type 0) → State → List Write → Type 0
CopiesAlways q Kind s [] = Unit {0}
CopiesAlways q Kind s (w ∷ ws) = Kind (copies_of q (clock_of s w).state) × CopiesAlways q Kind (clock_of s w).state ws

-- From a clock that starts a copy on, whatever is written, strobes and motion among it, as long as the copies are of one size: what
-- step 8 lights on the last of these clocks goes by the age.
abbrev pub LitByAge : Type 0
LitByAge =
    (q : PlayerName) (size : ℕ) (s : State) (w : Write) (ws : List Write) → (moved_on q s w).started ≡ true →
    CopiesAlways q (λ copies. size_of copies ≡ size) s (w ∷ ws) →
    let end = after_clocks s (w ∷ ws) in
    player_lit (graphic_of q end) (player_of q end) ≡ lit_by_age (graphic_of q end) size (player_of q end).body.age

-- From such a clock on, as long as the copies are never 5 or 7: lit exactly as document 01's rule lit it.
abbrev pub LitAsDocument01 : Type 0
LitAsDocument01 =
    (q : PlayerName) (s : State) (w : Write) (ws : List Write) → (moved_on q s w).started ≡ true →
    CopiesAlways q (λ copies. (eqb copies 5 || eqb copies 7) ≡ false) s (w ∷ ws) →
    let end = after_clocks s (w ∷ ws) in
    player_lit (graphic_of q end) (player_of q end) ≡ lit_by_document01 (graphic_of q end) (player_of q end)
