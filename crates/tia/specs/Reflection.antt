-- What document 02, Three, says of a reflected player: it is lit as an unreflected one with the looked-up graphic.
use Rattle.std.specs.Prelude.{◌<◌, ◌≡◌, true, false}
use Rattle.mirror.specs.Mirror.{mirrored}
use Rattle.tia.specs.declared.object.Player.{Player}
use Rattle.tia.specs.declared.registers.Graphic.{Graphic}
use Rattle.tia.specs.Lit.{player_lit}

-- An unreflected graphic with the looked-up bytes, new and old; VDELP as it is.
abbrev pub looked_up : Graphic → Graphic
looked_up g = record { reflected = false; delayed = g.delayed; new = mirrored g.new; old = mirrored g.old }

-- A reflected player is lit exactly as an unreflected one with the looked-up graphic, at every pixel.
abbrev pub LitAsLookedUp : Type 0
LitAsLookedUp =
    (g : Graphic) (p : Player) → g.new < 256 → g.old < 256 → g.reflected ≡ true → player_lit g p ≡ player_lit (looked_up g) p
