-- The known addresses as three ranges.
use mathlib.Core.Path.{◌≡◌}
use mathlib.Core.Bool.{Bool, true, false, ◌&&◌, ◌||◌}
use Prim.Native.Nat.{ℕ, ◌<◌, ◌≤◌}
use native.Mathlib.Omega.{arith}
use lib.Dec.{leb}
use Rattle.laws.proofs.Table.{below_same}
use Rattle.std.proofs.lemmas.Bool.Decides.{nat_tests}
use Rattle.tia.specs.Write.{NUSIZ0, RESBL, GRP0, VDELBL, HMOVE, CXCLR, known}

-- The addresses run from NUSIZ0 to RESBL, from GRP0 to VDELBL and from HMOVE to CXCLR.
abbrev in_ranges : ℕ → Bool
in_ranges a =
    (leb NUSIZ0 a && leb a RESBL) || ((leb GRP0 a && leb a VDELBL) || (leb HMOVE a && leb a CXCLR))

pub known_ranges : (a : ℕ) → a < 256 → in_ranges a ≡ known a
unfolding known
known_ranges = below_same 256 in_ranges known tt

-- Where an address is known, range by range, and where it is not.
pub known_first : (a : ℕ) → NUSIZ0 ≤ a → a ≤ RESBL → true ≡ known a
known_first a least most = let e = known_ranges a (omega arith) in grind (arith, nat_tests)

pub known_second : (a : ℕ) → GRP0 ≤ a → a ≤ VDELBL → true ≡ known a
known_second a least most = let e = known_ranges a (omega arith) in grind (arith, nat_tests)

pub known_third : (a : ℕ) → HMOVE ≤ a → a ≤ CXCLR → true ≡ known a
known_third a least most = let e = known_ranges a (omega arith) in grind (arith, nat_tests)

pub not_known :
    (a : ℕ) → a < 256 → (NUSIZ0 ≤ a → RESBL < a) → (GRP0 ≤ a → VDELBL < a) → (HMOVE ≤ a → CXCLR < a) → false ≡ known a
not_known a byte first second third = let e = known_ranges a byte in grind (arith, nat_tests)

pub ruleset known_where = (known_first, known_second, known_third, not_known)
