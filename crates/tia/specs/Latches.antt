-- The fifteen collision latches: the pairs lit together, CXCLR, and the read-out (steps 2 and 10).
use Rattle.std.specs.Prelude.{ℕ, ◌+◌, Bool, false, cond, ◌&&◌, ◌||◌, List, [], ◌∷◌}
use Rattle.laws.specs.Bits.{weight}
use Rattle.tia.specs.declared.latches.Latches.{Latches}
use Rattle.tia.specs.declared.lit.Lit.{Lit}
use Rattle.tia.specs.declared.write.Write.{Write}
use Rattle.tia.specs.Write.{CXCLR, hits}
use Rattle.tia.specs.State.{no_latches}

-- Every pair lit together.
abbrev pub pairs_of : Lit → Latches
pairs_of l =
    record {
      m0p1 = l.m0 && l.p1;
      m0p0 = l.m0 && l.p0;
      m1p0 = l.m1 && l.p0;
      m1p1 = l.m1 && l.p1;
      p0pf = l.p0 && l.pf;
      p0bl = l.p0 && l.bl;
      p1pf = l.p1 && l.pf;
      p1bl = l.p1 && l.bl;
      m0pf = l.m0 && l.pf;
      m0bl = l.m0 && l.bl;
      m1pf = l.m1 && l.pf;
      m1bl = l.m1 && l.bl;
      blpf = l.bl && l.pf;
      p0p1 = l.p0 && l.p1;
      m0m1 = l.m0 && l.m1;
    }

-- Two sets of latches made one, latch by latch.
abbrev pub each_latch : (Bool → Bool → Bool) → Latches → Latches → Latches
each_latch f x y =
    record {
      m0p1 = f x.m0p1 y.m0p1;
      m0p0 = f x.m0p0 y.m0p0;
      m1p0 = f x.m1p0 y.m1p0;
      m1p1 = f x.m1p1 y.m1p1;
      p0pf = f x.p0pf y.p0pf;
      p0bl = f x.p0bl y.p0bl;
      p1pf = f x.p1pf y.p1pf;
      p1bl = f x.p1bl y.p1bl;
      m0pf = f x.m0pf y.m0pf;
      m0bl = f x.m0bl y.m0bl;
      m1pf = f x.m1pf y.m1pf;
      m1bl = f x.m1bl y.m1bl;
      blpf = f x.blpf y.blpf;
      p0p1 = f x.p0p1 y.p0p1;
      m0m1 = f x.m0m1 y.m0m1;
    }

-- 2. CXCLR clears all latches.
unfoldable pub latches_written : Write → Latches → Latches
latches_written w x = each_latch (cond (hits w CXCLR)) no_latches x

-- 10. .. In an unblanked column every pair lit together sets its latch.
unfoldable pub latches_after : Bool → Lit → Latches → Latches
latches_after blank l x = each_latch (cond blank) x (each_latch ◌||◌ x (pairs_of l))

-- Latch read-out, eight bytes, bits 7 and 6: M0-P1 M0-P0; M1-P0 M1-P1; P0-PF P0-BL; P1-PF P1-BL; M0-PF M0-BL;
-- M1-PF M1-BL; BL-PF and 0; P0-P1 M0-M1. Other bits 0.
abbrev pub read_out_byte : Bool → Bool → ℕ
read_out_byte high low = weight high 7 + weight low 6

unfoldable pub read_out : Latches → List ℕ
read_out x =
    read_out_byte x.m0p1 x.m0p0
    ∷ read_out_byte x.m1p0 x.m1p1
    ∷ read_out_byte x.p0pf x.p0bl
    ∷ read_out_byte x.p1pf x.p1bl
    ∷ read_out_byte x.m0pf x.m0bl
    ∷ read_out_byte x.m1pf x.m1bl
    ∷ read_out_byte x.blpf false
    ∷ read_out_byte x.p0p1 x.m0m1
    ∷ []
