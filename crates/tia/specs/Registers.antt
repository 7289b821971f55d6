-- The registers that draw and the colour registers: the bits that they keep of a written byte.
use Rattle.std.specs.Prelude.{ℕ, ◌/◌, ◌%◌, cond}
use Rattle.laws.specs.Bits.{bit}
use Rattle.tia.specs.declared.colours.Colours.{Colours}
use Rattle.tia.specs.declared.playfield.Playfield.{Playfield}
use Rattle.tia.specs.declared.registers.Enable.{Enable}
use Rattle.tia.specs.declared.registers.Graphic.{Graphic}
use Rattle.tia.specs.declared.registers.Nusiz.{Nusiz}
use Rattle.tia.specs.declared.registers.Registers.{Registers}
use Rattle.tia.specs.declared.write.Write.{Write}
use Rattle.tia.specs.Write.{NUSIZ0, NUSIZ1, CTRLPF, REFP0, REFP1, PF0, PF1, PF2, GRP0, GRP1, ENAM0, ENAM1, ENABL, VDELP0, VDELP1, VDELBL}
use Rattle.tia.specs.Write.{COLUP0, COLUP1, COLUPF, COLUBK, hits, byte_of}

-- The upper half byte.
abbrev pub upper : ℕ → ℕ
upper v = v / 16 % 16

-- NUSIZ: bits 0-2 copies, bits 4-5 the missile's width code.
abbrev pub nusiz_after : ℕ → Write → Nusiz → Nusiz
nusiz_after address w n =
    record { copies = cond (hits w address) (byte_of w % 8) n.copies; width = cond (hits w address) (byte_of w / 16 % 4) n.width }

-- A player's REFP, GRP and VDELP. GRP sets the new graphic; the other player's GRP copies the new graphic into the old.
abbrev pub graphic_after : (reflect own other delay : ℕ) → Write → Graphic → Graphic
graphic_after reflect own other delay w g =
    record {
      reflected = cond (hits w reflect) (bit 3 (byte_of w)) g.reflected;
      new = cond (hits w own) (byte_of w) g.new;
      old = cond (hits w other) g.new g.old;
      delayed = cond (hits w delay) (bit 0 (byte_of w)) g.delayed;
    }

-- The ball's ENABL and VDELBL. GRP1 copies the new enable into the old (000; the Guide).
abbrev pub enable_after : Write → Enable → Enable
enable_after w e =
    record {
      new = cond (hits w ENABL) (bit 1 (byte_of w)) e.new;
      old = cond (hits w GRP1) e.new e.old;
      delayed = cond (hits w VDELBL) (bit 0 (byte_of w)) e.delayed;
    }

-- CTRLPF as a whole byte, PF0's upper half byte, PF1 and PF2.
abbrev pub playfield_after : Write → Playfield → Playfield
playfield_after w p =
    record {
      ctrlpf = cond (hits w CTRLPF) (byte_of w) p.ctrlpf;
      pf0 = cond (hits w PF0) (upper (byte_of w)) p.pf0;
      pf1 = cond (hits w PF1) (byte_of w) p.pf1;
      pf2 = cond (hits w PF2) (byte_of w) p.pf2;
    }

-- All registers that draw.
unfoldable pub registers_after : Write → Registers → Registers
registers_after w r =
    record {
      nusiz0 = nusiz_after NUSIZ0 w r.nusiz0;
      nusiz1 = nusiz_after NUSIZ1 w r.nusiz1;
      playfield = playfield_after w r.playfield;
      graphic0 = graphic_after REFP0 GRP0 GRP1 VDELP0 w r.graphic0;
      graphic1 = graphic_after REFP1 GRP1 GRP0 VDELP1 w r.graphic1;
      enam0 = cond (hits w ENAM0) (bit 1 (byte_of w)) r.enam0;
      enam1 = cond (hits w ENAM1) (bit 1 (byte_of w)) r.enam1;
      enabl = enable_after w r.enabl;
    }

-- The colour registers, the written byte kept whole (document 02, One).
unfoldable pub colours_after : Write → Colours → Colours
colours_after w c =
    record {
      colup0 = cond (hits w COLUP0) (byte_of w) c.colup0;
      colup1 = cond (hits w COLUP1) (byte_of w) c.colup1;
      colupf = cond (hits w COLUPF) (byte_of w) c.colupf;
      colubk = cond (hits w COLUBK) (byte_of w) c.colubk;
    }
