-- The bits of an answer byte.
use mathlib.Core.Path.{◌≡◌, refl}
use mathlib.Core.Bool.{Bool, beq, true, false, cond}
use Prim.Native.Nat.{ℕ, ◌/◌, ◌%◌, ◌^◌, ◌<◌}
use native.Mathlib.Omega.{arith}
use borrow.Author.Tests.{ltb-true, ne_eqb}
use lib.Dec.{T, ltb}
use Rattle.laws.specs.Bits.{bit}
use Rattle.laws.proofs.Bools.{every_six, at_six}
use Rattle.laws.proofs.Table.{every_below, below_same}
use Rattle.tia.specs.declared.lit.Lit.{Lit}
use Rattle.tia.specs.Lit.{lit_bits, answer_byte}
use Rattle.tia.specs.FirstLit.{shows}

-- A test over every combination of lit objects, computed, holds for each.
abbrev pub every_lit : (Lit → Bool) → Bool
every_lit test = every_six λ p0 p1 m0 m1 bl pf. test (record { p0 = p0; p1 = p1; m0 = m0; m1 = m1; bl = bl; pf = pf })

pub at_lit : (test : Lit → Bool) → every_lit test ≡ true → (l : Lit) → test l ≡ true
at_lit test t l =
    at_six (λ p0 p1 m0 m1 bl pf. test (record { p0 = p0; p1 = p1; m0 = m0; m1 = m1; bl = bl; pf = pf })) t
    l.p0 l.p1 l.m0 l.m1 l.bl l.pf

-- An answer byte shows an object exactly where it has the object's bit: one of a blank column has none of the six bits.
bits_below : (l : Lit) → lit_bits l < 64
unfolding lit_bits
bits_below l = ltb-true (lit_bits l) 64 (at_lit (λ l. ltb (lit_bits l) 64) refl l)

shows_lit : (byte object : ℕ) → byte < 64 → shows object byte ≡ bit object byte
unfolding shows
shows_lit byte object below =
    rw (ne_eqb (byte / 2 ^ 6 % 2) 1 (omega arith), ne_eqb (byte / 2 ^ 7 % 2) 1 (omega arith))

abbrev blank_agrees : (byte : ℕ) → Bool
blank_agrees byte = every_below 6 (λ object. beq (shows object byte) (bit object byte))

shows_blank : T (blank_agrees 128) × T (blank_agrees 64)
unfolding shows
shows_blank = (tt, tt)

pub shows_is_bit :
    (h : ℕ) (blank : Bool) (l : Lit) (object : ℕ) → object < 6 →
    shows object (answer_byte h blank l) ≡ bit object (answer_byte h blank l)
unfolding answer_byte
shows_is_bit h blank l object few = by_tests (ltb h 68) blank
  where
    at_blank : (byte : ℕ) → T (blank_agrees byte) → shows object byte ≡ bit object byte
    at_blank byte t = below_same 6 (λ n. shows n byte) (λ n. bit n byte) t object few

    by_tests :
        (early blank : Bool) →
        let byte = cond early 128 (cond blank 64 (lit_bits l)) in shows object byte ≡ bit object byte
    by_tests true blank = at_blank 128 shows_blank.0
    by_tests false true = at_blank 64 shows_blank.1
    by_tests false false = shows_lit (lit_bits l) object (bits_below l)
