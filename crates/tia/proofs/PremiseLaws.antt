-- Demand 3's premises, read off a line's records, as facts on the write of each clock.
use mathlib.Core.Path.{◌≡◌, ◌∙◌, refl, sym, ap}
use mathlib.Core.List.{List, [], ◌∷◌}
use mathlib.Core.Bool.{Bool, true, false, ◌&&◌, ◌||◌, not}
use Prim.Native.Nat.{ℕ, ◌+◌, ◌<◌, ◌≤◌}
use native.Mathlib.Omega.{arith}
use borrow.Author.Tests.{eq-eqb, ne_eqb, leb-true}
use lib.Dec.{eqb, leb}
use Rattle.std.proofs.lemmas.Bool.Decides.{nat_tests}
use Rattle.laws.proofs.Bools.{and_first, and_second, not_true}
use Rattle.tia.specs.declared.write.Write.{Write}
use Rattle.tia.specs.Write.{HMCLR, HMOVE, hits}
use Rattle.tia.specs.WriteList.{TimedWrite, write_at}
use Rattle.tia.specs.Movable.{Movable, P0, P1, M0, M1, BL, strobe_of, motion_register_of}
use Rattle.tia.specs.Run.{any_record, hmove_clocks, is_motion, disturbs, moves_within, strobe_unused}
use Rattle.tia.proofs.RisingLaws.{Rising, rising_from, writes_none}
use Rattle.tia.proofs.MoveLaws.{MovedAt}

-- A kind of record that a list has not, it has not within a narrower kind.
narrower :
    (wide narrow : TimedWrite → Bool) → ((r : TimedWrite) → narrow r ≡ true → wide r ≡ true) → (rs : List TimedWrite) →
    any_record wide rs ≡ false → any_record narrow rs ≡ false
narrower wide narrow implies [] e = refl
narrower wide narrow implies (r ∷ rs) e =
    let here = implies r in
    let later = narrower wide narrow implies rs in
    grind (arith, nat_tests)

-- A register that no record with clock n has is not written on clock n.
abbrev writes_on : (n address : ℕ) → TimedWrite → Bool
writes_on n a r = eqb r.clock n && eqb r.address a

not_written : (a n : ℕ) (rs : List TimedWrite) → any_record (writes_on n a) rs ≡ false → hits (write_at rs n) a ≡ false
unfolding write_at
not_written a n [] e = refl
not_written a n (r ∷ rs) e =
    let later = not_written a n rs in
    grind (arith, nat_tests)

-- The object's strobe is on no clock.
pub strobe_never : (o : Movable) (rs : List TimedWrite) → strobe_unused o rs ≡ true → (n : ℕ) → hits (write_at rs n) (strobe_of o) ≡ false
strobe_never o rs e n =
    not_written (strobe_of o) n rs
    (narrower strobes (writes_on n (strobe_of o)) (λ r t. and_second (eqb r.clock n) _ t) rs (not_true (any_record strobes rs) e))
  where
    strobes : TimedWrite → Bool
    strobes r = eqb r.address (strobe_of o)

-- HMOVE is written on the clocks of the HMOVEs.
abbrev among : ℕ → List ℕ → Bool
among n [] = false
among n (c ∷ cs) = eqb c n || among n cs

pub hmove_lookup : (n least : ℕ) (rs : List TimedWrite) → Rising least rs → hits (write_at rs n) HMOVE ≡ among n (hmove_clocks rs)
unfolding write_at hmove_clocks
hmove_lookup n least [] rise = refl
hmove_lookup n least (r ∷ rs) rise =
    let later = hmove_lookup n (r.clock + 1) rs rise.1.1.1 in
    grind (arith, nat_tests, none_left)
  where
    none_left : r.clock ≡ n → hits (write_at rs n) HMOVE ≡ false
    none_left e =
        ap (λ (w : Write). hits w HMOVE) (writes_none n rs (rising_from (n + 1) (r.clock + 1) rs (omega (arith, e)) rise.1.1.1))

pub unmoved_by : (rs : List TimedWrite) → Rising 0 rs → hmove_clocks rs ≡ [] → (n : ℕ) → hits (write_at rs n) HMOVE ≡ false
unmoved_by rs rise none n = hmove_lookup n 0 rs rise ∙ ap (among n) none

-- A motion register or HMCLR is on no clock after the HMOVE's, up to clock 75.
motion_register : (o : Movable) → is_motion (motion_register_of o) ≡ true
motion_register P0 = refl
motion_register P1 = refl
motion_register M0 = refl
motion_register M1 = refl
motion_register BL = refl

disturbing :
    (a c i : ℕ) → is_motion a ≡ true → c < i → i ≤ 75 → (r : TimedWrite) → writes_on i a r ≡ true → disturbs c r ≡ true
disturbing a c i motion after up_to_lem r t = grind (arith, nat_tests)

motion_never :
    (a c i : ℕ) (rs : List TimedWrite) → is_motion a ≡ true → c < i → i ≤ 75 → any_record (disturbs c) rs ≡ false →
    hits (write_at rs i) a ≡ false
motion_never a c i rs motion after up_to_lem e =
    not_written a i rs (narrower (disturbs c) (writes_on i a) (disturbing a c i motion after up_to_lem) rs e)

-- The writes of a line with one HMOVE, from its records.
pub moved_by :
    (o : Movable) (c : ℕ) (rs : List TimedWrite) → Rising 0 rs → hmove_clocks rs ≡ c ∷ [] → moves_within (hmove_clocks rs) rs ≡ true →
    strobe_unused o rs ≡ true → MovedAt o (write_at rs) c
unfolding moves_within
moved_by o c rs rise one within unused =
    record {
      early = leb-true c 15 (and_first (leb c 15) _ inside);
      move = looked c ∙ rw (eq-eqb c c refl);
      alone = not_there;
      undisturbed = λ i after up_to_lem. record {
        motion = motion_never (motion_register_of o) c i rs (motion_register o) after up_to_lem calm;
        clear = motion_never HMCLR c i rs refl after up_to_lem calm;
        move = not_there i (λ e. omega (arith, e, after));
      };
      unstrobed = strobe_never o rs unused;
    }
  where
    looked : (n : ℕ) → hits (write_at rs n) HMOVE ≡ (eqb c n || false)
    looked n = hmove_lookup n 0 rs rise ∙ ap (among n) one

    not_there : (i : ℕ) → (i ≡ c → ⊥) → hits (write_at rs i) HMOVE ≡ false
    not_there i other = looked i ∙ rw (ne_eqb c i (λ e. other (sym e)))

    inside : (leb c 15 && not (any_record (disturbs c) rs)) ≡ true
    inside = rw one at within

    calm : any_record (disturbs c) rs ≡ false
    calm = not_true (any_record (disturbs c) rs) (and_second (leb c 15) _ inside)
