-- A line's reckoning of the half byte and the sum, by its records and by its clocks.
use mathlib.Core.Path.{◌≡◌, ◌∙◌, refl, sym, ap}
use mathlib.Core.Logic.{⊎_elim}
use mathlib.Core.List.{List, [], ◌∷◌}
use mathlib.Core.Bool.{true, false, cond}
use Prim.Native.Nat.{ℕ, zero, suc, ◌+◌, ◌<◌, ◌≤◌}
use native.Mathlib.Nat.{add-zero, add-suc, suc-add}
use native.Mathlib.Omega.{arith}
use lib.IntN.{◌+ℤ◌}
use Rattle.std.proofs.lemmas.Bool.Decides.{nat_tests}
use Rattle.laws.proofs.Split.{split}
use Rattle.tia.specs.declared.state.State.{State}
use Rattle.tia.specs.declared.write.Write.{Write}
use Rattle.tia.specs.declared.write.Write.TheVariants.{Nothing}
use Rattle.tia.specs.Write.{HMCLR, HMOVE, hits, byte_of}
use Rattle.tia.specs.Registers.{upper}
use Rattle.tia.specs.Signed.{signed}
use Rattle.tia.specs.WriteList.{TimedWrite, write_at}
use Rattle.tia.specs.Movable.{Movable, motion_of, motion_register_of}
use Rattle.tia.specs.Run.{Reckoning, reckon, reckon_line}
use Rattle.tia.proofs.LineLaws.{state_at}
use Rattle.tia.proofs.RisingLaws.{Rising, rising_from, writes_later, writes_here, writes_none}
use Rattle.tia.proofs.TrackLaws.{Track, track_next, clock_track}

-- The reckoning over a clock's write, over the clocks before clock n, and over so many clocks from one on.
unfoldable pub reckon_write : (motion_register : ℕ) → Write → Reckoning → Reckoning
reckon_write hm w k =
    record {
      half = cond (hits w hm) (upper (byte_of w)) (cond (hits w HMCLR) 0 k.half);
      sum = cond (hits w HMOVE) (k.sum +ℤ signed k.half) k.sum;
    }

unfoldable pub reckon_at : (motion_register : ℕ) → (ℕ → Write) → Reckoning → ℕ → Reckoning
reckon_at hm writes k zero = k
reckon_at hm writes k (suc n) = reckon_write hm (writes n) (reckon_at hm writes k n)

unfoldable reckon_from : (motion_register : ℕ) → (ℕ → Write) → (clock count : ℕ) → Reckoning → Reckoning
reckon_from hm writes n zero k = k
reckon_from hm writes n (suc count) k = reckon_from hm writes (suc n) count (reckon_write hm (writes n) k)

from_at :
    (hm : ℕ) (writes : ℕ → Write) (k : Reckoning) (count n : ℕ) →
    reckon_from hm writes n count (reckon_at hm writes k n) ≡ reckon_at hm writes k (n + count)
unfolding reckon_from reckon_at
from_at hm writes k zero n = rw add-zero
from_at hm writes k (suc count) n =
    from_at hm writes k count (suc n) ∙ ap (reckon_at hm writes k) (suc-add n count ∙ sym (add-suc n count))

-- It goes by the writes from its first clock on.
from_same :
    (hm : ℕ) (f g : ℕ → Write) (count n : ℕ) (k : Reckoning) → ((i : ℕ) → n ≤ i → f i ≡ g i) →
    reckon_from hm f n count k ≡ reckon_from hm g n count k
unfolding reckon_from
from_same hm f g zero n k same = refl
from_same hm f g (suc count) n k same =
    rw (same n (omega arith)) (from_same hm f g count (suc n) (reckon_write hm (g n) k) (λ i l. same i (omega arith)))

-- One clock of a list: its first record is due, or nothing is.
record_due :
    (hm : ℕ) (r : TimedWrite) (rs : List TimedWrite) (n count : ℕ) (k : Reckoning) → r.clock ≡ n →
    reckon_from hm (write_at rs) (suc n) count (reckon hm k r) ≡ reckon_line hm (reckon hm k r) rs →
    reckon_from hm (write_at (r ∷ rs)) n (suc count) k ≡ reckon_line hm k (r ∷ rs)
unfolding reckon_from reckon_write reckon
record_due hm r rs n count k e later =
    rw (writes_here r rs n e)
    (from_same hm (write_at (r ∷ rs)) (write_at rs) count (suc n) (reckon hm k r) (λ i l. writes_later r rs i (λ same. omega (arith, same, e, l))) ∙ later)

none_due :
    (hm : ℕ) (rs : List TimedWrite) (n count : ℕ) (k : Reckoning) → write_at rs n ≡ Nothing →
    reckon_from hm (write_at rs) (suc n) count k ≡ reckon_line hm k rs →
    reckon_from hm (write_at rs) n (suc count) k ≡ reckon_line hm k rs
unfolding reckon_from reckon_write
none_due hm rs n count k e later = rw e later

records_from_lem :
    (hm : ℕ) (count n : ℕ) (rs : List TimedWrite) (k : Reckoning) → Rising n rs → 228 ≤ n + count →
    reckon_from hm (write_at rs) n count k ≡ reckon_line hm k rs
unfolding reckon_from write_at
records_from_lem hm zero n [] k rise all = refl
records_from_lem hm zero n (r ∷ rs) k rise all = absurd (omega (arith, rise.0, rise.1.0))
records_from_lem hm (suc count) n [] k rise all = none_due hm [] n count k refl (records_from_lem hm count (suc n) [] k tt (omega arith))
records_from_lem hm (suc count) n (r ∷ rs) k rise all =
    ⊎_elim
    (λ (l : n < r.clock).
    none_due hm (r ∷ rs) n count k (writes_none n (r ∷ rs) (omega arith, rise.1))
    (records_from_lem hm count (suc n) (r ∷ rs) k (omega arith, rise.1) (omega arith)))
    (λ (l : r.clock ≤ n).
    let later = rising_from (suc n) (r.clock + 1) rs (omega (arith, rise.0)) rise.1.1.1 in
    record_due hm r rs n count k (omega (arith, rise.0)) (records_from_lem hm count (suc n) rs (reckon hm k r) later (omega arith)))
    (split n r.clock)

-- A line's reckoning by its records is that by its clocks.
pub clocks_are_records :
    (hm : ℕ) (rs : List TimedWrite) (k : Reckoning) → Rising 0 rs → reckon_at hm (write_at rs) k 228 ≡ reckon_line hm k rs
unfolding reckon_at
clocks_are_records hm rs k rise =
    sym (from_at hm (write_at rs) k 228 0) ∙ records_from_lem hm 228 0 rs k rise (omega arith)

-- The reckoned half byte is the object's motion value, ..
pub half_is_motion :
    (o : Movable) (writes : ℕ → Write) (s : State) (k : Reckoning) → motion_of o s ≡ k.half → (n : ℕ) →
    motion_of o (state_at writes s n) ≡ (reckon_at (motion_register_of o) writes k n).half
unfolding state_at reckon_at reckon_write track_next
half_is_motion o writes s k e zero = e
half_is_motion o writes s k e (suc n) =
    ap (λ (t : Track). t.motion) (clock_track o (state_at writes s n) (writes n)) ∙ rw (half_is_motion o writes s k e n)

-- .. at most 15, ..
pub half_below : (hm : ℕ) (writes : ℕ → Write) (k : Reckoning) → k.half ≤ 15 → (n : ℕ) → (reckon_at hm writes k n).half ≤ 15
unfolding reckon_at reckon_write
half_below hm writes k h zero = h
half_below hm writes k h (suc n) =
    let half = half_below hm writes k h n in
    grind (arith, nat_tests)

-- .. and the sum changes with an HMOVE alone.
pub sum_stays :
    (hm : ℕ) (writes : ℕ → Write) (k : Reckoning) (n j : ℕ) → ((i : ℕ) → n ≤ i → i < n + j → hits (writes i) HMOVE ≡ false) →
    (reckon_at hm writes k (n + j)).sum ≡ (reckon_at hm writes k n).sum
unfolding reckon_at reckon_write
sum_stays hm writes k n zero unmoved = rw add-zero
sum_stays hm writes k n (suc j) unmoved =
    rw (add-suc n j, unmoved (n + j) (omega arith) (omega arith)) (sum_stays hm writes k n j (λ i l h. unmoved i l (omega arith)))

pub sum_moves :
    (hm : ℕ) (writes : ℕ → Write) (k : Reckoning) (c : ℕ) → hits (writes c) HMOVE ≡ true →
    (reckon_at hm writes k (suc c)).sum ≡ (reckon_at hm writes k c).sum +ℤ signed (reckon_at hm writes k c).half
unfolding reckon_at reckon_write
sum_moves hm writes k c move = rw move
