-- The first bad record of a write list: the check gives its number and its index.
use mathlib.Core.Path.{◌≡◌, ◌∙◌, refl, sym, ap}
use mathlib.Core.Logic.{◌↔◌, ⊎_elim}
use mathlib.Core.List.{List, [], ◌∷◌}
use mathlib.Core.Bool.{cond, not}
use Prim.Native.Nat.{ℕ, zero, suc, ◌+◌}
use native.Mathlib.Nat.{add-zero, zero-add, add-suc, suc-add}
use native.Mathlib.Omega.{arith}
use borrow.Author.Tests.{ne_eqb, eqb-true, eqb-false}
use lib.Dec.{eqb, ltb}
use Rattle.std.proofs.lemmas.Bool.{cases_eq}
use Rattle.std.proofs.lemmas.Bool.Decides.{nat_tests}
use Rattle.laws.specs.Refusal.{GivenInOrder}
use Rattle.laws.proofs.Decides.{Decides, less, misses}
use Rattle.laws.proofs.Refusals.{Check, check, in_order, only_first}
use Rattle.tia.specs.WriteList.{FaultNumbers}
use Rattle.tia.specs.Write.{known}
use Rattle.laws.specs.Numbers.{for_clock_over, for_clock_order, for_unknown_register}
use Rattle.tia.specs.WriteList.{TimedWrite, record_fault, first_fault, fault_at}
use Rattle.tia.specs.LineRows.{record_rows, FirstBad, OfRecord, IndexGiven}

-- The three tests of a record decide rows 5, 6 and 7, so these give its number, ..
abbrev record_checks : (least : ℕ) → TimedWrite → List {1} Check
record_checks least r =
    check for_clock_over (ltb 227 r.clock) (less 227 r.clock)
    ∷ check for_clock_order (ltb r.clock least) (less r.clock least)
    ∷ check for_unknown_register (not (known r.address)) (misses (known r.address))
    ∷ []

abbrev fault_of : (least : ℕ) → TimedWrite → ℕ
fault_of least r = record_fault least r.clock r.address

record_given : (least : ℕ) (r : TimedWrite) → GivenInOrder (record_rows least r) (fault_of least r)
unfolding record_fault
record_given least r = in_order (record_checks least r) refl

-- .. and no other.
record_only : (least : ℕ) (r : TimedWrite) (n : ℕ) → GivenInOrder (record_rows least r) n → n ≡ fault_of least r
unfolding record_fault
record_only least r n given = only_first (record_checks least r) n given

-- The first bad record has the fault that the check gives, ..
bad_gives :
    (index least : ℕ) (rs : List TimedWrite) (n i : ℕ) → FirstBad least rs n i → first_fault index least rs ≡ fault_at n (index + i)
unfolding first_fault
bad_gives index least [] n i bad = absurd bad
bad_gives index least (r ∷ rs) n zero bad =
    let e = record_only least r n bad.0 in
    rw (← e, ne_eqb n 0 bad.1, add-zero)
bad_gives index least (r ∷ rs) n (suc i) bad =
    rw (← record_only least r 0 bad.0) (bad_gives (suc index) (r.clock + 1) rs n i bad.1 ∙ ap (fault_at n) (suc-add index i ∙ sym (add-suc index i)))

-- .. and where the check gives a fault there is a first bad record with it.
fault_bad_record :
    (index least : ℕ) (rs : List TimedWrite) (n : ℕ) → (n ≡ 0 → ⊥) → (first_fault index least rs).number ≡ n →
    (i : ℕ) × FirstBad least rs n i
unfolding first_fault
fault_bad_record index least [] n bad e = absurd (bad (sym e))
fault_bad_record index least (r ∷ rs) n bad e =
    ⊎_elim
    (λ (none : fault_of least r ≡ 0).
    let found = fault_bad_record (suc index) (r.clock + 1) rs n bad (grind (arith, nat_tests)) in
    (suc found.0, (rw none at (record_given least r), found.1)))
    (λ (given : fault_of least r ≡ 0 → ⊥).
    let same : fault_of least r ≡ n = grind (arith, nat_tests) in
    (zero, (rw same at (record_given least r), bad)))
    (cases_eq (fault_of least r) 0)

-- The check gives a number and an index exactly where that record is the first bad one and that row refuses it.
pub first_bad_exactly :
    (rs : List TimedWrite) (n i : ℕ) → (n ≡ 0 → ⊥) → (first_fault 0 0 rs ≡ fault_at n i) ↔ FirstBad 0 rs n i
first_bad_exactly rs n i bad = (by_index, λ first. bad_gives 0 0 rs n i first ∙ ap (fault_at n) (zero-add i))
  where
    by_index : first_fault 0 0 rs ≡ fault_at n i → FirstBad 0 rs n i
    by_index e =
        let found = fault_bad_record 0 0 rs n bad (ap (λ (f : FaultNumbers). f.number) e) in
        let same : found.0 ≡ i = sym (zero-add found.0) ∙ ap (λ (f : FaultNumbers). f.index) (sym (bad_gives 0 0 rs n found.0 found.1) ∙ e) in
        rw same at found.1

-- So its number decides rows 5, 6 and 7 for a list.
pub list_decided : (rs : List TimedWrite) (n : ℕ) → (n ≡ 0 → ⊥) → Decides (eqb (first_fault 0 0 rs).number n) ((i : ℕ) × FirstBad 0 rs n i)
list_decided rs n bad =
    record {
      holds = λ e. fault_bad_record 0 0 rs n bad (eqb-true (first_fault 0 0 rs).number n e);
      fails = λ e found.
          eqb-false (first_fault 0 0 rs).number n e (ap (λ (f : FaultNumbers). f.number) (bad_gives 0 0 rs n found.0 found.1));
    }

-- It gives no other number but 0, and 0 with index 0.
abbrev pub of_record : ℕ → ℕ
of_record n =
    cond (eqb n for_clock_over) for_clock_over
    (cond (eqb n for_clock_order) for_clock_order (cond (eqb n for_unknown_register) for_unknown_register 0))

record_number : (least : ℕ) (r : TimedWrite) → fault_of least r ≡ of_record (fault_of least r)
unfolding record_fault
record_number least r = grind (arith, nat_tests)

pub fault_number :
    (index least : ℕ) (rs : List TimedWrite) → (first_fault index least rs).number ≡ of_record (first_fault index least rs).number
unfolding first_fault
fault_number index least [] = refl
fault_number index least (r ∷ rs) =
    let later = fault_number (suc index) (r.clock + 1) rs in
    let here = record_number least r in
    grind (arith, nat_tests)

none_index : (index least : ℕ) (rs : List TimedWrite) → (first_fault index least rs).number ≡ 0 → (first_fault index least rs).index ≡ 0
unfolding first_fault
none_index index least [] e = refl
none_index index least (r ∷ rs) e =
    let later = none_index (suc index) (r.clock + 1) rs in
    grind (arith, nat_tests)

other_none : (n : ℕ) → (OfRecord n → ⊥) → of_record n ≡ 0
other_none n other = grind (arith, nat_tests)

-- Its index is 0 where it gives 0, and otherwise exactly that of the first bad record.
pub list_index : (rs : List TimedWrite) → IndexGiven rs (first_fault 0 0 rs).number (first_fault 0 0 rs).index
list_index rs =
    let fault = first_fault 0 0 rs in (
      λ other. none_index 0 0 rs (fault_number 0 0 rs ∙ other_none fault.number other),
      λ i of-record.
          let exactly = first_bad_exactly rs fault.number i (λ e. omega arith) in
          (λ e. exactly.0 (ap (fault_at fault.number) e), λ first. ap (λ (f : FaultNumbers). f.index) (exactly.1 first)),
    )
