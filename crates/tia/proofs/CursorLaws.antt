-- What is left of a write list: its records, their check, and the write due.
use mathlib.Core.Path.{◌≡◌, ◌∙◌, refl, sym, ap}
use mathlib.Core.Bool.{Bool, true, false}
use mathlib.Core.List.{List, [], ◌∷◌}
use mathlib.Core.Logic.{⊎_elim}
use Prim.Native.Nat.{ℕ, ◌+◌, ◌*◌, ◌%◌, ◌≤◌, ◌<◌}
use native.Mathlib.Numerals.{add-one}
use native.Mathlib.Omega.{arith}
use borrow.Author.Tests.{ne_eqb, eqb-true, eqb-false}
use lib.Dec.{eqb}
use lib.ListN.{length, get_or, drop, length-drop}
use lib.Seq.{drop-cons, take_all}
use Rattle.std.proofs.lemmas.List.{drop-drop}
use Rattle.laws.proofs.Split.{split}
use Rattle.tia.specs.declared.write.Write.{Write}
use Rattle.tia.specs.declared.write.Write.TheVariants.{Nothing, Register}
use Rattle.tia.specs.WriteList.{TimedWrite, timed, records_of, record_fault, first_fault, fault_at, write_at}
use Rattle.tia.specs.Cursor.{due_at, left_by}
use Rattle.tia.proofs.LineLaws.{writes_of}
use Rattle.refusal.proofs.NumberLaws.{number_not_zero}
use Rattle.tia.proofs.RisingLaws.{Rising, faultless, writes_later, writes_here, writes_none}

-- The first of the records left, of the next three bytes, and those after it; fewer bytes hold none.
pub records_left :
    (rest : List ℕ) → 3 ≤ length rest →
    records_of rest ≡ timed (get_or rest 0 0) (get_or rest 1 0) (get_or rest 2 0) ∷ records_of (drop 3 rest)
unfolding records_of
records_left [] h = absurd (omega arith)
records_left (c ∷ []) h = absurd (omega arith)
records_left (c ∷ a ∷ []) h = absurd (omega arith)
records_left (c ∷ a ∷ v ∷ later) h = refl

pub no_records : (rest : List ℕ) → length rest < 3 → records_of rest ≡ []
unfolding records_of
no_records [] h = refl
no_records (c ∷ []) h = refl
no_records (c ∷ a ∷ []) h = refl
no_records (c ∷ a ∷ v ∷ later) h = absurd (omega arith)

-- The rest of a list, cut into records.
pub ruleset records_at = (records_left, no_records, length-drop, take_all)

-- The check under way: what is left begins at the record of the index, and its records decide the fault of the whole list.
pub record Checking (ws rest : List ℕ) (index least : ℕ) : Type 0 where
  pub part : rest ≡ drop (3 * index) ws
  pub counted : length rest + 3 * index ≤ length ws
  pub decides : first_fault index least (records_of rest) ≡ first_fault 0 0 (records_of ws)

pub check_starts : (ws : List ℕ) → Checking ws ws 0 0
check_starts ws = record { part = refl; counted = omega arith; decides = refl }

module _ (ws rest : List ℕ) (index least number : ℕ) (now : Checking ws rest index least) (h : 3 ≤ length rest) where
  pub check_goes_on :
      number ≡ record_fault least (get_or rest 0 0) (get_or rest 1 0) → number ≡ 0 →
      Checking ws (drop 3 rest) (index + 1) (get_or rest 0 0 + 1)
  unfolding first_fault
  check_goes_on e none =
      record {
        part =
            ap (λ (left : List ℕ). drop 3 left) now.part
            ∙ (drop-drop 3 (3 * index) ws ∙ ap (λ (at : ℕ). drop at ws) (omega arith));
        counted = omega (arith, now.counted, length-drop 3 rest);
        decides = rw (add-one index) (rw (records_left rest h, ← e, none) at now.decides);
      }

  pub check_finds :
      number ≡ record_fault least (get_or rest 0 0) (get_or rest 1 0) → (number ≡ 0 → ⊥) →
      fault_at number index ≡ first_fault 0 0 (records_of ws)
  unfolding first_fault
  check_finds e bad = rw (records_left rest h, ← e, ne_eqb number 0 bad) at now.decides

pub check_ends :
    (ws rest : List ℕ) (index least : ℕ) → Checking ws rest index least → length rest < 3 →
    fault_at 0 0 ≡ first_fault 0 0 (records_of ws)
unfolding first_fault
check_ends ws rest index least now h = rw (no_records rest h) at now.decides

pub ruleset check_by_cases = (check_goes_on, check_finds, check_ends, faultless, number_not_zero, length-drop, take_all)

-- What is left of a list begins within it, at a record.
abbrev pub LeftOf : (ws rest : List ℕ) → Type 0
LeftOf ws rest = (at : ℕ) × ((at ≤ length ws) × ((at % 3 ≡ 0) × (rest ≡ drop at ws)))

-- What is left stands for the lookup from clock n on: its records have the list's writes on these clocks.
pub record Follows (ws : List ℕ) (n : ℕ) (rest : List ℕ) : Type 0 where
  pub part : LeftOf ws rest
  pub rises : Rising n (records_of rest)
  pub agrees : (m : ℕ) → n ≤ m → write_at (records_of rest) m ≡ writes_of ws m

pub follows_start : (ws : List ℕ) → Rising 0 (records_of ws) → Follows ws 0 ws
follows_start ws rises = record { part = (0, (omega arith, (refl, refl))); rises = rises; agrees = λ m h. refl }

-- A write is the list's on clock n, and what is left after it stands for the lookup from the next clock on.
abbrev pub LooksUp : List ℕ → ℕ → List ℕ → Write → Type 0
LooksUp ws n rest w = (w ≡ writes_of ws n) × Follows ws (n + 1) (left_by w rest)

stays : (ws : List ℕ) (n : ℕ) (rest : List ℕ) → Follows ws n rest → Rising (n + 1) (records_of rest) → LooksUp ws n rest Nothing
stays ws n rest now later = (
  sym (writes_none n (records_of rest) later) ∙ now.agrees n (omega arith),
  record { part = now.part; rises = later; agrees = λ m h. now.agrees m (omega arith) },
)

-- Past a record it is left of the list, too.
left_on : (ws rest : List ℕ) → LeftOf ws rest → 3 ≤ length rest → LeftOf ws (drop 3 rest)
left_on ws rest (at, (inside, (whole, e))) h = (
  at + 3,
  (omega (arith, ap length e, length-drop at ws), (omega arith, ap (drop 3) e ∙ drop-drop 3 at ws)),
)

module _ (ws : List ℕ) (n : ℕ) (rest : List ℕ) (now : Follows ws n rest) where
  passes : 3 ≤ length rest → (r : TimedWrite) → records_of rest ≡ r ∷ records_of (drop 3 rest) → r.clock ≡ n → LooksUp ws n rest (Register r.address r.value)
  passes fits r e clock =
      let later = records_of (drop 3 rest) in
      let rises : Rising n (r ∷ later) = rw e at now.rises in
      let agrees : (m : ℕ) → n ≤ m → write_at (r ∷ later) m ≡ writes_of ws m = rw e at now.agrees in (
        sym (writes_here r later n clock) ∙ agrees n (omega arith),
        record {
          part = left_on ws rest now.part fits;
          rises = rw clock at rises.1.1.1;
          agrees = λ m h. sym (writes_later r later m (λ same. omega arith)) ∙ agrees m (omega arith);
        },
      )

  at_record :
      3 ≤ length rest → (r : TimedWrite) → records_of rest ≡ r ∷ records_of (drop 3 rest) → (b : Bool) → eqb r.clock n ≡ b →
      LooksUp ws n rest (due_at (records_of rest) n)
  unfolding due_at
  at_record fits r e true t = rw (e, t) (passes fits r e (eqb-true r.clock n t))
  at_record fits r e false t =
      let other = eqb-false r.clock n t in
      let rises : Rising n (r ∷ records_of (drop 3 rest)) = rw e at now.rises in
      rw (e, t) (stays ws n rest now (rw e (omega arith, rises.1)))

  at_end : length rest < 3 → LooksUp ws n rest (due_at (records_of rest) n)
  unfolding due_at
  at_end h = rw (no_records rest h) (stays ws n rest now (rw (no_records rest h) tt))

-- The code's walk along the list is the lookup by clock: what is due is the list's write on the clock, and what is left after it, a part
-- of the list from a record on, stands for the lookup from the next clock on.
pub cursor_is_lookup : (ws : List ℕ) (n : ℕ) (rest : List ℕ) → Follows ws n rest → LooksUp ws n rest (due_at (records_of rest) n)
cursor_is_lookup ws n rest now =
    ⊎_elim
    (λ (h : length rest < 3). at_end ws n rest now h)
    (λ (h : 3 ≤ length rest). at_record ws n rest now h _ (records_left rest h) (eqb (get_or rest 0 0) n) refl)
    (split (length rest) 3)
