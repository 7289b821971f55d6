-- The search for the first lit column: what is left of the buffer decides it; and its answers by their numbers.
use mathlib.Core.Path.{◌≡◌, ◌∙◌, refl, sym}
use mathlib.Core.Bool.{Bool, true, false, cond, not}
use mathlib.Core.List.{List, [], ◌∷◌}
use Prim.Native.Nat.{ℕ, suc, ◌≤◌, ◌<◌}
use native.Mathlib.Numerals.{add-one}
use native.Mathlib.Omega.{arith}
use borrow.Author.Tests.{eq-eqb, ne_eqb, lt-ltb, le-ltb, eqb-true, ltb-true, ltb-false}
use lib.Dec.{eqb, ltb}
use lib.ListN.{length}
use Rattle.std.specs.List.{position_from, position_or_len}
use Rattle.std.proofs.lemmas.Iterator.Adapters.{position_from-zero}
use Rattle.std.proofs.lemmas.List.Sums.{fails_before_first, passes_at_first}
use Rattle.std.specs.Prelude.{Option, Some, None, Result, Ok, Err}
use Rattle.refusal.specs.declared.Refusal.{Refusal}
use Rattle.refusal.specs.declared.Refusal.TheVariants.{BufferLength, NoSuch}
use Rattle.refusal.proofs.NumberLaws.{same_refusal}
use Rattle.tia.specs.FirstLit.{shows, first_from, first_lit_of, column_answer}
use Rattle.tia.specs.LineRows.{DarkBelow, Smallest}

-- Equal numbers mean equal answers.
pub same_column : {a b : Result (Option ℕ) Refusal} → column_answer a ≡ column_answer b → a ≡ b
same_column {a = Ok (Some x)} {b = b} e = grind (arith, same_refusal)
same_column {a = Ok None} {b = b} e = grind (arith, same_refusal)
same_column {a = Err refusal} {b = b} e = grind (arith, same_refusal)

-- The answer by cases: refusal 3, refusal 10, or the search from column 0.
pub room_refused : (buffer : List ℕ) (object : ℕ) → (length buffer ≡ 160 → ⊥) → first_lit_of buffer object ≡ Err BufferLength
unfolding first_lit_of
room_refused buffer object ne = rw (ne_eqb (length buffer) 160 ne)

pub object_refused : (buffer : List ℕ) (object : ℕ) → length buffer ≡ 160 → 5 < object → first_lit_of buffer object ≡ Err NoSuch
unfolding first_lit_of
object_refused buffer object room h = rw (eq-eqb (length buffer) 160 room, lt-ltb 5 object h)

-- The search from a column on is that for the first byte that shows the object.
pub first_is_position : (object x : ℕ) (bytes : List ℕ) → first_from object x bytes ≡ position_from (shows object) x bytes
unfolding first_from
first_is_position object x [] = refl
first_is_position object x (byte ∷ bytes) =
    let later : first_from object (suc x) bytes ≡ position_from (shows object) (suc x) bytes = first_is_position object (suc x) bytes in
    rw (later, add-one x)

first_found :
    (object : ℕ) (buffer : List ℕ) →
    let first = position_or_len (shows object) buffer in first_from object 0 buffer ≡ cond (ltb first (length buffer)) (Some first) None
first_found object buffer = first_is_position object 0 buffer ∙ sym (position_from-zero (shows object) buffer)

-- The column given is the smallest that shows the object, and none is given only where none shows it.
pub first_lit_smallest : (buffer : List ℕ) (object : ℕ) → Smallest buffer object (first_lit_of buffer object)
unfolding first_lit_of
first_lit_smallest buffer object = by_tests (eqb (length buffer) 160) refl (ltb 5 object)
  where
    first : ℕ
    first = position_or_len (shows object) buffer

    dark : DarkBelow buffer object first
    dark y h = fails_before_first (shows object) buffer y 0 h

    by_found :
        (found : Bool) → ltb first (length buffer) ≡ found → length buffer ≡ 160 →
        Smallest buffer object (Ok (cond found (Some first) None))
    by_found true e room =
        let h = ltb-true first (length buffer) e in
        (omega (arith, h, room), (passes_at_first (shows object) buffer 0 h, dark))
    by_found false e room = λ y h. dark y (omega (arith, ltb-false first (length buffer) e, room, h))

    by_tests :
        (full : Bool) → eqb (length buffer) 160 ≡ full → (over : Bool) →
        Smallest buffer object (cond (not full) (Err BufferLength) (cond over (Err NoSuch) (Ok (first_from object 0 buffer))))
    by_tests false e over = tt
    by_tests true e true = tt
    by_tests true e false = rw (first_found object buffer) (by_found _ refl (eqb-true (length buffer) 160 e))

-- What the search for a position gives is the first lit column.
pub position_is_first :
    (buffer : List ℕ) (object : ℕ) (found : Option ℕ) → length buffer ≡ 160 → object ≤ 5 →
    found ≡ cond (ltb (position_or_len (shows object) buffer) (length buffer)) (Some (position_or_len (shows object) buffer)) None →
    Ok found ≡ first_lit_of buffer object
unfolding first_lit_of
position_is_first buffer object found room h e = rw (eq-eqb (length buffer) 160 room, le-ltb 5 object h, first_found object buffer, e)
