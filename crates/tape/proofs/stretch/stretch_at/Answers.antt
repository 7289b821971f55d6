-- `stretch_at` meets its contract: the line that it found lies within the tape.
use mathlib.Core.Path.{◌≡◌, ◌∙◌, sym}
use Prim.Native.Nat.{ℕ}
use mathlib.Core.List.{List}
use native.Mathlib.Omega.{arith}
use Rattle.tape.specs.declared.reading.Place.{Place}
use Rattle.tape.specs.declared.reading.Place.TheVariants.{Line}
use Rattle.tape.specs.Reading.{place_answer, read_answer}
use Rattle.tape.specs.ReadingRows.{LineThere}
use Rattle.tape.proofs.ReadingLaws.{same_place, line_there}
use Rattle.tape.proofs.stretch.stretch_at.Goals as goal

found_there :
    (tape : List ℕ) (place start end : ℕ) {found : Place} → place_answer found ≡ read_answer tape place → found ≡ Line start end →
    LineThere tape place start end
found_there tape place start end e line = line_there tape place start end (sym (same_place e) ∙ line)

pub slice_bounds-result-count : goal.slice_bounds-result-count
slice_bounds-result-count c =
    let there = found_there _ _ _ _ c.read_at.ensures c.in-Line.is in
    omega arith

pub slice_bounds-result-start : goal.slice_bounds-result-start
slice_bounds-result-start c =
    let there = found_there _ _ _ _ c.read_at.ensures c.in-Line.is in
    omega arith

pub slice_bounds-result-end-2 : goal.slice_bounds-result-end-2
slice_bounds-result-end-2 c = (found_there _ _ _ _ c.read_at.ensures c.in-Line.is).inside
