-- While a player's size stays, its drawing goes by its age; so it is lit by its age, and at size 1 as document 01's rule lit it.
use mathlib.Core.Path.{◌≡◌, ◌∙◌, refl, sym, ap}
use mathlib.Core.Logic.{⊎_elim}
use mathlib.Core.Bool.{Bool, true, false, cond, ◌&&◌, ◌||◌, not, and-false}
use mathlib.Core.List.{List, [], ◌∷◌}
use Prim.Native.Nat.{ℕ, ◌+◌, ◌-◌, ◌*◌, ◌/◌, ◌%◌, ◌<◌, ◌≤◌}
use native.Mathlib.Nat.{div-lt_iff_lt-mul}
use native.Mathlib.Omega.{arith}
use borrow.Author.Tests.{lt-ltb, le-ltb, lt-leb, ltb-true}
use lib.Dec.{eqb, ltb, leb}
use Rattle.std.proofs.lemmas.Bool.Decides.{nat_tests}
use Rattle.laws.proofs.Bools.{and_first, is_true, holds_of}
use Rattle.laws.proofs.Split.{split}
use Rattle.laws.proofs.Table.{every_below, below}
use Rattle.tia.specs.declared.drawing.Drawing.{Drawing}
use Rattle.tia.specs.declared.object.Player.{Player}
use Rattle.tia.specs.declared.registers.Graphic.{Graphic}
use Rattle.tia.specs.declared.state.State.{State}
use Rattle.tia.specs.declared.timing.Tick.{Tick}
use Rattle.tia.specs.declared.write.Write.{Write}
use Rattle.tia.specs.Write.{HMP0, HMP1, RESP0, RESP1, hits}
use Rattle.tia.specs.Drawing.{no_drawing, drawing_age, next_drawing, shown_bit, drawing_lit}
use Rattle.tia.specs.Object.{is_pulsed, reached, older, starts, size_of, object_written, object_moved, object_after, player_after}
use Rattle.tia.specs.Clock.{objects_after, clock_of}
use Rattle.tia.specs.Steady.{lit_between, lit_by_age, PlayerName, Player0, Player1, player_of, copies_of, graphic_of, moved_on, after_clocks, CopiesAlways}
use Rattle.tia.specs.Steady.{LitByAge, LitAsDocument01}
use Rattle.tia.proofs.RangeLaws.{of_sizes}
use Rattle.tia.proofs.TrackLaws.{tick_at}
use Rattle.tia.proofs.DrawLaws.{drawn_on, size_kept}

-- The drawing of a copy at an age, where its size stays: the pixel by the columns since the first, and how often it was shown.
abbrev last_age : (size : ℕ) → ℕ
last_age size = drawing_age size + 8 * size - 1

abbrev is_drawn : (size age : ℕ) → Bool
is_drawn size age = leb (drawing_age size) age && leb age (last_age size)

unfoldable drawing_at : (size age : ℕ) → Drawing
drawing_at size age =
    let column = age - drawing_age size in
    cond (is_drawn size age) (record { pixel = column / size; shown = column % size + 1 }) no_drawing

-- A pulse without a start takes it to the next age: computed for every size and the ages that rise.
abbrev equal_drawings : Drawing → Drawing → Bool
equal_drawings d e = eqb d.pixel e.pixel && eqb d.shown e.shown

goes_on : (size age : ℕ) → Bool
goes_on size age = equal_drawings (next_drawing false (older age) size size (drawing_at size age)) (drawing_at size (older age))

all_go_on : (copies : ℕ) → every_below 65 (goes_on (size_of copies)) ≡ true
unfolding goes_on next_drawing drawing_at
all_go_on copies = of_sizes (λ size. every_below 65 (goes_on size) ≡ true) copies refl refl refl

same_drawing : (d e : Drawing) → equal_drawings d e ≡ true → d ≡ e
same_drawing d e t = grind (arith, nat_tests)

-- Past age 64, which is none of a good state, nothing is drawn either.
late_age : (copies age : ℕ) → 64 ≤ age → drawing_at (size_of copies) age ≡ drawing_at (size_of copies) 64
unfolding drawing_at
late_age copies age late = rw (past age late, past 64 (omega arith))
  where
    last : last_age (size_of copies) < 64
    last = ltb-true _ 64 (of_sizes (λ size. ltb (last_age size) 64 ≡ true) copies refl refl refl)

    past : (n : ℕ) → 64 ≤ n → is_drawn (size_of copies) n ≡ false
    past n h = rw (lt-leb n (last_age (size_of copies)) (omega (arith, last, h)), and-false)

older_late : (age : ℕ) → 64 ≤ age → older age ≡ older 64
older_late age late = rw (le-ltb age 64 late)

on_pulse :
    (copies age : ℕ) →
    next_drawing false (older age) (size_of copies) (size_of copies) (drawing_at (size_of copies) age) ≡ drawing_at (size_of copies) (older age)
unfolding goes_on
on_pulse copies age =
    ⊎_elim
    (λ (l : age < 64). computed age (omega arith))
    (λ (l : 64 ≤ age). rw (older_late age l, late_age copies age l) (computed 64 (omega arith)))
    (split age 64)
  where
    computed :
        (n : ℕ) → n < 65 →
        next_drawing false (older n) (size_of copies) (size_of copies) (drawing_at (size_of copies) n) ≡ drawing_at (size_of copies) (older n)
    computed n h = same_drawing _ _ (is_true _ (below 65 (goes_on (size_of copies)) (holds_of _ (all_go_on copies)) n h))

-- A copy starts drawing after its start; at age 0 nothing is drawn.
first_above : (size : ℕ) → 0 < drawing_age size
first_above size = grind (arith, nat_tests)

at_start_lem : (size : ℕ) → drawing_at size 0 ≡ no_drawing
unfolding drawing_at
at_start_lem size = rw (lt-leb (drawing_age size) 0 (first_above size))

-- A player whose size at the start is this one, and whose drawing goes by its age. A clock on which the copies are of the size
-- keeps it so, ..
abbrev Steady : ℕ → Player → Type 0
Steady size p = (p.size ≡ size) × (p.drawing ≡ drawing_at size p.body.age)

drawn_by_age :
    (pulse hit : Bool) (copies age held : ℕ) (d : Drawing) → held ≡ size_of copies → d ≡ drawing_at (size_of copies) age →
    drawn_on pulse (pulse && hit) copies age held d ≡ drawing_at (size_of copies) (cond (pulse && hit) 0 (cond pulse (older age) age))
unfolding next_drawing
drawn_by_age true true copies age held d e same = sym (at_start_lem (size_of copies))
drawn_by_age true false copies age held d e same = rw (e, same) (on_pulse copies age)
drawn_by_age false hit copies age held d e same = same

steady_goes_on :
    (k : Tick) (strobe hm copies : ℕ) (w : Write) (p : Player) (size : ℕ) → size_of copies ≡ size → Steady size p →
    Steady size (player_after k strobe hm copies w p)
unfolding player_after object_after object_moved
steady_goes_on k strobe hm copies w p size e steady =
    let pulse = is_pulsed k (object_written hm w p.body) in
    let hit = not (hits w strobe) && starts copies (reached pulse p.body.position) in
    rw (← e) (
      size_kept (pulse && hit) (size_of copies) p.size (steady.0 ∙ sym e),
      drawn_by_age pulse hit copies p.body.age p.size p.drawing (steady.0 ∙ sym e) (rw (← e) at steady.1),
    )

-- .. and a start makes it so.
steady_from_start :
    (k : Tick) (strobe hm copies : ℕ) (w : Write) (p : Player) (size : ℕ) → size_of copies ≡ size →
    (object_after k strobe hm copies w p.body).started ≡ true → Steady size (player_after k strobe hm copies w p)
unfolding player_after object_after object_moved next_drawing
steady_from_start k strobe hm copies w p size e start =
    let pulse = is_pulsed k (object_written hm w p.body) in
    (rw (start, e), rw (start, and_first pulse _ start) (sym (at_start_lem size)))

-- So over clocks, from one that starts a copy on.
abbrev SizeStays : PlayerName → ℕ → State → List Write → Type 0
SizeStays q size s ws = CopiesAlways q (λ copies. size_of copies ≡ size) s ws

clock_goes_on :
    (q : PlayerName) (s : State) (w : Write) (size : ℕ) → size_of (copies_of q (clock_of s w).state) ≡ size → Steady size (player_of q s) →
    Steady size (player_of q (clock_of s w).state)
unfolding clock_of objects_after
clock_goes_on Player0 s w size e steady = steady_goes_on (tick_at w s.timing) RESP0 HMP0 _ w s.objects.p0 size e steady
clock_goes_on Player1 s w size e steady = steady_goes_on (tick_at w s.timing) RESP1 HMP1 _ w s.objects.p1 size e steady

clock_starts :
    (q : PlayerName) (s : State) (w : Write) (size : ℕ) → size_of (copies_of q (clock_of s w).state) ≡ size → (moved_on q s w).started ≡ true →
    Steady size (player_of q (clock_of s w).state)
unfolding clock_of objects_after
clock_starts Player0 s w size e start = steady_from_start (tick_at w s.timing) RESP0 HMP0 _ w s.objects.p0 size e start
clock_starts Player1 s w size e start = steady_from_start (tick_at w s.timing) RESP1 HMP1 _ w s.objects.p1 size e start

clocks_go_on :
    (q : PlayerName) (size : ℕ) (s : State) (ws : List Write) → SizeStays q size s ws → Steady size (player_of q s) →
    Steady size (player_of q (after_clocks s ws))
clocks_go_on q size s [] stays steady = steady
clocks_go_on q size s (w ∷ ws) stays steady =
    clocks_go_on q size (clock_of s w).state ws stays.1 (clock_goes_on q s w size stays.0 steady)

steady_after :
    (q : PlayerName) (size : ℕ) (s : State) (w : Write) (ws : List Write) → (moved_on q s w).started ≡ true → SizeStays q size s (w ∷ ws) →
    Steady size (player_of q (after_clocks s (w ∷ ws)))
steady_after q size s w ws start stays =
    clocks_go_on q size (clock_of s w).state ws stays.1 (clock_starts q s w size stays.0 start)

-- Such a drawing is lit by the age.
pixel_below : (a size : ℕ) → a < 8 * size → a / size < 8
pixel_below a size h = (div-lt_iff_lt-mul {k = size} {x = a} {y = 8} (omega arith)).1 h

drawing_lit_lem :
    (g : Graphic) (size age : ℕ) → drawing_lit g (drawing_at size age) ≡ lit_between g size (drawing_age size) (last_age size) age
unfolding drawing_lit drawing_at
drawing_lit_lem g size age = by_test (is_drawn size age) refl
  where
    column : ℕ
    column = age - drawing_age size

    within : is_drawn size age ≡ true → column < 8 * size
    within e =
        let above = first_above size in
        grind (arith, nat_tests)

    by_test :
        (b : Bool) → is_drawn size age ≡ b →
        drawing_lit g (cond b (record { pixel = column / size; shown = column % size + 1 }) no_drawing) ≡ (b && shown_bit g (column / size))
    by_test true e = rw (lt-ltb (column / size) 8 (pixel_below column size (within e)))
    by_test false e = refl

lit_at_size : (g : Graphic) (copies size age : ℕ) → size_of copies ≡ size → drawing_lit g (drawing_at size age) ≡ lit_by_age g size age
lit_at_size g copies size age e =
    rw (← e)
    (of_sizes
    (λ n. drawing_lit g (drawing_at n age) ≡ lit_by_age g n age)
    copies
    (drawing_lit_lem g 1 age)
    (drawing_lit_lem g 2 age)
    (drawing_lit_lem g 4 age))

-- The two claims.
pub lit_by_age_lem : LitByAge
lit_by_age_lem q size s w ws start stays =
    let end = after_clocks s (w ∷ ws) in
    let g = graphic_of q end in
    ap (drawing_lit g) (steady_after q size s w ws start stays).1 ∙ lit_at_size g _ size (player_of q end).body.age stays.0

size_one : (copies : ℕ) → (eqb copies 5 || eqb copies 7) ≡ false → size_of copies ≡ 1
unfolding size_of
size_one copies e = grind (arith, nat_tests)

sizes_one :
    (q : PlayerName) (s : State) (ws : List Write) → CopiesAlways q (λ copies. (eqb copies 5 || eqb copies 7) ≡ false) s ws → SizeStays q 1 s ws
sizes_one q s [] never = tt
sizes_one q s (w ∷ ws) never = (size_one (copies_of q (clock_of s w).state) never.0, sizes_one q (clock_of s w).state ws never.1)

pub lit_as_document_01 : LitAsDocument01
lit_as_document_01 q s w ws start never =
    let stays = sizes_one q s (w ∷ ws) never in
    lit_by_age_lem q 1 s w ws start stays ∙ rw (steady_after q 1 s w ws start stays).0
