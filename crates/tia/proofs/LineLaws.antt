-- A line clock by clock: the state before each clock, and the answer byte and colour of each.
use mathlib.Core.Path.{◌≡◌, ◌∙◌, refl, sym, ap}
use mathlib.Core.List.{List, [], ◌∷◌}
use Prim.Native.Nat.{ℕ, zero, suc, ◌+◌, ◌%◌, ◌<◌, ◌≤◌}
use native.Mathlib.Nat.{add-zero, zero-add, add-suc, suc-add, le_of_suc-le-suc, not-suc-le-zero}
use native.Mathlib.Omega.{arith}
use lib.ListN.{length, get_or, drop, length-drop}
use lib.Seq.{get_or-drop}
use Rattle.laws.specs.Bits.{bit}
use Rattle.laws.specs.Steps.{after}
use Rattle.tia.specs.declared.clock.Clocked.{Clocked}
use Rattle.tia.specs.declared.state.State.{State}
use Rattle.tia.specs.declared.write.Write.{Write}
use Rattle.tia.specs.Clock.{clock_of}
use Rattle.tia.specs.WriteList.{records_of, write_at}
use Rattle.tia.specs.Line.{clocks_from, line_of, picture, colour_picture}
use Rattle.tia.specs.FirstLit.{shows_at}
use Rattle.tia.proofs.LitLaws.{shows_is_bit}

-- The state before clock n, from the state before clock 0.
unfoldable pub state_at : (ℕ → Write) → State → ℕ → State
state_at writes s zero = s
state_at writes s (suc n) = (clock_of (state_at writes s n) (writes n)).state

pub state_first : (writes : ℕ → Write) (s : State) → state_at writes s 0 ≡ s
unfolding state_at
state_first writes s = refl

-- What a clock gives out: its answer byte, or its colour.
abbrev pub byte_out : Clocked → ℕ
byte_out c = c.byte

abbrev pub colour_out : Clocked → ℕ
colour_out c = c.colour

abbrev pub output_at : (Clocked → ℕ) → (ℕ → Write) → State → ℕ → ℕ
output_at out writes s n = out (clock_of (state_at writes s n) (writes n))

abbrev pub byte_at : (ℕ → Write) → State → ℕ → ℕ
byte_at = output_at byte_out

abbrev pub colour_at : (ℕ → Write) → State → ℕ → ℕ
colour_at = output_at colour_out

-- What every clock of some kind keeps, with a value that each moves on, holds after k of them from clock n on.
pub over_clocks :
    {A : Type 0} (Holds : State → A → Type 0) (next : A → A) (Kind : Write → Type 0) →
    ((s : State) (w : Write) (a : A) → Kind w → Holds s a → Holds (clock_of s w).state (next a)) →
    (writes : ℕ → Write) (s : State) (a : A) (n k : ℕ) → ((i : ℕ) → n ≤ i → i < n + k → Kind (writes i)) →
    Holds (state_at writes s n) a → Holds (state_at writes s (n + k)) (after next k a)
unfolding after state_at
over_clocks Holds next Kind step writes s a n zero kinds holds = rw add-zero holds
over_clocks Holds next Kind step writes s a n (suc k) kinds holds =
    rw (add-suc n k)
    (step _ _ _ (kinds (n + k) (omega arith) (omega arith)) (over_clocks Holds next Kind step writes s a n k (λ i l h. kinds i l (omega arith)) holds))

-- The clocks from n on start from the state before it.
state_after_lem :
    (writes : ℕ → Write) (s : State) (count n : ℕ) →
    (clocks_from writes n count (state_at writes s n)).state ≡ state_at writes s (n + count)
unfolding clocks_from state_at
state_after_lem writes s zero n = rw add-zero
state_after_lem writes s (suc count) n =
    state_after_lem writes s count (suc n) ∙ ap (state_at writes s) (suc-add n count ∙ sym (add-suc n count))

-- One output of so many clocks: the answer bytes and the colours are such lists.
unfoldable pub outputs_from : (Clocked → ℕ) → (ℕ → Write) → (clock count : ℕ) → State → List ℕ
outputs_from out writes clock zero s = []
outputs_from out writes clock (suc count) s =
    out (clock_of s (writes clock)) ∷ outputs_from out writes (suc clock) count (clock_of s (writes clock)).state

bytes_out : (writes : ℕ → Write) (count n : ℕ) (s : State) → (clocks_from writes n count s).bytes ≡ outputs_from byte_out writes n count s
unfolding clocks_from outputs_from
bytes_out writes zero n s = refl
bytes_out writes (suc count) n s = ap (◌∷◌ (clock_of s (writes n)).byte) (bytes_out writes count (suc n) (clock_of s (writes n)).state)

colours_out : (writes : ℕ → Write) (count n : ℕ) (s : State) → (clocks_from writes n count s).colours ≡ outputs_from colour_out writes n count s
unfolding clocks_from outputs_from
colours_out writes zero n s = refl
colours_out writes (suc count) n s = ap (◌∷◌ (clock_of s (writes n)).colour) (colours_out writes count (suc n) (clock_of s (writes n)).state)

output_of :
    (out : Clocked → ℕ) (writes : ℕ → Write) (s : State) (count n i : ℕ) → i < count →
    get_or (outputs_from out writes n count (state_at writes s n)) i 0 ≡ output_at out writes s (n + i)
unfolding outputs_from state_at
output_of out writes s zero n i h = absurd (not-suc-le-zero h)
output_of out writes s (suc count) n zero h = rw add-zero
output_of out writes s (suc count) n (suc i) h =
    output_of out writes s count (suc n) i (le_of_suc-le-suc h) ∙ ap (output_at out writes s) (suc-add n i ∙ sym (add-suc n i))

count_of : (out : Clocked → ℕ) (writes : ℕ → Write) (count n : ℕ) (s : State) → length (outputs_from out writes n count s) ≡ count
unfolding outputs_from
count_of out writes zero n s = refl
count_of out writes (suc count) n s = ap suc (count_of out writes count (suc n) (clock_of s (writes n)).state)

-- The line's write on each clock.
abbrev pub writes_of : List ℕ → ℕ → Write
writes_of ws = write_at (records_of ws)

-- A line is its clocks: its state is that after clock 227, ..
pub line_state : (s : State) (ws : List ℕ) → (line_of s ws).state ≡ state_at (writes_of ws) s 228
unfolding line_of state_at
line_state s ws = state_after_lem (writes_of ws) s 228 0

-- .. and column x of a buffer has the output of clock 68 + x: ..
abbrev pub columns_of : (Clocked → ℕ) → State → List ℕ → List ℕ
columns_of out s ws = drop 68 (outputs_from out (writes_of ws) 0 228 s)

pub column_output :
    (out : Clocked → ℕ) (s : State) (ws : List ℕ) (x : ℕ) → x < 160 → get_or (columns_of out s ws) x 0 ≡ output_at out (writes_of ws) s (68 + x)
unfolding state_at
column_output out s ws x h =
    get_or-drop 68 (outputs_from out (writes_of ws) 0 228 s) x 0 ∙ output_of out (writes_of ws) s 228 0 (68 + x) (omega arith)
    ∙ ap (output_at out (writes_of ws) s) (zero-add (68 + x))

pub columns_length : (out : Clocked → ℕ) (s : State) (ws : List ℕ) → length (columns_of out s ws) ≡ 160
columns_length out s ws = length-drop 68 (outputs_from out (writes_of ws) 0 228 s) ∙ rw (count_of out (writes_of ws) 228 0 s)

pub picture_columns : (s : State) (ws : List ℕ) → picture (line_of s ws) ≡ columns_of byte_out s ws
unfolding line_of
picture_columns s ws = ap (drop 68) (bytes_out (writes_of ws) 228 0 s)

pub colour_columns : (s : State) (ws : List ℕ) → colour_picture (line_of s ws) ≡ columns_of colour_out s ws
unfolding line_of
colour_columns s ws = ap (drop 68) (colours_out (writes_of ws) 228 0 s)

-- .. its answer byte, ..
pub line_byte : (s : State) (ws : List ℕ) (x : ℕ) → x < 160 → get_or (picture (line_of s ws)) x 0 ≡ byte_at (writes_of ws) s (68 + x)
line_byte s ws x h = rw (picture_columns s ws) (column_output byte_out s ws x h)

-- .. and its colour.
pub line_colour :
    (s : State) (ws : List ℕ) (x : ℕ) → x < 160 → get_or (colour_picture (line_of s ws)) x 0 ≡ colour_at (writes_of ws) s (68 + x)
line_colour s ws x h = rw (colour_columns s ws) (column_output colour_out s ws x h)

pub line_length : (s : State) (ws : List ℕ) → length (picture (line_of s ws)) ≡ 160
line_length s ws = rw (picture_columns s ws) (columns_length byte_out s ws)

pub line_colours_length : (s : State) (ws : List ℕ) → length (colour_picture (line_of s ws)) ≡ 160
line_colours_length s ws = rw (colour_columns s ws) (columns_length colour_out s ws)

-- A line from a line start ends at a line start.
pub line_restarts : (s : State) (ws : List ℕ) → s.timing.h ≡ 0 → (line_of s ws).state.timing.h ≡ 0
unfolding clock_of after
line_restarts s ws start =
    rw (line_state s ws)
    (over_clocks
    (λ s h. s.timing.h ≡ h)
    (λ h. (h + 1) % 228)
    (λ w. Unit {0})
    (λ s w h kind at. ap (λ (h : ℕ). (h + 1) % 228) at)
    _ s 0 0 228
    (λ i l h. tt)
    (rw (state_first (writes_of ws) s) start))

-- A column of a line shows an object exactly where it has the object's bit.
pub line_shows_bits :
    (s : State) (ws : List ℕ) (x object : ℕ) → x < 160 → object < 6 →
    shows_at object (picture (line_of s ws)) x ≡ bit object (get_or (picture (line_of s ws)) x 0)
unfolding clock_of
line_shows_bits s ws x object h few = rw (line_byte s ws x h) (shows_is_bit _ _ _ object few)
