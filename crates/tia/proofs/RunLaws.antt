-- A line of a run for one object: its position turned by the line's signed motion value, and its motion value as reckoned.
use mathlib.Core.Path.{◌≡◌, ◌∙◌, refl, sym, ap}
use mathlib.Core.List.{List, [], ◌∷◌}
use mathlib.Core.Bool.{Bool, true, false, cond, true≢false}
use Prim.Native.Nat.{ℕ, zero, suc, ◌+◌, ◌-◌, ◌%◌, ◌^◌, ◌<◌, ◌≤◌, zero-le}
use native.Mathlib.Nat.{zero-add}
use native.Mathlib.Omega.{arith}
use borrow.Author.Tests.{eqb-true}
use lib.Dec.{eqb, ltb}
use lib.IntN.{pos, ◌+ℤ◌}
use lib.ListN.{length}
use Rattle.std.proofs.lemmas.Bool.Decides.{nat_tests}
use Rattle.laws.proofs.Bools.{and_first, and_second}
use Rattle.tia.specs.declared.state.Objects.{Objects}
use Rattle.tia.specs.declared.state.State.{State}
use Rattle.tia.specs.declared.timing.Timing.{Timing}
use Rattle.tia.specs.Write.{HMOVE, ByteWritten, hits}
use Rattle.tia.specs.State.{timing_in_range, object_in_range, player_in_range, objects_in_range, in_range, any_live, bad_state}
use Rattle.tia.specs.Signed.{signed, mod160}
use Rattle.tia.specs.WriteList.{TimedWrite, records_of, write_at}
use Rattle.tia.specs.Line.{line_of}
use Rattle.tia.specs.Movable.{Movable, P0, P1, M0, M1, BL, body_of, position_of, motion_of, motion_register_of}
use Rattle.tia.specs.Run.{all_bytes, is_slice, Call, LineCall, Meets, state_after, accepted_lists, Reckoning, reckon_line, reckon_lines, hmove_clocks}
use Rattle.tia.specs.Run.{moves_within, strobe_unused, allowed}
use Rattle.tia.specs.Demand3.{turned}
use Rattle.tia.proofs.StateLaws.{good_in_range, good_rest}
use Rattle.tia.proofs.GoodLaws.{none_live, good_stays}
use Rattle.tia.proofs.LineLaws.{state_at, writes_of, line_state}
use Rattle.tia.proofs.RisingLaws.{Rising}
use Rattle.tia.proofs.AcceptLaws.{accepted, refused_state}
use Rattle.tia.proofs.MotionLaws.{end_slot}
use Rattle.tia.proofs.PhaseLaws.{Idle}
use Rattle.tia.proofs.MoveLaws.{at_start, MovedAt, moved_line, unmoved_line}
use Rattle.tia.proofs.ReckonLaws.{reckon_at, clocks_are_records, half_is_motion, half_below, sum_stays, sum_moves}
use Rattle.tia.proofs.PremiseLaws.{strobe_never, unmoved_by, moved_by}
use Rattle.tia.proofs.TurnLaws.{not_turned, once_around, turned_twice, turned_signed}

-- What a slice holds are bytes.
pub slice_bytes : (vs : List ℕ) → is_slice vs ≡ true → all_bytes vs ≡ true
slice_bytes vs slice = and_first (all_bytes vs) (ltb (length vs) (2 ^ 63)) slice

-- What a line of bytes writes is a byte, ..
byte_written : (ws : List ℕ) → all_bytes ws ≡ true → (n : ℕ) → ByteWritten (writes_of ws n)
unfolding records_of write_at
byte_written [] all n = zero-le
byte_written (c ∷ []) all n = zero-le
byte_written (c ∷ a ∷ []) all n = zero-le
byte_written (c ∷ a ∷ v ∷ ws) all n =
    let later = byte_written ws (grind (arith, nat_tests)) n in
    grind (arith, nat_tests)

-- .. so that every clock and every line keeps a good state good.
pub good_at : (ws : List ℕ) (s : State) → all_bytes ws ≡ true → bad_state s ≡ false → (n : ℕ) → bad_state (state_at (writes_of ws) s n) ≡ false
unfolding state_at
good_at ws s all good zero = good
good_at ws s all good (suc n) = good_stays (state_at (writes_of ws) s n) (writes_of ws n) (byte_written ws all n) (good_at ws s all good n)

pub line_good : (ws : List ℕ) (s : State) → all_bytes ws ≡ true → bad_state s ≡ false → bad_state (line_of s ws).state ≡ false
line_good ws s all good = rw (line_state s ws) (good_at ws s all good 228)

-- So no run leaves the good states, whatever its calls are.
pub call_good :
    (line : LineCall) → Meets line → (s : State) (c : Call) → bad_state s ≡ false → bad_state (line s c).answer.state ≡ false
call_good line meets s c good = by_test (eqb (line s c).answer.number 0) refl
  where
    by_test : (b : Bool) → eqb (line s c).answer.number 0 ≡ b → bad_state (line s c).answer.state ≡ false
    by_test true t =
        rw (accepted line meets s c good (eqb-true (line s c).answer.number 0 t)).state
        (line_good c.writes s (slice_bytes c.writes c.writes_slice) good)
    by_test false t = rw (refused_state line meets s c good t) good

pub run_good :
    (line : LineCall) → Meets line → (calls : List Call) (s : State) → bad_state s ≡ false → bad_state (state_after line s calls) ≡ false
run_good line meets [] s good = good
run_good line meets (c ∷ cs) s good = run_good line meets cs (line s c).answer.state (call_good line meets s c good)

-- What a good state shows of one object.
body_in_range : (o : Movable) (os : Objects) → objects_in_range os ≡ true → object_in_range (body_of o os) ≡ true
unfolding objects_in_range player_in_range
body_in_range P0 os ok = and_first (object_in_range os.p0.body) _ (and_first (player_in_range os.p0) _ ok)
body_in_range P1 os ok =
    and_first (object_in_range os.p1.body) _ (and_first (player_in_range os.p1) _ (and_second (player_in_range os.p0) _ ok))
body_in_range M0 os ok =
    and_first (object_in_range os.m0) _ (and_second (player_in_range os.p1) _ (and_second (player_in_range os.p0) _ ok))
body_in_range M1 os ok =
    and_first (object_in_range os.m1) _
    (and_second (object_in_range os.m0) _ (and_second (player_in_range os.p1) _ (and_second (player_in_range os.p0) _ ok)))
body_in_range BL os ok =
    and_second (object_in_range os.m1) _
    (and_second (object_in_range os.m0) _ (and_second (player_in_range os.p1) _ (and_second (player_in_range os.p0) _ ok)))

good_body : (o : Movable) (s : State) → bad_state s ≡ false → object_in_range (body_of o s.objects) ≡ true
unfolding in_range
good_body o s good =
    body_in_range o s.objects
    (and_first (objects_in_range s.objects) _ (and_second (timing_in_range s.timing) _ (good_in_range s good)))

pub position_below : (o : Movable) (s : State) → bad_state s ≡ false → position_of o s < 160
position_below o s good =
    let body = good_body o s good in
    grind (arith, nat_tests)

pub motion_below : (o : Movable) (s : State) → bad_state s ≡ false → motion_of o s ≤ 15
motion_below o s good =
    let body = good_body o s good in
    grind (arith, nat_tests)

still_object : (o : Movable) (s : State) → any_live s.objects ≡ false → (body_of o s.objects).live ≡ false
still_object P0 s none = (none_live s.objects none).p0
still_object P1 s none = (none_live s.objects none).p1
still_object M0 s none = (none_live s.objects none).m0
still_object M1 s none = (none_live s.objects none).m1
still_object BL s none = (none_live s.objects none).bl

-- A good state at a line start with no motion under way.
pub record AtRest (s : State) : Type 0 where
  pub good : bad_state s ≡ false
  pub start : s.timing.h ≡ 0
  pub rest : s.timing.slot ≡ 16

pub idle_start : (o : Movable) (s : State) → AtRest s → Idle o s (position_of o s) (at_start s.timing.late)
idle_start o s a =
    record {
      timing = λ i. record { h = a.start i; slot = a.rest i; late = s.timing.late };
      still = still_object o s (good_rest s a.good a.rest);
      at = not_turned (position_below o s a.good);
    }

-- An object at a line start of a run, turned by the sum so far.
pub record InRun (o : Movable) (p : ℕ) (s : State) (k : Reckoning) : Type 0 where
  pub at_rest : AtRest s
  pub motion : motion_of o s ≡ k.half
  pub half : k.half ≤ 15
  pub at : position_of o s ≡ turned p k.sum

-- The end of a line, from what its last clock leaves.
line_end :
    (o : Movable) (p q : ℕ) (s : State) (ws : List ℕ) (k : Reckoning) (late : Bool) (pulses : ℕ) → all_bytes ws ≡ true →
    Rising 0 (records_of ws) → InRun o p s k →
    Idle o (state_at (writes_of ws) s 228) q (record { h = 0; late = late; pulses = pulses }) →
    (q + pulses) % 160 ≡ turned p (reckon_at (motion_register_of o) (writes_of ws) k 228).sum →
    InRun o p (line_of s ws).state (reckon_line (motion_register_of o) k (records_of ws))
line_end o p q s ws k late pulses all rise run idle there =
    rw (line_state s ws, sym (clocks_are_records (motion_register_of o) (records_of ws) k rise))
    (record {
      at_rest =
          record {
            good = good_at ws s all run.at_rest.good 228;
            start = ap (λ (t : Timing). t.h) idle.timing;
            rest = ap (λ (t : Timing). t.slot) idle.timing;
          };
      motion = half_is_motion o (writes_of ws) s k run.motion 228;
      half = half_below (motion_register_of o) (writes_of ws) k run.half 228;
      at = idle.at ∙ there;
    })

-- A line without HMOVE leaves the object where it is, ..
runs_unmoved :
    (o : Movable) (p : ℕ) (s : State) (ws : List ℕ) (k : Reckoning) → all_bytes ws ≡ true → Rising 0 (records_of ws) →
    hmove_clocks (records_of ws) ≡ [] → strobe_unused o (records_of ws) ≡ true → InRun o p s k →
    InRun o p (line_of s ws).state (reckon_line (motion_register_of o) k (records_of ws))
unfolding reckon_at
runs_unmoved o p s ws k all rise none unused run =
    line_end o p (position_of o s) s ws k false 160 all rise run
    (unmoved_line o (writes_of ws) s (position_of o s) s.timing.late unmoved (strobe_never o (records_of ws) unused) (idle_start o s run.at_rest))
    (once_around (position_below o s run.at_rest.good) ∙ run.at
    ∙ ap (turned p) (sym (sum_stays (motion_register_of o) (writes_of ws) k 0 228 (λ i l h. unmoved i))))
  where
    unmoved : (i : ℕ) → hits (writes_of ws i) HMOVE ≡ false
    unmoved = unmoved_by (records_of ws) rise none

-- .. and one with an HMOVE at clock c turns it by the signed motion value.
runs_moved :
    (o : Movable) (p c : ℕ) (s : State) (ws : List ℕ) (k : Reckoning) → all_bytes ws ≡ true → Rising 0 (records_of ws) →
    MovedAt o (writes_of ws) c → InRun o p s k →
    InRun o p (line_of s ws).state (reckon_line (motion_register_of o) k (records_of ws))
unfolding reckon_at
runs_moved o p c s ws k all rise moved run =
    line_end o p (position_of o s + suc (end_slot m)) s ws k true 151 all rise run
    (moved_line o (writes_of ws) s (position_of o s) c s.timing.late moved half (idle_start o s run.at_rest))
    (pulses (position_of o s) (end_slot m) ∙ sym (turned_signed (position_of o s) m)
    ∙ ap (λ (n : ℕ). turned n (signed m)) run.at ∙ turned_twice p k.sum (signed m) ∙ ap (turned p) (sym sum))
  where
    hm : ℕ
    hm = motion_register_of o

    m : ℕ
    m = motion_of o (state_at (writes_of ws) s c)

    is_half : m ≡ (reckon_at hm (writes_of ws) k c).half
    is_half = half_is_motion o (writes_of ws) s k run.motion c

    half : m ≤ 15
    half = rw is_half (half_below hm (writes_of ws) k run.half c)

    pulses : (p n : ℕ) → (p + suc n + 151) % 160 ≡ (p + n + 152) % 160
    pulses p n = omega arith

    to_end : suc c + (227 - c) ≡ 228
    to_end = omega (arith, moved.early)

    before : (reckon_at hm (writes_of ws) k c).sum ≡ k.sum
    before = rw zero-add at (sum_stays hm (writes_of ws) k 0 c (λ i l h. moved.alone i (λ e. omega (arith, e, h))))

    after : (reckon_at hm (writes_of ws) k 228).sum ≡ (reckon_at hm (writes_of ws) k (suc c)).sum
    after = rw to_end at (sum_stays hm (writes_of ws) k (suc c) (227 - c) (λ i l h. moved.alone i (λ e. omega (arith, e, l))))

    sum : (reckon_at hm (writes_of ws) k 228).sum ≡ k.sum +ℤ signed m
    sum = after ∙ sum_moves hm (writes_of ws) k c moved.move ∙ rw (before, is_half)

-- An accepted line under demand 3's premises.
pub line_runs :
    (o : Movable) (p : ℕ) (s : State) (ws : List ℕ) (k : Reckoning) → all_bytes ws ≡ true → Rising 0 (records_of ws) →
    moves_within (hmove_clocks (records_of ws)) (records_of ws) ≡ true → strobe_unused o (records_of ws) ≡ true → InRun o p s k →
    InRun o p (line_of s ws).state (reckon_line (motion_register_of o) k (records_of ws))
unfolding moves_within
line_runs o p s ws k all rise within unused run = by_moves (hmove_clocks (records_of ws)) refl within
  where
    by_moves :
        (cs : List ℕ) → hmove_clocks (records_of ws) ≡ cs → moves_within cs (records_of ws) ≡ true →
        InRun o p (line_of s ws).state (reckon_line (motion_register_of o) k (records_of ws))
    by_moves [] none w = runs_unmoved o p s ws k all rise none unused run
    by_moves (c ∷ []) one w = runs_moved o p c s ws k all rise (moved_by o c (records_of ws) rise one within unused) run
    by_moves (c ∷ d ∷ cs) more w = absurd (true≢false (sym w))

-- A run under demand 3's premises: its refused calls hand the state on, its accepted lines turn the object.
pub run_runs :
    (line : LineCall) → Meets line → (o : Movable) (p : ℕ) (calls : List Call) (s : State) (k : Reckoning) → InRun o p s k →
    allowed o (accepted_lists line s calls) ≡ true →
    InRun o p (state_after line s calls) (reckon_lines (motion_register_of o) k (accepted_lists line s calls))
unfolding accepted_lists allowed
run_runs line meets o p [] s k run ok = run
run_runs line meets o p (c ∷ cs) s k run ok =
    by_test (eqb (line s c).answer.number 0) refl ok (run_runs line meets o p cs (line s c).answer.state)
  where
    later : List (List TimedWrite)
    later = accepted_lists line (line s c).answer.state cs

    rs : List TimedWrite
    rs = records_of c.writes

    by_test :
        (b : Bool) → eqb (line s c).answer.number 0 ≡ b → allowed o (cond b (rs ∷ later) later) ≡ true →
        ((k : Reckoning) → InRun o p (line s c).answer.state k → allowed o later ≡ true →
        InRun o p (state_after line s (c ∷ cs)) (reckon_lines (motion_register_of o) k later)) →
        InRun o p (state_after line s (c ∷ cs)) (reckon_lines (motion_register_of o) k (cond b (rs ∷ later) later))
    by_test true t ok rest =
        let a = accepted line meets s c run.at_rest.good (eqb-true (line s c).answer.number 0 t) in
        let from = and_second (moves_within (hmove_clocks rs) rs) _ ok in
        rest
        (reckon_line (motion_register_of o) k rs)
        (rw a.state
        (line_runs o p s c.writes k
        (slice_bytes c.writes c.writes_slice)
        a.rising
        (and_first (moves_within (hmove_clocks rs) rs) _ ok)
        (and_first (strobe_unused o rs) _ from)
        run))
        (and_second (strobe_unused o rs) _ from)
    by_test false t ok rest = rest k (rw (refused_state line meets s c run.at_rest.good t) run) ok

-- At the run's start nothing is turned.
pub run_starts : (o : Movable) (s : State) → AtRest s → InRun o (position_of o s) s (record { half = motion_of o s; sum = pos 0 })
unfolding mod160
run_starts o s a =
    record { at_rest = a; motion = refl; half = motion_below o s a.good; at = not_turned (position_below o s a.good) }
