-- The records of a line that is run are those of the chip's own clocks, and their answer bytes are the line's object bytes.
use mathlib.Core.Path.{◌≡◌, ◌∙◌, refl, sym, ap}
use mathlib.Core.Bool.{Bool, true, false, cond}
use mathlib.Core.List.{List, [], ◌∷◌, ◌++◌}
use Prim.Native.Nat.{ℕ, zero, suc, ◌+◌, ◌<◌}
use native.Mathlib.Omega.{arith}
use lib.Dec.{eqb}
use lib.ListN.{length, get_or}
use Rattle.tia.specs.declared.state.State.{State}
use Rattle.tia.specs.declared.write.Write.TheVariants.{Register}
use Rattle.tia.specs.State.{start_state, bad_state}
use Rattle.tia.specs.Write.{unknown}
use Rattle.tia.specs.Clock.{clock_of}
use Rattle.tia.specs.WriteList.{TimedWrite, records_of, write_at}
use Rattle.tia.specs.Line.{line_of, line_rooms, picture}
use Rattle.tia.specs.Answers.{ClockAnswer, given_clock, clock_answer, line_answer}
use Rattle.tia.specs.Run.{all_bytes}
use Rattle.tia.proofs.AnswerLaws.{clock_given, no_fault}
use Rattle.tia.proofs.LineLaws.{state_at, writes_of, line_byte, line_state}
use Rattle.tia.proofs.RisingLaws.{Rising, sound_by}
use Rattle.tia.proofs.RunLaws.{good_at, slice_bytes}
use Rattle.replay.specs.Replay.{PlayedLine, state_after_lines, replay_of}
use Rattle.replay.proofs.ChainLaws.{replay_chained, chain_second}
use Rattle.clock_bytes.specs.ClockBytes.{shared_bytes, record_bytes_of, line_records, tape_records}
use Rattle.clock_bytes.proofs.ShowLaws.{state_before, line_record, records_after}

-- A list without fault writes to known registers alone.
known_written : (least : ℕ) (rs : List TimedWrite) (n : ℕ) → Rising least rs → unknown (write_at rs n) ≡ false
unfolding write_at unknown
known_written least [] n rise = refl
known_written least (r ∷ rs) n rise = by_test (eqb r.clock n) (known_written (r.clock + 1) rs n rise.1.1.1)
  where
    by_test : (b : Bool) → unknown (write_at rs n) ≡ false → unknown (cond b (Register r.address r.value) (write_at rs n)) ≡ false
    by_test true later = rw rise.1.1.0
    by_test false later = later

-- A line that the line call accepts: each clock of it is accepted, and its states are those of the line's clocks.
module _ (s : State) (ws : List ℕ) (bytes : all_bytes ws ≡ true) (accepted : (line_answer s ws line_rooms).number ≡ 0) where
  good : bad_state s ≡ false
  unfolding line_answer
  good = (no_fault s ws line_rooms accepted).good

  given_at : (n : ℕ) → clock_answer (state_at (writes_of ws) s n) (writes_of ws n) ≡ given_clock (clock_of (state_at (writes_of ws) s n) (writes_of ws n))
  unfolding line_answer
  given_at n =
      clock_given
      (state_at (writes_of ws) s n)
      (writes_of ws n)
      (good_at ws s bytes good n)
      (known_written 0 (records_of ws) n (sound_by ws (no_fault s ws line_rooms accepted).list).rises)

  same_states : (n : ℕ) → state_before (writes_of ws) s n ≡ state_at (writes_of ws) s n
  unfolding state_before state_at
  same_states zero = refl
  same_states (suc n) =
      ap (λ (t : State). (clock_answer t (writes_of ws n)).state) (same_states n) ∙ ap (λ (a : ClockAnswer). a.state) (given_at n)

  -- The record of each clock is that of the chip's clock, ..
  pub record_is_clock :
      (h : ℕ) → h < 228 →
      get_or (line_records s ws) h []
      ≡ record_bytes_of (state_at (writes_of ws) s h) (given_clock (clock_of (state_at (writes_of ws) s h) (writes_of ws h)))
  record_is_clock h below = rw (line_record s ws h below, same_states h, given_at h)

  -- .. from clock 68 on its answer byte is the line's object byte, ..
  pub record_byte : (x : ℕ) → x < 160 → get_or (get_or (line_records s ws) (68 + x) []) 1 0 ≡ get_or (picture (line_of s ws)) x 0
  unfolding record_bytes_of shared_bytes
  record_byte x below = rw (record_is_clock (68 + x) (omega arith), line_byte s ws x below)

  -- .. and after the last the state is the line's.
  pub records_end : state_before (writes_of ws) s 228 ≡ (line_of s ws).state
  records_end = same_states 228 ∙ sym (line_state s ws)

-- So for every line of a tape that is run: the records written for it have its object bytes.
pub tape_record_byte :
    (tape : List ℕ) → all_bytes tape ≡ true → (passed later : List PlayedLine) (l : PlayedLine) →
    (replay_of tape).lines ≡ passed ++ (l ∷ later) → (x : ℕ) → x < 160 →
    get_or (get_or (tape_records tape (length passed)) (68 + x) []) 1 0 ≡ get_or l.filled.objects x 0
unfolding tape_records replay_of
tape_record_byte tape all passed later l split x below =
    let s = state_after_lines start_state passed in
    let chain = chain_second start_state passed (l ∷ later) (rw split at (replay_chained tape all (suc (length tape)) start_state 1)) in
    let here = chain.0 in
    rw (
      ← records_after (replay_of tape).lines passed later l (length passed) s split refl refl,
      record_byte s l.writes (slice_bytes l.writes here.slice) here.number x below,
      here.filled,
    )
