-- Demand 3 holds for a tape that is replayed: its lines are a run of accepted line calls.
use mathlib.Core.Path.{◌≡◌, ◌∙◌, refl, sym, ap}
use mathlib.Core.Bool.{true}
use mathlib.Core.List.{List, [], ◌∷◌, ◌++◌}
use Prim.Native.Nat.{ℕ, suc}
use borrow.Author.Tests.{eq-eqb}
use lib.ListN.{length, replicate}
use Rattle.tia.specs.declared.state.State.{State}
use Rattle.tia.specs.State.{start_state}
use Rattle.tia.specs.Line.{line_of, buffers, line_rooms}
use Rattle.tia.specs.WriteList.{TimedWrite, records_of}
use Rattle.tia.specs.Answers.{line_answer}
use Rattle.tia.specs.Movable.{Movable}
use Rattle.tia.specs.Run.{all_bytes, Call, defined_line, state_after, accepted_lists}
use Rattle.tia.specs.Demand3.{LineStart, QuietLines}
use Rattle.tia.proofs.StateLaws.{start_good, start_clock}
use Rattle.tia.proofs.LineLaws.{line_restarts}
use Rattle.tia.proofs.AcceptLaws.{defined_meets, Accepted, accepted}
use Rattle.tia.proofs.RunLaws.{slice_bytes, line_good}
use Rattle.tia.proofs.Demand3Laws.{demand_3}
use Rattle.replay.specs.Replay.{PlayedLine, state_after_lines, replay_of}
use Rattle.replay.specs.TapeDemand3.{records_of_lines, TapePosition, TapePicture, TapeDemand3}
use Rattle.replay.proofs.ChainLaws.{Follows, Chained, replay_chained, chain_first, chain_second}

-- A played line as a line call.
abbrev call_of : (s : State) (l : PlayedLine) → Follows s l → Call
call_of s l f =
    record {
      writes = l.writes;
      lent = buffers (replicate 160 0) (replicate 160 0);
      writes_slice = f.slice;
      objects_slice = refl;
      colours_slice = refl;
    }

-- What the call returns is the line's.
module _ (s : State) (l : PlayedLine) (f : Follows s l) where
  call_state : (defined_line s (call_of s l f)).answer.state ≡ l.state
  call_state = sym f.state

  module _ (start : LineStart s) where
    call_accepted : Accepted defined_line s (call_of s l f)
    call_accepted = accepted defined_line defined_meets s (call_of s l f) start.0 f.number

    call_filled : (defined_line s (call_of s l f)).after ≡ l.filled
    call_filled = call_accepted.after ∙ sym f.filled

    -- It ends at a line start.
    line_starts : LineStart l.state
    line_starts =
        let next : l.state ≡ (line_of s l.writes).state = sym call_state ∙ call_accepted.state in
        let bytes = slice_bytes l.writes f.slice in
        (rw next (line_good l.writes s bytes start.0), rw next (line_restarts s l.writes start.1))

-- Played lines as a run of line calls.
abbrev calls_of : (s : State) (ls : List PlayedLine) → Chained s ls → List Call
calls_of s [] chain = []
calls_of s (l ∷ ls) chain = call_of s l chain.0 ∷ calls_of l.state ls chain.1

calls_state : (s : State) (ls : List PlayedLine) (chain : Chained s ls) → state_after defined_line s (calls_of s ls chain) ≡ state_after_lines s ls
calls_state s [] chain = refl
calls_state s (l ∷ ls) chain =
    ap (λ (t : State). state_after defined_line t (calls_of l.state ls chain.1)) (call_state s l chain.0)
    ∙ calls_state l.state ls chain.1

calls_lists :
    (s : State) (ls : List PlayedLine) (chain : Chained s ls) → accepted_lists defined_line s (calls_of s ls chain) ≡ records_of_lines ls
unfolding accepted_lists
calls_lists s [] chain = refl
calls_lists s (l ∷ ls) chain =
    let accepted-one = eq-eqb (line_answer s l.writes line_rooms).number 0 chain.0.number in
    rw accepted-one
    (ap (λ (t : State). records_of l.writes ∷ accepted_lists defined_line t (calls_of l.state ls chain.1)) (call_state s l chain.0)
    ∙ ap (λ (later : List (List TimedWrite)). records_of l.writes ∷ later) (calls_lists l.state ls chain.1))

chain_starts : (s : State) (ls : List PlayedLine) → Chained s ls → LineStart s → LineStart (state_after_lines s ls)
chain_starts s [] chain start = start
chain_starts s (l ∷ ls) chain start = chain_starts l.state ls chain.1 (line_starts s l chain.0 start)

start_starts : LineStart start_state
start_starts = (start_good, start_clock)

-- The lines of a tape's replay.
module _ (tape : List ℕ) (all : all_bytes tape ≡ true) (o : Movable) where
  whole : Chained start_state (replay_of tape).lines
  unfolding replay_of
  whole = replay_chained tape all (suc (length tape)) start_state 1

  tape_position : TapePosition o tape
  tape_position before run after split slot ok =
      let s = state_after_lines start_state before in
      let chain = rw split at whole in
      let running = chain_first s run after (chain_second start_state before (run ++ after) chain) in
      let start = chain_starts start_state before (chain_first start_state before (run ++ after) chain) start_starts in
      let claim = (demand_3 defined_line defined_meets o s (calls_of s run running)).0 start slot in
      rw (calls_state s run running, calls_lists s run running) at (claim (rw (calls_lists s run running) ok))

  tape_picture : TapePicture o tape
  tape_picture before run after one two three four split none1 none2 none3 none4 ok drawn =
      let s = state_after_lines start_state before in
      let last = three ∷ four ∷ after in
      let chain = rw split at whole in
      let start = chain_starts start_state before (chain_first start_state before _ chain) start_starts in
      let from_one = chain_second start_state before (one ∷ two ∷ (run ++ last)) chain in
      let one-ends = line_starts s one from_one.0 start in
      let two_ends = line_starts one.state two from_one.1.0 one-ends in
      let running = chain_first two.state run last from_one.1.1 in
      let run_ends = chain_starts two.state run running two_ends in
      let from-three = chain_second two.state run last from_one.1.1 in
      let three-ends = line_starts (state_after_lines two.state run) three from-three.0 run_ends in
      let calls = calls_of two.state run running in
      let quiet : QuietLines = record {
        first = call_of s one from_one.0;
        second = call_of one.state two from_one.1.0;
        third = call_of (state_after_lines two.state run) three from-three.0;
        last = call_of three.state four from-three.1.0;
        first_quiet = (none1, (refl, refl));
        second_quiet = (none2, (refl, refl));
        third_quiet = (none3, (refl, refl));
        last_quiet = (none4, (refl, refl));
      } in
      let claim = rw (
        call_state s one from_one.0,
        call_state one.state two from_one.1.0,
        calls_state two.state run running,
        calls_lists two.state run running,
        call_state (state_after_lines two.state run) three from-three.0,
        call_filled one.state two from_one.1.0 one-ends,
        call_filled three.state four from-three.1.0 three-ends,
      )
      at ((demand_3 defined_line defined_meets o s calls).1 quiet start) in
      (claim ok drawn).1

pub tape_demand_3 : TapeDemand3
tape_demand_3 tape all o = (tape_position tape all o, tape_picture tape all o)
