-- An accepted line call and a refused one: the state that each hands back, and what acceptance shows of the list.
use mathlib.Core.Path.{◌≡◌, ◌∙◌, refl, sym, ap}
use mathlib.Core.List.{List, []}
use mathlib.Core.Bool.{false}
use Prim.Native.Nat.{ℕ}
use borrow.Author.Tests.{eq-eqb, eqb-false}
use lib.Dec.{eqb}
use lib.ListN.{length}
use Rattle.tia.specs.Answers.{LineAnswer}
use Rattle.tia.specs.declared.state.State.{State}
use Rattle.tia.specs.State.{bad_state}
use Rattle.tia.specs.WriteList.{records_of, first_fault, list_fault}
use Rattle.tia.specs.Line.{line_of, Rooms, rooms_of, pictures}
use Rattle.tia.specs.Answers.{line_fault, line_answer, line_buffers}
use Rattle.tia.specs.Run.{Call, LineCall, Meets, defined_line}
use Rattle.tia.proofs.RisingLaws.{Rising, sound_by}
use Rattle.tia.proofs.AnswerLaws.{no_fault}
use Rattle.tia.proofs.RefusalLaws.{refused_line_state}

-- The line call as it is defined meets its promise.
pub defined_meets : Meets defined_line
defined_meets s c good = (refl, refl)

-- The state of an accepted call.
accepted_answer :
    (s : State) (ws : List ℕ) (room : Rooms) → (line_answer s ws room).number ≡ 0 → (line_answer s ws room).state ≡ (line_of s ws).state
unfolding line_answer
accepted_answer s ws room e = rw (eq-eqb (line_fault s ws room).number 0 e)

pub record Accepted (line : LineCall) (s : State) (c : Call) : Type 0 where
  pub number : (line s c).answer.number ≡ 0
  pub state : (line s c).answer.state ≡ (line_of s c.writes).state
  pub after : (line s c).after ≡ pictures (line_of s c.writes)
  pub rising : Rising 0 (records_of c.writes)

pub accepted :
    (line : LineCall) → Meets line → (s : State) (c : Call) → bad_state s ≡ false → (line s c).answer.number ≡ 0 → Accepted line s c
unfolding line_answer line_buffers
accepted line meets s c good e =
    record {
      number = e;
      state = ap (λ (a : LineAnswer). a.state) (meets s c good).0 ∙ accepted_answer s c.writes (rooms_of c.lent) none;
      after = (meets s c good).1 ∙ rw (eq-eqb (line_fault s c.writes (rooms_of c.lent)).number 0 none);
      rising = (sound_by c.writes (no_fault s c.writes (rooms_of c.lent) none).list).rises;
    }
  where
    none : (line_fault s c.writes (rooms_of c.lent)).number ≡ 0
    none = sym (ap (λ (a : LineAnswer). a.number) (meets s c good).0) ∙ e

pub refused_state :
    (line : LineCall) → Meets line → (s : State) (c : Call) → bad_state s ≡ false → eqb (line s c).answer.number 0 ≡ false →
    (line s c).answer.state ≡ s
refused_state line meets s c good e =
    ap (λ (a : LineAnswer). a.state) (meets s c good).0
    ∙ refused_line_state s c.writes (rooms_of c.lent) (eqb-false _ 0 (rw (meets s c good).0 at e))

-- A line without writes is accepted from a good state at a line start.
pub quiet_accepted :
    (line : LineCall) → Meets line → (s : State) (c : Call) → c.writes ≡ [] →
    length c.lent.objects ≡ 160 → length c.lent.colours ≡ 160 → bad_state s ≡ false → s.timing.h ≡ 0 → Accepted line s c
unfolding line_answer line_fault list_fault records_of first_fault
quiet_accepted line meets s c none room colours good start =
    accepted line meets s c good
    (ap (λ (a : LineAnswer). a.number) (meets s c good).0 ∙ rw (good, start, room, colours, none))
