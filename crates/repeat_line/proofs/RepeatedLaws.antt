-- A program that repeats the line call: the calls still to make from here give what all calls give.
use mathlib.Core.Path.{◌≡◌}
use mathlib.Core.List.{List}
use Prim.Native.Nat.{ℕ, suc, ◌+◌, ◌-◌, ◌≤◌, ◌<◌}
use native.Mathlib.Omega.{arith}
use Rattle.tia.specs.declared.state.State.{State}
use Rattle.tia.specs.State.{start_state}
use Rattle.tia.specs.Line.{Buffers}
use Rattle.tia.specs.Answers.{LineAnswer, LinePromise}
use Rattle.repeat_line.specs.Repeated.{repeated}

-- Before a call, with so many made.
pub record Repeating (count made : ℕ) (s : State) (ws : List ℕ) (lent₀ lent : Buffers) : Type 0 where
  pub rest : repeated (count - made) s ws lent ≡ repeated count start_state ws lent₀

-- Before the first.
pub repeats_none : (count : ℕ) (s : State) (ws : List ℕ) (lent : Buffers) → s ≡ start_state → Repeating count 0 s ws lent lent
repeats_none count s ws lent start =
    let all : count - 0 ≡ count = omega arith in
    record { rest = rw (start, all) }

-- After one more.
pub repeats :
    (count made : ℕ) (s : State) (ws : List ℕ) (lent₀ lent after : Buffers) (answer : LineAnswer) → made < count →
    Repeating count made s ws lent₀ lent → LinePromise s ws lent answer after →
    Repeating count (made + 1) answer.state ws lent₀ after
unfolding repeated
repeats count made s ws lent₀ lent after answer more repeating promise =
    let one : count - made ≡ suc (count - (made + 1)) = omega arith in
    record { rest = rw (promise.0, promise.1) (rw one at repeating.rest) }

-- After the last.
pub repeated_all :
    (count made : ℕ) (s : State) (ws : List ℕ) (lent₀ lent : Buffers) → count ≤ made → Repeating count made s ws lent₀ lent →
    lent ≡ repeated count start_state ws lent₀
unfolding repeated
repeated_all count made s ws lent₀ lent all repeating =
    let none : count - made ≡ 0 = omega arith in
    rw none at repeating.rest
