-- A computed test that decides a statement: it is true exactly when the statement holds.
use mathlib.Core.Path.{◌≡◌, ◌∙◌, refl, sym}
use mathlib.Core.Logic.{◌⊎◌, inl, inr, ⊎_elim}
use mathlib.Core.Bool.{Bool, true, false, true≢false, ◌&&◌, ◌||◌, not}
use Prim.Native.Nat.{ℕ, ◌%◌, ◌<◌, ◌≤◌}
use native.Mathlib.Omega.{arith}
use borrow.Author.Tests.{ltb-true, ltb-false, leb-true, leb-false, eqb-true, eqb-false}
use lib.Dec.{ltb, leb, eqb}
use Rattle.laws.specs.Numbers.{bad_length, BadLength}

-- What a test shows of a statement that it decides.
pub record Decides (test : Bool) (P : Type 0) : Type 0 where
  pub holds : test ≡ true → P
  pub fails : test ≡ false → P → ⊥

-- The tests of two numbers.
pub less : (a b : ℕ) → Decides (ltb a b) (a < b)
less a b = record { holds = ltb-true a b; fails = λ e h. omega (arith, ltb-false a b e) }

pub equal : (a b : ℕ) → Decides (eqb a b) (a ≡ b)
equal a b = record { holds = eqb-true a b; fails = eqb-false a b }

pub at_most : (a b : ℕ) → Decides (leb a b) (a ≤ b)
at_most a b = record { holds = leb-true a b; fails = λ e h. omega (arith, leb-false a b e) }

-- The negation of a test, and two tests joined by "or" and by "and".
pub negation : {P : Type 0} (test : Bool) → Decides test P → Decides (not test) (P → ⊥)
negation true d = record { holds = λ e. absurd (true≢false (sym e)); fails = λ e never. never (d.holds refl) }
negation false d = record { holds = λ e. d.fails refl; fails = λ e. absurd (true≢false e) }

pub differs : (a b : ℕ) → Decides (not (eqb a b)) (a ≡ b → ⊥)
differs a b = negation (eqb a b) (equal a b)

pub either : {P Q : Type 0} (a b : Bool) → Decides a P → Decides b Q → Decides (a || b) (P ⊎ Q)
either true b p q = record { holds = λ e. inl (p.holds refl); fails = λ e. absurd (true≢false e) }
either false b p q = record { holds = λ e. inr (q.holds e); fails = λ e. ⊎_elim (p.fails refl) (q.fails e) }

pub both : {P Q : Type 0} (a b : Bool) → Decides a P → Decides b Q → Decides (a && b) (P × Q)
both true b p q = record { holds = λ e. (p.holds refl, q.holds e); fails = λ e h. q.fails e h.1 }
both false b p q = record { holds = λ e. absurd (true≢false (sym e)); fails = λ e h. p.fails refl h.0 }

-- Row 4's test decides row 4.
pub length_decided : (n : ℕ) → Decides (bad_length n) (BadLength n)
length_decided n = either (not (eqb (n % 3) 0)) (ltb 684 n) (differs (n % 3) 0) (less 684 n)

-- A test decides that it passes; its negation, that it fails.
pub passes : (test : Bool) → Decides test (test ≡ true)
passes test = record { holds = λ e. e; fails = λ no yes. true≢false (sym yes ∙ no) }

pub misses : (test : Bool) → Decides (not test) (test ≡ false)
misses true = record { holds = λ e. absurd (true≢false (sym e)); fails = λ no e. true≢false e }
misses false = record { holds = λ e. refl; fails = λ no e. true≢false no }
