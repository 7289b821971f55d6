-- Laws of tests: conjunctions, disjunctions, and a choice between two values.
use mathlib.Core.Path.{◌≡◌, refl, sym}
use Prim.Native.Nat.{ℕ, ◌<◌}
use mathlib.Core.Bool.{Bool, true, false, cond, ◌&&◌, ◌||◌, not, true≢false}
use mathlib.Core.Logic.{◌⊎◌, inl, inr}
use lib.Dec.{T}

-- A conjunction that holds, and its two parts.
pub and_both : {a b : Bool} → a ≡ true → b ≡ true → (a && b) ≡ true
and_both p q = rw (p, q)

pub and_first : (a b : Bool) → (a && b) ≡ true → a ≡ true
and_first true b e = refl
and_first false b e = e

pub and_second : (a b : Bool) → (a && b) ≡ true → b ≡ true
and_second true b e = e
and_second false b e = absurd (true≢false (sym e))

-- A test that passes at both values passes at the chosen one.
pub cond_passes : {A : Type 0} (test : A → Bool) (b : Bool) {x y : A} → test x ≡ true → test y ≡ true → test (cond b x y) ≡ true
cond_passes test true p q = p
cond_passes test false p q = q

-- One of two numbers below a limit.
pub cond_below : (b : Bool) {m n limit : ℕ} → m < limit → n < limit → cond b m n < limit
cond_below true p q = p
cond_below false p q = q

-- A disjunction that fails, and its two parts.
pub or_neither : {a b : Bool} → a ≡ false → b ≡ false → (a || b) ≡ false
or_neither p q = rw (p, q)

pub or_first : (a b : Bool) → (a || b) ≡ false → a ≡ false
or_first true b e = e
or_first false b e = refl

pub or_second : (a b : Bool) → (a || b) ≡ false → b ≡ false
or_second true b e = absurd (true≢false e)
or_second false b e = e

-- One of the two parts of a disjunction that holds.
pub or_cases : (a b : Bool) → (a || b) ≡ true → (a ≡ true) ⊎ (b ≡ true)
or_cases true b e = inl refl
or_cases false b e = inr e

-- A negation that holds or fails.
pub not_true : (a : Bool) → not a ≡ true → a ≡ false
not_true true e = sym e
not_true false e = refl

pub not_false : (a : Bool) → not a ≡ false → a ≡ true
not_false true e = refl
not_false false e = sym e

-- A computed test that passes.
pub is_true : (a : Bool) → T a → a ≡ true
is_true true t = refl
is_true false t = absurd t

pub holds_of : (a : Bool) → a ≡ true → T a
holds_of true e = tt
holds_of false e = absurd (true≢false (sym e))

-- A test over every combination of six flags, computed, holds for each.
abbrev every_flag : (Bool → Bool) → Bool
every_flag test = test true && test false

at_flag : (test : Bool → Bool) → every_flag test ≡ true → (b : Bool) → test b ≡ true
at_flag test e true = and_first (test true) (test false) e
at_flag test e false = and_second (test true) (test false) e

abbrev pub every_six : (Bool → Bool → Bool → Bool → Bool → Bool → Bool) → Bool
every_six test =
    every_flag λ a. every_flag λ b. every_flag λ c. every_flag λ d. every_flag λ e. every_flag λ f. test a b c d e f

pub at_six :
    (test : Bool → Bool → Bool → Bool → Bool → Bool → Bool) → every_six test ≡ true → (a b c d e f : Bool) → test a b c d e f ≡ true
at_six test t a b c d e f =
    at_flag (λ f. test a b c d e f)
    (at_flag (λ e. every_flag (λ f. test a b c d e f))
    (at_flag (λ d. every_flag (λ e. every_flag (λ f. test a b c d e f)))
    (at_flag (λ c. every_flag (λ d. every_flag (λ e. every_flag (λ f. test a b c d e f))))
    (at_flag (λ b. every_flag (λ c. every_flag (λ d. every_flag (λ e. every_flag (λ f. test a b c d e f)))))
    (at_flag (λ a. every_flag (λ b. every_flag (λ c. every_flag (λ d. every_flag (λ e. every_flag (λ f. test a b c d e f)))))) t a)
    b)
    c)
    d)
    e)
    f
