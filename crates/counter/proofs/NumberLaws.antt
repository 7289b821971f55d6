-- The numberings of the code's answers are one to one: equal numbers mean equal answers.
use mathlib.Core.Path.{◌≡◌, sym, ap}
use Prim.Native.Nat.{ℕ}
use Rattle.std.specs.Prelude.{Result, Ok, Err}
use Rattle.refusal.specs.declared.Refusal.{Refusal}
use Rattle.refusal.proofs.NumberLaws.{same_refusal, number_not_zero}
use Rattle.counter.specs.declared.counter.Counter.{Counter}
use Rattle.counter.specs.Answers.{Answer, found_answer, stepped_answer}

abbrev number : Answer → ℕ
number a = a.number

abbrev value : Answer → ℕ
value a = a.value

-- A value or a count.
pub same_found : {a b : Result ℕ Refusal} → found_answer a ≡ found_answer b → a ≡ b
same_found {a = Ok m} {b = Ok n} e = ap Ok (ap value e)
same_found {a = Ok m} {b = Err r} e = absurd (number_not_zero r (ap number (sym e)))
same_found {a = Err r} {b = Ok n} e = absurd (number_not_zero r (ap number e))
same_found {a = Err r} {b = Err s} e = ap Err (same_refusal (ap number e))

-- A step of either kind.
same_counter : {K : Type 0} {c d : Counter K} → c.value ≡ d.value → c ≡ d
same_counter {c = c} e = ap (λ (v : ℕ). record c { value = v }) e

pub same_stepped : {K : Type 0} {a b : Result (Counter K) Refusal} → stepped_answer a ≡ stepped_answer b → a ≡ b
same_stepped {a = Ok c} {b = Ok d} e = ap Ok (same_counter {c = c} {d = d} (ap value e))
same_stepped {a = Ok c} {b = Err r} e = absurd (number_not_zero r (ap number (sym e)))
same_stepped {a = Err r} {b = Ok d} e = absurd (number_not_zero r (ap number e))
same_stepped {a = Err r} {b = Err s} e = ap Err (same_refusal (ap number e))
