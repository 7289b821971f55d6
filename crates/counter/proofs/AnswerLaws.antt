-- The answers by cases: what the code returns in each branch; each conversion the other's inverse.
use mathlib.Core.Path.{◌≡◌, ◌∙◌, sym, ap}
use mathlib.Core.Logic.{◌↔◌, ⊎_elim}
use Prim.Native.Nat.{ℕ, ◌<◌, ◌≤◌}
use native.Mathlib.Omega.{arith}
use denote.Ref.{Bor}
use lib.ListN.{get_or}
use borrow.Author.Tests.{lt-ltb, le-ltb, eq-eqb, ne_eqb}
use Rattle.std.specs.Prelude.{Option, None, Some}
use Rattle.std.specs.Option.{MatchOption, ok_or, option_copied}
use Rattle.std.specs.Slice.{IsItemAt}
use Rattle.laws.proofs.Split.{split}
use Rattle.laws.specs.Numbers.{for_no_such}
use Rattle.refusal.specs.declared.Refusal.TheVariants as refusal
use Rattle.counter.specs.Step.{wrap_step}
use Rattle.counter.specs.Count.{value_of, count_of, card}
use Rattle.counter.specs.Kind.{Kind, wrap_of, step_of}
use Rattle.counter.specs.Answers.{Answer, given, refused, found_answer, step_answer, value_answer, count_answer}
use Rattle.counter.proofs.CountLaws.{card_agrees, count_of_value, value_of_count, value_below, count_below_lem}

-- The step of a kind: given up to 63, refused above.
pub step_given : (k : Kind) (v : ℕ) → v ≤ 63 → step_answer k v ≡ given (step_of k v)
unfolding step_answer
step_given k v h = rw (le-ltb 63 v h)

pub step_refused : (k : Kind) (v : ℕ) → 63 < v → step_answer k v ≡ refused for_no_such
unfolding step_answer
step_refused k v h = rw (lt-ltb 63 v h)

-- A step with the wrap value of a kind is the step of the kind.
pub kind_stepped :
    (k : Kind) (wrap v next : ℕ) → wrap ≡ wrap_of k → next ≡ wrap_step wrap v → v ≤ 63 → step_answer k v ≡ given next
kind_stepped k wrap v next is_wrap is_next h = rw (is_next, is_wrap) (step_given k v h)

-- The value of a count: given up to 62, refused above.
pub value_given : (n : ℕ) → n < 63 → value_answer n ≡ given (value_of n)
unfolding value_answer
value_given n h = rw (le-ltb 62 n (omega arith))

pub value_refused : (n : ℕ) → 63 ≤ n → value_answer n ≡ refused for_no_such
unfolding value_answer
value_refused n h = rw (lt-ltb 62 n h)

-- What the card has at a count, or has not, is the answer of the count.
pub entry_found :
    (n : ℕ) (entry : Option (Bor ℕ)) → IsItemAt card n entry →
    found_answer (ok_or (option_copied entry) refusal.NoSuch) ≡ value_answer n
unfolding card
entry_found n None item = sym (value_refused n item.3)
entry_found n (Some x) item = ap given (item.4 (omega arith) 0 ∙ card_agrees n item.3.0) ∙ sym (value_given n item.3.0)

-- The count of a value: given below 111111, refused from there on.
count_given : (v : ℕ) → v < 0b111111 → count_answer v ≡ given (count_of v)
unfolding count_answer
count_given v h = rw (le-ltb 63 v (omega arith), ne_eqb v 63 (omega arith))

count_refused : (v : ℕ) → 0b111111 ≤ v → count_answer v ≡ refused for_no_such
unfolding count_answer
count_refused v h =
    ⊎_elim (λ (l : 63 < v). rw (lt-ltb 63 v l)) (λ (l : v ≤ 63). rw (le-ltb 63 v l, eq-eqb v 63 (omega arith))) (split 63 v)

-- A value that some count has is converted to that count.
pub count_found : (n v : ℕ) → n < 63 → value_of n ≡ v → count_answer v ≡ given n
count_found n v h e = rw (← e, count_given (value_of n) (value_below n h), count_of_value n h)

-- A value that no count has is refused.
pub count_missing : (v : ℕ) → ((n : ℕ) → n < 63 → value_of n ≡ v → ⊥) → count_answer v ≡ refused for_no_such
count_missing v none =
    ⊎_elim (λ (h : v < 63). absurd (none (count_of v) (count_below_lem v h) (value_of_count v h))) (count_refused v) (split v 63)

-- The first count whose entry of the card is the value is the answer of the value; refused where there is none.
pub first_found :
    (v : ℕ) (first : Option ℕ) →
    MatchOption first
    ((k : ℕ) → 0 ≤ k → k < 63 → get_or card k 0 ≡ v → ⊥)
    (λ n. (0 ≤ n) × (n < 63) × (get_or card n 0 ≡ v) × ((k : ℕ) → 0 ≤ k → k < n → get_or card k 0 ≡ v → ⊥)) →
    found_answer (ok_or first refusal.NoSuch) ≡ count_answer v
first_found v None none = sym (count_missing v (λ n h e. none n (omega arith) h (card_agrees n h ∙ e)))
first_found v (Some n) is = sym (count_found n v is.1 (sym (card_agrees n is.1) ∙ is.2))

-- An answer is not both refused and given, and it gives one value.
clash : {a : Answer} {v : ℕ} → a ≡ refused for_no_such → a ≡ given v → ⊥
clash p q = let z : ◌≡◌ {A = ℕ} 10 0 = ap (λ (a : Answer). a.number) (sym p ∙ q) in omega arith

same_value : {a : Answer} {v w : ℕ} → a ≡ given v → a ≡ given w → v ≡ w
same_value p q = ap (λ (a : Answer). a.value) (sym p ∙ q)

back : (n v : ℕ) → v < 63 → count_of v ≡ n → value_answer n ≡ given v
back n v h e = rw (← e, value_given (count_of v) (count_below_lem v h), value_of_count v h)

-- Each conversion is the other's inverse: count n has value v exactly when value v has count n.
pub inverse : (n v : ℕ) → (value_answer n ≡ given v) ↔ (count_answer v ≡ given n)
inverse n v = (
  λ e. ⊎_elim (λ (h : n < 63). count_found n v h (same_value (value_given n h) e)) (λ (h : 63 ≤ n). absurd (clash (value_refused n h) e)) (split n 63),
  λ e. ⊎_elim (λ (h : v < 63). back n v h (same_value (count_given v h) e)) (λ (h : 63 ≤ v). absurd (clash (count_refused v h) e)) (split v 63),
)
