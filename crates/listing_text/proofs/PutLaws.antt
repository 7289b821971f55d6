-- Text put after text, and the digits of numbers.
use mathlib.Core.Path.{◌≡◌, ◌∙◌, refl, sym, ap}
use mathlib.Core.List.{List, [], ◌∷◌, ◌++◌, append_assoc, append-nil}
use Prim.Native.Nat.{ℕ, ◌+◌, ◌^◌, ◌<◌}
use native.Mathlib.Numerals.{add-one}
use native.Mathlib.Omega.{arith}
use borrow.Author.Tests.{lt-ltb, le-ltb}
use Rattle.std.specs.Fmt.{decimal}
use Rattle.std.proofs.lemmas.Fmt.{AppendsLastDigit, decimal_from_appends, length-decimal-le}
use Rattle.listing_text.specs.Room.{Put}
use Rattle.listing_text.specs.Text.{ascii, digits_of, byte_text, number_text, spaced}

-- No text, and text after text.
pub put_none : (text : List ℕ) → Put [] 0 text text
put_none text = record { after_is = sym (append-nil text); within = omega arith }

pub put_then :
    (xs ys : List ℕ) {a b : ℕ} {before between after : List ℕ} → Put xs a before between → Put ys b between after →
    Put (xs ++ ys) (a + b) before after
put_then xs ys {a} {b} {before} {between} {after} p q =
    record { after_is = q.after_is ∙ rw p.after_is (append_assoc before xs ys); within = omega arith }

-- The decimal digits of std are those of the listing.
digits_append : AppendsLastDigit digits_of
unfolding digits_of
digits_append = record {
  one = λ k n small. rw (lt-ltb n 10 small) (ap (λ (digit : ℕ). (48 + digit) ∷ []) (omega arith));
  more = λ k n large. rw (le-ltb n 10 large) refl;
}

pub byte_digits : (n : ℕ) → n < 2 ^ 8 → decimal n ≡ byte_text n
byte_digits n small = sym (decimal_from_appends digits_of digits_append 3 n (omega arith) (length-decimal-le 3 n (omega arith) (omega arith) (omega arith)))

pub number_digits : (n : ℕ) → n < 2 ^ 32 → decimal n ≡ number_text n
number_digits n small =
    sym (decimal_from_appends digits_of digits_append 10 n (omega arith) (length-decimal-le 10 n (omega arith) (omega arith) (omega arith)))

-- No part, and one more with a space before it.
pub spaced_none : (part : ℕ → List ℕ) (text : List ℕ) → Put (spaced part 0) 0 text text
unfolding spaced
spaced_none part text = put_none text

pub spaced_more :
    (part : ℕ → List ℕ) (n : ℕ) {a b c most : ℕ} {before one two after : List ℕ} → Put (spaced part n) a before one →
    Put (ascii " ") b one two → Put (part n) c two after → a + (b + c) ≡ most → Put (spaced part (n + 1)) most before after
unfolding spaced
spaced_more part n p space q all =
    rw (add-one n, sym all) (put_then (spaced part n) _ p (put_then (ascii " ") (part n) space q))
