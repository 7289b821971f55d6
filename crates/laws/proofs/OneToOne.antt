-- A numbering that can be read back is one to one.
use mathlib.Core.Path.{◌≡◌, ◌∙◌, sym, ap}

-- Equal numbers mean equal answers.
pub one_to_one :
    {A B : Type 0} (numbers : A → B) (back : B → A) → ((a : A) → back (numbers a) ≡ a) → {a b : A} → numbers a ≡ numbers b → a ≡ b
one_to_one numbers back inverse {a} {b} e = sym (inverse a) ∙ ap back e ∙ inverse b
