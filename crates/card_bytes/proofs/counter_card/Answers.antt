-- `counter_card` meets its contract.
use mathlib.Core.Path.{◌≡◌, ◌∙◌, sym}
use Rattle.std.proofs.Common.{rules}
use Rattle.counter.specs.Count.{card}
use Rattle.counter.specs.Answers.{value_answer}
use Rattle.card_bytes.proofs.FillLaws.{filled, entry_is_value}
use Rattle.card_bytes.proofs.counter_card.Goals as goal

pub returns : goal.returns
unfolding card
returns c =
    filled card c.from_fn.result c.from_fn.ensures.items
    (λ count entry p q below call.
    let answer : entry ≡ (value_answer count).value = search rules in
    answer ∙ sym (entry_is_value count below))
