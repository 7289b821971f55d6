-- `count_of_value` meets its contract: it finds the first count whose entry of the card is the value.
use mathlib.Core.Path.{◌≡◌, ◌∙◌, ap}
use lib.ListN.{get_or}
use Rattle.std.proofs.Common.{rules}
use Rattle.std.proofs.lemmas.Iterator.{first_from_Range}
use Rattle.counter.specs.Answers.{found_answer}
use Rattle.counter.specs.Count.{card}
use Rattle.counter.proofs.AnswerLaws.{first_found}
use Rattle.counter.proofs.count.count_of_value.Goals as goal

pub returns : goal.returns
unfolding card
returns c =
    ap found_answer c.ok_or.ensures.value
    ∙ first_found c.args.value c.find.result
    (first_from_Range _ _ _ c.find.result
    (λ n. get_or card n 0 ≡ c.args.value) (λ n. get_or card n 0 ≡ c.args.value → ⊥)
    c.find.ensures.ran (λ x q k. search rules) (λ x q k. search rules))
