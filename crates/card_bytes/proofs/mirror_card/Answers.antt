-- `mirror_card` meets its contract.
use mathlib.Core.Path.{◌≡◌, ◌∙◌, sym}
use Rattle.std.proofs.Common.{rules}
use Rattle.mirror.specs.Mirror.{mirrored, mirrored_bytes}
use Rattle.mirror.proofs.MirrorLaws.{entry_is_mirrored}
use Rattle.card_bytes.proofs.FillLaws.{filled}
use Rattle.card_bytes.proofs.mirror_card.Goals as goal

pub returns : goal.returns
unfolding mirrored_bytes
returns c =
    filled mirrored_bytes c.from_fn.result c.from_fn.ensures.items
    (λ byte entry p q below call.
    let answer : entry ≡ mirrored byte = search rules in
    answer ∙ sym (entry_is_mirrored byte below))
