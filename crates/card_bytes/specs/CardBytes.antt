-- The bytes of the two classroom cards: the counter's 63 values, count 0 first, then the 256 mirrored bytes, that of 0 first.
use Rattle.std.specs.Prelude.{ℕ, List, ◌++◌}
use Rattle.counter.specs.Count.{card}
use Rattle.mirror.specs.Mirror.{mirrored_bytes}

abbrev pub card_bytes : List ℕ
card_bytes = card ++ mirrored_bytes
