-- A part copied behind the text of a room.
use mathlib.Core.Path.{◌≡◌, ◌∙◌, sym, ap}
use mathlib.Core.List.{List}
use Prim.Native.Nat.{ℕ, ◌+◌, ◌-◌, ◌≤◌}
use native.Mathlib.Omega.{arith}
use lib.ListN.{length, take, drop, replicate}
use borrow.Rule.Slice.PartMut.{put_mid}
use Rattle.std.proofs.lemmas.List.{length-take, length-append, length-drop, length-replicate, drop-replicate, drop-drop}
use Rattle.std.proofs.lemmas.Slice.{take-put_mid, drop-put_mid}
use Rattle.listing_text.specs.TextRoom.{Filled, len_back}

module _ (len end : ℕ) (room part : List ℕ) (filled : Filled len room) (ends : len + length part ≡ end) (fits : end ≤ 64) where
  abbrev after : List ℕ
  after = put_mid len (end - len) room part

  zeros_after : drop end after ≡ replicate (64 - end) 0
  zeros_after =
      drop-put_mid len (end - len) room part end (omega (arith, ends)) filled.1 (omega (arith, ends))
      ∙ (ap (λ (n : ℕ). drop n room) (sym ends)
      ∙ (sym (drop-drop (length part) len room)
      ∙ (ap (λ (rest : List ℕ). drop (length part) rest) filled.2
      ∙ (drop-replicate (length part) (64 - len) 0 ∙ ap (λ (n : ℕ). replicate n 0) (omega (arith, ends))))))

  long_enough : end ≤ length after
  long_enough =
      omega (
        arith,
        ap length (take-put_mid len (end - len) room part end (sym ends) filled.1),
        length-take end after,
        length-append (take len room) part,
        len_back len room filled,
        ends,
      )

  same_length : length after ≡ 64
  same_length =
      omega (arith, long_enough, fits, ap length zeros_after, length-drop end after, length-replicate {A = ℕ} (64 - end) 0)

  pub filled_more : Filled end (put_mid len (end - len) room part)
  filled_more = (same_length, long_enough, zeros_after)
