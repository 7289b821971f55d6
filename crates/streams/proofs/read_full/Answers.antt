-- `read_full` keeps what it has read: the bytes of a turn stand after those of the turns before.
use Rattle.std.proofs.Common.{◌≡◌, ℕ, ◌+◌, ◌-◌, ◌≤◌, List, ◌++◌, rules, arith, length, take, slice_range, sym, ap, ◌∙◌, subst, le_refl, drop_at, length-take-le}
use Rattle.std.proofs.lemmas.Slice.{take-put_mid_below}
use Rattle.std.specs.Io.KnownBytes.{Consumes}
use Rattle.std.proofs.KnownBytes.{Consumes-trans}
use borrow.Rule.Slice.PartMut.{put_mid, post_of}
use lib.Seq.{take-add, take-append-le}
use Rattle.streams.proofs.read_full.Goals as goal

-- A list's first b bytes are its first a, which it shares with another, and those from a to b.
split_at : (a b : ℕ) (old new : List ℕ) → a ≤ b → take a new ≡ take a old → take a old ++ slice_range new a b ≡ take b new
split_at a b old new h front =
    let same : a + (b - a) ≡ b = omega arith in
    ap (λ (l : List ℕ). l ++ slice_range new a b) (sym front) ∙ sym (take-add a (b - a) new) ∙ ap (λ (n : ℕ). take n new) same

-- The first n bytes of a part stand from its place on.
part_at :
    (at size n : ℕ) (room part : List ℕ) → at ≤ length room → n ≤ length part →
    slice_range (put_mid at size room part) at (at + n) ≡ take n part
part_at at size n room part within fits =
    let same : (at + n) - at ≡ n = omega arith in
    let after = post_of at size room in
    ap (take ((at + n) - at)) (drop_at (take at room) (part ++ after) at (length-take-le at room within))
    ∙ ap (λ (m : ℕ). take m (part ++ after)) same
    ∙ take-append-le n part after fits

pub loop-done-preserved : goal.loop-done-preserved
loop-done-preserved g c =
    let at = c.loop-done.done in
    let n = c.read_once-count.result in
    let size = length c.loop-done.room - at in
    let within = c.loop-done.invariant.1 in
    let part = part_at at size n c.loop-done.room c.read_once-count.new.room within c.read_once-count.ensures.within in
    let joined =
    split_at at (at + n) c.loop-done.room (put_mid at size c.loop-done.room c.read_once-count.new.room) (omega arith)
    (take-put_mid_below _ _ _ _ _ (le_refl _) within) in (
      search rules,
      search rules,
      subst (Consumes _ _) (ap (λ (l : List ℕ). take at c.loop-done.room ++ l) (sym part) ∙ joined)
          (Consumes-trans _ _ _ _ _ c.loop-done.invariant.2 c.read_once-count.ensures.bytes),
    )
