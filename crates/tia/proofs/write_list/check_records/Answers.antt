-- `check_records` meets its contract.
use mathlib.Core.Path.{refl}
use Prim.Native.Nat.{◌-◌}
use native.Mathlib.Omega.{arith}
use lib.ListN.{length, drop, length-drop}
use lib.Seq.{take_all}
use Rattle.tia.proofs.CursorLaws.{check_goes_on}
use Rattle.tia.proofs.write_list.check_records.Goals as goal

pub loop-rest-preserved : goal.loop-rest-preserved
loop-rest-preserved c =
    let rest = c.loop-rest.rest.now in
    rw (take_all (length rest - 3) (drop 3 rest) (omega (arith, length-drop 3 rest)))
    (check_goes_on _ _ _ _ 0 c.loop-rest.invariant c.in-len3-up.len_at_least c.in_default-check_record.ensures refl)
