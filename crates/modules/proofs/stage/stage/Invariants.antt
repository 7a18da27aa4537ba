-- `stage` meets its contract: after i turns the first i modules are worked, both masks are halved i times, and the bits of
-- those on and failed, as they will be, are put in, above the places that are still to come.
use Prim.Native.Nat.{◌-◌, ◌*◌, ◌/◌, ◌^◌, ◌≤◌}
use mathlib.Core.Path.{◌≡◌}
use lib.ListN.{take}
use Rattle.basics.proofs.EachLaws.{worked}
use Rattle.modules.specs.Stage.{module_switched, switched_by}
use Rattle.modules.proofs.MarkLaws.{marked}
use Rattle.modules.proofs.MasksLaws.{powers}
use Rattle.modules.proofs.stage.stage.Given as goal

abbrev pub invariant-loop-rest : goal.invariant-loop-rest
invariant-loop-rest l =
    record {
      low : l.i ≤ 8;
      left : l.rest ≡ marked l.i l.shorts;
      bits : l.want ≡ l.wanted / 2 ^ l.i;
      done : l.modules ≡ worked (module_switched l.wanted l.shorts) l.i l.fn.modules;
      gathered : l.all ≡ powers (take l.i (switched_by l.wanted l.shorts l.fn.modules)) * 2 ^ (8 - l.i);
      small : l.all ≤ 16777216;
    }

abbrev pub decreases-loop-rest : goal.decreases-loop-rest
decreases-loop-rest l = 8 - l.i
