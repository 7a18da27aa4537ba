-- `request` meets its contract: after i turns the first i modules are worked, and the mask is halved i times.
use Prim.Native.Nat.{◌-◌, ◌≤◌}
use mathlib.Core.Path.{◌≡◌}
use Rattle.basics.proofs.EachLaws.{worked}
use Rattle.modules.specs.Stage.{module_requested}
use Rattle.modules.proofs.MarkLaws.{marked}
use Rattle.modules.proofs.stage.request.Given as goal

abbrev pub invariant-loop-rest : goal.invariant-loop-rest
invariant-loop-rest l = record { low : l.i ≤ 8; left : l.rest ≡ marked l.i l.mask; done : l.modules ≡ worked (module_requested l.mask l.on) l.i l.fn.modules }

abbrev pub decreases-loop-rest : goal.decreases-loop-rest
decreases-loop-rest l = 8 - l.i
