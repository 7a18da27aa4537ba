-- `request` meets its contract: after i turns the first i modules are worked, and the mask is halved i times.
use Prim.Native.Nat.{ℕ, ◌/◌}
use mathlib.Core.Path.{◌≡◌, ap, sym, ◌∙◌}
use native.Mathlib.Omega.{arith}
use borrow.Author.Rules.{rules}
use Rattle.basics.proofs.EachLaws.{worked_none, worked_all, length_mapped}
use Rattle.modules.specs.Stage.{requested_by}
use Rattle.modules.proofs.MarkLaws.{marked_none, marked_next, marked_more, marked_end}
use Rattle.modules.proofs.StageLaws.{no_module, in_mask, not_in_mask}
use Rattle.modules.proofs.stage.request.Goals as goal
use Rattle.modules.proofs.stage.request.Goals.{then-has, else-has}

pub loop-rest-init : goal.loop-rest-init
loop-rest-init c = record { low = search rules; left = rw c.from-rest.ensures (marked_none _); done = worked_none _ _ }

pub loop-rest-preserved : goal.loop-rest-preserved
loop-rest-preserved c =
    record {
      low = omega (arith, marked_more c.loop-rest.i _ _ c.loop-rest.invariant.low (search rules) c.loop-rest.invariant.left (search rules));
      left = ap (λ (r : ℕ). r / 2) c.loop-rest.invariant.left ∙ marked_next _ _;
      done =
          elim c.if-has.branch [
            | then-has w ↦ w.modules-is ∙ simp (w.with_request.ensures, c.loop-rest.invariant.done) (in_mask _ _ c.loop-rest.i _ _ (sym c.has.ensures ∙ w.if-has.true))
            | else-has w ↦ w.modules-is ∙ c.loop-rest.invariant.done ∙ not_in_mask _ _ c.loop-rest.i _ no_module (sym c.has.ensures ∙ w.if-has.false)
          ];
    }

pub returns : goal.returns
unfolding requested_by
returns c =
    let e : c.loop-rest.i ≡ 8 = marked_end _ _ _ c.loop-rest.invariant.low c.loop-rest.invariant.left (search rules) in
    (rw e at c.loop-rest.invariant.done) ∙ worked_all _ 8 c.args.modules (search (rules, length_mapped))
