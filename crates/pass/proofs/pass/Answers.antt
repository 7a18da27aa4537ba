-- `pass` meets its contract. The invariant: what was done and what is left make up the whole. The measure is the bytes left.
use mathlib.Core.Path.{sym, ◌∙◌}
use native.Mathlib.Omega.{arith}
use Rattle.pass.proofs.PassLaws.{underway_frame, underway_stop, underway_end, frame_within, rest_shorter}
use Rattle.pass.proofs.pass.Goals as goal

pub returns-then-not-is_reported : goal.returns-then-not-is_reported
returns-then-not-is_reported c =
    underway_stop c.loop-rest.invariant (sym c.loop-rest-test.ensures) _ _ c.work-worked.ensures (sym c.is_reported.ensures ∙ c.if-not-is_reported.true)

pub slice_bounds-rest-count : goal.slice_bounds-rest-count
slice_bounds-rest-count c = omega (arith, frame_within c.loop-rest.invariant (sym c.loop-rest-test.ensures) _ _ c.work-worked.ensures)

pub slice_bounds-rest-start : goal.slice_bounds-rest-start
slice_bounds-rest-start c = omega (arith, frame_within c.loop-rest.invariant (sym c.loop-rest-test.ensures) _ _ c.work-worked.ensures)

pub loop-rest-smaller : goal.loop-rest-smaller
loop-rest-smaller c = rest_shorter c.loop-rest.invariant (sym c.loop-rest-test.ensures) _ _ c.work-worked.ensures

pub loop-rest-preserved : goal.loop-rest-preserved
loop-rest-preserved c =
    underway_frame c.loop-rest.invariant (sym c.loop-rest-test.ensures) _ _ c.work-worked.ensures (sym c.is_reported.ensures ∙ c.if-not-is_reported.false)

pub returns : goal.returns
returns c = underway_end c.loop-rest.invariant (sym c.loop-rest-test.ensures)
