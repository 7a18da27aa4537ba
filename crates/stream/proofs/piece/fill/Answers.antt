-- `fill` meets its contract. The invariant: what is left, entered after what is used, gives the whole. The measure is the bytes left.
use native.Mathlib.Omega.{arith}
use Rattle.frame_log.proofs.EntryLaws.{line_within, last_within}
use Rattle.stream.proofs.FillLaws.{underway_start, underway_line, underway_last, underway_stop}
use Rattle.stream.proofs.piece.fill.Goals as goal

pub loop-frame-init : goal.loop-frame-init
loop-frame-init c = underway_start _ _ _ _

pub overflow_add-used : goal.overflow_add-used
overflow_add-used c = omega (arith, line_within _ _ _ _ c.enter-entered.ensures c.in-Line.is)

pub overflow_add-lines : goal.overflow_add-lines
overflow_add-lines c = omega (arith, line_within _ _ _ _ c.enter-entered.ensures c.in-Line.is)

pub loop-frame-smaller : goal.loop-frame-smaller
loop-frame-smaller c = omega (arith, line_within _ _ _ _ c.enter-entered.ensures c.in-Line.is)

pub loop-frame-preserved : goal.loop-frame-preserved
loop-frame-preserved c = underway_line c.loop-frame.invariant _ _ c.enter-entered.ensures _ _ c.in-Line.is

pub overflow_add-result : goal.overflow_add-result
overflow_add-result c = omega (arith, last_within _ _ _ _ c.enter-entered.ensures c.in-Last.is)

pub returns-in-Last : goal.returns-in-Last
returns-in-Last c = rw c.in-Last.is (underway_last c.loop-frame.invariant _ _ c.enter-entered.ensures _ c.in-Last.is)

pub returns-in-More : goal.returns-in-More
returns-in-More c = underway_stop c.loop-frame.invariant _ _ c.enter-entered.ensures c.in-More.is
