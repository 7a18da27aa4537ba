-- `in_range` meets its contract: the modules taken so far are in range, and their masks are gathered, side by side.
use Rattle.modules.proofs.MasksLaws.{Gathered}
use Rattle.modules.proofs.masks.in_range.Given as goal

abbrev pub invariant-loop-m : goal.invariant-loop-m
invariant-loop-m l = Gathered l.m-iterator.iter.rest.now l.fn.modules l.all
