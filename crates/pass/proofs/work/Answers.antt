-- `work` meets its contract: the frame at the front is handed to a step.
use Rattle.std.proofs.Common.{sym, length-take-le}
use Rattle.frames.proofs.CutLaws.{front_within}
use Rattle.pass.proofs.PassLaws.{work_made}
use Rattle.pass.proofs.work.Goals as goal

pub slice_bounds-step-end : goal.slice_bounds-step-end
slice_bounds-step-end c = sym (length-take-le _ _ (rw (c.front_bytes-bytes.ensures, c.cut.ensures) (front_within _)))

pub returns : goal.returns
returns c =
    work_made _ _ _ _ _ _ (rw c.cut.ensures at c.front_bytes-bytes.ensures) c.step-stepped.ensures
