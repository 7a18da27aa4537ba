-- `step` meets its contract: after check 1, every frame leaves the masks true.
use mathlib.Core.Path.{◌≡◌, sym, ◌∙◌}
use Rattle.std.specs.Prelude.{Ok}
use Rattle.basics.proofs.ChoiceLaws.{holds}
use Rattle.frames.specs.Greeting.{greeting_text}
use Rattle.frames.specs.Reading.{read_frame}
use Rattle.frames.proofs.ReadingLaws.{read_sound}
use Rattle.supervisor.specs.State.{HasMasks}
use Rattle.supervisor.proofs.RangeKept.{acted_masks}
use Rattle.supervisor.specs.Range.{in_range}
use Rattle.supervisor.proofs.step.step.Goals as goal

pub write-requires : goal.write-requires
write-requires c =
    let s = c.args.state in
    let bytes = c.args.input.now in
    let accepted : read_frame bytes ≡ Ok _ = rw c.read.ensures at c.in-Ok.is in
    let valid = sym c.in_range.ensures ∙ c.if-not-in_range.false in
    let true_masks : HasMasks c.act-acted.result.state =
    rw (c.act-acted.ensures, c.text_of.ensures) (acted_masks _ (greeting_text bytes) (rw accepted at (read_sound bytes)) s (holds (in_range s) valid)) in
    (c.if-room-lt-REPORT_BYTES.false, true_masks)
