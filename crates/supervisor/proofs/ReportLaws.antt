-- Laws of the report at the front of a room: one of its bytes is the mode, three are the masks, and its last the beacon due.
-- Assumes nothing.
use Prim.Native.Nat.{ℕ}
use mathlib.Core.Path.{◌≡◌, refl}
use mathlib.Core.List.{List, ◌++◌}
use lib.ListN.{get_or, drop}
use Rattle.modules.specs.Masks.{masks_of}
use Rattle.frames.specs.Kind.{report_bytes}
use Rattle.frames.specs.declared.frame.Frame.{Frame}
use Rattle.supervisor.specs.State.{mode_number}
use Rattle.supervisor.specs.Acted.{due_number}
use Rattle.supervisor.specs.Report.{report_of, mode_byte, shown_in, beacon_byte}
use Rattle.supervisor.specs.declared.acted.Acted.{Acted}

module _ (f : Frame) (a : Acted) (room : List ℕ) where
  pub report_due : get_or (report_of f a ++ drop report_bytes room) beacon_byte 0 ≡ due_number a.due
  unfolding report_of
  report_due = refl

  pub report_masks : shown_in (report_of f a ++ drop report_bytes room) ≡ masks_of a.state.modules
  unfolding report_of
  report_masks = refl

  pub report_mode : get_or (report_of f a ++ drop report_bytes room) mode_byte 0 ≡ mode_number a.state.watch.mode
  unfolding report_of
  report_mode = refl
