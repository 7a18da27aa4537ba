-- The report.
-- Assumes nothing.
use Rattle.std.specs.Prelude.{ℕ, ◌/◌, ◌%◌, List, [], ◌∷◌, get_or}
use Rattle.modules.specs.Masks.{masks_of}
use Rattle.modules.specs.declared.masks.Masks.{Masks}
use Rattle.frames.specs.Answer.{answer_number}
use Rattle.frames.specs.Kind.{report_kind, kind_number}
use Rattle.frames.specs.Frame.{head_of}
use Rattle.frames.specs.declared.frame.Frame.{Frame}
use Rattle.frames.specs.declared.frame.Head.{Head}
use Rattle.supervisor.specs.State.{mode_number}
use Rattle.supervisor.specs.Acted.{due_number}
use Rattle.supervisor.specs.declared.acted.Acted.{Acted}

-- kind answered, origin, serial (2), answer, mode, requested mask, on mask, failed mask, beacon
abbrev pub bytes_of : Head → (answer mode : ℕ) → Masks → (due : ℕ) → List ℕ
bytes_of head answer mode masks due =
    report_kind ∷ kind_number head.kind ∷ head.origin ∷ head.serial / 256 ∷ head.serial % 256 ∷ answer ∷ mode
    ∷ masks.requested ∷ masks.on ∷ masks.failed ∷ due ∷ []

-- mode and masks show the state after the frame
unfoldable pub report_of : Frame → Acted → List ℕ
report_of frame acted =
    bytes_of (head_of frame) (answer_number acted.answer) (mode_number acted.state.watch.mode)
    (masks_of acted.state.modules) (due_number acted.due)

-- the place of the mode in a report
abbrev pub mode_byte : ℕ
mode_byte = 6

-- of the requested mask
abbrev pub requested_byte : ℕ
requested_byte = 7

-- of the on mask
abbrev pub on_byte : ℕ
on_byte = 8

-- of the failed mask
abbrev pub failed_byte : ℕ
failed_byte = 9

-- the masks that a report shows
abbrev pub shown_in : (room : List ℕ) → Masks
shown_in room =
    record { requested = get_or room requested_byte 0; on = get_or room on_byte 0; failed = get_or room failed_byte 0 }

-- of the beacon
abbrev pub beacon_byte : ℕ
beacon_byte = 10
