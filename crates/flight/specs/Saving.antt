-- The state as an image of 71 bytes.
-- Assumes nothing.
use Rattle.std.specs.Prelude.{ℕ, List, [], ◌∷◌, ◌++◌}
use Rattle.modules.specs.declared.ends.Ends.{Ends}
use Rattle.modules.specs.declared.masks.Masks.{Masks}
use Rattle.modules.specs.declared.power.Module.{Module}
use Rattle.supervisor.specs.declared.state.Message.{Message}
use Rattle.supervisor.specs.declared.state.State.{State}
use Rattle.flight.specs.Fields.{flag, pair_bytes, triple_bytes, quad_bytes}
use Rattle.flight.specs.Codes.{mode_code, module_code}

-- byte 0: the version of the layout
abbrev pub layout_version : ℕ
layout_version = 6

-- the bytes of an image
abbrev pub image_bytes : ℕ
image_bytes = 71

-- the message stands from here on: repeats, length, and its sixteen text bytes
abbrev pub message_place : ℕ
message_place = 18

-- its text
abbrev pub text_place : ℕ
text_place = 20

-- the ends stand from here on, four bytes each
abbrev pub ends_place : ℕ
ends_place = 36

-- the masks stand from here on: requested, on, failed
abbrev pub masks_place : ℕ
masks_place = 52

-- the modules stand from here on, two bytes each
abbrev pub modules_place : ℕ
modules_place = 55

-- the modules, one after another
unfoldable pub modules_bytes : List Module → List ℕ
modules_bytes [] = []
modules_bytes (m ∷ ms) = pair_bytes (module_code m) ++ modules_bytes ms

-- the masks: requested, on, failed
unfoldable pub masks_bytes : Masks → List ℕ
masks_bytes masks = masks.requested ∷ masks.on ∷ masks.failed ∷ []

-- the ends of ADCS, PAYLOAD, SBAND1, SBAND2
unfoldable pub ends_bytes : Ends → List ℕ
ends_bytes ends =
    quad_bytes ends.adcs ++ quad_bytes ends.payload ++ quad_bytes ends.sband1 ++ quad_bytes ends.sband2

-- the message: repeats, length, text
unfoldable pub message_bytes : Message → List ℕ
message_bytes message = message.repeats ∷ message.length ∷ message.text

-- version, mode with its phase (3), control count, beacon count (2), antennas, tension (2), ascend (2), descend (2),
-- the ground's last serial (2), the payload's (2)
unfoldable pub head_bytes : State → List ℕ
head_bytes s =
    (layout_version ∷ triple_bytes (mode_code s.watch.mode))
    ++ (s.watch.control ∷ pair_bytes s.watch.beacon)
    ++ (flag s.antennas ∷ pair_bytes s.battery.tension)
    ++ pair_bytes s.battery.ascend ++ pair_bytes s.battery.descend
    ++ pair_bytes s.serials.ground ++ pair_bytes s.serials.payload

-- the image of a state
unfoldable pub saved : State → List ℕ
saved s =
    head_bytes s ++ message_bytes s.message ++ ends_bytes s.ends ++ masks_bytes s.masks ++ modules_bytes s.modules
