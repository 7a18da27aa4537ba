-- The ranges of check 1.
-- Assumes nothing.
use Rattle.std.specs.Prelude.{ℕ, Bool, ◌&&◌, ◌||◌, ltb, eqb}
use Rattle.basics.specs.Choice.{within}
use Rattle.frames.specs.Reading.{is_reading, are_thresholds}
use Rattle.frames.specs.Greeting.{is_greeting}
use Rattle.modules.specs.Ends.{ends_in_range}
use Rattle.modules.specs.Stage.{modules_in_range}
use Rattle.modules.specs.Masks.{are_masks_of}
use Rattle.supervisor.specs.declared.state.Phase.{Phase}
use Rattle.supervisor.specs.declared.state.Phase.TheVariants.{Waiting, Settling}
use Rattle.supervisor.specs.declared.state.Mode.{Mode}
use Rattle.supervisor.specs.declared.state.Mode.TheVariants.{DeployWait, Recovery, Safe}
use Rattle.supervisor.specs.declared.state.Battery.{Battery}
use Rattle.supervisor.specs.declared.state.Message.{Message}
use Rattle.supervisor.specs.declared.state.State.{State}

-- the seconds after which waiting for the antennas ends
abbrev pub wait_seconds : ℕ
wait_seconds = 86400

-- the seconds of settling
abbrev pub settle_seconds : ℕ
settle_seconds = 900

-- the ticks from one judgement of the mode to the next
abbrev pub judge_ticks : ℕ
judge_ticks = 30

-- the ticks from one basic beacon to the next
abbrev pub basic_ticks : ℕ
basic_ticks = 300

-- the ticks from one complete beacon to the next
abbrev pub complete_ticks : ℕ
complete_ticks = 60

-- tension 0 (no reading yet) is the only value outside 5,000 to 9,000
abbrev pub battery_in_range : Battery → Bool
battery_in_range b = (eqb b.tension 0 || is_reading b.tension) && are_thresholds b.ascend b.descend

-- waiting (0 to 86,399 waited) or settling (1 to 900 left)
abbrev pub phase_in_range : Phase → Bool
phase_in_range (Waiting waited) = ltb waited wait_seconds
phase_in_range (Settling left) = within 1 settle_seconds left

-- control count 0 to 29, beacon count 0 to 299, both 0 in DEPLOY_WAIT
abbrev pub watch_in_range : Mode → (control beacon : ℕ) → Bool
watch_in_range (DeployWait phase) control beacon = phase_in_range phase && eqb control 0 && eqb beacon 0
watch_in_range Recovery control beacon = ltb control judge_ticks && ltb beacon basic_ticks
watch_in_range Safe control beacon = ltb control judge_ticks && ltb beacon basic_ticks

-- the same limits as in a frame, of the message in the state
abbrev pub message_in_range : Message → Bool
message_in_range m = is_greeting m.length m.text

-- check 1 passes: every part is in its range, and the masks are those of the modules
unfoldable pub in_range : State → Bool
in_range s =
    watch_in_range s.watch.mode s.watch.control s.watch.beacon
    && battery_in_range s.battery && message_in_range s.message && ends_in_range s.ends
    && modules_in_range s.modules && are_masks_of s.modules s.masks
