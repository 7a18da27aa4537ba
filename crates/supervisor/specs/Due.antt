-- The beacon stage of a tick.
-- Assumes nothing.
use Rattle.std.specs.Prelude.{ℕ, ◌+◌, ◌-◌, ◌%◌, Bool, eqb, Option, Some, None}
use Rattle.basics.specs.Choice.{when◌then◌else◌}
use Rattle.supervisor.specs.State.{with_beacon, with_repeats}
use Rattle.supervisor.specs.Message.{is_to_be_sent}
use Rattle.supervisor.specs.Range.{basic_ticks, complete_ticks}
use Rattle.supervisor.specs.Acted.{done_with}
use Rattle.supervisor.specs.declared.state.Mode.{Mode}
use Rattle.supervisor.specs.declared.state.Mode.TheVariants.{DeployWait, Recovery, Safe}
use Rattle.supervisor.specs.declared.state.State.{State}
use Rattle.supervisor.specs.declared.form.Form.{Form}
use Rattle.supervisor.specs.declared.form.Form.TheVariants.{Basic, Complete, Extended}
use Rattle.supervisor.specs.declared.acted.Acted.{Acted}

-- if the count is a multiple of 60: in SAFE a complete beacon is due, or an extended one if a message is to be sent;
-- in RECOVERY a basic one if the count is 300
abbrev pub due_at : Mode → (greets : Bool) (count : ℕ) → Option Form
due_at (DeployWait phase) greets count = None
due_at Recovery greets count = when eqb count basic_ticks then Some Basic else None
due_at Safe greets count =
    when eqb (count % complete_ticks) 0 then Some (when greets then Extended else Complete) else None

-- the count returns to 0 where one is due
abbrev pub count_after : Option Form → ℕ → ℕ
count_after None count = count
count_after (Some form) count = 0

-- the repeats fall by 1 where the message is sent
abbrev pub repeats_after : Option Form → ℕ → ℕ
repeats_after None repeats = repeats
repeats_after (Some Basic) repeats = repeats
repeats_after (Some Complete) repeats = repeats
repeats_after (Some Extended) repeats = repeats - 1

-- a beacon due, the count, and the repeats
abbrev pub beacon_at : Option Form → ℕ → State → Acted
beacon_at due count s =
    done_with due (with_repeats (repeats_after due s.message.repeats) (with_beacon (count_after due count) s))

-- the count grows by 1
unfoldable pub beacon_stage : State → Acted
beacon_stage s =
    beacon_at (due_at s.watch.mode (is_to_be_sent s.message) (s.watch.beacon + 1)) (s.watch.beacon + 1) s
