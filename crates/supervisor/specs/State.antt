-- The state: modes by number, a module by its number, and the state with one part changed.
-- Assumes nothing.
use Rattle.std.specs.Prelude.{ℕ, ◌≡◌, Bool, true, false, List, get_or, replicate}
use Rattle.modules.specs.Power.{full_tries}
use Rattle.modules.specs.Ends.{end_of}
use Rattle.modules.specs.Stage.{requested_by}
use Rattle.modules.specs.Masks.{masks_of}
use Rattle.modules.specs.declared.power.Power.TheVariants.{Off}
use Rattle.modules.specs.declared.power.Module.{Module}
use Rattle.modules.specs.declared.ends.Ends.{Ends}
use Rattle.supervisor.specs.declared.state.Mode.{Mode}
use Rattle.supervisor.specs.declared.state.Mode.TheVariants.{DeployWait, Recovery, Safe}
use Rattle.supervisor.specs.declared.state.Watch.{Watch}
use Rattle.supervisor.specs.declared.state.Battery.{Battery}
use Rattle.supervisor.specs.declared.state.Message.{Message}
use Rattle.frames.specs.Greeting.{longest_greeting}
use Rattle.frames.specs.declared.serial.Serials.{Serials}
use Rattle.supervisor.specs.declared.state.State.{State}

-- Mode: 0 DEPLOY_WAIT, 1 RECOVERY, 2 SAFE; the higher number is the better mode
abbrev pub mode_number : Mode → ℕ
mode_number (DeployWait phase) = 0
mode_number Recovery = 1
mode_number Safe = 2

-- the mode is DEPLOY_WAIT
abbrev pub is_deploy_wait : Mode → Bool
is_deploy_wait (DeployWait phase) = true
is_deploy_wait Recovery = false
is_deploy_wait Safe = false

-- the mode is RECOVERY
abbrev pub is_recovery : Mode → Bool
is_recovery (DeployWait phase) = false
is_recovery Recovery = true
is_recovery Safe = false

-- the mode is SAFE
abbrev pub is_safe : Mode → Bool
is_safe (DeployWait phase) = false
is_safe Recovery = false
is_safe Safe = true

-- a state is in DEPLOY_WAIT
abbrev pub in_deploy_wait : State → Bool
in_deploy_wait s = is_deploy_wait s.watch.mode

-- a module that is off with 5 tries, and not requested
abbrev pub off_module : Module
off_module = record { power = Off full_tries; requested = false }

-- module i of a state
abbrev pub module_at : ℕ → State → Module
module_at i s = get_or s.modules i off_module

-- the end of module i: seconds until its request goes off, 0 where none is running
abbrev pub end_at : ℕ → State → ℕ
end_at i s = end_of i s.ends

-- the masks that are kept are true: those of the modules
abbrev pub HasMasks : State → Type 0
HasMasks s = s.masks ≡ masks_of s.modules

-- no message: all zeros
abbrev pub no_message : Message
no_message = record { repeats = 0; length = 0; text = replicate longest_greeting 0 }

-- the state with another watch
abbrev pub with_watch : Watch → State → State
with_watch watch s =
    record {
      watch = watch;
      antennas = s.antennas;
      masks = s.masks;
      battery = s.battery;
      serials = s.serials;
      message = s.message;
      ends = s.ends;
      modules = s.modules;
    }

-- with another report of the antennas
abbrev pub with_antennas : Bool → State → State
with_antennas deployed s =
    record {
      watch = s.watch;
      antennas = deployed;
      masks = s.masks;
      battery = s.battery;
      serials = s.serials;
      message = s.message;
      ends = s.ends;
      modules = s.modules;
    }

-- with another battery
abbrev pub with_battery : Battery → State → State
with_battery battery s =
    record {
      watch = s.watch;
      antennas = s.antennas;
      masks = s.masks;
      battery = battery;
      serials = s.serials;
      message = s.message;
      ends = s.ends;
      modules = s.modules;
    }

-- with other last serials
abbrev pub with_serials : Serials → State → State
with_serials serials s =
    record {
      watch = s.watch;
      antennas = s.antennas;
      masks = s.masks;
      battery = s.battery;
      serials = serials;
      message = s.message;
      ends = s.ends;
      modules = s.modules;
    }

-- with another message
abbrev pub with_message : Message → State → State
with_message message s =
    record {
      watch = s.watch;
      antennas = s.antennas;
      masks = s.masks;
      battery = s.battery;
      serials = s.serials;
      message = message;
      ends = s.ends;
      modules = s.modules;
    }

-- with other ends
abbrev pub with_ends : Ends → State → State
with_ends ends s =
    record {
      watch = s.watch;
      antennas = s.antennas;
      masks = s.masks;
      battery = s.battery;
      serials = s.serials;
      message = s.message;
      ends = ends;
      modules = s.modules;
    }

-- with other modules, and their masks
abbrev pub with_modules : List Module → State → State
with_modules modules s =
    record {
      watch = s.watch;
      antennas = s.antennas;
      masks = masks_of modules;
      battery = s.battery;
      serials = s.serials;
      message = s.message;
      ends = s.ends;
      modules = modules;
    }

-- with the modules of a mask requested off
abbrev pub without_requests : (mask : ℕ) → State → State
without_requests mask s = with_modules (requested_by mask false s.modules) s

-- with another mode
abbrev pub with_mode : Mode → State → State
with_mode mode s =
    with_watch (record { mode = mode; control = s.watch.control; beacon = s.watch.beacon }) s

-- with another control count
abbrev pub with_control : ℕ → State → State
with_control count s =
    with_watch (record { mode = s.watch.mode; control = count; beacon = s.watch.beacon }) s

-- with another beacon count
abbrev pub with_beacon : ℕ → State → State
with_beacon count s =
    with_watch (record { mode = s.watch.mode; control = s.watch.control; beacon = count }) s

-- with another tension
abbrev pub with_tension : ℕ → State → State
with_tension tension s =
    with_battery (record { tension = tension; ascend = s.battery.ascend; descend = s.battery.descend }) s

-- with other repeats of the message
abbrev pub with_repeats : ℕ → State → State
with_repeats repeats s =
    with_message (record { repeats = repeats; length = s.message.length; text = s.message.text }) s

-- with other thresholds
abbrev pub with_thresholds : (ascend descend : ℕ) → State → State
with_thresholds ascend descend s =
    with_battery (record { tension = s.battery.tension; ascend = ascend; descend = descend }) s
