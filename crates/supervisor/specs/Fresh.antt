-- The fresh start.
-- Assumes nothing.
use Rattle.frames.specs.Serial.{both}
use Rattle.std.specs.Prelude.{ℕ, true, false, List, replicate}
use Rattle.modules.specs.Groups.{module_count, core_four}
use Rattle.modules.specs.Ends.{no_ends}
use Rattle.modules.specs.Stage.{requested_by}
use Rattle.modules.specs.Masks.{masks_of}
use Rattle.modules.specs.declared.power.Module.{Module}
use Rattle.supervisor.specs.State.{off_module, no_message}
use Rattle.supervisor.specs.declared.state.Phase.TheVariants.{Waiting}
use Rattle.supervisor.specs.declared.state.Mode.TheVariants.{DeployWait}
use Rattle.supervisor.specs.declared.state.State.{State}

-- every module off with 5 tries, core four requested on, mission four requested off
abbrev pub fresh_modules : List Module
fresh_modules = requested_by core_four true (replicate module_count off_module)

-- ascend at the start
abbrev pub fresh_ascend : ℕ
fresh_ascend = 7400

-- descend at the start
abbrev pub fresh_descend : ℕ
fresh_descend = 7000

-- DEPLOY_WAIT, waited 0 seconds, antennas folded, tension 0, ascend 7,400, descend 7,000, both counts 0,
-- both last serials 0, no message, no end
unfoldable pub fresh_state : State
fresh_state =
    record {
      watch = record { mode = DeployWait (Waiting 0); control = 0; beacon = 0 };
      antennas = false;
      masks = masks_of fresh_modules;
      battery = record { tension = 0; ascend = fresh_ascend; descend = fresh_descend };
      serials = both 0 0;
      message = no_message;
      ends = no_ends;
      modules = fresh_modules;
    }
