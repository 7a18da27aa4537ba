-- The board's rules, all at once: a proof that unfolds this computes what a flight comes to.
-- Assumes nothing.
use Rattle.basics.specs.Each.{each, each_from}
use Rattle.modules.specs.Power.{switched}
use Rattle.modules.specs.Ends.{end_of, ends_fallen, ends_over, with_end, ends_in_range}
use Rattle.modules.specs.Stage.{stage_of, requested_by, requested_one, modules_in_range}
use Rattle.modules.specs.Masks.{mask_of, masks_of, are_masks_of}
use Rattle.morse.specs.Signs.{alphabet, sign_of}
use Rattle.morse.specs.Texts.{fault_of}
use Rattle.frames.specs.Kind.{total_of}
use Rattle.frames.specs.Serial.{class_of}
use Rattle.frames.specs.Reading.{battery_fields, antennas_fields, order_fields, timed_fields, thresholds_fields}
use Rattle.frames.specs.Reading.{of_ground, greeting_fields, read_frame}
use Rattle.frames.specs.Greeting.{is_greeting, greeting_text}
use Rattle.supervisor.specs.Range.{in_range}
use Rattle.supervisor.specs.Fresh.{fresh_state}
use Rattle.supervisor.specs.Command.{is_ill_timed, request_set, by_serial}
use Rattle.supervisor.specs.Ending.{ended}
use Rattle.supervisor.specs.Control.{controlled}
use Rattle.supervisor.specs.Due.{beacon_stage}
use Rattle.supervisor.specs.Tick.{before_modules, module_stage, ticked}
use Rattle.supervisor.specs.Act.{act_of}
use Rattle.supervisor.specs.Report.{report_of}
use Rattle.supervisor.specs.Step.{step_of}

-- of the modules
modules : Unit {0}
unfolding each each_from switched end_of ends_fallen ends_over with_end ends_in_range stage_of requested_by requested_one modules_in_range mask_of masks_of are_masks_of
modules = tt

-- of the frames
frames : Unit {0}
unfolding alphabet sign_of fault_of is_greeting greeting_text total_of class_of battery_fields antennas_fields order_fields timed_fields of_ground thresholds_fields greeting_fields read_frame
frames = tt

-- all
unfoldable pub rules : Unit {0}
unfolding modules frames in_range fresh_state is_ill_timed request_set by_serial ended controlled beacon_stage before_modules module_stage ticked act_of report_of step_of
rules = tt
