-- No second outcome satisfies the contract of a public call of this crate.
-- Assumes nothing.
use mathlib.Core.Path.{sym, ◌∙◌}
use Rattle.basics.specs.OneOutcome.{OneOutcome}
use Rattle.modules.specs.contracts.groups.is_mission
use Rattle.modules.proofs.groups.is_mission.Reads as is_mission_reads
use Rattle.modules.specs.contracts.power.Power.second
use Rattle.modules.proofs.power.Power.second.Reads as second_reads
use Rattle.modules.specs.contracts.power.Power.in_range as power_in_range
use Rattle.modules.proofs.power.Power.in_range.Reads as power_in_range_reads
use Rattle.modules.specs.contracts.power.Module.with_power
use Rattle.modules.proofs.power.Module.with_power.Reads as with_power_reads
use Rattle.modules.specs.contracts.power.Module.with_request
use Rattle.modules.proofs.power.Module.with_request.Reads as with_request_reads
use Rattle.modules.specs.contracts.stage.has
use Rattle.modules.proofs.stage.has.Reads as has_reads
use Rattle.modules.specs.contracts.stage.stage
use Rattle.modules.proofs.stage.stage.Reads as stage_reads
use Rattle.modules.specs.contracts.stage.request
use Rattle.modules.proofs.stage.request.Reads as request_reads
use Rattle.modules.specs.contracts.stage.request_one as one_request
use Rattle.modules.proofs.stage.request_one.Reads as one_request_reads
use Rattle.modules.specs.contracts.masks.in_range as in_range_law
use Rattle.modules.proofs.masks.in_range.Reads as in_range_reads
use Rattle.modules.specs.contracts.masks.one_bit
use Rattle.modules.proofs.masks.one_bit.Reads as one_bit_reads
use Rattle.modules.specs.contracts.masks.Masks.request as masks_request
use Rattle.modules.proofs.masks.Masks.request.Reads as masks_request_reads
use Rattle.modules.specs.contracts.ends.none
use Rattle.modules.proofs.ends.none.Reads as none_reads
use Rattle.modules.specs.contracts.ends.Ends.fall
use Rattle.modules.proofs.ends.Ends.fall.Reads as fall_reads
use Rattle.modules.specs.contracts.ends.Ends.over
use Rattle.modules.proofs.ends.Ends.over.Reads as over_reads
use Rattle.modules.specs.contracts.ends.Ends.with_end
use Rattle.modules.proofs.ends.Ends.with_end.Reads as with_end_reads
use Rattle.modules.specs.contracts.ends.Ends.in_range as ends_in_range
use Rattle.modules.proofs.ends.Ends.in_range.Reads as ends_in_range_reads

pub is_mission_one : OneOutcome is_mission.ended is_mission_reads.Asked is_mission_reads.Learnt
is_mission_one = record { taken = λ κs a. tt; one = λ κs a x y p q i. ((p ∙ sym q) i, (tt, tt)) }

pub second_one : OneOutcome second.ended second_reads.Asked second_reads.Learnt
second_one = record { taken = λ κs a. tt; one = λ κs a x y p q i. ((p ∙ sym q) i, (tt, (tt, (tt, tt)))) }

pub power_in_range_one : OneOutcome power_in_range.ended power_in_range_reads.Asked power_in_range_reads.Learnt
power_in_range_one = record { taken = λ κs a. tt; one = λ κs a x y p q i. ((p ∙ sym q) i, (tt, tt)) }

pub with_power_one : OneOutcome with_power.ended with_power_reads.Asked with_power_reads.Learnt
with_power_one = record { taken = λ κs a. tt; one = λ κs a x y p q i. ((p ∙ sym q) i, (tt, (tt, tt))) }

pub with_request_one : OneOutcome with_request.ended with_request_reads.Asked with_request_reads.Learnt
with_request_one = record { taken = λ κs a. tt; one = λ κs a x y p q i. ((p ∙ sym q) i, (tt, (tt, tt))) }

pub has_one : OneOutcome has.ended has_reads.Asked has_reads.Learnt
has_one = record { taken = λ κs a. tt; one = λ κs a x y p q i. ((p ∙ sym q) i, (tt, (tt, tt))) }

pub stage_one : OneOutcome stage.ended stage_reads.Asked stage_reads.Learnt
stage_one = record { taken = λ κs a. tt; one = λ κs a x y p q i. ((p ∙ sym q) i, (tt, (tt, (tt, tt)))) }

pub request_one : OneOutcome request.ended request_reads.Asked request_reads.Learnt
request_one = record { taken = λ κs a. tt; one = λ κs a x y p q i. ((p ∙ sym q) i, (tt, (tt, (tt, tt)))) }

pub one_request_one : OneOutcome one_request.ended one_request_reads.Asked one_request_reads.Learnt
one_request_one = record { taken = λ κs a. tt; one = λ κs a x y p q i. ((p ∙ sym q) i, (tt, (tt, (tt, tt)))) }

pub in_range_one : OneOutcome in_range_law.ended in_range_reads.Asked in_range_reads.Learnt
in_range_one = record { taken = λ κs a. tt; one = λ κs a x y p q i. ((p ∙ sym q) i, (tt, (tt, tt))) }

pub one_bit_one : OneOutcome one_bit.ended one_bit_reads.Asked one_bit_reads.Learnt
one_bit_one = record { taken = λ κs a. tt; one = λ κs a x y p q i. ((p ∙ sym q) i, (tt, tt)) }

pub masks_request_one : OneOutcome masks_request.ended masks_request_reads.Asked masks_request_reads.Learnt
masks_request_one = record { taken = λ κs a. tt; one = λ κs a x y p q i. ((p ∙ sym q) i, (tt, (tt, (tt, tt)))) }

pub none_one : OneOutcome none.ended none_reads.Asked none_reads.Learnt
none_one = record { taken = λ κs a. tt; one = λ κs a x y p q i. ((p ∙ sym q) i, tt) }

pub fall_one : OneOutcome fall.ended fall_reads.Asked fall_reads.Learnt
fall_one = record { taken = λ κs a. tt; one = λ κs a x y p q i. ((p ∙ sym q) i, (tt, tt)) }

pub over_one : OneOutcome over.ended over_reads.Asked over_reads.Learnt
over_one = record { taken = λ κs a. tt; one = λ κs a x y p q i. ((p ∙ sym q) i, (tt, tt)) }

pub with_end_one : OneOutcome with_end.ended with_end_reads.Asked with_end_reads.Learnt
with_end_one = record { taken = λ κs a. tt; one = λ κs a x y p q i. ((p ∙ sym q) i, (tt, (tt, (tt, tt)))) }

pub ends_in_range_one : OneOutcome ends_in_range.ended ends_in_range_reads.Asked ends_in_range_reads.Learnt
ends_in_range_one = record { taken = λ κs a. tt; one = λ κs a x y p q i. ((p ∙ sym q) i, (tt, tt)) }
