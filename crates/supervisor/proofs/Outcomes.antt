-- No second outcome satisfies the contract of a public call of this crate.
-- Assumes nothing.
use mathlib.Core.Path.{sym, ◌∙◌}
use Rattle.basics.specs.OneOutcome.{OneOutcome}
use Rattle.supervisor.specs.contracts.state.Mode.number as mode_number
use Rattle.supervisor.proofs.state.Mode.number.Reads as mode_number_reads
use Rattle.supervisor.specs.contracts.fresh.fresh
use Rattle.supervisor.proofs.fresh.fresh.Reads as fresh_reads
use Rattle.supervisor.specs.contracts.state.State.in_range as in_range_law
use Rattle.supervisor.proofs.state.State.in_range.Reads as in_range_reads
use Rattle.supervisor.specs.contracts.step.step
use Rattle.supervisor.proofs.step.step.Reads as step_reads

pub mode_number_one : OneOutcome mode_number.ended mode_number_reads.Asked mode_number_reads.Learnt
mode_number_one = record { taken = λ κs a. tt; one = λ κs a x y p q i. ((p ∙ sym q) i, (tt, tt)) }

pub fresh_one : OneOutcome fresh.ended fresh_reads.Asked fresh_reads.Learnt
fresh_one = record { taken = λ κs a. tt; one = λ κs a x y p q i. ((p ∙ sym q) i, tt) }

pub in_range_one : OneOutcome in_range_law.ended in_range_reads.Asked in_range_reads.Learnt
in_range_one = record { taken = λ κs a. tt; one = λ κs a x y p q i. ((p ∙ sym q) i, (tt, tt)) }

-- what `step` hands back, and the room as it leaves it
pub step_one : OneOutcome step.ended step_reads.Asked step_reads.Learnt
step_one = record { taken = λ κs a. tt; one = λ κs a x y p q i. (((p ∙ sym q) i).result, (tt, (tt, (((p ∙ sym q) i).room, tt)))) }
