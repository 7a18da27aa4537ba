-- No second outcome satisfies the contract of the public call of this crate, as the toolchain reads it from the source.
-- Assumes nothing.
use mathlib.Core.Path.{sym, ◌∙◌}
use Rattle.basics.specs.OneOutcome.{OneOutcome}
use Rattle.counting.specs.contracts.modules_on
use Rattle.counting.proofs.modules_on.Reads as modules_on_reads

pub modules_on_one : OneOutcome modules_on.ended modules_on_reads.Asked modules_on_reads.Learnt
modules_on_one = record { taken = λ κs a. tt; one = λ κs a x y p q i. ((p ∙ sym q) i, (tt, tt)) }
