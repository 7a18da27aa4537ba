-- No second outcome satisfies the contract of the public call of this crate, as the toolchain reads it from the source.
-- Assumes nothing.
use mathlib.Core.Path.{sym, ◌∙◌}
use Rattle.basics.specs.OneOutcome.{OneOutcome}
use Rattle.pass.specs.contracts.pass
use Rattle.pass.proofs.pass.Reads as pass_reads

pub pass_one : OneOutcome pass.ended pass_reads.Asked pass_reads.Learnt
pass_one = record { taken = λ κs a. tt; one = λ κs a x y p q i. (((p ∙ sym q) i).result, (tt, (tt, (((p ∙ sym q) i).room, tt)))) }
