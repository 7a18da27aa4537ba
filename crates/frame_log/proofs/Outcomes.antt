-- No second outcome satisfies the contract of a public call of this crate, as the toolchain reads it from the source.
-- Assumes nothing.
use Rattle.std.proofs.Common.{sym, ◌∙◌}
use Rattle.basics.specs.OneOutcome.{OneOutcome}
use Rattle.frame_log.specs.contracts.line.line
use Rattle.frame_log.proofs.line.line.Reads as line_reads_lem
use Rattle.frame_log.specs.contracts.line.refused
use Rattle.frame_log.proofs.line.refused.Reads as refused_reads
use Rattle.frame_log.specs.contracts.entry.fresh
use Rattle.frame_log.proofs.entry.fresh.Reads as fresh_reads
use Rattle.frame_log.specs.contracts.entry.enter
use Rattle.frame_log.proofs.entry.enter.Reads as enter_reads

pub line_one : OneOutcome line.ended line_reads_lem.Asked line_reads_lem.Learnt
line_one = record { taken = λ κs a. tt; one = λ κs a x y p q i. (((p ∙ sym q) i).result, (tt, (tt, (((p ∙ sym q) i).room, tt)))) }

pub refused_one : OneOutcome refused.ended refused_reads.Asked refused_reads.Learnt
refused_one = record { taken = λ κs a. tt; one = λ κs a x y p q i. (((p ∙ sym q) i).result, (tt, (tt, (((p ∙ sym q) i).room, tt)))) }

pub fresh_one : OneOutcome fresh.ended fresh_reads.Asked fresh_reads.Learnt
fresh_one = record { taken = λ κs a. tt; one = λ κs a x y p q i. ((p ∙ sym q) i, tt) }

pub enter_one : OneOutcome enter.ended enter_reads.Asked enter_reads.Learnt
enter_one = record { taken = λ κs a. tt; one = λ κs a x y p q i. (((p ∙ sym q) i).result, (tt, (tt, (tt, (((p ∙ sym q) i).room, tt))))) }
