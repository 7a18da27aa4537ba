-- No second outcome satisfies the contract of a public call of this crate, as the toolchain reads it from the source.
-- Assumes nothing.
use mathlib.Core.Path.{sym, ◌∙◌}
use Rattle.basics.specs.OneOutcome.{OneOutcome}
use Rattle.tracker.specs.contracts.OutOfRangeRefusal.number
use Rattle.tracker.proofs.OutOfRangeRefusal.number.Reads as number_reads
use Rattle.tracker.specs.contracts.track
use Rattle.tracker.proofs.track.Reads as track_reads

pub number_one : OneOutcome number.ended number_reads.Asked number_reads.Learnt
number_one = record { taken = λ κs a. tt; one = λ κs a x y p q i. ((p ∙ sym q) i, (tt, tt)) }

pub track_one : OneOutcome track.ended track_reads.Asked track_reads.Learnt
track_one = record { taken = λ κs a. tt; one = λ κs a x y p q i. ((p ∙ sym q) i, (tt, (tt, (tt, (tt, tt))))) }
