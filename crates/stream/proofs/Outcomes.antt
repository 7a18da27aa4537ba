-- No second outcome satisfies the contract of `fill`, which works a piece, as the toolchain reads it from the source.
-- The public call, `print_log`, has no outcome but what it writes: see docs/EXCEPTIONS.md.
-- Assumes nothing.
use mathlib.Core.Path.{sym, ◌∙◌}
use Rattle.basics.specs.OneOutcome.{OneOutcome}
use Rattle.stream.specs.contracts.piece.fill
use Rattle.stream.proofs.piece.fill.Reads as fill_reads

pub fill_one : OneOutcome fill.ended fill_reads.Asked fill_reads.Learnt
fill_one = record { taken = λ κs a. tt; one = λ κs a x y p q i. (((p ∙ sym q) i).result, (tt, (tt, (tt, (((p ∙ sym q) i).room, tt))))) }
