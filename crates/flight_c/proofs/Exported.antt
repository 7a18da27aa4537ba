-- Each call that C makes asks and tells what the call of the same name in `flight` does: so what is proved of the contracts
-- there, in `flight` and in `promises`, holds here.
-- Assumes nothing.
use Rattle.flight_c.specs.Exported.{Same, Asks, Tells}
use denote.Triple.Clauses.{Ended}
use Rattle.flight.specs.contracts.calls.ems_fresh
use Rattle.flight.proofs.calls.ems_fresh.Reads as ems_fresh_reads
use Rattle.flight_c.proofs.ems_fresh.Reads as ems_fresh_exported
use Rattle.flight.specs.contracts.calls.ems_step
use Rattle.flight.proofs.calls.ems_step.Reads as ems_step_reads
use Rattle.flight_c.proofs.ems_step.Reads as ems_step_exported
use Rattle.flight.specs.contracts.calls.ems_pass
use Rattle.flight.proofs.calls.ems_pass.Reads as ems_pass_reads
use Rattle.flight_c.proofs.ems_pass.Reads as ems_pass_exported
use Rattle.flight.specs.contracts.calls.ems_modules_on
use Rattle.flight.proofs.calls.ems_modules_on.Reads as ems_modules_on_reads
use Rattle.flight_c.proofs.ems_modules_on.Reads as ems_modules_on_exported
use Rattle.flight.specs.contracts.calls.ems_step_books
use Rattle.flight.proofs.calls.ems_step_books.Reads as ems_step_books_reads
use Rattle.flight_c.proofs.ems_step_books.Reads as ems_step_books_exported
use Rattle.flight.specs.contracts.calls.ems_summary
use Rattle.flight.proofs.calls.ems_summary.Reads as ems_summary_reads
use Rattle.flight_c.proofs.ems_summary.Reads as ems_summary_exported
use Rattle.flight.specs.contracts.calls.ems_beacon_basic
use Rattle.flight.proofs.calls.ems_beacon_basic.Reads as ems_beacon_basic_reads
use Rattle.flight_c.proofs.ems_beacon_basic.Reads as ems_beacon_basic_exported
use Rattle.flight.specs.contracts.calls.ems_beacon_complete
use Rattle.flight.proofs.calls.ems_beacon_complete.Reads as ems_beacon_complete_reads
use Rattle.flight_c.proofs.ems_beacon_complete.Reads as ems_beacon_complete_exported
use Rattle.flight.specs.contracts.calls.ems_beacon_extended
use Rattle.flight.proofs.calls.ems_beacon_extended.Reads as ems_beacon_extended_reads
use Rattle.flight_c.proofs.ems_beacon_extended.Reads as ems_beacon_extended_exported
use Rattle.flight.specs.contracts.calls.ems_key
use Rattle.flight.proofs.calls.ems_key.Reads as ems_key_reads
use Rattle.flight_c.proofs.ems_key.Reads as ems_key_exported
use Rattle.flight.specs.contracts.calls.ems_read
use Rattle.flight.proofs.calls.ems_read.Reads as ems_read_reads
use Rattle.flight_c.proofs.ems_read.Reads as ems_read_exported
use Rattle.flight.specs.contracts.calls.ems_track
use Rattle.flight.proofs.calls.ems_track.Reads as ems_track_reads
use Rattle.flight_c.proofs.ems_track.Reads as ems_track_exported

itself : {ended : Ended} {Asked : Asks ended} {Learnt : Tells ended} → Same ended Asked Asked Learnt Learnt
itself = record { asked = λ κs a. (λ p. p, λ p. p); told = λ κs a r s. (λ p. p, λ p. p) }

pub ems_fresh_same : Same ems_fresh.ended ems_fresh_reads.Asked ems_fresh_exported.Asked ems_fresh_reads.Learnt ems_fresh_exported.Learnt
ems_fresh_same = itself

pub ems_step_same : Same ems_step.ended ems_step_reads.Asked ems_step_exported.Asked ems_step_reads.Learnt ems_step_exported.Learnt
ems_step_same = itself

pub ems_pass_same : Same ems_pass.ended ems_pass_reads.Asked ems_pass_exported.Asked ems_pass_reads.Learnt ems_pass_exported.Learnt
ems_pass_same = itself

pub ems_modules_on_same : Same ems_modules_on.ended ems_modules_on_reads.Asked ems_modules_on_exported.Asked ems_modules_on_reads.Learnt ems_modules_on_exported.Learnt
ems_modules_on_same = itself

pub ems_step_books_same : Same ems_step_books.ended ems_step_books_reads.Asked ems_step_books_exported.Asked ems_step_books_reads.Learnt ems_step_books_exported.Learnt
ems_step_books_same = itself

pub ems_summary_same : Same ems_summary.ended ems_summary_reads.Asked ems_summary_exported.Asked ems_summary_reads.Learnt ems_summary_exported.Learnt
ems_summary_same = itself

pub ems_beacon_basic_same : Same ems_beacon_basic.ended ems_beacon_basic_reads.Asked ems_beacon_basic_exported.Asked ems_beacon_basic_reads.Learnt ems_beacon_basic_exported.Learnt
ems_beacon_basic_same = itself

pub ems_beacon_complete_same : Same ems_beacon_complete.ended ems_beacon_complete_reads.Asked ems_beacon_complete_exported.Asked ems_beacon_complete_reads.Learnt ems_beacon_complete_exported.Learnt
ems_beacon_complete_same = itself

pub ems_beacon_extended_same : Same ems_beacon_extended.ended ems_beacon_extended_reads.Asked ems_beacon_extended_exported.Asked ems_beacon_extended_reads.Learnt ems_beacon_extended_exported.Learnt
ems_beacon_extended_same = itself

pub ems_key_same : Same ems_key.ended ems_key_reads.Asked ems_key_exported.Asked ems_key_reads.Learnt ems_key_exported.Learnt
ems_key_same = itself

pub ems_read_same : Same ems_read.ended ems_read_reads.Asked ems_read_exported.Asked ems_read_reads.Learnt ems_read_exported.Learnt
ems_read_same = itself

pub ems_track_same : Same ems_track.ended ems_track_reads.Asked ems_track_exported.Asked ems_track_reads.Learnt ems_track_exported.Learnt
ems_track_same = itself
