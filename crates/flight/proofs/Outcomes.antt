-- No second outcome satisfies the contract of an exported call, as the toolchain reads it from the source.
-- Assumes nothing.
use mathlib.Core.Path.{◌≡◌, sym, ap, ◌∙◌}
use Rattle.basics.specs.OneOutcome.{OneOutcome}
use Rattle.basics.specs.Outcome.{outcome, reply}
use Rattle.hearing.specs.Reading.{read_reply}
use Rattle.hearing.proofs.ReadingLaws.{one_reading}
use Rattle.flight.specs.Calls.{replied}
use Rattle.flight.specs.contracts.calls.ems_fresh
use Rattle.flight.proofs.calls.ems_fresh.Reads as ems_fresh_reads
use Rattle.flight.specs.contracts.calls.ems_step
use Rattle.flight.proofs.calls.ems_step.Reads as ems_step_reads
use Rattle.flight.specs.contracts.calls.ems_pass
use Rattle.flight.proofs.calls.ems_pass.Reads as ems_pass_reads
use Rattle.flight.specs.contracts.calls.ems_beacon_basic
use Rattle.flight.proofs.calls.ems_beacon_basic.Reads as ems_beacon_basic_reads
use Rattle.flight.specs.contracts.calls.ems_beacon_complete
use Rattle.flight.proofs.calls.ems_beacon_complete.Reads as ems_beacon_complete_reads
use Rattle.flight.specs.contracts.calls.ems_beacon_extended
use Rattle.flight.proofs.calls.ems_beacon_extended.Reads as ems_beacon_extended_reads
use Rattle.flight.specs.contracts.calls.ems_modules_on
use Rattle.flight.proofs.calls.ems_modules_on.Reads as ems_modules_on_reads
use Rattle.flight.specs.contracts.calls.ems_step_books
use Rattle.flight.proofs.calls.ems_step_books.Reads as ems_step_books_reads
use Rattle.flight.specs.contracts.calls.ems_summary
use Rattle.flight.proofs.calls.ems_summary.Reads as ems_summary_reads
use Rattle.flight.specs.contracts.calls.ems_key
use Rattle.flight.proofs.calls.ems_key.Reads as ems_key_reads
use Rattle.flight.specs.contracts.calls.ems_read
use Rattle.flight.proofs.calls.ems_read.Reads as ems_read_reads
use Rattle.flight.specs.contracts.calls.ems_track
use Rattle.flight.proofs.calls.ems_track.Reads as ems_track_reads

pub ems_fresh_one : OneOutcome ems_fresh.ended ems_fresh_reads.Asked ems_fresh_reads.Learnt
ems_fresh_one = record { taken = λ κs a. tt; one = λ κs a x y p q i. (((p ∙ sym q) i).answer, (((p ∙ sym q) i).image, tt)) }

pub ems_step_one : OneOutcome ems_step.ended ems_step_reads.Asked ems_step_reads.Learnt
ems_step_one =
    record {
      taken = λ κs a. tt;
      one = λ κs a x y p q i. (((p ∙ sym q) i).result.answer, (((p ∙ sym q) i).result.image, (tt, (((p ∙ sym q) i).room, tt))));
    }

pub ems_pass_one : OneOutcome ems_pass.ended ems_pass_reads.Asked ems_pass_reads.Learnt
ems_pass_one =
    record {
      taken = λ κs a. tt;
      one = λ κs a x y p q i.
          let both = (p ∙ sym q) i in
          (both.result.answer.number, (both.result.image, (tt, (both.room, (both.result.answer.count, tt)))));
    }

pub ems_beacon_basic_one : OneOutcome ems_beacon_basic.ended ems_beacon_basic_reads.Asked ems_beacon_basic_reads.Learnt
ems_beacon_basic_one =
    record {
      taken = λ κs a. tt;
      one = λ κs a x y p q i. (((p ∙ sym q) i).result.number, (tt, (((p ∙ sym q) i).room, (((p ∙ sym q) i).result.count, tt))));
    }

pub ems_beacon_complete_one : OneOutcome ems_beacon_complete.ended ems_beacon_complete_reads.Asked ems_beacon_complete_reads.Learnt
ems_beacon_complete_one =
    record {
      taken = λ κs a. tt;
      one = λ κs a x y p q i. (((p ∙ sym q) i).result.number, (tt, (((p ∙ sym q) i).room, (((p ∙ sym q) i).result.count, tt))));
    }

pub ems_beacon_extended_one : OneOutcome ems_beacon_extended.ended ems_beacon_extended_reads.Asked ems_beacon_extended_reads.Learnt
ems_beacon_extended_one =
    record {
      taken = λ κs a. tt;
      one = λ κs a x y p q i. (((p ∙ sym q) i).result.number, (tt, (((p ∙ sym q) i).room, (((p ∙ sym q) i).result.count, tt))));
    }

pub ems_modules_on_one : OneOutcome ems_modules_on.ended ems_modules_on_reads.Asked ems_modules_on_reads.Learnt
ems_modules_on_one =
    record { taken = λ κs a. tt; one = λ κs a x y p q i. (((p ∙ sym q) i).number, (tt, (((p ∙ sym q) i).count, tt))) }

pub ems_step_books_one : OneOutcome ems_step_books.ended ems_step_books_reads.Asked ems_step_books_reads.Learnt
ems_step_books_one =
    record {
      taken = λ κs a. tt;
      one = λ κs a x y p q i.
          let both = (p ∙ sym q) i in
          (both.result.result.answer, (both.result.result.image, (tt, (both.room, (both.result.books, tt)))));
    }

pub ems_summary_one : OneOutcome ems_summary.ended ems_summary_reads.Asked ems_summary_reads.Learnt
ems_summary_one =
    record { taken = λ κs a. tt; one = λ κs a x y p q i. (((p ∙ sym q) i).result, (tt, (((p ∙ sym q) i).room, tt))) }

pub ems_key_one : OneOutcome ems_key.ended ems_key_reads.Asked ems_key_reads.Learnt
ems_key_one =
    record {
      taken = λ κs a. tt;
      one = λ κs a x y p q i. (((p ∙ sym q) i).result.number, (tt, (((p ∙ sym q) i).room, (((p ∙ sym q) i).result.count, tt))));
    }

-- reading has two directions: the outcome that is heard is one
pub ems_read_one : OneOutcome ems_read.ended ems_read_reads.Asked ems_read_reads.Learnt
ems_read_one =
    record {
      taken = λ κs a. tt;
      one = λ κs a x y p q.
          let heard = one_reading _ _ p.heard q.heard p.read q.read in
          let e : outcome (reply x.0 x.1.1.1.0) x.1.1.0 ≡ outcome (reply y.0 y.1.1.1.0) y.1.1.0 =
          p.same ∙ ap (replied read_reply) heard ∙ sym q.same in
          λ i. ((e i).result.number, (tt, ((e i).room, ((e i).result.count, tt))));
    }

pub ems_track_one : OneOutcome ems_track.ended ems_track_reads.Asked ems_track_reads.Learnt
ems_track_one =
    record {
      taken = λ κs a. tt;
      one = λ κs a x y p q i. let both = (p ∙ sym q) i in (both.number, (tt, (tt, (tt, (tt, (both.point, (both.step, tt)))))));
    }
