-- Tied to the code: what the promises speak of is what the functions' own contracts say, as the toolchain reads them
-- from the source. `ended` is a function's signature, `Learnt` what its caller learns from its `ensures`.
-- Assumes nothing.
use Rattle.std.specs.Prelude.{◌≡◌, ◌↔◌}
use contract.Lifetimes.{Lfts}
use denote.Triple.Entry.{Args, Res}
use denote.Triple.Clauses.{Ended, AtExit, at_exit}
use Rattle.basics.specs.Outcome.{outcome, reply}
use Rattle.basics.specs.OneOutcome.{Leaves}
use Rattle.supervisor.specs.History.{called}
use Rattle.pass.specs.Flight.{passed}
use Rattle.counting.specs.Counting.{modules_on_of}
use Rattle.books.specs.Step.{with_books}
use Rattle.books.specs.Summary.{summary_of}
use Rattle.books.specs.History.{called_with}
use Rattle.morse.specs.Keying.{key_reply, key_of}
use Rattle.hearing.specs.Reading.{Read}
use Rattle.beacon.specs.Writing.{beacon_of}
use Rattle.tracker.specs.Tracker.{track_of}
use Rattle.supervisor.specs.contracts.step.step
use Rattle.supervisor.proofs.step.step.Reads as step_reads
use Rattle.pass.specs.contracts.pass
use Rattle.pass.proofs.pass.Reads as pass_reads
use Rattle.counting.specs.contracts.modules_on
use Rattle.counting.proofs.modules_on.Reads as modules_on_reads
use Rattle.books.specs.contracts.step.step_books
use Rattle.books.proofs.step.step_books.Reads as step_books_reads
use Rattle.books.specs.contracts.summary.summary
use Rattle.books.proofs.summary.summary.Reads as summary_reads
use Rattle.morse.specs.contracts.keying.key
use Rattle.morse.proofs.keying.key.Reads as key_reads
use Rattle.hearing.specs.contracts.reading.read
use Rattle.hearing.proofs.reading.read.Reads as read_reads
use Rattle.beacon.specs.contracts.writing.write
use Rattle.beacon.proofs.writing.write.Reads as write_reads
use Rattle.tracker.specs.contracts.track
use Rattle.tracker.proofs.track.Reads as track_reads
use Rattle.flight.specs.Calls.{imaged, fresh_image, step_image, pass_image, modules_on_image, step_books_image, summary_reply}
use Rattle.flight.specs.Calls.{replied, tracks, tracks_of}
use Rattle.flight.specs.contracts.calls.ems_fresh
use Rattle.flight.proofs.calls.ems_fresh.Reads as ems_fresh_reads
use Rattle.flight.specs.contracts.calls.ems_step
use Rattle.flight.proofs.calls.ems_step.Reads as ems_step_reads
use Rattle.flight.specs.contracts.calls.ems_pass
use Rattle.flight.proofs.calls.ems_pass.Reads as ems_pass_reads
use Rattle.flight.specs.contracts.calls.ems_modules_on
use Rattle.flight.proofs.calls.ems_modules_on.Reads as ems_modules_on_reads
use Rattle.flight.specs.contracts.calls.ems_step_books
use Rattle.flight.proofs.calls.ems_step_books.Reads as ems_step_books_reads
use Rattle.flight.specs.contracts.calls.ems_summary
use Rattle.flight.proofs.calls.ems_summary.Reads as ems_summary_reads
use Rattle.flight.specs.contracts.calls.ems_key
use Rattle.flight.proofs.calls.ems_key.Reads as ems_key_reads
use Rattle.flight.specs.contracts.calls.ems_track
use Rattle.flight.proofs.calls.ems_track.Reads as ems_track_reads

-- a function's contract says of what a call leaves, its result and the last value of what it was lent, just what a
-- definition says
abbrev pub Says :
    (ended : Ended) →
    ((κs : Lfts ended.signature.lifetimes) → Args ended.signature κs → Res ended.signature κs →
    AtExit ended κs → Type 0) →
    ((κs : Lfts ended.signature.lifetimes) (a : Args ended.signature κs) → Leaves ended κs a → Type 0) → Type 0
Says ended Learnt Definition =
    (κs : Lfts ended.signature.lifetimes) (a : Args ended.signature κs) (x : Leaves ended κs a) →
    Learnt κs a x.0 (at_exit ended κs a x.1) ↔ Definition κs a x

-- each call that the promises speak of, its arguments in the order of the source
pub record Tied : Type 0 where
  -- step(state, input, room)
  pub step :
      Says step.ended step_reads.Learnt
      (λ κs a x.
      outcome x.0 x.1.1.1.0 ≡ called a.0 (record { input = a.1.0.now; room = a.1.1.0.now }))
  -- pass(state, input, room)
  pub pass :
      Says pass.ended pass_reads.Learnt
      (λ κs a x.
      outcome x.0 x.1.1.1.0 ≡ passed a.0 (record { input = a.1.0.now; room = a.1.1.0.now }))
  -- key(text, units)
  pub key : Says key.ended key_reads.Learnt (λ κs a x. outcome x.0 x.1.1.0 ≡ key_of a.0.now a.1.0.now)
  -- read(units, text)
  pub read : Says read.ended read_reads.Learnt (λ κs a x. Read a.0.now a.1.0.now (outcome x.0 x.1.1.0))
  -- write(state, form, text), the beacon's
  pub write :
      Says write.ended write_reads.Learnt
      (λ κs a x. outcome x.0 x.1.1.1.0 ≡ beacon_of a.1.0 a.0 a.1.1.0.now)
  -- modules_on(state)
  pub modules_on : Says modules_on.ended modules_on_reads.Learnt (λ κs a x. x.0 ≡ modules_on_of a.0)
  -- step_books(state, input, room, books)
  pub step_books :
      Says step_books.ended step_books_reads.Learnt
      (λ κs a x.
      outcome (with_books x.0 x.1.1.1.1.0) x.1.1.1.0
      ≡ called_with (record { state = a.0; books = a.1.1.1.0.now }) (record { input = a.1.0.now; room = a.1.1.0.now }))
  -- summary(books)
  pub summary : Says summary.ended summary_reads.Learnt (λ κs a x. x.0 ≡ summary_of a.0.now)
  -- track(before, after, point, step)
  pub track :
      Says track.ended track_reads.Learnt
      (λ κs a x. x.0 ≡ track_of a.0 a.1.0 a.1.1.0 a.1.1.1.0)
  -- ems_fresh(image), ems_step(image, frame, room) and ems_pass(image, frames, room, reported), which C calls
  pub ems_fresh :
      Says ems_fresh.ended ems_fresh_reads.Learnt (λ κs a x. imaged x.0 x.1.0 ≡ fresh_image a.0.now)
  pub ems_step :
      Says ems_step.ended ems_step_reads.Learnt
      (λ κs a x.
      outcome (imaged x.0 x.1.0) x.1.1.1.0 ≡ step_image a.0.now a.1.0.now a.1.1.0.now)
  pub ems_pass :
      Says ems_pass.ended ems_pass_reads.Learnt
      (λ κs a x.
      outcome (imaged (reply x.0 x.1.1.1.1.0) x.1.0) x.1.1.1.0
      ≡ pass_image a.0.now a.1.0.now a.1.1.0.now)
  -- ems_modules_on(image, count)
  pub ems_modules_on :
      Says ems_modules_on.ended ems_modules_on_reads.Learnt
      (λ κs a x. reply x.0 x.1.1.0 ≡ modules_on_image a.0.now)
  -- ems_step_books(image, frame, room, books) and ems_summary(books, shares)
  pub ems_step_books :
      Says ems_step_books.ended ems_step_books_reads.Learnt
      (λ κs a x.
      outcome (with_books (imaged x.0 x.1.0) x.1.1.1.1.0) x.1.1.1.0
      ≡ step_books_image a.0.now a.1.0.now a.1.1.0.now a.1.1.1.0.now)
  pub ems_summary :
      Says ems_summary.ended ems_summary_reads.Learnt
      (λ κs a x. outcome x.0 x.1.1.0 ≡ summary_reply a.0.now a.1.0.now)
  -- ems_key(text, units, count)
  pub ems_key :
      Says ems_key.ended ems_key_reads.Learnt
      (λ κs a x.
      outcome (reply x.0 x.1.1.1.0) x.1.1.0 ≡ replied key_reply (key_of a.0.now a.1.0.now))
  -- ems_track(volts_before, amps_before, volts_after, amps_after, set_point, step)
  pub ems_track :
      Says ems_track.ended ems_track_reads.Learnt
      (λ κs a x.
      let lent = a.1.1.1.1 in
      let last = x.1.1.1.1.1 in
      tracks x.0 last.0 last.1.0
      ≡ tracks_of a.0 a.1.0 a.1.1.0 a.1.1.1.0 lent.0.now lent.1.0.now)
