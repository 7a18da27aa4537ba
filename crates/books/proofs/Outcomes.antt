-- No second outcome satisfies the contract of a public call of this crate, as the toolchain reads it from the source.
-- Assumes nothing.
use mathlib.Core.Path.{sym, ◌∙◌}
use Rattle.basics.specs.OneOutcome.{OneOutcome}
use Rattle.books.specs.contracts.answer.BookFaultRefusal.number as fault_number
use Rattle.books.proofs.answer.BookFaultRefusal.number.Reads as fault_number_reads
use Rattle.books.specs.contracts.answer.number as answer_number
use Rattle.books.proofs.answer.number.Reads as answer_number_reads
use Rattle.books.specs.contracts.answer.is_reported as answer_reported
use Rattle.books.proofs.answer.is_reported.Reads as answer_reported_reads
use Rattle.books.specs.contracts.step.step_books
use Rattle.books.proofs.step.step_books.Reads as step_books_reads
use Rattle.books.specs.contracts.summary.summary
use Rattle.books.proofs.summary.summary.Reads as summary_reads
use Rattle.books.specs.contracts.shares.put
use Rattle.books.proofs.shares.put.Reads as put_reads

pub fault_number_one : OneOutcome fault_number.ended fault_number_reads.Asked fault_number_reads.Learnt
fault_number_one = record { taken = λ κs a. tt; one = λ κs a x y p q i. ((p ∙ sym q) i, (tt, tt)) }

pub answer_number_one : OneOutcome answer_number.ended answer_number_reads.Asked answer_number_reads.Learnt
answer_number_one = record { taken = λ κs a. tt; one = λ κs a x y p q i. ((p ∙ sym q) i, (tt, tt)) }

pub answer_reported_one : OneOutcome answer_reported.ended answer_reported_reads.Asked answer_reported_reads.Learnt
answer_reported_one = record { taken = λ κs a. tt; one = λ κs a x y p q i. ((p ∙ sym q) i, (tt, tt)) }

pub step_books_one : OneOutcome step_books.ended step_books_reads.Asked step_books_reads.Learnt
step_books_one =
    record {
      taken = λ κs a. tt;
      one = λ κs a x y p q i.
          let both = (p ∙ sym q) i in
          (both.result.result, (tt, (tt, (both.room, (both.result.books, tt)))));
    }

pub summary_one : OneOutcome summary.ended summary_reads.Asked summary_reads.Learnt
summary_one = record { taken = λ κs a. tt; one = λ κs a x y p q i. ((p ∙ sym q) i, (tt, tt)) }

pub put_one : OneOutcome put.ended put_reads.Asked put_reads.Learnt
put_one = record { taken = λ κs a. tt; one = λ κs a x y p q i. (tt, (tt, ((p ∙ sym q) i, tt))) }
