-- No second outcome satisfies the contract of a public call of this crate, as the toolchain reads it from the source.
-- Assumes nothing.
use Rattle.std.proofs.Common.{sym, ◌∙◌}
use Rattle.basics.specs.OneOutcome.{OneOutcome}
use Rattle.frames.proofs.NumberLaws.{kind_read_one, origin_read_one}
use Rattle.frames.specs.contracts.answer.Answer.number as answer_number
use Rattle.frames.proofs.answer.Answer.number.Reads as answer_number_reads
use Rattle.frames.specs.contracts.answer.Answer.is_reported
use Rattle.frames.proofs.answer.Answer.is_reported.Reads as is_reported_reads
use Rattle.frames.specs.contracts.sender.Origin.number as origin_number
use Rattle.frames.proofs.sender.Origin.number.Reads as origin_number_reads
use Rattle.frames.specs.contracts.command.Command.kind
use Rattle.frames.proofs.command.Command.kind.Reads as kind_reads
use Rattle.frames.specs.contracts.frame.Frame.head
use Rattle.frames.proofs.frame.Frame.head.Reads as head_reads
use Rattle.frames.specs.contracts.serial.Serials.class
use Rattle.frames.proofs.serial.Serials.class.Reads as class_reads
use Rattle.frames.specs.contracts.serial.Serials.moved
use Rattle.frames.proofs.serial.Serials.moved.Reads as moved_reads
use Rattle.frames.specs.contracts.cut.front_bytes
use Rattle.frames.proofs.cut.front_bytes.Reads as front_bytes_reads
use Rattle.frames.specs.contracts.cut.cut
use Rattle.frames.proofs.cut.cut.Reads as cut_reads
use Rattle.frames.specs.contracts.kind.Kind.number as kind_number
use Rattle.frames.proofs.kind.Kind.number.Reads as kind_number_reads
use Rattle.frames.specs.contracts.kind.Kind.total as kind_total
use Rattle.frames.proofs.kind.Kind.total.Reads as kind_total_reads
use Rattle.frames.specs.contracts.kind.total
use Rattle.frames.proofs.kind.total.Reads as total_reads
use Rattle.frames.specs.contracts.kind.KindTryFromU8.try_from as kind_try_from
use Rattle.frames.proofs.kind.KindTryFromU8.try_from.Reads as kind_try_from_reads
use Rattle.frames.specs.contracts.sender.OriginTryFromU8.try_from as origin_try_from
use Rattle.frames.proofs.sender.OriginTryFromU8.try_from.Reads as origin_try_from_reads
use Rattle.frames.specs.contracts.answer.AnswerFromNoKind.from as from_no_kind
use Rattle.frames.proofs.answer.AnswerFromNoKind.from.Reads as from_no_kind_reads
use Rattle.frames.specs.contracts.answer.AnswerFromNoOrigin.from as from_no_origin
use Rattle.frames.proofs.answer.AnswerFromNoOrigin.from.Reads as from_no_origin_reads
use Rattle.frames.specs.contracts.greeting.is_greeting
use Rattle.frames.proofs.greeting.is_greeting.Reads as is_greeting_reads
use Rattle.frames.specs.contracts.greeting.text_of
use Rattle.frames.proofs.greeting.text_of.Reads as text_of_reads
use Rattle.frames.specs.contracts.reading.is_reading
use Rattle.frames.proofs.reading.is_reading.Reads as is_reading_reads
use Rattle.frames.specs.contracts.reading.are_thresholds
use Rattle.frames.proofs.reading.are_thresholds.Reads as are_thresholds_reads
use Rattle.frames.specs.contracts.reading.read
use Rattle.frames.proofs.reading.read.Reads as read_reads

pub answer_number_one : OneOutcome answer_number.ended answer_number_reads.Asked answer_number_reads.Learnt
answer_number_one = record { taken = λ κs a. tt; one = λ κs a x y p q i. ((p ∙ sym q) i, (tt, tt)) }

pub is_reported_one : OneOutcome is_reported.ended is_reported_reads.Asked is_reported_reads.Learnt
is_reported_one = record { taken = λ κs a. tt; one = λ κs a x y p q i. ((p ∙ sym q) i, (tt, tt)) }

pub origin_number_one : OneOutcome origin_number.ended origin_number_reads.Asked origin_number_reads.Learnt
origin_number_one = record { taken = λ κs a. tt; one = λ κs a x y p q i. ((p ∙ sym q) i, (tt, tt)) }

pub kind_number_one : OneOutcome kind_number.ended kind_number_reads.Asked kind_number_reads.Learnt
kind_number_one = record { taken = λ κs a. tt; one = λ κs a x y p q i. ((p ∙ sym q) i, (tt, tt)) }

pub kind_total_one : OneOutcome kind_total.ended kind_total_reads.Asked kind_total_reads.Learnt
kind_total_one = record { taken = λ κs a. tt; one = λ κs a x y p q i. ((p ∙ sym q) i, (tt, tt)) }

pub kind_one : OneOutcome kind.ended kind_reads.Asked kind_reads.Learnt
kind_one = record { taken = λ κs a. tt; one = λ κs a x y p q i. ((p ∙ sym q) i, (tt, tt)) }

pub head_one : OneOutcome head.ended head_reads.Asked head_reads.Learnt
head_one = record { taken = λ κs a. tt; one = λ κs a x y p q i. ((p ∙ sym q) i, (tt, tt)) }

pub class_one : OneOutcome class.ended class_reads.Asked class_reads.Learnt
class_one = record { taken = λ κs a. tt; one = λ κs a x y p q i. ((p ∙ sym q) i, (tt, (tt, tt))) }

pub moved_one : OneOutcome moved.ended moved_reads.Asked moved_reads.Learnt
moved_one = record { taken = λ κs a. tt; one = λ κs a x y p q i. ((p ∙ sym q) i, (tt, (tt, tt))) }

pub cut_one : OneOutcome cut.ended cut_reads.Asked cut_reads.Learnt
cut_one = record { taken = λ κs a. tt; one = λ κs a x y p q i. ((p ∙ sym q) i, (tt, tt)) }

pub front_bytes_one : OneOutcome front_bytes.ended front_bytes_reads.Asked front_bytes_reads.Learnt
front_bytes_one = record { taken = λ κs a. tt; one = λ κs a x y p q i. ((p ∙ sym q) i, (tt, (tt, tt))) }

pub total_one : OneOutcome total.ended total_reads.Asked total_reads.Learnt
total_one = record { taken = λ κs a. tt; one = λ κs a x y p q i. ((p ∙ sym q) i, (tt, tt)) }

pub is_greeting_one : OneOutcome is_greeting.ended is_greeting_reads.Asked is_greeting_reads.Learnt
is_greeting_one = record { taken = λ κs a. tt; one = λ κs a x y p q i. ((p ∙ sym q) i, (tt, (tt, tt))) }

pub text_of_one : OneOutcome text_of.ended text_of_reads.Asked text_of_reads.Learnt
text_of_one = record { taken = λ κs a. tt; one = λ κs a x y p q i. ((p ∙ sym q) i, (tt, tt)) }

pub is_reading_one : OneOutcome is_reading.ended is_reading_reads.Asked is_reading_reads.Learnt
is_reading_one = record { taken = λ κs a. tt; one = λ κs a x y p q i. ((p ∙ sym q) i, (tt, tt)) }

pub are_thresholds_one : OneOutcome are_thresholds.ended are_thresholds_reads.Asked are_thresholds_reads.Learnt
are_thresholds_one = record { taken = λ κs a. tt; one = λ κs a x y p q i. ((p ∙ sym q) i, (tt, (tt, tt))) }

pub read_one : OneOutcome read.ended read_reads.Asked read_reads.Learnt
read_one = record { taken = λ κs a. tt; one = λ κs a x y p q i. ((p ∙ sym q) i, (tt, tt)) }

pub kind_try_from_one : OneOutcome kind_try_from.ended kind_try_from_reads.Asked kind_try_from_reads.Learnt
kind_try_from_one = record { taken = λ κs a. tt; one = λ κs a x y p q i. (kind_read_one _ _ _ p q i, (tt, tt)) }

pub origin_try_from_one : OneOutcome origin_try_from.ended origin_try_from_reads.Asked origin_try_from_reads.Learnt
origin_try_from_one = record { taken = λ κs a. tt; one = λ κs a x y p q i. (origin_read_one _ _ _ p q i, (tt, tt)) }

pub from_no_kind_one : OneOutcome from_no_kind.ended from_no_kind_reads.Asked from_no_kind_reads.Learnt
from_no_kind_one = record { taken = λ κs a. tt; one = λ κs a x y p q i. ((p ∙ sym q) i, (tt, tt)) }

pub from_no_origin_one : OneOutcome from_no_origin.ended from_no_origin_reads.Asked from_no_origin_reads.Learnt
from_no_origin_one = record { taken = λ κs a. tt; one = λ κs a x y p q i. ((p ∙ sym q) i, (tt, tt)) }
