-- Laws of lines: none is longer than the room that every line has its place in.
-- Assumes nothing.
use Rattle.std.proofs.Common.{ℕ, ◌≤◌, List, length, arith, length-append}
use Rattle.frames.specs.Answer.{answer_number}
use Rattle.frames.specs.Reading.{byte_at, word_at}
use Rattle.frames.specs.declared.answer.Answer.{Answer}
use Rattle.frame_log.specs.Text.{hex, spaced}
use Rattle.frame_log.specs.Line.{line_of, refused_line, longest}
use Rattle.frame_log.proofs.TextLaws.{length_decimal}

pub length_line : (n : ℕ) (report : List ℕ) → length (line_of n report) ≤ longest
unfolding line_of spaced hex
length_line n report =
    simp length-append
    (omega (
      arith,
      length_decimal n,
      length_decimal (byte_at 2 report),
      length_decimal (word_at 3 report),
      length_decimal (byte_at 5 report),
      length_decimal (byte_at 6 report),
      length_decimal (byte_at 10 report),
    ))

pub length_refused : (n : ℕ) (answer : Answer) → length (refused_line n answer) ≤ longest
unfolding refused_line spaced
length_refused n answer = simp length-append (omega (arith, length_decimal n, length_decimal (answer_number answer)))
