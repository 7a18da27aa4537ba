-- What each exported call leaves, over bytes.
-- Assumes nothing.
use Rattle.std.specs.Prelude.{ℕ, ◌≡◌, List, Option, Some, None, Result, Ok, Err, eqb, ltb, ℤ, length}
use Rattle.basics.specs.Choice.{when◌then◌else◌}
use Rattle.basics.specs.Outcome.{Outcome, outcome, Reply, reply}
use Rattle.modules.specs.Groups.{module_count}
use Rattle.morse.specs.Answers.{done, no_room}
use Rattle.hearing.specs.Reading.{Read, read_reply}
use Rattle.hearing.specs.declared.reading.ReadFault.{ReadFault}
use Rattle.frames.specs.Answer.{answer_number}
use Rattle.frames.specs.declared.answer.Answer.{Answer}
use Rattle.frames.specs.declared.answer.Answer.TheVariants as answer
use Rattle.supervisor.specs.Fresh.{fresh_state}
use Rattle.supervisor.specs.Step.{step_of}
use Rattle.supervisor.specs.declared.state.State.{State}
use Rattle.supervisor.specs.declared.step.Stepped.{Stepped}
use Rattle.pass.specs.Pass.{pass_of}
use Rattle.pass.specs.declared.Passed.{Passed}
use Rattle.counting.specs.Counting.{modules_on_of}
use Rattle.books.specs.Books.{book_numbers}
use Rattle.books.specs.Answer.{book_fault_number, book_number}
use Rattle.books.specs.Step.{WithBooks, with_books, step_books_of}
use Rattle.books.specs.Summary.{no_shares, summary_of, put_into}
use Rattle.books.specs.declared.answer.BookFault.{BookFault}
use Rattle.books.specs.declared.answer.BookFault.TheVariants.{NotBooks}
use Rattle.books.specs.declared.step.Booked.{Booked}
use Rattle.beacon.specs.Writing.{beacon_of}
use Rattle.supervisor.specs.declared.form.Form.{Form}
use Rattle.beacon.specs.declared.writing.WriteFault.{WriteFault}
use Rattle.beacon.specs.declared.writing.WriteFault.TheVariants.{BadState}
use Rattle.tracker.specs.Tracker.{track_of, left_at, track_answer}
use Rattle.tracker.specs.declared.OutOfRange.{OutOfRange}
use Rattle.tracker.specs.declared.Tracked.{Tracked}
use Rattle.flight.specs.Saving.{image_bytes, saved}
use Rattle.flight.specs.Loading.{loaded}

-- what a call answers, and the later content of the image
pub record Imaged (Answer : Type 0) : Type 0 where
  pub answer : Answer
  pub image : List ℕ

-- from its two parts
abbrev pub imaged : {Answer : Type 0} → Answer → (image : List ℕ) → Imaged Answer
imaged answer image = record { answer = answer; image = image }

-- 1: the image is not that of a state in range
abbrev pub bad_state : ℕ
bad_state = answer_number answer.BadState

-- the image of the fresh start, into 71 bytes
unfoldable pub fresh_image : (image : List ℕ) → Imaged ℕ
fresh_image image =
    when eqb (length image) image_bytes then imaged (answer_number answer.Done) (saved fresh_state)
    else imaged bad_state image

-- what a step leaves, as bytes
abbrev pub stepped_to : Outcome Stepped → Outcome (Imaged ℕ)
stepped_to after = outcome (imaged (answer_number after.result.answer) (saved after.result.state)) after.room

-- a step of what was loaded; where that is nothing, image and room stay
abbrev pub step_loaded : Option State → (image frame room : List ℕ) → Outcome (Imaged ℕ)
step_loaded None image frame room = outcome (imaged bad_state image) room
step_loaded (Some s) image frame room = stepped_to (step_of s frame room)

-- a step of an image
unfoldable pub step_image : (image frame room : List ℕ) → Outcome (Imaged ℕ)
step_image image frame room = step_loaded (loaded image) image frame room

-- what a pass leaves, as bytes: the number of why it stopped, how many frames got a report, the image and the room
abbrev pub passed_to : Outcome Passed → Outcome (Imaged Reply)
passed_to after =
    let stopped = reply (answer_number after.result.answer) after.result.reported in
    outcome (imaged stopped (saved after.result.state)) after.room

-- a pass from what was loaded; where that is nothing, image and room stay
abbrev pub pass_loaded : Option State → (image frames room : List ℕ) → Outcome (Imaged Reply)
pass_loaded None image frames room = outcome (imaged (reply bad_state 0) image) room
pass_loaded (Some s) image frames room = passed_to (pass_of s frames room)

-- a pass from an image
unfoldable pub pass_image : (image frames room : List ℕ) → Outcome (Imaged Reply)
pass_image image frames room = pass_loaded (loaded image) image frames room

-- how many modules are on, in the page's terms: a refusal counts none
abbrev pub modules_on_reply : Result ℕ Answer → Reply
modules_on_reply (Ok count) = reply (answer_number answer.Done) count
modules_on_reply (Err refusal) = reply (answer_number refusal) 0

-- how many are on in what was loaded; where that is nothing, 1 and none
abbrev pub modules_on_loaded : Option State → Reply
modules_on_loaded None = reply bad_state 0
modules_on_loaded (Some s) = modules_on_reply (modules_on_of s)

-- how many are on in an image
unfoldable pub modules_on_image : (image : List ℕ) → Reply
modules_on_image image = modules_on_loaded (loaded image)

-- what a step with books leaves, as bytes
abbrev pub booked_to : Outcome (WithBooks Booked) → Outcome (WithBooks (Imaged ℕ))
booked_to after =
    let booked = after.result.result in
    outcome (with_books (imaged (book_number booked.answer) (saved booked.state)) after.result.books) after.room

-- a step with books of what was loaded; where that is nothing, image, room and books stay
abbrev pub step_books_loaded : Option State → (image frame room books : List ℕ) → Outcome (WithBooks (Imaged ℕ))
step_books_loaded None image frame room books = outcome (with_books (imaged bad_state image) books) room
step_books_loaded (Some s) image frame room books = booked_to (step_books_of s frame room books)

-- a step with books of an image: 18 goes before all, unless 24 numbers are lent
unfoldable pub step_books_image : (image frame room books : List ℕ) → Outcome (WithBooks (Imaged ℕ))
step_books_image image frame room books =
    when eqb (length books) book_numbers then step_books_loaded (loaded image) image frame room books
    else outcome (with_books (imaged (book_fault_number NotBooks) image) books) room

-- a summary into a room: a refusal with as many zeros as there is place for; 14 where there is none for eight shares,
-- with nothing written
abbrev pub summed_to : Result (List ℕ) BookFault → (room : List ℕ) → Outcome ℕ
summed_to (Ok shares) room =
    when ltb (length room) module_count then outcome no_room room
    else outcome done (put_into shares room)
summed_to (Err fault) room = outcome (book_fault_number fault) (put_into no_shares room)

-- a summary of books into a room: 18, then 17, then 14
unfoldable pub summary_reply : (books room : List ℕ) → Outcome ℕ
summary_reply books room = summed_to (summary_of books) room

-- the beacon's text of what was loaded; where that is nothing, the room stays
abbrev pub beacon_loaded : Form → Option State → (room : List ℕ) → Outcome (Result ℕ WriteFault)
beacon_loaded form None room = outcome (Err BadState) room
beacon_loaded form (Some s) room = beacon_of form s room

-- the beacon's text of an image
unfoldable pub beacon_image : Form → (image room : List ℕ) → Outcome (Result ℕ WriteFault)
beacon_image form image room = beacon_loaded form (loaded image) room

-- what a call gave, by the page's number, 0 where it is done, and the count of what it has written: none at a refusal
abbrev pub told : {Refused : Type 0} → (number_of : Refused → ℕ) → Result ℕ Refused → Reply
told number_of (Ok written) = reply done written
told number_of (Err refusal) = reply (number_of refusal) 0

-- an outcome by the page's number and count of its answer
abbrev pub replied : {Answer : Type 0} → (Answer → Reply) → Outcome Answer → Outcome Reply
replied by o = outcome (by o.result) o.room

-- reading: an outcome that reading these units allows (there is one, and no second)
pub record ReadReplied (units room : List ℕ) (after : Outcome Reply) : Type 0 where
  pub heard : Outcome (Result ℕ ReadFault)
  pub read : Read units room heard
  pub same : after ≡ replied read_reply heard

-- the tracker: the number of its answer, and the later set point and step
pub record Tracks : Type 0 where
  pub number : ℕ
  pub point : ℕ
  pub step : ℤ

-- from its three parts
abbrev pub tracks : (number point : ℕ) (step : ℤ) → Tracks
tracks number point step = record { number = number; point = point; step = step }

-- what a call of it answers, by its number, and where it leaves the two
abbrev pub tracked_to : (point : ℕ) (step : ℤ) → Result Tracked OutOfRange → Tracks
tracked_to point step answer =
    let left = left_at point step answer in
    tracks (track_answer answer) left.point left.step

-- a call of it, the readings as four numbers
unfoldable pub tracks_of : (volts_before amps_before volts_after amps_after point : ℕ) (step : ℤ) → Tracks
tracks_of volts_before amps_before volts_after amps_after point step =
    tracked_to point step
    (track_of
    (record { millivolts = volts_before; milliamperes = amps_before })
    (record { millivolts = volts_after; milliamperes = amps_after })
    point step)
