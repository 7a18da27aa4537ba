-- Laws of the calls: what each makes of an image that has a state or none, and an answer by its number and count.
-- Assumes nothing.
use Prim.Native.Nat.{ℕ, ◌<◌}
use mathlib.Core.Path.{◌≡◌, refl, sym, ap, ◌∙◌}
use mathlib.Core.Bool.{Bool, true, false, ◌&&◌, true≢false}
use mathlib.Core.List.{List}
use native.Mathlib.Omega.{arith}
use lib.Dec.{T, eqb, ltb}
use lib.IntN.{ℤ}
use lib.ListN.{length}
use borrow.Author.Tests.{eq-eqb}
use Rattle.std.specs.Prelude.{Some, None}
use Rattle.basics.specs.Choice.{when◌then◌else◌}
use Rattle.basics.specs.Outcome.{Outcome, outcome, Reply, reply}
use Rattle.basics.proofs.ChoiceLaws.{is_true, holds}
use Rattle.std.specs.Prelude.{Result, Ok, Err}
use Rattle.morse.specs.Keying.{key_fault_number, key_reply}
use Rattle.morse.specs.declared.keying.KeyFault.{KeyFault}
use Rattle.hearing.specs.Reading.{read_fault_number, read_reply, Read}
use Rattle.hearing.specs.declared.reading.ReadFault.{ReadFault}
use Rattle.frames.specs.Answer.{answer_number, is_reported}
use Rattle.supervisor.specs.Range.{in_range}
use Rattle.supervisor.specs.Step.{step_of}
use Rattle.supervisor.specs.History.{Call, called}
use Rattle.supervisor.specs.declared.step.Stepped.{Stepped}
use Rattle.supervisor.specs.declared.state.State.{State}
use Rattle.supervisor.proofs.HistoryLaws.{called_in_range}
use Rattle.supervisor.proofs.StepLaws.{step_outside, reported_valid, refused_left}
use Rattle.pass.specs.Pass.{pass_of}
use Rattle.pass.specs.declared.Passed.{Passed}
use Rattle.pass.proofs.PassLaws.{pass_outside, pass_keeps_range}
use Rattle.pass.proofs.Flight.{pass_idle}
use Rattle.counting.specs.Counting.{modules_on_of}
use Rattle.books.specs.Books.{book_numbers}
use Rattle.books.specs.Answer.{book_fault_number, book_number, is_book_reported}
use Rattle.books.specs.Step.{WithBooks, with_books, step_books_of}
use Rattle.books.specs.History.{Board, called_with, board_after}
use Rattle.books.specs.Summary.{no_shares, summary_of, put_into}
use Rattle.books.specs.declared.answer.BookFault.{BookFault}
use Rattle.books.specs.declared.answer.BookFault.TheVariants.{Full, NotBooks}
use Rattle.modules.specs.Groups.{module_count}
use Rattle.morse.specs.Answers.{done, no_room}
use Rattle.books.specs.declared.step.Booked.{Booked}
use Rattle.books.proofs.WaysLaws.{booked_valid, booked_in_range, booked_left, booked_outside}
use Rattle.beacon.specs.Writing.{beacon_of}
use Rattle.supervisor.specs.declared.form.Form.{Form}
use Rattle.beacon.specs.Writing.{fault_number, written_reply}
use Rattle.beacon.specs.declared.writing.WriteFault.{WriteFault}
use Rattle.beacon.specs.declared.writing.WriteFault.TheVariants.{BadState}
use Rattle.beacon.proofs.WritingLaws.{beacon_outside}
use Rattle.tracker.specs.Tracker.{left_at, track_of, track_answer}
use Rattle.tracker.specs.declared.OutOfRange.{OutOfRange}
use Rattle.tracker.specs.declared.Tracked.{Tracked}
use Rattle.flight.specs.Saving.{image_bytes, saved}
use Rattle.flight.specs.Loading.{has_layout, decoded, loaded, fields_say}
use Rattle.flight.specs.Calls.{imaged, bad_state, stepped_to, step_image, passed_to, pass_image, modules_on_reply, modules_on_image, beacon_image}
use Rattle.flight.specs.Calls.{booked_to, step_books_image, summed_to, summary_reply}
use Rattle.flight.specs.Calls.{told, replied, ReadReplied}
use Rattle.flight.specs.Calls.{tracks, tracked_to, tracks_of}
use Rattle.flight.proofs.FieldsLaws.{AllBytes}
use Rattle.flight.proofs.LoadingLaws.{layout, saved_decoded}

-- what the fields say is of this layout; bytes that say nothing are of another
module _ (image : List ℕ) where
  pub says_nothing : fields_say image ≡ None → has_layout image ≡ false
  unfolding fields_say
  says_nothing e = by_test (has_layout image) refl e
    where
      by_test : (t : Bool) → has_layout image ≡ t → (when t then Some (decoded image) else None) ≡ None → has_layout image ≡ false
      by_test true l z = let never : ◌≡◌ {A = ℕ} 0 1 = cc in absurd (omega arith)
      by_test false l z = l

  pub says_state : (s : State) → fields_say image ≡ Some s → (has_layout image ≡ true) × (s ≡ decoded image)
  unfolding fields_say
  says_state s e = by_test (has_layout image) refl e
    where
      by_test : (t : Bool) → has_layout image ≡ t → (when t then Some (decoded image) else None) ≡ Some s → (has_layout image ≡ true) × (s ≡ decoded image)
      by_test true l z = let same : s ≡ decoded image = cc in (l, same)
      by_test false l z = let never : ◌≡◌ {A = ℕ} 0 1 = cc in absurd (omega arith)

-- counting asks for no room
pub count_foreign : (image : List ℕ) → fields_say image ≡ None → reply bad_state 0 ≡ modules_on_image image
unfolding modules_on_image loaded
count_foreign image nothing = simp (says_nothing image nothing)

pub count_worked : (image : List ℕ) (s : State) → fields_say image ≡ Some s → modules_on_reply (modules_on_of s) ≡ modules_on_image image
unfolding modules_on_image modules_on_of loaded
count_worked image s say = by_range (in_range s) refl
  where
    own : has_layout image ≡ true
    own = (says_state image s say).0

    says : s ≡ decoded image
    says = (says_state image s say).1

    by_range : (t : Bool) → in_range s ≡ t → modules_on_reply (modules_on_of s) ≡ modules_on_image image
    by_range true e = simp (own, sym says, e)
    by_range false e = simp (own, sym says, e)

-- too few numbers, or too many, are refused before the image is looked at
pub books_none :
    (image frame room books : List ℕ) → eqb (length books) book_numbers ≡ false →
    outcome (with_books (imaged (book_fault_number NotBooks) image) books) room ≡ step_books_image image frame room books
unfolding step_books_image
books_none image frame room books e = simp e

-- what a summary tells: its number, and its shares, zeros where it is refused
abbrev pub summed_number : Result (List ℕ) BookFault → ℕ
summed_number (Ok shares) = done
summed_number (Err fault) = book_fault_number fault

abbrev pub summed_shares : Result (List ℕ) BookFault → List ℕ
summed_shares (Ok shares) = shares
summed_shares (Err fault) = no_shares

-- a summary with no place for the shares, and any other, one that is refused too
module _ (books room : List ℕ) where
  pub summed_short : (eqb (summed_number (summary_of books)) 0 && ltb (length room) module_count) ≡ true → outcome no_room room ≡ summary_reply books room
  unfolding summary_reply
  summed_short = by (summary_of books)
    where
      by : (answer : Result (List ℕ) BookFault) → (eqb (summed_number answer) 0 && ltb (length room) module_count) ≡ true → outcome no_room room ≡ summed_to answer room
      by (Ok shares) e = rw e
      by (Err Full) e = absurd (true≢false (sym e))
      by (Err NotBooks) e = absurd (true≢false (sym e))

  pub summed_put :
      (room' : List ℕ) (n : ℕ) → (eqb (summed_number (summary_of books)) 0 && ltb (length room) module_count) ≡ false →
      n ≡ summed_number (summary_of books) → room' ≡ put_into (summed_shares (summary_of books)) room → outcome n room' ≡ summary_reply books room
  unfolding summary_reply
  summed_put room' n = by (summary_of books)
    where
      by :
          (answer : Result (List ℕ) BookFault) → (eqb (summed_number answer) 0 && ltb (length room) module_count) ≡ false →
          n ≡ summed_number answer → room' ≡ put_into (summed_shares answer) room → outcome n room' ≡ summed_to answer room
      by (Ok shares) e number puts = rw (e, number, puts)
      by (Err fault) e number puts = rw (number, puts)

-- bytes of another layout
module _ (image room : List ℕ) (nothing : fields_say image ≡ None) where
  other : has_layout image ≡ false
  other = says_nothing image nothing

  pub step_foreign : (frame : List ℕ) → outcome (imaged bad_state image) room ≡ step_image image frame room
  unfolding step_image loaded
  step_foreign frame = simp other

  pub pass_foreign : (frames : List ℕ) → outcome (imaged (reply bad_state 0) image) room ≡ pass_image image frames room
  unfolding pass_image loaded
  pass_foreign frames = simp other

  pub books_foreign :
      (frame books : List ℕ) → length books ≡ book_numbers → outcome (with_books (imaged bad_state image) books) room ≡ step_books_image image frame room books
  unfolding step_books_image loaded
  books_foreign frame books size = simp (other, eq-eqb (length books) book_numbers size)

  pub beacon_foreign : (form : Form) → outcome (Err BadState) room ≡ beacon_image form image room
  unfolding beacon_image loaded
  beacon_foreign form = simp other

-- bytes of the layout: the state that they say is worked, in range or not
module _ (image room : List ℕ) (s : State) (say : fields_say image ≡ Some s) where
  own : has_layout image ≡ true
  own = (says_state image s say).0

  says : s ≡ decoded image
  says = (says_state image s say).1

  pub size_said : length image ≡ image_bytes
  size_said = (layout image own).size

  pub beacon_worked : (form : Form) → beacon_of form s room ≡ beacon_image form image room
  unfolding beacon_image loaded
  beacon_worked form = by_range (in_range s) refl
    where
      by_range : (t : Bool) → in_range s ≡ t → beacon_of form s room ≡ beacon_image form image room
      by_range true e = simp (own, sym says, e)
      by_range false e = simp (own, sym says, e) (sym (beacon_outside form s room e))

  module _ (frame : List ℕ) (after : Stepped) (room' : List ℕ) (steps : outcome after room' ≡ step_of s frame room) where
    abbrev call : Call
    call = record { input = frame; room = room }

    answers : is_reported (step_of s frame room).result.answer ≡ is_reported after.answer
    answers = ap (λ o. is_reported o.result.answer) (sym steps)

    -- with a report, the state is in range before and after, and the image becomes the next state's
    module _ (reported : is_reported after.answer ≡ true) where
      valid : T (in_range s)
      valid = reported_valid s call (answers ∙ reported)

      pub both_in_range : (in_range s ≡ true) × (in_range after.state ≡ true)
      both_in_range = (
        is_true (in_range s) valid,
        ap (λ o. in_range o.result.state) steps ∙ is_true (in_range (called s call).result.state) (called_in_range s call valid),
      )

      pub step_reported : outcome (imaged (answer_number after.answer) (saved after.state)) room' ≡ step_image image frame room
      unfolding step_image loaded
      step_reported = ap stepped_to steps ∙ simp (own, sym says, is_true (in_range s) valid)

    -- with none, the image stays
    pub step_refused :
        AllBytes image → is_reported after.answer ≡ false → outcome (imaged (answer_number after.answer) image) room' ≡ step_image image frame room
    unfolding step_image loaded
    step_refused small refusal = by_range (in_range s) refl
      where
        by_range : (t : Bool) → in_range s ≡ t → outcome (imaged (answer_number after.answer) image) room' ≡ step_image image frame room
        by_range true e =
            let same : after.state ≡ s = ap (λ (o : Outcome Stepped). o.result.state) (steps ∙ refused_left s call (answers ∙ refusal)) in
            let kept : saved after.state ≡ image = ap saved (same ∙ says) ∙ saved_decoded image small (layout image own) in
            ap (λ l. outcome (imaged (answer_number after.answer) l) room') (sym kept) ∙ ap stepped_to steps ∙ simp (own, sym says, e)
        by_range false e =
            ap (λ o. outcome (imaged (answer_number o.result.answer) image) o.room) (steps ∙ step_outside s frame room e) ∙ simp (own, sym says, e)

  module _ (frame books : List ℕ) (size : length books ≡ book_numbers) (after : Booked) (room' books' : List ℕ)
      (steps : outcome (with_books after books') room' ≡ step_books_of s frame room books) where
    abbrev board : Board
    board = record { state = s; books = books }

    abbrev frame_call : Call
    frame_call = record { input = frame; room = room }

    sized : eqb (length books) book_numbers ≡ true
    sized = eq-eqb (length books) book_numbers size

    books_answer : is_book_reported (called_with board frame_call).result.result.answer ≡ is_book_reported after.answer
    books_answer = ap (λ o. is_book_reported o.result.result.answer) (sym steps)

    -- with a report, the state is in range before and after, and the image becomes the next state's
    module _ (reported : is_book_reported after.answer ≡ true) where
      books_valid : T (in_range s)
      books_valid = booked_valid board frame_call (books_answer ∙ reported)

      pub books_in_range : in_range after.state ≡ true
      books_in_range =
          ap (λ o. in_range o.result.result.state) steps
          ∙ is_true (in_range (board_after board frame_call).state) (booked_in_range board frame_call books_valid)

      pub books_reported :
          outcome (with_books (imaged (book_number after.answer) (saved after.state)) books') room' ≡ step_books_image image frame room books
      unfolding step_books_image loaded
      books_reported = ap booked_to steps ∙ simp (sized, own, sym says, is_true (in_range s) books_valid)

    -- with none, the image stays
    pub books_refused :
        AllBytes image → is_book_reported after.answer ≡ false →
        outcome (with_books (imaged (book_number after.answer) image) books') room' ≡ step_books_image image frame room books
    unfolding step_books_image loaded
    books_refused small refusal = by_range (in_range s) refl
      where
        by_range : (t : Bool) → in_range s ≡ t → outcome (with_books (imaged (book_number after.answer) image) books') room' ≡ step_books_image image frame room books
        by_range true e =
            let same : after.state ≡ s = ap (λ (o : Outcome (WithBooks Booked)). o.result.result.state) steps ∙ booked_left board frame_call (books_answer ∙ refusal) in
            let kept : saved after.state ≡ image = ap saved (same ∙ says) ∙ saved_decoded image small (layout image own) in
            ap (λ l. outcome (with_books (imaged (book_number after.answer) l) books') room') (sym kept) ∙ ap booked_to steps ∙ simp (sized, own, sym says, e)
        by_range false e =
            ap (λ (o : Outcome (WithBooks Booked)). outcome (with_books (imaged (book_number o.result.result.answer) image) o.result.books) o.room)
            (steps ∙ booked_outside board frame_call size e)
            ∙ simp (sized, own, sym says, e)

  module _ (frames : List ℕ) (after : Passed) (room' : List ℕ) (flies : outcome after room' ≡ pass_of s frames room) where
    counts : after.reported ≡ (pass_of s frames room).result.reported
    counts = ap (λ (o : Outcome Passed). o.result.reported) flies

    -- with a report or more, the state is in range before and after, and the image becomes that of the state after
    module _ (some : 0 < after.reported) where
      begins : in_range s ≡ true
      begins = by_range (in_range s) refl
        where
          by_range : (t : Bool) → in_range s ≡ t → in_range s ≡ true
          by_range true e = e
          by_range false e = absurd (omega (arith, counts, ap (λ (o : Outcome Passed). o.result.reported) (pass_outside s frames room e)))

      pub pass_in_range : in_range after.state ≡ true
      pass_in_range =
          ap (λ (o : Outcome Passed). in_range o.result.state) flies
          ∙ is_true (in_range (pass_of s frames room).result.state) (pass_keeps_range s frames room (holds (in_range s) begins))

      pub pass_worked : outcome (imaged (reply (answer_number after.answer) after.reported) (saved after.state)) room' ≡ pass_image image frames room
      unfolding pass_image loaded
      pass_worked = ap passed_to flies ∙ simp (own, sym says, begins)

    -- with none, the image stays
    pub pass_idles :
        AllBytes image → after.reported ≡ 0 → outcome (imaged (reply (answer_number after.answer) after.reported) image) room' ≡ pass_image image frames room
    unfolding pass_image loaded
    pass_idles small none = by_range (in_range s) refl
      where
        by_range : (t : Bool) → in_range s ≡ t → outcome (imaged (reply (answer_number after.answer) after.reported) image) room' ≡ pass_image image frames room
        by_range true e =
            let same : after.state ≡ s = ap (λ (o : Outcome Passed). o.result.state) flies ∙ pass_idle s (record { input = frames; room = room }) (sym counts ∙ none) in
            let kept : saved after.state ≡ image = ap saved (same ∙ says) ∙ saved_decoded image small (layout image own) in
            ap (λ l. outcome (imaged (reply (answer_number after.answer) after.reported) l) room') (sym kept) ∙ ap passed_to flies ∙ simp (own, sym says, e)
        by_range false e =
            ap (λ (o : Outcome Passed). outcome (imaged (reply (answer_number o.result.answer) o.result.reported) image) o.room) (flies ∙ pass_outside s frames room e)
            ∙ simp (own, sym says, e)

-- a call's outcome, told, is the outcome by its reply, where that is how each answer is told
pub told_by : {Refused : Type 0} (number_of : Refused → ℕ) (by : Result ℕ Refused → Reply)
    → ((given : Result ℕ Refused) → told number_of given ≡ by given) → {given : Result ℕ Refused} {room : List ℕ}
    {o : Outcome (Result ℕ Refused)} {r : Reply} → r ≡ told number_of given
    → outcome given room ≡ o → outcome r room ≡ replied by o
told_by number_of by same {given} e f = rw (e, same given) (ap (replied by) f)

pub key_told : (given : Result ℕ KeyFault) → told key_fault_number given ≡ key_reply given
key_told (Ok written) = refl
key_told (Err refusal) = refl

pub written_told : (given : Result ℕ WriteFault) → told fault_number given ≡ written_reply given
written_told (Ok written) = refl
written_told (Err refusal) = refl

read_told : (given : Result ℕ ReadFault) → told read_fault_number given ≡ read_reply given
read_told (Ok written) = refl
read_told (Err refusal) = refl

pub read_replied : {units room room' : List ℕ} (given : Result ℕ ReadFault) {r : Reply} → Read units room (outcome given room')
    → r ≡ told read_fault_number given → ReadReplied units room (outcome r room')
read_replied {room' = room'} given r e =
    record { heard = outcome given room'; read = r; same = told_by read_fault_number read_reply read_told e refl }

-- where the tracker's answer leaves set point and step, by its number: those that it hands back; refused, those that there were
pub tracked_by : {n : ℕ} (point : ℕ) (step : ℤ) (answer : Result Tracked OutOfRange) → n ≡ track_answer answer
    → tracks n (left_at point step answer).point (left_at point step answer).step ≡ tracked_to point step answer
tracked_by point step answer p = rw p

-- a call of the tracker that is refused leaves set point and step where they stand
pub tracks_stand :
    (volts_before amps_before volts_after amps_after point : ℕ) (step : ℤ) →
    (tracks_of volts_before amps_before volts_after amps_after point step).number ≡ 16 →
    ((tracks_of volts_before amps_before volts_after amps_after point step).point ≡ point)
    × ((tracks_of volts_before amps_before volts_after amps_after point step).step ≡ step)
unfolding tracks_of
tracks_stand volts_before amps_before volts_after amps_after point step =
    by
    (track_of
    (record { millivolts = volts_before; milliamperes = amps_before })
    (record { millivolts = volts_after; milliamperes = amps_after })
    point step)
  where
    by : (answer : Result Tracked OutOfRange) → (tracked_to point step answer).number ≡ 16 →
        ((tracked_to point step answer).point ≡ point) × ((tracked_to point step answer).step ≡ step)
    by (Ok tracked) e = absurd (omega (arith, e))
    by (Err refusal) e = (refl, refl)
