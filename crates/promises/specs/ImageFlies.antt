-- The image flies: what is promised of `step`, `pass` and `step_books` from the fresh state holds of what C calls, from
-- the image that `ems_fresh` writes.
-- Assumes nothing.
use Rattle.std.specs.Prelude.{ℕ, ◌≡◌, List, [], ◌∷◌, ◌++◌, length}
use Rattle.supervisor.specs.Fresh.{fresh_state}
use Rattle.supervisor.specs.History.{Call, called, after}
use Rattle.supervisor.specs.declared.state.State.{State}
use Rattle.pass.specs.Flight.{Pass, passed, calls_of}
use Rattle.books.specs.History.{Board, called_with, board_after}
use Rattle.books.specs.Plain.{unhalted}
use Rattle.flight.specs.Saving.{saved}
use Rattle.flight.specs.Calls.{imaged, fresh_image, stepped_to, step_image, passed_to, pass_image, booked_to, step_books_image}

-- what C hands over next: to `ems_step` one frame, to `ems_pass` a pass, to `ems_step_books` one frame and books
pub data Handed : Type 0 where
  frame : Call → Handed
  pass : Pass → Handed
  booked : (books : List ℕ) → Call → Handed

-- the image after them, each on the image that the one before left
abbrev pub image_after : (image : List ℕ) → List Handed → List ℕ
image_after image [] = image
image_after image (frame c ∷ hs) = image_after (step_image image c.input c.room).result.image hs
image_after image (pass p ∷ hs) = image_after (pass_image image p.input p.room).result.image hs
image_after image (booked books c ∷ hs) =
    image_after (step_books_image image c.input c.room books).result.result.image hs

-- a state, with books beside it
abbrev pub beside : (books : List ℕ) → State → Board
beside books s = record { state = s; books = books }

-- the flight that they come to; a call that its books halt is no part of it
abbrev pub flight_of : State → List Handed → List Call
flight_of s [] = []
flight_of s (frame c ∷ hs) = c ∷ flight_of (called s c).result.state hs
flight_of s (pass p ∷ hs) = calls_of s p ++ flight_of (passed s p).result.state hs
flight_of s (booked books c ∷ hs) =
    unhalted (beside books s) (c ∷ []) ++ flight_of (board_after (beside books s) c).state hs

-- after any of these from a state's image, the next one leaves the number (a pass its count too), the image, the room
-- and the books that `step`, `pass` or `step_books` gives after that flight from the state
pub record FliesFrom (s : State) : Type 0 where
  pub frames :
      (hs : List Handed) (c : Call) →
      step_image (image_after (saved s) hs) c.input c.room ≡ stepped_to (called (after s (flight_of s hs)) c)
  pub passes :
      (hs : List Handed) (p : Pass) →
      pass_image (image_after (saved s) hs) p.input p.room ≡ passed_to (passed (after s (flight_of s hs)) p)
  pub frames_booked :
      (hs : List Handed) (books : List ℕ) (c : Call) →
      step_books_image (image_after (saved s) hs) c.input c.room books
      ≡ booked_to (called_with (beside books (after s (flight_of s hs))) c)

-- the image's start, and its flight
pub record ImageFlies : Type 0 where
  -- `ems_fresh` writes the fresh state's image into 71 bytes
  pub start : (image : List ℕ) → length image ≡ 71 → fresh_image image ≡ imaged 0 (saved fresh_state)
  pub flies : FliesFrom fresh_state
