-- What the calls promise of every image: one that is the save of a state in range is worked as that state,
-- and any other bytes are refused with 1, with nothing moved; of a call with books, where 24 numbers are lent.
-- Assumes nothing.
use Prim.Native.Nat.{ℕ}
use mathlib.Core.Path.{◌≡◌, refl}
use mathlib.Core.Bool.{Bool, true, false}
use mathlib.Core.List.{List}
use Rattle.std.specs.Prelude.{Option, Some, None, Err}
use lib.Dec.{eqb}
use lib.ListN.{length}
use borrow.Author.Tests.{eq-eqb}
use Rattle.std.specs.Prelude.{Err}
use Rattle.basics.specs.Outcome.{outcome, reply}
use Rattle.supervisor.specs.Range.{in_range}
use Rattle.supervisor.specs.Step.{step_of}
use Rattle.supervisor.specs.declared.state.State.{State}
use Rattle.supervisor.proofs.ModuleLaws.{Eight}
use Rattle.pass.specs.Pass.{pass_of}
use Rattle.books.specs.Books.{book_numbers}
use Rattle.books.specs.Step.{with_books, step_books_of}
use Rattle.beacon.specs.Writing.{beacon_of}
use Rattle.supervisor.specs.declared.form.Form.{Form}
use Rattle.beacon.specs.declared.writing.WriteFault.TheVariants.{BadState}
use Rattle.flight.specs.Saving.{saved}
use Rattle.flight.specs.Loading.{loaded}
use Rattle.flight.specs.Calls.{imaged, bad_state, stepped_to, step_image, passed_to, pass_image, booked_to, step_books_image, beacon_image}
use Rattle.flight.proofs.FieldsLaws.{AllBytes}
use Rattle.flight.proofs.LoadSave.{load_save, save_load, loaded_in_range}

-- the image of a state in range is worked as that state
module _ (s : State) (e : in_range s ≡ true) (eight : Eight s) (room : List ℕ) where
  pub step_image_law : (frame : List ℕ) → step_image (saved s) frame room ≡ stepped_to (step_of s frame room)
  unfolding step_image
  step_image_law frame = simp (load_save s e eight)

  pub pass_image_law : (frames : List ℕ) → pass_image (saved s) frames room ≡ passed_to (pass_of s frames room)
  unfolding pass_image
  pass_image_law frames = simp (load_save s e eight)

  -- also with numbers that are no books
  pub books_image : (frame books : List ℕ) → step_books_image (saved s) frame room books ≡ booked_to (step_books_of s frame room books)
  unfolding step_books_image step_books_of
  books_image frame books = by (eqb (length books) book_numbers) refl
    where
      by : (sized : Bool) → eqb (length books) book_numbers ≡ sized → step_books_image (saved s) frame room books ≡ booked_to (step_books_of s frame room books)
      by true f = simp (f, load_save s e eight)
      by false f = simp f

  pub beacon_image_law : (form : Form) → beacon_image form (saved s) room ≡ beacon_of form s room
  unfolding beacon_image
  beacon_image_law form = simp (load_save s e eight)

-- bytes that are the save of no state in range
module _ (image room : List ℕ) (small : AllBytes image) (never : (s : State) → in_range s ≡ true → saved s ≡ image → ⊥) where
  no_state : loaded image ≡ None
  no_state = by_state (loaded image) refl
    where
      by_state : (o : Option State) → loaded image ≡ o → o ≡ None
      by_state None e = refl
      by_state (Some s) e = absurd (never s (loaded_in_range image s e) (save_load image s e small))

  pub step_bad : (frame : List ℕ) → step_image image frame room ≡ outcome (imaged bad_state image) room
  unfolding step_image
  step_bad frame = simp no_state

  pub pass_bad : (frames : List ℕ) → pass_image image frames room ≡ outcome (imaged (reply bad_state 0) image) room
  unfolding pass_image
  pass_bad frames = simp no_state

  pub books_bad :
      (frame books : List ℕ) → length books ≡ book_numbers → step_books_image image frame room books ≡ outcome (with_books (imaged bad_state image) books) room
  unfolding step_books_image
  books_bad frame books size = simp (eq-eqb (length books) book_numbers size, no_state)

  pub beacon_bad : (form : Form) → beacon_image form image room ≡ outcome (Err BadState) room
  unfolding beacon_image
  beacon_bad form = simp no_state
