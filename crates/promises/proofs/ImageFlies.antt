-- The image flies, proved: from any state in range, by one frame or pass after another.
-- Assumes nothing.
use Prim.Native.Nat.{ℕ}
use mathlib.Core.Path.{◌≡◌, refl, ap, sym, ◌∙◌}
use mathlib.Core.List.{List, [], ◌∷◌, ◌++◌}
use lib.Dec.{T}
use lib.ListN.{length}
use borrow.Author.Tests.{eq-eqb}
use Rattle.basics.specs.Outcome.{Outcome, Reply}
use Rattle.basics.proofs.ChoiceLaws.{is_true}
use Rattle.supervisor.specs.Range.{in_range}
use Rattle.supervisor.specs.Fresh.{fresh_state}
use Rattle.supervisor.specs.History.{Call, called, after}
use Rattle.supervisor.specs.declared.state.State.{State}
use Rattle.supervisor.proofs.ModuleLaws.{Eight}
use Rattle.supervisor.proofs.FreshLaws.{fresh_in_range, fresh_eight}
use Rattle.supervisor.proofs.HistoryLaws.{called_in_range, called_eight, after_eight, after_append}
use Rattle.pass.specs.Flight.{Pass, passed, calls_of}
use Rattle.pass.proofs.PassLaws.{pass_keeps_range}
use Rattle.pass.proofs.Flight.{pass_flies}
use Rattle.books.specs.Step.{WithBooks}
use Rattle.books.specs.History.{Board, called_with, board_after}
use Rattle.books.specs.Plain.{unhalted}
use Rattle.books.proofs.WaysLaws.{booked_in_range}
use Rattle.books.proofs.Plain.{plain_call}
use Rattle.flight.specs.Calls.{Imaged, imaged, fresh_image, stepped_to, step_image, passed_to, pass_image, booked_to, step_books_image}
use Rattle.flight.specs.Saving.{saved}
use Rattle.flight.proofs.Images.{step_image_law, pass_image_law, books_image}
use Rattle.promises.specs.ImageFlies.{Handed, frame, pass, booked, beside, image_after, flight_of, FliesFrom, ImageFlies}

fresh_written : (image : List ℕ) → length image ≡ 71 → fresh_image image ≡ imaged 0 (saved fresh_state)
unfolding fresh_image
fresh_written image e = simp (eq-eqb (length image) 71 e)

-- one frame, one pass, and one frame with books
module _ (s : State) (h : T (in_range s)) (n : Eight s) where
  one_frame : (c : Call) → step_image (saved s) c.input c.room ≡ stepped_to (called s c)
  one_frame c = step_image_law s (is_true (in_range s) h) n c.room c.input

  one_pass : (p : Pass) → pass_image (saved s) p.input p.room ≡ passed_to (passed s p)
  one_pass p = pass_image_law s (is_true (in_range s) h) n p.room p.input

  one_booked : (books : List ℕ) (c : Call) → step_books_image (saved s) c.input c.room books ≡ booked_to (called_with (beside books s) c)
  one_booked books c = books_image s (is_true (in_range s) h) n c.room c.input books

-- an image is that of the state after a flight, which has one
record Stands (image : List ℕ) (s : State) (flight : List Call) : Type 0 where
  image_of : image ≡ saved (after s flight)
  range : T (in_range (after s flight))
  eight : Eight (after s flight)

-- what is handed over next comes to some calls, and what follows goes on from there
goes_on_law :
    (hs : List Handed) (s next : State) (calls : List Call) (image : List ℕ) → next ≡ after s calls → image ≡ saved next →
    Stands (image_after (saved next) hs) next (flight_of next hs) → Stands (image_after image hs) s (calls ++ flight_of next hs)
goes_on_law hs s next calls image comes to rest =
    let flight : after s (calls ++ flight_of next hs) ≡ after next (flight_of next hs) =
    after_append calls (flight_of next hs) s ∙ ap (λ (t : State). after t (flight_of next hs)) (sym comes) in
    record {
      image_of = ap (λ (l : List ℕ). image_after l hs) to ∙ rest.image_of ∙ ap saved (sym flight);
      range = rw flight rest.range;
      eight = rw flight rest.eight;
    }

stands : (hs : List Handed) (s : State) → T (in_range s) → Eight s → Stands (image_after (saved s) hs) s (flight_of s hs)
stands [] s h n = record { image_of = refl; range = h; eight = n }
stands (frame c ∷ hs) s h n =
    let next : State = (called s c).result.state in
    goes_on_law hs s next (c ∷ []) (step_image (saved s) c.input c.room).result.image refl
    (ap (λ (o : Outcome (Imaged ℕ)). o.result.image) (one_frame s h n c))
    (stands hs next (called_in_range s c h) (called_eight s c n))
stands (pass p ∷ hs) s h n =
    let one = pass_flies s p in
    goes_on_law hs s (passed s p).result.state (calls_of s p) (pass_image (saved s) p.input p.room).result.image one
    (ap (λ (o : Outcome (Imaged Reply)). o.result.image) (one_pass s h n p))
    (stands hs (passed s p).result.state (pass_keeps_range s p.input p.room h) (rw one (after_eight (calls_of s p) s n)))
stands (booked books c ∷ hs) s h n =
    let b : Board = beside books s in
    let one : (board_after b c).state ≡ after s (unhalted b (c ∷ [])) = plain_call.flies b (c ∷ []) in
    goes_on_law hs s (board_after b c).state (unhalted b (c ∷ [])) (step_books_image (saved s) c.input c.room books).result.result.image one
    (ap (λ (o : Outcome (WithBooks (Imaged ℕ))). o.result.result.image) (one_booked s h n books c))
    (stands hs (board_after b c).state (booked_in_range b c h) (rw one (after_eight (unhalted b (c ∷ [])) s n)))

flies_from : (s : State) → T (in_range s) → Eight s → FliesFrom s
flies_from s h n =
    record {
      frames = λ hs c. let w = stands hs s h n in rw w.image_of (one_frame (after s (flight_of s hs)) w.range w.eight c);
      passes = λ hs p. let w = stands hs s h n in rw w.image_of (one_pass (after s (flight_of s hs)) w.range w.eight p);
      frames_booked = λ hs books c. let w = stands hs s h n in rw w.image_of (one_booked (after s (flight_of s hs)) w.range w.eight books c);
    }

pub image_flies : ImageFlies
image_flies = record { start = fresh_written; flies = flies_from fresh_state fresh_in_range fresh_eight }
