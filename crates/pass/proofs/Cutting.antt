-- The lot in two calls gives the same, if the first does all its frames.
-- Assumes nothing.
use Prim.Native.Nat.{ℕ, zero, suc, ◌+◌, ◌*◌, ◌<◌, ◌≤◌}
use mathlib.Core.Path.{◌≡◌, refl, ap, sym, ◌∙◌}
use mathlib.Core.Bool.{Bool, true, false, false≢true}
use mathlib.Core.List.{List, [], ◌∷◌, ◌++◌}
use native.Mathlib.Nat.{zero-add}
use native.Mathlib.Omega.{arith}
use lib.ListN.{length, take, drop, length-drop}
use lib.Seq.{length-take-le, drop-append-add, drop-append-le}
use Rattle.basics.proofs.ChoiceLaws.{is_true, holds}
use Rattle.frames.specs.Answer.{is_reported}
use Rattle.frames.specs.Cut.{front_of}
use Rattle.frames.specs.Kind.{report_bytes}
use Rattle.frames.specs.declared.answer.Answer.TheVariants.{Done}
use Rattle.frames.proofs.CutLaws.{front_append, front_some, length_front, front_within}
use Rattle.supervisor.specs.Range.{in_range}
use Rattle.supervisor.specs.Step.{step_of}
use Rattle.supervisor.specs.declared.state.State.{State}
use Rattle.supervisor.proofs.StepLaws.{step_written, reported_accepted}
use Rattle.pass.specs.Pass.{frames_in, ahead, in_order, pass_of}
use Rattle.pass.specs.Cutting.{then_pass, Cutting}
use Rattle.pass.proofs.FramesLaws.{rest_of, frames_none, frames_first}
use Rattle.pass.proofs.PassLaws.{ahead_both, order_follows, order_stops, order_in_range}

-- a frame of those in order that stops them gives an answer that is not 0
reported_if_all :
    (s : State) (frame : List ℕ) (frames : List (List ℕ)) (room : List ℕ) → (in_order s (frame ∷ frames) room).result.answer ≡ Done →
    is_reported (step_of s frame room).result.answer ≡ true
reported_if_all s frame frames room done = by_answer (is_reported (step_of s frame room).result.answer) refl
  where
    by_answer : (t : Bool) → is_reported (step_of s frame room).result.answer ≡ t → is_reported (step_of s frame room).result.answer ≡ true
    by_answer true e = e
    by_answer false e =
        let zero : (step_of s frame room).result.answer ≡ Done = rw (order_stops s frame frames room e) at done in
        absurd (false≢true (sym e ∙ ap is_reported zero))

-- frames in order, then others
order_append :
    (frames more : List (List ℕ)) (s : State) (room : List ℕ) → (in_order s frames room).result.answer ≡ Done →
    in_order s (frames ++ more) room
    ≡ ahead (in_order s frames room).result.reported (in_order s frames room).room
    (in_order (in_order s frames room).result.state more (drop ((in_order s frames room).result.reported * report_bytes) (in_order s frames room).room))
unfolding in_order
order_append [] more s room done = rw zero-add
order_append (frame ∷ frames) more s room done =
    let one = step_of s frame room in
    let e = reported_if_all s frame frames room done in
    let spare = drop report_bytes one.room in
    let rest = in_order one.result.state frames spare in
    let whole = order_follows s frame frames room e in
    let w = step_written s frame room in
    let fits : report_bytes ≤ length one.room = rw w.same_length (w.fits e) in
    let front : length (take report_bytes one.room) ≡ report_bytes = length-take-le report_bytes one.room fits in
    let all : (1 + rest.result.reported) * report_bytes ≡ report_bytes + rest.result.reported * report_bytes = omega arith in
    let past : drop ((1 + rest.result.reported) * report_bytes) (take report_bytes one.room ++ rest.room) ≡ drop (rest.result.reported * report_bytes) rest.room =
    rw all (rw front at (drop-append-add (take report_bytes one.room) rest.room (rest.result.reported * report_bytes))) in
    order_follows s frame (frames ++ more) room e
    ∙ ap (ahead 1 one.room) (order_append frames more one.result.state spare (rw whole at done))
    ∙ rw (whole, past)
    (ahead_both 1 rest.result.reported one.room rest.room
    (in_order rest.result.state more (drop (rest.result.reported * report_bytes) rest.room)) (omega arith))

-- the frames of bytes that are all done, then those of others: the first frame, if that is so of what follows it
next_frames :
    (input more : List ℕ) (s : State) (room : List ℕ) →
    ((s' : State) (room' : List ℕ) → length (rest_of input) < length input → (in_order s' (frames_in (rest_of input)) room').result.answer ≡ Done →
    frames_in (rest_of input ++ more) ≡ frames_in (rest_of input) ++ frames_in more) →
    (in_order s (frames_in input) room).result.answer ≡ Done → frames_in (input ++ more) ≡ frames_in input ++ frames_in more
next_frames [] more s room rest_too done = rw (frames_none [] refl)
next_frames (kind ∷ fields) more s room rest_too done =
    let input = kind ∷ fields in
    let some : 0 < length input = omega arith in
    let first = frames_first input some in
    let all : (in_order s (front_of input ∷ frames_in (rest_of input)) room).result.answer ≡ Done = rw first at done in
    let one = step_of s (front_of input) room in
    let e = reported_if_all s (front_of input) (frames_in (rest_of input)) room all in
    let same : front_of (input ++ more) ≡ front_of input = front_append input more (reported_accepted s (front_of input) room e) in
    let fits : length (front_of input) ≤ length input = rw (length_front input) (front_within input) in
    let rest : drop (length (front_of input)) (input ++ more) ≡ rest_of input ++ more = drop-append-le (length (front_of input)) input more fits in
    let less : length (rest_of input) < length input = rw (length-drop (length (front_of input)) input) (omega (arith, front_some input some)) in
    let others = rest_too one.result.state (drop report_bytes one.room) less (rw (order_follows s (front_of input) (frames_in (rest_of input)) room e) at all) in
    rw (frames_first (input ++ more) (omega arith), first, same, rest, others)

frames_append :
    (n : ℕ) (s : State) (input more room : List ℕ) → length input < n → (in_order s (frames_in input) room).result.answer ≡ Done →
    frames_in (input ++ more) ≡ frames_in input ++ frames_in more
frames_append zero s input more room h done = absurd (omega arith)
frames_append (suc n) s input more room h done =
    next_frames input more s room (λ s' room' less done'. frames_append n s' (rest_of input) more room' (omega arith) done') done

pub cutting : Cutting
unfolding pass_of
cutting s input more room done = by_range (in_range s) refl
  where
    by_range : (t : Bool) → in_range s ≡ t → pass_of s (input ++ more) room ≡ then_pass (pass_of s input room) more
    by_range true e =
        let all : (in_order s (frames_in input) room).result.answer ≡ Done = rw e at done in
        let kept : in_range (in_order s (frames_in input) room).result.state ≡ true =
        is_true (in_range (in_order s (frames_in input) room).result.state) (order_in_range (frames_in input) s room (holds (in_range s) e)) in
        rw (e, kept, frames_append (suc (length input)) s input more room (omega arith) all) (order_append (frames_in input) (frames_in more) s room all)
    by_range false e = absurd (false≢true (ap is_reported (rw e at done)))
