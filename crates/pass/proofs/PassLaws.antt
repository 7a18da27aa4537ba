-- Laws of a pass under way: what was done of it, and what is left, make up the whole.
-- Assumes nothing.
use Prim.Native.Nat.{ℕ, ◌+◌, ◌-◌, ◌*◌, ◌<◌, ◌≤◌}
use mathlib.Core.Path.{◌≡◌, refl, ap, sym, ◌∙◌}
use mathlib.Core.Bool.{Bool, true, false}
use mathlib.Core.List.{List, [], ◌∷◌, ◌++◌, append_assoc}
use native.Mathlib.Nat.{zero-add, add-zero, add_assoc}
use native.Mathlib.Omega.{arith}
use borrow.Author.Tests.{eqb-true, eqb-false}
use lib.Dec.{T, eqb}
use lib.ListN.{length, take, drop, length-append, length-drop, take-append-drop}
use lib.Seq.{length-take-le, take-append-add, drop-append-add}
use Rattle.basics.specs.Outcome.{Outcome, outcome}
use Rattle.basics.proofs.ChoiceLaws.{is_true}
use Rattle.basics.proofs.PartLaws.{part_from, lent_back, part_from_law, lent_back_law}
use Rattle.frames.specs.Answer.{is_reported}
use Rattle.frames.specs.Cut.{cut_of, front_bytes, front_of}
use Rattle.frames.specs.Kind.{report_bytes}
use Rattle.frames.specs.declared.answer.Answer.TheVariants.{Done, BadState}
use Rattle.frames.proofs.CutLaws.{length_front, front_within, front_some}
use Rattle.supervisor.specs.Range.{in_range}
use Rattle.supervisor.specs.Step.{step_of}
use Rattle.supervisor.specs.declared.state.State.{State}
use Rattle.supervisor.specs.declared.step.Stepped.{Stepped}
use Rattle.supervisor.proofs.HistoryLaws.{called_in_range}
use Rattle.supervisor.proofs.StepLaws.{step_written, refused_left}
use Rattle.pass.specs.Pass.{frames_in, stopped, ahead, in_order, pass_of, work_of}
use Rattle.pass.specs.declared.Passed.{Passed}
use Rattle.pass.specs.declared.Worked.{Worked}
use Rattle.pass.proofs.FramesLaws.{frames_none, frames_first}

-- the work of one frame is a step of the frame at the front
pub work_made :
    (s : State) (rest room : List ℕ) (bytes : ℕ) (stepped : Stepped) (later : List ℕ) → bytes ≡ front_bytes (cut_of rest) (length rest) →
    outcome stepped later ≡ step_of s (take bytes rest) room →
    outcome (record { answer = stepped.answer; state = stepped.state; bytes = bytes }) later ≡ work_of s rest room
unfolding work_of front_of
work_made s rest room bytes stepped later b k =
    let front : length (take bytes rest) ≡ bytes = length-take-le bytes rest (rw b (front_within rest)) in
    rw (← b, front) (rw (← k))

-- one frame of those in order: with a report the others follow, with none it stops there
module _ (s : State) (frame : List ℕ) (frames : List (List ℕ)) (room : List ℕ) where
  abbrev one : Outcome Stepped
  one = step_of s frame room

  pub order_follows :
      is_reported one.result.answer ≡ true →
      in_order s (frame ∷ frames) room ≡ ahead 1 one.room (in_order one.result.state frames (drop report_bytes one.room))
  unfolding in_order
  order_follows e = rw e

  pub order_stops : is_reported one.result.answer ≡ false → in_order s (frame ∷ frames) room ≡ stopped s one.result.answer room
  unfolding in_order
  order_stops e =
      let left = refused_left s (record { input = frame; room = room }) e in
      rw e (ap (λ (o : Outcome Stepped). stopped o.result.state o.result.answer o.room) left)

-- frames in order keep the state in range
next_in_range :
    (frame : List ℕ) (frames : List (List ℕ)) (s : State) (room : List ℕ) → T (in_range s) →
    ((s' : State) (room' : List ℕ) → T (in_range s') → T (in_range (in_order s' frames room').result.state)) →
    T (in_range (in_order s (frame ∷ frames) room).result.state)
next_in_range frame frames s room v others = by_answer (is_reported (step_of s frame room).result.answer) refl
  where
    by_answer : (t : Bool) → is_reported (step_of s frame room).result.answer ≡ t → T (in_range (in_order s (frame ∷ frames) room).result.state)
    by_answer true e =
        rw (order_follows s frame frames room e)
        (others (step_of s frame room).result.state (drop report_bytes (step_of s frame room).room) (called_in_range s (record { input = frame; room = room }) v))
    by_answer false e = rw (order_stops s frame frames room e) v

pub order_in_range : (frames : List (List ℕ)) (s : State) (room : List ℕ) → T (in_range s) → T (in_range (in_order s frames room).result.state)
unfolding in_order
order_in_range [] s room v = v
order_in_range (frame ∷ frames) s room v = next_in_range frame frames s room v (λ s' room' v'. order_in_range frames s' room' v')

-- a pass from a state out of range is refused with 1; from one in range it leaves one in range
pub pass_outside : (s : State) (input room : List ℕ) → in_range s ≡ false → pass_of s input room ≡ stopped s BadState room
unfolding pass_of
pass_outside s input room e = rw e

pub pass_keeps_range : (s : State) (input room : List ℕ) → T (in_range s) → T (in_range (pass_of s input room).result.state)
unfolding pass_of
pass_keeps_range s input room v = rw (is_true (in_range s) v) (order_in_range (frames_in input) s room v)

-- two stretches are one
pub ahead_both :
    (reports more : ℕ) (room later : List ℕ) (rest : Outcome Passed) → reports * report_bytes ≤ length room →
    ahead reports room (ahead more later rest) ≡ ahead (reports + more) (take (reports * report_bytes) room ++ later) rest
ahead_both reports more room later rest h =
    let front : length (take (reports * report_bytes) room) ≡ reports * report_bytes = length-take-le (reports * report_bytes) room h in
    let all : (reports + more) * report_bytes ≡ reports * report_bytes + more * report_bytes = omega arith in
    let both : take ((reports + more) * report_bytes) (take (reports * report_bytes) room ++ later) ≡ take (reports * report_bytes) room ++ take (more * report_bytes) later =
    rw all (rw front at (take-append-add (take (reports * report_bytes) room) later (more * report_bytes))) in
    rw (both, append_assoc, add_assoc reports more)

-- where a pass stands: what is used of the room lies within, and the bytes that are left make up the whole
pub record Underway (s₀ : State) (input room₀ : List ℕ) (s : State) (room left : List ℕ) (reports : ℕ) : Type 0 where
  pub reports_within : reports * report_bytes ≤ length room
  pub same_length : length room ≡ length room₀
  pub rest : ahead reports room (in_order s (frames_in left) (drop (reports * report_bytes) room)) ≡ pass_of s₀ input room₀

pub underway_start : (s : State) (input room : List ℕ) → in_range s ≡ true → Underway s input room s room input 0
unfolding pass_of
underway_start s input room e =
    record {
      reports_within = omega arith;
      same_length = refl;
      rest = simp (e, zero-add);
    }

module _ {s₀ : State} {input room₀ : List ℕ} {s : State} {room left : List ℕ} {reports : ℕ} (u : Underway s₀ input room₀ s room left reports) where
  -- no bytes are left
  pub underway_end : eqb (length left) 0 ≡ true → outcome (record { state = s; reported = reports; answer = Done }) room ≡ pass_of s₀ input room₀
  unfolding in_order
  underway_end h =
      let none : frames_in left ≡ [] = frames_none left (eqb-true (length left) 0 h) in
      simp (none, add-zero, take-append-drop) at u.rest

  -- some are: the frame at the front is worked, with the rest of the room
  abbrev spare : List ℕ
  spare = drop (reports * report_bytes) room

  abbrev after : Outcome Stepped
  after = step_of s (front_of left) spare

  module _ (some : eqb (length left) 0 ≡ false) (worked : Worked) (later : List ℕ)
      (k : outcome worked later ≡ work_of s left (part_from room (reports * report_bytes))) where
    bytes_left : 0 < length left
    bytes_left = omega (arith, eqb-false (length left) 0 some)

    made : outcome worked later ≡ work_of s left spare
    made = rw (part_from_law room (reports * report_bytes)) at k

    steps : outcome (record { answer = worked.answer; state = worked.state }) later ≡ after
    unfolding work_of
    steps = ap (λ (o : Outcome Worked). outcome (record { answer = o.result.answer; state = o.result.state }) o.room) made

    measures : worked.bytes ≡ length (front_of left)
    unfolding work_of
    measures = ap (λ (o : Outcome Worked). o.result.bytes) made

    answers : after.result.answer ≡ worked.answer
    answers = ap (λ (o : Outcome Stepped). o.result.answer) (sym steps)

    -- a frame has a byte or more, and lies within
    pub frame_within : (0 < worked.bytes) × (worked.bytes ≤ length left)
    frame_within = (rw measures (front_some left bytes_left), rw (measures, length_front left) (front_within left))

    pub report_within : is_reported worked.answer ≡ true → (reports + 1) * report_bytes ≤ length room
    report_within e =
        let fits : report_bytes ≤ length room - reports * report_bytes =
        rw (length-drop (reports * report_bytes) room) at ((step_written s (front_of left) spare).fits (rw answers e)) in
        omega (arith, u.reports_within)

    -- the room, and how long it is
    back : lent_back room (reports * report_bytes) later ≡ take (reports * report_bytes) room ++ later
    back = lent_back_law room (reports * report_bytes) later

    front_room : length (take (reports * report_bytes) room) ≡ reports * report_bytes
    front_room = length-take-le (reports * report_bytes) room u.reports_within

    length_back : length (take (reports * report_bytes) room ++ later) ≡ length room
    length_back =
        let same : length later ≡ length room - reports * report_bytes =
        ap (λ (o : Outcome Stepped). length o.room) steps ∙ (step_written s (front_of left) spare).same_length ∙ length-drop (reports * report_bytes) room in
        rw (length-append, front_room, same) (omega (arith, u.reports_within))

    -- the frames left are this one, and those that follow it
    frames : frames_in left ≡ front_of left ∷ frames_in (drop worked.bytes left)
    frames = rw measures (frames_first left bytes_left)

    -- with a report the pass goes on
    goes_on_law :
        is_reported worked.answer ≡ true →
        in_order s (frames_in left) spare ≡ ahead 1 later (in_order worked.state (frames_in (drop worked.bytes left)) (drop report_bytes later))
    goes_on_law e = rw (frames, order_follows s (front_of left) (frames_in (drop worked.bytes left)) spare (rw answers e), ← steps)

    -- the bytes after it
    pub rest_shorter : length (part_from left worked.bytes) < length left
    rest_shorter = rw (part_from_law left worked.bytes, length-drop) (omega (arith, frame_within))

    pub underway_frame :
        is_reported worked.answer ≡ true →
        Underway s₀ input room₀ worked.state (lent_back room (reports * report_bytes) later) (part_from left worked.bytes) (reports + 1)
    underway_frame e =
        let more : (reports + 1) * report_bytes ≡ reports * report_bytes + report_bytes = omega arith in
        let past : drop ((reports + 1) * report_bytes) (take (reports * report_bytes) room ++ later) ≡ drop report_bytes later =
        rw more (rw front_room at (drop-append-add (take (reports * report_bytes) room) later report_bytes)) in
        rw (back, part_from_law left worked.bytes)
        (record {
          reports_within = rw length_back (report_within e);
          same_length = length_back ∙ u.same_length;
          rest =
              rw past
              (sym (ahead_both reports 1 room later (in_order worked.state (frames_in (drop worked.bytes left)) (drop report_bytes later)) u.reports_within)
              ∙ ap (ahead reports room) (sym (goes_on_law e)) ∙ u.rest);
        })

    -- with none it stops before the frame
    stops : is_reported worked.answer ≡ false → in_order s (frames_in left) spare ≡ stopped worked.state worked.answer later
    stops e =
        let refusal = steps ∙ refused_left s (record { input = front_of left; room = spare }) (rw answers e) in
        let same : later ≡ spare = ap (λ (o : Outcome Stepped). o.room) refusal in
        let still : worked.state ≡ s = ap (λ (o : Outcome Stepped). o.result.state) refusal in
        rw (frames, order_stops s (front_of left) (frames_in (drop worked.bytes left)) spare (rw answers e), answers, same, still)

    pub underway_stop :
        is_reported worked.answer ≡ false →
        outcome (record { state = worked.state; reported = reports; answer = worked.answer }) (lent_back room (reports * report_bytes) later) ≡ pass_of s₀ input room₀
    underway_stop e = rw back (simp (stops e, add-zero) at u.rest)
