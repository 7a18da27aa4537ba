-- Laws of entries: what an entry counts lies within the bytes and the room.
-- Assumes nothing.
use Rattle.std.proofs.Common.{◌≡◌, ℕ, ◌<◌, ◌≤◌, Bool, true, false, leb, Option, unwrap_or, List, length, take, replicate, Result, Ok, Err, refl, sym, le_refl, arith, length-append, length-drop, length-take-le, leb-true}
use Rattle.basics.specs.Outcome.{Outcome, outcome}
use Rattle.basics.proofs.ChoiceLaws.{either, decided}
use Rattle.frames.specs.Answer.{is_reported}
use Rattle.frames.specs.Kind.{report_bytes}
use Rattle.frames.specs.Cut.{cut_of}
use Rattle.frames.specs.declared.answer.Answer.{Answer}
use Rattle.frames.specs.declared.cut.Uncut.{Uncut}
use Rattle.frames.specs.declared.cut.Uncut.TheVariants as uncut
use Rattle.frames.proofs.CutLaws.{FrontWithin, cut_within}
use Rattle.supervisor.specs.declared.state.State.{State}
use Rattle.supervisor.specs.Step.{step_of}
use Rattle.frame_log.specs.declared.entry.Log.{Log}
use Rattle.frame_log.specs.declared.entry.Entry.{Entry}
use Rattle.frame_log.specs.declared.entry.Entry.TheVariants.{Line, Last, More, Full}
use Rattle.frame_log.specs.Line.{longest, placed, line_of, refused_line}
use Rattle.frame_log.specs.declared.entry.Entered.{Entered}
use Rattle.frame_log.specs.Entry.{goes_on, ends, printed, worked, entered_at, enter_of}
use Rattle.frame_log.proofs.LineLaws.{length_line, length_refused}

-- a frame is not empty and stands in the bytes, and a line in the room
abbrev pub Within : Entry → (bytes room : ℕ) → Type 0
Within (Line frame line) bytes room = (0 < frame) × (frame ≤ bytes) × (line ≤ room)
Within (Last line) bytes room = line ≤ room
Within More bytes room = Unit {0}
Within Full bytes room = Unit {0}

count_within : (text room : List ℕ) → length text ≤ longest → longest ≤ length room → unwrap_or (placed text room).result 0 ≤ length room
unfolding placed
count_within text room h l =
    either (λ (o : Outcome (Option ℕ)). unwrap_or o.result 0 ≤ length room) (leb longest (length room)) (omega arith) (omega arith)

module _ (log : Log) (room : List ℕ) (fits : longest ≤ length room) where
  printed_within :
      (answer : Answer) (s : State) (report frame : List ℕ) (bytes : ℕ) → 0 < length frame → length frame ≤ bytes →
      Within (printed answer s report log frame room).result.entry bytes (length room)
  printed_within answer s report frame bytes some h =
      either (λ (o : Outcome Entered). Within o.result.entry bytes (length room)) (is_reported answer)
      {x = goes_on (placed (line_of log.n report) room) (length frame) s log}
      {y = ends (placed (refused_line log.n answer) room) log}
      (some, h, count_within _ room (length_line _ _) fits)
      (count_within _ room (length_refused _ _) fits)

  worked_within : (frame : List ℕ) (bytes : ℕ) → 0 < length frame → length frame ≤ bytes → Within (worked log frame room).result.entry bytes (length room)
  unfolding worked
  worked_within frame bytes some h =
      let step = step_of log.state frame (replicate report_bytes 0) in
      printed_within step.result.answer step.result.state step.room frame bytes some h

  entered_within :
      (f : Result ℕ Uncut) (bytes : List ℕ) (ended : Bool) → FrontWithin f (length bytes) →
      Within (entered_at f log bytes ended room).result.entry (length bytes) (length room)
  entered_within (Ok total) bytes ended h =
      let e : length (take total bytes) ≡ total = length-take-le total bytes h.1 in
      worked_within (take total bytes) (length bytes) (rw e h.0) (rw e h.1)
  entered_within (Err uncut.Unknown) bytes ended h = worked_within bytes (length bytes) h (le_refl (length bytes))
  entered_within (Err uncut.Short) bytes true h = worked_within bytes (length bytes) h (le_refl (length bytes))
  entered_within (Err uncut.Short) bytes false h = tt
  entered_within (Err uncut.Empty) bytes ended h = tt

pub enter_within : (log : Log) (bytes : List ℕ) (ended : Bool) (room : List ℕ) → Within (enter_of log bytes ended room).result.entry (length bytes) (length room)
unfolding enter_of
enter_within log bytes ended room =
    decided (λ (o : Outcome Entered). Within o.result.entry (length bytes) (length room)) (leb longest (length room))
    (λ t. entered_within log room (leb-true longest (length room) t) (cut_of bytes) bytes ended (cut_within bytes)) (λ t. tt)

-- an entry leaves the room as long as it was
placed_length : (text room : List ℕ) → length text ≤ longest → length (placed text room).room ≡ length room
unfolding placed
placed_length text room h =
    decided (λ (o : Outcome (Option ℕ)). length o.room ≡ length room) (leb longest (length room))
    (λ t. rw (length-append, length-drop) (omega (arith, leb-true longest (length room) t))) (λ t. refl)

module _ (log : Log) (room : List ℕ) where
  printed_length : (answer : Answer) (s : State) (report frame : List ℕ) → length (printed answer s report log frame room).room ≡ length room
  printed_length answer s report frame =
      either (λ (o : Outcome Entered). length o.room ≡ length room) (is_reported answer)
      {x = goes_on (placed (line_of log.n report) room) (length frame) s log}
      {y = ends (placed (refused_line log.n answer) room) log}
      (placed_length _ room (length_line _ _)) (placed_length _ room (length_refused _ _))

  worked_length : (frame : List ℕ) → length (worked log frame room).room ≡ length room
  unfolding worked
  worked_length frame =
      let step = step_of log.state frame (replicate report_bytes 0) in
      printed_length step.result.answer step.result.state step.room frame

  entered_length : (f : Result ℕ Uncut) (bytes : List ℕ) (ended : Bool) → length (entered_at f log bytes ended room).room ≡ length room
  entered_length (Ok total) bytes ended = worked_length (take total bytes)
  entered_length (Err uncut.Unknown) bytes ended = worked_length bytes
  entered_length (Err uncut.Short) bytes true = worked_length bytes
  entered_length (Err uncut.Short) bytes false = refl
  entered_length (Err uncut.Empty) bytes ended = refl

pub enter_length : (log : Log) (bytes : List ℕ) (ended : Bool) (room : List ℕ) → length (enter_of log bytes ended room).room ≡ length room
unfolding enter_of
enter_length log bytes ended room =
    either (λ (o : Outcome Entered). length o.room ≡ length room) (leb longest (length room))
    {x = entered_at (cut_of bytes) log bytes ended room} (entered_length log room (cut_of bytes) bytes ended) refl

-- a whole frame at the front has all its bytes
pub frame_whole : (bytes : List ℕ) (total : ℕ) → cut_of bytes ≡ Ok total → total ≡ length (take total bytes)
frame_whole bytes total e = sym (length-take-le total bytes (rw e at (cut_within bytes)).1)

-- what an entry counts, where the stream and the room are parts
module _ (log : Log) (bytes : List ℕ) (ended : Bool) (room : List ℕ) {entered : Entered} {later : List ℕ} where
  pub line_within :
      {frame line : ℕ} → outcome entered later ≡ enter_of log bytes ended room → entered.entry ≡ Line frame line →
      (0 < frame) × (frame ≤ length bytes) × (line ≤ length room)
  line_within k e = rw e at (rw (← k) at (enter_within log bytes ended room))

  pub last_within : {line : ℕ} → outcome entered later ≡ enter_of log bytes ended room → entered.entry ≡ Last line → line ≤ length room
  last_within k e = rw e at (rw (← k) at (enter_within log bytes ended room))
