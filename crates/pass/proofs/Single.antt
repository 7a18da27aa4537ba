-- A pass is the same as single calls in order.
-- Assumes nothing.
use Prim.Native.Nat.{ℕ, suc, ◌+◌, ◌-◌, ◌*◌, ◌<◌, ◌≤◌}
use mathlib.Core.Path.{◌≡◌, refl, ap, sym, ◌∙◌}
use mathlib.Core.Bool.{Bool, true, false}
use mathlib.Core.List.{List, [], ◌∷◌, ◌++◌, append_assoc}
use native.Mathlib.Omega.{arith}
use borrow.Author.Tests.{leb-true, leb-false}
use lib.Dec.{T, leb}
use lib.ListN.{length, take, drop, length-append, length-drop}
use lib.Seq.{length-take-le, drop-drop}
use Rattle.basics.specs.Outcome.{Outcome}
use Rattle.basics.proofs.ChoiceLaws.{is_true}
use Rattle.frames.specs.Answer.{is_reported}
use Rattle.frames.specs.Kind.{report_bytes}
use Rattle.frames.specs.declared.answer.Answer.{Answer}
use Rattle.supervisor.specs.Range.{in_range}
use Rattle.supervisor.specs.Step.{step_of}
use Rattle.supervisor.specs.History.{Call, called, Roomy}
use Rattle.supervisor.specs.declared.state.State.{State}
use Rattle.supervisor.specs.declared.step.Stepped.{Stepped}
use Rattle.supervisor.proofs.HistoryLaws.{called_in_range}
use Rattle.supervisor.proofs.StepLaws.{step_written, Alike, step_alike, step_short}
use Rattle.pass.specs.Pass.{stopped, ahead, in_order, pass_of}
use Rattle.pass.specs.Single as single
use Rattle.pass.specs.Single.{inputs_of, reports_of, Stops, Does, AsSingleCalls}
use Rattle.pass.specs.declared.Passed.{Passed}
use Rattle.pass.proofs.PassLaws.{order_follows, order_stops}

-- a pass that stops before the first call
stopped_does :
    (s : State) (c : Call) (cs : List Call) (room : List ℕ) {answer : Answer} → Stops s (length room - 0 * report_bytes) (c ∷ cs) answer →
    Does s (c ∷ cs) room (stopped s answer room)
stopped_does s c cs room w = record { count = omega arith; reported = tt; state = refl; reports = refl; stops = w }

-- one that goes on after it
follows_does :
    (s : State) (c : Call) (cs : List Call) (room : List ℕ) (one : Outcome Stepped) (rest : Outcome Passed) →
    is_reported (called s c).result.answer ≡ true → report_bytes ≤ length room → length one.room ≡ length room →
    take report_bytes one.room ≡ take report_bytes (called s c).room → drop report_bytes one.room ≡ drop report_bytes room →
    Does (called s c).result.state cs (drop report_bytes one.room) rest → Does s (c ∷ cs) room (ahead 1 one.room rest)
follows_does s c cs room one rest e fits long report past d =
    let n = rest.result.reported in
    let more : 1 + n ≡ suc n = omega arith in
    let made = reports_of (called s c).result.state (take n cs) in
    let eleven : length (take report_bytes (called s c).room) ≡ report_bytes = ap length (sym report) ∙ length-take-le report_bytes one.room (rw long fits) in
    let all : length (take report_bytes (called s c).room ++ made) ≡ report_bytes + length made = rw (length-append, eleven) in
    let left : length (drop report_bytes one.room) - n * report_bytes ≡ length room - suc n * report_bytes =
    rw (length-drop report_bytes one.room, long) (omega arith) in
    rw more
    (record {
      count = omega (arith, d.count);
      reported = (e, d.reported);
      state = d.state;
      reports = rw (report, d.reports, past, all, drop-drop (length made) report_bytes room, append_assoc);
      stops = rw (← left) d.stops;
    })

module _ (s : State) (c : Call) (cs : List Call) (room : List ℕ) (v : T (in_range s)) (roomy : report_bytes ≤ length c.room)
    (others : (s' : State) (room' : List ℕ) → T (in_range s') → Does s' cs room' (in_order s' (inputs_of cs) room')) where
  abbrev one : Outcome Stepped
  one = step_of s c.input room

  -- there is room: by whether the call gets a report
  module _ (h : report_bytes ≤ length room) where
    alike : Alike one (called s c)
    alike = step_alike s room c.room c.input h roomy

    by_report : (t : Bool) → is_reported (called s c).result.answer ≡ t → Does s (c ∷ cs) room (in_order s (inputs_of (c ∷ cs)) room)
    by_report true e =
        let w = step_written s c.input room in
        let reported : is_reported one.result.answer ≡ true = rw alike.result e in
        rw (order_follows s c.input (inputs_of cs) room reported)
        (follows_does s c cs room one (in_order one.result.state (inputs_of cs) (drop report_bytes one.room)) e h w.same_length (alike.report reported) w.past
        (rw alike.result (others (called s c).result.state (drop report_bytes one.room) (called_in_range s c v))))
    by_report false e =
        rw (order_stops s c.input (inputs_of cs) room (rw alike.result e), alike.result)
        (stopped_does s c cs room (single.Stops.refused (omega arith) e))

  by_room : (t : Bool) → leb report_bytes (length room) ≡ t → Does s (c ∷ cs) room (in_order s (inputs_of (c ∷ cs)) room)
  by_room true t = by_report (leb-true report_bytes (length room) t) (is_reported (called s c).result.answer) refl
  by_room false t =
      let short : length room < report_bytes = leb-false report_bytes (length room) t in
      let refusal = step_short s c.input room v short in
      rw (order_stops s c.input (inputs_of cs) room (rw refusal refl), refusal) (stopped_does s c cs room (single.Stops.full (λ h. omega arith)))

  next_does : Does s (c ∷ cs) room (in_order s (inputs_of (c ∷ cs)) room)
  next_does = by_room (leb report_bytes (length room)) refl

order_does : (cs : List Call) (s : State) (room : List ℕ) → T (in_range s) → Roomy cs → Does s cs room (in_order s (inputs_of cs) room)
unfolding in_order
order_does [] s room v r = record { count = omega arith; reported = tt; state = refl; reports = refl; stops = single.Stops.none }
order_does (c ∷ cs) s room v r = next_does s c cs room v r.0 (λ s' room' v'. order_does cs s' room' v' r.1)

pub as_single_calls : AsSingleCalls
unfolding pass_of
as_single_calls s input room cs v inputs roomy = rw (is_true (in_range s) v, ← inputs) (order_does cs s room v roomy)
