-- As many as are on, proved.
-- Assumes nothing.
use Prim.Native.Nat.{ℕ}
use mathlib.Core.Path.{◌≡◌, refl, sym, ap, ◌∙◌}
use mathlib.Core.Bool.{Bool, true, false, true≢false}
use lib.Count.{ones}
use lib.Dec.{T}
use Rattle.std.proofs.Common.{Ok}
use Rattle.basics.proofs.ChoiceLaws.{is_true, holds}
use Rattle.modules.specs.Masks.{count_on}
use Rattle.modules.specs.declared.masks.Masks.{Masks}
use Rattle.modules.proofs.MasksLaws.{ones_on}
use Rattle.frames.specs.Answer.{is_reported}
use Rattle.frames.specs.Greeting.{greeting_text}
use Rattle.frames.specs.declared.frame.Frame.TheVariants as frame
use Rattle.frames.proofs.AnswerLaws.{refusal}
use Rattle.supervisor.specs.State.{HasMasks}
use Rattle.supervisor.specs.Range.{in_range}
use Rattle.supervisor.specs.Fresh.{fresh_state}
use Rattle.supervisor.specs.Tick.{ticked}
use Rattle.supervisor.specs.Act.{act_of}
use Rattle.supervisor.specs.Report.{shown_in}
use Rattle.supervisor.specs.History.{Call, called, after}
use Rattle.supervisor.specs.declared.state.State.{State}
use Rattle.supervisor.proofs.RangeLaws.{parts}
use Rattle.supervisor.proofs.RangeKept.{ticked_in_range, acted_masks}
use Rattle.supervisor.proofs.FreshLaws.{fresh_in_range, fresh_eight}
use Rattle.supervisor.proofs.ReportLaws.{report_masks}
use Rattle.supervisor.proofs.HistoryLaws.{Comes, stopped, ticking, other, comes, after_in_range, after_eight}
use Rattle.counting.specs.Counting.{modules_on_of}
use Rattle.flight.specs.Calls.{modules_on_reply, modules_on_loaded, modules_on_image}
use Rattle.flight.proofs.LoadSave.{load_save}
use Rattle.promises.specs.Counted.{Reached, ShownWhere, Counts, Uncounted, Counted}

-- every state of a flight is in range
valid : Reached (λ s. T (in_range s))
valid cs = after_in_range cs fresh_state fresh_in_range

-- so its masks are true
kept : Reached HasMasks
kept cs = (parts (after fresh_state cs) (valid cs)).masks

shown_by : (s : State) (c : Call) → Comes s c → is_reported (called s c).result.answer ≡ true → shown_in (called s c).room ≡ (called s c).result.state.masks
shown_by s c (stopped a w) e = absurd (true≢false (sym e ∙ rw w.leaves (refusal a w.number)))
shown_by s c (ticking shorts w) e =
    rw w.leaves
    (report_masks (frame.Tick shorts) (ticked shorts s) c.room
    ∙ sym (parts (ticked shorts s).state (ticked_in_range shorts s w.valid)).masks)
shown_by s c (other f t w) e =
    rw w.leaves
    (report_masks f (act_of f (greeting_text c.input) s) c.room ∙ sym (acted_masks f (greeting_text c.input) w.fits s w.valid))

shown : ShownWhere is_reported
shown cs c e = shown_by (after fresh_state cs) c (comes (after fresh_state cs) c) e

counted : Reached (Counts (λ s. count_on s.modules))
unfolding modules_on_of
counted cs = rw (is_true (in_range (after fresh_state cs)) (valid cs))

by_ones_law : Reached (Counts (λ s. ones s.masks.on))
by_ones_law cs =
    let s = after fresh_state cs in
    let many : ones s.masks.on ≡ count_on s.modules = ap (λ (m : Masks). ones m.on) (kept cs) ∙ ones_on s.modules in
    counted cs ∙ ap (λ (n : ℕ). Ok n) (sym many)

refused : (s : State) → (HasMasks s → ⊥) → Uncounted s
unfolding modules_on_of
refused s untrue = by (in_range s) refl
  where
    by : (t : Bool) → in_range s ≡ t → Uncounted s
    by true e = absurd (untrue (parts s (holds (in_range s) e)).masks)
    by false e = rw e

pub as_counted : Counted
unfolding modules_on_image
as_counted =
    record {
      kept = kept;
      shown = shown;
      counted = counted;
      by_ones = by_ones_law;
      refused = refused;
      in_c = λ κs a x learnt cs e.
          let s = after fresh_state cs in
          learnt
          ∙ ap modules_on_image e
          ∙ ap modules_on_loaded (load_save s (is_true (in_range s) (valid cs)) (after_eight cs fresh_state fresh_eight))
          ∙ ap modules_on_reply (counted cs);
    }
