-- `flight::calls::ems_track` meets its contract: done, the tracker's set point and step; refused, those that came.
use Prim.Native.Nat.{ℕ}
use mathlib.Core.Path.{ap, ◌∙◌}
use mir.Syntax.{w32}
use mir.Val.{SFits}
use mir.Facts.{to_z-of_z}
use borrow.Author.Rules.{rules}
use Rattle.tracker.specs.Tracker.{track_of}
use Rattle.flight.specs.Calls.{tracks, tracked_to, tracks_of}
use Rattle.flight.proofs.calls.ems_track.Goals as goal
use Rattle.flight.proofs.calls.ems_track.Goals.{After-track}

-- the step that came is a number that an `i32` holds
step_fits : (c : After-track) → SFits w32 c.args.step.now
step_fits c = search rules

pub returns-in-Ok : goal.returns-in-Ok
unfolding tracks_of
returns-in-Ok c =
    let next_fits : SFits w32 c.in-Ok.tracked.step = search rules in
    let start = (goal.at.returns-in-Ok c).After-track in
    rw (to_z-of_z {w = w32} next_fits)
    (ap (tracked_to c.args.set_point.now c.args.step.now) (c.in-Ok.ensures ∙ ap (track_of _ _ _) (to_z-of_z {w = w32} (step_fits start))))

pub returns-in-Err : goal.returns-in-Err
unfolding tracks_of
returns-in-Err c =
    let start = (goal.at.returns-in-Err c).After-track in
    ap (λ (n : ℕ). tracks n c.args.set_point.now c.args.step.now) c.number.ensures
    ∙ ap (tracked_to c.args.set_point.now c.args.step.now) (c.in-Err.ensures ∙ ap (track_of _ _ _) (to_z-of_z {w = w32} (step_fits start)))
