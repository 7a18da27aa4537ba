-- `tracker::track` meets its contract: in range it moves by the step that the powers say; else it is refused.
use mathlib.Core.Path.{◌≡◌, sym, ◌∙◌}
use mathlib.Core.Bool.{true, false}
use mir.Syntax.{w32}
use mir.Facts.{to_z-of_z}
use Rattle.std.proofs.lemmas.Bool.{and_left, and_right}
use Rattle.tracker.specs.Tracker.{is_step, in_range}
use Rattle.tracker.proofs.TrackerLaws.{track_done, track_refused}
use Rattle.tracker.proofs.track.Goals as goal

pub returns-in-None : goal.returns-in-None
returns-in-None c =
    let outside : is_step c.args.step ≡ false = rw (to_z-of_z {w = w32} c.ranges.step) at c.in-None.ensures in
    sym (track_refused _ _ _ _ (and_right _ _ outside))

pub returns-in-Some : goal.returns-in-Some
returns-in-Some c =
    let step_is : c.in-Some.step.millivolts ≡ c.args.step = c.in-Some.ensures ∙ to_z-of_z {w = w32} c.ranges.step in
    let is_step_law : is_step c.args.step ≡ true = rw step_is at c.in-Some.step.in_range in
    let readings = rw (c.in_range.ensures, c.in_range-2.ensures) at c.if-not-in_range-set_point.false in
    let inside : in_range c.args.before c.args.after c.args.set_point c.args.step ≡ true = simp (is_step_law, readings) in
    rw (c.shift.ensures, c.heading.ensures, step_is) (sym (track_done c.args.before c.args.after c.args.set_point c.args.step inside))

pub returns-then-not-in_range-set_point : goal.returns-then-not-in_range-set_point
returns-then-not-in_range-set_point c =
    let outside = rw (c.in_range.ensures, c.in_range-2.ensures) at c.if-not-in_range-set_point.true in
    sym (track_refused _ _ _ _ (and_left _ _ outside))
