-- `tracker::Step::shift` meets its contract: past an end it stops, and within them it moves by the step.
use mathlib.Core.Path.{◌≡◌, sym, ap, ◌∙◌}
use lib.IntN.{ℤ, pos, ◌+ℤ◌}
use lib.Signed.{lt_z}
use native.Mathlib.Omega.{arith}
use mir.Syntax.{w32}
use mir.Val.{SFits, to_z, of_z}
use mir.Facts.{to_z-of_z, to_z_pos}
use borrow.Author.Rules.{rules}
use Rattle.basics.proofs.ChoiceLaws.{holds}
use Rattle.tracker.specs.Tracker.{most_millivolts}
use Rattle.tracker.proofs.TrackerLaws.{moved_above, moved_below, moved_inside}
use Rattle.tracker.proofs.SignedLaws.{sum_fits}
use Rattle.tracker.proofs.Step.shift.Goals as goal
use Rattle.tracker.proofs.Step.shift.Goals.{Start}

-- the step as the number that it is
step_is : (c : Start) → to_z w32 (of_z w32 c.args.self.millivolts) ≡ c.args.self.millivolts
step_is c = let fits : SFits w32 c.args.self.millivolts = search rules in to_z-of_z {w = w32} fits

-- where the two lead
abbrev target : Start → ℤ
target c = pos c.args.point +ℤ c.args.self.millivolts

to_is : (c : Start) → to_z w32 (of_z w32 (to_z w32 c.args.point +ℤ to_z w32 (of_z w32 c.args.self.millivolts))) ≡ target c
to_is c =
    let point_is = to_z_pos w32 {n = c.args.point} (omega (arith, c.requires)) in
    rw (point_is, step_is c) (to_z-of_z {w = w32} (sum_fits c.args.point c.args.self.millivolts c.requires (holds _ c.args.self.in_range)))

pub returns-then-to : goal.returns-then-to
returns-then-to c =
    let start = (goal.at.returns-then-to c).Start in
    c.stop_at.ensures ∙ sym (moved_above _ _ (ap (lt_z (pos most_millivolts)) (sym (to_is start)) ∙ c.if-to.true))

pub returns-then-to-lt0 : goal.returns-then-to-lt0
returns-then-to-lt0 c =
    let start = (goal.at.returns-then-to-lt0 c).Start in
    let not_above = ap (lt_z (pos most_millivolts)) (sym (to_is start)) ∙ c.if-to.false in
    let below = ap (λ (z : ℤ). lt_z z (pos 0)) (sym (to_is start)) ∙ c.if-to-lt0.true in
    c.stop_at-then-to-lt0.ensures ∙ sym (moved_below _ _ not_above below)

pub returns-else-to-lt0 : goal.returns-else-to-lt0
returns-else-to-lt0 c =
    let start = (goal.at.returns-else-to-lt0 c).Start in
    let not_above = ap (lt_z (pos most_millivolts)) (sym (to_is start)) ∙ c.if-to.false in
    let not_below = ap (λ (z : ℤ). lt_z z (pos 0)) (sym (to_is start)) ∙ c.if-to-lt0.false in
    rw (to_is start, step_is start) (sym (moved_inside _ _ not_above not_below))
