-- Control by its cases, with what was judged: level, upward, downward.
-- Assumes nothing.
use Prim.Native.Nat.{ℕ, ◌+◌, ◌<◌}
use native.Mathlib.Omega.{arith}
use mathlib.Core.Path.{◌≡◌, refl}
use mathlib.Core.Bool.{Bool, true, false}
use lib.Dec.{eqb, ltb, lit<}
use borrow.Author.Tests.{eqb-true, eqb-false, ltb-true}
use Rattle.std.specs.Prelude.{None, Some}
use Rattle.supervisor.specs.State.{with_control}
use Rattle.supervisor.specs.Range.{judge_ticks}
use Rattle.supervisor.specs.Control.{crossing_of, crossed, controlled}
use Rattle.supervisor.specs.declared.state.Mode.{Mode}
use Rattle.supervisor.specs.declared.state.Mode.TheVariants.{DeployWait, Recovery, Safe}
use Rattle.supervisor.specs.declared.state.State.{State}
use Rattle.supervisor.specs.declared.control.Crossing.TheVariants.{Upward, Downward}

-- this tick's count is 30: the mode is judged
abbrev pub IsJudged : State → Type 0
IsJudged s = s.watch.control + 1 ≡ judge_ticks

-- what control leaves. It stays: the count stays below 30, and if the mode was judged, it crosses nothing.
-- Upward and downward: the mode was judged, and by which comparison
pub data Controls (s : State) : Type 0 where
  level :
      (count : ℕ) → (s.watch.control < judge_ticks → count < judge_ticks) → (IsJudged s → crossing_of s.watch.mode s.battery ≡ None) →
      controlled s ≡ with_control count s → Controls s
  upward :
      IsJudged s → s.watch.mode ≡ Recovery → s.battery.ascend < s.battery.tension →
      controlled s ≡ crossed (Some Upward) (with_control 0 s) → Controls s
  downward :
      IsJudged s → s.watch.mode ≡ Safe → s.battery.tension < s.battery.descend →
      controlled s ≡ crossed (Some Downward) (with_control 0 s) → Controls s

module _ (s : State) where
  at_thirty :
      (m : Mode) → s.watch.mode ≡ m → (up down : Bool) → ltb s.battery.ascend s.battery.tension ≡ up →
      ltb s.battery.tension s.battery.descend ≡ down →
      eqb (s.watch.control + 1) judge_ticks ≡ true → Controls s
  unfolding controlled
  at_thirty (DeployWait phase) e up down u d t = level 0 (λ h. lit< tt) (λ j. rw e) (rw (t, e))
  at_thirty Recovery e true down u d t = upward (eqb-true _ _ t) e (ltb-true _ _ u) (rw (t, e, u))
  at_thirty Recovery e false down u d t = level 0 (λ h. lit< tt) (λ j. rw (e, u)) (rw (t, e, u))
  at_thirty Safe e up true u d t = downward (eqb-true _ _ t) e (ltb-true _ _ d) (rw (t, e, d))
  at_thirty Safe e up false u d t = level 0 (λ h. lit< tt) (λ j. rw (e, d)) (rw (t, e, d))

  by_count : (t : Bool) → eqb (s.watch.control + 1) judge_ticks ≡ t → Controls s
  unfolding controlled
  by_count true t = at_thirty s.watch.mode refl _ _ refl refl t
  by_count false t =
      level (s.watch.control + 1) (λ h. omega (arith, eqb-false (s.watch.control + 1) judge_ticks t))
      (λ j. absurd (eqb-false (s.watch.control + 1) judge_ticks t j)) (rw t)

  pub controls : Controls s
  controls = by_count (eqb (s.watch.control + 1) judge_ticks) refl
