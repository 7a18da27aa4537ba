-- What two craft keep between them is kept by what comes before the module stage: ends, then control.
-- Assumes nothing.
use Prim.Native.Nat.{ℕ, ◌-◌, ◌<◌}
use mathlib.Core.Path.{◌≡◌, ap}
use mathlib.Core.Bool.{Bool, true, false}
use lib.Dec.{T, eqb}
use Rattle.basics.specs.Choice.{when◌then◌else◌}
use Rattle.modules.specs.Groups.{is_mission, module_count}
use Rattle.supervisor.specs.State.{module_at, end_at}
use Rattle.supervisor.specs.Tick.{before_modules}
use Rattle.supervisor.specs.Ending.{ended}
use Rattle.supervisor.specs.declared.state.State.{State}
use Rattle.supervisor.proofs.ModuleLaws.{ended_eight, at_ended, ended_end, mission_low}
use Rattle.promises.proofs.TwoControl.{Asked, Beside, controlled_beside}

-- what is requested after the end stage was so before it; and on the second craft, if its end is the same
not_over : (over r : Bool) → T (when over then false else r) → T r
not_over true r t = absurd t
not_over false r t = t

kept_grows : (over r r' : Bool) → (T r → T r') → T (when over then false else r) → T (when over then false else r')
kept_grows true r r' grows t = t
kept_grows false r r' grows t = grows t

over_grows : (e e' : ℕ) (r r' : Bool) → (T r → e ≡ e') → (T r → T r') → T (when eqb e 1 then false else r) → T (when eqb e' 1 then false else r')
over_grows e e' r r' same grows t = rw (← same (not_over (eqb e 1) r t)) (kept_grows (eqb e 1) r r' grows t)

-- ends: where they are equal, they are over together
module _ (i : ℕ) (mission : is_mission i ≡ true) where
  low : i < module_count
  low = mission_low i mission

  ended_beside : (a b : State) → Beside i a b → Beside i (ended a) (ended b)
  unfolding ended
  ended_beside a b h =
      let was : Asked a.watch.mode (module_at i a) (module_at i b) (end_at i a) (end_at i b) = h.flown.asked in
      let r : Bool = (module_at i a).requested in
      let r' : Bool = (module_at i b).requested in
      record {
        shared = h.shared;
        flown = record {
          modes = h.flown.modes;
          counts = h.flown.counts;
          eight = ended_eight a h.flown.eight;
          eight' = ended_eight b h.flown.eight';
          asked =
              rw (at_ended a i low, at_ended b i low, ended_end i a, ended_end i b)
              (record {
                quiet = λ t. was.quiet (not_over (eqb (end_at i a) 1) r t);
                grows = λ t. over_grows (end_at i a) (end_at i b) r r' was.ends was.grows t;
                ends = λ t. ap (λ (n : ℕ). n - 1) (was.ends (not_over (eqb (end_at i a) 1) r t));
              });
        };
      }

  -- so it is kept by what the module stage finds
  pub before_beside : (a b : State) → Beside i a b → Beside i (before_modules a) (before_modules b)
  unfolding before_modules
  before_beside a b h = controlled_beside i mission (ended a) (ended b) (ended_beside a b h)
