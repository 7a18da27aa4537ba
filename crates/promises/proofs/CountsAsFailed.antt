-- It counts as failed, proved; and the teams' own case, by computing.
-- Assumes nothing.
use Prim.Native.Nat.{ℕ, zero, suc, ◌+◌}
use native.Mathlib.Omega.{arith}
use mathlib.Core.Path.{◌≡◌, refl, sym, ap, ◌∙◌}
use mathlib.Core.Bool.{Bool, true, false, not}
use mathlib.Core.List.{List, [], ◌∷◌}
use lib.Dec.{T}
use Rattle.basics.specs.Choice.{when◌then◌else◌}
use Rattle.basics.proofs.ChoiceLaws.{is_true, holds, and_left, and_right, agreed}
use Rattle.modules.specs.Power.{switched, is_on}
use Rattle.modules.specs.declared.power.Power.{Power}
use Rattle.modules.specs.declared.power.Power.TheVariants.{Off, Failed}
use Rattle.supervisor.specs.State.{module_at}
use Rattle.supervisor.specs.History.{Call, called, after, about_of, done_tick, done_ticks}
use Rattle.supervisor.specs.declared.state.State.{State}
use Rattle.promises.specs.Deployment.{deployed}
use Rattle.promises.specs.ForAReason.{wanted_in}
use Rattle.promises.specs.TwoCraft.{shorted}
use Rattle.promises.specs.CountsAsFailed.{starts_or_shorts, starts_and_shorts, ComesTo, CountsAsFailed}
use Rattle.promises.proofs.Deployment.{stays_deployed}
use Rattle.promises.proofs.ForAReason.{second}
use Rattle.promises.proofs.OnlyTicks.{only_ticks}
use Rattle.promises.proofs.TriesFall.{fall, fails}

-- a tick of a module that is wanted, and short just if it is found on; and so many of them
abbrev started_or_shorted : Power → Power
started_or_shorted p = switched true (is_on p) p

unfoldable turns : ℕ → Power → Power
turns zero p = p
turns (suc n) p = turns n (started_or_shorted p)

-- one call, and n ticks after it
turns_after : (tick : Bool) (n : ℕ) (p : Power) → turns n (turns (when tick then 1 else 0) p) ≡ turns ((when tick then 1 else 0) + n) p
unfolding turns
turns_after true n p = let more : suc n ≡ 1 + n = omega arith in ap (λ (k : ℕ). turns k p) more
turns_after false n p = let same : n ≡ 0 + n = omega arith in ap (λ (k : ℕ). turns k p) same

module _ (i : ℕ) where
  abbrev power_in : State → Power
  power_in s = (module_at i s).power

  -- what is asked of a call
  abbrev asked : State → Call → Bool
  asked s c = when done_tick s c then starts_or_shorts i s c else true

  one_tick : (s : State) (c : Call) → T (deployed s) → T (done_tick s c) → T (starts_or_shorts i s c) → power_in (called s c).result.state ≡ started_or_shorted (power_in s)
  one_tick s c out d a =
      let p : Power = power_in s in
      let w : Bool = wanted_in (called s c).result.state i in
      let short : Bool = shorted i (about_of c) in
      let wanted : w ≡ true = is_true w (and_left w (when is_on p then short else not short) a) in
      let found : is_on p ≡ short = agreed (is_on p) short (and_right w (when is_on p then short else not short) a) in
      second i s c d out ∙ ap (λ b. switched b short p) wanted ∙ ap (λ b. switched true b p) (sym found)

  one_call :
      (s : State) (c : Call) → T (deployed s) → T (asked s c) → (tick : Bool) → done_tick s c ≡ tick →
      power_in (called s c).result.state ≡ turns (when done_tick s c then 1 else 0) (power_in s)
  unfolding turns
  one_call s c out a true e = rw e (one_tick s c out (holds (done_tick s c) e) (rw e at a))
  one_call s c out a false e = rw e (only_ticks.power i s c e)

  turned : (cs : List Call) (s : State) → T (deployed s) → T (starts_and_shorts i s cs) → power_in (after s cs) ≡ turns (done_ticks s cs) (power_in s)
  unfolding turns
  turned [] s out t = refl
  turned (c ∷ cs) s out t =
      let s' : State = (called s c).result.state in
      turned cs s' (stays_deployed s (c ∷ []) out) (and_right (asked s c) (starts_and_shorts i s' cs) t)
      ∙ ap (turns (done_ticks s' cs)) (one_call s c out (and_left (asked s c) (starts_and_shorts i s' cs) t) (done_tick s c) refl)
      ∙ turns_after (done_tick s c) (done_ticks s' cs) (power_in s)

comes_to : (ticks : ℕ) (from to : Power) → turns ticks from ≡ to → ComesTo ticks from to
comes_to ticks from to e i s cs out begins t many = turned i cs s out t ∙ ap (λ n. turns n (module_at i s).power) many ∙ ap (turns ticks) begins ∙ e

pub counts_as_failed : CountsAsFailed
unfolding turns switched
counts_as_failed = record { fall = fall; fails = fails; teams = comes_to 10 (Off 5) (Failed 600) refl; again = comes_to 602 (Failed 600) (Failed 600) refl }
