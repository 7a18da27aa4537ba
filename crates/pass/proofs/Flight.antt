-- A pass is a flight.
-- Assumes nothing.
use Prim.Native.Nat.{ℕ}
use mathlib.Core.Path.{◌≡◌, refl, ap, sym, ◌∙◌}
use mathlib.Core.Bool.{Bool, true, false}
use mathlib.Core.List.{List, [], ◌∷◌}
use native.Mathlib.Nat.{le_refl}
use Rattle.basics.proofs.ChoiceLaws.{holds}
use Rattle.frames.specs.Kind.{report_bytes}
use Rattle.supervisor.specs.Range.{in_range}
use Rattle.supervisor.specs.History.{after, Roomy}
use Rattle.supervisor.specs.declared.state.State.{State}
use Rattle.supervisor.proofs.HistoryLaws.{after_append, roomy_append, take_roomy}
use Rattle.pass.specs.Pass.{frames_in}
use Rattle.pass.specs.Single.{inputs_of}
use Rattle.pass.specs.Flight.{Pass, passed, singles, calls_of, flown, PassesFly}
use Rattle.pass.proofs.PassLaws.{pass_outside}
use Rattle.pass.proofs.Single.{as_single_calls}

inputs_singles : (frames : List (List ℕ)) → inputs_of (singles frames) ≡ frames
inputs_singles [] = refl
inputs_singles (frame ∷ frames) = ap (λ more. frame ∷ more) (inputs_singles frames)

roomy_singles : (frames : List (List ℕ)) → Roomy (singles frames)
roomy_singles [] = tt
roomy_singles (frame ∷ frames) = (le_refl report_bytes, roomy_singles frames)

-- a pass from a state out of range leaves it
outside : (s : State) (p : Pass) → in_range s ≡ false → (passed s p).result.state ≡ after s (calls_of s p)
outside s p e = rw (pass_outside s p.input p.room e)

-- one pass
pub pass_flies : (s : State) (p : Pass) → (passed s p).result.state ≡ after s (calls_of s p)
pass_flies s p = by_range (in_range s) refl
  where
    by_range : (t : Bool) → in_range s ≡ t → (passed s p).result.state ≡ after s (calls_of s p)
    by_range true e =
        (as_single_calls s p.input p.room (singles (frames_in p.input)) (holds (in_range s) e)
        (inputs_singles (frames_in p.input)) (roomy_singles (frames_in p.input))).state
    by_range false e = outside s p e

-- a pass that does nothing leaves the state
pub pass_idle : (s : State) (p : Pass) → (passed s p).result.reported ≡ 0 → (passed s p).result.state ≡ s
pass_idle s p e = rw e at (pass_flies s p)

pub passes_fly : PassesFly
passes_fly s [] = record { state = refl; roomy = tt }
passes_fly s (p ∷ ps) =
    let rest = passes_fly (passed s p).result.state ps in
    let one = pass_flies s p in
    record {
      state = rest.state ∙ ap (λ (t : State). after t (flown (passed s p).result.state ps)) one ∙ sym (after_append (calls_of s p) (flown (passed s p).result.state ps) s);
      roomy =
          roomy_append (calls_of s p) (flown (passed s p).result.state ps)
          (take_roomy (passed s p).result.reported (singles (frames_in p.input)) (roomy_singles (frames_in p.input))) rest.roomy;
    }
