-- A hair more than cutting promises is false.
-- Assumes nothing.
use mathlib.Core.Path.{◌≡◌, refl, ap}
use mathlib.Core.Logic.{◌⊎◌, inr}
use mathlib.Core.List.{List, [], ◌∷◌}
use Prim.Native.Nat.{ℕ}
use native.Mathlib.Omega.{arith}
use lib.ListN.{replicate}
use Rattle.basics.specs.Outcome.{Outcome}
use Rattle.frames.specs.Cut.{cut_of, front_of}
use Rattle.frames.specs.Kind.{report_bytes}
use Rattle.frames.specs.declared.answer.Answer.TheVariants.{BadLength}
use Rattle.supervisor.specs.Fresh.{fresh_state}
use Rattle.supervisor.proofs.Rules.{rules}
use Rattle.pass.specs.Pass.{frames_up_to, frames_in, in_order, pass_of}
use Rattle.pass.specs.Cutting.{DoesAll, then_pass, CuttingAt}
use Rattle.pass.specs.declared.Passed.{Passed}

-- a tick, room for its report, and the tick cut in two
tick : List ℕ
tick = 1 ∷ 0 ∷ []

room : List ℕ
room = replicate report_bytes 0

whole : (pass_of fresh_state tick room).result.reported ≡ 1
unfolding rules cut_of front_of frames_up_to frames_in in_order pass_of tick room
whole = refl

halved : (then_pass (pass_of fresh_state (1 ∷ []) room) (0 ∷ [])).result.reported ≡ 0
unfolding rules cut_of front_of frames_up_to frames_in in_order pass_of room
halved = refl

cut_off : (pass_of fresh_state (1 ∷ []) room).result.answer ≡ BadLength
unfolding rules cut_of front_of frames_up_to frames_in in_order pass_of room
cut_off = refl

-- a cut inside a frame is another pass
pub cut_in_a_frame : CuttingAt (λ answer. DoesAll answer ⊎ (answer ≡ BadLength)) → ⊥
unfolding tick
cut_in_a_frame law =
    let same = ap (λ (o : Outcome Passed). o.result.reported) (law fresh_state (1 ∷ []) (0 ∷ []) room (inr cut_off)) in
    omega (arith, whole, halved, same)
