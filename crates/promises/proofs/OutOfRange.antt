-- A state out of range sees no done tick.
-- Assumes nothing.
use native.Mathlib.Omega.{arith}
use mathlib.Core.Path.{◌≡◌, refl, sym, ◌∙◌}
use mathlib.Core.Bool.{false, true≢false}
use mathlib.Core.List.{List, [], ◌∷◌}
use Rattle.basics.proofs.ChoiceLaws.{is_true}
use Rattle.supervisor.specs.Range.{in_range}
use Rattle.supervisor.specs.History.{Call, called, done_tick, done_ticks}
use Rattle.supervisor.specs.declared.state.State.{State}
use Rattle.supervisor.proofs.HistoryLaws.{Comes, stopped, ticking, other, comes}

stuck : (s : State) (c : Call) → in_range s ≡ false → Comes s c → (done_tick s c ≡ false) × ((called s c).result.state ≡ s)
stuck s c e (stopped answer w) = (w.tick, rw w.leaves)
stuck s c e (ticking shorts w) = absurd (true≢false (sym (is_true (in_range s) w.valid) ∙ e))
stuck s c e (other f t w) = absurd (true≢false (sym (is_true (in_range s) w.valid) ∙ e))

pub no_ticks : (cs : List Call) (s : State) → in_range s ≡ false → done_ticks s cs ≡ 0
no_ticks [] s e = refl
no_ticks (c ∷ cs) s e =
    let (none, same) = stuck s c e (comes s c) in
    rw none (rw same (omega (arith, no_ticks cs s e)))
