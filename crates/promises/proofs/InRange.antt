-- No state out of range, proved.
-- Assumes nothing.
use Prim.Native.Nat.{ℕ}
use native.Mathlib.Omega.{arith}
use mathlib.Core.Path.{_≡_, sym, _∙_}
use mathlib.Core.Bool.{true≢false}
use lib.Dec.{T}
use Rattle·basics.proofs.ChoiceLaws.{is-true}
use Rattle·frames.specs.Greeting.{greetingText}
use Rattle·supervisor.specs.Range.{inRange}
use Rattle·supervisor.specs.Fresh.{freshState}
use Rattle·supervisor.specs.Act.{actOf}
use Rattle·supervisor.specs.History.{Call, answered, after}
use Rattle·supervisor.specs.declared.state.State.{State}
use Rattle·supervisor.proofs.FreshLaws.{fresh-in-range}
use Rattle·supervisor.proofs.TickLaws.{ticked-done}
use Rattle·supervisor.proofs.CommandLaws.{act-answers, unrefused}
use Rattle·supervisor.proofs.HistoryLaws.{Comes, stopped, ticking, other, comes, called-in-range, after-in-range}
use Rattle·promises·specs.specs.InRange.{InRange}

not-one : (s : State) (c : Call) → T (inRange s) → Comes s c → answered s c ≡ 1 → ⊥
not-one s c h (stopped answer w) e = true≢false (sym (is-true (inRange s) h) ∙ w .outside (rw (w .leaves) at e))
not-one s c h (ticking shorts w) e = let z : _≡_ {A = ℕ} 0 1 = rw (w .leaves, ticked-done shorts s) at e in omega arith
not-one s c h (other f t w) e = true≢false (rw (rw (w .leaves) at e) at (unrefused f s (actOf f (greetingText (c .input)) s) (act-answers f (greetingText (c .input)) s)))

pub in-range : InRange
in-range =
    record {
      kept = called-in-range;
      neverOutside = λ cs c. not-one (after freshState cs) c (after-in-range cs freshState fresh-in-range) (comes (after freshState cs) c);
    }
