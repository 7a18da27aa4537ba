-- Laws of the beacon count: it stays below 300, grows by one where no beacon is due, and in SAFE none is due at no multiple of 60.
-- Assumes nothing.
use Prim.Native.Nat.{ℕ, ◌%◌, ◌≤◌, ◌<◌}
use native.Mathlib.Omega.{arith}
use mathlib.Core.Path.{◌≡◌, refl}
use mathlib.Core.Bool.{Bool, false, true, true≢false, false≢true}
use lib.Dec.{eqb, lit<}
use borrow.Author.Tests.{eqb-false}
use Rattle.std.specs.Prelude.{Option, None, Some}
use Rattle.basics.proofs.ChoiceLaws.{decided}
use Rattle.supervisor.specs.State.{is_deploy_wait, is_safe}
use Rattle.supervisor.specs.Range.{basic_ticks, complete_ticks}
use Rattle.supervisor.specs.Acted.{due_number}
use Rattle.supervisor.specs.Due.{due_at, count_after}
use Rattle.supervisor.specs.declared.state.Mode.{Mode}
use Rattle.supervisor.specs.declared.state.Mode.TheVariants.{DeployWait, Recovery, Safe}
use Rattle.supervisor.specs.declared.form.Form.{Form}
use Rattle.supervisor.specs.declared.form.Form.TheVariants.{Basic, Complete, Extended}

-- at 300 a beacon is due in either mode
pub count_low : (m : Mode) (greets : Bool) (n : ℕ) → is_deploy_wait m ≡ false → n ≤ basic_ticks → count_after (due_at m greets n) n < basic_ticks
count_low (DeployWait phase) greets n e h = absurd (true≢false e)
count_low Recovery greets n e h =
    decided (λ (d : Option Form). count_after d n < basic_ticks) (eqb n basic_ticks) (λ e. lit< tt) (λ e. omega (arith, eqb-false n basic_ticks e))
count_low Safe greets n e h =
    decided (λ (d : Option Form). count_after d n < basic_ticks) (eqb (n % complete_ticks) 0)
    (λ e. lit< tt)
    (λ e. omega (arith, eqb-false (n % complete_ticks) 0 e))

-- with none due, the count stands
pub count_stands : (due : Option Form) (count : ℕ) → due_number due ≡ 0 → count_after due count ≡ count
count_stands None count e = refl
count_stands (Some Basic) count e = absurd (omega arith)
count_stands (Some Complete) count e = absurd (omega arith)
count_stands (Some Extended) count e = absurd (omega arith)

-- in SAFE one is due at each multiple of 60
pub none_at_sixty : (m : Mode) (greets : Bool) (count : ℕ) → is_safe m ≡ true → due_number (due_at m greets count) ≡ 0 → count % complete_ticks ≡ 0 → ⊥
none_at_sixty (DeployWait phase) greets count e d z = false≢true e
none_at_sixty Recovery greets count e d z = false≢true e
none_at_sixty Safe true count e d z = let due : ◌≡◌ {A = ℕ} 3 0 = rw z at d in omega arith
none_at_sixty Safe false count e d z = let due : ◌≡◌ {A = ℕ} 2 0 = rw z at d in omega arith
