-- Laws of the numbers of modes and modules: a number says what has it, what is in range has the number that says it,
-- and the numbers of what is in range are those up to the last. Assumes nothing.
use Prim.Native.Nat.{ℕ, ◌+◌, ◌-◌, ◌*◌, ◌/◌, ◌%◌, ◌≤◌, ◌<◌}
use native.Mathlib.Omega.{arith}
use mathlib.Core.Path.{◌≡◌, refl, sym, ap, ◌∙◌}
use mathlib.Core.Bool.{Bool, true, false}
use lib.Dec.{T, eqb, leb, ltb, ltb→lt}
use borrow.Author.Tests.{eqb-true, eqb-false, leb-true, leb-false, ltb-true, ltb-false, le-leb, lt-leb, lt-ltb, le-ltb}
use Rattle.basics.proofs.ChoiceLaws.{is_true, decided, within_low, within_high, within_of}
use Rattle.modules.specs.Power.{power_in_range, full_tries, clean_seconds, retry_seconds}
use Rattle.modules.specs.declared.power.Power.{Power}
use Rattle.modules.specs.declared.power.Power.TheVariants.{On, Off, Failed}
use Rattle.modules.specs.declared.power.Module.{Module}
use Rattle.modules.proofs.PowerLaws.{OnFits, on_fits, on_in_range}
use Rattle.supervisor.specs.Range.{wait_seconds, settle_seconds, phase_in_range}
use Rattle.supervisor.specs.declared.state.Phase.TheVariants.{Waiting, Settling}
use Rattle.supervisor.specs.declared.state.Mode.{Mode}
use Rattle.supervisor.specs.declared.state.Mode.TheVariants.{DeployWait, Recovery, Safe}
use Rattle.flight.specs.Codes.{settling_code, recovery_code, safe_code, mode_code, mode_from}
use Rattle.flight.specs.Codes.{all_tries_code, failed_code, requested_code, power_code, power_from, module_code, module_from}

-- a mode whose phase, if it has one, is in range
abbrev pub mode_in_range : Mode → Bool
mode_in_range (DeployWait phase) = phase_in_range phase
mode_in_range Recovery = true
mode_in_range Safe = true

-- what holds of each mode that a number may say
by_mode :
    (P : Mode → Type 0) (code : ℕ) → (code ≤ settling_code → P (DeployWait (Waiting code))) →
    (settling_code < code → code < recovery_code → P (DeployWait (Settling (code - settling_code)))) → (code ≡ recovery_code → P Recovery) →
    (code ≡ safe_code → P Safe) → (safe_code < code → P (DeployWait (Waiting code))) → P (mode_from code)
by_mode P code waiting settling recovery safe past =
    decided P (leb code settling_code) (λ e. waiting (leb-true code settling_code e))
    (λ e. decided P (ltb code recovery_code) (λ f. settling (leb-false code settling_code e) (ltb-true code recovery_code f))
    (λ f. decided P (eqb code recovery_code) (λ g. recovery (eqb-true code recovery_code g))
    (λ g. decided P (eqb code safe_code) (λ h. safe (eqb-true code safe_code h))
    (λ h. past (omega (arith, ltb-false code recovery_code f, eqb-false code recovery_code g, eqb-false code safe_code h))))))

-- a number is that of the mode that it says
pub mode_code_law : (code : ℕ) → mode_code (mode_from code) ≡ code
mode_code_law code = by_mode (λ m. mode_code m ≡ code) code (λ e. refl) (λ e f. omega arith) sym sym (λ e. refl)

-- a mode in range is what its number says
pub mode_back : (m : Mode) → T (mode_in_range m) → mode_from (mode_code m) ≡ m
mode_back (DeployWait (Waiting waited)) h = rw (le-leb waited settling_code (omega (arith, ltb→lt waited wait_seconds h)))
mode_back (DeployWait (Settling left)) h =
    let least = within_low 1 settle_seconds left h in
    let most = within_high 1 settle_seconds left h in
    rw (lt-leb (settling_code + left) settling_code (omega arith), lt-ltb (settling_code + left) recovery_code (omega arith))
    (ap (λ n. DeployWait (Settling n)) (omega arith))
mode_back Recovery h = refl
mode_back Safe h = refl

-- a number says a mode in range if it is at most SAFE's, and else one out of range
pub mode_fits : (code : ℕ) → mode_in_range (mode_from code) ≡ leb code safe_code
mode_fits code =
    by_mode (λ m. mode_in_range m ≡ leb code safe_code) code
    (λ e. lt-ltb code wait_seconds (omega arith) ∙ sym (le-leb code safe_code (omega arith)))
    (λ e f. is_true _ (within_of 1 settle_seconds (code - settling_code) (omega arith) (omega arith)) ∙ sym (le-leb code safe_code (omega arith)))
    (λ e. sym (le-leb code safe_code (omega arith)))
    (λ e. sym (le-leb code safe_code (omega arith)))
    (λ e. le-ltb code wait_seconds (omega arith) ∙ sym (lt-leb code safe_code (omega arith)))

pub mode_small : (m : Mode) → T (mode_in_range m) → mode_code m ≤ safe_code
mode_small m h = leb-true (mode_code m) safe_code (sym (mode_fits (mode_code m)) ∙ ap mode_in_range (mode_back m h) ∙ is_true (mode_in_range m) h)

-- what holds of each power that a number may say
by_power :
    (P : Power → Type 0) (code : ℕ) → (code ≤ all_tries_code → P (On (code / clean_seconds + 1) (code % clean_seconds))) →
    (all_tries_code < code → code < failed_code → P (Off (code - all_tries_code))) → (failed_code ≤ code → P (Failed (code - failed_code))) → P (power_from code)
by_power P code on off failed =
    decided P (leb code all_tries_code) (λ e. on (leb-true code all_tries_code e))
    (λ e. decided P (ltb code failed_code) (λ f. off (leb-false code all_tries_code e) (ltb-true code failed_code f))
    (λ f. failed (ltb-false code failed_code f)))

-- a number is that of the power that it says
pub power_code_law : (code : ℕ) → power_code (power_from code) ≡ code
power_code_law code = by_power (λ p. power_code p ≡ code) code (λ e. omega arith) (λ e f. omega arith) (λ e. omega arith)

-- a power in range is what its number says
pub power_back : (p : Power) → T (power_in_range p) → power_from (power_code p) ≡ p
power_back (On tries seconds) h =
    let fits : OnFits tries seconds = on_fits tries seconds h in
    let code : ℕ = (tries - 1) * clean_seconds + seconds in
    let own_tries : code / clean_seconds + 1 ≡ tries = omega (arith, fits.low, fits.few) in
    let own_seconds : code % clean_seconds ≡ seconds = omega (arith, fits.low, fits.few) in
    rw (le-leb code all_tries_code (omega (arith, fits.low, fits.held)), own_tries, own_seconds)
power_back (Off tries) h =
    let least = within_low 1 full_tries tries h in
    let most = within_high 1 full_tries tries h in
    rw (lt-leb (all_tries_code + tries) all_tries_code (omega arith), lt-ltb (all_tries_code + tries) failed_code (omega arith)) (ap Off (omega arith))
power_back (Failed left) h =
    rw (lt-leb (failed_code + left) all_tries_code (omega arith), le-ltb (failed_code + left) failed_code (omega arith)) (ap Failed (omega arith))

-- a number says a power in range if it is at most that of 600 seconds left, and else one out of range
pub power_fits : (code : ℕ) → power_in_range (power_from code) ≡ leb code (failed_code + retry_seconds)
power_fits code =
    by_power (λ p. power_in_range p ≡ leb code (failed_code + retry_seconds)) code
    (λ e.
    is_true _ (on_in_range (code / clean_seconds + 1) (code % clean_seconds) (record { low = omega arith; high = omega arith; few = omega arith; held = omega arith }))
    ∙ sym (le-leb code (failed_code + retry_seconds) (omega arith)))
    (λ e f. is_true _ (within_of 1 full_tries (code - all_tries_code) (omega arith) (omega arith)) ∙ sym (le-leb code (failed_code + retry_seconds) (omega arith)))
    (λ e. by_last e (leb code (failed_code + retry_seconds)) refl)
  where
    by_last : failed_code ≤ code → (t : Bool) → leb code (failed_code + retry_seconds) ≡ t → leb (code - failed_code) retry_seconds ≡ t
    by_last e true f = le-leb (code - failed_code) retry_seconds (omega (arith, leb-true code (failed_code + retry_seconds) f))
    by_last e false f = lt-leb (code - failed_code) retry_seconds (omega (arith, leb-false code (failed_code + retry_seconds) f))

pub power_small : (p : Power) → T (power_in_range p) → power_code p ≤ failed_code + retry_seconds
power_small p h =
    leb-true (power_code p) (failed_code + retry_seconds) (sym (power_fits (power_code p)) ∙ ap power_in_range (power_back p h) ∙ is_true (power_in_range p) h)

-- a number of two bytes is that of the module that it says
pub module_code_law : (code : ℕ) → code < 65536 → module_code (module_from code) ≡ code
module_code_law code h =
    rw (power_code_law (code % requested_code))
    (decided (λ (n : ℕ). n ≡ code) (leb requested_code code)
    (λ e. omega (arith, leb-true requested_code code e)) (λ e. omega (arith, leb-false requested_code code e)))

-- a module in range is what its number says
pub module_back : (m : Module) → T (power_in_range m.power) → module_from (module_code m) ≡ m
module_back m h = by_request m.requested
  where
    by_request : (requested : Bool) → module_from (module_code (record { power = m.power; requested = requested })) ≡ record { power = m.power; requested = requested }
    by_request true =
        let small = power_small m.power h in
        let code : (requested_code + power_code m.power) % requested_code ≡ power_code m.power = omega arith in
        rw (code, le-leb requested_code (requested_code + power_code m.power) (omega arith), power_back m.power h)
    by_request false =
        let small = power_small m.power h in
        let code : power_code m.power % requested_code ≡ power_code m.power = omega arith in
        rw (code, lt-leb requested_code (power_code m.power) (omega arith), power_back m.power h)
