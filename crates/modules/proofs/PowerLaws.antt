-- Laws of one module's second, for theorems about flights: when it is on, the tries that it has, and the ranges.
-- Assumes nothing.
use Prim.Native.Nat.{ℕ, ◌+◌, ◌-◌, ◌*◌, ◌≤◌, ◌<◌}
use native.Mathlib.Omega.{arith}
use mathlib.Core.Path.{◌≡◌, refl}
use mathlib.Core.Bool.{Bool, true, false, not, ◌&&◌, true≢false}
use lib.Dec.{T, eqb, ltb, leb→le, le→leb, ltb→lt, lt→ltb, lit<}
use borrow.Author.Tests.{eqb-true, eqb-false, eq-eqb, ltb-true}
use Rattle.basics.specs.Choice.{when◌then◌else◌, within}
use Rattle.basics.proofs.ChoiceLaws.{is_true, holds, and_left, and_right, and_both, decided, either, within_low, within_high, within_of}
use Rattle.modules.specs.Power.{one_try_fewer, stayed_on, attempted, switched, power_in_range, full_tries, retry_seconds, clean_seconds, is_on, is_failed, tries_left}
use Rattle.modules.specs.declared.power.Power.{Power}
use Rattle.modules.specs.declared.power.Power.TheVariants.{On, Off, Failed}

-- one that stays on is on, one that loses a try is not
stayed_on_law : (tries seconds : ℕ) → is_on (stayed_on tries seconds) ≡ true
stayed_on_law tries seconds =
    either (λ (q : Power). is_on q ≡ true) (eqb tries full_tries) refl
    (either (λ (q : Power). is_on q ≡ true) (ltb (seconds + 1) clean_seconds) refl refl)

fewer_off : (tries : ℕ) → T (is_on (one_try_fewer tries)) → ⊥
fewer_off tries = either (λ (q : Power). T (is_on q) → ⊥) (eqb (tries - 1) 0) (λ t. t) (λ t. t)

-- a module that is neither failed nor short is on after the second just if it is wanted
pub on_switched_law : (wanted : Bool) (p : Power) → is_failed p ≡ false → is_on (switched wanted false p) ≡ wanted
unfolding switched
on_switched_law true (On tries seconds) e = stayed_on_law tries seconds
on_switched_law false (On tries seconds) e = refl
on_switched_law true (Off tries) e = refl
on_switched_law false (Off tries) e = refl
on_switched_law wanted (Failed left) e = absurd (true≢false e)

-- a module that is on after it is wanted and not short
attempted_reason : (wanted short : Bool) → T (is_on (attempted wanted short)) → T (wanted && not short)
attempted_reason true true t = absurd t
attempted_reason true false t = tt
attempted_reason false short t = absurd t

pub switched_reason : (wanted short : Bool) (p : Power) → T (is_on (switched wanted short p)) → T (wanted && not short)
unfolding switched
switched_reason wanted true (On tries seconds) t = absurd (fewer_off tries t)
switched_reason true false (On tries seconds) t = tt
switched_reason false false (On tries seconds) t = absurd t
switched_reason true true (Off tries) t = absurd (fewer_off tries t)
switched_reason true false (Off tries) t = tt
switched_reason false short (Off tries) t = absurd t
switched_reason wanted short (Failed left) t =
    either (λ (q : Power). T (is_on q) → T (wanted && not short)) (ltb 0 left) (λ x. absurd x) (attempted_reason wanted short) t

-- of so many tries, at most all, a second takes one at most, and only by a short
fewer_least : (least tries : ℕ) → least ≤ tries → least ≤ tries_left (one_try_fewer tries) + 1
fewer_least least tries h =
    decided (λ (q : Power). least ≤ tries_left q + 1) (eqb (tries - 1) 0)
    (λ e. omega (arith, eqb-true (tries - 1) 0 e)) (λ e. omega arith)

stayed_least : (least tries seconds : ℕ) → least ≤ full_tries → least ≤ tries → least ≤ tries_left (stayed_on tries seconds) + 0
stayed_least least tries seconds full h =
    either (λ (q : Power). least ≤ tries_left q + 0) (eqb tries full_tries) (omega arith)
    (either (λ (q : Power). least ≤ tries_left q + 0) (ltb (seconds + 1) clean_seconds) (omega arith) (omega arith))

pub switched_least :
    (least : ℕ) (wanted short : Bool) (p : Power) → least ≤ full_tries → least ≤ tries_left p →
    least ≤ tries_left (switched wanted short p) + (when short then 1 else 0)
unfolding switched
switched_least least wanted true (On tries seconds) full h = fewer_least least tries h
switched_least least false false (On tries seconds) full h = omega arith
switched_least least true false (On tries seconds) full h = stayed_least least tries seconds full h
switched_least least false short (Off tries) full h = omega arith
switched_least least true false (Off tries) full h = omega arith
switched_least least true true (Off tries) full h = fewer_least least tries h
switched_least least wanted short (Failed left) full h = omega arith

-- the ranges of a module that is on, as numbers: the last of them says that with 5 tries the seconds are 0
abbrev pub OnFits : (tries seconds : ℕ) → Type 0
OnFits tries seconds = record { low : 1 ≤ tries; high : tries ≤ full_tries; few : seconds < clean_seconds; held : tries * clean_seconds + seconds ≤ 300 }

pub on_in_range : (tries seconds : ℕ) → OnFits tries seconds → T (power_in_range (On tries seconds))
on_in_range tries seconds h =
    decided (λ (b : Bool). T b) (eqb tries full_tries)
    (λ e. holds (eqb seconds 0) (eq-eqb seconds 0 (omega (arith, h.held, eqb-true tries full_tries e))))
    (λ e. and_both (within 1 full_tries tries) (ltb seconds clean_seconds) (within_of 1 full_tries tries h.low h.high) (lt→ltb seconds clean_seconds h.few))

all_fits : (tries seconds : ℕ) → tries ≡ full_tries → seconds ≡ 0 → OnFits tries seconds
all_fits tries seconds all none = record { low = omega arith; high = omega arith; few = omega arith; held = omega arith }

some_fits : (tries seconds : ℕ) → (tries ≡ full_tries → ⊥) → T (within 1 full_tries tries && ltb seconds clean_seconds) → OnFits tries seconds
some_fits tries seconds fewer h =
    let range = and_left (within 1 full_tries tries) (ltb seconds clean_seconds) h in
    let low = within_low 1 full_tries tries range in
    let high = within_high 1 full_tries tries range in
    let few = ltb→lt seconds clean_seconds (and_right (within 1 full_tries tries) (ltb seconds clean_seconds) h) in
    record { low = low; high = high; few = few; held = omega (arith, fewer) }

pub on_fits : (tries seconds : ℕ) → T (power_in_range (On tries seconds)) → OnFits tries seconds
on_fits tries seconds h =
    decided (λ (b : Bool). T b → OnFits tries seconds) (eqb tries full_tries)
    (λ e none. all_fits tries seconds (eqb-true tries full_tries e) (eqb-true seconds 0 (is_true (eqb seconds 0) none)))
    (λ e some. some_fits tries seconds (eqb-false tries full_tries e) some) h

-- a second keeps tries and seconds in their ranges
fewer_in_range : (tries : ℕ) → tries ≤ full_tries → T (power_in_range (one_try_fewer tries))
fewer_in_range tries high =
    decided (λ (q : Power). T (power_in_range q)) (eqb (tries - 1) 0) (λ e. tt)
    (λ e. within_of 1 full_tries (tries - 1) (omega (arith, eqb-false (tries - 1) 0 e)) (omega arith))

attempted_in_range : (wanted short : Bool) → T (power_in_range (attempted wanted short))
attempted_in_range false short = tt
attempted_in_range true false = tt
attempted_in_range true true = tt

off_in_range : (tries seconds : ℕ) → OnFits tries seconds → T (power_in_range (Off tries))
off_in_range tries seconds h = within_of 1 full_tries tries h.low h.high

started_in_range : (tries : ℕ) → T (power_in_range (Off tries)) → T (power_in_range (On tries 0))
started_in_range tries h =
    let low = within_low 1 full_tries tries h in
    let high = within_high 1 full_tries tries h in
    on_in_range tries 0 (record { low = low; high = high; few = lit< tt; held = omega arith })

more_fits : (tries seconds : ℕ) → OnFits tries seconds → (tries ≡ full_tries → ⊥) → seconds + 1 < clean_seconds → OnFits tries (seconds + 1)
more_fits tries seconds h fewer few = record { low = h.low; high = h.high; few = few; held = omega (arith, h.high, fewer) }

stayed_in_range : (tries seconds : ℕ) → OnFits tries seconds → T (power_in_range (stayed_on tries seconds))
stayed_in_range tries seconds h =
    decided (λ (q : Power). T (power_in_range q)) (eqb tries full_tries) (λ e. on_in_range tries seconds h)
    (λ e. decided (λ (q : Power). T (power_in_range q)) (ltb (seconds + 1) clean_seconds)
    (λ f. on_in_range tries (seconds + 1) (more_fits tries seconds h (eqb-false tries full_tries e) (ltb-true (seconds + 1) clean_seconds f)))
    (λ f. tt))

pub switched_in_range : (wanted short : Bool) (p : Power) → T (power_in_range p) → T (power_in_range (switched wanted short p))
unfolding switched
switched_in_range wanted true (On tries seconds) h = fewer_in_range tries (on_fits tries seconds h).high
switched_in_range false false (On tries seconds) h = off_in_range tries seconds (on_fits tries seconds h)
switched_in_range true false (On tries seconds) h = stayed_in_range tries seconds (on_fits tries seconds h)
switched_in_range false short (Off tries) h = h
switched_in_range true false (Off tries) h = started_in_range tries h
switched_in_range true true (Off tries) h = fewer_in_range tries (within_high 1 full_tries tries h)
switched_in_range wanted short (Failed left) h =
    either (λ (q : Power). T (power_in_range q)) (ltb 0 left)
    (le→leb (left - 1) retry_seconds (omega (arith, leb→le left retry_seconds h))) (attempted_in_range wanted short)
