-- Laws of words: the seconds that are left of one, what a second makes of it, and what a crossing says.
-- Assumes nothing.
use Prim.Native.Nat.{ℕ, ◌+◌, ◌-◌, ◌*◌}
use native.Mathlib.Omega.{arith}
use mathlib.Core.Path.{◌≡◌, refl, sym}
use mathlib.Core.Bool.{Bool, true, false, ◌&&◌}
use lib.Dec.{eqb, ltb}
use borrow.Author.Tests.{eqb-true, eqb-false, ltb-true, ltb-false, lt-ltb, le-ltb}
use Rattle.basics.specs.Choice.{when◌then◌else◌}
use Rattle.basics.proofs.ChoiceLaws.{decided, either}
use Rattle.supervisor.specs.State.{is_recovery, is_safe}
use Rattle.supervisor.specs.declared.state.Phase.{Phase}
use Rattle.supervisor.specs.declared.state.Mode.{Mode}
use Rattle.supervisor.specs.declared.state.Mode.TheVariants.{DeployWait, Recovery, Safe}
use Rattle.promises.specs.AsTold.{Word, plain, timed, says, aged, crossing}

-- the seconds that are left of a timed word; a plain one has none
abbrev pub left_of : Word → ℕ
left_of (plain on) = 0
left_of (timed minutes ticks) = 60 * minutes - ticks

-- one more tick of n, where it is not the last
one_more_law : (ticks n : ℕ) (more : Bool) → ltb ticks n ≡ more → (n - ticks ≡ 1 → ⊥) → more ≡ ltb (ticks + 1) n
one_more_law ticks n true e h = sym (lt-ltb (ticks + 1) n (omega (arith, ltb-true ticks n e, h)))
one_more_law ticks n false e h = sym (le-ltb (ticks + 1) n (omega (arith, ltb-false ticks n e)))

-- a word is "on" a tick later, unless that was its last
pub aged_says : (word : Word) → (when eqb (left_of word) 1 then false else says word) ≡ says (aged word)
aged_says (plain on) = refl
aged_says (timed minutes ticks) =
    let n : ℕ = 60 * minutes in
    decided (λ (b : Bool). b ≡ ltb (ticks + 1) n) (eqb (n - ticks) 1)
    (λ e. sym (le-ltb (ticks + 1) n (omega (arith, eqb-true (n - ticks) 1 e))))
    (λ e. one_more_law ticks n (ltb ticks n) refl (eqb-false (n - ticks) 1 e))

-- what is not "on" is not a tick later either
pub aged_off : (word : Word) → says word ≡ false → says (aged word) ≡ false
aged_off (plain on) e = e
aged_off (timed minutes ticks) e = le-ltb (ticks + 1) (60 * minutes) (omega (arith, ltb-false ticks (60 * minutes) e))

pub aged_left : (word : Word) → left_of word - 1 ≡ left_of (aged word)
aged_left (plain on) = refl
aged_left (timed minutes ticks) = omega arith

-- the same mode before and after is no crossing
pub no_crossing : (mission : Bool) (m : Mode) (word : Word) → crossing mission m m word ≡ word
no_crossing true (DeployWait phase) word = refl
no_crossing true Recovery word = refl
no_crossing true Safe word = refl
no_crossing false m word = refl

-- nor is what follows DEPLOY_WAIT
pub from_deploy : (mission : Bool) (phase : Phase) (m : Mode) (word : Word) → crossing mission (DeployWait phase) m word ≡ word
from_deploy true phase m word = refl
from_deploy false phase m word = refl

-- no crossing turns an "off" into an "on"
pub crossed_off : (mission : Bool) (before after : Mode) (word : Word) → says word ≡ false → says (crossing mission before after word) ≡ false
crossed_off true before after word e = either (λ (w : Word). says w ≡ false) (is_safe before && is_recovery after) refl e
crossed_off false before after word e = e
