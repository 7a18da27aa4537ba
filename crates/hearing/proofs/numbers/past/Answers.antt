-- `hearing::numbers::past` meets its contract: the part at hand comes to the byte that the first one comes to, and there
-- are turns left for as long as it is short of 32.
use mathlib.Core.Path.{◌≡◌, sym, ◌∙◌}
use Prim.Native.Nat.{◌+◌, ◌-◌}
use native.Mathlib.Omega.{arith}
use Rattle.std.proofs.Math.Nat.{mul_comm}
use borrow.Author.Rules.{rules}
use Rattle.hearing.specs.Numbers.{four_marks}
use Rattle.hearing.proofs.NumbersLaws.{past_on, past_end}
use Rattle.hearing.proofs.numbers.past.Goals as goal

pub loop-rest-init : goal.loop-rest-init
loop-rest-init c =
    let a = c.args in
    let e : four_marks + a.first - a.first ≡ four_marks = omega arith in
    (search rules, search rules, search rules, rw e)

pub loop-rest-preserved : goal.loop-rest-preserved
loop-rest-preserved c =
    let a = c.args in
    let l = c.loop-rest in
    let turns = four_marks + a.first - l.byte in
    let e : turns - 1 ≡ four_marks + a.first - (l.byte + 1) = omega arith in
    let on = past_on turns l.byte l.rest (omega arith) c.loop-rest-test.true in
    (search rules, search rules, search rules, rw (mul_comm l.rest 2) (rw e at (sym on ∙ l.invariant.3)))

pub returns : goal.returns
returns c =
    let a = c.args in
    let l = c.loop-rest in
    c.then_some.ensures ∙ past_end (four_marks + a.first - l.byte) l.byte l.rest (λ e. omega arith) (omega arith) ∙ l.invariant.3
