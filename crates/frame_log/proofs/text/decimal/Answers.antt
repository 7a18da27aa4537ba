-- `frame_log::text::decimal` meets its contract: each turn puts the last digit in front of those written.
use Rattle.std.proofs.Common.{◌≡◌, ℕ, List, ◌++◌, refl, ap, ◌∙◌, arith, append-nil}
use Rattle.std.proofs.lemmas.List.{drop_all}
use Rattle.frame_log.specs.Text.{decimal, decimal_up_to}
use Rattle.frame_log.proofs.TextLaws.{first_digit, next_digit}
use Rattle.frame_log.proofs.text.decimal.Goals as goal

pub loop-i-init : goal.loop-i-init
unfolding decimal
loop-i-init c = ap (λ (t : List ℕ). decimal c.args.n ++ t) (drop_all 20 c.args.digits.now (omega arith)) ∙ append-nil (decimal c.args.n)

pub returns-then-rest-lt10-clause-text : goal.returns-then-rest-lt10-clause-text
returns-then-rest-lt10-clause-text c = first_digit _ _ _ refl _ c.loop-i-test.true (omega arith) c.if-rest-lt10.true ∙ c.loop-i.invariant

pub loop-i-preserved : goal.loop-i-preserved
loop-i-preserved c = next_digit _ _ _ refl _ c.loop-i-test.true (omega arith) c.if-rest-lt10.false ∙ c.loop-i.invariant

pub returns-clause-text : goal.returns-clause-text
unfolding decimal_up_to
returns-clause-text c =
    let e : c.loop-i.i ≡ 0 = omega arith in
    rw e at c.loop-i.invariant
