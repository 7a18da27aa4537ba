-- `is_greeting` meets its contract: sixteen bytes by their type, and the tests are the rule's.
use Rattle.std.specs.Prelude.{is_ok, true, false}
use Rattle.std.proofs.Common.{◌≡◌, ◌-◌, length, drop, refl, sym, ap, ◌∙◌, arith, length-drop, take_all, rules}
use Rattle.frames.specs.Greeting.{longest_greeting, all_zero, is_greeting}
use Rattle.frames.proofs.GreetingLaws.{too_long, by_text, no_characters}
use Rattle.frames.proofs.greeting.is_greeting.Goals as goal

pub returns-then-n-gt-LONGEST : goal.returns-then-n-gt-LONGEST
returns-then-n-gt-LONGEST c = too_long _ _ c.if-n-gt-LONGEST.true

-- no character: nothing but filler
pub returns-then-n-eq0 : goal.returns-then-n-eq0
returns-then-n-eq0 c =
    let args = c.args in
    let sixteen : length args.text ≡ longest_greeting = search rules in
    c.is_blank.ensures ∙ no_characters args.text sixteen ∙ ap (λ n. is_greeting n args.text) (sym c.if-n-eq0.true)

pub returns-then-is_ok : goal.returns-then-is_ok
returns-then-is_ok c =
    let args = c.args in
    by_text _ args.text true _ (search rules) c.if-n-gt-LONGEST.false
    (sym c.if-is_ok.true ∙ c.is_ok.ensures.value ∙ ap is_ok c.fault_of.ensures)
    (c.is_blank-then-is_ok.ensures ∙ ap all_zero (take_all (longest_greeting - args.length) (drop args.length args.text) (rw (length-drop args.length args.text) (omega arith))))

pub returns-else-is_ok : goal.returns-else-is_ok
returns-else-is_ok c =
    c.if-is_ok.false
    ∙ by_text _ c.args.text false _ (search rules) c.if-n-gt-LONGEST.false
    (sym c.if-is_ok.false ∙ c.is_ok.ensures.value ∙ ap is_ok c.fault_of.ensures) refl
