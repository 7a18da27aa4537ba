-- `morse::signs::sign_of` meets its contract: an entry of a table is right by the table's rule, a figure by its own, and
-- any other byte has no sign.
use mathlib.Core.Path.{◌≡◌, ap, sym, ◌∙◌}
use Prim.Native.Nat.{◌+◌, ◌-◌}
use native.Mathlib.Omega.{arith}
use Rattle.morse.specs.Signs.{first_figure, sign_of}
use Rattle.morse.specs.SignTable.{marks_of, first_sign, last_sign, first_stop, last_stop}
use Rattle.morse.proofs.SignsLaws.{table_right, figure_right, no_sign_law}
use Rattle.morse.proofs.signs.sign_of.Goals as goal

pub returns-in-63-to-90 : goal.returns-in-63-to-90
returns-in-63-to-90 c =
    rw c.from.ensures
    (table_right first_sign last_sign c.letters.result c.letters.ensures c.args.c (omega arith) (omega arith))

pub returns-in-48-to-57 : goal.returns-in-48-to-57
returns-in-48-to-57 c =
    let b = c.args.c in
    let e : first_figure + (b - first_figure) ≡ b = omega arith in
    c.figure.ensures ∙ figure_right (b - first_figure) (omega arith) ∙ ap sign_of e

pub returns-in-44-to-47 : goal.returns-in-44-to-47
returns-in-44-to-47 c =
    rw c.from-in-44-to-47.ensures
    (table_right first_stop last_stop c.stops.result c.stops.ensures c.args.c (omega arith) (omega arith))

pub returns-in_default-c : goal.returns-in_default-c
unfolding marks_of
returns-in_default-c c = sym (no_sign_law _ (λ a b. omega arith) (λ a b. omega arith) (λ a b. omega arith))

pub returns-in_default-c-2 : goal.returns-in_default-c-2
unfolding marks_of
returns-in_default-c-2 c = sym (no_sign_law _ (λ a b. omega arith) (λ a b. omega arith) (λ a b. omega arith))
