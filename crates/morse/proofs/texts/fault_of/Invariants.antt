-- `morse::texts::fault_of` meets its contract: what is found so far, with what is left of the text, makes what the whole
-- text has.
use mathlib.Core.Path.{◌≡◌}
use mathlib.Core.Bool.{◌||◌}
use lib.ListN.{drop}
use Rattle.morse.specs.Texts
use Rattle.morse.specs.Texts.{all_known}
use Rattle.morse.proofs.TextsLaws.{doubled_after}
use Rattle.morse.proofs.texts.fault_of.Given as goal

abbrev pub invariant-loop-c : goal.invariant-loop-c
invariant-loop-c l =
    (all_known (drop l.c-index l.text) ≡ all_known l.text)
    × ((l.doubled || doubled_after l.before (drop l.c-index l.text)) ≡ Texts.doubled l.text)
