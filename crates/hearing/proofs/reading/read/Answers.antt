-- `hearing::reading::read` meets its contract: what is kept aside is the text of which the units are the keying, or none.
use mathlib.Core.Path.{◌≡◌, sym, ◌∙◌}
use Prim.Native.Nat.{ℕ}
use native.Mathlib.Omega.{arith}
use Rattle.std.specs.Prelude.{Option, Some, None}
use Rattle.hearing.proofs.ReadingLaws.{kept_text, read_none, read_short, read_copied}
use Rattle.hearing.proofs.reading.read.Goals as goal

pub returns-in_default : goal.returns-in_default
returns-in_default c =
    read_none _ _ _ c.decode.ensures _
    (λ n e h.
    let same : Some n ≡ Some c.in-Some.n = sym e ∙ c.in-Some.is in
    let z : n ≡ c.in-Some.n = cc in
    omega arith)

pub returns-in_default-2 : goal.returns-in_default-2
returns-in_default-2 c =
    read_none _ _ _ c.decode.ensures _ (λ n e h. let z : ◌≡◌ {A = Option ℕ} None (Some n) = sym c.in_default.is ∙ e in cc)

pub returns-then-text-n : goal.returns-then-text-n
returns-then-text-n c =
    let text = kept_text _ _ _ c.decode.ensures c.in-Some.n c.in-Some.is (omega arith) in
    read_short _ _ _ text.1 (omega (arith, text.0))

pub returns : goal.returns
returns c =
    let copy = c.copy.ensures in
    let text = kept_text _ _ _ c.decode.ensures c.in-Some.n c.in-Some.is (omega arith) in
    read_copied _ _ _ text.1 copy.0 copy.1 (omega (arith, text.0))
