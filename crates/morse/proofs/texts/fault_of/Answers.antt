-- `morse::texts::fault_of` meets its contract: each answer rewrites the page's tests by those that led to it.
use mathlib.Core.Path.{◌≡◌, sym, ap, ◌∙◌}
use mathlib.Core.Bool.{true, false, ◌&&◌, ◌||◌, or-true}
use Prim.Native.Nat.{◌+◌}
use native.Mathlib.Omega.{arith}
use lib.ListN.{drop}
use borrow.Author.Tests.{lt-ltb, le-ltb}
use Rattle.morse.specs.Texts.{all_known, doubled, is_edged, badly_spaced, fault_of}
use Rattle.morse.proofs.TextsLaws.{known_step, known_all, doubled_all, spaced_badly, spaced_well}
use Rattle.morse.proofs.texts.fault_of.Goals as goal
use Rattle.morse.proofs.texts.fault_of.Goals.{then-is_edged-via-then-is_edged, then-is_edged-via-else-is_edged+then-doubled}

pub returns-then-text-gt-LONGEST : goal.returns-then-text-gt-LONGEST
unfolding fault_of
returns-then-text-gt-LONGEST c = simp (lt-ltb _ _ c.if-text-gt-LONGEST.true)

pub returns-then-not-is_known : goal.returns-then-not-is_known
unfolding fault_of
returns-then-not-is_known c =
    let t = c.args.text.now in
    let l = c.loop-c in
    let rest = all_known (drop (l.c-index + 1) t) in
    let unknown = ap (λ k. k && rest) (sym c.is_known.ensures ∙ c.if-not-is_known.true) in
    let k : all_known t ≡ false = sym l.invariant.0 ∙ known_step t l.c-index (omega arith) ∙ unknown in
    simp (le-ltb _ _ c.if-text-gt-LONGEST.false, k)

pub returns-then-is_edged : goal.returns-then-is_edged
returns-then-is_edged c =
    let t = c.args.text.now in
    let l = c.loop-c in
    let double = doubled_all t l.c-index (omega arith) l.doubled l.before l.invariant.1 in
    let bad : badly_spaced t ≡ true = elim c.then-is_edged.branch [
      | then-is_edged-via-then-is_edged w ↦ ap (λ b. b || doubled t) (sym c.is_edged.ensures ∙ w.if-is_edged.true)
      | then-is_edged-via-else-is_edged+then-doubled w ↦ ap (λ b. is_edged t || b) (double ∙ w.if-doubled.true) ∙ or-true _
    ] in
    spaced_badly t c.if-text-gt-LONGEST.false (known_all t l.c-index (omega arith) l.invariant.0) bad

pub returns : goal.returns
returns c =
    let t = c.args.text.now in
    let l = c.loop-c in
    let e : is_edged t ≡ false = sym c.is_edged.ensures ∙ c.if-is_edged.false in
    let d : doubled t ≡ false = doubled_all t l.c-index (omega arith) l.doubled l.before l.invariant.1 ∙ c.if-doubled.false in
    spaced_well t c.if-text-gt-LONGEST.false (known_all t l.c-index (omega arith) l.invariant.0) (cc)
