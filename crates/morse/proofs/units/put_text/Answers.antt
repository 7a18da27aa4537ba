-- `morse::units::put_text` meets its contract: the units of what is left of the text, put into the room as it is, make
-- what all of them make of the room at entry.
use mathlib.Core.Path.{◌≡◌, ap}
use Prim.Native.Nat.{◌+◌}
use native.Mathlib.Omega.{arith}
use mathlib.Core.List.{[]}
use lib.ListN.{length, drop, drop_of_length-le}
use Rattle.morse.specs.Units.{sign_units, units_after, units_of}
use Rattle.morse.proofs.UnitsLaws.{length_text, sets_text, units_after_most}
use Rattle.morse.proofs.units.put_text.Goals as goal

pub put_sign-at-requires : goal.put_sign-at-requires
put_sign-at-requires c =
    let l = c.loop-c in
    let t = c.args.text.now in
    omega (
      arith,
      length_text t l.c-index l.gap (omega arith),
      ap (λ ms. length (sign_units l.gap ms)) c.sign_of.ensures,
      units_after_most t 0,
    )

pub loop-c-preserved : goal.loop-c-preserved
loop-c-preserved c =
    let l = c.loop-c in
    let t = c.args.text.now in (
      omega (
        arith,
        length_text t l.c-index l.gap (omega arith),
        ap (λ ms. length (sign_units l.gap ms)) c.sign_of.ensures,
        ap (λ g. length (units_after g (drop (l.c-index + 1) t))) c.gap_after-gap.ensures,
      ),
      cc (sets_text t l.c-index l.gap (omega arith) l.room l.at),
    )

pub returns : goal.returns
unfolding units_of
returns c =
    let l = c.loop-c in
    let e : drop l.c-index c.args.text.now ≡ [] = drop_of_length-le _ {i = l.c-index} (omega arith) in
    (omega (arith, rw e at l.invariant.0), rw e at l.invariant.1)
