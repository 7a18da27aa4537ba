-- Numbers on either side, computed.
-- Assumes nothing.
use mathlib.Core.Path.{refl}
use Rattle.morse.specs.Signs.{alphabet, sign_of}
use Rattle.morse.specs.Texts.{fault_of}
use Rattle.morse.specs.Units.{units_of}
use Rattle.morse.specs.Keying.{key_units, key_of}
use Rattle.supervisor.proofs.Rules.{rules}
use Rattle.either_side.specs.Numbers.{Numbers}

pub numbers : Numbers
unfolding rules alphabet sign_of fault_of units_of key_units key_of
numbers = (
  refl,
  (
    refl,
    (
      refl,
      (
        refl,
        (
          record { done = refl; watch = refl },
          (
            record { done = refl; watch = refl },
            (
              record { done = refl; watch = refl },
              (record { done = refl; watch = refl }, (refl, (refl, (refl, (refl, (refl, (refl, tt))))))),
            ),
          ),
        ),
      ),
    ),
  ),
)
