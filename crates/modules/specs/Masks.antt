-- The masks of the modules, kept beside them and in a report: bit i is module i.
-- Assumes nothing.
use Rattle.std.specs.Prelude.{ℕ, ◌+◌, ◌-◌, ◌*◌, ◌^◌, Bool, true, false, ◌&&◌, List, [], ◌∷◌, eqb, ltb}
use Rattle.std.specs.Int.Bits.{bit_and, bit_or}
use Rattle.basics.specs.Choice.{when◌then◌else◌}
use Rattle.modules.specs.Groups.{module_count}
use Rattle.modules.specs.Power.{is_on, is_failed}
use Rattle.modules.specs.declared.power.Module.{Module}
use Rattle.modules.specs.declared.masks.Masks.{Masks}
use Rattle.modules.specs.declared.stage.Staged.{Staged}

-- a mask with one bit more, below its others
abbrev pub below : Bool → ℕ → ℕ
below true mask = 1 + 2 * mask
below false mask = 2 * mask

-- the mask of the modules that pass a test, the first module at bit 0
unfoldable pub mask_of : (Module → Bool) → List Module → ℕ
mask_of test [] = 0
mask_of test (m ∷ ms) = below (test m) (mask_of test ms)

-- the masks of the modules requested, on and failed
unfoldable pub masks_of : List Module → Masks
masks_of modules =
    record {
      requested = mask_of (λ m. m.requested) modules;
      on = mask_of (λ m. is_on m.power) modules;
      failed = mask_of (λ m. is_failed m.power) modules;
    }

-- masks agree with modules: each of the three is the mask of the modules
unfoldable pub are_masks_of : List Module → Masks → Bool
are_masks_of modules masks =
    eqb masks.requested (masks_of modules).requested
    && eqb masks.on (masks_of modules).on && eqb masks.failed (masks_of modules).failed

-- modules, with the masks of those on and those failed
abbrev pub staged : List Module → Staged
staged modules = record { modules = modules; on = (masks_of modules).on; failed = (masks_of modules).failed }

-- the three side by side, that of the requested lowest
abbrev pub packed_masks : Masks → ℕ
packed_masks masks = masks.requested + masks.on * 256 + masks.failed * 65536

-- how many modules are on
unfoldable pub count_on : List Module → ℕ
count_on [] = 0
count_on (m ∷ ms) = (when is_on m.power then 1 else 0) + count_on ms

-- the bit of one module; there is no module from 8 on
abbrev pub one_bit : (which : ℕ) → ℕ
one_bit which = when ltb which module_count then 2 ^ which else 0

-- the bits of a mask set in another, or cleared
abbrev pub bits_set : (mask : ℕ) (on : Bool) → ℕ → ℕ
bits_set mask true kept = bit_or kept mask
bits_set mask false kept = kept - bit_and kept mask

-- the requests of a mask's modules set in the masks, to on or off
abbrev pub requests_set : (mask : ℕ) (on : Bool) → Masks → Masks
requests_set mask on masks =
    record { requested = bits_set mask on masks.requested; on = masks.on; failed = masks.failed }
