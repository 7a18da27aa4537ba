-- All eight modules by their numbers: the module stage, requests set by a mask or a number, the ranges of check 1.
-- Assumes nothing.
use Rattle.std.specs.Prelude.{ℕ, Bool, true, ◌&&◌, List, [], ◌∷◌, eqb}
use Rattle.basics.specs.Choice.{when◌then◌else◌, bit}
use Rattle.basics.specs.Each.{each}
use Rattle.modules.specs.Power.{switched, power_in_range, with_power, with_request}
use Rattle.modules.specs.declared.power.Module.{Module}

-- a module is wanted if requested and allowed
abbrev pub is_wanted : (allowed : ℕ) → ℕ → Module → Bool
is_wanted allowed i m = m.requested && bit i allowed

-- its second, with its bit of the short mask
abbrev pub module_second : (allowed shorts : ℕ) → ℕ → Module → Module
module_second allowed shorts i m = with_power (switched (is_wanted allowed i m) (bit i shorts) m.power) m

-- all eight through the module stage
unfoldable pub stage_of : (allowed shorts : ℕ) → List Module → List Module
stage_of allowed shorts modules = each (module_second allowed shorts) modules

-- a module's second, with its bits of the mask of those wanted and of the short mask
abbrev pub module_switched : (wanted shorts : ℕ) → ℕ → Module → Module
module_switched wanted shorts i m = with_power (switched (bit i wanted) (bit i shorts) m.power) m

-- all eight
unfoldable pub switched_by : (wanted shorts : ℕ) → List Module → List Module
switched_by wanted shorts modules = each (module_switched wanted shorts) modules

-- the modules of a mask are requested on, or off; the others keep their request
abbrev pub module_requested : (mask : ℕ) (on : Bool) → ℕ → Module → Module
module_requested mask on i m = with_request (when bit i mask then on else m.requested) m

-- all eight
unfoldable pub requested_by : (mask : ℕ) (on : Bool) → List Module → List Module
requested_by mask on modules = each (module_requested mask on) modules

-- one module, by its number, is requested on or off; the others keep their request
abbrev pub module_asked : (which : ℕ) (on : Bool) → ℕ → Module → Module
module_asked which on i m = with_request (when eqb i which then on else m.requested) m

-- all eight; no module has a number from 8 on
unfoldable pub requested_one : (which : ℕ) (on : Bool) → List Module → List Module
requested_one which on modules = each (module_asked which on) modules

-- every module's tries or seconds are in their range
unfoldable pub modules_in_range : List Module → Bool
modules_in_range [] = true
modules_in_range (m ∷ ms) = power_in_range m.power && modules_in_range ms
