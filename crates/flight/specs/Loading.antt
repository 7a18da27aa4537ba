-- The state of an image: what its fields say, if that is in range.
-- Assumes nothing.
use Rattle.frames.specs.Serial.{both}
use Rattle.std.specs.Prelude.{ℕ, ◌+◌, ◌*◌, Bool, ◌&&◌, false, List, eqb, leb, length, take, drop, replicate, Option, Some, None}
use Rattle.basics.specs.Choice.{when◌then◌else◌}
use Rattle.basics.specs.Each.{each}
use Rattle.modules.specs.Groups.{module_count}
use Rattle.modules.specs.declared.ends.Ends.{Ends}
use Rattle.modules.specs.declared.power.Power.TheVariants.{On}
use Rattle.modules.specs.declared.masks.Masks.{Masks}
use Rattle.modules.specs.declared.power.Module.{Module}
use Rattle.frames.specs.Greeting.{longest_greeting}
use Rattle.frames.specs.Reading.{byte_at}
use Rattle.supervisor.specs.Range.{in_range}
use Rattle.supervisor.specs.declared.state.Message.{Message}
use Rattle.supervisor.specs.declared.state.State.{State}
use Rattle.flight.specs.Fields.{pair_at, triple_at, quad_at}
use Rattle.flight.specs.Codes.{mode_from, module_from}
use Rattle.flight.specs.Saving.{image_bytes, layout_version, message_place, text_place, ends_place, masks_place, modules_place}

-- the length, the version, and antennas that are 0 or 1
unfoldable pub has_layout : List ℕ → Bool
has_layout bytes =
    eqb (length bytes) image_bytes && eqb (byte_at 0 bytes) layout_version && leb (byte_at 7 bytes) 1

-- the message
unfoldable pub message_in : List ℕ → Message
message_in bytes =
    record {
      repeats = byte_at message_place bytes;
      length = byte_at (message_place + 1) bytes;
      text = take longest_greeting (drop text_place bytes);
    }

-- the ends of the mission four
unfoldable pub ends_in : List ℕ → Ends
ends_in bytes =
    record {
      adcs = quad_at ends_place bytes;
      payload = quad_at (ends_place + 4) bytes;
      sband1 = quad_at (ends_place + 8) bytes;
      sband2 = quad_at (ends_place + 12) bytes;
    }

-- the masks
unfoldable pub masks_in : List ℕ → Masks
masks_in bytes =
    record {
      requested = byte_at masks_place bytes;
      on = byte_at (masks_place + 1) bytes;
      failed = byte_at (masks_place + 2) bytes;
    }

-- a module that stands for none
abbrev pub blank : Module
blank = record { power = On 0 0; requested = false }

-- module i stands at 55 + 2 i
unfoldable pub modules_in : List ℕ → List Module
modules_in bytes = each (λ i m. module_from (pair_at (modules_place + 2 * i) bytes)) (replicate module_count blank)

-- the state that the fields say, in range or not
unfoldable pub decoded : List ℕ → State
decoded bytes =
    record {
      watch =
          record { mode = mode_from (triple_at 1 bytes); control = byte_at 4 bytes; beacon = pair_at 5 bytes };
      antennas = eqb (byte_at 7 bytes) 1;
      masks = masks_in bytes;
      battery = record { tension = pair_at 8 bytes; ascend = pair_at 10 bytes; descend = pair_at 12 bytes };
      serials = both (pair_at 14 bytes) (pair_at 16 bytes);
      message = message_in bytes;
      ends = ends_in bytes;
      modules = modules_in bytes;
    }

-- the state of an image; no other bytes have one
unfoldable pub loaded : List ℕ → Option State
loaded bytes = when has_layout bytes && in_range (decoded bytes) then Some (decoded bytes) else None

-- what the fields say, in range or not; bytes that are not of this layout say nothing
unfoldable pub fields_say : List ℕ → Option State
fields_say bytes = when has_layout bytes then Some (decoded bytes) else None
