-- The ends of the mission four: seconds until a timed order's request goes off, 0 where none is running.
-- Assumes nothing.
use Rattle.std.specs.Prelude.{ℕ, ◌+◌, ◌-◌, ◌^◌, Bool, ◌&&◌, eqb, leb}
use Rattle.basics.specs.Choice.{when◌then◌else◌}
use Rattle.modules.specs.Groups.{adcs_module, payload_module, sband1_module, sband2_module}
use Rattle.modules.specs.declared.ends.Ends.{Ends}

-- the longest end, in seconds
abbrev pub longest_end : ℕ
longest_end = 86400

-- no end, as at the start
abbrev pub no_ends : Ends
no_ends = record { adcs = 0; payload = 0; sband1 = 0; sband2 = 0 }

-- the end of module i; a core module has none
unfoldable pub end_of : ℕ → Ends → ℕ
end_of i ends =
    when eqb i adcs_module then ends.adcs else
    when eqb i payload_module then ends.payload else
    when eqb i sband1_module then ends.sband1 else
    when eqb i sband2_module then ends.sband2 else 0

-- each tick takes one off a running end
unfoldable pub ends_fallen : Ends → Ends
ends_fallen ends =
    record {
      adcs = ends.adcs - 1;
      payload = ends.payload - 1;
      sband1 = ends.sband1 - 1;
      sband2 = ends.sband2 - 1;
    }

-- the bit of module i, if its end is in its last second
abbrev pub last_bit : ℕ → (end : ℕ) → ℕ
last_bit i end = when eqb end 1 then 2 ^ i else 0

-- the mask of the modules whose end reaches zero in the next second
unfoldable pub ends_over : Ends → ℕ
ends_over ends =
    last_bit adcs_module ends.adcs + last_bit payload_module ends.payload
    + last_bit sband1_module ends.sband1 + last_bit sband2_module ends.sband2

-- the ends with that of one module set; a core module has none to set
unfoldable pub with_end : (which seconds : ℕ) → Ends → Ends
with_end which seconds ends =
    record {
      adcs = when eqb which adcs_module then seconds else ends.adcs;
      payload = when eqb which payload_module then seconds else ends.payload;
      sband1 = when eqb which sband1_module then seconds else ends.sband1;
      sband2 = when eqb which sband2_module then seconds else ends.sband2;
    }

-- 0 (no end) to 86,400 seconds for each
unfoldable pub ends_in_range : Ends → Bool
ends_in_range ends =
    leb ends.adcs longest_end && leb ends.payload longest_end
    && leb ends.sband1 longest_end && leb ends.sband2 longest_end
