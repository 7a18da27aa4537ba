-- The two groups of modules: module numbers are 0 MCS, 1 COMM1, 2 COMM2, 3 ADCS, 4 PAYLOAD, 5 I2C, 6 SBAND1, 7 SBAND2.
-- Assumes nothing.
use Rattle.std.specs.Prelude.{ℕ, Bool}
use Rattle.basics.specs.Choice.{bit}

-- how many modules there are
abbrev pub module_count : ℕ
module_count = 8

-- the core four are 0, 1, 2, 5
abbrev pub core_four : ℕ
core_four = 0x27

-- the mission four are 3, 4, 6, 7
abbrev pub mission_four : ℕ
mission_four = 0xD8

-- ADCS
abbrev pub adcs_module : ℕ
adcs_module = 3

-- PAYLOAD, the payload's own
abbrev pub payload_module : ℕ
payload_module = 4

-- SBAND1
abbrev pub sband1_module : ℕ
sband1_module = 6

-- SBAND2
abbrev pub sband2_module : ℕ
sband2_module = 7

-- one of the core four
abbrev pub is_core : ℕ → Bool
is_core i = bit i core_four

-- one of the mission four; the others of the eight are the core four
abbrev pub is_mission : ℕ → Bool
is_mission i = bit i mission_four
