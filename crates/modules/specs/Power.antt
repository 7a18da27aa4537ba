-- One module in one second: on with tries and seconds, off with tries left, or failed with seconds left.
-- Assumes nothing.
use Rattle.std.specs.Prelude.{ℕ, ◌+◌, ◌-◌, Bool, true, false, ◌&&◌, ltb, leb, eqb}
use Rattle.basics.specs.Choice.{when◌then◌else◌, within}
use Rattle.modules.specs.declared.power.Power.{Power}
use Rattle.modules.specs.declared.power.Power.TheVariants.{On, Off, Failed}
use Rattle.modules.specs.declared.power.Module.{Module}

-- the most tries that a module has
abbrev pub full_tries : ℕ
full_tries = 5

-- the seconds that a failed module waits
abbrev pub retry_seconds : ℕ
retry_seconds = 600

-- the seconds in a row, on and without a short, after which a module has all tries again
abbrev pub clean_seconds : ℕ
clean_seconds = 60

-- a short takes one try: off with one fewer; at none, failed with 600 left
abbrev pub one_try_fewer : (tries : ℕ) → Power
one_try_fewer tries = when eqb (tries - 1) 0 then Failed retry_seconds else Off (tries - 1)

-- a module keeps its tries when it starts; the tick that starts it is not counted
abbrev pub started : (tries : ℕ) → Power
started tries = On tries 0

-- with 5 tries it stays as it is; else the seconds grow by 1, and at 60 the tries are 5 and the seconds 0
abbrev pub stayed_on : (tries seconds : ℕ) → Power
stayed_on tries seconds =
    when eqb tries full_tries then On tries seconds else
    when ltb (seconds + 1) clean_seconds then On tries (seconds + 1) else started full_tries

-- on, short: one try fewer. On, no short, not wanted: off with the tries it has. Else it stays on
abbrev pub on_switched : (wanted short : Bool) (tries seconds : ℕ) → Power
on_switched wanted true tries seconds = one_try_fewer tries
on_switched false false tries seconds = Off tries
on_switched true false tries seconds = stayed_on tries seconds

-- off, not wanted: stays. Off, wanted, no short: on with the tries it has. Off, wanted, short: one try fewer
abbrev pub off_switched : (wanted short : Bool) (tries : ℕ) → Power
off_switched false short tries = Off tries
off_switched true false tries = started tries
off_switched true true tries = one_try_fewer tries

-- failed, left 0, not wanted: stays. Wanted, no short: on with 1 try. Wanted, short: left is 600 again
abbrev pub attempted : (wanted short : Bool) → Power
attempted false short = Failed 0
attempted true false = started 1
attempted true true = Failed retry_seconds

-- failed, left above 0: left falls by 1, no attempt in this tick
abbrev pub failed_switched : (wanted short : Bool) (left : ℕ) → Power
failed_switched wanted short left = when ltb 0 left then Failed (left - 1) else attempted wanted short

-- one second, by what the module is
unfoldable pub switched : (wanted short : Bool) → Power → Power
switched wanted short (On tries seconds) = on_switched wanted short tries seconds
switched wanted short (Off tries) = off_switched wanted short tries
switched wanted short (Failed left) = failed_switched wanted short left

-- on with tries 1 to 5 and seconds 0 to 59 (held at 0 once tries are 5), off with tries left (1 to 5), or failed with
-- seconds left (0 to 600)
abbrev pub power_in_range : Power → Bool
power_in_range (On tries seconds) =
    when eqb tries full_tries then eqb seconds 0 else within 1 full_tries tries && ltb seconds clean_seconds
power_in_range (Off tries) = within 1 full_tries tries
power_in_range (Failed left) = leb left retry_seconds

-- whether a module is powered
abbrev pub is_on : Power → Bool
is_on (On tries seconds) = true
is_on (Off tries) = false
is_on (Failed left) = false

-- whether it is given up
abbrev pub is_failed : Power → Bool
is_failed (On tries seconds) = false
is_failed (Off tries) = false
is_failed (Failed left) = true

-- the tries that it has; given up, none
abbrev pub tries_left : Power → ℕ
tries_left (On tries seconds) = tries
tries_left (Off tries) = tries
tries_left (Failed left) = 0

-- a module with another power
abbrev pub with_power : Power → Module → Module
with_power power m = record { power = power; requested = m.requested }

-- a module with another request
abbrev pub with_request : Bool → Module → Module
with_request requested m = record { power = m.power; requested = requested }
