-- The panel tracker: the ranges, the power, and what one call makes of the set point and the step.
-- Assumes nothing.
use Rattle.std.specs.Prelude.{ℕ, ◌*◌, Bool, ◌&&◌, leb, ℤ, pos, neg_ℤ, nat_abs, ◌+ℤ◌, Result, Ok, Err}
use Rattle.std.specs.Int.Signed.{lt_z}
use Rattle.basics.specs.Choice.{when◌then◌else◌, within}
use Rattle.tracker.specs.declared.OutOfRange.{OutOfRange}
use Rattle.tracker.specs.declared.Reading.{Reading}
use Rattle.tracker.specs.declared.Tracked.{Tracked}

-- the highest voltage of a reading, and the highest set point
abbrev pub most_millivolts : ℕ
most_millivolts = 20000

-- the highest current of a reading
abbrev pub most_milliamperes : ℕ
most_milliamperes = 5000

-- the longest step, either way
abbrev pub longest_step : ℕ
longest_step = 500

-- the refusal, and its number
abbrev pub out_of_range : OutOfRange
out_of_range = record {}

abbrev pub track_number : OutOfRange → ℕ
track_number refusal = 16

-- a panel's voltage and current, as whole millivolts and milliamperes, 0 to 20,000 and 0 to 5,000
abbrev pub is_reading : Reading → Bool
is_reading r = leb r.millivolts most_millivolts && leb r.milliamperes most_milliamperes

-- the step is a signed number of millivolts, 1 to 500 either way
abbrev pub is_step : ℤ → Bool
is_step step = within 1 longest_step (nat_abs step)

-- power is their product
abbrev pub power : Reading → ℕ
power r = r.millivolts * r.milliamperes

-- the step keeps its sign if power after the move is at least the power before, else it turns
unfoldable pub headed : (before after : Reading) → ℤ → ℤ
headed before after step = when leb (power before) (power after) then step else neg_ℤ step

-- a call that is done hands back a set point and a step
abbrev pub done : (point : ℕ) (step : ℤ) → Tracked
done point step = record { point = point; step = step }

-- a move that leads so far, within 0 to 20,000: past an end it stops there, and the step handed back is turned
unfoldable pub stopped : (to step : ℤ) → Tracked
stopped to step =
    when lt_z (pos most_millivolts) to then done most_millivolts (neg_ℤ step)
    else when lt_z to (pos 0) then done 0 (neg_ℤ step)
    else done (nat_abs to) step

-- the set point moves by the step
unfoldable pub moved : (point : ℕ) (step : ℤ) → Tracked
moved point step = stopped (pos point +ℤ step) step

-- readings, set point and step are in range
abbrev pub in_range : (before after : Reading) (point : ℕ) (step : ℤ) → Bool
in_range before after point step =
    is_reading before && is_reading after && leb point most_millivolts && is_step step

-- one call; 16 for a reading, set point or step out of range
unfoldable pub track_of : (before after : Reading) (point : ℕ) (step : ℤ) → Result Tracked OutOfRange
track_of before after point step =
    when in_range before after point step then Ok (moved point (headed before after step)) else Err out_of_range

-- where a call leaves the set point and the step: refused, nothing is moved
abbrev pub left_at : (point : ℕ) (step : ℤ) → Result Tracked OutOfRange → Tracked
left_at point step (Ok tracked) = tracked
left_at point step (Err refusal) = done point step

-- what it answers: 0 where it is done, or the refusal's number
abbrev pub track_answer : Result Tracked OutOfRange → ℕ
track_answer (Ok tracked) = 0
track_answer (Err refusal) = track_number refusal
