-- The kinds of frames: their numbers, and their total lengths.
-- Assumes nothing.
use Rattle.std.specs.Prelude.{◌≡◌, ℕ, ◌+◌, Bool, false, T, List, ◌==◌, slice_index}
use Rattle.std.specs.Prelude.{Option, Some, None, Result, MatchResult}
use Rattle.basics.specs.Choice.{when◌then◌else◌, within}
use Rattle.basics.specs.Tables.{all_below}
use Rattle.frames.specs.declared.kind.Kind.{Kind}
use Rattle.frames.specs.declared.kind.Kind.TheVariants.{Tick, Battery, Antennas, Order, Thresholds, Timed, Greeting}
use Rattle.frames.specs.declared.kind.NoKind.{NoKind}

-- 01 tick: mask of shorts seen in this second
abbrev pub tick_kind : ℕ
tick_kind = 1

-- 02 battery: millivolts
abbrev pub battery_kind : ℕ
battery_kind = 2

-- 03 antennas: 0 folded, 1 deployed
abbrev pub antennas_kind : ℕ
antennas_kind = 3

-- 04 order: origin, serial, module, wanted
abbrev pub order_kind : ℕ
order_kind = 4

-- 05 thresholds: origin, serial, ascend, descend
abbrev pub thresholds_kind : ℕ
thresholds_kind = 5

-- 06 timed order: origin, serial, module, minutes
abbrev pub timed_kind : ℕ
timed_kind = 6

-- 07 greeting: origin, serial, repeats, length, sixteen text bytes
abbrev pub greeting_kind : ℕ
greeting_kind = 7

-- the bytes of a greeting
abbrev pub greeting_bytes : ℕ
greeting_bytes = 22

-- 81 report, which is only written
abbrev pub report_kind : ℕ
report_kind = 0x81

-- its total
abbrev pub report_bytes : ℕ
report_bytes = 11

-- the total of each kind that is read; an unknown kind has none
unfoldable pub total_of : ℕ → ℕ
total_of kind =
    when kind == tick_kind then 2 else
    when kind == battery_kind then 3 else
    when kind == antennas_kind then 2 else
    when kind == order_kind then 6 else
    when kind == thresholds_kind then 8 else
    when kind == timed_kind then 7 else
    when kind == greeting_kind then greeting_bytes else 0

-- the same, where there is one
unfoldable pub known_total : ℕ → Option ℕ
known_total kind = when total_of kind == 0 then None else Some (total_of kind)

-- from a kind to its number
abbrev pub kind_number : Kind → ℕ
kind_number Tick = tick_kind
kind_number Battery = battery_kind
kind_number Antennas = antennas_kind
kind_number Order = order_kind
kind_number Thresholds = thresholds_kind
kind_number Timed = timed_kind
kind_number Greeting = greeting_kind

-- a byte that is a kind's number: 01 to 07
abbrev pub is_kind : ℕ → Bool
is_kind byte = within tick_kind greeting_kind byte

-- a byte read: the kind whose number it is, or the byte again, where it is none's
abbrev pub ReadsKind : ℕ → Result Kind NoKind → Type 0
ReadsKind byte r = MatchResult r (λ kind. kind_number kind ≡ byte) (λ none. (none.0 ≡ byte) × (is_kind byte ≡ false))

-- the rule of the code's table at a number: it is that number's total
abbrev pub is_total : List ℕ → ℕ → Bool
is_total table kind = slice_index table kind == total_of kind

-- it has the totals up to the last kind's
abbrev pub HasTotals : List ℕ → Type 0
HasTotals table = T (all_below (is_total table) (greeting_kind + 1))
