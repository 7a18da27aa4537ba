-- Numbers on either side: the fourteen that the page marks to be proved, each through the definition that a public
-- call's contract cites.
-- Assumes nothing.
use Rattle.frames.specs.Serial.{both}
use Rattle.std.specs.Prelude.{ℕ, ◌/◌, ◌%◌, ◌≡◌, Bool, true, false, List, [], ◌∷◌, replicate}
use Rattle.basics.specs.Outcome.{reply}
use Rattle.modules.specs.Power.{switched}
use Rattle.modules.specs.declared.power.Power.{Power}
use Rattle.modules.specs.declared.power.Power.TheVariants.{Off, Failed}
use Rattle.frames.specs.Kind.{tick_kind, order_kind}
use Rattle.frames.specs.Sender.{ground_origin}
use Rattle.frames.specs.declared.serial.Class.{Class}
use Rattle.frames.specs.declared.serial.Class.TheVariants.{Repeat, Fresh, Stale}
use Rattle.supervisor.specs.State.{with_mode, with_control, with_tension, with_serials}
use Rattle.supervisor.specs.Fresh.{fresh_state}
use Rattle.supervisor.specs.History.{Call, called, answered}
use Rattle.supervisor.specs.declared.state.Mode.{Mode}
use Rattle.supervisor.specs.declared.state.Mode.TheVariants.{Recovery, Safe}
use Rattle.supervisor.specs.declared.state.State.{State}
use Rattle.morse.specs.Keying.{key_of, key_reply}

-- a row: what is given, and what comes of it
pub data Row : Type 0 where
  -- ground's last serial, the serial of an order; what the order's answer says of it
  serial : (last serial : ℕ) → Class → Row
  -- a mode and a tension, with ascend 7,400, descend 7,000 and the control count at 29; the mode after a done tick
  tick : Mode → (tension : ℕ) → Mode → Row
  -- a module in a second in which it is wanted or not, and short or not; the module after it
  power : (wanted short : Bool) → Power → Power → Row
  -- a text; the count of units that keying it returns
  units : (text : List ℕ) → (count : ℕ) → Row

-- room for the report; room for the units
abbrev room : List ℕ
room = replicate 64 0

-- a board fresh but for ground's last serial
abbrev last_at : ℕ → State
last_at last = with_serials (both last 0) fresh_state

-- one that the next tick judges, fresh but for its mode and tension
abbrev judged_next : Mode → ℕ → State
judged_next mode tension = with_control 29 (with_mode mode (with_tension tension fresh_state))

-- a call with these bytes
abbrev send : List ℕ → Call
send bytes = record { input = bytes; room = room }

-- ground's order to switch MCS off, with a serial
abbrev order_with : ℕ → List ℕ
order_with n = order_kind ∷ ground_origin ∷ n / 256 ∷ n % 256 ∷ 0 ∷ 0 ∷ []

-- a tick without shorts
abbrev quiet_tick : List ℕ
quiet_tick = tick_kind ∷ 0 ∷ []

-- the answer to an "off", by what its serial is
abbrev answer_to : Class → ℕ
answer_to Repeat = 8
answer_to Stale = 9
answer_to Fresh = 0

-- a tick is done, and after it the mode was judged: this mode, the control count back at 0, the beacon count 1
pub record Judged (s : State) (next : Mode) : Type 0 where
  pub done : answered s (send quiet_tick) ≡ 0
  pub watch : (called s (send quiet_tick)).result.state.watch ≡ record { mode = next; control = 0; beacon = 1 }

-- what a row says
abbrev pub Holds : Row → Type 0
Holds (serial last n class) = answered (last_at last) (send (order_with n)) ≡ answer_to class
Holds (tick mode tension next) = Judged (judged_next mode tension) next
Holds (power wanted short before next) = switched wanted short before ≡ next
Holds (units text count) = key_reply (key_of text room).result ≡ reply 0 count

-- the rows; the texts are `E`, `E E`, `R`, `PARIS`
abbrev pub rows : List Row
rows =
    serial 65535 0 Fresh
    ∷ serial 0 0 Repeat
    ∷ serial 0 32767 Fresh
    ∷ serial 0 32768 Stale
    ∷ tick Recovery 7400 Recovery
    ∷ tick Recovery 7401 Safe
    ∷ tick Safe 7000 Safe
    ∷ tick Safe 6999 Recovery
    ∷ power true true (Off 1) (Failed 600)
    ∷ power true false (Failed 1) (Failed 0)
    ∷ units (69 ∷ []) 1
    ∷ units (69 ∷ 32 ∷ 69 ∷ []) 9
    ∷ units (82 ∷ []) 7
    ∷ units (80 ∷ 65 ∷ 82 ∷ 73 ∷ 83 ∷ []) 43
    ∷ []

-- each row of a table holds
abbrev pub Each : List Row → Type 0
Each [] = Unit {0}
Each (row ∷ rest) = Holds row × Each rest

-- all fourteen
abbrev pub Numbers : Type 0
Numbers = Each rows
