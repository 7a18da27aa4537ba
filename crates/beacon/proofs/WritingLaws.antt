-- Laws of writing a beacon's text: what each test makes of it.
-- Assumes nothing.
use mathlib.Core.Path.{◌≡◌}
use mathlib.Core.Bool.{true, false}
use mathlib.Core.List.{List, ◌++◌}
use Prim.Native.Nat.{ℕ, ◌<◌, ◌≤◌}
use lib.ListN.{length, take, drop}
use lib.Seq.{take-length}
use borrow.Author.Tests.{lt-ltb, le-ltb}
use Rattle.std.specs.Prelude.{Ok, Err}
use Rattle.basics.specs.Outcome.{outcome}
use Rattle.supervisor.specs.Range.{in_range}
use Rattle.supervisor.specs.declared.state.State.{State}
use Rattle.beacon.specs.Text.{text_of, has_text}
use Rattle.beacon.specs.Writing.{beacon_of}
use Rattle.supervisor.specs.declared.form.Form.{Form}
use Rattle.beacon.specs.declared.writing.WriteFault.TheVariants.{BadState, NoMessage, NoRoom}

module _ (form : Form) (s : State) (room : List ℕ) where
  pub beacon_outside : in_range s ≡ false → outcome (Err BadState) room ≡ beacon_of form s room
  unfolding beacon_of
  beacon_outside e = simp e

  module _ (e : in_range s ≡ true) where
    pub beacon_silent : has_text form s.message.length ≡ false → outcome (Err NoMessage) room ≡ beacon_of form s room
    unfolding beacon_of
    beacon_silent h = rw (e, h)

    module _ (had : has_text form s.message.length ≡ true) where
      pub beacon_short : length room < length (text_of form s) → outcome (Err NoRoom) room ≡ beacon_of form s room
      unfolding beacon_of
      beacon_short h = rw (e, had, lt-ltb _ _ h)

      -- the text, copied from where it stands
      pub beacon_copied : {n : ℕ} {after : List ℕ} (src : List ℕ) → src ≡ text_of form s → length (text_of form s) ≤ length room
          → n ≡ length src → after ≡ take (length src) src ++ drop (length src) room → outcome (Ok n) after ≡ beacon_of form s room
      unfolding beacon_of
      beacon_copied src t h p q = rw (e, had, le-ltb _ _ h, p, q, take-length src, t)
