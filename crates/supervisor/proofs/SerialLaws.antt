-- One origin's view of a frame: none of its own, or a command of its own; and what becomes of its last serial.
-- Assumes nothing.
use Prim.Native.Nat.{ℕ}
use mathlib.Core.Path.{◌≡◌, refl, ap, ◌∙◌}
use mathlib.Core.List.{[], ◌∷◌}
use Rattle.std.specs.Prelude.{Ok}
use Rattle.basics.specs.Choice.{when◌then◌else◌}
use Rattle.frames.specs.Serial.{last_of, moved_to}
use Rattle.frames.specs.About.{about, same_origin, serial_from}
use Rattle.frames.specs.declared.sender.Origin.{Origin}
use Rattle.frames.specs.declared.sender.Origin.TheVariants.{Ground, Payload}
use Rattle.frames.specs.declared.sender.Sender.{Sender}
use Rattle.frames.specs.declared.serial.Class.{Class}
use Rattle.frames.specs.declared.serial.Class.TheVariants.{Repeat, Fresh, Stale}
use Rattle.frames.specs.declared.frame.Frame.{Frame}
use Rattle.supervisor.specs.Command.{class_in}
use Rattle.supervisor.specs.declared.acted.Acted.{Acted}
use Rattle.supervisor.specs.declared.state.State.{State}
use Rattle.supervisor.proofs.CommandLaws.{Judged, Answers, news, judged}

-- a sender of an origin, with a serial
abbrev pub from : Origin → (serial : ℕ) → Sender
from origin serial = record { origin = origin; serial = serial }

pub data View (origin : Origin) (f : Frame) (s : State) (a : Acted) : Type 0 where
  foreign : serial_from origin (about (Ok f)) ≡ [] → last_of origin a.state.serials ≡ last_of origin s.serials → View origin f s a
  own :
      (serial : ℕ) → serial_from origin (about (Ok f)) ≡ serial ∷ [] → Judged (class_in s (from origin serial)) (from origin serial) s a →
      View origin f s a

other_last :
    (class : Class) (origin : Origin) (sender : Sender) (s : State) (a : Acted) →
    last_of origin (moved_to sender.origin sender.serial s.serials) ≡ last_of origin s.serials → Judged class sender s a →
    last_of origin a.state.serials ≡ last_of origin s.serials
other_last Repeat origin sender s a e d = ap (λ t. last_of origin t.serials) d.1
other_last Stale origin sender s a e d = ap (λ t. last_of origin t.serials) d.1
other_last Fresh origin sender s a e d = ap (last_of origin) d.serials ∙ e

by_origin :
    (origin by : Origin) (serial : ℕ) (f : Frame) (s : State) (a : Acted) →
    serial_from origin (about (Ok f)) ≡ (when same_origin origin by then serial ∷ [] else []) →
    Judged (class_in s (from by serial)) (from by serial) s a → View origin f s a
by_origin Ground Ground serial f s a b d = own serial b d
by_origin Payload Payload serial f s a b d = own serial b d
by_origin Ground Payload serial f s a b d = foreign b (other_last (class_in s (from Payload serial)) Ground (from Payload serial) s a refl d)
by_origin Payload Ground serial f s a b d = foreign b (other_last (class_in s (from Ground serial)) Payload (from Ground serial) s a refl d)

pub view : (origin : Origin) (f : Frame) (s : State) (a : Acted) → Answers f s a → View origin f s a
view origin f s a (news b e k) = foreign (b origin) (ap (last_of origin) k)
view origin f s a (judged sender b d) = by_origin origin sender.origin sender.serial f s a (b origin) d

-- the last serial after a command of its own, by the command's class
abbrev pub moved : Class → (serial last : ℕ) → ℕ
moved Repeat serial last = last
moved Stale serial last = last
moved Fresh serial last = serial

last_moved : (origin : Origin) (serial : ℕ) (s : State) → last_of origin (moved_to origin serial s.serials) ≡ serial
last_moved Ground serial s = refl
last_moved Payload serial s = refl

pub judged_last :
    (origin : Origin) (class : Class) (serial : ℕ) (s : State) (a : Acted) → Judged class (from origin serial) s a →
    last_of origin a.state.serials ≡ moved class serial (last_of origin s.serials)
judged_last origin Repeat serial s a d = ap (λ t. last_of origin t.serials) d.1
judged_last origin Stale serial s a d = ap (λ t. last_of origin t.serials) d.1
judged_last origin Fresh serial s a d = ap (last_of origin) d.serials ∙ last_moved origin serial s
