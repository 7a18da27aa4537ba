-- Who sends a command: origin is 1 (ground, through MCS) or 2 (the payload).
-- Assumes nothing.
use Rattle.std.specs.Prelude.{◌≡◌, ℕ, Bool, false, ◌==◌, Result, MatchResult}
use Rattle.basics.specs.Choice.{when◌then◌else◌, within}
use Rattle.frames.specs.declared.sender.Origin.{Origin}
use Rattle.frames.specs.declared.sender.Origin.TheVariants.{Ground, Payload}
use Rattle.frames.specs.declared.sender.NoOrigin.{NoOrigin}

-- ground's number
abbrev pub ground_origin : ℕ
ground_origin = 1

-- the payload's
abbrev pub payload_origin : ℕ
payload_origin = 2

-- a byte that is one of them
abbrev pub is_origin : ℕ → Bool
is_origin byte = within ground_origin payload_origin byte

-- from an origin to its number
abbrev pub origin_number : Origin → ℕ
origin_number Ground = ground_origin
origin_number Payload = payload_origin

-- and back
abbrev pub origin_from : ℕ → Origin
origin_from byte = when byte == ground_origin then Ground else Payload

-- a byte read: the origin whose number it is, or the byte again, where it is none's
abbrev pub ReadsOrigin : ℕ → Result Origin NoOrigin → Type 0
ReadsOrigin byte r =
    MatchResult r (λ origin. origin_number origin ≡ byte) (λ none. (none.0 ≡ byte) × (is_origin byte ≡ false))
