-- A greeting's text: up to 16 characters that keying takes, in sixteen bytes.
-- Assumes nothing.
use Rattle.std.specs.Prelude.{ℕ, Bool, true, ◌&&◌, List, [], ◌∷◌, length, take, drop, replicate, ◌==◌, nat_le}
use Rattle.basics.specs.Choice.{when◌then◌else◌}
use Rattle.morse.specs.Texts.{is_keyable}
use Rattle.frames.specs.Kind.{greeting_bytes}

-- the text bytes, and the most characters
abbrev pub longest_greeting : ℕ
longest_greeting = 16

-- the place of the text in a frame: after kind, origin, serial (2), repeats, length
abbrev pub text_place : ℕ
text_place = 6

-- all bytes are 0
abbrev pub all_zero : List ℕ → Bool
all_zero [] = true
all_zero (byte ∷ bytes) = byte == 0 && all_zero bytes

-- sixteen text bytes; length 0 to 16; the text must be one that keying takes; those past the length are 0
unfoldable pub is_greeting : (characters : ℕ) (text : List ℕ) → Bool
is_greeting characters text =
    (length text == longest_greeting) && nat_le characters longest_greeting
    && is_keyable (take characters text) && all_zero (drop characters text)

-- the text bytes of a frame that is as long as a greeting; beside any other, zeros
unfoldable pub greeting_text : List ℕ → List ℕ
greeting_text bytes =
    when length bytes == greeting_bytes then drop text_place bytes else replicate longest_greeting 0
