-- Which texts may be keyed: up to 64 bytes of the alphabet and single inner spaces.
-- Assumes nothing.
use Rattle.std.specs.Prelude.{ℕ, ◌-◌, Bool, true, false, not, ◌&&◌, ◌||◌, List, [], ◌∷◌, eqb, ltb, length, get_or}
use Rattle.std.specs.Prelude.{Result, Ok, Err, is_ok}
use Rattle.basics.specs.Choice.{when◌then◌else◌}
use Rattle.basics.specs.Bytes.{space}
use Rattle.morse.specs.Answers.{done, text_too_long, not_keyable, bad_space}
use Rattle.morse.specs.Signs.{sign_of, signed}
use Rattle.morse.specs.declared.texts.Fault.{Fault}
use Rattle.morse.specs.declared.texts.Fault.TheVariants.{TextTooLong, NotKeyable, BadSpace}

-- the most bytes
abbrev pub longest : ℕ
longest = 64

-- whether a byte is a space
abbrev pub is_space : ℕ → Bool
is_space c = eqb c space

-- a byte of the alphabet: the space, or one that has a sign
abbrev pub known : ℕ → Bool
known c = is_space c || signed (sign_of c)

-- all bytes are of the alphabet
abbrev pub all_known : List ℕ → Bool
all_known [] = true
all_known (c ∷ t) = known c && all_known t

-- a space after a space
abbrev pub doubled : List ℕ → Bool
doubled [] = false
doubled (c ∷ t) = is_space c && is_space (get_or t 0 0) || doubled t

-- a space first or last
abbrev pub is_edged : List ℕ → Bool
is_edged t = is_space (get_or t 0 0) || is_space (get_or t (length t - 1) 0)

-- a space first, last or doubled
abbrev pub badly_spaced : List ℕ → Bool
badly_spaced t = is_edged t || doubled t

-- whether a text may be keyed, and if not, why: the first that applies
unfoldable pub fault_of : List ℕ → Result Unit Fault
fault_of t =
    when ltb longest (length t) then Err TextTooLong
    else when not (all_known t) then Err NotKeyable
    else when badly_spaced t then Err BadSpace
    else Ok tt

-- the page's number of a fault
abbrev pub fault_number : Fault → ℕ
fault_number TextTooLong = text_too_long
fault_number NotKeyable = not_keyable
fault_number BadSpace = bad_space

-- the page's number of what is found of a text: 0 where it may be keyed
abbrev pub found_number : Result Unit Fault → ℕ
found_number (Ok _) = done
found_number (Err fault) = fault_number fault

-- a text that keying takes
abbrev pub is_keyable : List ℕ → Bool
is_keyable t = is_ok (fault_of t)
