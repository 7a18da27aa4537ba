-- What the decoder hears of units. No promise speaks of it: reading's contract is over `Keys`. These definitions say
-- only what the decoding code does, so that two theorems can say that it is right. Assumes nothing.
use Rattle.std.specs.Prelude.{ℕ, ◌≡◌, ◌+◌, not, List, [], ◌∷◌, ◌++◌, Option, Some, None, eqb, length}
use Rattle.std.specs.Option.{option_map, option_and_then}
use Rattle.std.proofs.lemmas.List.Edits.{sets}
use Rattle.basics.specs.Choice.{when◌then◌else◌}
use Rattle.basics.specs.Bytes.{space}
use Rattle.morse.specs.Units.{inside_sign, between_signs, between_words}
use Rattle.hearing.specs.Numbers.{byte_of, after_mark}
use Rattle.hearing.specs.declared.decoding.Ear.{Ear}
use Rattle.hearing.specs.declared.decoding.Told.{Told}
use Rattle.hearing.specs.declared.decoding.Told.TheVariants.{On, Sign, Word}

-- what is heard of the sign at hand
abbrev pub ear : (number down up : ℕ) → Ear
ear number down up = record { number = number; down = down; up = up }

-- what is heard of a sign by its first unit
abbrev pub begun : Ear
begun = ear 1 1 0

-- what a longer gap tells of the byte whose sign stands before it, if a keying has it
abbrev pub over : (gap byte : ℕ) → Option Told
over gap byte =
    when eqb gap between_signs then Some (Sign byte)
    else when eqb gap between_words then Some (Word byte)
    else None

-- what a gap tells, once the key is down again, after marks with this number, if a keying has it
unfoldable pub after_gap : (number gap : ℕ) → Option Told
after_gap number gap =
    when eqb gap inside_sign then (when eqb number 0 then None else Some (On (ear number 1 0)))
    else option_and_then (over gap) (byte_of number)

-- what one more unit tells, if a keying has it
unfoldable pub told_by : Ear → (unit : ℕ) → Option Told
told_by e unit =
    when eqb unit 0 then Some (On (ear e.number e.down (e.up + 1)))
    else when not (eqb unit 1) then None
    else when eqb e.up 0 then Some (On (ear e.number (e.down + 1) e.up))
    else option_and_then (λ number. after_gap number e.up) (after_mark e.number e.down)

-- the byte of a sign that nothing follows, if any
unfoldable pub last_of : Ear → Option ℕ
last_of e = when eqb e.up 0 then option_and_then byte_of (after_mark e.number e.down) else None

-- bytes, and the text that is heard after them
abbrev pub after : List ℕ → Option (List ℕ) → Option (List ℕ)
after bytes = option_map (λ text. bytes ++ text)

-- the text that is heard from what a unit tells on, by what is heard of the units after it
abbrev pub heard_from : Option Told → (Ear → Option (List ℕ)) → Option (List ℕ)
heard_from None rest = None
heard_from (Some (On e)) rest = rest e
heard_from (Some (Sign byte)) rest = after (byte ∷ []) (rest begun)
heard_from (Some (Word byte)) rest = after (byte ∷ space ∷ []) (rest begun)

-- the text that is heard of the units that are left, if any
abbrev pub hear : Ear → List ℕ → Option (List ℕ)
hear e [] = option_map (λ byte. byte ∷ []) (last_of e)
hear e (unit ∷ units) = heard_from (told_by e unit) (λ e. hear e units)

-- the text that is heard of units, if any; no units are the empty text
unfoldable pub heard : List ℕ → Option (List ℕ)
heard [] = Some []
heard (unit ∷ units) = hear (ear 1 0 0) (unit ∷ units)

-- what the decoder leaves of a text, stored from a place on as far as a room goes: the place after it; none where there is
-- no text
abbrev pub Decoded : (at : ℕ) → Option (List ℕ) → (room : List ℕ) (count : Option ℕ) (later : List ℕ) → Type 0
Decoded at None room count later = count ≡ None
Decoded at (Some text) room count later = (count ≡ Some (at + length text)) × (later ≡ sets room at text)
