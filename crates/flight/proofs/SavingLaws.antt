-- Laws of saving: an image's length, the ranges of what it holds, and how it is stored part by part.
-- Assumes nothing.
use Prim.Native.Nat.{ℕ, zero, suc, ◌+◌, ◌-◌, ◌*◌, ◌/◌, ◌%◌, ◌<◌, ◌≤◌}
use native.Mathlib.Omega.{arith}
use native.Mathlib.Nat.{le_of_suc-le-suc, not-suc-le-zero}
use native.Mathlib.Numerals.{add-one}
use mathlib.Core.Path.{◌≡◌, refl, sym, ap, ◌∙◌}
use mathlib.Core.Bool.{true}
use mathlib.Core.List.{List, [], ◌∷◌, ◌++◌, append-nil, append_assoc}
use lib.Dec.{T}
use lib.ListN.{length, get_or, take, drop, length-append, drop_of_length-le}
use lib.Seq.{sets, sets-eq, drop-cons, drop-drop}
use Rattle.std.specs.Int.{w16, w32, to_le_bytes}
use Rattle.basics.proofs.ChoiceLaws.{holds, is_true, and_left, and_right}
use Rattle.basics.proofs.Stores.{sets_append, sets_front}
use Rattle.modules.specs.Power.{power_in_range}
use Rattle.modules.specs.Stage.{modules_in_range}
use Rattle.modules.specs.declared.power.Module.{Module}
use Rattle.frames.specs.Greeting.{longest_greeting}
use Rattle.supervisor.specs.Range.{watch_in_range, in_range}
use Rattle.supervisor.specs.declared.state.Mode.{Mode}
use Rattle.supervisor.specs.declared.state.Mode.TheVariants.{DeployWait, Recovery, Safe}
use Rattle.supervisor.specs.declared.state.State.{State}
use Rattle.supervisor.proofs.ModuleLaws.{Eight}
use Rattle.supervisor.proofs.RangeLaws.{parts, phase_in_range_law}
use Rattle.supervisor.proofs.MessageLaws.{message_fair}
use Rattle.flight.specs.Fields.{pair_bytes, quad_bytes}
use Rattle.flight.specs.Codes.{safe_code, mode_code, module_code}
use Rattle.flight.specs.Saving.{image_bytes, message_place, ends_place, masks_place, modules_place}
use Rattle.flight.specs.Saving.{message_bytes, ends_bytes, masks_bytes, modules_bytes, head_bytes, saved}
use Rattle.flight.proofs.CodesLaws.{mode_in_range, mode_small}

-- two bytes a module
length_modules : (ms : List Module) → length (modules_bytes ms) ≡ 2 * length ms
unfolding modules_bytes
length_modules [] = refl
length_modules (m ∷ ms) = omega (arith, length_modules ms)

-- sixteen bytes of the message's text
pub sixteen : (s : State) → in_range s ≡ true → length s.message.text ≡ longest_greeting
sixteen s e = (message_fair s (holds (in_range s) e)).sixteen

-- all but the ends and the modules
abbrev pub front_bytes : State → List ℕ
front_bytes s = head_bytes s ++ message_bytes s.message

pub length_front : (s : State) → in_range s ≡ true → length (front_bytes s) ≡ ends_place
unfolding head_bytes message_bytes
length_front s e = omega (arith, sixteen s e)

pub length_ends : (s : State) → in_range s ≡ true → length (front_bytes s ++ ends_bytes s.ends) ≡ masks_place
unfolding ends_bytes
length_ends s e = length-append (front_bytes s) (ends_bytes s.ends) ∙ rw (length_front s e)

-- all but the modules
abbrev pub before_modules_bytes : State → List ℕ
before_modules_bytes s = front_bytes s ++ ends_bytes s.ends ++ masks_bytes s.masks

pub length_masks : (s : State) → in_range s ≡ true → length (before_modules_bytes s) ≡ modules_place
unfolding masks_bytes
length_masks s e = length-append (front_bytes s ++ ends_bytes s.ends) (masks_bytes s.masks) ∙ rw (length_ends s e)

pub length_saved : (s : State) → in_range s ≡ true → Eight s → length (saved s) ≡ image_bytes
unfolding saved
length_saved s e eight =
    length-append (before_modules_bytes s) (modules_bytes s.modules)
    ∙ rw (length_masks s e, length_modules s.modules, eight)

-- of a state in range, the mode and each module are in range

watch_mode : (m : Mode) (control beacon : ℕ) → T (watch_in_range m control beacon) → T (mode_in_range m)
watch_mode (DeployWait phase) control beacon h = phase_in_range_law phase control beacon h
watch_mode Recovery control beacon h = tt
watch_mode Safe control beacon h = tt

module _ (s : State) (e : in_range s ≡ true) where
  pub mode_in_range_law : T (mode_in_range s.watch.mode)
  mode_in_range_law = watch_mode s.watch.mode s.watch.control s.watch.beacon (parts s (holds (in_range s) e)).watch

  pub mode_code_small : mode_code s.watch.mode ≤ safe_code
  mode_code_small = mode_small s.watch.mode mode_in_range_law

  pub modules_in_range_law : modules_in_range s.modules ≡ true
  modules_in_range_law = is_true (modules_in_range s.modules) (parts s (holds (in_range s) e)).modules

pub module_in_range : (ms : List Module) (i : ℕ) (d : Module) → i < length ms → T (modules_in_range ms) → T (power_in_range (get_or ms i d).power)
unfolding modules_in_range
module_in_range [] i d h r = absurd (not-suc-le-zero h)
module_in_range (m ∷ ms) zero d h r = and_left (power_in_range m.power) (modules_in_range ms) r
module_in_range (m ∷ ms) (suc i) d h r = module_in_range ms i d (le_of_suc-le-suc h) (and_right (power_in_range m.power) (modules_in_range ms) r)

-- storing, part by part

-- two bytes of a number that are had of it as one of 16 bits, and four as one of 32
pub pair_of : (n : ℕ) → n < 65536 → to_le_bytes w16 n ≡ pair_bytes n
pair_of n h = ap (λ high. n % 256 ∷ high ∷ []) (omega arith)

pub quad_of : (n : ℕ) → n < 4294967296 → to_le_bytes w32 n ≡ quad_bytes n
quad_of n h = ap (λ high. n % 256 ∷ n / 256 % 256 ∷ n / 65536 % 256 ∷ high ∷ []) (omega arith)

-- a module's bytes, and then those of the modules after it
pub stored_turn :
    (ms : List Module) (i at next : ℕ) (room bytes : List ℕ) (d : Module) → i < length ms → bytes ≡ pair_bytes (module_code (get_or ms i d)) →
    next ≡ at + 2 → sets (sets room at bytes) next (modules_bytes (drop (i + 1) ms)) ≡ sets room at (modules_bytes (drop i ms))
unfolding modules_bytes
stored_turn ms i at next room bytes d h e n =
    let own = pair_bytes (module_code (get_or ms i d)) in
    let rest : drop i ms ≡ get_or ms i d ∷ drop (i + 1) ms = rw add-one (drop-cons ms i d h) in
    rw (e, rest, n) (sym (sets_append own (modules_bytes (drop (i + 1) ms)) room at))

-- a part of a room, from a place on, that is written over
pub part_stored :
    (room part : List ℕ) (at n : ℕ) → length part ≡ n → at + n ≤ length room →
    take at room ++ (part ++ drop (at + n - at) (drop at room)) ≡ sets room at part
part_stored room part at n long h =
    let size : at + n - at ≡ length part = omega (arith, long) in
    rw (size, drop-drop (length part) at room)
    (sym (append_assoc (take at room) part (drop (at + length part) room)) ∙ sym (sets-eq part room at (omega (arith, long))))

from_start : {n m : ℕ} → n ≡ m → n ≡ 0 + m
from_start e = omega (arith, e)

-- the head, the message, the ends, the masks and the modules, one after another
pub stored_state :
    (s : State) (room : List ℕ) → in_range s ≡ true → Eight s → length room ≡ image_bytes →
    sets
    (sets (sets (sets (sets room 0 (head_bytes s)) message_place (message_bytes s.message)) ends_place (ends_bytes s.ends)) masks_place
    (masks_bytes s.masks)) modules_place (modules_bytes s.modules) ≡ saved s
unfolding saved head_bytes
stored_state s room valid eight fits =
    let n = length_saved s valid eight in
    let message = message_bytes s.message in
    let ends = ends_bytes s.ends in
    let masks = masks_bytes s.masks in
    let modules = modules_bytes s.modules in
    ap (λ r. sets (sets (sets r ends_place ends) masks_place masks) modules_place modules) (sym (sets_append (head_bytes s) message room 0))
    ∙ ap (λ at. sets (sets (sets (sets room 0 (front_bytes s)) at ends) masks_place masks) modules_place modules) (from_start (sym (length_front s valid)))
    ∙ ap (λ r. sets (sets r masks_place masks) modules_place modules) (sym (sets_append (front_bytes s) ends room 0))
    ∙ ap (λ at. sets (sets (sets room 0 (front_bytes s ++ ends)) at masks) modules_place modules) (from_start (sym (length_ends s valid)))
    ∙ ap (λ r. sets r modules_place modules) (sym (sets_append (front_bytes s ++ ends) masks room 0))
    ∙ ap (λ at. sets (sets room 0 (before_modules_bytes s)) at modules) (from_start (sym (length_masks s valid)))
    ∙ sym (sets_append (before_modules_bytes s) modules room 0)
    ∙ sets_front (saved s) room (omega arith)
    ∙ ap (λ l. saved s ++ l) (drop_of_length-le room {i = length (saved s)} (omega arith))
    ∙ append-nil (saved s)
