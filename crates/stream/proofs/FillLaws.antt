-- Laws of a piece filled: its frames entered one a turn, and what it counts within the bytes and the room.
-- Assumes nothing.
use Prim.Native.Nat.{ℕ, zero, suc, ◌+◌, ◌-◌, ◌<◌, ◌≤◌}
use mathlib.Core.Path.{◌≡◌, refl, ap, sym, ◌∙◌}
use mathlib.Core.Bool.{Bool}
use mathlib.Core.Logic.{◌⊎◌, inl, inr}
use mathlib.Core.List.{List, ◌++◌, append_assoc}
use native.Mathlib.Nat.{zero-add, add-zero, add_assoc}
use native.Mathlib.Omega.{arith}
use lib.ListN.{length, take, drop, length-append, length-drop}
use lib.Seq.{length-take-le, take-append-add, drop-append-add, drop-drop}
use Rattle.basics.specs.Outcome.{Outcome, outcome}
use Rattle.basics.proofs.PartLaws.{part_from, lent_back, part_from_law, lent_back_law}
use Rattle.frame_log.specs.Entry.{enter_of}
use Rattle.frame_log.specs.declared.entry.Entered.{Entered}
use Rattle.frame_log.specs.declared.entry.Entry.{Entry}
use Rattle.frame_log.specs.declared.entry.Entry.TheVariants.{Line, Last, More, Full}
use Rattle.frame_log.specs.declared.entry.Log.{Log}
use Rattle.frame_log.proofs.EntryLaws.{Within, enter_within, enter_length, line_within}
use Rattle.stream.specs.Piece.{ending, following, continued, fill_up_to, fill_of}
use Rattle.stream.specs.declared.piece.Filled.{Filled}

-- two stretches are one
following_both :
    (used lines frame line : ℕ) (room later : List ℕ) (rest : Outcome Filled) → lines ≤ length room →
    following used lines room (following frame line later rest) ≡ following (used + frame) (lines + line) (take lines room ++ later) rest
following_both used lines frame line room later rest h =
    let front : length (take lines room) ≡ lines = length-take-le lines room h in
    let both : take (lines + line) (take lines room ++ later) ≡ take lines room ++ take line later = rw front at (take-append-add (take lines room) later line) in
    rw (both, append_assoc, add_assoc used frame, add_assoc lines line)

-- an entry, and what follows it
module _ (entries : ℕ) (log : Log) (bytes : List ℕ) (ended : Bool) (room : List ℕ) {entered : Entered} {later : List ℕ}
    (k : enter_of log bytes ended room ≡ outcome entered later) where
  up_to_line :
      {frame line : ℕ} → entered.entry ≡ Line frame line →
      fill_up_to (suc entries) log bytes ended room ≡ following frame line later (fill_up_to entries entered.log (drop frame bytes) ended (drop line later))
  unfolding fill_up_to
  up_to_line e = rw (k, e)

  up_to_last : {line : ℕ} → entered.entry ≡ Last line → fill_up_to (suc entries) log bytes ended room ≡ ending (Last line) entered.log line later
  unfolding fill_up_to
  up_to_last e = rw (k, e)

  up_to_stop : (entered.entry ≡ More) ⊎ (entered.entry ≡ Full) → fill_up_to (suc entries) log bytes ended room ≡ ending entered.entry entered.log 0 later
  unfolding fill_up_to
  up_to_stop (inl e) = rw (k, e)
  up_to_stop (inr e) = rw (k, e)

-- where the turns of a piece stand: what is used and what the lines have lie within, and what is left makes up the whole
pub record Underway (log₀ : Log) (bytes : List ℕ) (ended : Bool) (room₀ : List ℕ) (log : Log) (room : List ℕ) (used lines : ℕ) : Type 0 where
  pub used_within : used ≤ length bytes
  pub lines_within : lines ≤ length room
  pub same_length : length room ≡ length room₀
  pub entries : ℕ
  pub enough : length bytes - used ≤ entries
  pub rest : following used lines room (fill_up_to (suc entries) log (drop used bytes) ended (drop lines room)) ≡ fill_of log₀ bytes ended room₀

pub underway_start : (log : Log) (bytes : List ℕ) (ended : Bool) (room : List ℕ) → Underway log bytes ended room log room 0 0
unfolding fill_of
underway_start log bytes ended room =
    record {
      used_within = omega arith;
      lines_within = omega arith;
      same_length = refl;
      entries = length bytes;
      enough = omega arith;
      rest = simp zero-add;
    }

-- one entry: the bytes and the room are parts, and the room's part comes back as it was left
module _ {log₀ : Log} {bytes : List ℕ} {ended : Bool} {room₀ : List ℕ} {log : Log} {room : List ℕ} {used lines : ℕ}
    (u : Underway log₀ bytes ended room₀ log room used lines) (entered : Entered) (later : List ℕ)
    (k : outcome entered later ≡ enter_of log (part_from bytes used) ended (part_from room lines)) where
  -- the entry is that of what is left
  entry_left : enter_of log (drop used bytes) ended (drop lines room) ≡ outcome entered later
  entry_left = sym (rw (part_from_law bytes used, part_from_law room lines) at k)

  -- the room after it
  room_after : lent_back room lines later ≡ take lines room ++ later
  room_after = lent_back_law room lines later

  length_later : length later ≡ length room - lines
  length_later = ap (λ (o : Outcome Entered). length o.room) (sym entry_left) ∙ enter_length log (drop used bytes) ended (drop lines room) ∙ length-drop lines room

  -- a line: the turns go on
  pub underway_line : (frame line : ℕ) → entered.entry ≡ Line frame line → Underway log₀ bytes ended room₀ entered.log (lent_back room lines later) (used + frame) (lines + line)
  underway_line frame line e =
      let b = line_within log (drop used bytes) ended (drop lines room) (sym entry_left) e in
      let some : 0 < frame = b.0 in
      let fits : frame ≤ length bytes - used = rw length-drop at b.1 in
      let short : line ≤ length room - lines = rw length-drop at b.2 in
      let front : length (take lines room) ≡ lines = length-take-le lines room u.lines_within in
      let long : length (take lines room ++ later) ≡ length room = rw (length-append, front, length_later) (omega (arith, u.lines_within)) in
      let past : drop (lines + line) (take lines room ++ later) ≡ drop line later = rw front at (drop-append-add (take lines room) later line) in
      let less : suc (u.entries - 1) ≡ u.entries = omega (arith, u.enough) in
      rw room_after
      (record {
        used_within = omega (arith, u.used_within);
        lines_within = rw long (omega (arith, u.lines_within));
        same_length = long ∙ u.same_length;
        entries = u.entries - 1;
        enough = omega (arith, u.enough);
        rest =
            rw (less, past, ← drop-drop frame used bytes)
            (sym (following_both used lines frame line room later (fill_up_to u.entries entered.log (drop frame (drop used bytes)) ended (drop line later)) u.lines_within)
            ∙ ap (following used lines room) (sym (up_to_line u.entries log (drop used bytes) ended (drop lines room) entry_left e)) ∙ u.rest);
      })

  -- a last line: the piece ends with it
  pub underway_last :
      (line : ℕ) → entered.entry ≡ Last line →
      outcome (record { entry = Last line; log = entered.log; used = used; lines = lines + line }) (lent_back room lines later) ≡ fill_of log₀ bytes ended room₀
  underway_last line e = rw room_after (simp (up_to_last u.entries log (drop used bytes) ended (drop lines room) entry_left e, add-zero) at u.rest)

  -- no line: the piece ends there
  pub underway_stop :
      (entered.entry ≡ More) ⊎ (entered.entry ≡ Full) →
      outcome (record { entry = entered.entry; log = entered.log; used = used; lines = lines }) (lent_back room lines later) ≡ fill_of log₀ bytes ended room₀
  underway_stop e = rw room_after (simp (up_to_stop u.entries log (drop used bytes) ended (drop lines room) entry_left e, add-zero) at u.rest)

-- what is used and what the lines have lie within the bytes and the room
abbrev FilledWithin : Outcome Filled → (bytes room : ℕ) → Type 0
FilledWithin o bytes room = (o.result.used ≤ bytes) × (o.result.lines ≤ room)

continued_within :
    (e : Entry) (log : Log) (bytes : ℕ) (later : List ℕ) (rest : (frame line : ℕ) → Outcome Filled) → Within e bytes (length later) →
    ((frame line : ℕ) → FilledWithin (rest frame line) (bytes - frame) (length later - line)) →
    FilledWithin (continued e log later rest) bytes (length later)
continued_within (Line frame line) log bytes later rest w r = let h = r frame line in (omega arith, omega arith)
continued_within (Last line) log bytes later rest w r = (omega arith, w)
continued_within More log bytes later rest w r = (omega arith, omega arith)
continued_within Full log bytes later rest w r = (omega arith, omega arith)

up_to_within : (entries : ℕ) (log : Log) (bytes : List ℕ) (ended : Bool) (room : List ℕ) → FilledWithin (fill_up_to entries log bytes ended room) (length bytes) (length room)
unfolding fill_up_to
up_to_within zero log bytes ended room = (omega arith, omega arith)
up_to_within (suc entries) log bytes ended room =
    let entered = enter_of log bytes ended room in
    let long : length entered.room ≡ length room = enter_length log bytes ended room in
    rw long at
    (continued_within entered.result.entry entered.result.log (length bytes) entered.room
    (λ frame line. fill_up_to entries entered.result.log (drop frame bytes) ended (drop line entered.room))
    (rw long (enter_within log bytes ended room))
    (λ frame line. rw (← length-drop frame bytes, ← length-drop line entered.room)
    (up_to_within entries entered.result.log (drop frame bytes) ended (drop line entered.room))))

-- of a piece that is the front of what is at hand
pub fill_within :
    (log : Log) (bytes : List ℕ) (unused : ℕ) (ended : Bool) (room : List ℕ) {filled : Filled} {later : List ℕ} → unused ≤ length bytes →
    outcome filled later ≡ fill_of log (take unused bytes) ended room → (filled.used ≤ unused) × (filled.lines ≤ length room)
unfolding fill_of
fill_within log bytes unused ended room h e =
    rw (length-take-le unused bytes h) at (rw (← e) at (up_to_within (suc (length (take unused bytes))) log (take unused bytes) ended room))
