-- `State::in_range` meets its contract.
use mathlib.Core.Path.{◌≡◌, refl}
use mathlib.Core.Bool.{Bool, true, false, ◌&&◌}
use Rattle.modules.specs.Ends.{ends_in_range}
use Rattle.modules.specs.Stage.{modules_in_range}
use Rattle.modules.specs.Masks.{are_masks_of}
use Rattle.supervisor.specs.Range.{watch_in_range, battery_in_range, message_in_range, in_range}
use Rattle.supervisor.specs.declared.state.State.{State}
use Rattle.supervisor.proofs.state.State.in_range.Goals as goal
use Rattle.supervisor.proofs.state.State.in_range.Goals.{Joined-in_range, then-in_range, else-in_range}

-- the message may be asked last
last : (watch battery message ends modules masks : Bool) →
    (watch && battery && message && ends && modules && masks) ≡ (watch && battery && ends && (modules && masks) && message)
last false battery message ends modules masks = refl
last true false message ends modules masks = refl
last true true true false modules masks = refl
last true true true true false masks = refl
last true true true true true false = refl
last true true true true true true = refl
last true true false false modules masks = refl
last true true false true false masks = refl
last true true false true true false = refl
last true true false true true true = refl

module _ (s : State) where
  -- what is asked before the message
  abbrev front : Bool
  front = watch_in_range s.watch.mode s.watch.control s.watch.beacon && battery_in_range s.battery && ends_in_range s.ends

  abbrev back : Bool
  back = modules_in_range s.modules && are_masks_of s.modules s.masks

  in_order : in_range s ≡ (front && back && message_in_range s.message)
  unfolding in_range
  in_order =
      last (watch_in_range s.watch.mode s.watch.control s.watch.beacon) (battery_in_range s.battery) (message_in_range s.message)
      (ends_in_range s.ends) (modules_in_range s.modules) (are_masks_of s.modules s.masks)

-- what is asked before the message is true if both are
asked : (c : Joined-in_range) → c.if-in_range.value ≡ (front c.args.self && back c.args.self)
asked c =
    elim c.if-in_range.branch [
      | then-in_range w ↦ simp (
        w.value-is,
        w.in_range-then-in_range.ensures,
        rw (c.in_range.ensures, c.in_range-2.ensures, c.in_range-3.ensures) at w.if-in_range.true,
      )
      | else-in_range w ↦ simp (
        w.value-is,
        c.in_range.ensures,
        c.in_range-2.ensures,
        c.in_range-3.ensures,
        rw (c.in_range.ensures, c.in_range-2.ensures, c.in_range-3.ensures) at w.if-in_range.false,
      )
    ]

pub returns-then-in_range-2 : goal.returns-then-in_range-2
returns-then-in_range-2 c =
    let both = asked (goal.at.returns-then-in_range-2 c).Joined-in_range in
    simp (c.in_range-then-in_range-2.ensures, in_order c.args.self, rw both at c.if-in_range-2.true)

pub returns-else-in_range-2 : goal.returns-else-in_range-2
returns-else-in_range-2 c =
    let both = asked (goal.at.returns-else-in_range-2 c).Joined-in_range in
    simp (c.if-in_range-2.false, in_order c.args.self, rw both at c.if-in_range-2.false)
