-- Dawn, proved: an "on" that is late is not done, and so what was ordered off stays quiet.
-- Assumes nothing.
use Prim.Native.Nat.{ℕ}
use native.Mathlib.Omega.{arith}
use mathlib.Core.Path.{◌≡◌, refl, sym, ap, ◌∙◌}
use mathlib.Core.Bool.{Bool, true, false, not}
use mathlib.Core.List.{List, [], ◌∷◌, ◌++◌, append_assoc}
use lib.Dec.{T, leb}
use lib.ListN.{length}
use borrow.Author.Tests.{leb-true, eqb-true}
use Rattle.basics.proofs.ChoiceLaws.{either, and_both, never_both}
use Rattle.basics.specs.Outcome.{Outcome}
use Rattle.frames.specs.Answer.{answer_number}
use Rattle.frames.specs.Kind.{report_bytes}
use Rattle.frames.specs.declared.sender.Origin.{Origin}
use Rattle.supervisor.specs.Fresh.{fresh_state}
use Rattle.supervisor.specs.Range.{in_range}
use Rattle.supervisor.specs.Step.{step_of}
use Rattle.supervisor.specs.History.{Call, called, answered, is_done, after, about_of, HasRoom}
use Rattle.supervisor.specs.declared.state.State.{State}
use Rattle.supervisor.specs.declared.step.Stepped.{Stepped}
use Rattle.supervisor.proofs.HistoryLaws.{after_append}
use Rattle.promises.specs.AsTold.{plain, says, orders, SaysOn}
use Rattle.promises.specs.Quiet.{done_on, no_on}
use Rattle.promises.specs.Dawn.{Dawn, OrderedOff, memory}
use Rattle.promises.proofs.Late.{old}
use Rattle.promises.proofs.Quiet.{quiet}

-- what is done had room
room_by : (s : State) (c : Call) (room : Bool) → leb report_bytes (length c.room) ≡ room → answered s c ≡ 0 → HasRoom c
unfolding step_of
room_by s c true e z = leb-true report_bytes (length c.room) e
room_by s c false e z =
    absurd
    (either (λ (o : Outcome Stepped). answer_number o.result.answer ≡ 0 → ⊥) (in_range s) (λ (n : ◌≡◌ {A = ℕ} 2 0). omega arith)
    (λ (n : ◌≡◌ {A = ℕ} 1 0). omega arith) (rw e at z))

done_room : (s : State) (c : Call) → answered s c ≡ 0 → HasRoom c
done_room s c = room_by s c (leb report_bytes (length c.room)) refl

module _ (which : ℕ) (origin : Origin) (cs : List Call) (off : Call) (since : List Call) (o : OrderedOff memory origin which cs off since) where
  first : State
  first = (called (after fresh_state cs) off).result.state

  -- an "on" since then is not done
  late_on : (before later : List Call) (c : Call) → since ≡ before ++ c ∷ later → answered (after first before) c ≡ 0 → SaysOn which (about_of c) → ⊥
  unfolding first
  late_on before later c e z says = rw z at (old origin (after fresh_state cs) off before c (o.late_ons before later c e says (done_room (after first before) c z))).answer

  -- call by call
  none_on_law : (before rest : List Call) (s : State) → s ≡ after first before → since ≡ before ++ rest → T (no_on which s rest)
  none_on_law before [] s e f = tt
  none_on_law before (c ∷ rest) s e f =
      and_both (not (done_on which s c)) (no_on which (called s c).result.state rest)
      (never_both (says (orders which (about_of c) (plain false))) (is_done (answered s c))
      (rw e (λ on d. late_on before rest c f (eqb-true (answered (after first before) c) 0 d) on)))
      (none_on_law (before ++ (c ∷ [])) rest (called s c).result.state (ap (λ (t : State). (called t c).result.state) e ∙ sym (after_append before (c ∷ []) first))
      (f ∙ sym (append_assoc before (c ∷ []) rest)))

pub dawn : Dawn
unfolding first
dawn =
    record {
      old = old;
      dark = λ origin which cs off since low o.
          quiet which cs off since low
          (record { order = o.order; done = o.done; none_on = none_on_law which origin cs off since o [] since (called (after fresh_state cs) off).result.state refl refl });
    }
