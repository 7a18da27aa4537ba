-- As told, proved.
-- Assumes nothing.
use Prim.Native.Nat.{ℕ, ◌<◌}
use mathlib.Core.Path.{◌≡◌, refl, sym, ap, ◌∙◌}
use mathlib.Core.Bool.{Bool, true, false, not, true≢false}
use mathlib.Core.List.{List, [], ◌∷◌, ◌++◌}
use lib.Dec.{T}
use Rattle.basics.specs.Choice.{bit}
use Rattle.basics.proofs.ChoiceLaws.{is_false, either, and_left}
use Rattle.modules.specs.Power.{is_on}
use Rattle.modules.specs.Groups.{is_core, is_mission, module_count}
use Rattle.modules.proofs.EndsLaws.{core_none, none_at}
use Rattle.supervisor.specs.Fresh.{fresh_state}
use Rattle.supervisor.specs.Tick.{allowed_in}
use Rattle.supervisor.specs.History.{Call, called, after, about_of, done_tick}
use Rattle.supervisor.specs.State.{module_at, end_at, in_deploy_wait}
use Rattle.supervisor.specs.declared.state.State.{State}
use Rattle.supervisor.proofs.FreshLaws.{fresh_eight, fresh_requested, fresh_off}
use Rattle.supervisor.proofs.HistoryLaws.{called_eight, after_append}
use Rattle.supervisor.proofs.ModuleLaws.{Eight, core_low, core_or_mission, core_not_mission}
use Rattle.promises.specs.AsTold.{AsTold, Word, plain, says, Requested, AsOrdered, OnAfter, running_tick, ordered, later, crossing, said, last_word, last_order}
use Rattle.promises.specs.TwoCraft.{shorted}
use Rattle.promises.specs.Deployment.{deployed}
use Rattle.promises.specs.ForAReason.{wanted_in}
use Rattle.promises.proofs.Deployment.{stays_over}
use Rattle.promises.proofs.ForAReason.{deploy_power, for_a_reason}
use Rattle.promises.proofs.Requests.{Held, called_held}

-- the last word of a history is held after it
pub after_held :
    (i : ℕ) → i < module_count → (cs : List Call) (s : State) (word : Word) → Eight s → Held i s word → Held i (after s cs) (last_word crossing i word s cs)
after_held i low [] s word n h = h
after_held i low (c ∷ cs) s word n h =
    after_held i low cs (called s c).result.state (said crossing i s c word) (called_eight s c n) (called_held i low s n word h c)

-- at the fresh start no end is running
fresh_end : (i : ℕ) → end_at i fresh_state ≡ 0
unfolding fresh_state
fresh_end i = none_at i

-- the last word of a flight
pub fresh_held : (i : ℕ) → i < module_count → (cs : List Call) → Held i (after fresh_state cs) (last_word crossing i (plain (not (is_mission i))) fresh_state cs)
fresh_held i low cs =
    after_held i low cs fresh_state (plain (not (is_mission i))) fresh_eight (record { requested = fresh_requested i low; end = fresh_end i })

fresh_said : Requested crossing
fresh_said i low cs = (fresh_held i low cs).requested

-- a core module's plain word is changed by orders alone
module _ (i : ℕ) (core : is_core i ≡ true) where
  plain_later : (s : State) (c : Call) (on : Bool) → later s c (plain on) ≡ plain on
  plain_later s c on = either (λ (w : Word). w ≡ plain on) (running_tick s c) refl refl

  core_said : (s : State) (c : Call) (on : Bool) → said crossing i s c (plain on) ≡ ordered i s c (plain on)
  core_said s c on = rw (core_not_mission i core, plain_later s c on)

  after_ordered :
      (cs : List Call) (s : State) (on : Bool) → Eight s → (module_at i s).requested ≡ on → (module_at i (after s cs)).requested ≡ last_order i on s cs
  after_ordered [] s on n e = e
  after_ordered (c ∷ cs) s on n e =
      after_ordered cs (called s c).result.state (says (ordered i s c (plain on))) (called_eight s c n)
      ((called_held i (core_low i core) s n (plain on) (record { requested = e; end = core_none i s.ends (core_not_mission i core) }) c).requested
      ∙ ap says (core_said s c on))

fresh_ordered : AsOrdered is_core
fresh_ordered i core cs =
    after_ordered i core cs fresh_state (is_core i) fresh_eight (fresh_requested i (core_low i core) ∙ sym (core_or_mission i (core_low i core)))

module _ (i : ℕ) where
  -- in DEPLOY_WAIT the module is off
  abbrev pub Dark : State → Type 0
  Dark s = in_deploy_wait s ≡ true → is_on (module_at i s).power ≡ false

  dark_by : (s : State) (c : Call) → Dark s → (waits : Bool) → in_deploy_wait s ≡ waits → Dark (called s c).result.state
  dark_by s c dark true e h = rw (deploy_power i s c e) (dark e)
  dark_by s c dark false e h = absurd (true≢false (sym h ∙ stays_over s (c ∷ []) e))

  pub after_dark : (cs : List Call) (s : State) → Dark s → Dark (after s cs)
  after_dark [] s dark = dark
  after_dark (c ∷ cs) s dark = after_dark cs (called s c).result.state (dark_by s c dark (in_deploy_wait s) refl)

  -- then a module that is on after a done tick is requested
  asked_by :
      (s : State) (c : Call) → Dark s → (waits : Bool) → in_deploy_wait s ≡ waits → T (done_tick s c) → T (is_on (module_at i (called s c).result.state).power) →
      T (module_at i (called s c).result.state).requested
  asked_by s c dark true e d t = absurd (rw (deploy_power i s c e, dark e) at t)
  asked_by s c dark false e d t =
      let next : State = (called s c).result.state in
      let out : T (deployed s) = rw e tt in
      and_left (module_at i next).requested (bit i (allowed_in next.watch.mode))
      (and_left (wanted_in next i) (not (shorted i (about_of c))) (for_a_reason.on i s c d out t))

  pub called_asked :
      (s : State) (c : Call) → Dark s → T (done_tick s c) → T (is_on (module_at i (called s c).result.state).power) → T (module_at i (called s c).result.state).requested
  called_asked s c dark = asked_by s c dark (in_deploy_wait s) refl

  -- and one that is not requested is off
  pub called_off :
      (s : State) (c : Call) → Dark s → T (done_tick s c) → (module_at i (called s c).result.state).requested ≡ false →
      is_on (module_at i (called s c).result.state).power ≡ false
  called_off s c dark d e = is_false (is_on (module_at i (called s c).result.state).power) (λ t. rw e at (called_asked s c dark d t))

-- from the fresh start
pub fresh_dark : (i : ℕ) → i < module_count → (cs : List Call) → Dark i (after fresh_state cs)
fresh_dark i low cs = after_dark i cs fresh_state (λ h. fresh_off i low)

asked_for_law : OnAfter done_tick
asked_for_law i low cs c d t =
    rw (← fresh_said i low (cs ++ c ∷ []), after_append cs (c ∷ []) fresh_state) (called_asked i (after fresh_state cs) c (fresh_dark i low cs) d t)

pub as_told : AsTold
as_told = record { requested = fresh_said; core = fresh_ordered; asked_for = asked_for_law }
