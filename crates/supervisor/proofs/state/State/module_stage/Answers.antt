-- `State::module_stage` meets its contract: the modules wanted, as a mask, are the requested that are allowed.
use Prim.Native.Nat.{ℕ}
use mathlib.Core.Path.{◌≡◌, ap, sym, ◌∙◌}
use mathlib.Core.List.{List}
use lib.Bits.{bit_and}
use Rattle.modules.specs.Masks.{masks_of, staged}
use Rattle.modules.specs.Stage.{stage_of, switched_by}
use Rattle.modules.specs.declared.power.Module.{Module}
use Rattle.modules.specs.declared.masks.Masks.{Masks}
use Rattle.modules.specs.declared.stage.Staged.{Staged}
use Rattle.modules.proofs.MasksLaws.{stage_wanted, stage_requested}
use Rattle.supervisor.specs.State.{with_modules}
use Rattle.supervisor.specs.declared.state.State.{State}
use Rattle.supervisor.specs.Tick.{allowed_in, module_stage}
use Rattle.supervisor.proofs.state.State.module_stage.Goals as goal
use Rattle.supervisor.proofs.state.State.module_stage.Goals.{After-stage-after}

-- the modules after the stage, by the page's rule
abbrev ruled : (shorts : ℕ) → State → List Module
ruled shorts s = stage_of (allowed_in s.watch.mode) shorts s.modules

-- what the stage gives are they, with their masks
by_rule : (c : After-stage-after) → c.stage-after.result ≡ staged (ruled c.args.shorts c.args.self)
by_rule c =
    let s = c.args.self in
    c.stage-after.ensures
    ∙ ap (λ (n : ℕ). staged (switched_by (bit_and s.masks.requested n) c.args.shorts s.modules)) c.allowed.ensures
    ∙ ap (λ (m : Masks). staged (switched_by (bit_and m.requested (allowed_in s.watch.mode)) c.args.shorts s.modules)) c.requires
    ∙ ap staged (stage_wanted (allowed_in s.watch.mode) c.args.shorts s.modules)

pub with_modules-requires : goal.with_modules-requires
with_modules-requires c =
    let s = c.args.self in
    let after = ruled c.args.shorts s in
    let kept : s.masks.requested ≡ (masks_of after).requested =
    ap (λ (m : Masks). m.requested) c.requires
    ∙ sym (stage_requested (allowed_in s.watch.mode) c.args.shorts s.modules) in
    rw (by_rule (goal.at.with_modules-requires c).After-stage-after) (ap (λ (n : ℕ). record { requested = n; on = (masks_of after).on; failed = (masks_of after).failed }) kept)

pub returns : goal.returns
unfolding module_stage
returns c = c.with_modules.ensures ∙ ap (λ (r : Staged). with_modules r.modules c.args.self) (by_rule (goal.at.returns c).After-stage-after)
