-- `in_range` meets its contract: the modules taken so far are in range, and their masks are gathered, side by side.
use Prim.Native.Nat.{ℕ, ◌<◌}
use mathlib.Core.Path.{◌≡◌, ap, sym, ◌∙◌}
use mathlib.Core.Bool.{Bool, true, ◌&&◌}
use native.Mathlib.Omega.{arith}
use lib.Dec.{eqb}
use borrow.Author.Rules.{rules}
use Rattle.basics.proofs.EachLaws.{length_mapped}
use Rattle.modules.specs.Stage.{modules_in_range}
use Rattle.modules.specs.Masks.{are_masks_of}
use Rattle.modules.proofs.MasksLaws.{gathered_start, gathered_end, gathered_next, gathered_out, gathered_room, packed, power_bits_small, asked_bit_small, packed_agree}
use Rattle.modules.proofs.masks.in_range.Goals as goal
use Rattle.modules.proofs.masks.in_range.Goals.{Else-not-in_range}

-- there is room for one module more
room : (c : Else-not-in_range) → c.loop-m.all < 8421504
room c = gathered_room _ _ c.args.modules _ _ c.in-Some.ensures.steps c.loop-m.invariant (search (rules, length_mapped))

pub loop-m-init : goal.loop-m-init
loop-m-init c = gathered_start _ _ (rw (c.into_iter-m-iterator.ensures.into_iter_gives, c.rev-m-items.ensures.source) c.iter.ensures.rest)

pub returns-then-not-in_range : goal.returns-then-not-in_range
returns-then-not-in_range c =
    sym
    (ap (λ (b : Bool). b && are_masks_of c.args.modules c.args.masks)
    (gathered_out _ _ c.args.modules _ _ c.in-Some.ensures.steps c.loop-m.invariant (sym c.in_range.ensures ∙ c.if-not-in_range.true)))

pub overflow_mul-all : goal.overflow_mul-all
overflow_mul-all c = omega (arith, room c)

pub overflow_add-all : goal.overflow_add-all
overflow_add-all c =
    let here = (goal.at.overflow_add-all c).Else-not-in_range in
    omega (arith, room here, rw (← c.power_bits.ensures) at (power_bits_small c.in-Some.m.now.power))

pub overflow_add-all-in-loop-m : goal.overflow_add-all-in-loop-m
overflow_add-all-in-loop-m c =
    let here = (goal.at.overflow_add-all-in-loop-m c).Else-not-in_range in
    let p = rw (← c.power_bits.ensures) at (power_bits_small c.in-Some.m.now.power) in
    let r = rw (← c.from.ensures) at (asked_bit_small c.in-Some.m.now.requested) in
    omega (arith, room here, p, r)

pub loop-m-preserved : goal.loop-m-preserved
loop-m-preserved c =
    gathered_next _ _ c.args.modules c.in-Some.m.now c.loop-m.all c.in-Some.ensures.steps c.loop-m.invariant _
    (rw (c.power_bits.ensures, c.from.ensures)) (sym c.in_range.ensures ∙ c.if-not-in_range.false)

pub returns : goal.returns
returns c =
    let ms = c.args.modules in
    let masks = c.args.masks in
    let g = c.loop-m.invariant in
    let all : g.taken ≡ ms = gathered_end _ ms _ c.in-None.ensures.steps.0 g in
    let ranges : modules_in_range ms ≡ true = rw all at g.ranges in
    ap (λ (n : ℕ). eqb n c.packed.result) (g.done ∙ ap packed all)
    ∙ ap (λ (n : ℕ). eqb (packed ms) n) c.packed.ensures
    ∙ packed_agree ms masks (search (rules, length_mapped)) (search rules) (search rules) (search rules)
    ∙ sym (ap (λ (b : Bool). b && are_masks_of ms masks) ranges)
