-- `hearing::decoding::decode` meets its contract: whatever it leaves of the units that are left, it leaves of them all.
use mathlib.Core.Path.{refl, sym, ap, ◌∙◌}
use native.Mathlib.Omega.{arith}
use lib.ListN.{get_or}
use borrow.Author.Tests.{eqb-true, eqb-false}
use Rattle.std.specs.Prelude.{Some}
use Rattle.hearing.proofs.DecodingLaws.{leads_on, leads_sign, leads_word, told_near, heard_none, heard_some}
use Rattle.hearing.proofs.decoding.decode.Goals as goal
use Rattle.hearing.proofs.decoding.decode.Goals.{in-On, in-Sign, in-Word}

pub returns-then-is_empty : goal.returns-then-is_empty
returns-then-is_empty c =
    rw (heard_none c.args.units.now (eqb-true _ _ (sym c.is_empty.ensures ∙ c.if-is_empty.true))) (refl, refl)

pub loop-unit-init : goal.loop-unit-init
loop-unit-init c =
    let e = heard_some c.args.units.now (eqb-false _ _ (sym c.is_empty.ensures ∙ c.if-is_empty.false)) in
    (record { leads = λ count later d. rw e d }, omega arith, omega arith, omega arith)

pub loop-unit-preserved : goal.loop-unit-preserved
loop-unit-preserved c =
    let l = c.loop-unit in
    let told = sym c.tell.ensures ∙ c.in_ok-next.was in
    let unit = get_or c.args.units.now l.unit-index 0 in
    elim c.match-branch-2.branch [
      | in-On w ↦
          let t = told ∙ ap Some w.in-On.is in
          let near = rw t at (told_near l.ear unit l.unit-index l.invariant.2 l.invariant.3) in
          rw (w.text-is, w.ear-is, w.at-is) (leads_on (omega arith) l.invariant.0 _ t, omega arith, near.0, near.1)
      | in-Sign w ↦
          let t = told ∙ ap Some w.in-Sign.is in
          rw (w.ear-is, w.at-is) (leads_sign (omega arith) l.invariant.0 _ t (w.text-is ∙ w.put.ensures), omega arith, omega arith, omega arith)
      | in-Word w ↦
          let t = told ∙ ap Some w.in-Word.is in
          rw (w.ear-is, w.at-is) (leads_word (omega arith) l.invariant.0 _ t (cc), omega arith, omega arith, omega arith)
    ]
