-- `beacon::writing::write` meets its contract: what is copied is the front of all that is made.
use mathlib.Core.Path.{◌≡◌, ap, sym, ◌∙◌}
use mathlib.Core.Bool.{true}
use Prim.Native.Nat.{◌-◌}
use native.Mathlib.Omega.{arith}
use lib.ListN.{take}
use Rattle.basics.proofs.ChoiceLaws.{holds}
use Rattle.supervisor.specs.Range.{in_range}
use Rattle.supervisor.proofs.RangeLaws.{parts}
use Rattle.supervisor.proofs.MessageLaws.{message_fair}
use Rattle.beacon.specs.Text.{full_text, has_text, form_bytes}
use Rattle.beacon.proofs.TextLaws.{form_most, text_length, text_front}
use Rattle.beacon.proofs.WritingLaws.{beacon_outside, beacon_silent, beacon_short, beacon_copied}
use Rattle.beacon.proofs.writing.write.Goals as goal

pub returns-then-not-in_range : goal.returns-then-not-in_range
returns-then-not-in_range c =
    rw (← (beacon_outside c.args.form c.args.state _ (sym c.in_range.ensures ∙ c.if-not-in_range.true)))

pub returns-then-not-has_text : goal.returns-then-not-has_text
returns-then-not-has_text c =
    let e : in_range c.args.state ≡ true = sym c.in_range.ensures ∙ c.if-not-in_range.false in
    rw (← (beacon_silent c.args.form c.args.state _ e (sym c.has_text.ensures ∙ c.if-not-has_text.true)))

pub returns-then-text-n : goal.returns-then-text-n
returns-then-text-n c =
    let a = c.args in
    let e : in_range a.state ≡ true = sym c.in_range.ensures ∙ c.if-not-in_range.false in
    let told : has_text a.form a.state.message.length ≡ true = sym c.has_text.ensures ∙ c.if-not-has_text.false in
    rw (← (beacon_short a.form a.state a.text.now e told (omega (arith, text_length a.state (message_fair a.state (holds _ e)) a.form, c.form_bytes-n.ensures))))

pub full_text-requires : goal.full_text-requires
full_text-requires c =
    let s = c.args.state in
    let e : in_range s ≡ true = sym c.in_range.ensures ∙ c.if-not-in_range.false in
    (parts s (holds _ e)).masks

pub slice_bounds-copy-end : goal.slice_bounds-copy-end
slice_bounds-copy-end c =
    let a = c.args in
    let e : in_range a.state ≡ true = sym c.in_range.ensures ∙ c.if-not-in_range.false in
    omega (arith, form_most a.form a.state.message.length (message_fair a.state (holds _ e)).most, c.form_bytes-n.ensures)

pub returns : goal.returns
returns c =
    let copy = c.copy.ensures in
    let a = c.args in
    let e : in_range a.state ≡ true = sym c.in_range.ensures ∙ c.if-not-in_range.false in
    let told : has_text a.form a.state.message.length ≡ true = sym c.has_text.ensures ∙ c.if-not-has_text.false in
    let f = message_fair a.state (holds _ e) in
    let n : c.form_bytes-n.result - 0 ≡ form_bytes a.form a.state.message.length = omega (arith, c.form_bytes-n.ensures) in
    let src =
    ap (take (c.form_bytes-n.result - 0)) c.full_text.ensures
    ∙ ap (λ k. take k (full_text a.state)) n
    ∙ text_front a.state f a.form in
    rw (← (beacon_copied a.form a.state a.text.now e told _ src (omega (arith, text_length a.state f a.form, c.form_bytes-n.ensures)) copy.0 copy.1))
