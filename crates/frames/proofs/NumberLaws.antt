-- Laws of bytes that are read as kinds and as origins: each byte is read one way.
-- Assumes nothing.
use Rattle.std.proofs.Common.{◌≡◌, ℕ, true, false, sym, refl, ap, ◌∙◌, true≢false}
use Rattle.std.specs.Prelude.{Result, Ok, Err, ◌==◌}
use Rattle.basics.specs.Choice.{when◌then◌else◌}
use Rattle.frames.specs.Kind.{kind_number, is_kind, ReadsKind, tick_kind, battery_kind, antennas_kind, order_kind, thresholds_kind, timed_kind}
use Rattle.frames.specs.Sender.{origin_number, origin_from, is_origin, ReadsOrigin}
use Rattle.frames.specs.declared.kind.Kind.{Kind}
use Rattle.frames.specs.declared.kind.Kind.TheVariants.{Tick, Battery, Antennas, Order, Thresholds, Timed, Greeting}
use Rattle.frames.specs.declared.kind.NoKind.{NoKind}
use Rattle.frames.specs.declared.sender.Origin.{Origin}
use Rattle.frames.specs.declared.sender.Origin.TheVariants.{Ground, Payload}
use Rattle.frames.specs.declared.sender.NoOrigin.{NoOrigin}

-- from a kind's number back to the kind
kind_from : ℕ → Kind
kind_from n =
    when n == tick_kind then Tick else
    when n == battery_kind then Battery else
    when n == antennas_kind then Antennas else
    when n == order_kind then Order else
    when n == thresholds_kind then Thresholds else
    when n == timed_kind then Timed else Greeting

kind_back : (k : Kind) → kind_from (kind_number k) ≡ k
unfolding kind_from
kind_back Tick = refl
kind_back Battery = refl
kind_back Antennas = refl
kind_back Order = refl
kind_back Thresholds = refl
kind_back Timed = refl
kind_back Greeting = refl

kind_told : (k : Kind) → is_kind (kind_number k) ≡ true
kind_told Tick = refl
kind_told Battery = refl
kind_told Antennas = refl
kind_told Order = refl
kind_told Thresholds = refl
kind_told Timed = refl
kind_told Greeting = refl

no_kind_too : {byte : ℕ} (k : Kind) → kind_number k ≡ byte → is_kind byte ≡ false → ⊥
no_kind_too k e f = true≢false (sym (kind_told k) ∙ ap is_kind e ∙ f)

-- a byte is read as one kind, or as none
pub kind_read_one : (byte : ℕ) (r s : Result Kind NoKind) → ReadsKind byte r → ReadsKind byte s → r ≡ s
kind_read_one byte (Ok k) (Ok l) p q = ap Ok (sym (kind_back k) ∙ ap kind_from (p ∙ sym q) ∙ kind_back l)
kind_read_one byte (Ok k) (Err n) p q = absurd (no_kind_too k p q.1)
kind_read_one byte (Err n) (Ok l) p q = absurd (no_kind_too l q p.1)
kind_read_one byte (Err n) (Err m) p q = ap (λ b. Err (record { 0 = b })) (p.0 ∙ sym q.0)

origin_back : (o : Origin) → origin_from (origin_number o) ≡ o
origin_back Ground = refl
origin_back Payload = refl

origin_told : (o : Origin) → is_origin (origin_number o) ≡ true
origin_told Ground = refl
origin_told Payload = refl

no_origin_too : {byte : ℕ} (o : Origin) → origin_number o ≡ byte → is_origin byte ≡ false → ⊥
no_origin_too o e f = true≢false (sym (origin_told o) ∙ ap is_origin e ∙ f)

-- likewise an origin
pub origin_read_one : (byte : ℕ) (r s : Result Origin NoOrigin) → ReadsOrigin byte r → ReadsOrigin byte s → r ≡ s
origin_read_one byte (Ok o) (Ok p) e f = ap Ok (sym (origin_back o) ∙ ap origin_from (e ∙ sym f) ∙ origin_back p)
origin_read_one byte (Ok o) (Err n) e f = absurd (no_origin_too o e f.1)
origin_read_one byte (Err n) (Ok p) e f = absurd (no_origin_too p f e.1)
origin_read_one byte (Err n) (Err m) e f = ap (λ b. Err (record { 0 = b })) (e.0 ∙ sym f.0)
