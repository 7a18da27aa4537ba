-- Laws of answers.
-- Assumes nothing.
use Rattle.std.proofs.Common.{◌≡◌, Bool, true, false, not, T, sym, refl, ap, ◌∙◌, true≢false}
use Rattle.basics.specs.Choice.{within}
use Rattle.basics.proofs.ChoiceLaws.{is_true}
use Rattle.frames.specs.Answer.{answer_number, is_reported}
use Rattle.frames.specs.declared.answer.Answer.{Answer}
use Rattle.frames.specs.declared.answer.Answer.TheVariants.{Done, BadState, ShortRoom, NoInput}
use Rattle.frames.specs.declared.answer.Answer.TheVariants.{UnknownKind, BadLength, BadField, NotPermitted}
use Rattle.frames.specs.declared.answer.Answer.TheVariants.{Repeat, Stale, NotNow}

-- a report is written with every answer but the refusals 1 to 7
pub reported_number : (a : Answer) → is_reported a ≡ not (within 1 7 (answer_number a))
reported_number Done = refl
reported_number BadState = refl
reported_number ShortRoom = refl
reported_number NoInput = refl
reported_number UnknownKind = refl
reported_number BadLength = refl
reported_number BadField = refl
reported_number NotPermitted = refl
reported_number Repeat = refl
reported_number Stale = refl
reported_number NotNow = refl

pub refusal : (a : Answer) → T (within 1 7 (answer_number a)) → is_reported a ≡ false
refusal a h = reported_number a ∙ ap not (is_true (within 1 7 (answer_number a)) h)

pub unreported : (a : Answer) → is_reported a ≡ false → T (within 1 7 (answer_number a))
unreported a e = by (within 1 7 (answer_number a)) (sym (reported_number a) ∙ e)
  where
    by : (t : Bool) → not t ≡ false → T t
    by true f = tt
    by false f = absurd (true≢false f)
