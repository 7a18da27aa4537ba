-- `frame_log::line::line` meets its contract: one part after the other.
use Rattle.std.proofs.Common.{refl, ◌≡◌, ◌++◌, List, ℕ, ◌∙◌, ap, append_assoc}
use Rattle.frame_log.specs.Line.{line_of, placed}
use Rattle.frame_log.proofs.line.line.Goals as goal

-- one part more
then : {text later all : List ℕ} (part : List ℕ) → later ≡ text ++ part → text ≡ all → later ≡ all ++ part
then part e f = rw (e, f)

pub returns : goal.returns
unfolding line_of
returns c =
    c.place.ensures
    ∙ ap (λ (text : List ℕ). placed text c.args.room.now)
    (then _ c.put_bytes.ensures.stored (then _ c.put_number-5.ensures.stored (then _ c.put_hex-4.ensures.stored (then _ c.put_hex-3.ensures.stored
    (then _ c.put_hex-2.ensures.stored (then _ c.put_number-4.ensures.stored (then _ c.put_number-3.ensures.stored (then _ c.put_number-2.ensures.stored
    (then _ c.put_number.ensures.stored (then _ c.put_hex.ensures.stored (then _ c.put_decimal.ensures.stored c.new-text.ensures))))))))))
    ∙ simp (append_assoc, c.from.ensures, c.from-2.ensures, c.from-3.ensures, c.from-4.ensures, c.from-5.ensures, c.from_be_bytes.ensures) refl)
