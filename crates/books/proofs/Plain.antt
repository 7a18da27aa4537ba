-- As without books, unless it answers 17 or 18.
-- Assumes nothing.
use Prim.Native.Nat.{ℕ, zero, suc}
use mathlib.Core.Path.{◌≡◌, refl, ap, sym, ◌∙◌}
use mathlib.Core.Bool.{Bool, true, false, not, true≢false, false≢true}
use mathlib.Core.List.{List, [], ◌∷◌}
use lib.Dec.{T}
use lib.ListN.{take}
use Rattle.basics.specs.Choice.{when◌then◌else◌}
use Rattle.basics.specs.Outcome.{Outcome}
use Rattle.basics.proofs.ChoiceLaws.{and_left, and_right, and_both}
use Rattle.supervisor.specs.History.{Call, after}
use Rattle.supervisor.specs.declared.state.State.{State}
use Rattle.books.specs.History.{Board, called_with, answer_with, board_after, after_with}
use Rattle.books.specs.Plain.{AsCalled, Halted, unhalted, halts_none, PlainCall}
use Rattle.books.specs.Answer.{is_books}
use Rattle.books.specs.Step.{WithBooks}
use Rattle.books.specs.declared.step.Booked.{Booked}
use Rattle.books.proofs.WaysLaws.{Way, halts, plain, way, board_halted, board_plain}

module _ (b : Board) (c : Call) where
  is_books_law : {o : Outcome (WithBooks Booked)} → called_with b c ≡ o → is_books (answer_with b c) ≡ is_books o.result.result.answer
  is_books_law w = ap (λ (o : Outcome (WithBooks Booked)). is_books o.result.result.answer) w

  as_called : Way b c → is_books (answer_with b c) ≡ false → AsCalled b c
  as_called (halts a n w) e = absurd (true≢false (sym (is_books_law w ∙ n) ∙ e))
  as_called (plain low w) e =
      record {
        answer = ap (λ (o : Outcome (WithBooks Booked)). o.result.result.answer) w;
        room = ap (λ (o : Outcome (WithBooks Booked)). o.room) w;
        state = ap (λ (x : Board). x.state) (board_plain b c w);
      }

  halted_by : Way b c → is_books (answer_with b c) ≡ true → Halted b c
  halted_by (halts a n w) e = record { board = board_halted b c a w; room = ap (λ (o : Outcome (WithBooks Booked)). o.room) w }
  halted_by (plain low w) e = absurd (false≢true (sym (is_books_law w) ∙ e))

-- one call more
flies_on :
    (b : Board) (c : Call) (cs : List Call) → (after_with (board_after b c) cs).state ≡ after (board_after b c).state (unhalted (board_after b c) cs) →
    (halts : Bool) → is_books (answer_with b c) ≡ halts →
    (after_with (board_after b c) cs).state ≡ after b.state (when halts then unhalted (board_after b c) cs else c ∷ unhalted (board_after b c) cs)
flies_on b c cs rest true e =
    rest ∙ ap (λ (s : State). after s (unhalted (board_after b c) cs)) (ap (λ (x : Board). x.state) (halted_by b c (way b c) e).board)
flies_on b c cs rest false e = rest ∙ ap (λ (s : State). after s (unhalted (board_after b c) cs)) (as_called b c (way b c) e).state

flies : (cs : List Call) (b : Board) → (after_with b cs).state ≡ after b.state (unhalted b cs)
flies [] b = refl
flies (c ∷ cs) b = flies_on b c cs (flies cs (board_after b c)) (is_books (answer_with b c)) refl

pub plain_call : PlainCall
plain_call = record { plain = λ b c. as_called b c (way b c); halted = λ b c. halted_by b c (way b c); flies = λ b cs. flies cs b }

-- where the books halt none, all calls are left, and the first so many too
not_passes : (t : Bool) → T (not t) → t ≡ false
not_passes true h = absurd h
not_passes false h = refl

unhalted_all : (cs : List Call) (b : Board) → T (halts_none b cs) → unhalted b cs ≡ cs
unhalted_all [] b u = refl
unhalted_all (c ∷ cs) b u =
    let here : Bool = is_books (answer_with b c) in
    let rest : Bool = halts_none (board_after b c) cs in
    rw (not_passes here (and_left (not here) rest u)) (ap (λ more. c ∷ more) (unhalted_all cs (board_after b c) (and_right (not here) rest u)))

take_unhalted : (n : ℕ) (cs : List Call) (b : Board) → T (halts_none b cs) → T (halts_none b (take n cs))
take_unhalted zero cs b u = tt
take_unhalted (suc n) [] b u = tt
take_unhalted (suc n) (c ∷ cs) b u =
    let here : Bool = not (is_books (answer_with b c)) in
    let rest : Bool = halts_none (board_after b c) cs in
    and_both here (halts_none (board_after b c) (take n cs)) (and_left here rest u) (take_unhalted n cs (board_after b c) (and_right here rest u))

pub unhalted_flies : (n : ℕ) (cs : List Call) (b : Board) → T (halts_none b cs) → (after_with b (take n cs)).state ≡ after b.state (take n cs)
unhalted_flies n cs b u =
    flies (take n cs) b ∙ ap (after b.state) (unhalted_all (take n cs) b (take_unhalted n cs b u))
