-- Every second is in the books.
-- Assumes nothing.
use Prim.Native.Nat.{ℕ, zero, suc, ◌+◌, ◌<◌}
use mathlib.Core.Path.{◌≡◌, refl, ap, subst, sym, ◌∙◌}
use mathlib.Core.Bool.{Bool, true, false, ◌&&◌}
use mathlib.Core.List.{List, [], ◌∷◌, ◌++◌}
use native.Mathlib.Omega.{arith}
use native.Mathlib.Nat.{zero-add}
use lib.Dec.{T, eqb}
use lib.ListN.{length, take, replicate, get_or-replicate}
use Rattle.basics.specs.Choice.{when◌then◌else◌}
use Rattle.basics.specs.Outcome.{Outcome}
use Rattle.modules.specs.Groups.{module_count}
use Rattle.frames.specs.Kind.{report_bytes}
use Rattle.frames.specs.About.{is_tick}
use Rattle.supervisor.specs.History.{Call, about_of, called, done_tick, is_done}
use Rattle.supervisor.specs.Report.{shown_in}
use Rattle.books.specs.Answer.{book_number}
use Rattle.books.specs.Books.{book_numbers, number_in, place_of, shown_as, later, none_above}
use Rattle.books.specs.Step.{WithBooks, found_after}
use Rattle.books.specs.History.{Board, board_after, after_with, done_tick_with, report_with, tick_reports}
use Rattle.books.specs.Seconds.{those, seconds_in, anew, Seconds}
use Rattle.books.specs.declared.step.Booked.{Booked}
use Rattle.books.proofs.BooksLaws.{counted_length, counted_at, added_at, shown_small, none_above_at}
use Rattle.books.proofs.CallLaws.{tick_shown}
use Rattle.books.proofs.WaysLaws.{Way, halts, plain, way, board_halted, board_plain, halted_undone}

-- what one report adds to the count
abbrev adds : (m second : ℕ) (report : List ℕ) → ℕ
adds m second report = when eqb (shown_as (shown_in report) m) second then 1 else 0

-- one call
module _ (b : Board) (c : Call) where
  size_by : Way b c → length b.books ≡ book_numbers → length (board_after b c).books ≡ book_numbers
  size_by (halts a n w) size = ap (λ (x : Board). length x.books) (board_halted b c a w) ∙ size
  size_by (plain low w) size = ap (λ (x : Board). length x.books) (board_plain b c w) ∙ by (done_tick b.state c)
    where
      by : (tick : Bool) → length (later tick (found_after b.state c) b.books) ≡ book_numbers
      by true = counted_length (found_after b.state c) b.books ∙ size
      by false = size

  low_by : Way b c → T (none_above b.books) → T (none_above (board_after b c).books)
  low_by (halts a n w) t = subst (λ (x : Board). T (none_above x.books)) (sym (board_halted b c a w)) t
  low_by (plain low w) t = subst (λ (x : Board). T (none_above x.books)) (sym (board_plain b c w)) (low t)

  -- it adds what its report shows, if it is a done tick
  module _ (m second : ℕ) (few : m < module_count) (small : second < 3) where
    counts_by :
        Way b c → length b.books ≡ book_numbers →
        number_in (board_after b c).books m second ≡ number_in b.books m second + (when done_tick_with b c then adds m second (report_with b c) else 0)
    counts_by (halts a n w) size =
        let still : number_in (board_after b c).books m second ≡ number_in b.books m second = ap (λ (x : Board). number_in x.books m second) (board_halted b c a w) in
        let none : (when done_tick_with b c then adds m second (report_with b c) else 0) ≡ 0 =
        ap (λ (t : Bool). when t then adds m second (report_with b c) else 0)
        (ap (λ (o : Outcome (WithBooks Booked)). is_tick (about_of c) && is_done (book_number o.result.result.answer)) w ∙ halted_undone (is_tick (about_of c)) a n) in
        omega (arith, still, none)
    counts_by (plain low w) size =
        ap (λ (x : Board). number_in x.books m second) (board_plain b c w)
        ∙ by (done_tick b.state c) refl
        ∙ sym (ap (λ (o : Outcome (WithBooks Booked)). number_in b.books m second + (when is_tick (about_of c) && is_done (book_number o.result.result.answer) then adds m second (take report_bytes o.room) else 0)) w)
      where
        by :
            (tick : Bool) → done_tick b.state c ≡ tick →
            number_in (later tick (found_after b.state c) b.books) m second
            ≡ number_in b.books m second + (when tick then adds m second (take report_bytes (called b.state c).room) else 0)
        by true e =
            counted_at (found_after b.state c) b.books (place_of m second) (omega (arith, size))
            ∙ ap (λ (k : ℕ). number_in b.books m second + k)
            (added_at (found_after b.state c) m second small ∙ ap (λ (k : ℕ). when eqb k second then 1 else 0) (sym (tick_shown b.state c e m)))
        by false e = omega arith

-- in the front of a list there is at most one report more
seconds_front : (m second : ℕ) (tick : Bool) (report : List ℕ) (reports : List (List ℕ)) → seconds_in m second ((when tick then report ∷ [] else []) ++ reports) ≡ (when tick then adds m second report else 0) + seconds_in m second reports
seconds_front m second true report reports = refl
seconds_front m second false report reports = omega arith

-- a history
module _ (m second : ℕ) (few : m < module_count) (small : second < 3) where
  counts :
      (cs : List Call) (b : Board) → length b.books ≡ book_numbers →
      number_in (after_with b cs).books m second ≡ number_in b.books m second + seconds_in m second (tick_reports b cs)
  counts [] b size = omega arith
  counts (c ∷ cs) b size =
      let one = counts_by b c m second few small (way b c) size in
      let rest = counts cs (board_after b c) (size_by b c (way b c) size) in
      let front = seconds_front m second (done_tick_with b c) (report_with b c) (tick_reports (board_after b c) cs) in
      omega (arith, one, rest, front)

pub lows : (cs : List Call) (b : Board) → T (none_above b.books) → T (none_above (after_with b cs).books)
lows [] b t = t
lows (c ∷ cs) b t = lows cs (board_after b c) (low_by b c (way b c) t)

sizes : (cs : List Call) (b : Board) → length b.books ≡ book_numbers → length (after_with b cs).books ≡ book_numbers
sizes [] b size = size
sizes (c ∷ cs) b size = sizes cs (board_after b c) (size_by b c (way b c) size)

-- each report shows the module as one of the three
one_of_three : (shown : ℕ) → shown < 3 → (when eqb shown 0 then 1 else 0) + (when eqb shown 1 then 1 else 0) + (when eqb shown 2 then 1 else 0) ≡ 1
one_of_three zero h = refl
one_of_three (suc zero) h = refl
one_of_three (suc (suc zero)) h = refl
one_of_three (suc (suc (suc n))) h = absurd (omega arith)

all_three : (m : ℕ) (reports : List (List ℕ)) → seconds_in m 0 reports + seconds_in m 1 reports + seconds_in m 2 reports ≡ length reports
all_three m [] = refl
all_three m (report ∷ reports) =
    omega (arith, one_of_three (shown_as (shown_in report) m) (shown_small (shown_in report) m), all_three m reports)

-- every report counts
those_all : (reports : List (List ℕ)) → reports ≡ those (λ report. true) reports
those_all [] = refl
those_all (report ∷ reports) = ap (λ more. report ∷ more) (those_all reports)

zeros_low : T (none_above (replicate book_numbers 0))
unfolding none_above
zeros_low = tt

pub seconds : Seconds
seconds s cs m few =
    let b : Board = anew s in
    let size : length b.books ≡ book_numbers = refl in
    let later : List ℕ = (after_with b cs).books in
    let reports : List (List ℕ) = tick_reports b cs in
    let number : (second : ℕ) → second < 3 → number_in later m second ≡ seconds_in m second reports =
    λ second small. counts m second few small cs b size ∙ ap (λ (n : ℕ). n + seconds_in m second reports) (get_or-replicate book_numbers (place_of m second) 0 0 (omega arith)) ∙ zero-add (seconds_in m second reports) in
    rw (← (those_all reports))
    (record {
      each = number;
      sum = omega (arith, number 0 (omega arith), number 1 (omega arith), number 2 (omega arith), all_three m reports);
      low = λ second small. none_above_at later (lows cs b (zeros_low)) (place_of m second) (rw (sizes cs b size) (omega arith));
    })
