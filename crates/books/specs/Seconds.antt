-- Every second is in the books: from all zeros, a module's three numbers add up to the done ticks since, and each is the
-- number of those whose report shows the module so.
-- Assumes nothing.
use Rattle.std.specs.Prelude.{ℕ, ◌+◌, ◌<◌, ◌≤◌, ◌≡◌, Bool, true, List, [], ◌∷◌, eqb, length, replicate}
use Rattle.basics.specs.Choice.{when◌then◌else◌}
use Rattle.modules.specs.Groups.{module_count}
use Rattle.supervisor.specs.Report.{shown_in}
use Rattle.supervisor.specs.History.{Call}
use Rattle.supervisor.specs.declared.state.State.{State}
use Rattle.books.specs.Books.{book_numbers, most_seconds, number_in, shown_as}
use Rattle.books.specs.History.{Board, after_with, tick_reports}

-- the reports that count
abbrev pub those : (counts : (report : List ℕ) → Bool) → (reports : List (List ℕ)) → List (List ℕ)
those counts [] = []
those counts (report ∷ reports) =
    when counts report then report ∷ those counts reports else those counts reports

-- how many of them show module m as on (0), off (1) or failed (2)
abbrev pub seconds_in : (m second : ℕ) → (reports : List (List ℕ)) → ℕ
seconds_in m second [] = 0
seconds_in m second (report ∷ reports) =
    (when eqb (shown_as (shown_in report) m) second then 1 else 0) + seconds_in m second reports

-- all zeros
abbrev pub anew : State → Board
anew s = record { state = s; books = replicate book_numbers 0 }

-- what the books tell of module m, given the reports
pub record TellOf (books : List ℕ) (reports : List (List ℕ)) (m : ℕ) : Type 0 where
  -- each is the count of such ticks
  pub each : (second : ℕ) → second < 3 → number_in books m second ≡ seconds_in m second reports
  -- the three add up to the number of done ticks
  pub sum : number_in books m 0 + number_in books m 1 + number_in books m 2 ≡ length reports
  -- none is above the most
  pub low : (second : ℕ) → second < 3 → number_in books m second ≤ most_seconds

-- from any state, after any calls with books; the ticks read from the reports that count
abbrev pub SecondsOf : (counts : (report : List ℕ) → Bool) → Type 0
SecondsOf counts =
    (s : State) (cs : List Call) (m : ℕ) → m < module_count →
    TellOf (after_with (anew s) cs).books (those counts (tick_reports (anew s) cs)) m

-- every done tick counts, those in DEPLOY_WAIT too
abbrev pub Seconds : Type 0
Seconds = SecondsOf (λ report. true)
