-- Rounded down: a share is as many whole thousandths as the seconds on make of the three numbers together.
-- Assumes nothing.
use Rattle.std.specs.Prelude.{ℕ, ◌+◌, ◌*◌, ◌<◌, ◌≤◌, ◌≡◌, List, T, get_or, length, Ok}
use Rattle.modules.specs.Groups.{module_count}
use Rattle.books.specs.Books.{book_numbers, number_in, none_above}
use Rattle.books.specs.Summary.{shares_of, summary_of}

-- a module's three numbers together
abbrev pub all_in : (books : List ℕ) (m : ℕ) → ℕ
all_in books m = number_in books m 0 + number_in books m 1 + number_in books m 2

-- that many thousandths fit, and one more does not; of nothing there is none
pub record Down (on all share : ℕ) : Type 0 where
  pub fits : share * all ≤ on * 1000
  pub next : 0 < all → on * 1000 < (share + 1) * all
  pub none : all ≡ 0 → share ≡ 0

-- every module's share, in books that are not refused
abbrev pub SharesBy : (rounded : (on all share : ℕ) → Type 0) → Type 0
SharesBy rounded =
    (books : List ℕ) → length books ≡ book_numbers → T (none_above books) →
    record {
      answer : summary_of books ≡ Ok (shares_of books);
      shares : (m : ℕ) → m < module_count → rounded (number_in books m 0) (all_in books m) (get_or (shares_of books) m 0);
    }

abbrev pub RoundedDown : Type 0
RoundedDown = SharesBy Down
