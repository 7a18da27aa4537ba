-- The better battery, with books: two craft that keep books both, as long as these halt no call.
-- Assumes nothing.
use Rattle.std.specs.Prelude.{ℕ, List, T, take}
use Rattle.modules.specs.Groups.{is_core}
use Rattle.supervisor.specs.Fresh.{fresh_state}
use Rattle.supervisor.specs.History.{Call, Roomy}
use Rattle.books.specs.History.{Board, after_with}
use Rattle.books.specs.Plain.{halts_none}
use Rattle.promises.specs.TwoCraft.{Paired, Better, in_reach, shorts_borne}

-- the fresh start, with books
abbrev pub keeping : (books : List ℕ) → Board
keeping books = record { state = fresh_state; books = books }

-- if so much is known of the second craft's books
abbrev pub InBooksIf : (holds : Board → List Call → Type 0) → Type 0
InBooksIf holds =
    (books books' : List ℕ) (cs ds : List Call) → Roomy cs → Roomy ds → Paired in_reach cs ds →
    T (halts_none (keeping books) cs) → holds (keeping books') ds →
    (n : ℕ) →
    Better is_core shorts_borne (take n cs) (after_with (keeping books) (take n cs)).state
    (after_with (keeping books') (take n ds)).state

-- neither craft's books halt a call
abbrev pub InBooks : Type 0
InBooks = InBooksIf (λ b cs. T (halts_none b cs))
