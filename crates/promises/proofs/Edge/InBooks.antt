-- The better battery, with books that may halt the better craft: it is false.
-- Assumes nothing.
use Prim.Native.Nat.{ℕ}
use mathlib.Core.List.{List, ◌∷◌, ◌++◌}
use lib.Dec.{T, lit<, lit≤}
use lib.ListN.{replicate}
use Rattle.modules.specs.Groups.{adcs_module}
use Rattle.supervisor.proofs.Rules.{rules}
use Rattle.books.specs.Books.{most_seconds, counted, none_above}
use Rattle.books.specs.Step.{step_books_of}
use Rattle.books.specs.Plain.{halts_none}
use Rattle.promises.specs.TwoCraft.{in_reach}
use Rattle.promises.specs.InBooks.{keeping, InBooksIf}
use Rattle.promises.proofs.Edge.Flights.{battery, order, camera_on, seconds, to_recovery, sent, sent_roomy}
use Rattle.promises.proofs.Edge.TwoCraft.{but_one, lower}

-- the books of both craft: the camera was on for as long as its number holds
full_camera : List ℕ
full_camera = replicate 12 0 ++ (most_seconds ∷ replicate 11 0)

-- the camera, ordered on while the second craft alone is in SAFE, halts its ticks there; ADCS, ordered on once the first is in SAFE too, is on there
abbrev halted : List (List ℕ)
halted = seconds 30 ++ (camera_on 1 ∷ battery 8000 ∷ (seconds 30 ++ (order 2 adcs_module 1 ∷ seconds 1)))

abbrev pub camera_full : (millivolts : ℕ) → List (List ℕ)
camera_full millivolts = to_recovery ++ (battery millivolts ∷ halted)

first_holds : T (halts_none (keeping full_camera) (sent (camera_full 7000)))
unfolding rules step_books_of counted none_above full_camera
first_holds = tt

pub not_if_full : InBooksIf (λ b cs. Unit {0}) → ⊥
unfolding rules step_books_of counted none_above full_camera
not_if_full says =
    (says full_camera full_camera (sent (camera_full 7000)) (sent (camera_full 8000)) (sent_roomy (camera_full 7000)) (sent_roomy (camera_full 8000))
    (but_one in_reach lower to_recovery halted) first_holds tt 1000).on adcs_module (lit< tt) (lit≤ tt) tt
