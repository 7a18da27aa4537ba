-- What a call leaves.
-- Assumes nothing.
use Rattle.std.specs.Prelude.{ℕ, List, ◌++◌, length, drop}

-- a call's result, and the full later content of the room that it was lent
pub record Outcome (Result : Type 0) : Type 0 where
  pub result : Result
  pub room : List ℕ

-- both in one
abbrev pub outcome : {Result : Type 0} → Result → List ℕ → Outcome Result
outcome result room = record { result = result; room = room }

-- bytes written into the front of a room: those past them stay
abbrev pub written : (bytes room : List ℕ) → List ℕ
written bytes room = bytes ++ drop (length bytes) room

-- an answer in the page's terms: its number, and the count that it returns
pub record Reply : Type 0 where
  pub number : ℕ
  pub count : ℕ

-- both in one
abbrev pub reply : (number count : ℕ) → Reply
reply number count = record { number = number; count = count }
