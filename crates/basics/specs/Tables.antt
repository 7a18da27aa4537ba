-- A test of all numbers below a bound: the rule of a table, in a form that is computed; and what a table's first entry
-- that passes a test holds.
-- Assumes nothing.
use Rattle.std.specs.Prelude.{ℕ, zero, suc, Bool, true, ◌&&◌, List, [], ◌∷◌}
use Rattle.basics.specs.Choice.{when◌then◌else◌}

-- a test passes at each number below n
abbrev pub all_below : (ℕ → Bool) → ℕ → Bool
all_below f zero = true
all_below f (suc n) = f n && all_below f n

-- what the first entry that passes a test holds; a default where none does
abbrev pub first_of : {A B : Type 0} (test : A → Bool) (held : A → B) (default : B) → List A → B
first_of test held default [] = default
first_of test held default (x ∷ xs) = when test x then held x else first_of test held default xs
