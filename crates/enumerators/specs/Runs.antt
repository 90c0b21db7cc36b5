-- Runs of calls on the enumerators, and the numbers that they are given.
use Rattle.std.specs.Prelude.{◌≡◌, ℕ, ◌<◌, if◌then◌else◌, List, [], ◌∷◌, length, slice_index, None}
use Rattle.enumerators.specs.Enumeration.{EnumeratorTable, no_enumerators, has_all, cursor_at, allocated, started, reset, freed, advanced}

-- A call. One that is refused changes nothing; where memory is wanting it has no place in a run.
pub data Request : Type 0 where
  Allocate : Request
  Start : ℕ → Request
  Reset : ℕ → Request
  Free : ℕ → Request
  Advance : ℕ → List ℕ → Request

abbrev pub after : EnumeratorTable → Request → EnumeratorTable
after table Allocate = if has_all table then table else allocated table
after table (Start number) = started table number
after table (Reset number) = reset table number
after table (Free number) = freed table number
after table (Advance number id) = advanced table number id

abbrev pub after_all : EnumeratorTable → List Request → EnumeratorTable
after_all table [] = table
after_all table (request ∷ requests) = after_all (after table request) requests

-- the number that a call gives, before those of the calls after it
abbrev pub with_given : EnumeratorTable → Request → List ℕ → List ℕ
with_given table Allocate later = if has_all table then later else table.next ∷ later
with_given table (Start number) later = later
with_given table (Reset number) later = later
with_given table (Free number) later = later
with_given table (Advance number id) later = later

-- the numbers that a run gives, in order
abbrev pub numbers_given : EnumeratorTable → List Request → List ℕ
numbers_given table [] = []
numbers_given table (request ∷ requests) = with_given table request (numbers_given (after table request) requests)

-- A run gives the numbers 0, 1, 2 and so on, so none twice.
abbrev pub NumbersCountUp : Type 0
NumbersCountUp =
    (requests : List Request) (k : ℕ) → k < length (numbers_given no_enumerators requests)
    → slice_index (numbers_given no_enumerators requests) k ≡ k

-- A number that was given and is not live is never live again.
abbrev pub FreedStayFreed : Type 0
FreedStayFreed =
    (table : EnumeratorTable) (requests : List Request) (number : ℕ)
    → number < table.next → cursor_at table number ≡ None → cursor_at (after_all table requests) number ≡ None
