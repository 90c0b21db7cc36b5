-- What counts that rise are: as long as they are below the last value of a count, they are above the first number, and no two are one.
use Rattle.std.specs.Prelude.{ℕ, ◌<◌, ◌≤◌, ◌-◌, ◌^◌, List, length, slice_index_or}
use Rattle.call_steps.specs.DeviceCounts.{Rise}

-- below the last value of a count
abbrev pub IsBelowLast : ℕ → Type 0
IsBelowLast count = count < 2 ^ 64 - 1

-- `d` stands for a count where there is none
abbrev pub RisingCountsAreApart : Type 0
RisingCountsAreApart =
    (from to : ℕ) (counts : List ℕ) (i j d : ℕ) → Rise from to counts → i < j → j < length counts → IsBelowLast (slice_index_or counts j d)
    → slice_index_or counts i d < slice_index_or counts j d

abbrev pub RisingCountsAreAbove : Type 0
RisingCountsAreAbove =
    (from to : ℕ) (counts : List ℕ) (i d : ℕ) → Rise from to counts → i < length counts → IsBelowLast (slice_index_or counts i d) → from < slice_index_or counts i d

-- and where the last number is below the last value, none is above it
abbrev pub RisingCountsAreBounded : Type 0
RisingCountsAreBounded =
    (from to : ℕ) (counts : List ℕ) (i d : ℕ) → Rise from to counts → i < length counts → IsBelowLast to → slice_index_or counts i d ≤ to
