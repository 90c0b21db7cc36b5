-- What calls leave their application, by sizes.
use Rattle.std.specs.Prelude.{ℕ, ◌+◌, if◌then◌else◌, nat_lt, Option, Some, None}
use Rattle.tee_types.specs.Limits.{most_data_bytes}
use Rattle.app_totals.specs.declared.numbers.Totals.{Totals}
use Rattle.app_totals.specs.Meant.{resized_totals}
use Rattle.dir_index.specs.declared.Held.{Held}

-- what is left where an object that had `old` bytes of data gets `new` ones, if so many are allowed, and more
abbrev pub allowed_totals : Totals → ℕ → ℕ → Option Totals
allowed_totals held old new = if nat_lt most_data_bytes new then None else resized_totals held old new

-- what is left where an object of that size comes, in place of the one that is found
abbrev pub placed_totals : Totals → Option Held → ℕ → Option Totals
placed_totals held None size = Some (record { objects = held.objects + 1; bytes = held.bytes + size })
placed_totals held (Some old) size = resized_totals held (old.entry).size size
