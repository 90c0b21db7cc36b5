-- The enumerators of a session (TEE Internal Core API, Trusted Storage: persistent object enumeration functions).
use Rattle.std.specs.Prelude.{◌==◌, ℕ, Bool, ◌||◌, nat_le, ◌+◌, List, [], ◌∷◌, ◌++◌, length, Option, Some, None, IsSome, Result, Ok, Err}
use Rattle.std.specs.Map.{lookup, set_value, remove_entry}
use Rattle.enumerators.specs.declared.cursor.Cursor.{Cursor}
use Rattle.enumerators.specs.declared.cursor.Cursor.TheVariants.{Idle, First, After}
use Rattle.enumerators.specs.declared.cursor.EnumFault.{EnumFault}
use Rattle.enumerators.specs.declared.cursor.EnumFault.TheVariants.{BadEnumerator}

pub record EnumeratorTable : Type 0 where
  -- the live enumerators by number, in the order in which they were given
  pub live : List (ℕ × Cursor)
  -- the number of the next one
  pub next : ℕ

abbrev pub no_enumerators : EnumeratorTable
no_enumerators = record { live = []; next = 0 }

-- how far the live enumerator of that number has come
abbrev pub cursor_at : EnumeratorTable → ℕ → Option Cursor
cursor_at table number = lookup (λ n. n == number) table.live

abbrev pub IsLive : EnumeratorTable → ℕ → Type 0
IsLive table number = IsSome (cursor_at table number)

abbrev pub HasStarted : Option Cursor → Type 0
HasStarted None = ⊥
HasStarted (Some Idle) = ⊥
HasStarted (Some First) = Unit {0}
HasStarted (Some (After id)) = Unit {0}

-- live, and started
abbrev pub IsStarted : EnumeratorTable → ℕ → Type 0
IsStarted table number = HasStarted (cursor_at table number)

-- A session has at most 64 live enumerators, and gives at most 4,294,967,295 numbers.
abbrev pub has_all : EnumeratorTable → Bool
has_all table = nat_le 64 (length table.live) || nat_le 4294967295 table.next

abbrev pub with_cursor : EnumeratorTable → ℕ → Cursor → EnumeratorTable
with_cursor table number cursor = record table { live = set_value (λ n. n == number) table.live cursor }

-- TEE_AllocatePersistentObjectEnumerator: a new enumerator, not started, under the next number.
abbrev pub allocated : EnumeratorTable → EnumeratorTable
allocated table = record { live = table.live ++ (table.next, Idle) ∷ []; next = table.next + 1 }

-- TEE_StartPersistentObjectEnumerator: it begins anew, and has given nothing yet.
abbrev pub started : EnumeratorTable → ℕ → EnumeratorTable
started table number = with_cursor table number First

-- TEE_ResetPersistentObjectEnumerator: it is as after its allocation.
abbrev pub reset : EnumeratorTable → ℕ → EnumeratorTable
reset table number = with_cursor table number Idle

-- TEE_GetNextPersistentObject gave this identifier.
abbrev pub advanced : EnumeratorTable → ℕ → List ℕ → EnumeratorTable
advanced table number id = with_cursor table number (After id)

-- TEE_FreePersistentObjectEnumerator: it is gone, and the others stay.
abbrev pub freed : EnumeratorTable → ℕ → EnumeratorTable
freed table number = record table { live = remove_entry (λ n. n == number) table.live }

abbrev pub found_or_bad : Option Cursor → Result Cursor EnumFault
found_or_bad None = Err BadEnumerator
found_or_bad (Some cursor) = Ok cursor

-- how far the enumerator of that number has come, or that it is not live
abbrev pub cursor_of : EnumeratorTable → ℕ → Result Cursor EnumFault
cursor_of table number = found_or_bad (cursor_at table number)
