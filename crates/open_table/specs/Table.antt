-- The open handles of all sessions (TEE Internal Core API, Trusted Storage: TEE_OpenPersistentObject).
use Rattle.std.specs.Prelude.{◌≡◌, ◌==◌, ℕ, ◌≤◌, Bool, not, ◌&&◌, ◌||◌, List, Option, Some, find}
use Rattle.std.specs.List.{list_all, list_any}
use Rattle.std.specs.Map.{lookup}
use Rattle.std.specs.Option.{option_map}
use Rattle.tee_types.specs.declared.flags.Flags.{Flags}
use Rattle.tee_types.specs.Rights.{are_compatible}
use Rattle.open_table.specs.declared.table.OpenRecord.{OpenRecord}

pub record TableState : Type 0 where
  -- a finite map from keys to open handles, as its entries by rising key
  pub records : List (ℕ × OpenRecord)
  -- so many more handles may be added without memory
  pub spare : ℕ

-- the record of that key
abbrev pub record_at : TableState → ℕ → Option OpenRecord
record_at table key = lookup (λ k. k == key) table.records

-- the key of the first record of that session's handle
abbrev pub key_of : TableState → ℕ → ℕ → Option ℕ
key_of table session handle =
    option_map (λ e. e.0) (find (λ e. ((e.1).session == session) && ((e.1).handle == handle)) table.records)

-- no record of that session's handle has a lower key
abbrev pub IsLeastKey : TableState → ℕ → ℕ → ℕ → Type 0
IsLeastKey table session handle key =
    (k : ℕ) (r : OpenRecord) → record_at table k ≡ Some r → r.session ≡ session → r.handle ≡ handle → key ≤ k

-- a new handle with these flags is compatible with each open handle on that file
abbrev pub allows_on_file : TableState → ℕ → Flags → Bool
allows_on_file table file flags =
    list_all (λ e. not ((e.1).file == file) || are_compatible flags (e.1).flags) table.records

-- a handle is open on that file
abbrev pub is_file_open : TableState → ℕ → Bool
is_file_open table file = list_any (λ e. (e.1).file == file) table.records
