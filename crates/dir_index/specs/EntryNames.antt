-- Entries of the directory, found by the names of their objects.
use Rattle.std.specs.Prelude.{◌≡◌, ◌≢◌, ◌<◌, ℕ, true, List, Option, Some, None, IsSome}
use Rattle.std.specs.Ordering.{is_le}
use Rattle.tee_types.specs.Identifier.{bytes_cmp}
use Rattle.store_model.specs.declared.name.ObjectName.{ObjectName}
use Rattle.dir_records.specs.declared.entry.DirEntry.{DirEntry}
use Rattle.crash_core.specs.Entries.{name_of}
use Rattle.crash_core.specs.EntryLists.{entry_at}
use Rattle.dir_index.specs.Above.{is_above}
use Rattle.dir_index.specs.declared.held.Held.{Held}

-- the entry of that name, with its index, or there is none
abbrev pub IsEntryNamed : List (Option DirEntry) → ObjectName → Option Held → Type 0
IsEntryNamed entries name (Some held) = (entry_at entries held.index ≡ Some held.entry) × (name_of held.entry ≡ name)
IsEntryNamed entries name None = (i : ℕ) (e : DirEntry) → entry_at entries i ≡ Some e → name_of e ≢ name

-- the entry is one of the application's above the identifier, where one is given, and no other such has a lesser identifier
pub record IsLeastEntry (entries : List (Option DirEntry)) (app : List ℕ) (after : Option (List ℕ)) (e : DirEntry) : Type 0 where
  pub index : ℕ
  pub at : entry_at entries index ≡ Some e
  pub above : is_above app after (name_of e) ≡ true
  pub least : (i : ℕ) (f : DirEntry) → entry_at entries i ≡ Some f → is_above app after (name_of f) ≡ true → is_le (bytes_cmp e.id f.id) ≡ true

-- the least such, or there is none
abbrev pub IsNextAbove : List (Option DirEntry) → (app : List ℕ) → (after : Option (List ℕ)) → Option DirEntry → Type 0
IsNextAbove entries app after (Some e) = IsLeastEntry entries app after e
IsNextAbove entries app after None = (i : ℕ) (f : DirEntry) → entry_at entries i ≡ Some f → is_above app after (name_of f) ≡ true → ⊥

-- The least index of a free entry; or none of the 256 is free.
abbrev pub IsFirstFree : List (Option DirEntry) → Option ℕ → Type 0
IsFirstFree entries (Some index) = (index < 256) × (entry_at entries index ≡ None) × ((i : ℕ) → i < index → IsSome (entry_at entries i))
IsFirstFree entries None = (i : ℕ) → i < 256 → IsSome (entry_at entries i)
