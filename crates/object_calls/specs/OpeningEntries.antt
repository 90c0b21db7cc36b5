-- The entries of a directory in the order of their names.
use Rattle.std.specs.Prelude.{◌≡◌, ◌&&◌, if◌then◌else◌, ℕ, Bool, true, List, Option, Some, None}
use Rattle.std.specs.Ordering.{is_le, is_lt}
use Rattle.store_model.specs.declared.name.ObjectName.{ObjectName}
use Rattle.store_model.specs.Name.{name_cmp}
use Rattle.dir_records.specs.declared.entry.DirEntry.{DirEntry}
use Rattle.crash_core.specs.Entries.{name_of}
use Rattle.crash_core.specs.EntryLists.{entry_at}

-- the name is above that one, where one is given
abbrev pub is_past : Option ObjectName → ObjectName → Bool
is_past None name = true
is_past (Some after) name = is_lt (name_cmp after name)

-- no entry has a name above
abbrev pub IsNonePast : List (Option DirEntry) → Option ObjectName → Type 0
IsNonePast entries after = (index : ℕ) (e : DirEntry) → entry_at entries index ≡ Some e → is_past after (name_of e) ≡ true → ⊥

-- the entry has the least name above
pub record IsLeastPast (entries : List (Option DirEntry)) (after : Option ObjectName) (e : DirEntry) : Type 0 where
  pub index : ℕ
  pub at : entry_at entries index ≡ Some e
  pub past : is_past after (name_of e) ≡ true
  pub least : (other : ℕ) (f : DirEntry) → entry_at entries other ≡ Some f → is_past after (name_of f) ≡ true → is_le (name_cmp (name_of e) (name_of f)) ≡ true

abbrev pub IsNextEntry : List (Option DirEntry) → Option ObjectName → Option DirEntry → Type 0
IsNextEntry entries after (Some e) = IsLeastPast entries after e
IsNextEntry entries after None = IsNonePast entries after

-- the name is below that of the best so far, if there is one
abbrev pub is_nearer : Option DirEntry → ObjectName → Bool
is_nearer None name = true
is_nearer (Some best) name = is_lt (name_cmp name (name_of best))

-- the entry, if its name is above and below the best so far
abbrev pub nearer_of : Option ObjectName → (best entry : Option DirEntry) → Option DirEntry
nearer_of after best None = best
nearer_of after best (Some e) = if is_past after (name_of e) && is_nearer best (name_of e) then Some e else best
