-- The 256 entries in the pages of a directory (OP-TEE, core/tee/fs_dirfile.c: a record names an object by its UUID and identifier, its
-- file, and the hash of that file's root). No two have one name or one file.
use Rattle.std.specs.Prelude.{ℕ, zero, suc, ◌+◌, ◌*◌, ◌/◌, ◌%◌, ◌==◌, ◌||◌, Bool, false, List, [], ◌∷◌, ◌++◌, length, get_or, cond, unwrap_or, Option, Some, None, Result, Ok, Err}
use Rattle.std.specs.Ordering.{is_eq}
use Rattle.byte_fields.specs.Field.{field}
use Rattle.store_model.specs.declared.name.ObjectName.{ObjectName}
use Rattle.store_model.specs.Name.{name_cmp}
use Rattle.dir_records.specs.declared.entry.DirEntry.{DirEntry}
use Rattle.dir_records.specs.declared.entry.BadRecord.{BadRecord}
use Rattle.dir_records.specs.Form.{record_of}
use Rattle.crash_core.specs.declared.fault.DirFault.{DirFault}
use Rattle.crash_core.specs.declared.fault.DirFault.TheVariants.{Record, Double}

-- the name of an entry's object
abbrev pub name_of : DirEntry → ObjectName
name_of e = record { app = e.app; id = e.id }

-- what the 128 bytes of entry i hold: they stand in block i/32
abbrev pub record_at : (pages : List (Option (List ℕ))) → (i : ℕ) → Result (Option DirEntry) BadRecord
record_at pages i = record_of (field (128 * (i % 32)) 128 (unwrap_or (get_or pages (i / 32) None) []))

-- the earlier entries with one more, or the first that is refused
abbrev pub with_record : (i : ℕ) → Result (Option DirEntry) BadRecord → Result (List (Option DirEntry)) DirFault → Result (List (Option DirEntry)) DirFault
with_record i read (Err fault) = Err fault
with_record i (Ok entry) (Ok entries) = Ok (entries ++ entry ∷ [])
with_record i (Err bad) (Ok entries) = Err (Record i bad.offset)

-- the first so many entries, or the first that is refused
unfoldable pub entries_of : (pages : List (Option (List ℕ))) → (count : ℕ) → Result (List (Option DirEntry)) DirFault
entries_of pages zero = Ok []
entries_of pages (suc i) = with_record i (record_at pages i) (entries_of pages i)

-- two entries have the same name, or the same file
abbrev pub is_same : DirEntry → DirEntry → Bool
is_same a b = is_eq (name_cmp (name_of a) (name_of b)) || a.file == b.file

abbrev pub is_double : Option DirEntry → Option DirEntry → Bool
is_double (Some a) (Some b) = is_same a b
is_double (Some a) None = false
is_double None other = false

-- the first of so many entries, from entry j on, that is a double of this one
unfoldable pub first_like : (entries : List (Option DirEntry)) → Option DirEntry → (j count : ℕ) → Option ℕ
first_like entries entry j zero = None
first_like entries entry j (suc count) = cond (is_double (get_or entries j None) entry) (Some j) (first_like entries entry (j + 1) count)

abbrev pub double_or : (i : ℕ) → Option ℕ → Option (ℕ × ℕ) → Option (ℕ × ℕ)
double_or i None later = later
double_or i (Some first) later = Some (i, first)

-- the first of so many entries, from entry i on, that is a double of an earlier one, and the first such
unfoldable pub first_double : (entries : List (Option DirEntry)) → (i count : ℕ) → Option (ℕ × ℕ)
first_double entries i zero = None
first_double entries i (suc count) = double_or i (first_like entries (get_or entries i None) 0 i) (first_double entries (i + 1) count)

abbrev pub or_double : List (Option DirEntry) → Option (ℕ × ℕ) → Result (List (Option DirEntry)) DirFault
or_double entries None = Ok entries
or_double entries (Some (i, first)) = Err (Double i first)

-- the entries, or the first double
abbrev pub distinct : Result (List (Option DirEntry)) DirFault → Result (List (Option DirEntry)) DirFault
distinct (Ok entries) = or_double entries (first_double entries 0 (length entries))
distinct (Err fault) = Err fault
