-- The entry of an object whose data were changed.
use Rattle.std.specs.Prelude.{ℕ}
use Rattle.dir_records.specs.declared.entry.DirEntry.{DirEntry}
use Rattle.node_image.specs.declared.node.RootRef.{RootRef}
use Rattle.call_steps.specs.declared.EntryChange.{EntryChange}
use Rattle.call_steps.specs.declared.EntryChange.TheVariants.{Put}
use Rattle.call_steps.specs.declared.Held.{Held}

-- with that reference, and that size
abbrev pub renewed_entry : DirEntry → RootRef → (size : ℕ) → DirEntry
renewed_entry e root size = record e { version = root.version; hash = root.hash; size = size }

-- it takes the place of the one that was there
abbrev pub renewal : Held → RootRef → (size : ℕ) → EntryChange
renewal held root size = Put held.index (renewed_entry held.entry root size)
