-- Sharing by files and sharing by names.
use Rattle.std.proofs.Common.{◌≡◌, ◌∙◌, ◌&&◌, ℕ, Bool, List, Option, Some, None, sym, ap}
use Rattle.std.specs.List.{list_all, list_any}
use Rattle.tee_types.specs.declared.flags.Flags.{Flags}
use Rattle.store_model.specs.declared.name.ObjectName.{ObjectName}
use Rattle.store_model.specs.Object.{holds}
use Rattle.store_model.specs.Machine.{Session, MachineState}
use Rattle.store_model.specs.Handles.{has_open, allows_open}
use Rattle.dir_records.specs.declared.entry.DirEntry.{DirEntry}
use Rattle.open_table.specs.Table.{TableState, allows_on_file}
use Rattle.core_laws.specs.DirectoryLaws.{AreEntries}
use Rattle.call_rules.specs.SharingLaws.{FilesAllowAsNames, FilesAreOpenAsNames}
use Rattle.call_rules.proofs.SharedFiles.{allows-same, open-same}
use Rattle.dir_index.specs.declared.Held.{Held}
use Rattle.dir_index.specs.EntryNames.{IsEntryNamed}
use Rattle.call_rules.specs.Matches.{Matches}
use Rattle.call_rules.specs.Rows.{is_busy}
use Rattle.call_rules.proofs.Lookups.{held_is}

module _ (entries : List (Option DirEntry)) (table : TableState) (caller : Session) (s : MachineState) (i : ℕ)
    (are : AreEntries entries) (m : Matches entries table caller s i) (name : ObjectName) where
  pub allowed_is : (held : Held) (flags : Flags) → IsEntryNamed entries name (Some held)
      → list_all (allows_open name flags) s.sessions ≡ allows_on_file table (held.entry).file flags
  allowed_is held flags is = let law : FilesAllowAsNames = allows-same in
      ap (λ (n : ObjectName). list_all (allows_open n flags) s.sessions) (sym is.1) ∙ sym (law entries table s.sessions m.handles are.single are.distinct held.index held.entry is.0 flags)

  open_is : (held : Held) → IsEntryNamed entries name (Some held) → list_any (has_open name) s.sessions ≡ is_busy table (Some held)
  open_is held is = let law : FilesAreOpenAsNames = open-same in
      ap (λ (n : ObjectName). list_any (has_open n) s.sessions) (sym is.1)
      ∙ sym (law entries table s.sessions m.handles are.single are.distinct held.index held.entry is.0)

  -- a handle is open on the object of that name
  pub busy_is : (found : Option Held) → IsEntryNamed entries name found → (holds s.objects name && list_any (has_open name) s.sessions) ≡ is_busy table found
  busy_is (Some held) is =
      ap (λ (b : Bool). b && list_any (has_open name) s.sessions) (held_is entries s.objects m.shaped name (Some held) is) ∙ open_is held is
  busy_is None none = ap (λ (b : Bool). b && list_any (has_open name) s.sessions) (held_is entries s.objects m.shaped name None none)
