-- A slot that stands at an entry, whose object may be loaded.
use Rattle.std.specs.Prelude.{◌≡◌}
use Rattle.node_image.specs.References.{current_format}
use Rattle.dir_records.specs.declared.entry.DirEntry.{DirEntry}
use Rattle.dir_records.specs.Form.{HasForm}
use Rattle.history_seats.specs.Records.{Version}
use Rattle.history_seats.specs.Views.{GateView}
use Rattle.serial_calls.specs.Fills.{GivesEntry}
use Rattle.serial_calls.specs.SlotCatchUp.{IsAtEntry}
use Rattle.serial_calls.specs.SlotValues.{SlotValue}

-- It sees the whole history, by which it gives the entry's version.
pub record IsMet (gate : GateView) (slot : SlotValue) (e : DirEntry) : Type 0 where
  pub version : Version
  pub at : IsAtEntry gate slot e version
  pub given : GivesEntry slot e
  pub form : HasForm e
  pub current : e.format ≡ current_format

-- The object of an entry with its form, in a file of the current format, may be loaded into the slot.
pub record MayLoad (slot : SlotValue) (e : DirEntry) : Type 0 where
  pub given : GivesEntry slot e
  pub form : HasForm e
  pub current : e.format ≡ current_format
