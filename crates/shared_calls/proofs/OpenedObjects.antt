-- A slot's object that was loaded, or could not be, is of the version that the slot gives, and of the entry's once the slot is shown the
-- history again.
use Rattle.std.proofs.Common.{◌≡◌, Err, IfOk, Ok, Option, Result}
use Rattle.dir_records.specs.declared.entry.DirEntry.{DirEntry}
use Rattle.disk_model.specs.State.{FileState}
use Rattle.history_seats.specs.Records.{Version}
use Rattle.history_seats.specs.Views.{GateView}
use Rattle.serial_calls.specs.Fills.{GivesEntry}
use Rattle.serial_calls.specs.GuardedReads.{GivesVersion}
use Rattle.serial_calls.specs.SlotCatchUp.{StillGives}
use Rattle.serial_calls.specs.ReadyEntries.{IsReady, IsReadyEntry}
use Rattle.serial_calls.proofs.MetAgain.{ready-again}
use Rattle.serial_calls.specs.SlotValues.{SlotValue}
use Rattle.serial_calls.specs.Stores.{Store}
use Rattle.tee_types.specs.declared.reply.Reply.{Reply}
use Rattle.shared_calls.specs.SharedCatchUp.{IsMet}
use Rattle.shared_calls.specs.SharedOpen.{HasLoaded}
use Rattle.shared_calls.proofs.SharedVersions.{gives-moved}

module _ {X : Type 0} (store : Store) (old new : SlotValue) (e : DirEntry) (given : GivesEntry old e) (same : new ≡ record old { file = new.file; holds = new.holds }) where
  pub has-loaded : (result : Result (Option Reply) X) → ((v : Version) → GivesVersion old v → IfOk result (IsReady store old.file new v)) → IfOk result (HasLoaded store new)
  has-loaded (Ok unloaded) ready =
      record { version = given.version; gives = gives-moved old new given.version same given.gives; was = old.file; ready = ready given.version given.gives }
  has-loaded (Err none) ready = tt

-- it is of the entry at which the slot stands now
pub loaded-entry : (store : Store) (knows : GateView) (old new : SlotValue) (e : DirEntry) (unloaded : Option Reply) → HasLoaded store old unloaded
    → ((v : Version) → GivesVersion old v → StillGives old new v) → IsMet knows new e → (was : FileState) × IsReadyEntry store knows was new e unloaded
loaded-entry store knows old new e unloaded l still met =
    (l.was, ready-again store knows l.was old new e l.version met.version (still l.version l.gives) met.at unloaded l.ready)
