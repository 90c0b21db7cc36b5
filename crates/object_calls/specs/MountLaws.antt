-- What a mounted store begins with: what its mount tells, its journal, and what lies behind each lock.
use Rattle.std.specs.Prelude.{◌≡◌, ℕ, List, [], Option, Some, None, Contains}
use Rattle.disk_model.specs.State.{FileState}
use Rattle.dir_records.specs.declared.entry.DirEntry.{DirEntry}
use Rattle.history_seats.specs.Mounts.{MountedEntry}
use Rattle.open_table.specs.Table.{TableState}
use Rattle.history_seats.specs.Views.{GateView}
use Rattle.core_laws.specs.Opened.{IsMountOf}
use Rattle.core_laws.specs.Decodings.{IsReal}
use Rattle.core_laws.specs.TamperScenarios.{TamperScenario}
use Rattle.core_laws.specs.Stores.{OpensMounted, Store, replay_at}
use Rattle.core_laws.specs.MapLaws.{AreMountedApart}
use Rattle.core_laws.specs.Ties.{IsTied}
use Rattle.core_laws.specs.TieLaws.{AreRising}
use Rattle.serial_calls.specs.OpenHandles.{AreOpen}
use Rattle.serial_calls.specs.Journals.{IsJournal}
use Rattle.serial_calls.specs.GuardedSlots.{SlotInvariant}
use Rattle.serial_calls.specs.FirstSlots.{first_slot}
use Rattle.object_calls.specs.Generations.{generation_in}
use Rattle.object_calls.specs.MountedStores.{IsMountedStore}

-- The mount tells of the directory's entries and of nothing else, and of each a real version; no two are of one file.
pub record TellsEntries (store : Store) (files : ℕ → FileState) (entries : List (Option DirEntry)) : Type 0 where
  pub mount : IsMountOf store.keys files entries store.mounted
  pub apart : AreMountedApart store.mounted.entries
  pub real : (m : MountedEntry) → Contains store.mounted.entries m → IsReal store.keys m.version
  pub objects : OpensMounted store
  pub rising : AreRising store.objects

abbrev pub MountsTellEntries : Type 0
MountsTellEntries = (store : Store) (files : ℕ → FileState) (entries : List (Option DirEntry)) → IsMountedStore store files entries → TellsEntries store files entries

-- The view of a gate before the first event, once a slot's seat was split.
pub record IsFirstView (store : Store) (view : GateView) : Type 0 where
  pub mounted : view.mounted ≡ Some store.mounted
  pub empty : view.all ≡ []

-- What stands behind the gate's lock before the first event, of a table without open handles: the journal, the ties of the entries to it, and
-- no open handle in the machine.
pub record BeginsGate (store : Store) (entries : List (Option DirEntry)) (table : TableState) (view : GateView) : Type 0 where
  pub journal : IsJournal store view
  pub tied : IsTied store view entries store.counter None
  pub handles : (scenario : TamperScenario) → AreOpen entries table (replay_at store scenario view.all).state.sessions

abbrev pub MountsBeginGates : Type 0
MountsBeginGates =
    (store : Store) (files : ℕ → FileState) (entries : List (Option DirEntry)) (table : TableState) (view : GateView) → IsMountedStore store files entries
    → table.records ≡ [] → IsFirstView store view → BeginsGate store entries table view

abbrev pub MountedSlotsAreGuarded : Type 0
MountedSlotsAreGuarded =
    (store : Store) (files : ℕ → FileState) (entries : List (Option DirEntry)) (number : ℕ) → IsMountedStore store files entries
    → SlotInvariant store (first_slot store number (generation_in entries number) (files number))
