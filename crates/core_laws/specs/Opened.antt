-- What a mounted store begins with is such parts: so what is said of them is no empty word.
use Rattle.std.specs.Prelude.{◌≡◌, ℕ, List, [], Option, Some, None, Contains, IsTrue}
use Rattle.disk_model.specs.State.{FileState, pending}
use Rattle.node_image.specs.declared.node.RootRef.{RootRef}
use Rattle.hmac_keys.specs.declared.Keys.{Keys}
use Rattle.tee_types.specs.Limits.{directory_file}
use Rattle.rpmb_card.specs.Card.{CardState}
use Rattle.dir_records.specs.declared.entry.DirEntry.{DirEntry}
use Rattle.history_seats.specs.Mounts.{Mounted, MountedEntry}
use Rattle.history_seats.specs.Views.{GateView, SlotView}
use Rattle.crash_core.specs.EntryLists.{AreCurrent, entry_at}
use Rattle.crash_core.specs.DirectoryLaws.{AreEntries}
use Rattle.crash_core.specs.Opening.{IsOpened}
use Rattle.crash_core.specs.CoreState.{Phase}
use Rattle.core_laws.specs.SlotParts.{IsShownIn}
use Rattle.core_laws.specs.GateParts.{GatePart, IsVersionOf}
use Rattle.core_laws.specs.Joined.{Parts, PartsHold}
use Rattle.core_laws.specs.Listed.{history_entry}

-- The mount tells of the entry: its version, which an honest file shows.
pub record IsMountedAs (keys : Keys) (files : ℕ → FileState) (e : DirEntry) (m : MountedEntry) : Type 0 where
  pub entry : history_entry e ≡ m.entry
  pub version : IsVersionOf e m.version
  pub shown : IsTrue (files e.file).honest → IsShownIn keys (files e.file).reads m.version

-- an entry of the directory of which the mount tells so
pub record HasMounted (keys : Keys) (files : ℕ → FileState) (entries : List (Option DirEntry)) (m : MountedEntry) : Type 0 where
  pub index : ℕ
  pub entry : DirEntry
  pub at : entry_at entries index ≡ Some entry
  pub told : IsMountedAs keys files entry m

-- The mount tells of the directory's entries and of nothing else; of the files that these name none has a change that was not synced.
pub record IsMountOf (keys : Keys) (files : ℕ → FileState) (entries : List (Option DirEntry)) (mounted : Mounted) : Type 0 where
  pub forms : AreEntries entries
  pub current : AreCurrent entries
  pub each : (index : ℕ) (e : DirEntry) → entry_at entries index ≡ Some e → (m : MountedEntry) × Contains mounted.entries m × (history_entry e ≡ m.entry)
  pub back : (m : MountedEntry) → Contains mounted.entries m → HasMounted keys files entries m
  pub settled : (index : ℕ) (e : DirEntry) → entry_at entries index ≡ Some e → IsTrue (files e.file).honest → pending (files e.file) ≡ []

-- the view of a slot's seat as it is split, before the first event
abbrev pub first_view : Mounted → (file generation : ℕ) → SlotView
first_view mounted file generation = record { mounted = mounted; seen = []; decided = 0; file = file; generation = generation }

abbrev pub first_gate : (files : ℕ → FileState) → CardState → RootRef → List (Option DirEntry) → GateView → GatePart
first_gate files card root entries view = record {
  directory = files directory_file;
  card = card;
  root = root;
  entries = entries;
  takes = λ file. None;
  pending = None;
  putting = None;
  view = view;
}

-- The gate and the slots before the first event: nothing is taken, staged or pending.
abbrev pub first_parts : (files : ℕ → FileState) → CardState → RootRef → List (Option DirEntry) → Mounted → (outs sessions : List ℕ) → (generations : ℕ → ℕ) → Parts
first_parts files card root entries mounted outs sessions generations = record {
  gate = first_gate files card root entries (record { mounted = Some mounted; all = []; decided = 0; files = outs; sessions = sessions });
  slots = λ file. record { file = files file; view = first_view mounted file (generations file); stage = None };
}

-- So each part of a store that is mounted and synced has its fact.
abbrev pub OpeningsHold : Type 0
OpeningsHold =
    (phase : Phase) (files : ℕ → FileState) (card : CardState) (root : RootRef) (entries : List (Option DirEntry)) (mounted : Mounted) (outs sessions : List ℕ) (generations : ℕ → ℕ)
    → IsOpened phase files card root entries → IsMountOf phase.keys files entries mounted
    → PartsHold phase (first_parts files card root entries mounted outs sessions generations)
