-- The gate as a part of the core machine.
use Rattle.std.specs.Prelude.{◌≡◌, ◌⊎◌, ℕ, ◌+◌, ◌<◌, List, length, unwrap_or, Option, Some, None, Ok}
use Rattle.disk_model.specs.State.{FileState, Sound}
use Rattle.node_image.specs.declared.node.RootRef.{RootRef}
use Rattle.hmac_keys.specs.declared.Keys.{Keys}
use Rattle.tee_types.specs.Limits.{directory_file}
use Rattle.rpmb_card.specs.Card.{CardState}
use Rattle.store_model.specs.Object.{ObjectMap}
use Rattle.store_model.specs.Calls.{state_after}
use Rattle.store_model.specs.ReplayState.{ReplayState, opening, replay}
use Rattle.dir_records.specs.declared.entry.DirEntry.{DirEntry}
use Rattle.history_seats.specs.Records.{Version}
use Rattle.history_seats.specs.Mounts.{Mounted}
use Rattle.history_seats.specs.Directory.{given_version}
use Rattle.history_seats.specs.Known.{version_from}
use Rattle.history_seats.specs.Views.{GateView, no_mount}
use Rattle.crash_core.specs.MountedObject.{root_of}
use Rattle.crash_core.specs.Directory.{directory_from}
use Rattle.crash_core.specs.DeviceKeys.{directory_key}
use Rattle.crash_core.specs.EntryLists.{IsUnnamed}
use Rattle.crash_core.specs.EntryChanges.{changed, index_of}
use Rattle.crash_core.specs.Mounting.{Held, map_of}
use Rattle.crash_core.specs.Sights.{Sight, Stands}
use Rattle.crash_core.specs.CoreState.{IsTrusted, PendingCommit, Phase}
use Rattle.crash_core.specs.Holding.{CardNames, entries_held, held_at}

-- The gate's part of a state of the core machine.
pub record GatePart : Type 0 where
  -- the directory's file, and the card
  pub directory : FileState
  pub card : CardState
  -- the directory's reference and its entries, as the last commit of the history left them
  pub root : RootRef
  pub entries : List (Option DirEntry)
  -- who has taken which free file
  pub takes : ℕ → Option ℕ
  pub pending : Option PendingCommit
  -- where the commit under way is sealed and not yet in the history: the entry that it puts, and its object
  pub putting : Option Held
  -- what the gate's seat knows: the whole history
  pub view : GateView

-- the mount, once it is told
abbrev pub mount_of : GateView → Mounted
mount_of view = unwrap_or view.mounted no_mount

-- where the history stands
abbrev pub replay_of : Phase → GateView → ReplayState
replay_of phase view = replay (opening phase.begins) view.all

-- the history gives the version for the entry's file and generation, or leaves it there by a doubt that may still land
abbrev pub KnowsEntry : GateView → DirEntry → Version → Type 0
KnowsEntry view e v =
    (given_version (mount_of view) view.all e.file e.generation ≡ Some v)
    ⊎ ((version_from view.decided e.file e.generation (mount_of view) view.all).if_landed ≡ Some (Some v))

-- The version is the one that the entry names.
pub record IsVersionOf (e : DirEntry) (v : Version) : Type 0 where
  pub root : v.root ≡ root_of e
  pub app : v.app ≡ e.app
  pub size : v.size ≡ e.size
  pub attributes : v.attributes ≡ e.attributes

-- the history knows the entry's version, with its object; or the commit under way puts the entry with it
abbrev pub IsBacked : GateView → (putting : Option Held) → Held → Type 0
IsBacked view putting h = ((v : Version) × KnowsEntry view h.entry v × IsVersionOf h.entry v × (v.object ≡ h.object)) ⊎ (putting ≡ Some h)

-- In every image of the file the reference names a directory with these entries.
pub record DirectoryReads (keys : Keys) (s : FileState) (dir : RootRef) (entries : List (Option DirEntry)) : Type 0 where
  pub sight : Sight
  pub stands : Stands s (directory_key keys) dir sight
  pub reads : directory_from sight.opened ≡ Ok entries

-- The directory stands under a reference with these entries, the versions of which the history knows; with their objects they are that
-- map. Nothing is said of the file of an object, nor of an object whose file is not honest to the end.
pub record GateDirectory (phase : Phase) (directory : FileState) (view : GateView) (putting : Option Held) (dir : RootRef) (entries : List (Option DirEntry)) (objects : ObjectMap) : Type 0 where
  pub own : IsTrusted phase directory_file → DirectoryReads phase.keys directory dir entries
  pub held : List (Option Held)
  pub holds : entries_held held ≡ entries
  pub each : (index : ℕ) (h : Held) → held_at held index ≡ Some h → IsTrusted phase h.entry.file → IsBacked view putting h
  pub map_is : IsTrusted phase directory_file → map_of held ≡ objects

-- Of a sealed commit the card names the directory that it leaves, which stands beside the committed one.
pub record GateSeal (phase : Phase) (g : GatePart) (p : PendingCommit) (dir : RootRef) : Type 0 where
  pub names : CardNames g.card dir ((replay_of phase g.view).counter + 1)
  pub place : index_of p.change < length g.entries
  pub directory : GateDirectory phase g.directory g.view g.putting dir (changed g.entries p.change) (state_after (replay_of phase g.view).state p.session p.call).objects

abbrev pub GateSealed : Phase → GatePart → PendingCommit → Option RootRef → Type 0
GateSealed phase g p None = CardNames g.card g.root (replay_of phase g.view).counter
GateSealed phase g p (Some dir) = GateSeal phase g p dir

-- before the seal it names that one
abbrev pub GatePending : Phase → GatePart → Option PendingCommit → Type 0
GatePending phase g None = CardNames g.card g.root (replay_of phase g.view).counter
GatePending phase g (Some p) = GateSealed phase g p p.sealed

-- What holds of the gate. It says nothing of the files of objects; that the history is legal is asked apart from it.
pub record GateHolds (phase : Phase) (g : GatePart) : Type 0 where
  pub sound : Sound g.directory
  -- the committed directory stands, and holds the objects that the history leaves
  pub committed : GateDirectory phase g.directory g.view g.putting g.root g.entries ((replay_of phase g.view).state).objects
  pub pending : GatePending phase g g.pending
  pub taken : (file actor : ℕ) → g.takes file ≡ Some actor → IsUnnamed g.entries file
