-- What every step of the core machine keeps.
use Rattle.std.specs.Prelude.{◌≡◌, ◌+◌, ℕ, List, map, Option, Some, None, get_or, Ok, IsTrue}
use Rattle.std.specs.Option.{option_map}
use Rattle.disk_model.specs.State.{FileState, Sound}
use Rattle.node_image.specs.declared.node.RootRef.{RootRef}
use Rattle.tee_types.specs.Limits.{directory_file}
use Rattle.rpmb_card.specs.Card.{CardState}
use Rattle.store_model.specs.Object.{ObjectMap}
use Rattle.store_model.specs.Calls.{state_after}
use Rattle.store_model.specs.ReplayState.{ReplayState, opening}
use Rattle.store_model.specs.Legal.{IsLegalFrom}
use Rattle.dir_records.specs.declared.entry.DirEntry.{DirEntry}
use Rattle.crash_core.specs.Directory.{directory_from}
use Rattle.crash_core.specs.CardBlock.{root_in}
use Rattle.crash_core.specs.DeviceKeys.{directory_key}
use Rattle.crash_core.specs.EntryLists.{IsUnnamed}
use Rattle.crash_core.specs.EntryChanges.{changed}
use Rattle.crash_core.specs.Pictures.{block_zero}
use Rattle.crash_core.specs.Mounting.{Held, map_of}
use Rattle.crash_core.specs.Sights.{Sight, Shows, Stands}
use Rattle.crash_core.specs.CoreState.{Core, IsTrusted, PendingCommit, Phase, replay_state}

abbrev pub held_at : List (Option Held) → ℕ → Option Held
held_at held index = get_or held index None

-- the entries that these hold
abbrev pub entries_held : List (Option Held) → List (Option DirEntry)
entries_held held = map (option_map (λ h. h.entry)) held

-- In every image a directory stands under a reference, with these entries, and each of them shows its object in its file; together they
-- are that map. Nothing is said of an object in a file that is not honest to the end.
pub record DirectoryStands (phase : Phase) (files : ℕ → FileState) (dir : RootRef) (entries : List (Option DirEntry)) (objects : ObjectMap) : Type 0 where
  pub sight : Sight
  pub own : Stands (files directory_file) (directory_key phase.keys) dir sight
  pub reads : directory_from sight.opened ≡ Ok entries
  pub held : List (Option Held)
  pub holds : entries_held held ≡ entries
  pub each : (index : ℕ) (h : Held) → held_at held index ≡ Some h → IsTrusted phase h.entry.file → Shows phase.keys (files h.entry.file) h.entry h.object
  pub map_is : map_of held ≡ objects

-- the card names that directory, with that counter
pub record CardNames (card : CardState) (dir : RootRef) (counter : ℕ) : Type 0 where
  pub names : root_in (block_zero card) ≡ Ok dir
  pub counted : card.counter ≡ counter

-- Once a commit is sealed, the card names the directory that it leaves, which stands beside the committed one. Before, it names that one.
abbrev pub SealedStands : Phase → (ℕ → FileState) → CardState → RootRef → List (Option DirEntry) → ReplayState → PendingCommit → Option RootRef → Type 0
SealedStands phase files card root entries s p None = CardNames card root s.counter
SealedStands phase files card root entries s p (Some dir) =
    CardNames card dir (s.counter + 1)
    × (IsTrusted phase directory_file → DirectoryStands phase files dir (changed entries p.change) (state_after s.state p.session p.call).objects)

abbrev pub PendingStands : Phase → (ℕ → FileState) → CardState → RootRef → List (Option DirEntry) → ReplayState → Option PendingCommit → Type 0
PendingStands phase files card root entries s None = CardNames card root s.counter
PendingStands phase files card root entries s (Some p) = SealedStands phase files card root entries s p p.sealed

pub record Holds {Root : Type 0} (phase : Phase) (c : Core Root) : Type 0 where
  pub sound : (file : ℕ) → Sound (c.files file)
  pub honest : (file : ℕ) → IsTrusted phase file → IsTrue (c.files file).honest
  pub legal : IsLegalFrom phase.tampered (opening phase.begins) c.history
  -- the committed directory stands, and holds the objects of the history
  pub committed : IsTrusted phase directory_file → DirectoryStands phase c.files c.root c.entries ((replay_state phase c).state).objects
  pub pending : PendingStands phase c.files c.card c.root c.entries (replay_state phase c) c.pending
  pub taken : (file actor : ℕ) → c.takes file ≡ Some actor → IsUnnamed c.entries file
