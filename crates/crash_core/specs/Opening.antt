-- What a mounted store begins with: the card names a directory that reads, and nothing is pending on its file, or on one that it names.
use Rattle.std.specs.Prelude.{◌≡◌, ℕ, List, [], Option, Some, None, Ok, IsTrue}
use Rattle.disk_model.specs.State.{FileState, Sound, pending}
use Rattle.node_image.specs.declared.node.RootRef.{RootRef}
use Rattle.node_image.specs.References.{current_format}
use Rattle.hmac_keys.specs.declared.Keys.{Keys}
use Rattle.tee_types.specs.Limits.{directory_file}
use Rattle.rpmb_card.specs.Card.{CardState}
use Rattle.store_model.specs.Object.{ObjectMap}
use Rattle.dir_records.specs.declared.entry.DirEntry.{DirEntry}
use Rattle.crash_core.specs.Directory.{directory_of}
use Rattle.crash_core.specs.CardBlock.{IsReference}
use Rattle.crash_core.specs.DeviceKeys.{directory_key}
use Rattle.crash_core.specs.EntryLists.{AreCurrent, entry_at}
use Rattle.crash_core.specs.Mounting.{all_held_in, map_of}
use Rattle.crash_core.specs.CoreState.{Core, IsTrusted, Phase}
use Rattle.crash_core.specs.Holding.{CardNames}
use Rattle.crash_core.specs.Theorem.{IsStart}

-- what each file reads as
abbrev pub reads_of : (ℕ → FileState) → ℕ → List ℕ
reads_of files file = (files file).reads

-- the objects that the entries name, as the files read
abbrev pub opening_map : Keys → (ℕ → FileState) → List (Option DirEntry) → ObjectMap
opening_map keys files entries = map_of (all_held_in keys (reads_of files) entries)

-- Nothing is said of a file that is not honest to the end.
pub record IsOpened (phase : Phase) (files : ℕ → FileState) (card : CardState) (root : RootRef) (entries : List (Option DirEntry)) : Type 0 where
  pub sound : (file : ℕ) → Sound (files file)
  pub honest : (file : ℕ) → IsTrusted phase file → IsTrue (files file).honest
  pub names : CardNames card root phase.begins.counter
  pub form : IsReference root
  pub current : root.format ≡ current_format
  pub directory : IsTrusted phase directory_file → directory_of (directory_key phase.keys) (files directory_file).reads root ≡ Ok entries
  pub settled : IsTrusted phase directory_file → pending (files directory_file) ≡ []
  pub entries_current : AreCurrent entries
  -- each file that an entry names was synced
  pub synced : (index : ℕ) (e : DirEntry) → entry_at entries index ≡ Some e → IsTrusted phase e.file → pending (files e.file) ≡ []
  pub begins : IsTrusted phase directory_file → phase.begins.objects ≡ opening_map phase.keys files entries

-- the core before its first step
abbrev pub core_at : {Root : Type 0} → (ℕ → FileState) → CardState → RootRef → List (Option DirEntry) → Core Root
core_at files card root entries = record {
  files = files;
  card = card;
  root = root;
  entries = entries;
  takes = λ file. None;
  stages = λ file. None;
  pending = None;
  history = [];
}

-- So the core may begin with every store that is mounted and synced.
abbrev pub OpeningsAreStarts : Type 0 → Type 0
OpeningsAreStarts Root =
    (phase : Phase) (files : ℕ → FileState) (card : CardState) (root : RootRef) (entries : List (Option DirEntry)) → IsOpened phase files card root entries
    → IsStart {Root = Root} phase (core_at files card root entries)
