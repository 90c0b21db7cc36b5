-- What a mount of a bench read, beside a bench that was closed before it.
use Rattle.std.specs.Prelude.{◌≡◌, ◌⊎◌, ◌<◌, ℕ, List, length, Option, Ok}
use Rattle.disk_model.specs.State.{FileState}
use Rattle.node_image.specs.declared.node.RootRef.{RootRef}
use Rattle.hmac_keys.specs.declared.Keys.{Keys}
use Rattle.tee_types.specs.Limits.{directory_file}
use Rattle.rpmb_card.specs.Card.{CardState}
use Rattle.rpmb_card.specs.Port.{PortState}
use Rattle.htree_file.specs.Standing.{Told}
use Rattle.store_model.specs.Object.{ObjectMap}
use Rattle.dir_records.specs.declared.entry.DirEntry.{DirEntry}
use Rattle.crash_core.specs.MountedObject.{root_of}
use Rattle.crash_core.specs.Mounting.{mounted, mounted_directory}
use Rattle.crash_core.specs.Opening.{reads_of}
use Rattle.crash_core.specs.Pictures.{Picture, block_zero}
use Rattle.dir_file.specs.Seen.{SeesBlock, SeesTree}
use Rattle.object_calls.specs.Opening.{OpeningValue, bench_files, entries_in}
use Rattle.run_acts.specs.Benches.{BenchState}
use Rattle.run_acts.specs.MountedDevices.{objects_in}
use Rattle.freshness_laws.specs.Agreement.{MapsAgree}
use Rattle.freshness_laws.specs.Readings.{ReadTree}
use Rattle.freshness_laws.specs.SeenStores.{DirectoryClash, SeenStore, StoreClash, map_seen}
use Rattle.freshness_laws.specs.Pictures.{IsReadIn, IsReadOrNone, IsSeenIn}

-- the bench as its files read
abbrev pub picture_read : BenchState → CardState → Picture
picture_read bench card = record { images = reads_of bench.files; card = card }

-- the store that a bench holds, as its files read
pub record ClosedStore (keys : Keys) (closed : BenchState) (card : CardState) : Type 0 where
  pub seen : SeenStore keys (block_zero card)
  pub held : IsSeenIn (reads_of closed.files) seen

-- the tree, and the ciphertext of each of its blocks, were seen in the file, each at a moment since which no call wrote there
pub record SeesRead {root : RootRef} (old new : FileState) (read : ReadTree root) : Type 0 where
  pub table : SeesTree old new root read.tree
  pub blocks : (k : ℕ) → k < length (read.tree).nodes → SeesBlock old new read.tree k (read.block k)

module _ {F R : Type 0} (of_file : F → FileState) (of_port : R → PortState) where
  -- The directory is what its file reads as; or, where that cannot be followed, what it was seen to read: its tree is the gate's.
  abbrev pub IsDirectoryOf : {keys : Keys} {block : List ℕ} → (dir : FileState) → OpeningValue F R → SeenStore keys block → Type 0
  IsDirectoryOf dir o seen =
      IsReadIn (bench_files of_file o directory_file).reads seen.root seen.dir
      ⊎ ((Told dir (bench_files of_file o directory_file) → ⊥) × ((seen.dir).tree ≡ o.gate.dir.dir.tree) × SeesRead dir (bench_files of_file o directory_file) seen.dir)

  -- What a mount read: its directory, and of each file what it then reads as. `dir` is the directory's file before the mount.
  pub record MountSees (keys : Keys) (block : List ℕ) (dir : FileState) (o : OpeningValue F R) : Type 0 where
    pub seen : SeenStore keys block
    pub directory : IsDirectoryOf dir o seen
    pub entries : seen.entries ≡ entries_in o
    pub trees : (e : DirEntry) → IsReadOrNone (bench_files of_file o e.file).reads (root_of e) (seen.trees e)
    pub objects_are : objects_in of_file of_port keys o ≡ map_seen seen

  -- it clashes with the bench that was closed
  pub record MountClash (keys : Keys) (closed : BenchState) (card : CardState) (dir : FileState) (o : OpeningValue F R) : Type 0 where
    pub before : ClosedStore keys closed card
    pub sees : MountSees keys (block_zero card) dir o
    pub clash : StoreClash before.seen sees.seen

  -- at the directory
  pub record MountedDirectoryClash (keys : Keys) (closed : BenchState) (card : CardState) (dir : FileState) (o : OpeningValue F R) : Type 0 where
    pub before : ClosedStore keys closed card
    pub sees : MountSees keys (block_zero card) dir o
    pub clash : DirectoryClash before.seen sees.seen

  -- The mount has the names and sizes of what the closed bench mounts to, where it does, and each part that is good in both is equal.
  abbrev pub IsFreshMount : Keys → (closed : BenchState) → (card : CardState) → (dir : FileState) → OpeningValue F R → Type 0
  IsFreshMount keys closed card dir o =
      (objects : ObjectMap) → mounted keys (picture_read closed card) ≡ Ok objects → MapsAgree objects (objects_in of_file of_port keys o) ⊎ MountClash keys closed card dir o

  -- And its directory's entries.
  abbrev pub HasSameEntries : Keys → (closed : BenchState) → (card : CardState) → (dir : FileState) → OpeningValue F R → Type 0
  HasSameEntries keys closed card dir o =
      (entries : List (Option DirEntry)) → mounted_directory keys (picture_read closed card) ≡ Ok entries → (entries_in o ≡ entries) ⊎ MountedDirectoryClash keys closed card dir o
