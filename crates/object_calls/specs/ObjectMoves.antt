-- What moving objects into files of the current format does.
use Rattle.std.specs.Prelude.{◌≡◌, ◌≢◌, ◌<◌, ◌≤◌, ◌+◌, ◌-◌, nat_lt, if◌then◌else◌, ℕ, List, [], Option, Some, None, Result, Ok, Err}
use Rattle.std.specs.List.{count_by}
use Rattle.disk_model.specs.State.{FileState, pending}
use Rattle.disk_model.specs.Calls.{GoesOn, Known, Rests}
use Rattle.disk_model.specs.Keeps.{Keeps}
use Rattle.htree_file.specs.Answers.{FilePassed}
use Rattle.htree_file.specs.Copies.{CopyOpens}
use Rattle.htree_file.specs.Making.{Nowhere}
use Rattle.htree_file.specs.Standing.{Told}
use Rattle.node_image.specs.References.{current_format}
use Rattle.hmac_keys.specs.declared.Keys.{Keys}
use Rattle.rpmb_card.specs.Protocol.{last_counter}
use Rattle.rpmb_card.specs.Card.{CardState}
use Rattle.rpmb_card.specs.Port.{PortState}
use Rattle.rpmb_host.specs.Honest.{HadCard, HasCard}
use Rattle.dir_records.specs.declared.entry.DirEntry.{DirEntry}
use Rattle.tee_types.specs.declared.reply.Cause.TheVariants.{Fault}
use Rattle.tee_types.specs.declared.reply.Device.TheVariants.{File}
use Rattle.crash_core.specs.MountedObject.{root_of}
use Rattle.crash_core.specs.DeviceKeys.{directory_key}
use Rattle.crash_core.specs.declared.change.EntryChange.TheVariants.{Put}
use Rattle.crash_core.specs.EntryChanges.{changed}
use Rattle.crash_core.specs.EntryLists.{entry_at}
use Rattle.crash_core.specs.Migration.{DeviceStates, Migrates}
use Rattle.crash_core.specs.MigrationLaws.{moved_entry}
use Rattle.store_commit.specs.declared.change.CommitEnd.{CommitEnd}
use Rattle.store_commit.specs.declared.change.CommitEnd.TheVariants.{Made, Dropped, Doubtful, Spent as SpentEnd}
use Rattle.store_commit.specs.Causes.{Counted, DeviceCause}
use Rattle.store_commit.specs.Mounts.{NoCardOf}
use Rattle.store_commit.specs.Gates.{GateValue, gate_sides}
use Rattle.store_commit.specs.Holds.{IsLeastFreeFile, file_held}
use Rattle.store_commit.specs.Sides.{IsSettled}
use Rattle.store_commit.specs.declared.fault.MountFault.{MountFault}
use Rattle.store_commit.specs.declared.fault.MountFault.TheVariants.{CardBlock, CardResult, Failed, Frame, NoMemory, OldFormat, Spent}
use Rattle.object_calls.specs.OpeningFiles.{numbered_files, object_files}
use Rattle.object_calls.specs.DirectoryMoves.{cause_answer}
use Rattle.object_calls.specs.MigrationRefusals.{CopyFailed}
use Rattle.object_calls.specs.MovedEntries.{MovesEntries, is_old}

-- The object's file was only read, the other one written, and no third was called.
pub record CopiesBetweenFiles (old new : ℕ → FileState) (from to : ℕ) : Type 0 where
  pub reads : Rests (old from) (new from)
  pub writes : Keeps Nowhere (old to) (new to)
  pub others : (file : ℕ) → file ≢ from → file ≢ to → new file ≡ old file

-- The other file has a settled copy of the object's tree, in the current format.
pub record CopiesObject (old new : ℕ → FileState) (e : DirEntry) (to : ℕ) : Type 0 where
  pub between : CopiesBetweenFiles old new e.file to
  pub settled : pending (new to) ≡ []
  pub opens : Told (old e.file) (new e.file) → Known (old to) (new to) → CopyOpens (new e.file).reads (new to).reads (root_of e) current_format
  pub passed : (file : ℕ) → FilePassed (old file) (new file)

-- the copy was given up: a call of one of the two files failed
abbrev pub ObjectNotCopied : (old new : ℕ → FileState) → DirEntry → MountFault → Type 0
ObjectNotCopied old new e (Failed (Fault (File file) count)) = (file ≡ e.file) × CopyFailed old new file count
ObjectNotCopied old new e fault = ⊥

abbrev pub CopyAnswer : (old new : ℕ → FileState) → DirEntry → (to : ℕ) → {A : Type 0} → Result A MountFault → Type 0
CopyAnswer old new e to (Ok done) = CopiesObject old new e to
CopyAnswer old new e to (Err fault) = CopiesBetweenFiles old new e.file to × ObjectNotCopied old new e fault

-- the devices of a gate, with the spare file, those of objects and that card
abbrev pub devices_at : {F R : Type 0} → (F → FileState) → (spare : F) → GateValue F R → (objects : List F) → CardState → DeviceStates
devices_at state spare g objects card = record { files = numbered_files state spare g.dir.file objects; card = card }

-- The port still tells a card that has the key, and from one moment to the other each keeps the maps.
pub record KeepsGateMaps {F R : Type 0} (state : F → FileState) (port : R → PortState) (spare : F) (g0 g1 : GateValue F R) (old new : List F) (keys : Keys) (card : CardState) : Type 0 where
  pub after : CardState
  pub has : HasCard (port g1.host.port) g1.host.key after
  pub migrates : Migrates keys (devices_at state spare g0 old card) (devices_at state spare g1 new after)

-- It is so over a card that has the gate's key, whichever file is spare.
abbrev pub MigratesGate : {F R : Type 0} → (F → FileState) → (R → PortState) → (g0 g1 : GateValue F R) → (old new : List F) → Type 0
MigratesGate {F = F} state port g0 g1 old new =
    (spare : F) (keys : Keys) (card : CardState) → directory_key keys ≡ g0.dir.dir.tsk → HasCard (port g0.host.port) g0.host.key card
    → KeepsGateMaps state port spare g0 g1 old new keys card

-- The keys are the same, what is known of each file goes on, and the port tells a card that has the key if it told one.
pub record GateGoesOn {F R : Type 0} (state : F → FileState) (port : R → PortState) (g0 g1 : GateValue F R) (old new : List F) : Type 0 where
  pub tsk : g1.dir.dir.tsk ≡ g0.dir.dir.tsk
  pub key : g1.host.key ≡ g0.host.key
  pub dir : GoesOn (state g0.dir.file) (state g1.dir.file)
  pub files : (file : ℕ) → GoesOn (object_files state old file) (object_files state new file)
  pub card : HadCard (port g0.host.port) g0.host.key → HadCard (port g1.host.port) g1.host.key

-- no count rose but the card's
pub record GatePassed {F R : Type 0} (state : F → FileState) (port : R → PortState) (g0 g1 : GateValue F R) (old new : List F) : Type 0 where
  pub dir : FilePassed (state g0.dir.file) (state g1.dir.file)
  pub files : (file : ℕ) → FilePassed (object_files state old file) (object_files state new file)
  pub card : (port g0.host.port).faults ≤ (port g1.host.port).faults

-- No commit is in doubt, the card names the committed directory, in a file of the current format, and no session holds a file.
pub record MayMove {F R : Type 0} (state : F → FileState) (port : R → PortState) (g : GateValue F R) : Type 0 where
  pub idle : g.doubt ≡ None
  pub settled : IsSettled (gate_sides state port g)
  pub format : g.dir.dir.root.format ≡ current_format
  pub unheld : (session : ℕ) → file_held g.holds session ≡ None

-- The entry names a file of the current format, the least that was free, and else it is as it was; the card was written once.
pub record MovesObject {F R : Type 0} (state : F → FileState) (port : R → PortState) (g0 g1 : GateValue F R) (index : ℕ) (e : DirEntry) : Type 0 where
  pub file : ℕ
  pub free : IsLeastFreeFile g0.dir.dir.entries [] file
  pub entries : g1.dir.dir.entries ≡ changed g0.dir.dir.entries (Put index (moved_entry e file current_format))
  pub counted : g1.counter ≡ g0.counter + 1
  pub may : MayMove state port g1

-- why an object was not moved
abbrev pub ObjectNotMoved : (files0 files1 : ℕ → FileState) → (old new : Counted) → (key : List ℕ) → MountFault → Type 0
ObjectNotMoved files0 files1 old new key (Failed (Fault (File file) count)) = CopyFailed files0 files1 file count
ObjectNotMoved files0 files1 old new key (Failed (Fault device count)) = DeviceCause old new device count
ObjectNotMoved files0 files1 old new key (Frame fault) = NoCardOf old.port key
ObjectNotMoved files0 files1 old new key (CardResult result) = NoCardOf old.port key
ObjectNotMoved files0 files1 old new key Spent = Unit {0}
ObjectNotMoved files0 files1 old new key NoMemory = Unit {0}
ObjectNotMoved files0 files1 old new key fault = ⊥

-- The counter is at its end, and an entry is left whose file is of the old format.
pub record IsLeftToMove {F R : Type 0} (state : F → FileState) (port : R → PortState) (g : GateValue F R) : Type 0 where
  pub may : MayMove state port g
  pub spent : g.counter ≡ last_counter
  pub index : ℕ
  pub entry : DirEntry
  pub at : entry_at g.dir.dir.entries index ≡ Some entry
  pub old : entry.format ≢ current_format

-- what the end of a commit is for a move, if it was not made
abbrev pub end_fault : CommitEnd → Option MountFault
end_fault (Made n) = None
end_fault (Dropped cause) = Some (cause_answer cause)
end_fault (Doubtful n cause) = Some (cause_answer cause)
end_fault SpentEnd = Some Spent

-- what a refusal of the gate's mount is here: a directory of the old format is not the one that the card named before
abbrev pub mount_answer : MountFault → MountFault
mount_answer (OldFormat file) = CardBlock 0
mount_answer fault = fault

-- the place of a file among those of objects, where another is taken out
abbrev pub place_beside : (file taken : ℕ) → ℕ
place_beside file taken = if nat_lt file taken then file - 1 else file - 2

-- All entries were moved that were of the old format, each by one write of the card.
pub record MovesEach {F R : Type 0} (state : F → FileState) (port : R → PortState) (g0 g1 : GateValue F R) (moved : ℕ) : Type 0 where
  pub entries : MovesEntries g0.dir.dir.entries g1.dir.dir.entries 256 moved
  pub counted : g1.counter ≡ g0.counter + moved
  pub may : MayMove state port g1

-- The move of an object was given up, and why.
pub record StopsMoving {F R : Type 0} (state : F → FileState) (port : R → PortState) (files0 files1 : ℕ → FileState) (old new : Counted) (g0 g1 : GateValue F R) (fault : MountFault) : Type 0 where
  pub why : ObjectNotMoved files0 files1 old new g0.host.key fault
  pub left : fault ≡ Spent → IsLeftToMove state port g1
  -- and then the counter did not suffice for all of them
  pub short : fault ≡ Spent → last_counter < g0.counter + count_by is_old g0.dir.dir.entries
