-- What mounting a gate answers, of the directory's file and the card.
use Rattle.std.specs.Prelude.{◌≡◌, ℕ, List, [], Ok, Err}
use Rattle.disk_model.specs.Faults.{Rose}
use Rattle.disk_model.specs.State.{FileState, pending}
use Rattle.disk_model.specs.Calls.{Known}
use Rattle.disk_model.specs.Keeps.{Anywhere, Keeps}
use Rattle.node_image.specs.declared.node.RootRef.{RootRef}
use Rattle.htree_file.specs.Answers.{FileFailed}
use Rattle.htree_file.specs.Making.{IsSynced}
use Rattle.htree_file.specs.Opening.{IsVerified}
use Rattle.htree_file.specs.Standing.{Told}
use Rattle.htree_file.specs.declared.fault.TreeFault.TheVariants.{Failed as FileFault, NoMemory as NoRoom}
use Rattle.hmac_keys.specs.declared.Keys.{Keys}
use Rattle.hmac_keys.specs.KeyTable.{rpmb_key}
use Rattle.rpmb_card.specs.Card.{CardState}
use Rattle.rpmb_card.specs.Port.{PortState}
use Rattle.rpmb_host.specs.Honest.{HasCard}
use Rattle.rpmb_host.specs.declared.fault.HostFault.{HostFault}
use Rattle.rpmb_host.specs.declared.fault.HostFault.TheVariants.{Failed as NoAnswer, BadFrame, CardResult as RefusedBy, Spent as IsSpent}
use Rattle.tee_types.specs.Limits.{old_directory_file}
use Rattle.tee_types.specs.declared.reply.Cause.TheVariants.{Fault}
use Rattle.tee_types.specs.declared.reply.Device.TheVariants.{Dir, Card, Entropy}
use Rattle.crash_core.specs.declared.fault.DirFault.{DirFault}
use Rattle.crash_core.specs.declared.fault.DirFault.TheVariants.{Tree}
use Rattle.crash_core.specs.Refusal.{Refusal, NoStore as BlankBlock, CardBlock as BadBlock, NoDirectory}
use Rattle.crash_core.specs.CardBlock.{old_format, root_in}
use Rattle.crash_core.specs.DeviceKeys.{directory_key}
use Rattle.crash_core.specs.Mounting.{mounted_directory}
use Rattle.crash_core.specs.Pictures.{block_zero}
use Rattle.store_commit.specs.declared.fault.MountFault.{MountFault}
use Rattle.store_commit.specs.declared.fault.MountFault.TheVariants.{NoStore, CardBlock, Directory, Frame, CardResult, Failed, Spent, NoMemory, OldFormat}
use Rattle.store_commit.specs.Blocks.{HasOldRoot, picture_of}
use Rattle.store_commit.specs.Leaving.{KeepsPort, LeavesNoMore}
use Rattle.store_commit.specs.Reads.{IsCardRead, IsReadRefused, IsRootRead}
use Rattle.dir_file.specs.Loading.{IsDirFault, IsOutsideDir, SeesDirectory}
use Rattle.dir_file.specs.Refusals.{DirDiffers}
use Rattle.store_commit.specs.Sides.{EachPicture, IsSettled, Sides}

-- no card that has the key is told
abbrev pub NoCardOf : PortState → (key : List ℕ) → Type 0
NoCardOf port key = (card : CardState) → HasCard port key card → ⊥

-- what a fault of the host is for a mount; it is never that the counter is spent
abbrev pub host_answer : HostFault → MountFault
host_answer (NoAnswer count) = Failed (Fault Card count)
host_answer (BadFrame fault) = Frame fault
host_answer (RefusedBy result) = CardResult result
host_answer IsSpent = Spent

-- what a fault of the directory is
abbrev pub directory_answer : DirFault → MountFault
directory_answer (Tree (FileFault count)) = Failed (Fault Dir count)
directory_answer (Tree NoRoom) = NoMemory
directory_answer fault = Directory fault

-- the card's part of a refusal: a count rose, or no card with the key is told
abbrev pub CardRefused : (old new : PortState) → (key : List ℕ) → (drew draws : ℕ) → MountFault → Type 0
CardRefused old new key drew draws (Failed (Fault Card count)) = Rose old.faults new.faults × (count ≡ new.faults)
CardRefused old new key drew draws (Failed (Fault Entropy count)) = Rose drew draws × (count ≡ draws)
CardRefused old new key drew draws (Frame fault) = NoCardOf old key
CardRefused old new key drew draws (CardResult result) = NoCardOf old key
CardRefused old new key drew draws fault = ⊥

-- what a card tells: its counter and block 0
pub record Tells (card : CardState) (counter : ℕ) (block : List ℕ) : Type 0 where
  pub counted : card.counter ≡ counter
  pub stands : block_zero card ≡ block

-- Why a store is not mounted. Block 0 and the directory are refused as they are defined to be, over a card that has the key.
abbrev pub MountRefused : (old new : FileState) → (p0 p1 : PortState) → Keys → (drew draws : ℕ) → MountFault → Type 0
MountRefused old new p0 p1 keys drew draws NoStore = (card : CardState) → HasCard p0 (rpmb_key keys.huk) card → root_in (block_zero card) ≡ Err BlankBlock
MountRefused old new p0 p1 keys drew draws (CardBlock offset) = (card : CardState) → HasCard p0 (rpmb_key keys.huk) card → root_in (block_zero card) ≡ Err (BadBlock offset)
MountRefused old new p0 p1 keys drew draws (Directory fault) =
    (card : CardState) → HasCard p0 (rpmb_key keys.huk) card → Told old new → mounted_directory keys (picture_of new.reads card) ≡ Err (NoDirectory fault)
MountRefused old new p0 p1 keys drew draws (Failed (Fault Dir count)) = FileFailed old new count
MountRefused old new p0 p1 keys drew draws NoMemory = Unit {0}
MountRefused old new p0 p1 keys drew draws (Failed (Fault Card count)) = Rose p0.faults p1.faults × (count ≡ p1.faults)
MountRefused old new p0 p1 keys drew draws (Failed (Fault Entropy count)) = Rose drew draws × (count ≡ draws)
MountRefused old new p0 p1 keys drew draws (Frame fault) = NoCardOf p0 (rpmb_key keys.huk)
MountRefused old new p0 p1 keys drew draws (CardResult result) = NoCardOf p0 (rpmb_key keys.huk)
MountRefused old new p0 p1 keys drew draws (OldFormat file) = (file ≡ old_directory_file) × ((card : CardState) → HasCard p0 (rpmb_key keys.huk) card → HasOldRoot (block_zero card))
MountRefused old new p0 p1 keys drew draws fault = ⊥

-- a directory that is refused is none of the old format
abbrev pub IsOfCurrentFormat : PortState → Keys → MountFault → Type 0
IsOfCurrentFormat p0 keys (Directory fault) = (card : CardState) → HasCard p0 (rpmb_key keys.huk) card → HasOldRoot (block_zero card) → ⊥
IsOfCurrentFormat p0 keys fault = Unit {0}

-- A directory that is refused differs, whatever its file is: under the reference that a card with the key names.
pub record DiffersThere (file : FileState) (p0 : PortState) (keys : Keys) (fault : DirFault) : Type 0 where
  pub root : RootRef
  pub named : (card : CardState) → HasCard p0 (rpmb_key keys.huk) card → root_in (block_zero card) ≡ Ok root
  pub differs : DirDiffers (directory_key keys) file root fault

abbrev pub MountDiffers : FileState → PortState → Keys → MountFault → Type 0
MountDiffers file p0 keys (Directory fault) = DiffersThere file p0 keys fault
MountDiffers file p0 keys fault = Unit {0}

-- What was heard of the card where a mount is refused, whatever the card is: the frame that was refused, or block 0 and why it is.
pub record IsBlockRefused (key : List ℕ) (p0 p1 : PortState) (refusal : Refusal) : Type 0 where
  pub counter : ℕ
  pub block : List ℕ
  pub read : IsCardRead key p0 p1 counter block
  pub refused : root_in block ≡ Err refusal

-- block 0 named a reference
pub record HasRootRead (key : List ℕ) (p0 p1 : PortState) : Type 0 where
  pub counter : ℕ
  pub root : RootRef
  pub read : IsRootRead key p0 p1 counter root

-- and it is of that format
pub record HasFormatRead (key : List ℕ) (p0 p1 : PortState) (wanted : ℕ) : Type 0 where
  pub counter : ℕ
  pub root : RootRef
  pub read : IsRootRead key p0 p1 counter root
  pub format : root.format ≡ wanted

-- or the directory of that reference is refused, by what the file reads as or by what a tree holds that is verified under it
pub record IsDirectoryRefused (file : FileState) (p0 p1 : PortState) (keys : Keys) (fault : DirFault) : Type 0 where
  pub counter : ℕ
  pub root : RootRef
  pub read : IsRootRead (rpmb_key keys.huk) p0 p1 counter root
  pub differs : DirDiffers (directory_key keys) file root fault

abbrev pub MountHeard : FileState → (p0 p1 : PortState) → Keys → MountFault → Type 0
MountHeard file p0 p1 keys NoStore = IsBlockRefused (rpmb_key keys.huk) p0 p1 BlankBlock
MountHeard file p0 p1 keys (CardBlock offset) = IsBlockRefused (rpmb_key keys.huk) p0 p1 (BadBlock offset)
MountHeard file p0 p1 keys (Directory fault) = IsDirectoryRefused file p0 p1 keys fault
MountHeard file p0 p1 keys (Frame fault) = IsReadRefused (rpmb_key keys.huk) p0 p1 (BadFrame fault)
MountHeard file p0 p1 keys (CardResult result) = IsReadRefused (rpmb_key keys.huk) p0 p1 (RefusedBy result)
MountHeard file p0 p1 keys (Failed (Fault Card count)) = IsReadRefused (rpmb_key keys.huk) p0 p1 (NoAnswer count)
MountHeard file p0 p1 keys (Failed (Fault Dir count)) = HasRootRead (rpmb_key keys.huk) p0 p1
MountHeard file p0 p1 keys (Failed cause) = Unit {0}
MountHeard file p0 p1 keys Spent = ⊥
MountHeard file p0 p1 keys (OldFormat n) = (n ≡ old_directory_file) × HasFormatRead (rpmb_key keys.huk) p0 p1 old_format
MountHeard file p0 p1 keys NoMemory = HasRootRead (rpmb_key keys.huk) p0 p1

-- Where a device failed or memory ran out, that is told, and never a fault of the directory.
abbrev pub TellsFailure : MountFault → Type 0
TellsFailure (Directory fault) = IsDirFault fault × (IsOutsideDir fault → ⊥)
TellsFailure fault = Unit {0}

-- What stands after a mount, refused or not: the card is as it was, and the calls of the directory's file were reads and at most one sync.
pub record LeavesDevices (old new : FileState) (p0 p1 : PortState) : Type 0 where
  pub keeps : Keeps Anywhere old new
  pub reads : Known old new → new.reads ≡ old.reads
  pub left : LeavesNoMore old new
  pub card : p1.card ≡ p0.card
  pub port : KeepsPort p0 p1

-- A gate that was mounted: its keys are the device's, and its directory the one that the card names, in every picture.
pub record OpensGate (old : FileState) (p0 : PortState) (keys : Keys) (g : Sides) : Type 0 where
  pub devices : LeavesDevices old g.file p0 g.port
  pub tsk_is : g.dir.tsk ≡ directory_key keys
  pub key_is : g.key ≡ rpmb_key keys.huk
  pub settled : IsSettled g
  pub synced : IsSynced g.file
  -- of any file
  pub unwritten : pending g.file ≡ []
  -- what was heard of the card, whatever it is
  pub heard : IsRootRead (rpmb_key keys.huk) p0 g.port g.counter g.dir.root
  pub verified : IsVerified g.dir.root g.dir.tree
  -- of any file: its tree, and pages that the tree's nodes seal and that have the entries, are what the file was seen to read
  pub seen : SeesDirectory old g.file (directory_key keys) g.dir.root g.dir.tree (Ok g.dir.entries)
  pub directory : Told old g.file → (card : CardState) → HasCard p0 (rpmb_key keys.huk) card → mounted_directory keys (picture_of g.file.reads card) ≡ Ok g.dir.entries
  pub pictures : EachPicture g (λ m. m ≡ Ok g.dir.entries)
