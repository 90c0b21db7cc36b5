-- What moving the directory into its file of the current format does.
use Rattle.std.specs.Prelude.{◌≡◌, ◌≢◌, ◌⊎◌, ◌==◌, ◌≤◌, ℕ, List, [], Bool, true, false, Ok, Result, Err}
use Rattle.disk_model.specs.Faults.{Rose}
use Rattle.disk_model.specs.State.{FileState, pending}
use Rattle.disk_model.specs.Calls.{Known}
use Rattle.disk_model.specs.Keeps.{Keeps}
use Rattle.htree_file.specs.Answers.{FileFailed, FilePassed}
use Rattle.htree_file.specs.Copies.{CopyOpens, moved_root}
use Rattle.htree_file.specs.Making.{Nowhere}
use Rattle.htree_file.specs.Standing.{Told}
use Rattle.node_image.specs.declared.node.RootRef.{RootRef}
use Rattle.node_image.specs.References.{current_format}
use Rattle.hmac_keys.specs.declared.Keys.{Keys}
use Rattle.hmac_keys.specs.KeyTable.{rpmb_key}
use Rattle.tee_types.specs.Limits.{directory_file}
use Rattle.rpmb_card.specs.Protocol.{last_counter}
use Rattle.rpmb_card.specs.Card.{CardState}
use Rattle.rpmb_card.specs.Port.{PortState}
use Rattle.rpmb_host.specs.Honest.{HadCard, HasCard}
use Rattle.crash_core.specs.Refusal.{NoStore as BlankBlock, CardBlock as BadBlock}
use Rattle.crash_core.specs.CardBlock.{IsReference, directory_at, old_format, root_in}
use Rattle.crash_core.specs.Mounting.{mounted_directory}
use Rattle.crash_core.specs.Pictures.{block_zero}
use Rattle.tee_types.specs.declared.reply.Cause.{Cause}
use Rattle.tee_types.specs.declared.reply.Cause.TheVariants.{Fault, Frame as FrameCause, CardResult as ResultCause}
use Rattle.tee_types.specs.declared.reply.Device.TheVariants.{Dir, Card, Entropy}
use Rattle.store_commit.specs.declared.fault.MountFault.{MountFault}
use Rattle.store_commit.specs.declared.fault.MountFault.TheVariants.{CardBlock, CardResult, Failed, Frame, NoStore, Spent}
use Rattle.store_commit.specs.Causes.{NoCard}
use Rattle.store_commit.specs.CardEnds.{IsSealedCard}
use Rattle.store_commit.specs.Mounts.{CardRefused}
use Rattle.store_commit.specs.Sides.{Names}
use Rattle.store_commit.specs.DirectoryLooks.{HasDirectory, HasNoDirectory, Looks}
use Rattle.object_calls.specs.Migrated.{store_of}

-- The old file was only looked at, and the new one written: none of its places is kept.
pub record CopiesBetween (old_from old_to new_from new_to : FileState) : Type 0 where
  pub old_looks : Looks old_from old_to
  pub new_run : Keeps Nowhere new_from new_to

-- The old file has a directory, and the new one a settled copy of it.
pub record CopiesDirectory (keys : Keys) (old_from old_to new_from new_to : FileState) (root : RootRef) : Type 0 where
  pub between : CopiesBetween old_from old_to new_from new_to
  pub has : HasDirectory keys old_from old_to root
  pub settled : pending new_to ≡ []
  pub opens : Told old_from old_to → Known new_from new_to → CopyOpens old_to.reads new_to.reads root current_format
  pub old_passed : FilePassed old_from old_to
  pub new_passed : FilePassed new_from new_to

-- why it could not be copied: the old file has none, or a call of one of the two failed
abbrev pub DirectoryNotCopied : Keys → (old_from old_to new_from new_to : FileState) → RootRef → MountFault → Type 0
DirectoryNotCopied keys old_from old_to new_from new_to root (Failed (Fault Dir count)) = FileFailed old_from old_to count ⊎ FileFailed new_from new_to count
DirectoryNotCopied keys old_from old_to new_from new_to root fault = HasNoDirectory keys old_from old_to root fault

-- what a write of block 0 leaves of the card: the reference stands there, or it may
abbrev pub NamesDirectory : (new : PortState) → (key : List ℕ) → CardState → RootRef → {A : Type 0} → Result A MountFault → Type 0
NamesDirectory new key card root (Ok done) = IsSealedCard new key card root
NamesDirectory new key card root (Err fault) = HasCard new key card ⊎ IsSealedCard new key card root

-- what the fault of a write is that was not confirmed
abbrev pub cause_answer : Cause → MountFault
cause_answer (Fault device count) = Failed (Fault device count)
cause_answer (FrameCause fault) = Frame fault
cause_answer (ResultCause result) = CardResult result

-- why that write is not confirmed: an exchange failed, or no card is there that has the key and that counter
abbrev pub NotNamed : (key : List ℕ) → (counter : ℕ) → (p0 p1 : PortState) → MountFault → Type 0
NotNamed key counter p0 p1 (Failed (Fault Card count)) = Rose p0.faults p1.faults × (count ≡ p1.faults)
NotNamed key counter p0 p1 (Frame fault) = NoCard p0 key counter
NotNamed key counter p0 p1 (CardResult result) = NoCard p0 key counter
NotNamed key counter p0 p1 fault = ⊥

-- The directory was copied, and a card of that counter names the copy.
pub record MovesFiles (keys : Keys) (old_from old_to new_from new_to : FileState) (key : List ℕ) (p0 p1 : PortState) (counter : ℕ) (root : RootRef) : Type 0 where
  pub unspent : counter ≢ last_counter
  pub copies : CopiesDirectory keys old_from old_to new_from new_to root
  pub sealed : (card : CardState) → HasCard p0 key card → card.counter ≡ counter → IsSealedCard p1 key card (moved_root root current_format)
  -- a card that has the key now had it before
  pub was : (card : CardState) → HasCard p1 key card → HadCard p0 key
  pub counted : p0.faults ≤ p1.faults

-- what is left of the card where the move was given up: it is as it was, or it names the copy, which then is settled
abbrev pub LeavesNamed : (keys : Keys) → (old_from old_to new_from new_to : FileState) → (key : List ℕ) → (p1 : PortState) → CardState → RootRef → Type 0
LeavesNamed keys old_from old_to new_from new_to key p1 card root =
    HasCard p1 key card ⊎ (CopiesDirectory keys old_from old_to new_from new_to root × IsSealedCard p1 key card (moved_root root current_format))

-- why it was given up; the card is not called before the directory is copied
abbrev pub FilesNotMoved : Keys → (old_from old_to new_from new_to : FileState) → (key : List ℕ) → (p0 p1 : PortState) → (drew draws counter : ℕ) → RootRef → MountFault → Type 0
FilesNotMoved keys old_from old_to new_from new_to key p0 p1 drew draws counter root Spent = (p1 ≡ p0) × (counter ≡ last_counter)
FilesNotMoved keys old_from old_to new_from new_to key p0 p1 drew draws counter root (Failed (Fault Entropy count)) = Rose drew draws × (count ≡ draws)
FilesNotMoved keys old_from old_to new_from new_to key p0 p1 drew draws counter root (Failed (Fault Card count)) = Rose p0.faults p1.faults × (count ≡ p1.faults)
FilesNotMoved keys old_from old_to new_from new_to key p0 p1 drew draws counter root (Frame fault) = NoCard p0 key counter
FilesNotMoved keys old_from old_to new_from new_to key p0 p1 drew draws counter root (CardResult result) = NoCard p0 key counter
FilesNotMoved keys old_from old_to new_from new_to key p0 p1 drew draws counter root fault = (p1 ≡ p0) × DirectoryNotCopied keys old_from old_to new_from new_to root fault

pub record StopsFiles (keys : Keys) (old_from old_to new_from new_to : FileState) (key : List ℕ) (p0 p1 : PortState) (drew draws counter : ℕ) (root : RootRef) (fault : MountFault) : Type 0 where
  pub between : CopiesBetween old_from old_to new_from new_to
  pub left : (card : CardState) → HasCard p0 key card → card.counter ≡ counter → LeavesNamed keys old_from old_to new_from new_to key p1 card root
  pub refused : FilesNotMoved keys old_from old_to new_from new_to key p0 p1 drew draws counter root fault

-- why no reference was read: what block 0 is instead, or what the card's answers are
abbrev pub RootRefused : (key : List ℕ) → (p0 p1 : PortState) → (drew draws : ℕ) → MountFault → Type 0
RootRefused key p0 p1 drew draws NoStore = (card : CardState) → HasCard p0 key card → root_in (block_zero card) ≡ Err BlankBlock
RootRefused key p0 p1 drew draws (CardBlock offset) = (card : CardState) → HasCard p0 key card → root_in (block_zero card) ≡ Err (BadBlock offset)
RootRefused key p0 p1 drew draws fault = CardRefused p0 p1 key drew draws fault

-- The card named a directory. It is of the current format, and nothing was called but the card, which was read; or it was moved.
module _ (keys : Keys) (old_from old_to new_from new_to : FileState) (key : List ℕ) (p0 p1 : PortState) where
  pub record SettlesFormat (moved : Bool) : Type 0 where
    pub root : RootRef
    pub counter : ℕ
    pub between : PortState
    pub form : IsReference root
    pub reads : between.card ≡ p0.card
    pub passed : between.faults ≡ p0.faults
    pub named : (card : CardState) → HasCard p0 key card → Names card root counter
    pub moved_is : moved ≡ (root.format == old_format)
    pub stays : moved ≡ false → (old_to ≡ old_from) × (new_to ≡ new_from) × (p1 ≡ between)
    pub moves : moved ≡ true → MovesFiles keys old_from old_to new_from new_to key between p1 counter root

  -- No reference was read, and no file was called; or the directory that it names, of the old format, was not moved.
  pub data StopsFormat (drew draws : ℕ) (fault : MountFault) : Type 0 where
    unread : old_to ≡ old_from → new_to ≡ new_from → p1.card ≡ p0.card → RootRefused key p0 p1 drew draws fault → StopsFormat drew draws fault
    unmoved : (root : RootRef) (counter : ℕ) (between : PortState) → IsReference root → root.format ≡ old_format → between.card ≡ p0.card → between.faults ≡ p0.faults
        → ((card : CardState) → HasCard p0 key card → Names card root counter)
        → StopsFiles keys old_from old_to new_from new_to key between p1 drew draws counter root fault → StopsFormat drew draws fault

-- The card named a directory, whose entries the bench still has; now it names one of the current format.
pub record HasMovedDirectory (old new : ℕ → FileState) (keys : Keys) (before after : CardState) (moved : Bool) : Type 0 where
  pub root : RootRef
  pub next : RootRef
  pub named : root_in (block_zero before) ≡ Ok root
  pub names : root_in (block_zero after) ≡ Ok next
  pub moved_is : moved ≡ (root.format == old_format)
  pub current : next.format ≡ current_format
  pub same : Told (old (directory_at root.format)) (new (directory_at root.format))
      → Told (old directory_file) (new directory_file)
      → mounted_directory keys (store_of new after) ≡ mounted_directory keys (store_of old before)

abbrev pub MovesDirectory : (old new : ℕ → FileState) → (p0 p1 : PortState) → Keys → (moved : Bool) → Type 0
MovesDirectory old new p0 p1 keys moved =
    (before after : CardState) → HasCard p0 (rpmb_key keys.huk) before → HasCard p1 (rpmb_key keys.huk) after → HasMovedDirectory old new keys before after moved

-- a card that has the key names a directory of the current format
abbrev pub NamesCurrent : PortState → Keys → Type 0
NamesCurrent port keys = (card : CardState) → HasCard port (rpmb_key keys.huk) card → (root : RootRef) × (root_in (block_zero card) ≡ Ok root) × (root.format ≡ current_format)
