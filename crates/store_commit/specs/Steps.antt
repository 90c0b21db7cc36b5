-- A commit as steps of the core machine, of the part that a gate stands for: writes of the directory's file, each off what the committed
-- reference selects, a sync, the seal; or a drop in place of the seal. The condition of the seal on the object, and the event that is
-- appended, are the caller's.
use Rattle.std.specs.Prelude.{◌≡◌, ◌⊎◌, [], Ok, IsTrue}
use Rattle.disk_model.specs.State.{FileState, pending}
use Rattle.disk_model.specs.Calls.{Syncs}
use Rattle.disk_model.specs.Keeps.{Keeps}
use Rattle.node_image.specs.declared.node.RootRef.{RootRef}
use Rattle.htree_file.specs.Selected.{Lies}
use Rattle.rpmb_card.specs.Card.{CardState}
use Rattle.rpmb_host.specs.Honest.{HasCard}
use Rattle.crash_core.specs.CardBlock.{IsReference}
use Rattle.crash_core.specs.Directory.{directory_of}
use Rattle.crash_core.specs.declared.change.EntryChange.{EntryChange}
use Rattle.crash_core.specs.EntryChanges.{changed}
use Rattle.store_commit.specs.declared.change.CommitEnd.{CommitEnd}
use Rattle.store_commit.specs.declared.change.CommitEnd.TheVariants.{Made, Dropped, Doubtful, Spent}
use Rattle.store_commit.specs.CardEnds.{IsSealedCard}
use Rattle.store_commit.specs.Sides.{Sides}

-- The directory is ready for the seal: its file was written off the committed parts, then synced, and under the new reference it reads as
-- the entries with the change.
pub record IsReady (old new : Sides) (change : EntryChange) (root : RootRef) : Type 0 where
  pub form : IsReference root
  pub format : root.format ≡ old.dir.root.format
  pub mid : FileState
  pub writes : Keeps (Lies old.dir.tree.layout old.dir.tree.nodes old.dir.root.version) old.file mid
  pub syncs : Syncs mid new.file
  pub settled : pending new.file ≡ []
  pub holds : IsTrue new.file.honest → directory_of old.dir.tsk new.file.reads root ≡ Ok (changed old.dir.entries change)

-- the seal, of any card that has the key and the counter
abbrev pub Seals : (old new : Sides) → RootRef → Type 0
Seals old new root = (card : CardState) → HasCard old.port old.key card → IsSealedCard new.port new.key card root

-- no seal
abbrev pub LeavesCard : (old new : Sides) → Type 0
LeavesCard old new = (card : CardState) → HasCard old.port old.key card → HasCard new.port new.key card

-- A seal, or none: which of both, nobody was told.
abbrev pub MaySeal : (old new : Sides) → RootRef → Type 0
MaySeal old new root = (card : CardState) → HasCard old.port old.key card → HasCard new.port new.key card ⊎ IsSealedCard new.port new.key card root

abbrev pub Steps : (old new : Sides) → EntryChange → CommitEnd → Type 0
Steps old new change (Made n) = IsReady old new change new.dir.root × Seals old new new.dir.root
Steps old new change (Dropped cause) = Keeps (Lies old.dir.tree.layout old.dir.tree.nodes old.dir.root.version) old.file new.file × LeavesCard old new
Steps old new change (Doubtful n cause) = (root : RootRef) × IsReady old new change root × MaySeal old new root
Steps old new change Spent = new ≡ old
